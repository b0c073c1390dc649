use Rattle.std.proofs.Common.{◌∙◌, ap, subst, sym, arith, false}
use Rattle.std.proofs.lemmas.List.Elements.{All-contains_itself, All-nil}
use Rattle.clause_store.specs.Clause.{AreOver, Meets}
use Rattle.clause_store.specs.Laws.{AreMoreClauses}
use Rattle.normal_program.specs.Clauses.{base_clauses}
use Rattle.normal_program.specs.Normal.{greatest_body_var}
use Rattle.short_clauses.specs.Shareable.{IsShareable}
use Rattle.coherence_test.specs.AnswerSets.{ExtendsAnswerSet}
use Rattle.coherence_test.specs.Sharing.{AreShareable}
use Rattle.coherence_test.specs.Testing.{IsKept}
use Rattle.coherence_test.proofs.SoundLemmas.{base_meets, open_sound}
use Rattle.coherence_test.proofs.tester.Tester.over.Goals as goal

pub open-requires-2-clause-over : goal.open-requires-2-clause-over
open-requires-2-clause-over c k d within k' d' within' =
    let normal = c.args.normal.now in
    let over =
    subst (AreOver (greatest_body_var normal)) (sym c.requires.completed)
    (c.base_clauses_are_over_atoms_and_bodies.ensures normal c.requires.normal) in
    let at = over k d within k' d' within' in
    let last = at.last in
    let vars = c.variables-vars.ensures in
    record { first = at.first; last = omega (arith, last, vars) }

pub open-requires-2-clause-holds : goal.open-requires-2-clause-holds
open-requires-2-clause-holds c values model =
    let normal = c.args.normal.now in
    subst (Meets values) (sym c.requires.completed)
    (base_meets normal values
    (c.base_clauses_are_over_atoms_and_bodies.ensures normal c.requires.normal)
    (c.base_clauses_are_entailed.ensures normal c.requires.normal)
    (subst (λ theory. ExtendsAnswerSet theory.normal values) c.in_ok-theory.ensures model))

pub open-requires-2-clause-needs : goal.open-requires-2-clause-needs
open-requires-2-clause-needs c =
    let base = base_clauses c.args.normal.now in
    subst (λ theory. AreMoreClauses (base_clauses theory.normal) c.args.store)
    (sym c.in_ok-theory.ensures)
    (subst (AreMoreClauses base) (sym c.requires.completed) (All-contains_itself base))

pub invariant_of-result : goal.invariant_of-result
invariant_of-result c =
    let normal = c.args.normal.now in
    let engine = c.in_ok-engine.engine in
    let opened = c.in_ok-engine.ensures in (
      subst (λ disjunctions. IsKept normal engine disjunctions false) (sym c.open-3.ensures)
          (record {
            is_normal = c.requires.normal;
            few = omega arith;
            sound =
                λ alive.
                open_sound normal engine
                (ap (λ it. it.normal) opened.theory ∙ ap (λ it. it.normal) c.in_ok-theory.ensures)
                opened.right opened.alive
                (ap (λ it. it.vars) opened.trail ∙ c.variables-vars.ensures) opened.defined
                (opened.store ∙ c.requires.completed)
                (c.base_clauses_are_over_atoms_and_bodies.ensures normal c.requires.normal);
          }),
      subst (AreShareable normal) (sym c.new.ensures.items) (All-nil (IsShareable normal)),
    )
