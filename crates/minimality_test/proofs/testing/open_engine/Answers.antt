use Rattle.std.proofs.Common.{◌≡◌, ◌++◌, sym, ap, ◌∙◌, subst}
use Rattle.std.proofs.lemmas.List.Elements.{All-contains_itself}
use Rattle.clause_store.specs.Clause.{Meets}
use Rattle.clause_store.specs.Laws.{AreMoreClauses}
use Rattle.normal_program.specs.Spent.{inner_clauses}
use Rattle.minimality_test.specs.Parts.{IsPartModel, PartsOf}
use Rattle.minimality_test.proofs.testing.open_engine.Goals as goal

pub open-requires-2-clause-holds : goal.open-requires-2-clause-holds
open-requires-2-clause-holds c values model =
    let inner = inner_clauses c.args.normal.now c.args.set.now in
    let store : c.complete_within.new.store ≡ inner =
    c.in_ok-complete_within.ensures.added ∙ ap (λ clauses. clauses ++ inner) c.open-store.ensures in
    let part =
    subst (λ (theory : PartsOf). IsPartModel theory.normal theory.set values)
    c.in_ok-theory.ensures model in
    subst (Meets values) (sym store) part.met.clauses

pub open-requires-2-clause-needs : goal.open-requires-2-clause-needs
open-requires-2-clause-needs c =
    let inner = inner_clauses c.args.normal.now c.args.set.now in
    let store : c.complete_within.new.store ≡ inner =
    c.in_ok-complete_within.ensures.added ∙ ap (λ clauses. clauses ++ inner) c.open-store.ensures in
    subst
    (λ (theory : PartsOf). AreMoreClauses (inner_clauses theory.normal theory.set)
    c.complete_within.new.store) (sym c.in_ok-theory.ensures)
    (subst (AreMoreClauses inner) (sym store) (All-contains_itself inner))
