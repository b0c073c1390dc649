use Rattle.std.proofs.Common.{◌≡◌, ◌∙◌, ◌++◌, ap, subst, sym}
use Rattle.std.proofs.lemmas.List.Elements.{All-contains_itself}
use Rattle.clause_store.specs.Clause.{Meets}
use Rattle.clause_store.specs.Laws.{AreMoreClauses}
use Rattle.normal_program.specs.Clauses.{base_clauses}
use Rattle.normal_program.specs.Models.{IsModelOf}
use Rattle.kept_minimality.proofs.FreeLemmas.{base_meets}
use Rattle.kept_minimality.proofs.asking.open_engine.Goals as goal

pub open-requires-2-clause-holds : goal.open-requires-2-clause-holds
open-requires-2-clause-holds c values model =
    let pair = c.args.pair in
    subst (Meets values) (sym (c.in_ok-complete.ensures.added ∙ ap (λ all. all ++ base_clauses pair)
    c.open-store.ensures))
    (base_meets c.args.normal.now pair c.requires values
    (c.base_clauses_are_over_atoms_and_bodies.ensures pair c.requires.is_normal)
    (c.base_clauses_are_entailed.ensures pair c.requires.is_normal)
    (subst (λ theory. IsModelOf theory.pair values) c.in_ok-theory.ensures model))

pub open-requires-2-clause-needs : goal.open-requires-2-clause-needs
open-requires-2-clause-needs c =
    let base = base_clauses c.args.pair in
    let store : c.complete.new.store ≡ base =
    c.in_ok-complete.ensures.added ∙ ap (λ all. all ++ base) c.open-store.ensures in
    subst (λ theory. AreMoreClauses (base_clauses theory.pair) c.complete.new.store)
    (sym c.in_ok-theory.ensures)
    (subst (AreMoreClauses base) (sym store) (All-contains_itself base))
