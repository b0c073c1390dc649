use Rattle.std.proofs.Common.{◌≡◌, ◌<◌, ◌∙◌, List, take_all, subst, sym, arith}
use Rattle.std.specs.Prelude.{All}
use Rattle.clause_store.specs.declared.literal.Value.TheVariants.{Unset}
use Rattle.clause_store.specs.Trail.{value_of}
use Rattle.weight_propagator.specs.declared.row.Term.{Term}
use Rattle.weight_propagator.specs.Rows.{IsDescending}
use Rattle.weight_propagator.proofs.OrderLemmas.{light_behind}
use Rattle.weight_propagator.proofs.row.Row.unset_of.Goals as goal

pub returns-then-term-least-clause-none : goal.returns-then-term-least-clause-none
returns-then-term-least-clause-none c =
    let none : Term = record { lit = record { 0 = 0 }; weight = 0 } in
    subst
    (λ (terms : List Term). All (λ (term : Term).
    value_of c.args.trail.now.steps term.lit ≡ Unset → term.weight < c.args.least) terms)
    c.as_slice-term-items.ensures
    (light_behind c.args.trail.now.steps c.as_slice-term-items.result.now c.args.least
    c.loop-term.term-index none
    (subst IsDescending (sym c.as_slice-term-items.ensures) c.requires.descending)
    c.loop-term-test.true (omega (arith, c.if-term-least.true)) c.loop-term.invariant)

pub returns-clause-none : goal.returns-clause-none
returns-clause-none c =
    subst
    (λ (terms : List Term). All (λ (term : Term).
    value_of c.args.trail.now.steps term.lit ≡ Unset → term.weight < c.args.least) terms)
    (take_all c.loop-term.term-index c.as_slice-term-items.result.now c.loop-term-test.false
    ∙ c.as_slice-term-items.ensures)
    c.loop-term.invariant
