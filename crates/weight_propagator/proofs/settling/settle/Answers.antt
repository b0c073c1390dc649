use Rattle.std.proofs.Common.{◌≢◌, ◌∙◌, List, refl}
use Rattle.clause_store.specs.declared.literal.Lit.{Lit}
use Rattle.clause_store.specs.declared.theory_says.Says.{Says}
use Rattle.clause_store.specs.declared.theory_says.Says.TheVariants.{Quiet, Clause as Given}
use Rattle.clause_store.specs.Trail.{Assigned}
use Rattle.weight_propagator.specs.declared.row.Row.{Row}
use Rattle.weight_propagator.specs.Rows.{RowGives, IsLooked}
use Rattle.weight_propagator.proofs.FollowLemmas.{sum_yes, sum_open, missed_fits, settled_one}
use Rattle.weight_propagator.proofs.FollowLemmas.{none_gives}
use Rattle.weight_propagator.proofs.settling.settle.Goals as goal

pub sums-sums-requires-clause-fits : goal.sums-sums-requires-clause-fits
sums-sums-requires-clause-fits c =
    missed_fits c.args.rows.now c.args.trail.now.steps c.loop-number.tally
    c.loop-number.invariant c.in-Some.number c.index-rows-number.result c.in-Some.ensures.some
    c.index-rows-number.is c.args.trail.now.vars c.requires.sound

pub look-requires-clause-yes : goal.look-requires-clause-yes
look-requires-clause-yes c =
    c.sums-sums.ensures.yes
    ∙ sum_yes c.args.rows.now c.args.trail.now.steps c.loop-number.tally
    c.loop-number.invariant c.in-Some.number c.index-rows-number.result c.in-Some.ensures.some
    c.index-rows-number.is

pub look-requires-clause-possible : goal.look-requires-clause-possible
look-requires-clause-possible c =
    c.sums-sums.ensures.possible
    ∙ sum_open c.args.rows.now c.args.trail.now.steps c.loop-number.tally
    c.loop-number.invariant c.in-Some.number c.index-rows-number.result c.in-Some.ensures.some
    c.index-rows-number.is c.args.trail.now.vars c.requires.sound

not_given : (row : Row) (trail : Assigned) (clause : List Lit) (says : Says) → says ≢ Given
    → IsLooked row trail clause says → ¬ RowGives trail.steps row
not_given row trail clause Quiet other is = is
not_given row trail clause Given other is = absurd (other refl)

pub loop-number-preserved : goal.loop-number-preserved
loop-number-preserved c =
    settled_one c.args.rows.now c.args.trail.now.steps c.loop-number.tally
    c.loop-number.invariant c.in-Some.number c.index-rows-number.result c.in-Some.ensures.some
    c.index-rows-number.is (record c.loop-number.tally { waiting = c.settle.new.self }) refl refl
    c.settle.ensures.waits
    (not_given c.index-rows-number.result c.args.trail.now c.look.new.out c.in_ok-look.field-0
    (λ e. c.in_default-2.not-Clause e) c.in_ok-look.ensures)

pub returns-clause-settled : goal.returns-clause-settled
returns-clause-settled c =
    none_gives c.args.rows.now c.args.trail.now.steps c.loop-number.tally
    c.loop-number.invariant c.in_default.ensures.none
