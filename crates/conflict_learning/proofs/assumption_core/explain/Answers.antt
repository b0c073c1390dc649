use Rattle.std.proofs.Common.{◌≡◌, ◌+◌, ◌-◌, ◌<◌, ◌≤◌, ℕ, List, Some, length, get_or, sym, subst}
use Rattle.std.proofs.Common.{arith}
use Rattle.std.specs.Prelude.{slice_get}
use Rattle.clause_store.specs.declared.step.Step.{Step}
use Rattle.conflict_learning.specs.Cells.{Explains}
use Rattle.conflict_learning.proofs.AssignedLemmas.{blank}
use Rattle.conflict_learning.proofs.CoreLemmas as lemma
use Rattle.conflict_learning.proofs.assumption_core.explain.Goals as goal

-- the assignment of the cell
there : (all steps : List Step) (last at : ℕ) → all ≡ steps → last < length steps → 1 ≤ at
    → slice_get steps (last + 1 - at) ≡ Some (get_or all (last + 1 - at) blank)
there all steps last at same within first =
    lemma.read_there all steps (last + 1 - at) same (omega (arith, within, first))

pub lits-requires : goal.lits-requires
lits-requires c =
    lemma.reason_named c.args.store.now c.args.trail.now.steps (c.args.last + 1 - c.args.at)
    (get_or c.steps-steps.result.now (c.args.last + 1 - c.args.at) blank) c.in-Some.why
    c.requires.of_store
    (there c.steps-steps.result.now c.args.trail.now.steps c.args.last c.args.at
    c.steps-steps.ensures.steps c.requires.within c.requires.first) c.in-Some.is

pub mark_all-requires-clause-markable : goal.mark_all-requires-clause-markable
mark_all-requires-clause-markable c =
    lemma.lits_markable c.args.store.now c.args.trail.now c.args.last c.args.at
    (get_or c.steps-steps.result.now (c.args.last + 1 - c.args.at) blank) c.in-Some.why
    c.lits.result.now
    c.steps-steps.ensures.trail c.requires.of_store c.requires.first
    (there c.steps-steps.result.now c.args.trail.now.steps c.args.last c.args.at
    c.steps-steps.ensures.steps c.requires.within c.requires.first) c.in-Some.is
    c.lits.ensures.lits

pub returns-in-None : goal.returns-in-None
returns-in-None c =
    lemma.explains_none c.args.store.now c.args.trail.now.steps c.args.last c.args.at
    (get_or c.steps-steps.result.now (c.args.last + 1 - c.args.at) blank) c.args.core.now
    c.requires.cells
    (there c.steps-steps.result.now c.args.trail.now.steps c.args.last c.args.at
    c.steps-steps.ensures.steps c.requires.within c.requires.first) c.in-None.is

pub returns-in-Some : goal.returns-in-Some
returns-in-Some c =
    subst (Explains c.args.store.now c.args.trail.now.steps c.args.last c.args.at c.args.core.now)
    (sym c.set.ensures)
    (lemma.explains_reason c.args.store.now c.args.trail.now c.args.last c.args.at
    (get_or c.steps-steps.result.now (c.args.last + 1 - c.args.at) blank) c.in-Some.why
    c.lits.result.now
    c.args.core.now c.mark_all.new.core c.steps-steps.ensures.trail c.requires.of_store
    c.requires.cells c.requires.first c.requires.here
    (there c.steps-steps.result.now c.args.trail.now.steps c.args.last c.args.at
    c.steps-steps.ensures.steps c.requires.within c.requires.first) c.in-Some.is
    c.lits.ensures.lits c.mark_all.ensures)
