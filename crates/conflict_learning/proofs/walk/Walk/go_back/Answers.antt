use Rattle.std.proofs.Common.{◌∙◌, ◌-◌, ◌≤◌, sym, ap, refl, arith, length, get_or}
use Rattle.conflict_learning.specs.Marks.{is_open}
use Rattle.conflict_learning.proofs.AssignedLemmas.{blank}
use Rattle.conflict_learning.proofs.WalkLemmas as lemma
use Rattle.conflict_learning.proofs.walk.Walk.go_back.Goals as goal

pub loop-self-preserved : goal.loop-self-preserved
loop-self-preserved c =
    let left =
    lemma.some_left c.args.trail.now c.args.self.now c.loop-self.self c.loop-self.invariant
    c.requires.some in
    let within : c.loop-self.self.at ≤ length c.args.trail.now.steps =
    omega (arith, c.loop-self.invariant.within, c.requires.under_way.within) in
    lemma.search_passes c.args.trail.now c.args.self.now c.loop-self.self _
    (get_or c.steps-steps.result.now (c.loop-self.self.at - 1) blank) c.loop-self.invariant
    (lemma.last_read c.args.trail.now c.loop-self.self c.steps-steps.result.now blank
    (get_or c.steps-steps.result.now (c.loop-self.self.at - 1) blank)
    c.steps-steps.ensures.steps left within refl)
    (ap (λ ms. is_open ms c.loop-self.self.level
    (get_or c.steps-steps.result.now (c.loop-self.self.at - 1) blank))
    (sym c.deref.ensures.value) ∙ sym c.is_open.ensures ∙ c.loop-self-test.true)
    refl refl refl refl refl

pub returns : goal.returns
returns c =
    let left =
    lemma.some_left c.args.trail.now c.args.self.now c.loop-self.self c.loop-self.invariant
    c.requires.some in
    let within : c.loop-self.self.at ≤ length c.args.trail.now.steps =
    omega (arith, c.loop-self.invariant.within, c.requires.under_way.within) in
    lemma.search_ends c.args.trail.now c.args.self.now c.loop-self.self _
    (get_or c.steps-steps.result.now (c.loop-self.self.at - 1) blank) c.requires.under_way
    c.loop-self.invariant left
    (lemma.last_read c.args.trail.now c.loop-self.self c.steps-steps.result.now blank
    (get_or c.steps-steps.result.now (c.loop-self.self.at - 1) blank)
    c.steps-steps.ensures.steps left within refl)
    (ap (λ ms. is_open ms c.loop-self.self.level
    (get_or c.steps-steps.result.now (c.loop-self.self.at - 1) blank))
    (sym c.deref.ensures.value) ∙ sym c.is_open.ensures ∙ c.loop-self-test.false)
    refl refl refl refl refl
