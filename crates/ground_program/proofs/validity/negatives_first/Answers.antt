use Rattle.std.proofs.Common.{◌∙◌, refl, sym, subst, true≢false}
use Rattle.std.proofs.lemmas.List.{take_all}
use Rattle.ground_program.specs.Program.{NegativesFirst}
use Rattle.ground_program.proofs.ValidityLemmas.{front-negative, order-more, flag-more, some_part}
use Rattle.ground_program.proofs.validity.negatives_first.Goals as goal
use Rattle.ground_program.proofs.validity.negatives_first.Goals.{
  else-part-via-then-part+else-not-all_negated,
}
use Rattle.ground_program.proofs.validity.negatives_first.Goals.{else-part-via-else-part}

pub returns-then-not-all_negated : goal.returns-then-not-all_negated
returns-then-not-all_negated c = (
  λ never. absurd (true≢false (sym never)),
  λ order.
      let front =
      front-negative c.args.body.now c.loop-part.part-index some_part c.loop-part-test.true
      order c.if-part.true in
      absurd (true≢false (sym (c.loop-part.invariant.1.1 front) ∙ c.if-not-all_negated.true)),
)

pub loop-part-preserved : goal.loop-part-preserved
loop-part-preserved c =
    elim c.else-part.branch [
      | else-part-via-then-part+else-not-all_negated w ↦ (
        order-more c.args.body.now c.loop-part.part-index some_part c.loop-part-test.true
            c.loop-part.invariant.0
            (λ negative. c.loop-part.invariant.1.0 w.if-not-all_negated.false),
        flag-more c.args.body.now c.loop-part.part-index some_part c.loop-part-test.true
            (λ negative. c.loop-part.invariant.1.0 w.if-not-all_negated.false),
      )
      | else-part-via-else-part w ↦ (
        order-more c.args.body.now c.loop-part.part-index some_part c.loop-part-test.true
            c.loop-part.invariant.0
            (λ negative. absurd (true≢false (sym negative ∙ w.if-part.false))),
        flag-more c.args.body.now c.loop-part.part-index some_part c.loop-part-test.true
            (λ negative. absurd (true≢false (sym negative ∙ w.if-part.false))),
      )
    ]

pub returns : goal.returns
returns c = (
  λ _. subst NegativesFirst (take_all _ c.args.body.now c.loop-part-test.false)
      c.loop-part.invariant.0,
  λ _. refl,
)
