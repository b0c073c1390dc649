use Rattle.std.proofs.Common.{◌≡◌, true, false, Some, None, decimal, arith, ap, sym, ◌∙◌}
use Rattle.std.specs.Result.{result_ok}
use Rattle.run_words.proofs.ChoiceLemmas.{none_answer, parsed_so}
use Rattle.run_words.proofs.choice.read_number.Goals as goal

pub returns-in_err-number : goal.returns-in_err-number
returns-in_err-number c =
    none_answer _ _ c.from_residual.result c.from_residual.ensures
    (λ number is same.
    let some : result_ok c.parse.result ≡ Some number =
    parsed_so c.args.text.now c.parse.result c.args.most number c.ranges.most.fits is same
    c.parse.ensures.value.0 in
    let none : None ≡ result_ok c.parse.result = c.in_err-number.ensures.value in
    absurd cc)

pub returns-then-not-is_decimal : goal.returns-then-not-is_decimal
returns-then-not-is_decimal c number is same =
    let value : Some c.in_ok-number.number ≡ Some number =
    c.in_ok-number.ensures.value
    ∙ parsed_so c.args.text.now c.parse.result c.args.most number c.ranges.most.fits is same
    c.parse.ensures.value.0 in
    let own : c.in_ok-number.number ≡ number = cc in
    let wrong : false ≡ true = c.if-not-is_decimal.ensures.1 (same ∙ ap decimal (sym own)) in
    absurd cc

pub returns-else-number-ge1 : goal.returns-else-number-ge1
returns-else-number-ge1 c number is same =
    let value : Some c.in_ok-number.number ≡ Some number =
    c.in_ok-number.ensures.value
    ∙ parsed_so c.args.text.now c.parse.result c.args.most number c.ranges.most.fits is same
    c.parse.ensures.value.0 in
    let own : c.in_ok-number.number ≡ number = cc in
    elim c.else-number-ge1.branch [
      | goal.else-number-ge1-via-then-number-ge1+else-number-most w ↦
          absurd (omega (arith, w.if-number-most.false, own, is.1))
      | goal.else-number-ge1-via-else-number-ge1 w ↦
          absurd (omega (arith, w.if-number-ge1.false, own, is.0))
    ]
