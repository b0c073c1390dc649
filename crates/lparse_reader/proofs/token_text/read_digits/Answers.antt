use Rattle.std.proofs.Common.{ℕ, List, Ok, sym, ap, ◌∙◌, length}
use Rattle.lparse_reader.proofs.lemmas.Pieces.TokenLemmas.{slice_from, digits_end, digits_none}
use Rattle.lparse_reader.proofs.lemmas.Pieces.TokenLemmas.{digits_wrong}
use Rattle.lparse_reader.proofs.lemmas.Pieces.TokenLemmas.{digits_large, digits_go_on}
use Rattle.lparse_reader.proofs.token_text.read_digits.Goals as goal

pub returns-then-is_between : goal.returns-then-is_between
returns-then-is_between c =
    let here = c.args.here.now in
    sym c.loop-at.invariant.so_far
    ∙ digits_end (length here) c.loop-at.number here c.loop-at.at c.loop-at-test.true
    (sym c.is_between.ensures ∙ c.if-is_between.true)
    ∙ ap (λ (rest : List ℕ). Ok (c.loop-at.number, rest)) (sym (slice_from here c.loop-at.at))

pub returns-then-not-is_ascii_digit : goal.returns-then-not-is_ascii_digit
returns-then-not-is_ascii_digit c =
    let here = c.args.here.now in
    rw c.fault_here.ensures (sym c.loop-at.invariant.so_far
    ∙ digits_wrong (length here) c.loop-at.number here c.loop-at.at c.loop-at-test.true
    (sym c.is_between.ensures ∙ c.if-is_between.false)
    (sym c.is_ascii_digit.ensures.value ∙ c.if-not-is_ascii_digit.true))

pub returns-then-number-gt-GREATEST : goal.returns-then-number-gt-GREATEST
returns-then-number-gt-GREATEST c =
    let here = c.args.here.now in
    rw c.fault_here-then-number-gt-GREATEST.ensures (sym c.loop-at.invariant.so_far
    ∙ digits_large (length here) c.loop-at.number here c.loop-at.at c.loop-at-test.true
    (sym c.is_between.ensures ∙ c.if-is_between.false)
    (sym c.is_ascii_digit.ensures.value ∙ c.if-not-is_ascii_digit.false)
    c.if-number-gt-GREATEST.true)

pub loop-at-preserved : goal.loop-at-preserved
loop-at-preserved c =
    let here = c.args.here.now in
    record {
      small = c.if-number-gt-GREATEST.false;
      so_far =
          sym (digits_go_on (length here) c.loop-at.number here c.loop-at.at c.loop-at-test.true
          (sym c.is_between.ensures ∙ c.if-is_between.false)
          (sym c.is_ascii_digit.ensures.value ∙ c.if-not-is_ascii_digit.false)
          c.if-number-gt-GREATEST.false)
          ∙ c.loop-at.invariant.so_far;
    }

pub returns : goal.returns
returns c =
    let here = c.args.here.now in
    sym c.loop-at.invariant.so_far
    ∙ digits_none (length here) c.loop-at.number here c.loop-at.at c.loop-at-test.false
