use Rattle.std.proofs.Common.{ℕ, List, ◌++◌, take, sym, ap, ◌∙◌}
use Rattle.std.proofs.lemmas.List.{append-nil, take_all}
use Rattle.lparse_reader.proofs.lemmas.Pieces.TokenLemmas.{line_ends, line_none, line_goes_on}
use Rattle.lparse_reader.proofs.lemmas.Pieces.TokenLemmas.{after_line_here}
use Rattle.lparse_reader.proofs.lemmas.Pieces.TokenLemmas.{after_line_none, after_line_goes_on}
use Rattle.lparse_reader.proofs.symbol_text.line_split.Goals as goal

pub returns-then-byte-eq10-clause-line : goal.returns-then-byte-eq10-clause-line
returns-then-byte-eq10-clause-line c =
    let bytes = c.args.bytes.now in
    c.split_at.ensures.front ∙ sym (append-nil (take c.loop-at.at bytes))
    ∙ ap (λ (line : List ℕ). take c.loop-at.at bytes ++ line)
    (sym (line_ends bytes c.loop-at.at c.loop-at-test.true c.if-byte-eq10.true))
    ∙ sym c.loop-at.invariant.line

pub returns-then-byte-eq10-clause-rest : goal.returns-then-byte-eq10-clause-rest
returns-then-byte-eq10-clause-rest c =
    c.split_at.ensures.back
    ∙ sym
    (after_line_here c.args.bytes.now c.loop-at.at c.loop-at-test.true c.if-byte-eq10.true)
    ∙ c.loop-at.invariant.rest

pub loop-at-preserved : goal.loop-at-preserved
loop-at-preserved c =
    let bytes = c.args.bytes.now in
    record {
      line =
          c.loop-at.invariant.line
          ∙ line_goes_on bytes c.loop-at.at c.loop-at-test.true c.if-byte-eq10.false;
      rest =
          sym (after_line_goes_on bytes c.loop-at.at c.loop-at-test.true c.if-byte-eq10.false)
          ∙ c.loop-at.invariant.rest;
    }

pub returns-clause-line : goal.returns-clause-line
returns-clause-line c =
    let bytes = c.args.bytes.now in
    sym (take_all c.loop-at.at bytes c.loop-at-test.false)
    ∙ sym (append-nil (take c.loop-at.at bytes))
    ∙ ap (λ (line : List ℕ). take c.loop-at.at bytes ++ line)
    (sym (line_none bytes c.loop-at.at c.loop-at-test.false))
    ∙ sym c.loop-at.invariant.line

pub returns-clause-rest : goal.returns-clause-rest
returns-clause-rest c =
    sym (after_line_none c.args.bytes.now c.loop-at.at c.loop-at-test.false)
    ∙ c.loop-at.invariant.rest
