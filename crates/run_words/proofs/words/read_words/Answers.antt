use Rattle.std.proofs.Common.{refl, map, string_bytes}
use Rattle.run_words.proofs.OrderLemmas.{no_order, not_taken, in_range}
use Rattle.run_words.proofs.words.read_words.Goals as goal

pub returns-in_err-chosen-clause-not_taken : goal.returns-in_err-chosen-clause-not_taken
returns-in_err-chosen-clause-not_taken c =
    not_taken c.from_residual-in_err-chosen.result (map string_bytes c.args.words.now)
    (no_order string_bytes c.args.words.now c.in_err-chosen.ensures)

pub returns-clause-in_range : goal.returns-clause-in_range
returns-clause-in_range c =
    in_range _ c.in_ok-chosen.chosen _ c.in_ok-chosen.ensures c.unwrap_or.ensures
    c.unwrap_or-2.ensures c.unwrap_or-3.ensures refl refl
