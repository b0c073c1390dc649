use Rattle.std.proofs.Common.{◌≡◌, ◌<◌, ℕ, get_or, length}
use Rattle.watched_literals.specs.Chains.{none}
use Rattle.watched_literals.proofs.chains.empty.Given as goal

abbrev pub invariant-loop-code : goal.invariant-loop-code
invariant-loop-code l = record {
  count : length l.heads.items ≡ length l.initial.heads.items;
  empty : (code : ℕ) → code < l.code → get_or l.heads.items code none ≡ none;
}
