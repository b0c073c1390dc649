use Rattle.std.proofs.Common.{map, string_bytes, take}
use Rattle.run_words.specs.Words.{AreOptions}
use Rattle.run_words.proofs.chosen.read_options.Given as goal

abbrev pub invariant-loop-word : goal.invariant-loop-word
invariant-loop-word l = AreOptions (take l.word-index (map string_bytes l.words)) l.chosen
