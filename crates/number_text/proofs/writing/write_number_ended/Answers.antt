use Rattle.std.proofs.Common.{rules}
use Rattle.number_text.proofs.NumberLemmas.{few_digits}
use Rattle.number_text.proofs.writing.write_number_ended.Goals as goal

pub write_digits-start-requires : goal.write_digits-start-requires
write_digits-start-requires g c = search (rules, few_digits)
