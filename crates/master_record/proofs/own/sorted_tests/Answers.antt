use Rattle.std.proofs.Common.{rules}
use Rattle.std.proofs.lemmas.List.Sorted.{IsNonDecreasingBy-from_sort_by_key}
use Rattle.master_record.specs.declared.own.OwnTest.{OwnTest}
use Rattle.master_record.proofs.OwnLemmas.{distinct_permutation, ascending_from}
use Rattle.master_record.proofs.own.sorted_tests.Goals as goal

pub returns-clause-ascending : goal.returns-clause-ascending
returns-clause-ascending c =
    ascending_from c.sort_unstable_by_key.new.self.items
    (IsNonDecreasingBy-from_sort_by_key (λ (one : OwnTest). one.cand) _
    c.sort_unstable_by_key.ensures.sorted (λ a r q k. search rules))
    (distinct_permutation c.args.own.items c.sort_unstable_by_key.new.self.items
    c.sort_unstable_by_key.ensures.permutation c.requires.distinct)
