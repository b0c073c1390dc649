use Rattle.std.proofs.Common.{◌≤◌}
use Rattle.std.proofs.lemmas.List.Sorted.{All-permutation}
use Rattle.master_record.specs.declared.own.OwnTest.{OwnTest}
use Rattle.master_record.proofs.OwnLemmas.{own_tests}
use Rattle.master_record.proofs.own.open_tests.Goals as goal

pub gathered-requires-clause-numbered : goal.gathered-requires-clause-numbered
gathered-requires-clause-numbered c =
    All-permutation (λ (one : OwnTest). 1 ≤ one.cand) c.args.own.items c.sorted_tests-own.result.items
    c.sorted_tests-own.ensures.permutation c.requires.numbered

pub returns : goal.returns
returns c =
    own_tests c.args.candidates.pair c.args.own.items c.sorted_tests-own.result.items c.gathered.result
    c.sorted_tests-own.ensures.permutation c.sorted_tests-own.ensures.ascending c.gathered.ensures
