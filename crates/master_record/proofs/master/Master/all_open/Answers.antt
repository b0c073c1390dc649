use Rattle.std.proofs.Common.{◌≡◌, length, take, subst, ◌∙◌}
use Rattle.master_record.specs.Books.{open_list}
use Rattle.master_record.proofs.OpenListLemmas.{take_count}
use Rattle.master_record.proofs.master.Master.all_open.Goals as goal

pub returns : goal.returns
returns c =
    subst (λ n. c.in_ok-cands.cands ≡ take n (open_list c.args.self.now))
    c.candidate_count.ensures.count c.in_ok-cands.ensures
    ∙ take_count c.args.self.now.pair (length c.args.self.now.normal.names)
