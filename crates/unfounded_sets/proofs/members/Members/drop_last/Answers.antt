use Rattle.std.proofs.Common.{◌∙◌, ◌-◌, ap, take}
use Rattle.unfounded_sets.proofs.MemberLemmas.{last_of, members_without}
use Rattle.unfounded_sets.proofs.members.Members.drop_last.Goals as goal

pub invariant_of-self-in-Some : goal.invariant_of-self-in-Some
invariant_of-self-in-Some c =
    rw (
      c.pop.ensures.rest
          ∙ ap (λ n. take (n - 1) c.self.inside.list.items) c.self.inside.list.ok.0,
      c.pop.ensures.capacity,
    )
    (members_without c.self.inside.marks.items c.self.inside.list.items _ c.self.invariant
    c.in-Some.number
    (last_of c.self.inside.list.items c.pop.new.self.items c.in-Some.number
    c.in-Some.ensures.items))
