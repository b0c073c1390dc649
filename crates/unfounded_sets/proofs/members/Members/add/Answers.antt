use Rattle.std.proofs.Common.{◌<◌, ◌∙◌, length, sym, subst, arith}
use Rattle.unfounded_sets.specs.Members.{Marked}
use Rattle.unfounded_sets.proofs.MemberLemmas.{members_with}
use Rattle.unfounded_sets.proofs.StackLemmas.{stack_room}
use Rattle.unfounded_sets.proofs.members.Members.add.Goals as goal

pub push_reserved-requires : goal.push_reserved-requires
push_reserved-requires c =
    omega (
      arith,
      c.self.inside.list.ok.0,
      stack_room c.self.inside.marks.items c.self.inside.list.items _ c.self.invariant.stack
          c.args.number c.index.result.now
          (subst (λ (it : Marked). c.args.number < length it.marks) (sym c.self.view_is)
          c.requires)
          (sym c.index.ensures ∙ c.if-not-index.true),
    )

pub invariant_of-self : goal.invariant_of-self
invariant_of-self c =
    rw (c.push_reserved.ensures.items, c.push_reserved.ensures.capacity)
    (members_with c.self.inside.marks.items c.self.inside.list.items _ c.self.invariant
    c.args.number c.index.result.now
    (subst (λ (it : Marked). c.args.number < length it.marks) (sym c.self.view_is) c.requires)
    (sym c.index.ensures ∙ c.if-not-index.true))
