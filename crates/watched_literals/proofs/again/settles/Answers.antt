use Rattle.std.proofs.Common.{◌∙◌, ap, inl, inr, sym}
use Rattle.clause_store.specs.Trail.{level_of}
use Rattle.watched_literals.proofs.QuietLemmas.{settled_by, settled_open}
use Rattle.watched_literals.proofs.again.settles.Goals as goal

pub returns-in-Some : goal.returns-in-Some
returns-in-Some c =
    λ yes. settled_by c.args.trail.now c.args.lit c.args.other c.in-Some.level c.requires.is_trail
    (sym (c.level_of.ensures ∙ ap (level_of c.args.trail.now.steps) c.var.ensures) ∙ c.in-Some.is)
    (c.is_true_by.ensures yes)

pub returns-in-Yes : goal.returns-in-Yes
returns-in-Yes c =
    λ yes. settled_open c.args.trail.now c.args.lit c.args.other c.requires.is_trail
    (λ is_no. elim c.in-Yes.is [
      | inl is ↦ let e = sym is ∙ c.value.ensures ∙ is_no in cc
      | inr is ↦ let e = sym is ∙ c.value.ensures ∙ is_no in cc
    ])
