use Rattle.std.proofs.Common.{◌∙◌, sym, refl, arith}
use Rattle.conflict_learning.proofs.WalkLemmas as lemma
use Rattle.conflict_learning.proofs.walk.Walk.note.Goals as goal

pub has_noted-requires-clause-over : goal.has_noted-requires-clause-over
has_noted-requires-clause-over c =
    lemma.note_over c.args.trail.now c.args.self.now c.args.lit c.requires.under_way
    c.requires.is_false

pub returns-then-has_noted : goal.returns-then-has_noted
returns-then-has_noted c =
    lemma.notes_nothing c.args.trail.now c.args.self.now c.args.lit c.requires.under_way
    (c.if-has_noted.ensures.0 refl)

pub level_at-requires : goal.level_at-requires
level_at-requires c =
    lemma.note_over c.args.trail.now c.args.self.now c.args.lit c.requires.under_way
    c.requires.is_false

pub index_mut-requires : goal.index_mut-requires
index_mut-requires c =
    omega (
      arith,
      lemma.note_within c.args.trail.now c.args.self.now c.args.lit _ c.requires.under_way
          c.requires.is_false c.var-place.ensures,
    )

pub overflow_add-self : goal.overflow_add-self
overflow_add-self c =
    omega (
      arith,
      lemma.count_fits _ _ _ _ _ _ c.args.lit c.requires.under_way c.requires.is_false
          (lemma.not_noted c.args.trail.now.steps c.args.self.now c.args.lit
          c.if-has_noted.ensures.1)
          (sym c.level_at.ensures ∙ c.if-level_at-self.true),
    )

pub returns-then-level_at-self : goal.returns-then-level_at-self
returns-then-level_at-self c =
    rw c.var-place.ensures
    (lemma.notes_open c.args.trail.now c.args.self.now c.args.lit _ c.requires.under_way
    c.requires.is_false
    (lemma.not_noted c.args.trail.now.steps c.args.self.now c.args.lit c.if-has_noted.ensures.1)
    (sym c.level_at.ensures ∙ c.if-level_at-self.true) refl refl refl refl refl)

pub index_mut-requires-2 : goal.index_mut-requires-2
index_mut-requires-2 c =
    omega (
      arith,
      lemma.note_within c.args.trail.now c.args.self.now c.args.lit _ c.requires.under_way
          c.requires.is_false c.var-place.ensures,
    )

pub returns : goal.returns
returns c =
    rw c.var-place.ensures
    (lemma.notes_lower c.args.trail.now c.args.self.now c.args.lit _ c.requires.under_way
    c.requires.is_false
    (lemma.not_noted c.args.trail.now.steps c.args.self.now c.args.lit c.if-has_noted.ensures.1)
    (λ same. c.if-level_at-self.false (c.level_at.ensures ∙ same)) refl c.in_ok-push.ensures.ok
    refl refl refl)
