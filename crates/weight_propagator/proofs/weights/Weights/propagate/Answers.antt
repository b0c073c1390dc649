use Rattle.std.proofs.Common.{◌≡◌, ◌≤◌, ◌∙◌, Bool, List, Option, sym, ap, subst}
use Rattle.std.specs.Prelude.{All}
use Rattle.normal_program.specs.declared.normal.Normal.{Normal}
use Rattle.normal_program.specs.Normal.{greatest_body_var}
use Rattle.weight_propagator.specs.declared.row.Row.{Row}
use Rattle.weight_propagator.specs.Weighed.{Weighed}
use Rattle.weight_propagator.specs.Rows.{IsRow, AreRows}
use Rattle.weight_propagator.specs.Sums.{IsInStep}
use Rattle.weight_propagator.proofs.KeptSumLemmas.{kept_on_trail, kept_after}
use Rattle.weight_propagator.proofs.RowsLemmas.{all_sound, all_said_if}
use Rattle.weight_propagator.proofs.weights.Weights.propagate.Goals as goal

-- the normal form and the set are those of before
same_normal : (one two old : Weighed) (normal : Normal) → one ≡ two
    → two ≡ record old { followed = two.followed } → old.normal ≡ normal → one.normal ≡ normal
same_normal one two old normal is rest same =
    ap (λ (it : Weighed). it.normal) is ∙ ap (λ (it : Weighed). it.normal) rest ∙ same

same_inside : (one two old : Weighed) → one ≡ two → two ≡ record old { followed = two.followed }
    → one.inside ≡ old.inside
same_inside one two old is rest =
    ap (λ (it : Weighed). it.inside) is ∙ ap (λ (it : Weighed). it.inside) rest

pub settle-requires-clause-sound : goal.settle-requires-clause-sound
settle-requires-clause-sound c =
    subst (λ (rows : List Row). All (IsRow c.args.trail.now.vars) rows) (sym c.deref.ensures.value)
    (all_sound c.self.inside.inside.value c.self.inside.made_of.value c.self.inside.rows.items
    c.self.invariant.rows_are c.args.trail.now.vars
    (subst (λ (normal : Normal). greatest_body_var normal ≤ c.args.trail.now.vars)
    (sym
    (same_normal _ c.follow.new.self c.args.self.now c.args.normal.now c.self.view_is
    c.follow.ensures.rest c.requires.same)) c.requires.over))

pub settle-requires-clause-in_step : goal.settle-requires-clause-in_step
settle-requires-clause-in_step c =
    subst (λ (rows : List Row). IsInStep rows c.args.trail.now.steps c.self.inside.tally)
    (sym c.deref.ensures.value)
    (kept_on_trail c.self.inside.inside.value c.self.inside.made_of.value
    c.self.inside.rows.items c.self.inside.occurrences c.self.inside.tally
    c.self.inside.followed.items c.args.trail.now.steps c.self.invariant
    (ap (λ (it : Weighed). it.followed) c.self.view_is ∙ c.in_ok-follow.ensures.all))

pub invariant_of-self : goal.invariant_of-self
invariant_of-self c =
    kept_after c.self.inside.inside.value c.self.inside.made_of.value c.self.inside.rows.items
    c.self.inside.occurrences c.self.inside.tally c.self.inside.followed.items
    c.args.trail.now.steps c.self.invariant
    (ap (λ (it : Weighed). it.followed) c.self.view_is ∙ c.in_ok-follow.ensures.all)
    c.settle.new.tally
    (subst (λ (rows : List Row). IsInStep rows c.args.trail.now.steps c.settle.new.tally)
    c.deref.ensures.value c.settle.ensures.in_step)

-- the kept bodies in the words of the caller
rows_are : (inside one : Option (List Bool)) (normal made : Normal) (rows items : List Row)
    → AreRows one made rows → one ≡ inside → made ≡ normal → items ≡ rows
    → AreRows inside normal items
rows_are inside one normal made rows items are same_one same_made same_rows =
    subst (λ i. AreRows i normal items) same_one
    (subst (λ n. AreRows one n items) same_made (subst (AreRows one made) (sym same_rows) are))

pub returns-clause-says : goal.returns-clause-says
returns-clause-says c =
    all_said_if c.args.self.now.inside c.args.normal.now c.deref.result.now
    (rows_are c.args.self.now.inside c.self.inside.inside.value c.args.normal.now
    c.self.inside.made_of.value c.self.inside.rows.items c.deref.result.now
    c.self.invariant.rows_are
    (same_inside _ c.follow.new.self c.args.self.now c.self.view_is c.follow.ensures.rest)
    (same_normal _ c.follow.new.self c.args.self.now c.args.normal.now c.self.view_is
    c.follow.ensures.rest c.requires.same) c.deref.ensures.value)
    c.args.trail.now c.settle.new.out c.settle.result c.settle.ensures.settled
