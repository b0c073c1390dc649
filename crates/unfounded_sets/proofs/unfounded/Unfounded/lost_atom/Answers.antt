use Rattle.std.proofs.Common.{◌≡◌, ◌∙◌, refl, ap}
use Rattle.unfounded_sets.specs.Followed.{Founding}
use Rattle.unfounded_sets.proofs.TrailLemmas.{kept_after, kept_grown, kept_on_trail}
use Rattle.unfounded_sets.proofs.unfounded.Unfounded.lost_atom.Goals as goal

pub lost_atom-requires-clause-sources : goal.lost_atom-requires-clause-sources
lost_atom-requires-clause-sources c =
    let it = c.self.inside in
    kept_on_trail it.made_of.value c.args.normal.now it.founded it.part it.wanted it.places
    it.sources it.grown it.followed.items c.args.trail.now.steps c.self.invariant
    (ap (λ (one : Founding). one.normal) c.self.view_is ∙ c.requires.same)
    (ap (λ (one : Founding). one.followed) c.self.view_is ∙ c.requires.followed)

pub invariant_of-self : goal.invariant_of-self
invariant_of-self c =
    let it = c.self.inside in
    let is : it.made_of.value ≡ c.args.normal.now =
    ap (λ (one : Founding). one.normal) c.self.view_is ∙ c.requires.same in
    let all = ap (λ (one : Founding). one.followed) c.self.view_is ∙ c.requires.followed in
    kept_after it.made_of.value c.args.normal.now it.founded it.part it.wanted it.places
    it.sources it.grown it.followed.items c.args.trail.now.steps c.self.invariant is all it.founded
    it.part it.wanted c.lost_atom.new.sources it.grown c.lost_atom.ensures.sources
    (kept_grown it.made_of.value c.args.normal.now it.founded it.part it.wanted it.places
    it.sources it.grown it.followed.items c.args.trail.now.steps c.self.invariant is all)
    refl refl refl
