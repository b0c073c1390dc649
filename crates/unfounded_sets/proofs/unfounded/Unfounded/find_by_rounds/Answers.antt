use Rattle.std.proofs.Common.{◌≡◌, ◌∙◌, ◌+◌, refl, sym, ap}
use Rattle.normal_program.specs.declared.normal.Normal.{Normal}
use Rattle.unfounded_sets.specs.Followed.{Founding}
use Rattle.unfounded_sets.proofs.LoopLemmas.{closed_keeps, loop_part}
use Rattle.unfounded_sets.proofs.TrailLemmas.{kept_after, kept_grown, kept_on_trail}
use Rattle.unfounded_sets.proofs.unfounded.Unfounded.find_by_rounds.Goals as goal

pub ranked_atoms-requires-clause-sources : goal.ranked_atoms-requires-clause-sources
ranked_atoms-requires-clause-sources c =
    let it = c.self.inside in
    let is : it.made_of.value ≡ c.args.normal.now =
    ap (λ (one : Founding). one.normal) c.self.view_is ∙ c.requires.same in
    let all = ap (λ (one : Founding). one.followed) c.self.view_is ∙ c.requires.followed in
    kept_on_trail it.made_of.value c.args.normal.now it.founded it.part it.wanted it.places
    it.sources it.grown it.followed.items c.args.trail.now.steps c.self.invariant is all

pub invariant_of-self : goal.invariant_of-self
invariant_of-self c =
    let it = c.self.inside in
    let is : it.made_of.value ≡ c.args.normal.now =
    ap (λ (one : Founding). one.normal) c.self.view_is ∙ c.requires.same in
    let all = ap (λ (one : Founding). one.followed) c.self.view_is ∙ c.requires.followed in
    kept_after it.made_of.value c.args.normal.now it.founded it.part it.wanted it.places
    it.sources it.grown it.followed.items c.args.trail.now.steps c.self.invariant is all
    c.unfounded_atom.new.founded it.part it.wanted c.ranked_atoms.new.sources it.grown
    c.ranked_atoms.ensures.sources
    (kept_grown it.made_of.value c.args.normal.now it.founded it.part it.wanted it.places
    it.sources it.grown it.followed.items c.args.trail.now.steps c.self.invariant is all)
    (c.unfounded_atom.ensures.places ∙ c.ranked_atoms.ensures.size) refl refl

pub invariant_of-self-in_err-write_loop-in-Some : goal.invariant_of-self-in_err-write_loop-in-Some
invariant_of-self-in_err-write_loop-in-Some c =
    let it = c.self.inside in
    let is : it.made_of.value ≡ c.args.normal.now =
    ap (λ (one : Founding). one.normal) c.self.view_is ∙ c.requires.same in
    let all = ap (λ (one : Founding). one.followed) c.self.view_is ∙ c.requires.followed in
    kept_after it.made_of.value c.args.normal.now it.founded it.part it.wanted it.places
    it.sources it.grown it.followed.items c.args.trail.now.steps c.self.invariant is all
    c.unfounded_atom.new.founded c.mark_open.new.part c.write_loop.new.wanted
    c.ranked_atoms.new.sources it.grown c.ranked_atoms.ensures.sources
    (kept_grown it.made_of.value c.args.normal.now it.founded it.part it.wanted it.places
    it.sources it.grown it.followed.items c.args.trail.now.steps c.self.invariant is all)
    (c.unfounded_atom.ensures.places ∙ c.ranked_atoms.ensures.size)
    (c.mark_open.ensures.places
    ∙ sym (ap (λ (n : Normal). n.atoms + 1) is) ∙ sym c.self.invariant.tables.part_places)
    c.write_loop.ensures.places

pub invariant_of-self-in-Some : goal.invariant_of-self-in-Some
invariant_of-self-in-Some c =
    let it = c.self.inside in
    let is : it.made_of.value ≡ c.args.normal.now =
    ap (λ (one : Founding). one.normal) c.self.view_is ∙ c.requires.same in
    let all = ap (λ (one : Founding). one.followed) c.self.view_is ∙ c.requires.followed in
    kept_after it.made_of.value c.args.normal.now it.founded it.part it.wanted it.places
    it.sources it.grown it.followed.items c.args.trail.now.steps c.self.invariant is all
    c.unfounded_atom.new.founded c.mark_open.new.part c.write_loop.new.wanted
    c.ranked_atoms.new.sources it.grown c.ranked_atoms.ensures.sources
    (kept_grown it.made_of.value c.args.normal.now it.founded it.part it.wanted it.places
    it.sources it.grown it.followed.items c.args.trail.now.steps c.self.invariant is all)
    (c.unfounded_atom.ensures.places ∙ c.ranked_atoms.ensures.size)
    (c.mark_open.ensures.places
    ∙ sym (ap (λ (n : Normal). n.atoms + 1) is) ∙ sym c.self.invariant.tables.part_places)
    c.write_loop.ensures.places

pub write_loop-requires-clause-part : goal.write_loop-requires-clause-part
write_loop-requires-clause-part c =
    loop_part c.args.normal.now c.args.trail.now.steps c.unfounded_atom.new.founded
    c.mark_open.new.part c.mark_open.ensures c.in-Some.atom c.args.trail.now.vars
    c.requires.covered
    (closed_keeps c.args.normal.now c.args.trail.now.steps c.unfounded_atom.new.founded
    c.in-Some.ensures.answer.settled.closed)
    c.in-Some.ensures.answer.left
