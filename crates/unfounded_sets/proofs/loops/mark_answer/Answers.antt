use Rattle.std.proofs.Common.{◌≡◌, false, rules, subst, All, arith}
use Rattle.std.proofs.lemmas.Bool.{iff_false}
use Rattle.std.proofs.lemmas.List.Elements.{All-contains}
use Rattle.std.proofs.lemmas.Option.{get_or_from_slice_get}
use Rattle.normal_program.specs.declared.normal.BodyOf.{BodyOf}
use Rattle.normal_program.specs.Normal.{body_var}
use Rattle.normal_program.specs.Clauses.{positive}
use Rattle.normal_program.specs.Loop.{IsAtomOf}
use Rattle.unfounded_sets.specs.Founding.{is_false}
use Rattle.unfounded_sets.proofs.ValueLemmas.{not_false_if}
use Rattle.unfounded_sets.proofs.WantedLemmas.{wants_no_head, wants_below, wants_false}
use Rattle.unfounded_sets.proofs.WantedLemmas.{wants_head}
use Rattle.unfounded_sets.proofs.loops.mark_answer.Goals as goal
use Rattle.unfounded_sets.proofs.loops.mark_answer.Goals.{
  then-not-has_head-via-then-not-has_head,
}
use Rattle.unfounded_sets.proofs.loops.mark_answer.Goals.{
  then-not-has_head-via-else-not-has_head+then-stays_below,
}

pub returns-then-not-has_head : goal.returns-then-not-has_head
returns-then-not-has_head c =
    elim c.then-not-has_head.branch [
      | then-not-has_head-via-then-not-has_head w ↦
          let no : c.has_head.result ≡ false = search rules in
          wants_no_head c.args.normal.now c.args.trail.now.steps c.args.part.now c.args.rule.now
          c.args.wanted.now (iff_false c.has_head.ensures no)
      | then-not-has_head-via-else-not-has_head+then-stays_below w ↦
          wants_below c.args.normal.now c.args.trail.now.steps c.args.part.now c.args.rule.now
          c.get-body.result.now c.args.wanted.now c.get-body.ensures
          (w.stays_below.ensures.0 w.if-stays_below.true)
    ]

pub mark_false-requires-clause-atoms : goal.mark_false-requires-clause-atoms
mark_false-requires-clause-atoms c =
    subst (λ (one : BodyOf). All (λ part. IsAtomOf c.args.normal.now part.lit.atom) one.parts)
    (get_or_from_slice_get c.args.normal.now.bodies c.args.rule.now.body c.get-body.result.now
    c.get-body.result.now c.get-body.ensures)
    (c.requires.covered.range.parts c.args.rule.now.body c.get-body.result.now
    c.requires.rule.number)

pub returns-in-Some : goal.returns-in-Some
returns-in-Some c =
    let is_atom =
    All-contains (IsAtomOf c.args.normal.now) c.args.rule.now.heads c.in-Some.head
    c.requires.rule.heads c.in-Some.ensures.some.among in
    rw c.set-in-Some.ensures
    (wants_head c.args.normal.now c.args.trail.now.steps c.args.part.now c.args.rule.now
    c.args.wanted.now c.in-Some.head c.in-Some.ensures.some
    (omega (arith, c.requires.places, is_atom.last)))

pub returns-in_default : goal.returns-in_default
returns-in_default c =
    let lit = positive (body_var c.args.normal.now c.args.rule.now.body) in
    let out : is_false c.args.trail.now.steps lit ≡ false = search rules in
    wants_false c.args.normal.now c.args.trail.now.steps c.args.part.now c.args.rule.now
    c.get-body.result.now c.args.wanted.now c.mark_false.new.wanted c.get-body.ensures
    (not_false_if c.args.trail.now.steps lit out) c.in_default.ensures.none c.requires.blocked
    c.mark_false.ensures
