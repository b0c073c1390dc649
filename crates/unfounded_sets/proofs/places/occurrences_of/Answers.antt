use Rattle.std.proofs.Common.{◌≡◌, ◌<◌, ◌∙◌, ◌+◌, ◌*◌, ℕ, List, Some, length, sym, ap, subst, arith}
use Rattle.std.proofs.Common.{slice_get, get_or}
use Rattle.std.specs.Prelude.{All}
use Rattle.std.proofs.lemmas.Option.{slice_get-get_or}
use Rattle.normal_program.specs.declared.normal.Part.{Part}
use Rattle.normal_program.specs.declared.normal.BodyOf.{BodyOf}
use Rattle.normal_program.specs.Loop.{IsAtomOf}
use Rattle.unfounded_sets.specs.Placed.{ArePut, IsOccurrence, StandsAt}
use Rattle.unfounded_sets.proofs.PlacedLemmas.{just_more, just_same, body_step, body_end}
use Rattle.unfounded_sets.proofs.places.occurrences_of.Goals as goal

-- the item that is read stands at its number
at_number : (bodies items : List BodyOf) (number : ℕ) (body : BodyOf) → items ≡ bodies
    → number < length items → body ≡ get_or items number body
    → slice_get bodies number ≡ Some body
at_number bodies items number body same within is =
    ap (λ (some : List BodyOf). slice_get some number) (sym same)
    ∙ slice_get-get_or items number body within ∙ ap Some (sym is)

pub enter_parts-requires-clause-within : goal.enter_parts-requires-clause-within
enter_parts-requires-clause-within c k d low =
    let body : BodyOf = c.body-item.result in
    let all : All (λ part. IsAtomOf c.args.normal.now part.lit.atom) body.parts =
    subst (λ (one : BodyOf). All (λ part. IsAtomOf c.args.normal.now part.lit.atom) one.parts)
    (sym
    (c.body-item.is
    ∙ ap (λ (bodies : List BodyOf). get_or bodies c.loop-number.number body)
    c.as_slice-body-items.ensures))
    (c.requires.parts c.loop-number.number body
    (rw c.as_slice-body-items.ensures at c.loop-number-test.true)) in
    let here : All (λ part. IsAtomOf c.args.normal.now part.lit.atom) c.as_slice.result.now =
    rw c.as_slice.ensures all in
    omega (arith, (here k d low).last, c.loop-number.invariant.size)

pub enter_parts-requires-clause-few : goal.enter_parts-requires-clause-few
enter_parts-requires-clause-few c =
    omega (arith, c.loop-number.invariant.size, c.requires.few)

pub loop-number-preserved : goal.loop-number-preserved
loop-number-preserved c =
    let bodies = c.args.normal.now.bodies in
    let at = c.loop-number.number in
    let body : BodyOf = c.body-item.result in
    just_more (λ code number. (number < at) × IsOccurrence bodies code number)
    (λ code number. (number ≡ at) × StandsAt body.parts code)
    (λ code number. (number < at + 1) × IsOccurrence bodies code number)
    (2 * c.args.normal.now.atoms + 2) c.loop-number.lists.items
    c.enter_parts.new.lists.items c.loop-number.invariant
    (subst
    (λ (parts : List Part). ArePut (λ code number. (number ≡ at) × StandsAt parts code)
    c.loop-number.lists.items c.enter_parts.new.lists.items) c.as_slice.ensures
    c.in_ok-enter_parts.ensures)
    (body_step bodies at body
    (at_number bodies c.as_slice-body-items.result.now at body c.as_slice-body-items.ensures
    c.loop-number-test.true c.body-item.is))

pub returns : goal.returns
returns c =
    let bodies = c.args.normal.now.bodies in
    let at = c.loop-number.number in
    rw (c.in_ok-lists-2.ensures ∙ c.deref.ensures.value)
    (just_same (λ code number. (number < at) × IsOccurrence bodies code number)
    (λ code number. IsOccurrence bodies code number) (2 * c.args.normal.now.atoms + 2)
    c.loop-number.lists.items c.loop-number.invariant
    (λ code number.
    body_end bodies at code number
    (omega (arith, c.loop-number-test.false, ap length c.as_slice-body-items.ensures))))
