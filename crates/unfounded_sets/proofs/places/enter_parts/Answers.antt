use Rattle.std.proofs.Common.{◌≡◌, ◌∷◌, ◌++◌, [], take, get_or, ap, sym, subst, take_all, arith}
use Rattle.std.proofs.Common.{false}
use Rattle.std.proofs.lemmas.List.{take_more}
use Rattle.clause_store.specs.declared.literal.Lit.{Lit}
use Rattle.normal_program.specs.declared.normal.Part.{Part}
use Rattle.normal_program.specs.Clauses.{literal_of}
use Rattle.unfounded_sets.specs.Placed.{ArePut, StandsAt}
use Rattle.unfounded_sets.proofs.PlacedLemmas.{put_more, part_step, code_most}
use Rattle.unfounded_sets.proofs.places.enter_parts.Goals as goal

abbrev none : Part
none = record { lit = record { atom = 0; negated = false }; weight = 0 }

pub literal_of-requires : goal.literal_of-requires
literal_of-requires c =
    omega (
      arith,
      c.requires.within c.loop-part.part-index none c.loop-part-test.true,
      c.requires.few,
    )

pub enter-requires : goal.enter-requires
enter-requires c =
    let part = get_or c.args.parts.now c.loop-part.part-index none in
    let code : c.literal_of.result.0 ≡ (literal_of part.lit).0 =
    ap (λ (lit : Lit). lit.0) c.literal_of.ensures in
    omega (
      arith,
      c.requires.within c.loop-part.part-index none c.loop-part-test.true,
      code_most part.lit,
      c.loop-part.invariant.same,
      code,
    )

pub loop-part-preserved : goal.loop-part-preserved
loop-part-preserved c =
    let parts = c.args.parts.now in
    let at = c.loop-part.part-index in
    let part : Part = get_or parts at none in
    let number = c.args.number in
    let code : c.literal_of.result.0 ≡ (literal_of part.lit).0 =
    ap (λ (lit : Lit). lit.0) c.literal_of.ensures in
    subst
    (λ all. ArePut (λ place item. (item ≡ number) × StandsAt all place) c.args.lists.now.items
    c.enter.new.lists.items)
    (sym (take_more parts at none c.loop-part-test.true))
    (put_more (λ place item. (item ≡ number) × StandsAt (take at parts) place)
    (λ place item. (place ≡ (literal_of part.lit).0) × (item ≡ number))
    (λ place item. (item ≡ number) × StandsAt (take at parts ++ part ∷ []) place)
    c.args.lists.now.items c.loop-part.lists.items c.enter.new.lists.items
    c.loop-part.invariant
    (subst
    (λ at. ArePut (λ place item. (place ≡ at) × (item ≡ number)) c.loop-part.lists.items
    c.enter.new.lists.items) code c.in_ok-enter.ensures)
    (part_step number (take at parts) part))

pub returns : goal.returns
returns c =
    subst
    (λ parts. ArePut (λ place item. (item ≡ c.args.number) × StandsAt parts place)
    c.args.lists.now.items c.loop-part.lists.items)
    (take_all c.loop-part.part-index c.args.parts.now c.loop-part-test.false) c.loop-part.invariant
