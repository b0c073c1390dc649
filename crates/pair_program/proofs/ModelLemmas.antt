-- The set that shows a pair, and the two ways between models and pairs.
use Rattle.std.proofs.Common.{◌≡◌, ◌<◌, ◌≤◌, ◌+◌, ◌-◌, ◌*◌, ◌&&◌, ℕ, Bool, false, not}
use Rattle.std.proofs.Common.{List, [], ◌∷◌, ◌++◌, Some, slice_get, length, get_or, take, drop, map}
use Rattle.std.proofs.Common.{Any, Contains, refl, sym, ap, subst, ◌∙◌, arith, get_or-drop}
use Rattle.std.proofs.Common.{length-append, length-drop, true≢false, take_at, drop_at}
use Rattle.std.proofs.Common.{get_or-append-add}
use Rattle.std.proofs.lemmas.Bool.{false_from_ne_true}
use Rattle.std.proofs.lemmas.List.{get_or-map, length-map, get_or_append_left}
use Rattle.std.proofs.lemmas.List.Elements.{All-nil, All-cons}
use Rattle.std.proofs.lemmas.Option.{slice_get_within, get_or_from_slice_get}
use Rattle.ground_program.specs.Meaning.{has, IsIn, Keeps, IsSetOver}
use Rattle.ground_program.specs.Models.{IsModel}
use Rattle.normal_program.specs.declared.normal.BodyOf.{BodyOf}
use Rattle.normal_program.specs.declared.normal.Normal.{Normal}
use Rattle.normal_program.specs.Body.{body_holds}
use Rattle.normal_program.specs.Range.{IsInRange}
use Rattle.pair_program.specs.Pairs.{pair_atoms, whole_in, part_in, IsPairOf, IsModelWith, IsFreeBy}
use Rattle.pair_program.specs.Rules.{part_atom, alone_atom, body_atom, last_atom, count_up}
use Rattle.pair_program.specs.Rules.{free_rule, program_of}
use Rattle.pair_program.proofs.GroupLemmas.{length-count_up, get_or-count_up, Contains-count_up}
use Rattle.pair_program.proofs.GroupLemmas.{to_groups}
use Rattle.pair_program.proofs.OutLemmas.{pair_out}
use Rattle.pair_program.proofs.IntoLemmas.{ShowsPair, keeps_pair}

-- an item behind a front
at_rest : (front rest : List Bool) (place at : ℕ) → place ≡ length front + at
    → has (front ++ rest) place ≡ has rest at
at_rest front rest place at is =
    ap (λ n. get_or (front ++ rest) n false) is ∙ get_or-append-add front rest at false

-- a set whose first place is false
first_false : (set : List Bool) (count : ℕ) → length set ≡ count + 1 → has set 0 ≡ false
    → false ∷ drop 1 set ≡ set
first_false [] count long first = absurd (omega (arith, long))
first_false (bit ∷ set) count long first = ap (λ b. b ∷ set) (sym first)

module _ (normal : Normal) (whole part : List Bool) (pair : IsPairOf normal whole part) where
  -- the atoms of the whole that the part hasn't
  abbrev alone_bits : List Bool
  alone_bits = map (λ atom. has whole atom && not (has part atom)) (count_up 1 normal.atoms)

  abbrev body_bits : List Bool
  body_bits = map (body_holds whole part) normal.bodies

  abbrev behind_alone : List Bool
  behind_alone = body_bits ++ false ∷ []

  abbrev behind_part : List Bool
  behind_part = alone_bits ++ behind_alone

  abbrev behind_whole : List Bool
  behind_whole = drop 1 part ++ behind_part

  -- the set that shows the pair
  abbrev all_of : List Bool
  all_of = whole ++ behind_whole

  length-alone : length alone_bits ≡ normal.atoms
  length-alone =
      length-map (count_up 1 normal.atoms) (λ atom. has whole atom && not (has part atom))
      ∙ length-count_up 1 normal.atoms

  length-bodies : length body_bits ≡ length normal.bodies
  length-bodies = length-map normal.bodies (body_holds whole part)

  length-rest : length (drop 1 part) ≡ normal.atoms
  length-rest =
      omega (arith, length-drop 1 part, pair.proper.positions, pair.over.positions)

  length-all : length all_of ≡ pair_atoms normal + 1
  length-all =
      omega (
        arith,
        length-append whole behind_whole,
        length-append (drop 1 part) behind_part,
        length-append alone_bits behind_alone,
        length-append body_bits (false ∷ []),
        length-alone,
        length-bodies,
        length-rest,
        pair.over.positions,
      )

  whole_at : (atom : ℕ) → atom ≤ normal.atoms → has all_of atom ≡ has whole atom
  whole_at atom last =
      get_or_append_left whole behind_whole false atom (omega (arith, last, pair.over.positions))

  part_at : (atom : ℕ) → 1 ≤ atom → atom ≤ normal.atoms
      → has all_of (part_atom normal.atoms atom) ≡ has part atom
  part_at atom low last =
      let back : 1 + (atom - 1) ≡ atom = omega (arith, low) in
      at_rest whole behind_whole (part_atom normal.atoms atom) (atom - 1)
      (omega (arith, low, pair.over.positions))
      ∙ get_or_append_left (drop 1 part) behind_part false (atom - 1)
      (omega (arith, low, last, length-rest))
      ∙ get_or-drop 1 part (atom - 1) false ∙ ap (has part) back

  alone_at : (atom : ℕ) → 1 ≤ atom → atom ≤ normal.atoms
      → has all_of (alone_atom normal.atoms atom) ≡ (has whole atom && not (has part atom))
  alone_at atom low last =
      let back : 1 + (atom - 1) ≡ atom = omega (arith, low) in
      at_rest whole behind_whole (alone_atom normal.atoms atom) (normal.atoms + (atom - 1))
      (omega (arith, low, pair.over.positions))
      ∙ at_rest (drop 1 part) behind_part (normal.atoms + (atom - 1)) (atom - 1)
      (omega (arith, length-rest))
      ∙ get_or_append_left alone_bits behind_alone false (atom - 1)
      (omega (arith, low, last, length-alone))
      ∙ get_or-map (λ atom. has whole atom && not (has part atom)) (count_up 1 normal.atoms)
      (atom - 1) 0 false (omega (arith, low, last, length-count_up 1 normal.atoms))
      ∙ ap (λ at. has whole at && not (has part at))
      (get_or-count_up 1 normal.atoms (atom - 1) 0 (omega (arith, low, last)) ∙ back)

  behind_bodies : (place at : ℕ) → place ≡ 3 * normal.atoms + 1 + at
      → has all_of place ≡ has behind_alone at
  behind_bodies place at is =
      at_rest whole behind_whole place (normal.atoms + (normal.atoms + at))
      (omega (arith, is, pair.over.positions))
      ∙ at_rest (drop 1 part) behind_part (normal.atoms + (normal.atoms + at)) (normal.atoms + at)
      (omega (arith, length-rest))
      ∙ at_rest alone_bits behind_alone (normal.atoms + at) at (omega (arith, length-alone))

  body_at_place : (number : ℕ) (body : BodyOf) → slice_get normal.bodies number ≡ Some body
      → has all_of (body_atom normal.atoms number) ≡ body_holds whole part body
  body_at_place number body here =
      let within : number < length normal.bodies =
      slice_get_within normal.bodies number body here in
      behind_bodies (body_atom normal.atoms number) number refl
      ∙ get_or_append_left body_bits (false ∷ []) false number
      (omega (arith, within, length-bodies))
      ∙ get_or-map (body_holds whole part) normal.bodies number body false within
      ∙ ap (body_holds whole part) (get_or_from_slice_get normal.bodies number body body here)

  last_at : has all_of (last_atom normal.atoms (length normal.bodies)) ≡ false
  last_at =
      behind_bodies (last_atom normal.atoms (length normal.bodies)) (length normal.bodies)
      (omega arith)
      ∙ at_rest body_bits (false ∷ []) (length normal.bodies) 0 (omega (arith, length-bodies))

  shows_all : ShowsPair normal whole part all_of
  shows_all = record {
    of_whole = whole_at;
    of_part = part_at;
    of_alone = alone_at;
    of_body = body_at_place;
    of_last = last_at;
  }

  -- position 0 of the part
  part_first : has part 0 ≡ false
  part_first =
      false_from_ne_true (has part 0)
      (λ here. true≢false
      (sym (pair.proper.inside 0 here)
      ∙ get_or_from_slice_get whole 0 false false pair.over.no_atom))

  first_of_all : (set rest : List Bool) → slice_get set 0 ≡ Some false
      → slice_get (set ++ rest) 0 ≡ Some false
  first_of_all [] rest first = cc
  first_of_all (bit ∷ set) rest first = first

  -- a pair has a model
  pub pair_into : IsInRange normal
      → (all : List Bool) × IsModelWith normal (program_of normal) whole part all
  pair_into range = (
    all_of,
    record {
      over = record {
        positions = length-all;
        no_atom = first_of_all whole behind_whole pair.over.no_atom;
      };
      model = record {
        keeps = keeps_pair normal range whole part pair all_of shows_all;
        compute = record {
          must = All-nil (IsIn all_of);
          must_not =
              All-cons (λ atom. ¬ IsIn all_of atom)
              (last_atom normal.atoms (length normal.bodies)) []
              (λ here. true≢false (sym here ∙ last_at)) (All-nil (λ atom. ¬ IsIn all_of atom));
        };
      };
      whole_is = take_at whole behind_whole (normal.atoms + 1) pair.over.positions;
      part_is =
          ap (λ rest. false ∷ take normal.atoms rest)
          (drop_at whole behind_whole (normal.atoms + 1) pair.over.positions)
          ∙ ap (λ rest. false ∷ rest) (take_at (drop 1 part) behind_part normal.atoms length-rest)
          ∙ first_false part normal.atoms (pair.proper.positions ∙ pair.over.positions) part_first;
    },
  )

-- a model has a pair
pub model_out : (normal : Normal) → IsInRange normal → (all : List Bool)
    → IsSetOver (program_of normal).atoms all → IsModel (program_of normal) all
    → IsPairOf normal (whole_in normal all) (part_in normal all)
model_out normal range all over model =
    pair_out normal range all (omega (arith, over.positions)) over.no_atom
    (to_groups (Keeps all all) normal model.keeps)
    (model.compute.must_not 0 0 (omega arith))

-- any atom may be true
pub any_free : (normal : Normal) (atom : ℕ) → 1 ≤ atom → atom ≤ (program_of normal).atoms
    → Any (IsFreeBy atom) (program_of normal).rules
any_free normal atom low last =
    let back : 1 + (atom - 1) ≡ atom = omega (arith, low) in (
      0,
      free_rule normal.atoms (length normal.bodies),
      omega arith,
      refl,
      record {
        kind = refl;
        bound = refl;
        body = refl;
        head =
            subst (Contains (count_up 1 (last_atom normal.atoms (length normal.bodies)))) back
            (Contains-count_up 1 (last_atom normal.atoms (length normal.bodies)) (atom - 1)
            (omega (arith, low, last)));
      },
    )
