-- What the answers of a kept search say of a set.
use Rattle.std.proofs.Common.{◌≡◌, ◌≢◌, ◌≤◌, ◌<◌, ◌+◌, ◌*◌, ℕ, Bool, false, List, []}
use Rattle.std.proofs.Common.{◌∷◌, length, map, get_or, sym, ap, ◌∙◌, subst}
use Rattle.std.proofs.Common.{arith, ⊎_elim}
use Rattle.std.specs.Prelude.{All}
use Rattle.std.proofs.lemmas.Bool.{cases_eq}
use Rattle.std.proofs.lemmas.List.{ext_get_or, get_or-take, get_or_append_left, length-take-le}
use Rattle.std.proofs.lemmas.List.Elements.{All-contains, All-nil}
use Rattle.std.proofs.lemmas.Option.{get_or_from_slice_get}
use Rattle.ground_program.specs.Meaning.{has, IsSetOver}
use Rattle.clause_store.specs.declared.literal.Lit.{Lit}
use Rattle.clause_store.specs.Clause.{HoldsIn, IsTrueIn, truth}
use Rattle.clause_store.specs.Counted.{Counted}
use Rattle.clause_store.specs.Trail.{Assigned, values_of}
use Rattle.normal_program.specs.declared.normal.Normal.{Normal}
use Rattle.normal_program.specs.Body.{body_holds}
use Rattle.normal_program.specs.Models.{IsModelOf, set_of}
use Rattle.normal_program.specs.Normal.{extension}
use Rattle.pair_program.specs.Pairs.{IsPairOf, part_in, whole_in}
use Rattle.assumption_engine.specs.declared.answer.Answer.{Answer}
use Rattle.assumption_engine.specs.declared.answer.Answer.TheVariants.{Model, Core, SpentInside}
use Rattle.assumption_engine.specs.declared.answer.Answer.TheVariants.{Paused, Spent as UsedUp}
use Rattle.assumption_engine.specs.declared.answer.Answer.TheVariants.{NoMemory as WantsMemory}
use Rattle.assumption_engine.specs.Answer.{IsAnswer, IsCountedRight, IsCoreOf, IsModelOn}
use Rattle.assumption_engine.specs.Theory.{MeansTheSame, Meaning}
use Rattle.minimality_test.specs.Minimality.{HasAnswered, IsMinimal, IsSmallerThan}
use Rattle.minimality_test.specs.Search.{MayCome}
use Rattle.minimality_test.proofs.AnswerLemmas.{part_over}
use Rattle.kept_minimality.specs.Asking.{assumed_for, part_of, read_as}
use Rattle.kept_minimality.specs.Kept.{IsPairForm}
use Rattle.kept_minimality.specs.Pairing.{meaning_of}
use Rattle.kept_minimality.proofs.AssumedLemmas.{assumed_says, assumed_true}
use Rattle.kept_minimality.proofs.PartLemmas.{front_part}
use Rattle.kept_minimality.proofs.FreeLemmas.{extension_model, program_answers, program_model}

-- ---- the whole and the part of a pair

module _ (normal pair : Normal) (form : IsPairForm normal pair) (set : List Bool)
    (over : IsSetOver normal.atoms set) where
  pub pair_size : pair.atoms ≡ 3 * normal.atoms + length normal.bodies + 1
  pair_size = form.form.atoms ∙ form.pairs.atoms

  -- the whole of a model is the set where this is assumed
  whole_is : (values : List Bool) → IsModelOf pair values
      → All (IsTrueIn values) (assumed_for set) → whole_in normal (set_of pair values) ≡ set
  whole_is values model assumed =
      let whole = whole_in normal (set_of pair values) in
      let size : length whole ≡ normal.atoms + 1 =
      length-take-le (normal.atoms + 1) (set_of pair values)
      (omega (arith, model.over.positions, pair_size)) in
      ext_get_or false whole set (size ∙ sym over.positions)
      (λ atom within.
      let low : atom < normal.atoms + 1 = omega (arith, within, size) in
      get_or-take (normal.atoms + 1) (set_of pair values) atom false low
      ∙ ⊎_elim
      (λ zero.
      ap (λ it. get_or (set_of pair values) it false) zero
      ∙ get_or_from_slice_get (set_of pair values) 0 false false model.over.no_atom
      ∙ sym (get_or_from_slice_get set 0 false false over.no_atom)
      ∙ ap (λ it. get_or set it false) (sym zero))
      (λ other.
      get_or-take (pair.atoms + 1) values atom false (omega (arith, low, pair_size))
      ∙ assumed_says values set assumed atom (omega (arith, other))
      (omega (arith, low, over.positions))) (cases_eq atom 0))

  part_is : (trail : Assigned)
      → part_in normal (set_of pair (values_of trail)) ≡ part_of normal.atoms trail
  part_is trail =
      ap (λ rest. false ∷ rest)
      (front_part normal.atoms (pair.atoms + 1) (values_of trail) (omega (arith, pair_size)))

  -- ---- answers

  -- a model is a pair of the set and a smaller one
  pub model_smaller : (trail : Assigned)
      → IsModelOn (meaning_of pair) [] (assumed_for set) trail
      → IsSmallerThan normal set (part_of normal.atoms trail)
  model_smaller trail is =
      let values = values_of trail in
      let model : IsModelOf pair values = is.model.model in
      let both = program_model normal pair form values model in
      let it =
      subst (λ part. IsPairOf normal set part) (part_is trail)
      (subst (λ whole. IsPairOf normal whole (part_in normal (set_of pair values)))
      (whole_is values model is.true_lits)
      (form.pairs.out (set_of pair values) both.0 both.1)) in
      record {
        over = part_over normal set (part_of normal.atoms trail) over it.proper;
        proper = it.proper;
        keeps = it.keeps;
      }

  -- a core says that there is none
  pub core_minimal : (core : List Lit) → IsCoreOf (meaning_of pair) [] (assumed_for set) core
      → IsMinimal normal set
  core_minimal core is part proper keeps =
      let some =
      form.pairs.into set part (record { over = over; proper = proper; keeps = keeps }) in
      let all = some.0 in
      let found = some.1 in
      let answer = program_answers normal pair form all found.over found.model in
      let values = extension pair all all in
      let bodies = map (body_holds all all) pair.bodies in
      let atoms : (atom : ℕ) → 1 ≤ atom → atom < length set → truth values atom ≡ has set atom =
      λ atom first last.
      get_or_append_left all bodies false atom
      (omega (arith, last, over.positions, answer.over.positions, pair_size))
      ∙ sym (get_or-take (normal.atoms + 1) all atom false (omega (arith, last, over.positions)))
      ∙ ap (λ (it : List Bool). has it atom) found.whole_is in
      is.unmet values
      (record {
        model = extension_model normal pair form all answer;
        meets = All-nil (HoldsIn values);
      })
      (λ k d within.
      All-contains (IsTrueIn values) (assumed_for set) (get_or core k d)
      (assumed_true values set atoms) (is.among k d within))

  -- ---- how the answers are read

  module _ (trail : Assigned) (after : Counted) where
    -- those that came may come
    may_come : (answer : Answer)
        → (answer ≢ WantsMemory
        → IsAnswer (meaning_of pair) [] (assumed_for set) after.limit trail answer)
        → (answer ≢ WantsMemory → IsCountedRight after.limit after answer) → MayCome answer
    may_come Model says counted = tt
    may_come (Core core) says counted = tt
    may_come UsedUp says counted = tt
    may_come (SpentInside inside units) says counted = (says (λ e. cc)).check.spent
    may_come Paused says counted =
        let over = counted (λ e. cc) in omega (arith, over.at_stop, over.limit)
    may_come WantsMemory says counted = tt

    -- they say what they should
    pub read_right : (answer : Answer)
        → (answer ≢ WantsMemory
        → IsAnswer (meaning_of pair) [] (assumed_for set) after.limit trail answer)
        → (answer ≢ WantsMemory → IsCountedRight after.limit after answer)
        → HasAnswered normal set after (read_as normal.atoms trail answer)
    read_right Model says counted =
        (model_smaller trail (says (λ e. cc)), (counted (λ e. cc)).limit)
    read_right (Core core) says counted =
        (core_minimal core (says (λ e. cc)), (counted (λ e. cc)).limit)
    read_right UsedUp says counted = counted (λ e. cc)
    read_right (SpentInside inside units) says counted = absurd ((says (λ e. cc)).check.spent)
    read_right Paused says counted = absurd (may_come Paused says counted)
    read_right WantsMemory says counted = tt

-- an answer under the other of two theories that say the same
pub answer_same : (one two : Meaning) (assumed : List Lit) (limit : ℕ) (trail : Assigned)
    → MeansTheSame one two → (answer : Answer) → IsAnswer two [] assumed limit trail answer
    → IsAnswer one [] assumed limit trail answer
answer_same one two assumed limit trail same Model is = record {
  total = is.total;
  model = record {
    model = (same.models (values_of trail)).1 is.model.model;
    meets = is.model.meets;
  };
  true_lits = is.true_lits;
}
answer_same one two assumed limit trail same (Core core) is = record {
  among = is.among;
  unmet =
      λ values model. is.unmet values
      (record { model = (same.models values).0 model.model; meets = model.meets });
}
answer_same one two assumed limit trail same UsedUp is = tt
answer_same one two assumed limit trail same (SpentInside set units) is = record {
  values = is.values;
  check = record {
    spent = (same.is_spent is.values set units).1 is.check.spent;
    as_many = is.check.as_many;
  };
  meets = is.meets;
  true_lits = is.true_lits;
}
answer_same one two assumed limit trail same Paused is = tt
answer_same one two assumed limit trail same WantsMemory is = tt
