-- What the answers of the engine say of the set.
use Rattle.std.proofs.Common.{◌≡◌, ◌≢◌, ◌+◌, Bool, false, List, [], ◌++◌}
use Rattle.std.proofs.Common.{length, map, get_or, Some, sym, ap, ◌∙◌, subst}
use Rattle.std.proofs.Common.{inl, inr, arith, length-append}
use Rattle.std.specs.Prelude.{All, Contains, Result, Ok, Err, IfOk}
use Rattle.std.proofs.lemmas.Bool.{cases_Bool, both_ways}
use Rattle.std.proofs.lemmas.List.{get_or_append_left, length-map}
use Rattle.std.proofs.lemmas.List.Elements.{All-nil, All-weaker}
use Rattle.std.proofs.lemmas.Option.{slice_get-get_or, get_or_from_slice_get}
use Rattle.ground_program.specs.Meaning.{has, IsProperSubset, IsSetOver}
use Rattle.clause_store.specs.declared.literal.Lit.{Lit}
use Rattle.clause_store.specs.Clause.{HoldsIn, IsOver, IsTrueIn}
use Rattle.clause_store.specs.Counted.{Counted}
use Rattle.clause_store.specs.Entailment.{AreUnits}
use Rattle.clause_store.specs.History.{Added, counted_clauses, IsHistoryOf}
use Rattle.clause_store.specs.History.{AreRefutedWith}
use Rattle.clause_store.specs.Trail.{Assigned, values_of}
use Rattle.clause_store.proofs.lemmas.Units.HistoryLemmas.{history_has_units}
use Rattle.clause_store.proofs.lemmas.Units.HistoryLemmas.{history_is_refuted_by}
use Rattle.normal_program.specs.declared.normal.Normal.{Normal}
use Rattle.normal_program.specs.Body.{body_holds}
use Rattle.normal_program.specs.Limit.{IsNormal}
use Rattle.normal_program.specs.Loop.{IsLocalWithin}
use Rattle.normal_program.specs.Models.{IsAssignmentOf, set_of}
use Rattle.normal_program.specs.Normal.{extension, greatest_body_var}
use Rattle.normal_program.specs.Spent.{inner_clauses}
use Rattle.normal_program.proofs.RangeLemmas.{IsNormal-in_range}
use Rattle.completion.proofs.PartLemmas.{none_at_0, smaller_meets}
use Rattle.completion.proofs.SmallerLemmas.{met_makes_smaller}
use Rattle.assumption_engine.specs.declared.answer.Answer.{Answer}
use Rattle.assumption_engine.specs.declared.answer.Answer.TheVariants.{Model, Core, SpentInside}
use Rattle.assumption_engine.specs.declared.answer.Answer.TheVariants.{Paused, Spent as UsedUp}
use Rattle.assumption_engine.specs.declared.answer.Answer.TheVariants.{NoMemory as WantsMemory}
use Rattle.assumption_engine.specs.Answer.{IsAnswer, IsCountedRight, IsCoreOf, IsModelOn}
use Rattle.minimality_test.specs.declared.answer.Minimality.{Minimality}
use Rattle.minimality_test.specs.declared.answer.Minimality.TheVariants.{NoMemory}
use Rattle.minimality_test.specs.Search.{MayCome, read_as}
use Rattle.minimality_test.specs.Minimality.{HasAnswered, HasCountedWithin, IsMinimal}
use Rattle.minimality_test.specs.Minimality.{IsSmallerThan}
use Rattle.minimality_test.specs.Parts.{meaning_of}

-- ---- a smaller part

-- place 0 of a part is false
first_of : (normal : Normal) (set part : List Bool) → IsSetOver normal.atoms set
    → IsProperSubset part set → get_or part 0 false ≡ false
first_of normal set part over proper =
    elim (cases_Bool (get_or part 0 false)) [
      | inl inside ↦
          absurd (both_ways (has set 0) (none_at_0 normal set over) (proper.inside 0 inside))
      | inr away ↦ away
    ]

pub part_over : (normal : Normal) (set part : List Bool) → IsSetOver normal.atoms set
    → IsProperSubset part set → IsSetOver normal.atoms part
part_over normal set part over proper = record {
  positions = proper.positions ∙ over.positions;
  no_atom =
      slice_get-get_or part 0 false (omega (arith, proper.positions, over.positions))
      ∙ ap Some (first_of normal set part over proper);
}

-- a model of the engine is one
pub model_smaller : (normal : Normal) → IsNormal normal → (set : List Bool)
    → IsSetOver normal.atoms set → (trail : Assigned)
    → IsModelOn (meaning_of normal set) [] [] trail
    → IsSmallerThan normal set (set_of normal (values_of trail))
model_smaller normal is_normal set over trail is =
    let part =
    met_makes_smaller normal (IsNormal-in_range normal is_normal) set over (values_of trail)
    is.model.model.assigns is.model.model.met in
    record {
      over = part_over normal set (set_of normal (values_of trail)) over part.smaller.proper;
      proper = part.smaller.proper;
      keeps = part.smaller.keeps;
    }

-- ---- no smaller part

-- the extension of a part is an assignment
extension_assigns : (normal : Normal) (set part : List Bool) → IsSetOver normal.atoms part
    → IsAssignmentOf normal (extension normal set part)
extension_assigns normal set part over =
    let rest = map (body_holds set part) normal.bodies in
    let size : length (part ++ rest) ≡ length part + length rest = length-append part rest in
    let count : length rest ≡ length normal.bodies = length-map normal.bodies (body_holds set part)
    in
    record {
      variables = omega (arith, size, count, over.positions);
      no_variable =
          slice_get-get_or (part ++ rest) 0 false (omega (arith, size, over.positions))
          ∙ ap Some
          (get_or_append_left part rest false 0 (omega (arith, over.positions))
          ∙ get_or_from_slice_get part 0 false false over.no_atom);
    }

-- a core without literals says that there is none
pub core_minimal : (normal : Normal) → IsNormal normal → (set : List Bool)
    → IsSetOver normal.atoms set → (core : List Lit)
    → IsCoreOf (meaning_of normal set) [] [] core → IsMinimal normal set
core_minimal normal is_normal set over core is part proper keeps =
    is.unmet (extension normal set part)
    (record {
      model = record {
        assigns = extension_assigns normal set part (part_over normal set part over proper);
        met =
            smaller_meets normal (IsNormal-in_range normal is_normal) set over part
            (record { proper = proper; keeps = keeps });
      };
      meets = All-nil (HoldsIn (extension normal set part));
    })
    (All-weaker (Contains []) (IsTrueIn (extension normal set part))
    (λ lit here. absurd (omega (arith, here.1))) core is.among)

-- ---- what was counted

-- the units of a history beside the clauses of the beginning
pub counted_within : (normal : Normal) (set : List Bool) (before after : Counted)
    (clauses : List (List Lit)) (added : List Added) → before.units ≡ []
    → clauses ≡ inner_clauses normal set
    → after ≡ record before { units = before.units ++ counted_clauses added }
    → IsHistoryOf (IsLocalWithin normal set) clauses added
    → All (All (IsOver (greatest_body_var normal))) after.units
    → HasCountedWithin normal set before after
counted_within normal set before after clauses added unused inner counts history over =
    let units : after.units ≡ counted_clauses added =
    ap (λ (it : Counted). it.units) counts
    ∙ ap (λ units. units ++ counted_clauses added) unused in
    record {
      limit = ap (λ (it : Counted). it.limit) counts;
      over = over;
      units =
          subst (λ base. AreUnits base after.units) inner
          (subst (AreUnits clauses) (sym units) (history_has_units clauses added history.history));
      refuted =
          subst (λ base. AreRefutedWith (IsLocalWithin normal set) base after.units) inner
          (subst (AreRefutedWith (IsLocalWithin normal set) clauses) (sym units)
          (history_is_refuted_by (IsLocalWithin normal set) clauses added history));
    }

-- ---- how the answers are read

module _ (normal : Normal) (set : List Bool) (trail : Assigned) (after : Counted) where
  -- those that came may come
  pub may_come : (answer : Answer)
      → (answer ≢ WantsMemory → IsAnswer (meaning_of normal set) [] [] after.limit trail answer)
      → (answer ≢ WantsMemory → IsCountedRight after.limit after answer) → MayCome answer
  may_come Model says counted = tt
  may_come (Core core) says counted = tt
  may_come UsedUp says counted = tt
  may_come (SpentInside inside units) says counted = (says (λ e. cc)).check.spent
  may_come Paused says counted =
      let over = counted (λ e. cc) in omega (arith, over.at_stop, over.limit)
  may_come WantsMemory says counted = tt

  -- they say what they should
  pub read_right : IsNormal normal → IsSetOver normal.atoms set → (answer : Answer)
      → (answer ≢ WantsMemory → IsAnswer (meaning_of normal set) [] [] after.limit trail answer)
      → (answer ≢ WantsMemory → IsCountedRight after.limit after answer)
      → HasAnswered normal set after (read_as normal trail answer)
  read_right is_normal over Model says counted = (
    model_smaller normal is_normal set over trail (says (λ e. cc)),
    (counted (λ e. cc)).limit,
  )
  read_right is_normal over (Core core) says counted = (
    core_minimal normal is_normal set over core (says (λ e. cc)),
    (counted (λ e. cc)).limit,
  )
  read_right is_normal over UsedUp says counted = counted (λ e. cc)
  read_right is_normal over (SpentInside inside units) says counted =
      absurd ((says (λ e. cc)).check.spent)
  read_right is_normal over Paused says counted =
      absurd (may_come Paused says counted)
  read_right is_normal over WantsMemory says counted = tt

  -- only want of memory is read as such
  pub read_alive : (answer : Answer) → read_as normal trail answer ≢ NoMemory
      → answer ≢ WantsMemory
  read_alive answer alive is = alive (ap (read_as normal trail) is)

  -- what is read from it
  pub read_says : {E : Type 0} → IsNormal normal → IsSetOver normal.atoms set → (answer : Answer)
      → (answer ≢ WantsMemory → IsAnswer (meaning_of normal set) [] [] after.limit trail answer)
      → (answer ≢ WantsMemory → IsCountedRight after.limit after answer)
      → (result : Result Minimality E) → IfOk result (λ it. it ≡ read_as normal trail answer)
      → IfOk result (HasAnswered normal set after)
  read_says is_normal over answer says counted (Ok it) is =
      subst (HasAnswered normal set after) (sym is)
      (read_right is_normal over answer says counted)
  read_says is_normal over answer says counted (Err e) is = tt

  -- and what was counted then
  pub read_counts : {E : Type 0} (before : Counted) (answer : Answer)
      → (answer ≢ WantsMemory → HasCountedWithin normal set before after)
      → (result : Result Minimality E) → IfOk result (λ it. it ≡ read_as normal trail answer)
      → IfOk result (λ it. it ≢ NoMemory → HasCountedWithin normal set before after)
  read_counts before answer counted (Ok it) is =
      λ alive. counted (read_alive answer (λ e. alive (is ∙ e)))
  read_counts before answer counted (Err e) is = tt
