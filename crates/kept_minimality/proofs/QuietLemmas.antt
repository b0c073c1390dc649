-- On a total trail where no weight body gives a clause, weight bodies mean what they should.
use Rattle.std.proofs.Common.{◌≡◌, ◌≢◌, ◌≤◌, ◌<◌, ◌+◌, ℕ, Bool, true, false, not, cond, List}
use Rattle.std.proofs.Common.{get_or}
use Rattle.std.proofs.Common.{length, Some, None, slice_get, refl, sym, ap, ◌∙◌, subst, arith}
use Rattle.std.proofs.Common.{⊎_elim, leb, get_or-take}
use Rattle.std.specs.Prelude.{All, sum_by, if◌then◌else◌}
use Rattle.std.proofs.lemmas.Bool.{cases_Bool, cases_lt, le-leb, leb-true, true≢false}
use Rattle.std.proofs.lemmas.Option.{slice_get_within, get_or_from_slice_get}
use Rattle.ground_program.specs.declared.program.AtomLit.{AtomLit}
use Rattle.ground_program.specs.Meaning.{has, counts}
use Rattle.clause_store.specs.declared.literal.Value.TheVariants.{Yes, No}
use Rattle.clause_store.specs.Clause.{truth}
use Rattle.clause_store.specs.Trail.{Assigned, value_of, values_of}
use Rattle.normal_program.specs.declared.normal.Part.{Part}
use Rattle.normal_program.specs.declared.normal.BodyOf.{BodyOf}
use Rattle.normal_program.specs.declared.normal.Normal.{Normal}
use Rattle.normal_program.specs.Body.{part_weight, weight_of}
use Rattle.normal_program.specs.Normal.{body_var}
use Rattle.normal_program.specs.Clauses.{positive, literal_of}
use Rattle.normal_program.specs.Loop.{IsAtomOf}
use Rattle.normal_program.specs.Limit.{IsNormal}
use Rattle.normal_program.specs.Range.{IsInRange}
use Rattle.normal_program.specs.Models.{set_of, MeansWeightBodies}
use Rattle.item_list.proofs.ListLemmas.{sum_by-agree}
use Rattle.normal_program.proofs.RangeLemmas.{IsNormal-in_range}
use Rattle.normal_program.proofs.lemmas.Base.TruthLemmas.{makes_true-positive}
use Rattle.normal_program.proofs.lemmas.Base.TruthLemmas.{makes_true-literal_of}
use Rattle.normal_program.proofs.lemmas.Base.TruthLemmas.{variable-positive, variable-literal_of}
use Rattle.weight_propagator.specs.Gives.{value_in, if_true, unless_false, true_sum, open_sum}
use Rattle.weight_propagator.specs.Gives.{IsQuiet}
use Rattle.weight_propagator.specs.Gives.GivesBy.{reached, missed}
use Rattle.kept_minimality.specs.Total.{IsTotalOver}
use Rattle.kept_minimality.proofs.TotalLemmas.{value_is}

true_cell : (b : Bool) (weight : ℕ) → if_true (cond b Yes No) weight ≡ cond b weight 0
true_cell true weight = refl
true_cell false weight = refl

open_cell : (b : Bool) (weight : ℕ) → unless_false (cond b Yes No) weight ≡ cond b weight 0
open_cell true weight = refl
open_cell false weight = refl

module _ (normal : Normal) (trail : Assigned) (is : IsNormal normal)
    (total : IsTotalOver normal trail) where
  abbrev values : List Bool
  values = values_of trail

  abbrev set : List Bool
  set = set_of normal values

  pub in_range : IsInRange normal
  in_range = IsNormal-in_range normal is

  -- the atoms of the assignment are those of its set
  pub atom_read : (atom : ℕ) → atom ≤ normal.atoms → has set atom ≡ truth values atom
  atom_read atom low = get_or-take (normal.atoms + 1) values atom false (omega (arith, low))

  -- an atom is true exactly where it is in the set
  pub atom_value : (atom : ℕ) → IsAtomOf normal atom
      → value_of trail.steps (positive atom) ≡ cond (has set atom) Yes No
  atom_value atom here =
      let var = variable-positive atom in
      value_is trail total.total (positive atom)
      (record {
        first = omega (arith, var, here.first);
        last = omega (arith, var, here.last, total.over);
      })
      ∙ ap (λ b. cond b Yes No) (makes_true-positive values atom ∙ sym (atom_read atom here.last))

  -- and a literal of a body exactly where it counts
  pub part_value : (lit : AtomLit) → IsAtomOf normal lit.atom
      → value_of trail.steps (literal_of lit) ≡ cond (counts set set lit) Yes No
  part_value lit here =
      let var = variable-literal_of lit in
      value_is trail total.total (literal_of lit)
      (record {
        first = omega (arith, var, here.first);
        last = omega (arith, var, here.last, total.over);
      })
      ∙ ap (λ b. cond b Yes No)
      (makes_true-literal_of values lit
      ∙ ap (λ t. if lit.negated then not t else t) (sym (atom_read lit.atom here.last)))

  pub body_value : (number : ℕ) → number < length normal.bodies
      → value_of trail.steps (positive (body_var normal number))
      ≡ cond (truth values (body_var normal number)) Yes No
  body_value number within =
      let var = variable-positive (body_var normal number) in
      value_is trail total.total (positive (body_var normal number))
      (record {
        first = omega (arith, var);
        last = omega (arith, var, within, total.over);
      })
      ∙ ap (λ b. cond b Yes No) (makes_true-positive values (body_var normal number))

  -- the atoms of a body
  pub atoms_of_body : (number : ℕ) (body : BodyOf) → slice_get normal.bodies number ≡ Some body
      → All (λ (part : Part). IsAtomOf normal part.lit.atom) body.parts
  atoms_of_body number body here =
      subst (λ (one : BodyOf). All (λ (part : Part). IsAtomOf normal part.lit.atom) one.parts)
      (get_or_from_slice_get normal.bodies number body body here)
      (in_range.parts number body (slice_get_within normal.bodies number body here))

  sums_true : (parts : List Part) → All (λ (part : Part). IsAtomOf normal part.lit.atom) parts
      → true_sum (λ (part : Part). value_in None trail.steps part.lit)
      (λ (part : Part). part.weight) parts
      ≡ sum_by (part_weight set set) parts
  sums_true parts atoms =
      sum_by-agree
      (λ (part : Part). if_true (value_in None trail.steps part.lit) part.weight)
      (part_weight set set) parts
      (λ k d within. let part = get_or parts k d in
      ap (λ value. if_true value part.weight) (part_value part.lit (atoms k d within))
      ∙ true_cell (counts set set part.lit) part.weight)

  sums_open : (parts : List Part) → All (λ (part : Part). IsAtomOf normal part.lit.atom) parts
      → open_sum (λ (part : Part). value_in None trail.steps part.lit)
      (λ (part : Part). part.weight) parts
      ≡ sum_by (part_weight set set) parts
  sums_open parts atoms =
      sum_by-agree
      (λ (part : Part). unless_false (value_in None trail.steps part.lit) part.weight)
      (part_weight set set) parts
      (λ k d within. let part = get_or parts k d in
      ap (λ value. unless_false value part.weight) (part_value part.lit (atoms k d within))
      ∙ open_cell (counts set set part.lit) part.weight)

  on_isnt : (b : Bool) → b ≡ true → cond b Yes No ≢ No
  on_isnt true is_on same = cc
  on_isnt false is_on same = true≢false (sym is_on)

  off_isnt : (b : Bool) → b ≡ false → cond b Yes No ≢ Yes
  off_isnt true is_off same = true≢false is_off
  off_isnt false is_off same = cc

  pub quiet_means : IsQuiet None normal trail.steps → MeansWeightBodies normal values
  quiet_means quiet number body here weight =
      let within = slice_get_within normal.bodies number body here in
      let atoms = atoms_of_body number body here in
      let var = truth values (body_var normal number) in
      ⊎_elim
      (λ low. ⊎_elim
      (λ on. absurd
      (quiet number body here weight
      (missed (omega (arith, low, sums_open body.parts atoms))
      (λ no. on_isnt var on (sym (body_value number within) ∙ no)))))
      (λ off. off ∙ sym (low_leb body.bound (weight_of set set body) low))
      (cases_Bool var))
      (λ enough. ⊎_elim
      (λ on. on ∙ sym (le-leb body.bound (weight_of set set body) enough))
      (λ off. absurd
      (quiet number body here weight
      (reached (omega (arith, enough, sums_true body.parts atoms))
      (λ is_yes. off_isnt var off (sym (body_value number within) ∙ is_yes)))))
      (cases_Bool var))
      (cases_lt (weight_of set set body) body.bound)
    where
      low_leb : (bound sum : ℕ) → sum < bound → leb bound sum ≡ false
      low_leb bound sum low =
          ⊎_elim (λ on. absurd (omega (arith, low, leb-true bound sum on))) (λ off. off)
          (cases_Bool (leb bound sum))
