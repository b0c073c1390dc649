-- Where no weight body gives a clause on a total trail, each means what it should.
use Rattle.std.proofs.Common.{◌≡◌, ◌≢◌, ◌≤◌, ◌<◌, ℕ, Bool, true, false, not, cond, List}
use Rattle.std.proofs.Common.{length, get_or, Some, refl, sym, ap, ◌∙◌, subst}
use Rattle.std.proofs.Common.{inl, inr, arith}
use Rattle.std.specs.Prelude.{All, sum_by, if◌then◌else◌}
use Rattle.std.proofs.lemmas.Bool.{cases_lt, le-leb, lt-leb}
use Rattle.std.proofs.lemmas.Option.{slice_get_within, get_or_from_slice_get}
use Rattle.item_list.proofs.ListLemmas.{sum_by-agree}
use Rattle.ground_program.specs.declared.program.AtomLit.{AtomLit}
use Rattle.ground_program.specs.Meaning.{has, counts}
use Rattle.clause_store.specs.declared.literal.Value.{Value}
use Rattle.clause_store.specs.declared.literal.Value.TheVariants.{Yes, No, Unset}
use Rattle.clause_store.specs.Trail.{Assigned, IsTotal, value_of, is_yes, values_of}
use Rattle.normal_program.specs.declared.normal.Part.{Part}
use Rattle.normal_program.specs.declared.normal.BodyOf.{BodyOf}
use Rattle.normal_program.specs.declared.normal.Normal.{Normal}
use Rattle.normal_program.specs.Body.{part_weight, weight_of, body_holds}
use Rattle.normal_program.specs.Normal.{body_var, greatest_body_var}
use Rattle.normal_program.specs.Clauses.{positive, negative}
use Rattle.normal_program.specs.Loop.{IsAtomOf}
use Rattle.normal_program.specs.Models.{set_of, MeansWeightBodiesWithin}
use Rattle.normal_program.specs.Range.{IsInRange}
use Rattle.weight_propagator.specs.Gives.{value_in, if_true, unless_false, Gives}
use Rattle.weight_propagator.specs.Gives.{IsQuiet}
use Rattle.weight_propagator.specs.Gives.GivesBy.{reached, missed}
use Rattle.minimality_test.proofs.TotalLemmas.{truth_on, valued, has_atom}

-- what a literal with a value adds, and what it may add
true_cell : (value : Value) (weight : ℕ) (b : Bool) → value ≢ Unset → is_yes value ≡ b
    → if_true value weight ≡ cond b weight 0
true_cell Yes weight b set is = ap (λ c. cond c weight 0) is
true_cell No weight b set is = ap (λ c. cond c weight 0) is
true_cell Unset weight b set is = absurd (set refl)

open_cell : (value : Value) (weight : ℕ) (b : Bool) → value ≢ Unset → is_yes value ≡ b
    → unless_false value weight ≡ cond b weight 0
open_cell Yes weight b set is = ap (λ c. cond c weight 0) is
open_cell No weight b set is = ap (λ c. cond c weight 0) is
open_cell Unset weight b set is = absurd (set refl)

-- a literal that the set judges has a value
judged_set : (b : Bool) → (if b then No else Yes) ≢ Unset
judged_set true = λ e. cc
judged_set false = λ e. cc

judged_is : (b : Bool) → is_yes (if b then No else Yes) ≡ not b
judged_is true = refl
judged_is false = refl

module _ (normal : Normal) (in_range : IsInRange normal) (set : List Bool) (trail : Assigned)
    (total : IsTotal trail) (range : greatest_body_var normal ≤ trail.vars) where
  abbrev value : AtomLit → Value
  value lit = value_in (Some set) trail.steps lit

  atom_on : (atom : ℕ) → atom ≤ normal.atoms
      → is_yes (value_of trail.steps (positive atom))
      ≡ has (set_of normal (values_of trail)) atom
  atom_on atom low =
      sym (truth_on trail atom (omega (arith, low, range)))
      ∙ sym (has_atom normal (values_of trail) atom low)

  lit_set : (lit : AtomLit) → IsAtomOf normal lit.atom → value lit ≢ Unset
  lit_set lit is = go lit.negated
    where
      go : (b : Bool)
          → (if b then (if has set lit.atom then No else Yes)
          else value_of trail.steps (if b then negative lit.atom else positive lit.atom)) ≢ Unset
      go true = judged_set (has set lit.atom)
      go false = valued trail total lit.atom is.first (omega (arith, is.last, range))

  lit_is : (lit : AtomLit) → IsAtomOf normal lit.atom
      → is_yes (value lit) ≡ counts set (set_of normal (values_of trail)) lit
  lit_is lit is = go lit.negated
    where
      go : (b : Bool)
          → is_yes (if b then (if has set lit.atom then No else Yes)
          else value_of trail.steps (if b then negative lit.atom else positive lit.atom))
          ≡ (if b then not (has set lit.atom) else has (set_of normal (values_of trail)) lit.atom)
      go true = judged_is (has set lit.atom)
      go false = atom_on lit.atom is.last

  true_is : (parts : List Part) → All (λ part. IsAtomOf normal part.lit.atom) parts
      → sum_by (λ (part : Part). if_true (value part.lit) part.weight) parts
      ≡ sum_by (part_weight set (set_of normal (values_of trail))) parts
  true_is parts atoms =
      sum_by-agree (λ (part : Part). if_true (value part.lit) part.weight)
      (part_weight set (set_of normal (values_of trail))) parts
      (λ k d within.
      let part = get_or parts k d in
      true_cell (value part.lit) part.weight
      (counts set (set_of normal (values_of trail)) part.lit)
      (lit_set part.lit (atoms k d within)) (lit_is part.lit (atoms k d within)))

  open_is : (parts : List Part) → All (λ part. IsAtomOf normal part.lit.atom) parts
      → sum_by (λ (part : Part). unless_false (value part.lit) part.weight) parts
      ≡ sum_by (part_weight set (set_of normal (values_of trail))) parts
  open_is parts atoms =
      sum_by-agree (λ (part : Part). unless_false (value part.lit) part.weight)
      (part_weight set (set_of normal (values_of trail))) parts
      (λ k d within.
      let part = get_or parts k d in
      open_cell (value part.lit) part.weight
      (counts set (set_of normal (values_of trail)) part.lit)
      (lit_set part.lit (atoms k d within)) (lit_is part.lit (atoms k d within)))

  -- where it gives no clause, its variable says whether it holds
  quiet_body : (number : ℕ) (body : BodyOf) → All (λ part. IsAtomOf normal part.lit.atom) body.parts
      → ¬ Gives (Some set) trail.steps (body_var normal number) body
      → is_yes (value_of trail.steps (positive (body_var normal number)))
      ≡ body_holds set (set_of normal (values_of trail)) body
  quiet_body number body atoms quiet =
      elim (cases_lt (weight_of set (set_of normal (values_of trail)) body) body.bound) [
        | inl short ↦
            missing (value_of trail.steps (positive (body_var normal number)))
            (λ not_no. quiet (missed (omega (arith, short, open_is body.parts atoms)) not_no))
            ∙ sym (lt-leb body.bound (weight_of set (set_of normal (values_of trail)) body) short)
        | inr enough ↦
            reaching (value_of trail.steps (positive (body_var normal number)))
            (λ not_yes. quiet (reached (omega (arith, enough, true_is body.parts atoms)) not_yes))
            ∙ sym (le-leb body.bound (weight_of set (set_of normal (values_of trail)) body) enough)
      ]
    where
      reaching : (it : Value) → (it ≢ Yes → ⊥) → is_yes it ≡ true
      reaching Yes must = refl
      reaching No must = absurd (must (λ e. cc))
      reaching Unset must = absurd (must (λ e. cc))

      missing : (it : Value) → (it ≢ No → ⊥) → is_yes it ≡ false
      missing Yes must = absurd (must (λ e. cc))
      missing No must = refl
      missing Unset must = absurd (must (λ e. cc))

  -- so where none gives a clause
  pub quiet_means : IsQuiet (Some set) normal trail.steps
      → MeansWeightBodiesWithin normal set (values_of trail)
  quiet_means quiet number body here weight =
      let within : number < length normal.bodies =
      slice_get_within normal.bodies number body here in
      truth_on trail (body_var normal number) (omega (arith, within, range))
      ∙ quiet_body number body
      (subst (λ (one : BodyOf). All (λ (part : Part). IsAtomOf normal part.lit.atom) one.parts)
      (get_or_from_slice_get normal.bodies number body body here)
      (in_range.parts number body within))
      (quiet number body here weight)
