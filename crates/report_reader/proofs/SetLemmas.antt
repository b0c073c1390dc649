-- Sets: the positions of a set make the set again, and what was made has these positions.
use Rattle.std.proofs.Common.{◌≡◌, ℕ, zero, suc, ◌+◌, ◌<◌, ◌≤◌, ◌^◌, Bool, true, false, eqb}
use Rattle.std.proofs.Common.{cond, List, [], ◌∷◌, length, refl, sym, ap, subst, ◌∙◌, arith}
use Rattle.std.specs.Prelude.{Option, Some}
use Rattle.std.proofs.lemmas.Bool.{ne_eqb, eqb-true, eq-eqb}
use Rattle.std.proofs.lemmas.Option.{same_Some}
use Rattle.report.specs.Text.{positions_from}
use Rattle.report_reader.specs.Lines.{IsSetOver}
use Rattle.report_reader.specs.Reading.{◌>>=◌, begins_with, without_first, values_at, set_at}
use Rattle.report_reader.proofs.FieldLemmas.{bind_is, no_some, AreSmall}

-- the positions of a set with fewer than 2^32 places have 32 bits
pub positions_small : (at : ℕ) (set : List Bool) → at + length set ≤ 2 ^ 32
    → AreSmall (positions_from at set)
positions_small at [] few = tt
positions_small at (true ∷ set) few =
    (omega (arith, few), positions_small (at + 1) set (omega (arith, few)))
positions_small at (false ∷ set) few = positions_small (at + 1) set (omega (arith, few))

-- positions from a later one on don't begin with this one
later_begins : (at low : ℕ) (set : List Bool) → at < low
    → begins_with at (positions_from low set) ≡ false
later_begins at low [] later = refl
later_begins at low (true ∷ set) later = ne_eqb low at (λ same. omega (arith, later, same))
later_begins at low (false ∷ set) later = later_begins at (low + 1) set (omega (arith, later))

later_without : (at low : ℕ) (set : List Bool) → at < low
    → without_first at (positions_from low set) ≡ positions_from low set
later_without at low [] later = refl
later_without at low (true ∷ set) later =
    let other : eqb low at ≡ false = ne_eqb low at (λ same. omega (arith, later, same)) in
    rw other refl
later_without at low (false ∷ set) later = later_without at (low + 1) set (omega (arith, later))

-- one more value before others
abbrev with_value : Bool → Option (List Bool) → Option (List Bool)
with_value holds values = values >>= (λ others. Some (holds ∷ others))

pub values_again : (at : ℕ) (set : List Bool)
    → values_at (length set) at (positions_from at set) ≡ Some set
unfolding values_at
values_again at [] = refl
values_again at (true ∷ set) =
    let same : eqb at at ≡ true = eq-eqb at at refl in
    rw same (ap (with_value true) (values_again (at + 1) set))
values_again at (false ∷ set) =
    let later : at < at + 1 = omega arith in
    ap
    (λ (numbers : List ℕ). with_value (begins_with at (positions_from (at + 1) set))
    (values_at (length set) (at + 1) numbers))
    (later_without at (at + 1) set later)
    ∙ ap
    (λ (holds : Bool). with_value holds
    (values_at (length set) (at + 1) (positions_from (at + 1) set)))
    (later_begins at (at + 1) set later)
    ∙ ap (with_value false) (values_again (at + 1) set)

-- the set over so many places has these positions
pub record HasPositions (count at : ℕ) (numbers : List ℕ) (set : List Bool) : Type 0 where
  pub positions : positions_from at set ≡ numbers
  pub size : length set ≡ count

first_back : (at : ℕ) (numbers : List ℕ) (others : List Bool)
    → positions_from (at + 1) others ≡ without_first at numbers
    → positions_from at (begins_with at numbers ∷ others) ≡ numbers
first_back at [] others e = e
first_back at (number ∷ rest) others e = first_by at number rest others (eqb number at) refl e
  where
    first_by : (at number : ℕ) (rest : List ℕ) (others : List Bool) (same : Bool)
        → eqb number at ≡ same
        → positions_from (at + 1) others ≡ cond (eqb number at) rest (number ∷ rest)
        → positions_from at (eqb number at ∷ others) ≡ number ∷ rest
    first_by at number rest others true is e =
        let tail : positions_from (at + 1) others ≡ rest =
        e ∙ ap (λ (b : Bool). cond b rest (number ∷ rest)) is in
        ap (λ (b : Bool). positions_from at (b ∷ others)) is
        ∙ ap (λ (ps : List ℕ). at ∷ ps) tail
        ∙ ap (λ (n : ℕ). n ∷ rest) (sym (eqb-true number at is))
    first_by at number rest others false is e =
        ap (λ (b : Bool). positions_from at (b ∷ others)) is
        ∙ (e ∙ ap (λ (b : Bool). cond b rest (number ∷ rest)) is)

pub values_take : (count at : ℕ) (numbers : List ℕ) (set : List Bool)
    → values_at count at numbers ≡ Some set → HasPositions count at numbers set
unfolding values_at
values_take zero at [] set e =
    subst (λ (s : List Bool). HasPositions 0 at [] s) (same_Some [] set e)
    (record { positions = refl; size = refl })
values_take zero at (number ∷ rest) set e = absurd (no_some set e)
values_take (suc count) at numbers set e =
    let others =
    bind_is (values_at count (at + 1) (without_first at numbers))
    (λ others. Some (begins_with at numbers ∷ others)) set e in
    let has =
    values_take count (at + 1) (without_first at numbers) others.item others.is in
    subst (λ (s : List Bool). HasPositions (suc count) at numbers s)
    (same_Some (begins_with at numbers ∷ others.item) set others.leads)
    (record {
      positions = first_back at numbers others.item has.positions;
      size = omega (arith, has.size);
    })

pub set_again : (atoms : ℕ) (set : List Bool) → IsSetOver atoms set
    → set_at atoms (positions_from 0 set) ≡ Some set
unfolding set_at
set_again atoms [] over = absurd (omega (arith, over.size))
set_again atoms (true ∷ set) over = absurd (let zero_is = over.zero in cc)
set_again atoms (false ∷ set) over =
    let size : length set ≡ atoms = omega (arith, over.size) in
    rw (← size) (ap (with_value false) (values_again 1 set))

-- the set over the atoms has these positions
pub record IsSetOf (atoms : ℕ) (numbers : List ℕ) (set : List Bool) : Type 0 where
  pub over : IsSetOver atoms set
  pub positions : positions_from 0 set ≡ numbers

pub set_takes : (atoms : ℕ) (numbers : List ℕ) (set : List Bool)
    → set_at atoms numbers ≡ Some set → IsSetOf atoms numbers set
unfolding set_at
set_takes atoms numbers set e =
    let values = bind_is (values_at atoms 1 numbers) (λ values. Some (false ∷ values)) set e in
    let has = values_take atoms 1 numbers values.item values.is in
    subst (λ (s : List Bool). IsSetOf atoms numbers s)
    (same_Some (false ∷ values.item) set values.leads)
    (record {
      over = record { size = omega (arith, has.size); zero = refl };
      positions = has.positions;
    })
