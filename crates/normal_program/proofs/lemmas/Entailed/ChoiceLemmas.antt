-- Which selectors a clause is entailed with, by the variables that it has.
use Rattle.std.proofs.Common.{◌≡◌, ◌<◌, ◌+◌, ◌↔◌, Bool, true, false, not, List, [], ◌∷◌, ◌++◌}
use Rattle.std.proofs.Common.{length}
use Rattle.std.proofs.Common.{length-append, append_assoc, map, All, refl, sym, ap, subst}
use Rattle.std.proofs.Common.{◌∙◌, arith, if◌then◌else◌, ⊎_elim, true≢false}
use Rattle.std.specs.List.{AllZip}
use Rattle.std.proofs.lemmas.List.{get_or_append_left, length-map}
use Rattle.std.proofs.lemmas.List.Elements.{All-contains}
use Rattle.std.proofs.lemmas.Option.{slice_get_within, get_or_from_slice_get}
use Rattle.ground_program.specs.Meaning.{IsSetOver}
use Rattle.clause_store.specs.declared.literal.Lit.{Lit}
use Rattle.clause_store.specs.Clause.{variable, is_negated, makes_true, HoldsIn, IsOver}
use Rattle.normal_program.specs.declared.normal.BodyOf.{BodyOf}
use Rattle.normal_program.specs.declared.normal.Normal.{Normal}
use Rattle.normal_program.specs.Body.{body_holds}
use Rattle.normal_program.specs.Normal.{greatest_body_var, extension}
use Rattle.normal_program.specs.Clauses.{AreChosen, IsEntailed}
use Rattle.normal_program.specs.Loop.{IsAtomOf, FollowsFromBody}
use Rattle.normal_program.specs.Range.{IsInRange}
use Rattle.item_list.proofs.ListLemmas.{AllZip-length}

-- a pairing with two lists in a row pairs the first with a front
pub AllZip-front : {X Y : Type 0} (R : X → Y → Type 0) (xs more : List X) (ys : List Y)
    → AllZip R (xs ++ more) ys
    → (front : List Y) × (back : List Y) × (ys ≡ front ++ back) × AllZip R xs front
AllZip-front R [] more ys all = ([], ys, refl, tt)
AllZip-front R (x ∷ xs) more [] all = absurd all
AllZip-front R (x ∷ xs) more (y ∷ ys) all =
    let rest = AllZip-front R xs more ys all.1 in
    (y ∷ rest.0, rest.1, ap (λ l. y ∷ l) rest.2, (all.0, rest.3))

module _ (values more : List Bool) (clause : List Lit)
    (low : All (λ lit. variable lit < length values) clause) where
  makes_true-front : (lit : Lit) → variable lit < length values
      → makes_true (values ++ more) lit ≡ makes_true values lit
  makes_true-front lit under =
      ap (λ t. if is_negated lit then not t else t)
      (get_or_append_left values more false (variable lit) under)

  -- a clause that holds goes on holding when more variables follow
  pub HoldsIn-longer : HoldsIn values clause → HoldsIn (values ++ more) clause
  HoldsIn-longer some =
      let under =
      All-contains (λ lit. variable lit < length values) clause some.1 low
      (some.0, some.2, some.3) in
      (some.0, some.1, some.2, some.3, makes_true-front some.1 under ∙ some.4)

  -- and holds without those that it doesn't have
  pub HoldsIn-front : HoldsIn (values ++ more) clause → HoldsIn values clause
  HoldsIn-front some =
      let under =
      All-contains (λ lit. variable lit < length values) clause some.1 low
      (some.0, some.2, some.3) in
      (some.0, some.1, some.2, some.3, sym (makes_true-front some.1 under) ∙ some.4)

-- the extension has a value for each atom and body, and one more
pub length-extension : (normal : Normal) (by set : List Bool) → IsSetOver normal.atoms set
    → length (extension normal by set) ≡ normal.atoms + 1 + length normal.bodies
length-extension normal by set over =
    omega (
      arith,
      over.positions,
      length-append set (map (body_holds by set) normal.bodies),
      length-map normal.bodies (body_holds by set),
    )

-- all selectors off
abbrev pub all_off : List (List Lit) → List Bool
all_off [] = []
all_off (any ∷ rest) = false ∷ all_off rest

AreChosen-off : (values : List Bool) (disjunctions : List (List Lit))
    → AreChosen values disjunctions (all_off disjunctions)
AreChosen-off values [] = tt
AreChosen-off values (any ∷ rest) =
    (λ on. absurd (true≢false (sym on)), AreChosen-off values rest)

-- a clause over the selectors in use stays entailed when more come into use
pub entailed-more : (normal : Normal) (disjunctions more : List (List Lit)) (clause : List Lit)
    → All (IsOver (greatest_body_var normal + length disjunctions)) clause
    → IsEntailed normal disjunctions clause → IsEntailed normal (disjunctions ++ more) clause
entailed-more normal disjunctions more clause over entailed set chosen answer are_chosen =
    let values = extension normal set set in
    let R : List Lit → Bool → Type 0 = λ any on. on ≡ true → HoldsIn values any in
    let parts = AllZip-front R disjunctions more chosen are_chosen in
    let front = parts.0 in
    let low : All (λ lit. variable lit < length (values ++ front)) clause =
    λ k d h. omega (
      arith,
      (over k d h).last,
      length-append values front,
      length-extension normal set set answer.over,
      AllZip-length R disjunctions front parts.3,
    ) in
    let holds : HoldsIn ((values ++ front) ++ parts.1) clause =
    HoldsIn-longer (values ++ front) parts.1 clause low (entailed set front answer parts.3) in
    subst (λ more_chosen. HoldsIn (values ++ more_chosen) clause) (sym parts.2)
    (subst (λ all. HoldsIn all clause) (append_assoc values front parts.1) holds)

-- a clause without selectors is entailed with any disjunctions or with none
pub entailed-without_selectors : (normal : Normal) (disjunctions : List (List Lit))
    (clause : List Lit) → All (IsOver (greatest_body_var normal)) clause
    → IsEntailed normal [] clause ↔ IsEntailed normal disjunctions clause
entailed-without_selectors normal disjunctions clause over = (
  entailed-more normal [] disjunctions clause (λ k d h. record {
    first = (over k d h).first;
    last = omega (arith, (over k d h).last);
  }),
  λ entailed set chosen answer are_chosen.
      let values = extension normal set set in
      let low : All (λ lit. variable lit < length values) clause =
      λ k d h. omega (
        arith,
        (over k d h).last,
        length-extension normal set set answer.over,
      ) in
      HoldsIn-longer values chosen clause low
      (HoldsIn-front values (all_off disjunctions) clause low
      (entailed set (all_off disjunctions) answer (AreChosen-off values disjunctions))),
)

-- a clause that follows from a body is entailed
pub body_clause-entailed : (normal : Normal) → IsInRange normal → (clause : List Lit)
    (disjunctions : List (List Lit)) → FollowsFromBody normal clause
    → IsEntailed normal disjunctions clause
body_clause-entailed normal in_range clause disjunctions follows set chosen answer are_chosen =
    let number = follows.one.0 in
    let body = follows.one.1 in
    let speaks = follows.one.2 in
    let within : number < length normal.bodies =
    slice_get_within normal.bodies number body speaks.here in
    let parts : All (λ part. IsAtomOf normal part.lit.atom) body.parts =
    subst (λ (one : BodyOf). All (λ part. IsAtomOf normal part.lit.atom) one.parts)
    (get_or_from_slice_get normal.bodies number body body speaks.here)
    (in_range.parts number body within) in
    let size = length-extension normal set set answer.over in
    HoldsIn-longer (extension normal set set) chosen clause
    (λ k d h. ⊎_elim (λ same. omega (arith, same, within, size))
    (λ some.
    let atom : IsAtomOf normal some.1.lit.atom =
    All-contains (λ part. IsAtomOf normal part.lit.atom) body.parts some.1 parts
    (some.0, some.2, some.3) in
    omega (arith, some.4, atom.last, size)) (speaks.only k d h))
    (follows.holds set answer.over)
