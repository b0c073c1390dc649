-- How a clause stands with one more literal, and which clauses are quiet.
use Rattle.std.proofs.Common.{◌≡◌, ◌≢◌, ℕ, ◌+◌, ◌<◌, ◌⊎◌, List, [], ◌∷◌, ◌++◌, length, take, get_or}
use Rattle.std.proofs.Common.{refl, sym, ap, ◌∙◌, subst, inl, inr, arith, length-take}
use Rattle.std.proofs.lemmas.List.{take_more, get_or-take, get_or_default}
use Rattle.std.specs.Prelude.{All, Any}
use Rattle.std.proofs.lemmas.List.Elements.{All-contains, All-push, All-weaker}
use Rattle.std.proofs.lemmas.List.Elements.{Contains-append_left, Contains-push}
use Rattle.clause_store.specs.declared.literal.Lit.{Lit}
use Rattle.clause_store.specs.declared.literal.Value.{Value}
use Rattle.clause_store.specs.declared.literal.Value.TheVariants.{Yes, No, Unset}
use Rattle.clause_store.specs.declared.step.Step.{Step}
use Rattle.clause_store.specs.Clause.{variable, HasNoVariableTwice}
use Rattle.clause_store.specs.Trail.{value_of}
use Rattle.clause_store.specs.Standing.{IsFalseOn, ForcesOn}
use Rattle.clause_store.proofs.LiteralLemmas.{cases_lit}
use Rattle.watched_literals.specs.declared.standing.Standing.{Standing}
use Rattle.watched_literals.specs.declared.standing.Standing.TheVariants.{Satisfied, Open}
use Rattle.watched_literals.specs.declared.standing.Standing.TheVariants.{Unit as UnitLit, False}
use Rattle.propagator.specs.Fixpoint.{IsQuietOn}
use Rattle.watched_literals.specs.Standings.{HasNoneTrue, IsOpenOn, IsStanding}

-- one more literal that isn't true
pub none_true_push : (steps : List Step) (clause : List Lit) (lit : Lit) → HasNoneTrue steps clause
    → value_of steps lit ≢ Yes → HasNoneTrue steps (clause ++ lit ∷ [])
none_true_push steps clause lit none not_yes =
    All-push (λ l. value_of steps l ≢ Yes) clause lit none not_yes

some_and_none : (steps : List Step) (clause : List Lit) → HasNoneTrue steps clause
    → Any (λ lit. value_of steps lit ≡ Yes) clause → ⊥
some_and_none steps clause none some =
    none some.0 some.1 some.2 (subst (λ l. value_of steps l ≡ Yes) (sym some.3) some.4)

-- an open clause stays open with a literal that isn't true
open_push : (steps : List Step) (clause : List Lit) (lit : Lit) → HasNoneTrue steps clause
    → value_of steps lit ≢ Yes → IsOpenOn steps clause → IsOpenOn steps (clause ++ lit ∷ [])
open_push steps clause lit none not_yes is =
    record {
      none_true = none_true_push steps clause lit none not_yes;
      one = is.one;
      two = is.two;
      differ = is.differ;
      one_here = Contains-append_left clause (lit ∷ []) is.one is.one_here;
      two_here = Contains-append_left clause (lit ∷ []) is.two is.two_here;
      one_unset = is.one_unset;
      two_unset = is.two_unset;
    }

-- a false literal changes nothing
pub stands_with_false : (steps : List Step) (clause : List Lit) (lit : Lit) (standing : Standing)
    → HasNoneTrue steps clause → value_of steps lit ≡ No
    → IsStanding steps clause standing → IsStanding steps (clause ++ lit ∷ []) standing
stands_with_false steps clause lit Satisfied none is_no is =
    absurd (some_and_none steps clause none is)
stands_with_false steps clause lit Open none is_no is =
    open_push steps clause lit none (λ is_yes. cc) is
stands_with_false steps clause lit (UnitLit first) none is_no is =
    record {
      here = Contains-append_left clause (lit ∷ []) first is.here;
      unset = is.unset;
      others =
          All-push (λ o. o ≢ first → value_of steps o ≡ No) clause lit is.others (λ differ. is_no);
    }
stands_with_false steps clause lit False none is_no is =
    All-push (λ l. value_of steps l ≡ No) clause lit is is_no

-- the first unset literal is the one of a unit
pub stands_with_first : (steps : List Step) (clause : List Lit) (lit : Lit) → IsFalseOn steps clause
    → value_of steps lit ≡ Unset → ForcesOn steps (clause ++ lit ∷ []) lit
stands_with_first steps clause lit all_false unset =
    record {
      here = Contains-push clause lit;
      unset = unset;
      others =
          All-push (λ o. o ≢ lit → value_of steps o ≡ No) clause lit
          (All-weaker (λ o. value_of steps o ≡ No) (λ o. o ≢ lit → value_of steps o ≡ No)
          (λ o is_no differ. is_no) clause all_false)
          (λ differ. absurd (differ refl));
    }

-- a second one leaves the clause open
pub stands_with_second : (steps : List Step) (clause : List Lit) (lit : Lit) (standing : Standing)
    → HasNoneTrue steps clause → value_of steps lit ≡ Unset
    → All (λ other. other ≢ lit) clause → standing ≢ False → IsStanding steps clause standing
    → IsOpenOn steps (clause ++ lit ∷ [])
stands_with_second steps clause lit Satisfied none unset apart some is =
    absurd (some_and_none steps clause none is)
stands_with_second steps clause lit Open none unset apart some is =
    open_push steps clause lit none (λ is_yes. cc) is
stands_with_second steps clause lit (UnitLit first) none unset apart some is =
    record {
      none_true = none_true_push steps clause lit none (λ is_yes. cc);
      one = first;
      two = lit;
      differ = All-contains (λ o. o ≢ lit) clause first apart is.here;
      one_here = Contains-append_left clause (lit ∷ []) first is.here;
      two_here = Contains-push clause lit;
      one_unset = is.unset;
      two_unset = unset;
    }
stands_with_second steps clause lit False none unset apart some is = absurd (some refl)

-- a clause with a true literal is quiet
pub quiet_satisfied : (steps : List Step) (clause : List Lit)
    → Any (λ lit. value_of steps lit ≡ Yes) clause → IsQuietOn steps clause
quiet_satisfied steps clause (k, x, within, is, is_yes) =
    record {
      not_false =
          λ all_false.
          (let is_no : value_of steps x ≡ No =
          All-contains (λ l. value_of steps l ≡ No) clause x all_false (k, within, is) in
          cc);
      not_unit = λ lit unit. (elim (cases_lit x lit) [
        | inl same ↦
            (let unset : value_of steps x ≡ Unset =
            subst (λ l. value_of steps l ≡ Unset) (sym same) unit.unset in cc)
        | inr differ ↦
            (let is_no : value_of steps x ≡ No =
            All-contains (λ o. o ≢ lit → value_of steps o ≡ No) clause x unit.others
            (k, within, is) differ in cc)
      ]);
    }

-- and so is an open one
pub quiet_open : (steps : List Step) (clause : List Lit) → IsOpenOn steps clause
    → IsQuietOn steps clause
quiet_open steps clause is =
    record {
      not_false =
          λ all_false.
          (let is_no : value_of steps is.one ≡ No =
          All-contains (λ l. value_of steps l ≡ No) clause is.one all_false is.one_here in
          cc (is_no, is.one_unset));
      not_unit = λ lit unit. (elim (cases_lit is.one lit) [
        | inl same ↦
            (let is_no : value_of steps is.two ≡ No =
            All-contains (λ o. o ≢ lit → value_of steps o ≡ No) clause is.two unit.others
            is.two_here (λ two. is.differ (subst (λ l. is.one ≡ l) (sym two) same)) in
            cc (is_no, is.two_unset))
        | inr differ ↦
            (let is_no : value_of steps is.one ≡ No =
            All-contains (λ o. o ≢ lit → value_of steps o ≡ No) clause is.one unit.others
            is.one_here differ in cc (is_no, is.one_unset))
      ]);
    }

-- ---- the first literals of a clause

-- one more literal, which is false
pub stands_more_false : (steps : List Step) (clause : List Lit) (i : ℕ) (d : Lit)
    (standing : Standing) (value : Value) → i < length clause
    → value ≡ value_of steps (get_or clause i d) → value ≡ No
    → HasNoneTrue steps (take i clause) × IsStanding steps (take i clause) standing
    → HasNoneTrue steps (take (i + 1) clause) × IsStanding steps (take (i + 1) clause) standing
stands_more_false steps clause i d standing value within is false stands =
    let is_no : value_of steps (get_or clause i d) ≡ No = sym is ∙ false in
    subst (λ front. HasNoneTrue steps front × IsStanding steps front standing)
    (sym (take_more clause i d within)) (
      none_true_push steps (take i clause) (get_or clause i d) stands.0 (λ is_yes. cc),
      stands_with_false steps (take i clause) (get_or clause i d) standing stands.0 is_no
          stands.1,
    )

-- the literals before a place of a clause differ from the one there
apart_before : (clause : List Lit) (i : ℕ) (d : Lit) → HasNoVariableTwice clause → i < length clause
    → All (λ other. other ≢ get_or clause i d) (take i clause)
apart_before clause i d once within k e lt same =
    let before : k < i = omega (arith, length-take i clause) in
    once k i e before within
    (ap variable
    (sym (get_or-take i clause k e before) ∙ same ∙ get_or_default clause i d e within))

-- one more literal, which is unset
pub stands_more_unset : (steps : List Step) (clause : List Lit) (i : ℕ) (d : Lit)
    (standing next : Standing) (value : Value) → HasNoVariableTwice clause → i < length clause
    → value ≡ value_of steps (get_or clause i d) → value ≡ Unset
    → (standing ≡ False → next ≡ UnitLit (get_or clause i d)) → (standing ≢ False → next ≡ Open)
    → HasNoneTrue steps (take i clause) × IsStanding steps (take i clause) standing
    → HasNoneTrue steps (take (i + 1) clause) × IsStanding steps (take (i + 1) clause) next
stands_more_unset steps clause i d standing next value once within is free first later stands =
    subst (λ front. HasNoneTrue steps front × IsStanding steps front next)
    (sym (take_more clause i d within)) (
      none_true_push steps (take i clause) (get_or clause i d) stands.0 (λ is_yes. cc),
      go standing first later stands.1,
    )
  where
    unset : value_of steps (get_or clause i d) ≡ Unset
    unset = sym is ∙ free

    open_now : (s : Standing) → s ≢ False → next ≡ Open → IsStanding steps (take i clause) s
        → IsStanding steps (take i clause ++ get_or clause i d ∷ []) next
    open_now s some same stand =
        subst (IsStanding steps (take i clause ++ get_or clause i d ∷ [])) (sym same)
        (stands_with_second steps (take i clause) (get_or clause i d) s stands.0 unset
        (apart_before clause i d once within) some stand)

    go : (s : Standing) → (s ≡ False → next ≡ UnitLit (get_or clause i d))
        → (s ≢ False → next ≡ Open) → IsStanding steps (take i clause) s
        → IsStanding steps (take i clause ++ get_or clause i d ∷ []) next
    go False first later stand =
        subst (IsStanding steps (take i clause ++ get_or clause i d ∷ [])) (sym (first refl))
        (stands_with_first steps (take i clause) (get_or clause i d) stand unset)
    go Satisfied first later stand = open_now Satisfied (λ e. cc) (later (λ e. cc)) stand
    go Open first later stand = open_now Open (λ e. cc) (later (λ e. cc)) stand
    go (UnitLit one) first later stand = open_now (UnitLit one) (λ e. cc) (later (λ e. cc)) stand

-- a clause that is satisfied or open is quiet
pub quiet_from : (steps : List Step) (clause : List Lit) (standing : Standing)
    → (standing ≡ Satisfied) ⊎ (standing ≡ Open) → IsStanding steps clause standing
    → IsQuietOn steps clause
quiet_from steps clause standing which is =
    elim which [
      | inl same ↦ quiet_satisfied steps clause (subst (IsStanding steps clause) same is)
      | inr same ↦ quiet_open steps clause (subst (IsStanding steps clause) same is)
    ]
