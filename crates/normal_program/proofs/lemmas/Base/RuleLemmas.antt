-- What the clause of a rule says, in an assignment that reads a set.
use Rattle.std.proofs.Common.{◌≡◌, ◌≤◌, ◌<◌, ℕ, Bool, true, false, not, List, [], ◌∷◌, Option, Some}
use Rattle.std.proofs.Common.{None, IsSomeAnd, slice_get, length, get_or, map, All, Any, refl, sym}
use Rattle.std.proofs.Common.{ap, subst, ◌∙◌, arith, ⊎_elim, true≢false}
use Rattle.std.proofs.lemmas.List.{get_or_default}
use Rattle.std.proofs.lemmas.Option.{slice_get-get_or}
use Rattle.std.proofs.lemmas.Bool.{cases_Bool, both_ways, leb-true, le-leb}
use Rattle.std.proofs.lemmas.List.Elements.{All-contains}
use Rattle.ground_program.specs.declared.program.Kind.{Kind}
use Rattle.ground_program.specs.declared.program.Kind.TheVariants.{Basic, Constraint, Choice}
use Rattle.ground_program.specs.declared.program.Kind.TheVariants.{Weight, Disjunctive}
use Rattle.ground_program.specs.Meaning.{has, IsIn, HeadHolds}
use Rattle.ground_program.specs.Program.{HeadsFit}
use Rattle.clause_store.specs.Clause.{truth, makes_true, HoldsIn}
use Rattle.clause_store.proofs.LiteralLemmas.{has_mapped, mapped_from, any_from}
use Rattle.normal_program.specs.declared.normal.BodyOf.{BodyOf}
use Rattle.normal_program.specs.declared.normal.NormalRule.{NormalRule}
use Rattle.normal_program.specs.declared.normal.Normal.{Normal}
use Rattle.normal_program.specs.Body.{body_holds, weight_of, BodyHoldsN}
use Rattle.normal_program.specs.Normal.{body_var, RuleBodyHolds, KeepsN}
use Rattle.normal_program.specs.Clauses.{positive, negative, is_choice}
use Rattle.normal_program.specs.Loop.{IsAtomOf}
use Rattle.item_list.proofs.ListLemmas.{IsSomeAnd-found}
use Rattle.normal_program.proofs.lemmas.Base.TruthLemmas.{makes_true-positive, makes_true-negative}
use Rattle.normal_program.proofs.lemmas.Base.TruthLemmas.{HoldsIn-here}
use Rattle.normal_program.proofs.lemmas.Base.TruthLemmas.{HoldsIn-there, HoldsIn-cases, HoldsIn-by}

-- an assignment reads a set: the variables of atoms and bodies are as in the extension of the set
pub record Reads (normal : Normal) (values set : List Bool) : Type 0 where
  pub atoms : (atom : ℕ) → atom ≤ normal.atoms → truth values atom ≡ has set atom
  pub bodies : (number : ℕ) (body : BodyOf) → slice_get normal.bodies number ≡ Some body
      → truth values (body_var normal number) ≡ body_holds set set body

-- some head is in, where the heads hold and the rule is no choice rule
pub heads-some : (kind : Kind) (by set : List Bool) (heads : List ℕ) → is_choice kind ≡ false
    → HeadsFit kind heads → HeadHolds kind by set heads → Any (IsIn set) heads
heads-some Basic by set heads other fit holds = (
  0,
  get_or heads 0 0,
  omega (arith, fit),
  get_or_default heads 0 (get_or heads 0 0) 0 (omega (arith, fit)),
  holds 0 0 (omega (arith, fit)),
)
heads-some Constraint by set heads other fit holds = (
  0,
  get_or heads 0 0,
  omega (arith, fit),
  get_or_default heads 0 (get_or heads 0 0) 0 (omega (arith, fit)),
  holds 0 0 (omega (arith, fit)),
)
heads-some Choice by set heads other fit holds = absurd (true≢false other)
heads-some Weight by set heads other fit holds = (
  0,
  get_or heads 0 0,
  omega (arith, fit),
  get_or_default heads 0 (get_or heads 0 0) 0 (omega (arith, fit)),
  holds 0 0 (omega (arith, fit)),
)
heads-some Disjunctive by set heads other fit holds = holds

-- the one head of a list
one-head : (set : List Bool) (heads : List ℕ) → length heads ≡ 1 → Any (IsIn set) heads
    → All (IsIn set) heads
one-head set heads one some k d within =
    let same : k ≡ some.0 = omega (arith, one, within, some.2) in
    subst (IsIn set)
    (sym some.3 ∙ get_or_default heads some.0 some.1 d some.2
    ∙ ap (λ j. get_or heads j d) (sym same)) some.4

-- the heads hold, where some head is in and the rule is no choice rule
pub some-heads : (kind : Kind) (by set : List Bool) (heads : List ℕ) → is_choice kind ≡ false
    → HeadsFit kind heads → Any (IsIn set) heads → HeadHolds kind by set heads
some-heads Basic by set heads other fit some = one-head set heads fit some
some-heads Constraint by set heads other fit some = one-head set heads fit some
some-heads Choice by set heads other fit some = absurd (true≢false other)
some-heads Weight by set heads other fit some = one-head set heads fit some
some-heads Disjunctive by set heads other fit some = some

-- a choice rule is kept in the reduct by the set itself
pub choice-kept : (kind : Kind) (set : List Bool) (heads : List ℕ) → is_choice kind ≡ true
    → HeadHolds kind set set heads
choice-kept Basic set heads choice = absurd (true≢false (sym choice))
choice-kept Constraint set heads choice = absurd (true≢false (sym choice))
choice-kept Choice set heads choice = λ k d h inside. inside
choice-kept Weight set heads choice = absurd (true≢false (sym choice))
choice-kept Disjunctive set heads choice = absurd (true≢false (sym choice))

module _ (normal : Normal) (values set : List Bool) (reads : Reads normal values set) where
  -- the variable of a rule's body is true exactly where the body holds
  pub truth-holds : (rule : NormalRule) → rule.body < length normal.bodies
      → truth values (body_var normal rule.body) ≡ true → RuleBodyHolds normal.bodies set set rule
  truth-holds rule within on = by (slice_get normal.bodies rule.body) refl
    where
      by : (o : Option BodyOf) → slice_get normal.bodies rule.body ≡ o
          → IsSomeAnd o (BodyHoldsN set set)
      by None e =
          let nobody : BodyOf = record { bound = 0; parts = [] } in
          let here : slice_get normal.bodies rule.body
          ≡ Some (get_or normal.bodies rule.body nobody) =
          slice_get-get_or normal.bodies rule.body nobody within in
          cc
      by (Some body) e =
          leb-true body.bound (weight_of set set body) (sym (reads.bodies rule.body body e) ∙ on)

  pub holds-truth : (rule : NormalRule) → RuleBodyHolds normal.bodies set set rule
      → truth values (body_var normal rule.body) ≡ true
  holds-truth rule holds =
      let found = IsSomeAnd-found (BodyHoldsN set set) (slice_get normal.bodies rule.body) holds in
      reads.bodies rule.body found.0 found.1
      ∙ le-leb found.0.bound (weight_of set set found.0) found.2

  module _ (rule : NormalRule) (within : rule.body < length normal.bodies)
      (atoms : All (IsAtomOf normal) rule.heads) (fit : HeadsFit rule.kind rule.heads)
      (other : is_choice rule.kind ≡ false) where
    -- the clause of a rule that the set keeps holds
    pub rule_clause-holds : KeepsN normal.bodies set set rule
        → HoldsIn values (negative (body_var normal rule.body) ∷ map positive rule.heads)
    rule_clause-holds keeps =
        ⊎_elim
        (λ on.
        let some =
        heads-some rule.kind set set rule.heads other fit
        (keeps (truth-holds rule within on)) in
        let atom : IsAtomOf normal some.1 =
        All-contains (IsAtomOf normal) rule.heads some.1 atoms (some.0, some.2, some.3) in
        HoldsIn-there values (negative (body_var normal rule.body)) (map positive rule.heads)
        (HoldsIn-by values (map positive rule.heads) (positive some.1)
        (has_mapped positive rule.heads some.1 (some.0, some.2, some.3))
        (makes_true-positive values some.1 ∙ reads.atoms some.1 atom.last ∙ some.4)))
        (λ off. HoldsIn-here values (negative (body_var normal rule.body)) (map positive rule.heads)
        (makes_true-negative values (body_var normal rule.body) ∙ ap not off))
        (cases_Bool (truth values (body_var normal rule.body)))

    -- and where it holds, the set keeps the rule
    pub rule_clause-keeps : HoldsIn values
        (negative (body_var normal rule.body) ∷ map positive rule.heads)
        → KeepsN normal.bodies set set rule
    rule_clause-keeps clause holds =
        ⊎_elim
        (λ off. absurd
        (both_ways (makes_true values (negative (body_var normal rule.body)))
        (makes_true-negative values (body_var normal rule.body)
        ∙ ap not (holds-truth rule holds)) off))
        (λ rest.
        let found = mapped_from positive rule.heads rest.1 (rest.0, rest.2, rest.3) in
        let atom : IsAtomOf normal found.0 =
        All-contains (IsAtomOf normal) rule.heads found.0 atoms found.1 in
        let inside : IsIn set found.0 =
        sym (reads.atoms found.0 atom.last) ∙ sym (makes_true-positive values found.0)
        ∙ ap (makes_true values) found.2 ∙ rest.4 in
        some-heads rule.kind set set rule.heads other fit
        (any_from (IsIn set) rule.heads found.0 found.1 inside))
        (HoldsIn-cases values (negative (body_var normal rule.body)) (map positive rule.heads)
        clause)
