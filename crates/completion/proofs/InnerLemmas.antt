-- What bodies and rules say in an assignment that reads a part of a set, where the set judges the
-- negative literals.
use Rattle.std.proofs.Common.{◌≡◌, ◌≤◌, ◌<◌, ℕ, Bool, true, false, not, ◌&&◌, List, [], ◌∷◌, Option}
use Rattle.std.proofs.Common.{Some, None, IsSomeAnd, slice_get, length, get_or, map, filter, All}
use Rattle.std.proofs.Common.{Any}
use Rattle.std.proofs.Common.{Contains, refl, sym, ap, subst, ◌∙◌, arith, ⊎_elim, true≢false}
use Rattle.std.proofs.Common.{if◌then◌else◌}
use Rattle.std.proofs.lemmas.Bool.{cases_Bool, both_ways, leb-true, le-leb, and_parts, not-true}
use Rattle.std.proofs.lemmas.List.{get_or_default}
use Rattle.std.proofs.lemmas.List.Elements.{All-contains, All-map, Contains-get_or}
use Rattle.std.proofs.lemmas.List.Folds.{Any-from_list_any, list_any_at}
use Rattle.std.proofs.lemmas.Option.{slice_get-get_or}
use Rattle.ground_program.specs.declared.program.Kind.{Kind}
use Rattle.ground_program.specs.declared.program.Kind.TheVariants.{Basic, Constraint, Choice}
use Rattle.ground_program.specs.declared.program.Kind.TheVariants.{Weight, Disjunctive}
use Rattle.ground_program.specs.Meaning.{has, IsIn, counts, HeadHolds}
use Rattle.ground_program.specs.Program.{HeadsFit}
use Rattle.clause_store.specs.declared.literal.Lit.{Lit}
use Rattle.clause_store.specs.Clause.{truth, makes_true, HoldsIn}
use Rattle.clause_store.proofs.LiteralLemmas.{has_kept, kept_passes, has_mapped, mapped_from}
use Rattle.clause_store.proofs.LiteralLemmas.{any_from}
use Rattle.normal_program.specs.declared.normal.Part.{Part}
use Rattle.normal_program.specs.declared.normal.BodyOf.{BodyOf}
use Rattle.normal_program.specs.declared.normal.NormalRule.{NormalRule}
use Rattle.normal_program.specs.declared.normal.Normal.{Normal}
use Rattle.normal_program.specs.Body.{is_conjunctive, body_holds, weight_of, BodyHoldsN}
use Rattle.normal_program.specs.Normal.{body_var, RuleBodyHolds, KeepsN}
use Rattle.normal_program.specs.Clauses.{positive, negative, literal_of, literals_of, is_choice}
use Rattle.normal_program.specs.Spent.{is_blocked, positive_parts}
use Rattle.normal_program.specs.Loop.{IsAtomOf}
use Rattle.item_list.proofs.ListLemmas.{IsSomeAnd-found}
use Rattle.normal_program.proofs.RangeLemmas.{All-unmap}
use Rattle.normal_program.proofs.lemmas.Base.TruthLemmas.{makes_true-positive, makes_true-negative}
use Rattle.normal_program.proofs.lemmas.Base.TruthLemmas.{makes_true-literal_of, HoldsIn-here}
use Rattle.normal_program.proofs.lemmas.Base.TruthLemmas.{HoldsIn-there, HoldsIn-cases, HoldsIn-by}
use Rattle.normal_program.proofs.lemmas.Base.CleanLemmas.{kept_from}
use Rattle.normal_program.proofs.lemmas.Base.BodyLemmas.{holds-all}
use Rattle.normal_program.proofs.lemmas.Base.RuleLemmas.{heads-some, some-heads}

-- an assignment reads a part by a set: the variables of atoms and bodies are as in its extension
pub record ReadsBy (normal : Normal) (set values part : List Bool) : Type 0 where
  pub atoms : (atom : ℕ) → atom ≤ normal.atoms → truth values atom ≡ has part atom
  pub bodies : (number : ℕ) (body : BodyOf) → slice_get normal.bodies number ≡ Some body
      → truth values (body_var normal number) ≡ body_holds set part body

-- two truth values that follow from each other are the same
pub same_by_turns : (one two : Bool) → (one ≡ true → two ≡ true) → (two ≡ true → one ≡ true)
    → one ≡ two
same_by_turns true two forth back = sym (forth refl)
same_by_turns false true forth back = back refl
same_by_turns false false forth back = refl

module _ (set part : List Bool) (body : BodyOf) where
  -- a conjunctive body with a negative literal whose atom is in the set holds in no part
  pub blocked_fails : is_conjunctive body ≡ true → is_blocked set body ≡ true
      → body_holds set part body ≡ false
  blocked_fails conjunctive blocked =
      ⊎_elim
      (λ holds.
      let some =
      Any-from_list_any (λ (one : Part). one.lit.negated && has set one.lit.atom) body.parts
      blocked in
      let lit = some.1.lit in
      let both = and_parts lit.negated (has set lit.atom) some.4 in
      let counted : counts set part lit ≡ true =
      All-contains (λ (one : Part). counts set part one.lit ≡ true) body.parts some.1
      (holds-all set part body conjunctive holds) (some.0, some.2, some.3) in
      absurd
      (both_ways (counts set part lit)
      (ap (λ b. if b then not (has set lit.atom) else has part lit.atom) both.0 ∙ ap not both.1)
      counted))
      (λ fails. fails) (cases_Bool (body_holds set part body))

  -- without one, all literals count where the positive ones do
  pub positive_count : is_blocked set body ≡ false
      → All (λ (one : Part). counts set part one.lit ≡ true) (positive_parts body)
      → All (λ (one : Part). counts set part one.lit ≡ true) body.parts
  positive_count free all k d h =
      let lit = (get_or body.parts k d).lit in
      ⊎_elim
      (λ negated.
      ap (λ b. if b then not (has set lit.atom) else has part lit.atom) negated
      ∙ ⊎_elim
      (λ inside. absurd
      (both_ways (is_blocked set body) free
      (list_any_at (λ (one : Part). one.lit.negated && has set one.lit.atom) body.parts k d h
      (ap (λ b. b && has set lit.atom) negated ∙ inside))))
      (λ outside. ap not outside) (cases_Bool (has set lit.atom)))
      (λ plain.
      All-contains (λ (one : Part). counts set part one.lit ≡ true) (positive_parts body)
      (get_or body.parts k d) all
      (has_kept (λ (one : Part). not one.lit.negated) body.parts (get_or body.parts k d)
      (Contains-get_or body.parts k d h) (ap not plain)))
      (cases_Bool lit.negated)

-- heads of a choice rule
pub choice_gives : (kind : Kind) (set part : List Bool) (heads : List ℕ) → is_choice kind ≡ true
    → HeadHolds kind set part heads → All (λ atom. IsIn set atom → IsIn part atom) heads
choice_gives Basic set part heads choice holds = absurd (true≢false (sym choice))
choice_gives Constraint set part heads choice holds = absurd (true≢false (sym choice))
choice_gives Choice set part heads choice holds = holds
choice_gives Weight set part heads choice holds = absurd (true≢false (sym choice))
choice_gives Disjunctive set part heads choice holds = absurd (true≢false (sym choice))

pub choice_takes : (kind : Kind) (set part : List Bool) (heads : List ℕ) → is_choice kind ≡ true
    → All (λ atom. IsIn set atom → IsIn part atom) heads → HeadHolds kind set part heads
choice_takes Basic set part heads choice holds = absurd (true≢false (sym choice))
choice_takes Constraint set part heads choice holds = absurd (true≢false (sym choice))
choice_takes Choice set part heads choice holds = holds
choice_takes Weight set part heads choice holds = absurd (true≢false (sym choice))
choice_takes Disjunctive set part heads choice holds = absurd (true≢false (sym choice))

module _ (normal : Normal) (set values part : List Bool)
    (atoms_read : (atom : ℕ) → atom ≤ normal.atoms → truth values atom ≡ has part atom) where
  module _ (body : BodyOf)
      (atoms : All (λ (one : Part). IsAtomOf normal one.lit.atom) body.parts) where
    -- a positive literal is true where it counts
    positive_counts : (one : Part) → Contains (positive_parts body) one
        → makes_true values (literal_of one.lit) ≡ counts set part one.lit
    positive_counts one here =
        let there =
        kept_from (λ (other : Part). not other.lit.negated) body.parts one here in
        let plain : one.lit.negated ≡ false =
        not-true _ (kept_passes (λ (other : Part). not other.lit.negated) body.parts one here) in
        let atom : IsAtomOf normal one.lit.atom =
        All-contains (λ (other : Part). IsAtomOf normal other.lit.atom) body.parts one atoms there
        in
        makes_true-literal_of values one.lit
        ∙ ap (λ b. if b then not (truth values one.lit.atom) else truth values one.lit.atom) plain
        ∙ atoms_read one.lit.atom atom.last
        ∙ sym (ap (λ b. if b then not (has set one.lit.atom) else has part one.lit.atom) plain)

    -- the positive literals are true where all literals count
    pub count_positives : All (λ (one : Part). counts set part one.lit ≡ true) body.parts
        → All (λ lit. makes_true values lit ≡ true) (literals_of (positive_parts body))
    count_positives all =
        All-map (λ lit. makes_true values lit ≡ true) (λ (one : Part). literal_of one.lit)
        (positive_parts body)
        (λ k d h.
        let here = Contains-get_or (positive_parts body) k d h in
        positive_counts (get_or (positive_parts body) k d) here
        ∙ All-contains (λ (one : Part). counts set part one.lit ≡ true) body.parts
        (get_or (positive_parts body) k d) all
        (kept_from (λ (other : Part). not other.lit.negated) body.parts
        (get_or (positive_parts body) k d) here))

    pub positives_count : All (λ lit. makes_true values lit ≡ true)
        (literals_of (positive_parts body))
        → All (λ (one : Part). counts set part one.lit ≡ true) (positive_parts body)
    positives_count all k d h =
        sym
        (positive_counts (get_or (positive_parts body) k d)
        (Contains-get_or (positive_parts body) k d h))
        ∙ All-unmap (λ lit. makes_true values lit ≡ true) (λ (one : Part). literal_of one.lit)
        (positive_parts body) all k d h

module _ (values : List Bool) (var : ℕ) (lits : List Lit) where
  -- a clause with a negated variable holds, where the rest does if the variable is true
  holds_by : (truth values var ≡ true → HoldsIn values lits)
      → HoldsIn values (negative var ∷ lits)
  holds_by rest =
      ⊎_elim (λ on. HoldsIn-there values (negative var) lits (rest on))
      (λ off. HoldsIn-here values (negative var) lits (makes_true-negative values var ∙ ap not off))
      (cases_Bool (truth values var))

  -- and if the variable is true, the rest holds
  rest_holds : HoldsIn values (negative var ∷ lits) → truth values var ≡ true
      → HoldsIn values lits
  rest_holds clause on =
      ⊎_elim
      (λ off. absurd
      (both_ways (makes_true values (negative var))
      (makes_true-negative values var ∙ ap not on) off))
      (λ rest. rest) (HoldsIn-cases values (negative var) lits clause)

module _ (normal : Normal) (set values part : List Bool)
    (reads : ReadsBy normal set values part) where
  -- the variable of a rule's body is true exactly where the body holds
  pub true_holds : (rule : NormalRule) → rule.body < length normal.bodies
      → truth values (body_var normal rule.body) ≡ true → RuleBodyHolds normal.bodies set part rule
  true_holds rule within on =
      let nobody : BodyOf = record { bound = 0; parts = [] } in
      let body = get_or normal.bodies rule.body nobody in
      let here = slice_get-get_or normal.bodies rule.body nobody within in
      subst (λ (o : Option BodyOf). IsSomeAnd o (BodyHoldsN set part)) (sym here)
      (leb-true body.bound (weight_of set part body) (sym (reads.bodies rule.body body here) ∙ on))

  pub holds_true : (rule : NormalRule) → RuleBodyHolds normal.bodies set part rule
      → truth values (body_var normal rule.body) ≡ true
  holds_true rule holds =
      let found = IsSomeAnd-found (BodyHoldsN set part) (slice_get normal.bodies rule.body) holds in
      reads.bodies rule.body found.0 found.1
      ∙ le-leb found.0.bound (weight_of set part found.0) found.2

  module _ (rule : NormalRule) (within : rule.body < length normal.bodies)
      (atoms : All (IsAtomOf normal) rule.heads) where
    -- the clause of a rule that isn't a choice rule holds exactly where the part keeps the rule
    pub kept_holds : HeadsFit rule.kind rule.heads → is_choice rule.kind ≡ false
        → KeepsN normal.bodies set part rule
        → HoldsIn values (negative (body_var normal rule.body) ∷ map positive rule.heads)
    kept_holds fit other keeps =
        holds_by values (body_var normal rule.body) (map positive rule.heads)
        (λ on.
        let some =
        heads-some rule.kind set part rule.heads other fit (keeps (true_holds rule within on)) in
        let there : Contains rule.heads some.1 = (some.0, some.2, some.3) in
        let atom : IsAtomOf normal some.1 =
        All-contains (IsAtomOf normal) rule.heads some.1 atoms there in
        HoldsIn-by values (map positive rule.heads) (positive some.1)
        (has_mapped positive rule.heads some.1 there)
        (makes_true-positive values some.1 ∙ reads.atoms some.1 atom.last ∙ some.4))

    pub holds_kept : HeadsFit rule.kind rule.heads → is_choice rule.kind ≡ false
        → HoldsIn values (negative (body_var normal rule.body) ∷ map positive rule.heads)
        → KeepsN normal.bodies set part rule
    holds_kept fit other clause holds =
        let rest =
        rest_holds values (body_var normal rule.body) (map positive rule.heads) clause
        (holds_true rule holds) in
        let found = mapped_from positive rule.heads rest.1 (rest.0, rest.2, rest.3) in
        let atom : IsAtomOf normal found.0 =
        All-contains (IsAtomOf normal) rule.heads found.0 atoms found.1 in
        let inside : IsIn part found.0 =
        sym (reads.atoms found.0 atom.last) ∙ sym (makes_true-positive values found.0)
        ∙ ap (makes_true values) found.2 ∙ rest.4 in
        some-heads rule.kind set part rule.heads other fit
        (any_from (IsIn part) rule.heads found.0 found.1 inside)

    -- so do the clauses of a choice rule
    pub choice_kept_holds : is_choice rule.kind ≡ true → KeepsN normal.bodies set part rule
        → (head : ℕ) → Contains rule.heads head → IsIn set head
        → HoldsIn values (negative (body_var normal rule.body) ∷ positive head ∷ [])
    choice_kept_holds choice keeps head here inside =
        holds_by values (body_var normal rule.body) (positive head ∷ [])
        (λ on.
        let all =
        choice_gives rule.kind set part rule.heads choice (keeps (true_holds rule within on)) in
        let atom : IsAtomOf normal head =
        All-contains (IsAtomOf normal) rule.heads head atoms here in
        HoldsIn-here values (positive head) []
        (makes_true-positive values head ∙ reads.atoms head atom.last
        ∙ All-contains (λ one. IsIn set one → IsIn part one) rule.heads head all here inside))

    pub choice_holds_kept : is_choice rule.kind ≡ true
        → ((head : ℕ) → Contains rule.heads head → IsIn set head
        → HoldsIn values (negative (body_var normal rule.body) ∷ positive head ∷ []))
        → KeepsN normal.bodies set part rule
    choice_holds_kept choice clauses holds =
        choice_takes rule.kind set part rule.heads choice
        (λ k d h inside.
        let head = get_or rule.heads k d in
        ⊎_elim
        (λ on. sym (reads.atoms head (atoms k d h).last) ∙ sym (makes_true-positive values head)
        ∙ on)
        (λ none. absurd (omega (arith, none.2)))
        (HoldsIn-cases values (positive head) []
        (rest_holds values (body_var normal rule.body) (positive head ∷ [])
        (clauses head (Contains-get_or rule.heads k d h) inside) (holds_true rule holds))))
