-- Each base clause holds in every answer set.
use Rattle.std.proofs.Common.{◌≡◌, ◌≤◌, ◌<◌, ◌+◌, ℕ, zero, suc, Bool, true, false, not, List, []}
use Rattle.std.proofs.Common.{◌∷◌, ◌++◌, Some, slice_get, length, length-append, get_or}
use Rattle.std.proofs.Common.{get_or-append-add, map, flat_map, All, Contains, refl, sym, ap, subst}
use Rattle.std.proofs.Common.{◌∙◌, arith, if◌then◌else◌, ⊎_elim, zero-add}
use Rattle.std.specs.List.{enumerate_from}
use Rattle.std.proofs.lemmas.Bool.{cases_Bool}
use Rattle.std.proofs.lemmas.List.{get_or_append_left, get_or-map, length-map}
use Rattle.std.proofs.lemmas.List.Elements.{All-contains, All-map, Contains-append_cases}
use Rattle.std.proofs.lemmas.List.FromFn.{length-enumerate_from, get_or-enumerate_from}
use Rattle.std.proofs.lemmas.Option.{slice_get-get_or, slice_get_within, get_or_from_slice_get}
use Rattle.ground_program.specs.Meaning.{has, IsIn, counts, IsSetOver}
use Rattle.ground_program.specs.Program.{HeadsFit}
use Rattle.clause_store.specs.declared.literal.Lit.{Lit}
use Rattle.clause_store.specs.Clause.{truth, makes_true, HoldsIn, Meets}
use Rattle.clause_store.proofs.LiteralLemmas.{first_or_later, mapped_from}
use Rattle.normal_program.specs.declared.normal.Part.{Part}
use Rattle.normal_program.specs.declared.normal.BodyOf.{BodyOf}
use Rattle.normal_program.specs.declared.normal.NormalRule.{NormalRule}
use Rattle.normal_program.specs.declared.normal.Normal.{Normal}
use Rattle.normal_program.specs.Body.{is_conjunctive, body_holds}
use Rattle.normal_program.specs.Normal.{body_var, extension, KeepsN, IsAnswerSetN}
use Rattle.normal_program.specs.Clauses.{positive, negative, literal_of, literals_of, all_clauses}
use Rattle.normal_program.specs.Clauses.{numbered_bodies, body_clauses, is_choice, rule_clauses}
use Rattle.normal_program.specs.Clauses.{support_clause, numbers_from, atoms_of_normal, alone}
use Rattle.normal_program.specs.Clauses.{compute_clauses, base_clauses, IsEntailed}
use Rattle.normal_program.specs.Limit.{IsNormal}
use Rattle.normal_program.specs.Loop.{IsAtomOf}
use Rattle.normal_program.specs.Range.{IsInRange}
use Rattle.normal_program.proofs.RangeLemmas.{IsNormal-in_range, All-unmap}
use Rattle.normal_program.proofs.lemmas.Base.TruthLemmas.{makes_true-positive, makes_true-negative}
use Rattle.normal_program.proofs.lemmas.Base.TruthLemmas.{makes_true-literal_of, HoldsIn-here}
use Rattle.normal_program.proofs.lemmas.Base.CleanLemmas.{flat_from, cleaned_hold}
use Rattle.normal_program.proofs.lemmas.Base.BodyLemmas.{holds-all, all-holds, all_clauses-hold}
use Rattle.normal_program.proofs.lemmas.Base.RuleLemmas.{Reads, rule_clause-holds}
use Rattle.normal_program.proofs.lemmas.Base.SupportLemmas.{support_clause-holds}

-- an item stands at its number
pub numbered_at : {X : Type 0} (xs : List X) (item : ℕ × X) → Contains (enumerate_from 0 xs) item
    → slice_get xs item.0 ≡ Some item.1
numbered_at xs item here =
    let within : here.0 < length xs = omega (arith, here.1, length-enumerate_from 0 xs) in
    let seen : (0 + here.0, get_or xs here.0 item.1) ≡ item =
    sym (get_or-enumerate_from 0 xs here.0 item within) ∙ here.2 in
    let number : here.0 ≡ item.0 = sym (zero-add here.0) ∙ ap (λ p. p.0) seen in
    ap (slice_get xs) (sym number) ∙ slice_get-get_or xs here.0 item.1 within
    ∙ ap Some (ap (λ p. p.1) seen)

-- numbers from the first on
pub numbers_within : (first count number : ℕ) → Contains (numbers_from first count) number
    → (first ≤ number) × (number < first + count)
numbers_within first zero number here = absurd (omega (arith, here.1))
numbers_within first (suc count) number here =
    ⊎_elim (λ same. (omega (arith, same), omega (arith, same)))
    (λ later. let rest = numbers_within (first + 1) count number later in
    (omega (arith, rest.0), omega (arith, rest.1)))
    (first_or_later first number (numbers_from (first + 1) count) here)

-- the extension reads its set, whatever values follow
pub Reads-extension : (normal : Normal) (set more : List Bool) → IsSetOver normal.atoms set
    → Reads normal (extension normal set set ++ more) set
Reads-extension normal set more over = record {
  atoms = λ atom low.
      let within : atom < length set = omega (arith, low, over.positions) in
      let within_all : atom < length (set ++ map (body_holds set set) normal.bodies) =
      omega (arith, within, length-append set (map (body_holds set set) normal.bodies)) in
      get_or_append_left (set ++ map (body_holds set set) normal.bodies) more false atom within_all
      ∙ get_or_append_left set (map (body_holds set set) normal.bodies) false atom within;
  bodies = λ number body here.
      let low : number < length normal.bodies = slice_get_within normal.bodies number body here in
      let place : body_var normal number ≡ length set + number = omega (arith, over.positions) in
      let within_all : length set + number
      < length (set ++ map (body_holds set set) normal.bodies) =
      omega (
        arith,
        low,
        length-append set (map (body_holds set set) normal.bodies),
        length-map normal.bodies (body_holds set set),
      ) in
      ap (truth ((set ++ map (body_holds set set) normal.bodies) ++ more)) place
      ∙ get_or_append_left (set ++ map (body_holds set set) normal.bodies) more false
      (length set + number) within_all
      ∙ get_or-append-add set (map (body_holds set set) normal.bodies) number false
      ∙ get_or-map (body_holds set set) normal.bodies number body false low
      ∙ ap (body_holds set set) (get_or_from_slice_get normal.bodies number body body here);
}

module _ (normal : Normal) (values set : List Bool)
    (atoms_read : (atom : ℕ) → atom ≤ normal.atoms → truth values atom ≡ has set atom) where
  -- a literal of a body is true where it counts
  pub literal-counts : (part : Part) → IsAtomOf normal part.lit.atom
      → makes_true values (literal_of part.lit) ≡ counts set set part.lit
  literal-counts part atom =
      makes_true-literal_of values part.lit
      ∙ ap (λ b. if part.lit.negated then not b else b) (atoms_read part.lit.atom atom.last)

  -- all literals of a body are true where all its parts count
  pub literals-count : (parts : List Part) → All (λ part. IsAtomOf normal part.lit.atom) parts
      → All (λ part. counts set set part.lit ≡ true) parts
      → All (λ lit. makes_true values lit ≡ true) (literals_of parts)
  literals-count parts atoms count =
      All-map (λ lit. makes_true values lit ≡ true) (λ (part : Part). literal_of part.lit) parts
      (λ k d h. literal-counts (get_or parts k d) (atoms k d h) ∙ count k d h)

  pub count-literals : (parts : List Part) → All (λ part. IsAtomOf normal part.lit.atom) parts
      → All (λ lit. makes_true values lit ≡ true) (literals_of parts)
      → All (λ part. counts set set part.lit ≡ true) parts
  count-literals parts atoms all k d h =
      sym (literal-counts (get_or parts k d) (atoms k d h))
      ∙ All-unmap (λ lit. makes_true values lit ≡ true) (λ (part : Part). literal_of part.lit)
      parts all k d h

module _ (normal : Normal) (values set : List Bool) (reads : Reads normal values set) where
  module _ (in_range : IsInRange normal) (answer : IsAnswerSetN normal set) where
    body_clauses-hold : (item : ℕ × BodyOf) → slice_get normal.bodies item.0 ≡ Some item.1
        → (clause : List Lit) → (b : Bool) → is_conjunctive item.1 ≡ b
        → Contains
        (if b then all_clauses (body_var normal item.0) (literals_of item.1.parts) else [])
        clause → HoldsIn values clause
    body_clauses-hold item here clause true conjunctive of_body =
        let atoms : All (λ part. IsAtomOf normal part.lit.atom) item.1.parts =
        subst (λ (body : BodyOf). All (λ part. IsAtomOf normal part.lit.atom) body.parts)
        (get_or_from_slice_get normal.bodies item.0 item.1 item.1 here)
        (in_range.parts item.0 item.1 (slice_get_within normal.bodies item.0 item.1 here)) in
        all_clauses-hold values (body_var normal item.0) (literals_of item.1.parts)
        (λ on. literals-count normal values set reads.atoms item.1.parts atoms
        (holds-all set set item.1 conjunctive (sym (reads.bodies item.0 item.1 here) ∙ on)))
        (λ all. reads.bodies item.0 item.1 here
        ∙ all-holds set set item.1 conjunctive
        (count-literals normal values set reads.atoms item.1.parts atoms all))
        clause of_body
    body_clauses-hold item here clause false conjunctive of_body = absurd (omega (arith, of_body.1))

    rule_clauses-hold : (rule : NormalRule) → Contains normal.rules rule → (clause : List Lit)
        → (b : Bool) → is_choice rule.kind ≡ b
        → Contains
        (if b then [] else (negative (body_var normal rule.body) ∷ map positive rule.heads)
        ∷ []) clause → HoldsIn values clause
    rule_clauses-hold rule here clause true choice of_rule = absurd (omega (arith, of_rule.1))
    rule_clauses-hold rule here clause false other of_rule =
        let same : negative (body_var normal rule.body) ∷ map positive rule.heads ≡ clause =
        ⊎_elim (λ e. e) (λ none. absurd (omega (arith, none.1)))
        (first_or_later (negative (body_var normal rule.body) ∷ map positive rule.heads) clause
        [] of_rule) in
        subst (HoldsIn values) same
        (rule_clause-holds normal values set reads rule
        (All-contains (λ (one : NormalRule). one.body < length normal.bodies) normal.rules rule
        in_range.numbers here)
        (All-contains (λ (one : NormalRule). All (IsAtomOf normal) one.heads) normal.rules rule
        in_range.heads here)
        (All-contains (λ (one : NormalRule). HeadsFit one.kind one.heads) normal.rules rule
        in_range.heads_fit here)
        other (All-contains (KeepsN normal.bodies set set) normal.rules rule answer.keeps here))

    compute-hold : (clause : List Lit) → Contains (compute_clauses normal) clause
        → HoldsIn values clause
    compute-hold clause here =
        ⊎_elim
        (λ first. let found =
        mapped_from (λ atom. alone (positive atom)) normal.must clause first in
        let atom : IsAtomOf normal found.0 =
        All-contains (IsAtomOf normal) normal.must found.0 in_range.must found.1 in
        subst (HoldsIn values) found.2
        (HoldsIn-here values (positive found.0) []
        (makes_true-positive values found.0 ∙ reads.atoms found.0 atom.last
        ∙ All-contains (IsIn set) normal.must found.0 answer.compute.must found.1)))
        (λ last. let found =
        mapped_from (λ atom. alone (negative atom)) normal.must_not clause last in
        let atom : IsAtomOf normal found.0 =
        All-contains (IsAtomOf normal) normal.must_not found.0 in_range.must_not found.1 in
        let outside : has set found.0 ≡ false =
        ⊎_elim
        (λ inside. absurd
        (All-contains (λ one. ¬ IsIn set one) normal.must_not found.0
        answer.compute.must_not found.1 inside)) (λ out. out)
        (cases_Bool (has set found.0)) in
        subst (HoldsIn values) found.2
        (HoldsIn-here values (negative found.0) []
        (makes_true-negative values found.0
        ∙ ap not (reads.atoms found.0 atom.last ∙ outside))))
        (Contains-append_cases (map (λ atom. alone (positive atom)) normal.must)
        (map (λ atom. alone (negative atom)) normal.must_not) clause here)

    -- each base clause holds
    pub base_clauses-hold : Meets values (base_clauses normal)
    base_clauses-hold =
        let one = flat_map (body_clauses normal) (numbered_bodies normal) in
        let two = flat_map (rule_clauses normal) normal.rules in
        let three = map (support_clause normal) (atoms_of_normal normal) in
        cleaned_hold values (one ++ two ++ three ++ compute_clauses normal)
        (λ clause here.
        ⊎_elim
        (λ front. ⊎_elim
        (λ start. ⊎_elim
        (λ first. let found =
        flat_from (body_clauses normal) (numbered_bodies normal) clause first in
        body_clauses-hold found.0 (numbered_at normal.bodies found.0 found.1) clause
        (is_conjunctive found.0.1) refl found.2)
        (λ second. let found = flat_from (rule_clauses normal) normal.rules clause second in
        rule_clauses-hold found.0 found.1 clause (is_choice found.0.kind) refl found.2)
        (Contains-append_cases one two clause start))
        (λ third. let found =
        mapped_from (support_clause normal) (atoms_of_normal normal) clause third in
        let low = numbers_within 1 normal.atoms found.0 found.1 in
        let atom : IsAtomOf normal found.0 =
        record { first = low.0; last = omega (arith, low.1) } in
        subst (HoldsIn values) found.2
        (support_clause-holds normal values set reads answer found.0 atom))
        (Contains-append_cases (one ++ two) three clause front))
        (compute-hold clause)
        (Contains-append_cases (one ++ two ++ three) (compute_clauses normal) clause here))

-- each base clause is entailed
pub base_clauses-entailed : (normal : Normal) → IsNormal normal
    → All (IsEntailed normal []) (base_clauses normal)
base_clauses-entailed normal is k d h set chosen answer values =
    base_clauses-hold normal (extension normal set set ++ chosen) set
    (Reads-extension normal set chosen answer.over) (IsNormal-in_range normal is) answer k d h
