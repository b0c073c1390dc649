-- From what a slow check says of a clause of one atom to consequences, and what shows that a
-- candidate is none.
use Rattle.std.proofs.Common.{◌≡◌, ◌≤◌, ◌<◌, ◌∙◌, ℕ, Bool, false, List, [], ◌∷◌, ◌++◌}
use Rattle.std.proofs.Common.{length, length-append, get_or, map, Any, sym, ap, subst, arith}
use Rattle.std.proofs.lemmas.Bool.{true≢false}
use Rattle.std.proofs.lemmas.List.{get_or_append_left}
use Rattle.ground_program.specs.declared.program.Mode.TheVariants.{Cautious}
use Rattle.ground_program.specs.Bounds.{atom_of}
use Rattle.ground_program.specs.Meaning.{has}
use Rattle.clause_store.specs.declared.literal.Lit.{Lit}
use Rattle.clause_store.specs.Clause.{IsTrueIn}
use Rattle.normal_program.specs.declared.normal.Normal.{Normal}
use Rattle.normal_program.specs.Body.{body_holds}
use Rattle.normal_program.specs.Normal.{IsAnswerSetN}
use Rattle.normal_program.specs.Clauses.{IsEntailed, positive}
use Rattle.normal_program.proofs.lemmas.Base.TruthLemmas.{makes_true-positive}
use Rattle.anytime_core.specs.Truth.{IsConsequenceN}

-- the one literal of a clause that some literal of it makes true
one_of : (P : Lit → Type 0) (lit : Lit) → Any P (lit ∷ []) → P lit
one_of P lit some =
    let first : some.0 ≡ 0 = omega (arith, some.2) in
    let same : some.1 ≡ lit = sym some.3 ∙ ap (λ k. get_or (lit ∷ []) k some.1) first in
    subst P same some.4

-- the values of atoms stand first in an assignment
has_first : (set more : List Bool) (atom : ℕ) → atom < length set
    → has (set ++ more) atom ≡ has set atom
has_first set more atom low = get_or_append_left set more false atom low

module _ (normal : Normal) (cand : ℕ) where
  -- a candidate whose atom is entailed is a consequence
  pub consequence_of : atom_of normal.names cand ≤ normal.atoms
      → IsEntailed normal [] (positive (atom_of normal.names cand) ∷ [])
      → IsConsequenceN normal Cautious cand
  consequence_of low entailed set answer =
      let atom = atom_of normal.names cand in
      let more = map (body_holds set set) normal.bodies in
      let values = (set ++ more) ++ [] in
      let under : atom < length set = omega (arith, low, answer.over.positions) in
      let wide : atom < length (set ++ more) =
      omega (arith, under, length-append set more) in
      let holds = one_of (IsTrueIn values) (positive atom) (entailed set [] answer tt) in
      sym (has_first set more atom under) ∙ sym (has_first (set ++ more) [] atom wide)
      ∙ sym (makes_true-positive values atom) ∙ holds

  -- a candidate that an answer set lacks is none
  pub no_consequence : (set : List Bool) → IsAnswerSetN normal set
      → has set (atom_of normal.names cand) ≡ false → ¬ IsConsequenceN normal Cautious cand
  no_consequence set answer lacks every =
      true≢false (sym (every set answer) ∙ lacks)

-- the same for what a slow check was asked
pub consequence_told : (normal : Normal) (cand atom : ℕ) (none : List (List Lit))
    (clause : List Lit) → atom ≡ atom_of normal.names cand → atom ≤ normal.atoms → none ≡ []
    → clause ≡ positive atom ∷ [] → IsEntailed normal none clause
    → IsConsequenceN normal Cautious cand
consequence_told normal cand atom none clause is low nothing one entailed =
    consequence_of normal cand (subst (λ (n : ℕ). n ≤ normal.atoms) is low)
    (subst (λ (n : ℕ). IsEntailed normal [] (positive n ∷ [])) is
    (subst (λ (lits : List Lit). IsEntailed normal [] lits) one
    (subst (λ (lists : List (List Lit)). IsEntailed normal lists clause) nothing entailed)))

pub answer_without : (normal : Normal) (cand : ℕ) (set slice : List Bool) (atom : ℕ) (there : Bool)
    → slice ≡ set → atom ≡ atom_of normal.names cand → there ≡ has slice atom → there ≡ false
    → IsAnswerSetN normal set → ¬ IsConsequenceN normal Cautious cand
answer_without normal cand set slice atom there same is told absent answer =
    no_consequence normal cand set answer
    (ap (λ (values : List Bool). has values (atom_of normal.names cand)) (sym same)
    ∙ ap (has slice) (sym is) ∙ sym told ∙ absent)
