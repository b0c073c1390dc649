-- Selectors: what their clauses say, which assignments are models with them, and in which clauses
-- they stand.
use Rattle.std.proofs.Common.{◌≡◌, ◌<◌, ◌+◌, ◌*◌, ◌%◌, ◌⊎◌, ℕ, Bool, true, List, [], ◌++◌}
use Rattle.std.proofs.Common.{length, drop, sym, ap, ◌∙◌, subst, arith, inl, inr}
use Rattle.std.specs.Prelude.{All}
use Rattle.std.proofs.lemmas.Bool.{eqb-true}
use Rattle.std.proofs.lemmas.List.{take-append-drop}
use Rattle.std.proofs.lemmas.List.Elements.{All-contains}
use Rattle.clause_store.specs.declared.literal.Lit.{Lit}
use Rattle.clause_store.specs.Clause.{AreOver, HoldsIn, IsOver, Meets, is_negated}
use Rattle.clause_store.specs.Clause.{variable}
use Rattle.normal_program.specs.declared.normal.Normal.{Normal}
use Rattle.normal_program.specs.Normal.{extension, greatest_body_var, IsAnswerSetN}
use Rattle.normal_program.specs.Clauses.{AreChosen, IsEntailed}
use Rattle.normal_program.specs.Models.{front_of, set_of}
use Rattle.normal_program.proofs.lemmas.Entailed.ChoiceLemmas.{HoldsIn-front, HoldsIn-longer}
use Rattle.normal_program.proofs.lemmas.Entailed.ChoiceLemmas.{length-extension}
use Rattle.normal_program.proofs.lemmas.Entailed.WideLemmas.{selector_clauses-entailed}
use Rattle.assumption_engine.specs.Engine.{IsModelOf}
use Rattle.assumption_engine.specs.Sided.{IsOneSided, positive}
use Rattle.assumption_engine.specs.Theory.{MeansTheSame}
use Rattle.assumption_engine.proofs.SameLemmas.{model_same}
use Rattle.kept_minimality.proofs.ModelLemmas.{front_of_extension, set_of_extension}
use Rattle.coherence_test.specs.AnswerSets.{answer_sets, ExtendsAnswerSet, IsLocalOver}
use Rattle.normal_program.specs.Spent.{selector_clauses}
use Rattle.coherence_test.specs.Selectors.{IsInUse}

-- ---- models with selectors

-- the extension of an answer set, with each choice of the selectors, is a model
pub chosen_model : (normal : Normal) (disjunctions : List (List Lit)) (set chosen : List Bool)
    → IsAnswerSetN normal set → AreOver (greatest_body_var normal) disjunctions
    → AreChosen (extension normal set set) disjunctions chosen
    → IsModelOf (answer_sets normal) (selector_clauses normal disjunctions)
    (extension normal set set ++ chosen)
chosen_model normal disjunctions set chosen answer over are =
    let values = extension normal set set ++ chosen in
    let same = set_of_extension normal set chosen answer.over.positions in
    record {
      model =
          record {
            answers = subst (IsAnswerSetN normal) (sym same) answer;
            extends =
                subst (λ (it : List Bool). front_of normal values ≡ extension normal it it)
                (sym same) (front_of_extension normal set chosen answer.over.positions);
          };
      meets =
          λ k d within.
          selector_clauses-entailed normal disjunctions over k d within set chosen answer are;
    }

-- so what holds in all models is entailed
pub all_entailed : (normal theory : Normal) (disjunctions units : List (List Lit))
    → MeansTheSame (answer_sets normal) (answer_sets theory)
    → AreOver (greatest_body_var normal) disjunctions
    → ((values : List Bool)
    → IsModelOf (answer_sets theory) (selector_clauses normal disjunctions) values
    → Meets values units)
    → All (IsEntailed normal disjunctions) units
all_entailed normal theory disjunctions units same over holds k d within set chosen answer are =
    holds (extension normal set set ++ chosen)
    (model_same (answer_sets normal) (answer_sets theory) (selector_clauses normal disjunctions)
    (extension normal set set ++ chosen) same
    (chosen_model normal disjunctions set chosen answer over are)) k d within

-- an assignment whose front is the extension of a set begins with it
pub begins : (normal : Normal) (values set : List Bool)
    → front_of normal values ≡ extension normal set set
    → extension normal set set ++ drop (normal.atoms + 1 + length normal.bodies) values ≡ values
begins normal values set extends =
    let size = normal.atoms + 1 + length normal.bodies in
    ap (λ front. front ++ drop size values) (sym extends) ∙ take-append-drop size values

-- a clause over atoms and bodies that is entailed holds in each such assignment
pub over_holds : (normal : Normal) (clause : List Lit) (values : List Bool)
    → All (IsOver (greatest_body_var normal)) clause → IsEntailed normal [] clause
    → ExtendsAnswerSet normal values → HoldsIn values clause
over_holds normal clause values over entailed is =
    let set = set_of normal values in
    let whole = extension normal set set in
    let size = length-extension normal set set is.answers.over in
    let low : All (λ lit. variable lit < length whole) clause =
    λ k d within. omega (arith, (over k d within).last, size) in
    subst (λ all. HoldsIn all clause) (begins normal values set is.extends)
    (HoldsIn-longer whole (drop (normal.atoms + 1 + length normal.bodies) values) clause low
    (HoldsIn-front whole [] clause low (entailed set [] is.answers tt)))

-- ---- one-sided variables

not_negated : (var : ℕ) → is_negated (positive var) ≡ true → ⊥
not_negated var is =
    let odd : (2 * var) % 2 ≡ 1 = eqb-true ((2 * var) % 2) 1 is in omega (arith, odd)

-- a literal over atoms and bodies may stand with any selectors
pub over_in_use : (normal : Normal) (used : ℕ) (lit : Lit)
    → IsOver (greatest_body_var normal) lit → IsInUse normal used lit
over_in_use normal used lit over =
    let last = over.last in
    record {
      over = record { first = over.first; last = omega (arith, last) };
      denied = λ high. absurd (omega (arith, high, last));
    }

-- a variable that is none of an atom or a body
abbrev pub IsBehind : Normal → ℕ → Type 0
IsBehind normal var = (var ≡ 0) ⊎ (greatest_body_var normal < var)

-- it isn't the variable of a literal that isn't negated
never_positive : (normal : Normal) (used var : ℕ) → IsBehind normal var
    → IsInUse normal used (positive var) → ⊥
never_positive normal used var (inl zero) is =
    let first = is.over.first in omega (arith, zero, first)
never_positive normal used var (inr high) is =
    not_negated var (is.denied (omega (arith, high)))

-- so it is one-sided
pub behind_is_sided : (normal : Normal) (used : ℕ) (clauses : List (List Lit)) (var : ℕ)
    → All (All (IsInUse normal used)) clauses → IsBehind normal var
    → IsOneSided (IsLocalOver normal) clauses var
behind_is_sided normal used clauses var in_use behind =
    record {
      not_stored =
          λ stands.
          let clause = stands.1 in
          let all =
          All-contains (All (IsInUse normal used)) clauses clause in_use
          (stands.0, stands.2, stands.3) in
          never_positive normal used var behind
          (All-contains (IsInUse normal used) clause (positive var) all stands.4);
      not_given =
          λ clause local here.
          let over = All-contains (IsOver (greatest_body_var normal)) clause (positive var)
          local.over here in
          never_positive normal 0 var behind (over_in_use normal 0 (positive var) over);
    }
