-- A literal that is false by the assignments of level 0 is a core.
use Rattle.std.proofs.Common.{◌∷◌, [], ◌≤◌, ◌∙◌, List, subst, sym, arith}
use Rattle.std.specs.Prelude.{Contains, IsSomeAnd}
use Rattle.std.proofs.lemmas.List.Elements.{All-cons, All-head, All-nil}
use Rattle.clause_store.specs.declared.literal.Lit.{Lit}
use Rattle.clause_store.specs.Clause.{IsTrueIn}
use Rattle.clause_store.specs.Standing.{IsFalse}
use Rattle.clause_store.specs.Trail.{IsTrail, IsTrailOf, up_to}
use Rattle.clause_store.proofs.BackLemmas.{values_after_back}
use Rattle.clause_store.proofs.LiteralLemmas.{any_from, has_first}
use Rattle.clause_store.proofs.lemmas.Trails.ZeroLemmas.{false_at_zero}
use Rattle.normal_program.specs.declared.normal.Normal.{Normal}
use Rattle.assumption_engine.specs.declared.engine.Engine.{Engine}
use Rattle.assumption_engine.specs.declared.answer.Answer.TheVariants.{Core}
use Rattle.assumption_engine.specs.Engine.{IsModelOf}
use Rattle.coherence_test.specs.AnswerSets.{answer_sets, Theorised}
use Rattle.coherence_test.specs.Searching.{IsRefusedAtZero, Says}
use Rattle.coherence_test.specs.Testing.{IsSound}
use Rattle.assumption_engine.proofs.SameLemmas.{model_same}

pub zero_says : (normal : Normal) (engine : Engine Theorised) (disjunctions : List (List Lit))
    (assumed : List Lit) (lit : Lit) → IsSound normal engine disjunctions
    → IsTrail engine.state.trail → IsTrailOf engine.state.trail.steps engine.state.clauses
    → IsRefusedAtZero engine.state.trail.steps assumed lit
    → Says normal engine disjunctions assumed (Core (lit ∷ []))
zero_says normal engine disjunctions assumed lit sound is of at =
    let steps = engine.state.trail.steps in
    let assigned = subst (λ level. IsSomeAnd level (λ it. it ≤ 0)) (sym at.refused.at_zero)
    (omega arith) in
    let is_false : IsFalse (up_to 0 steps) lit =
    (values_after_back engine.state.trail 0 lit is).kept assigned ∙ at.refused.is_false in (
      0,
      record {
        among = All-cons (Contains assumed) lit [] at.among (All-nil (Contains assumed));
        unmet =
            λ values model true_lit.
            let meant =
            model_same (answer_sets normal) (answer_sets engine.theory.normal) engine.defined values
            sound.same
            (subst (λ all. IsModelOf (answer_sets normal) all values) (sym sound.defined) model) in
            false_at_zero engine.state.trail engine.state.clauses (lit ∷ []) values is of
            (All-cons (IsFalse (up_to 0 steps)) lit [] is_false (All-nil (IsFalse (up_to 0 steps))))
            (any_from (IsTrueIn values) (lit ∷ []) lit (has_first lit [])
            (All-head (IsTrueIn values) lit [] true_lit))
            (sound.right.holds values meant);
      },
    )
