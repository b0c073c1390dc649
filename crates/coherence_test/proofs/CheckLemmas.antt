-- What a check of a total assignment answers.
use Rattle.std.proofs.Common.{◌≡◌, Bool, List, ℕ, length, get_or, sym, subst, ◌∙◌}
use Rattle.std.specs.Prelude.{MatchOption, ◌≤◌}
use Rattle.std.proofs.lemmas.List.Elements.{Contains-get_or}
use Rattle.ground_program.specs.declared.program.Kind.TheVariants.{Disjunctive}
use Rattle.ground_program.specs.Meaning.{IsSetOver}
use Rattle.clause_store.specs.declared.literal.Lit.{Lit}
use Rattle.clause_store.specs.declared.theory_says.Says.{Says}
use Rattle.clause_store.specs.declared.theory_says.Says.TheVariants.{Quiet}
use Rattle.clause_store.specs.Clause.{Meets}
use Rattle.clause_store.specs.Counted.{Counted}
use Rattle.clause_store.specs.Trail.{Assigned, IsTotal, IsTrail, values_of}
use Rattle.clause_store.proofs.LiteralLemmas.{any_from}
use Rattle.normal_program.specs.declared.normal.NormalRule.{NormalRule}
use Rattle.normal_program.specs.declared.normal.Normal.{Normal}
use Rattle.normal_program.specs.Limit.{IsNormal}
use Rattle.normal_program.specs.Models.{front_of, IsModelOf, set_of}
use Rattle.normal_program.specs.Clauses.{base_clauses}
use Rattle.normal_program.specs.Normal.{extension, greatest_body_var, KeepsAllN, MeetsComputeN}
use Rattle.normal_program.specs.Spent.{AreUnitsOfTest, AreUnitsWithin, IsDisjunctive}
use Rattle.unfounded_sets.specs.Founding.{KeepsAllOn, LacksOne}
use Rattle.assumption_engine.specs.Theory.{IsSpentCheck}
use Rattle.minimality_test.specs.Minimality.{HasCountedWithin, IsMinimal, IsSmallerThan}
use Rattle.coherence_test.specs.AnswerSets.{answer_sets, ExtendsAnswerSet}
use Rattle.coherence_test.specs.Laws.{SpentWithinIsSpent}
use Rattle.coherence_test.specs.Looking.{IsCandidate, IsLookedAt}
use Rattle.coherence_test.proofs.LeastLemmas.{candidate_model, founded_models, keeps_on, lacks_one}
use Rattle.coherence_test.proofs.LeastLemmas.{minimal_models}

module _ (normal : Normal) (trail : Assigned) (is : IsNormal normal)
    (it : IsCandidate normal trail) where
  -- without disjunctive rules it is accepted
  pub accepted : ¬ IsDisjunctive normal → ExtendsAnswerSet normal (values_of trail)
  accepted none =
      founded_models normal trail is
      (λ k d within same.
      none
      (any_from (λ (rule : NormalRule). rule.kind ≡ Disjunctive) normal.rules
      (get_or normal.rules k d) (Contains-get_or normal.rules k d within) same))
      it.total it.meets it.nothing.quiet it.nothing.founded

  pub model : IsModelOf normal (values_of trail)
  model = candidate_model normal trail is it.total it.meets it.nothing.quiet

  module _ (set : List Bool) (atoms : set ≡ set_of normal (values_of trail)) where
    pub set_over : IsSetOver normal.atoms set
    set_over = subst (IsSetOver normal.atoms) (sym atoms) model.over

    pub set_keeps : KeepsAllN normal set set
    set_keeps = subst (λ whole. KeepsAllN normal whole whole) (sym atoms) model.keeps

    -- so it is where its atoms are minimal
    pub minimal_accepted : IsMinimal normal set → ExtendsAnswerSet normal (values_of trail)
    minimal_accepted minimal =
        minimal_models normal trail is it.total it.meets it.nothing.quiet
        (subst (IsMinimal normal) atoms minimal)

    -- a smaller set keeps the rules on the trail and lacks an atom
    pub smaller_keeps : (part : List Bool) → IsSmallerThan normal set part
        → KeepsAllOn normal trail.steps part
    smaller_keeps part smaller =
        let here = subst (λ whole. IsSmallerThan normal whole part) atoms smaller in
        keeps_on normal trail is it.total part here.proper.inside here.keeps

    pub smaller_lacks : (part : List Bool) → IsSmallerThan normal set part
        → LacksOne normal trail.steps part
    smaller_lacks part smaller =
        let here = subst (λ whole. IsSmallerThan normal whole part) atoms smaller in
        lacks_one normal trail is it.total model.over part here.proper

    -- a spent test is a spent check
    pub spent_checked : IsDisjunctive normal → (limit : ℕ) (before after : Counted)
        → before.limit ≡ limit → HasCountedWithin normal set before after
        → length after.units ≡ after.limit
        → IsSpentCheck (answer_sets normal) limit (values_of trail) set after.units
    spent_checked disjunctive limit before after room counted used = record {
      spent = record {
        atoms = atoms;
        extends =
            subst
            (λ whole. front_of normal (values_of trail) ≡ extension normal whole whole)
            (sym atoms) model.extends;
        within = record {
          disjunctive = disjunctive;
          over = set_over;
          keeps = set_keeps;
          compute = subst (MeetsComputeN normal) (sym atoms) model.compute;
          units_over = counted.over;
          are_units = counted.units;
          refuted = counted.refuted;
        };
      };
      as_many = used ∙ counted.limit ∙ room;
    }

-- ---- what weight bodies and founding leave

pub candidate : (old new : Normal) (trail : Assigned) (clause : List Lit) (says : Says) → old ≡ new
    → IsTrail trail → IsTotal trail → greatest_body_var old ≤ trail.vars
    → Meets (values_of trail) (base_clauses old) → says ≡ Quiet → IsLookedAt old trail clause says
    → IsCandidate new trail
candidate old new trail clause says same is_trail total range meets quiet said =
    subst (λ normal. IsCandidate normal trail) same
    (record {
      total = record { is_trail = is_trail; total = total; over = range };
      meets = meets;
      nothing = subst (IsLookedAt old trail clause) quiet said;
    })

-- ---- spent tests

pub spent_within : SpentWithinIsSpent
spent_within normal set test within inside used literal = record {
  all = used;
  over = within.units_over;
  worth =
      subst
      (λ o. MatchOption o (AreUnitsOfTest normal test) (AreUnitsWithin normal test)) (sym inside)
      (record {
        disjunctive = within.disjunctive;
        over = within.over;
        keeps = within.keeps;
        compute = within.compute;
        literal = literal;
        units = within.are_units;
        refuted = within.refuted;
      });
}
