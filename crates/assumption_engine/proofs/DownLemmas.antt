-- How a search goes back over conflicts.
use Rattle.std.proofs.Common.{◌≡◌, ◌≢◌, ℕ, ◌<◌, ◌≤◌, List, [], ◌∷◌, ◌++◌, refl, sym, ap, ◌∙◌}
use Rattle.std.proofs.Common.{subst, arith}
use Rattle.std.specs.Prelude.{All, nat_le}
use Rattle.std.proofs.lemmas.List.{append-nil}
use Rattle.std.proofs.lemmas.List.Elements.{All-head, All-weaker, filter-append}
use Rattle.clause_store.specs.declared.literal.Lit.{Lit}
use Rattle.clause_store.specs.declared.literal.Value.TheVariants.{No, Unset}
use Rattle.clause_store.specs.declared.step.Step.{Step}
use Rattle.clause_store.specs.Clause.{HasNoVariableTwice, IsOver}
use Rattle.clause_store.specs.Entailment.{Refutes, negations, others}
use Rattle.clause_store.specs.History.{IsNewWork}
use Rattle.clause_store.specs.declared.literal.ClauseRef.{ClauseRef}
use Rattle.clause_store.specs.Standing.{IsConflict, IsFalse, ForcesOn}
use Rattle.clause_store.specs.Trail.{Assigned, IsTrail, present_level, up_to, value_of}
use Rattle.clause_store.proofs.BackLemmas.{back_twice, none_up_to}
use Rattle.propagator.specs.Fixpoint.{Extends, IsFixpoint}
use Rattle.propagator.proofs.ClosureLemmas.{fixpoint_absorbs_no_unit}
use Rattle.propagator.proofs.ExtendLemmas.{same_level}
use Rattle.conflict_learning.specs.Analysis.{IsAsserting, StandsIn, greatest_level}
use Rattle.conflict_learning.specs.declared.learned.Learned.{Learned}
use Rattle.conflict_learning.proofs.ConflictLemmas.{IsPresentConflict, conflict_there}
use Rattle.conflict_learning.proofs.UnitLemmas.{back_is_lower, learned_is_a_unit}
use Rattle.search_heuristics.proofs.PlaceLemmas.{places_after_back, places_with_more}
use Rattle.assumption_engine.specs.Down.{IsDown}
use Rattle.assumption_engine.specs.Engine.{HasPropagated, IsLearned, Taught}
use Rattle.assumption_engine.specs.Engine.{IsLevelOf, WentBack}
use Rattle.assumption_engine.specs.Progress.{weight}
use Rattle.search_state.specs.State.{Searched}
use Rattle.assumption_engine.proofs.ProgressLemmas.{weight_after_back}
use Rattle.clause_store.proofs.lemmas.Trails.StillLemmas.{values_stay}
use Rattle.assumption_engine.specs.Sided.{AreInOrder, AreOpposed}
use Rattle.assumption_engine.proofs.SidedLemmas.{opposed, order_after_back, order_extended}

-- ---- one conflict

-- a conflict is one of the present level, back at the greatest level of its literals
pub conflict_back : {old new : Searched} {at : ClauseRef} {level : ℕ}
    {clauses : List (List Lit)} {trail : Assigned}
    → IsConflict old.clauses old.trail.steps at → IsLevelOf old at level → 0 < level
    → WentBack level old new → clauses ≡ new.clauses → trail ≡ new.trail
    → IsPresentConflict clauses trail.steps at
conflict_back {old} {new} {at} {level} {clauses} {trail} is greatest above back same there =
    conflict_there old.clauses clauses old.trail.steps trail.steps at is.clause level is is.named
    (greatest is.clause is.named) above (same ∙ back.clauses)
    (ap (λ t. t.steps) (there ∙ back.trail))
    (ap (λ t. present_level t.steps) there ∙ back.present)

-- what the analysis of a conflict says of its clause
pub record IsAnalysed (clauses : List (List Lit)) (trail : Assigned) (learned : Learned) :
    Type 0 where
  pub refuted : Refutes clauses (negations learned.clause)
  pub is_false : All (IsFalse trail.steps) learned.clause
  pub once : HasNoVariableTwice learned.clause
  pub over : All (IsOver trail.vars) learned.clause
  pub asserting : IsAsserting trail.steps learned.clause learned.asserting
  pub back : learned.back ≡ greatest_level trail.steps (others learned.clause learned.asserting)
  pub stands : All (StandsIn clauses) learned.clause

pub taught : (old mid new : Searched) (learned : Learned) (level : ℕ) → 0 < level
    → level ≤ present_level old.trail.steps → WentBack level old mid
    → IsAnalysed mid.clauses mid.trail learned → WentBack learned.back mid new
    → Taught old new learned
taught old mid new learned level above within first is second =
    record {
      lower = omega (arith, lower, first.present);
      back =
          record {
            clauses = second.clauses ∙ first.clauses;
            trail =
                second.trail
                ∙ ap (λ (t : Assigned). record t { steps = up_to learned.back t.steps }) first.trail
                ∙ ap (λ (steps : List Step). record old.trail { steps = steps })
                (back_twice learned.back level old.trail.steps
                (omega (arith, lower, first.present)));
            present = second.present;
            was_trail = first.was_trail;
            is_trail = second.is_trail;
            of_store = second.of_store;
          };
      is_learned =
          record {
            refuted =
                subst (λ clauses. Refutes clauses (negations learned.clause)) (sym second.clauses)
                is.refuted;
            once = is.once;
            over =
                subst (λ t. All (IsOver t.vars) learned.clause) (sym second.trail) is.over;
            here = is.asserting.here;
            others =
                subst (λ t. All (λ other. other ≢ learned.asserting → IsFalse t.steps other)
                learned.clause) (sym second.trail) forces.others;
            stands =
                subst (λ clauses. All (StandsIn clauses) learned.clause) (sym second.clauses)
                is.stands;
          };
      unset =
          subst (λ t. value_of t.steps learned.asserting ≡ Unset) (sym second.trail) forces.unset;
      opposed =
          λ assumed order.
          subst (λ clauses. AreOpposed clauses assumed learned.clause)
          (sym (second.clauses ∙ first.clauses))
          (opposed old.clauses assumed mid.trail.steps learned.clause
          (subst (λ t. AreInOrder old.clauses assumed t.steps) (sym first.trail)
          (order_after_back old.clauses assumed old.trail level first.was_trail order))
          is.is_false);
    }
  where
    high : 0 < present_level mid.trail.steps
    high = omega (arith, first.present, above)

    lower : learned.back < present_level mid.trail.steps
    lower =
        omega (
          arith,
          is.back,
          back_is_lower mid.trail.steps learned.clause learned.asserting high is.asserting,
        )

    forces : ForcesOn (up_to learned.back mid.trail.steps) learned.clause learned.asserting
    forces =
        learned_is_a_unit mid.trail learned.clause learned.asserting learned.back first.is_trail
        high is.is_false is.asserting is.back

-- ---- a clause that may be counted

-- it stays one when assignments come last
pub learned_extended : (old new : Searched) (clause : List Lit) (lit : Lit)
    → HasPropagated old new → IsLearned old.clauses old.trail clause lit
    → IsLearned new.clauses new.trail clause lit
learned_extended old new clause lit by is =
    record {
      refuted = subst (λ all. Refutes all (negations clause)) (sym by.clauses) is.refuted;
      once = is.once;
      over = subst (λ n. All (IsOver n) clause) (sym by.extends.vars) is.over;
      here = is.here;
      others =
          All-weaker (λ other. other ≢ lit → IsFalse old.trail.steps other)
          (λ other. other ≢ lit → IsFalse new.trail.steps other)
          (λ other no differs.
          let is_no = no differs in
          subst (λ steps. IsFalse steps other) (sym by.extends.steps)
          ((values_stay old.trail.steps by.extends.added other
          (λ unset. no_and_unset other is_no unset)).value ∙ is_no)) clause is.others;
      stands =
          subst (λ clauses. All (StandsIn clauses) clause) (sym by.clauses) is.stands;
    }
  where
    no_and_unset : (other : Lit) → value_of old.trail.steps other ≡ No
        → value_of old.trail.steps other ≡ Unset → ⊥
    no_and_unset other is_no unset = cc

pub new_work : (clauses : List (List Lit)) (trail : Assigned) (clause : List Lit) (lit : Lit)
    → IsTrail trail → IsFixpoint clauses trail.steps → IsLearned clauses trail clause lit
    → value_of trail.steps lit ≡ Unset → IsNewWork clauses clause
new_work clauses trail clause lit is fixpoint learned unset =
    record {
      unit =
          record {
            some = let here = learned.here in omega (arith, here.1);
            once = learned.once;
            new =
                fixpoint_absorbs_no_unit trail clauses clause lit is fixpoint
                (record { here = learned.here; unset = unset; others = learned.others });
          };
      refuted = learned.refuted;
    }

-- ---- several conflicts

pub down_start : (state : Searched) → IsTrail state.trail → IsDown state state
down_start state is =
    record {
      clauses = refl;
      vars = refl;
      was_trail = is;
      is_trail = is;
      below = record { level = omega arith; same = λ level below. refl };
      order = λ assumed order. order;
      keeps = λ assumed places are. are;
    }

-- going back to level 0 is one
pub down_to_start : (old new : Searched) → WentBack 0 old new → IsDown old new
down_to_start old new back =
    record {
      clauses = back.clauses;
      vars = ap (λ t. t.vars) back.trail;
      was_trail = back.was_trail;
      is_trail = back.is_trail;
      below =
          record {
            level = omega (arith, back.present);
            same = λ level below. absurd (omega (arith, below, back.present));
          };
      order =
          λ assumed order. subst (λ clauses. AreInOrder clauses assumed new.trail.steps)
          (sym back.clauses)
          (subst (λ t. AreInOrder old.clauses assumed t.steps) (sym back.trail)
          (order_after_back old.clauses assumed old.trail 0 back.was_trail order));
      keeps =
          λ assumed places are. places_after_back assumed old.trail.steps new.trail.steps 0 places
          (ap (λ t. t.steps) back.trail) are;
    }

-- below its level a trail is not changed by what comes last
same_below : (level : ℕ) (old new : Assigned) → Extends old new
    → level < present_level old.steps → up_to level new.steps ≡ up_to level old.steps
same_below level old new is below =
    let gone : up_to level is.added ≡ [] =
    none_up_to level is.added
    (All-weaker (λ s. s.level ≡ present_level old.steps) (λ s. level < s.level)
    (λ s at. omega (arith, at, below)) is.added is.present) in
    ap (up_to level) is.steps ∙ filter-append (λ s. nat_le s.level level) old.steps is.added
    ∙ ap (λ more. up_to level old.steps ++ more) gone ∙ append-nil (up_to level old.steps)

pub down_further : (old now back new : Searched) (learned : Learned) → IsDown old now
    → Taught now back learned → HasPropagated back new → IsDown old new
down_further old now back new learned down is by =
    record {
      clauses = by.clauses ∙ is.back.clauses ∙ down.clauses;
      vars = by.extends.vars ∙ ap (λ t. t.vars) is.back.trail ∙ down.vars;
      was_trail = down.was_trail;
      is_trail = by.is_trail;
      below =
          record {
            level = omega (arith, level, is.back.present, is.lower, down.below.level);
            same = λ low below.
                same_below low back.trail new.trail by.extends (omega (arith, below, level))
                ∙ ap (λ t. up_to low t.steps) is.back.trail
                ∙ back_twice low learned.back now.trail.steps
                (omega (arith, below, level, is.back.present))
                ∙ down.below.same low (omega (arith, below, level, is.back.present, is.lower));
          };
      order =
          λ assumed order. order_extended new.clauses assumed back.trail new.trail by.extends
          by.of_store
          (subst (λ clauses. AreInOrder clauses assumed back.trail.steps)
          (sym (by.clauses ∙ is.back.clauses))
          (subst (λ t. AreInOrder now.clauses assumed t.steps) (sym is.back.trail)
          (order_after_back now.clauses assumed now.trail learned.back down.is_trail
          (down.order assumed order))));
      keeps =
          λ assumed places are. places_with_more assumed back.trail.steps new.trail.steps
          by.extends.added places by.extends.steps by.extends.present
          (places_after_back assumed now.trail.steps back.trail.steps learned.back places
          (ap (λ t. t.steps) is.back.trail) (down.keeps assumed places are));
    }
  where
    level : present_level new.trail.steps ≡ present_level back.trail.steps
    level = same_level back.trail new.trail by.extends

-- what was learned then stands as it did
pub opposed_further : (now back new : Searched) (learned : Learned) (assumed : List Lit)
    → Taught now back learned → HasPropagated back new
    → AreInOrder now.clauses assumed now.trail.steps → AreOpposed new.clauses assumed learned.clause
opposed_further now back new learned assumed is by order =
    subst (λ clauses. AreOpposed clauses assumed learned.clause) (sym by.clauses)
    (is.opposed assumed order)

-- a literal that was unset is assigned by what came last
came : (old new : Assigned) (lit : Lit) → Extends old new → value_of old.steps lit ≡ Unset
    → value_of new.steps lit ≢ Unset → (added : List Step) → new.steps ≡ old.steps ++ added
    → added ≡ [] → ⊥
came old new lit is unset set added steps none =
    set (ap (λ s. value_of s lit) (steps ∙ ap (λ more. old.steps ++ more) none
    ∙ append-nil old.steps) ∙ unset)

-- where the asserting literal was assigned, the trail weighs more
pub weighs_more : (old now back new : Searched) (learned : Learned) → IsDown old now
    → Taught now back learned → Extends back.trail new.trail
    → value_of new.trail.steps learned.asserting ≢ Unset → weight old.trail < weight new.trail
weighs_more old now back new learned down is extends set =
    go extends.added extends.steps extends.present
  where
    go : (added : List Step) → new.trail.steps ≡ back.trail.steps ++ added
        → All (λ step. step.level ≡ present_level back.trail.steps) added
        → weight old.trail < weight new.trail
    go [] steps present =
        absurd (came back.trail new.trail learned.asserting extends is.unset set [] steps refl)
    go (step ∷ rest) steps present =
        let at : step.level ≡ present_level back.trail.steps =
        All-head (λ s. s.level ≡ present_level back.trail.steps) step rest present in
        weight_after_back old.trail new.trail learned.back step rest down.was_trail
        (omega (arith, is.lower, down.below.level))
        (extends.vars ∙ ap (λ t. t.vars) is.back.trail ∙ down.vars)
        (steps
        ∙ ap (λ front. front ++ step ∷ rest)
        (ap (λ t. t.steps) is.back.trail ∙ down.below.same learned.back is.lower))
        (omega (arith, at, is.back.present))
