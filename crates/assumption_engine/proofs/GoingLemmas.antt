-- How a search goes on: which decisions come first, and which clauses come.
use Rattle.std.proofs.Common.{◌≡◌, ℕ, List, [], ◌∷◌, ◌++◌}
use Rattle.std.proofs.Common.{refl, sym, ap, ◌∙◌, subst, arith}
use Rattle.std.proofs.Common.{append_assoc, get_or}
use Rattle.std.specs.Prelude.{All, Contains, Bool}
use Rattle.std.specs.Prelude.{Result, Ok, Err, OnOk, IfOk}
use Rattle.std.proofs.lemmas.List.{append-nil}
use Rattle.std.proofs.lemmas.List.Elements.{All-append, All-cons, All-nil, All-push}
use Rattle.std.proofs.lemmas.List.Elements.{All-weaker, All-contains_itself}
use Rattle.std.proofs.lemmas.List.Elements.{All-contains, Contains-append_left, Contains-push}
use Rattle.std.proofs.lemmas.List.Elements.{Contains-append_right}
use Rattle.clause_store.specs.declared.literal.Lit.{Lit}
use Rattle.clause_store.specs.Clause.{HoldsIn, Meets}
use Rattle.clause_store.specs.Counted.{Counted}
use Rattle.clause_store.specs.Entailment.{AreUnits, IsUnit}
use Rattle.clause_store.specs.History.{Added, given, counted, added_clauses, counted_clauses}
use Rattle.clause_store.specs.History.{given_clauses, IsHistory, IsNewWork}
use Rattle.clause_store.specs.Laws.{AreMoreClauses}
use Rattle.clause_store.specs.Standing.{AreFollowed, Followed}
use Rattle.clause_store.proofs.EntailmentLemmas.{refuted_follows}
use Rattle.clause_store.proofs.LiteralLemmas.{all_through, has_first, has_later}
use Rattle.clause_store.proofs.lemmas.Units.HistoryLemmas.{histories_add, histories_compose}
use Rattle.clause_store.proofs.lemmas.Units.HistoryLemmas.{history_has_units}
use Rattle.clause_store.proofs.lemmas.Units.UnitLemmas.{units_among_fewer, units_split}
use Rattle.conflict_learning.specs.Analysis.{StandsIn}
use Rattle.assumption_engine.specs.Theory.{Meaning, MeansTheSame}
use Rattle.assumption_engine.specs.Engine.{GoesOn, HasCounted}
use Rattle.assumption_engine.specs.Engine.{IsModelOf, IsRight}
use Rattle.search_state.specs.State.{Searched}
use Rattle.assumption_engine.proofs.SameLemmas.{model_same}
use Rattle.assumption_engine.specs.Sided.{AreAsAssumed, AreInOrder, AreOpposed, IsOneSided}
use Rattle.assumption_engine.specs.Sided.{positive}
use Rattle.assumption_engine.proofs.SidedLemmas.{as_assumed_before, lacks_unnegated}
use Rattle.assumption_engine.proofs.SidedLemmas.{learned_as_assumed, order_with_clause, sided_back}
use Rattle.assumption_engine.proofs.SidedLemmas.{sided_same}
use Rattle.assumption_engine.proofs.SidedLemmas.{sided_with}

-- ---- going on

-- nothing came
pub goes_on_still : (meaning : Meaning) (assumed : List Lit) (old new : Searched)
    (before after : Counted) → new.trail.vars ≡ old.trail.vars → new.clauses ≡ old.clauses
    → after ≡ before
    → (AreInOrder old.clauses assumed old.trail.steps
    → AreInOrder new.clauses assumed new.trail.steps)
    → GoesOn meaning assumed old new before after
goes_on_still meaning assumed old new before after vars store same order =
    record {
      vars = vars;
      added = [];
      clauses = store ∙ sym (append-nil old.clauses);
      counts = same ∙ ap (λ units. record before { units = units }) (sym (append-nil before.units));
      history = record { history = tt; kind = All-nil meaning.may_give };
      are_units = tt;
      sided =
          λ var is. subst (λ clauses. IsOneSided meaning.may_give clauses var) (sym store) is;
      as_assumed = All-nil (AreAsAssumed meaning.may_give old.clauses assumed);
      order = order;
    }

-- one after the other
pub goes_on_then : (one two : Meaning) (assumed : List Lit) (first second third : Searched)
    (before mid after : Counted) → MeansTheSame one two
    → GoesOn one assumed first second before mid → GoesOn two assumed second third mid after
    → GoesOn one assumed first third before after
goes_on_then one two assumed first second third before mid after same early late =
    let together = histories_add early.added late.added in
    record {
      vars = late.vars ∙ early.vars;
      added = early.added ++ late.added;
      clauses =
          late.clauses ∙ ap (λ clauses. clauses ++ added_clauses late.added) early.clauses
          ∙ append_assoc first.clauses (added_clauses early.added) (added_clauses late.added)
          ∙ ap (λ clauses. first.clauses ++ clauses) (sym together.added_is);
      counts =
          late.counts
          ∙ ap (λ (it : Counted). record it { units = it.units ++ counted_clauses late.added })
          early.counts
          ∙ ap (λ units. record before { units = units })
          (append_assoc before.units (counted_clauses early.added) (counted_clauses late.added)
          ∙ ap (λ units. before.units ++ units) (sym together.counted_is));
      history =
          record {
            history =
                (histories_compose first.clauses early.added late.added).1 (
                  early.history.history,
                  subst (λ clauses. IsHistory clauses late.added) early.clauses
                      late.history.history,
                );
            kind =
                subst (All one.may_give) (sym together.given_is)
                (All-append one.may_give (given_clauses early.added) (given_clauses late.added)
                early.history.kind
                (All-weaker two.may_give one.may_give (λ clause. (same.may_give clause).1)
                (given_clauses late.added) late.history.kind));
          };
      are_units =
          subst (AreUnits first.clauses) (sym together.added_is)
          ((units_split first.clauses (added_clauses early.added) (added_clauses late.added)).1 (
            early.are_units,
            subst (λ clauses. AreUnits clauses (added_clauses late.added)) early.clauses
                late.are_units,
          ));
      sided =
          λ var is. sided_back one two third.clauses var same
          (late.sided var (sided_same one two second.clauses var same (early.sided var is)));
      as_assumed =
          subst (All (AreAsAssumed one.may_give first.clauses assumed)) (sym together.counted_is)
          (All-append (AreAsAssumed one.may_give first.clauses assumed)
          (counted_clauses early.added) (counted_clauses late.added) early.as_assumed
          (as_assumed_before one two first.clauses second.clauses assumed
          (counted_clauses late.added) same early.sided late.as_assumed));
      order = λ is. late.order (early.order is);
    }

-- ---- what was counted

pub counted_none : (meaning : Meaning) (assumed : List Lit) (defined clauses : List (List Lit))
    (before after : Counted) → after ≡ before
    → HasCounted meaning assumed defined clauses before after
counted_none meaning assumed defined clauses before after same =
    record {
      units = [];
      counts = same ∙ ap (λ units. record before { units = units }) (sym (append-nil before.units));
      are = tt;
      hold = λ values model. All-nil (HoldsIn values);
      sided = All-nil (AreAsAssumed meaning.may_give clauses assumed);
    }

-- those that were counted came
counted_among : (added : List Added)
    → AreMoreClauses (counted_clauses added) (added_clauses added)
counted_among [] = All-nil (Contains [])
counted_among (given clause ∷ rest) =
    All-weaker (Contains (added_clauses rest)) (Contains (clause ∷ added_clauses rest))
    (λ one here. has_later clause one (added_clauses rest) here) (counted_clauses rest)
    (counted_among rest)
counted_among (counted clause ∷ rest) =
    All-cons (Contains (clause ∷ added_clauses rest)) clause (counted_clauses rest)
    (has_first clause (added_clauses rest))
    (All-weaker (Contains (added_clauses rest)) (Contains (clause ∷ added_clauses rest))
    (λ one here. has_later clause one (added_clauses rest) here) (counted_clauses rest)
    (counted_among rest))

counted_there : (clauses more : List (List Lit)) (added : List Added)
    → more ≡ clauses ++ added_clauses added → AreMoreClauses (counted_clauses added) more
counted_there clauses more added is =
    subst (AreMoreClauses (counted_clauses added)) (sym is)
    (All-weaker (Contains (added_clauses added)) (Contains (clauses ++ added_clauses added))
    (λ one here. Contains-append_right clauses (added_clauses added) one here)
    (counted_clauses added) (counted_among added))

-- the clauses of the beginning and those that were counted are there
still_there : (clauses more : List (List Lit)) (added : List Added)
    → more ≡ clauses ++ added_clauses added
    → AreMoreClauses (clauses ++ counted_clauses added) more
still_there clauses more added is =
    All-append (Contains more) clauses (counted_clauses added)
    (subst (AreMoreClauses clauses) (sym is)
    (All-weaker (Contains clauses) (Contains (clauses ++ added_clauses added))
    (λ one here. Contains-append_left clauses (added_clauses added) one here) clauses
    (All-contains_itself clauses)))
    (counted_there clauses more added is)

-- what was counted first, and then more
pub counted_then : (one two : Meaning) (followed : List Followed) (defined : List (List Lit))
    (assumed : List Lit) (first second : Searched) (before mid after : Counted)
    → MeansTheSame one two → IsRight two followed second defined
    → GoesOn one assumed first second before mid
    → HasCounted two assumed defined second.clauses mid after
    → HasCounted one assumed defined first.clauses before after
counted_then one two followed defined assumed first second before mid after same right on late =
    let there = still_there first.clauses second.clauses on.added on.clauses in
    record {
      units = counted_clauses on.added ++ late.units;
      counts =
          late.counts
          ∙ ap (λ (it : Counted). record it { units = it.units ++ late.units }) on.counts
          ∙ ap (λ units. record before { units = units })
          (append_assoc before.units (counted_clauses on.added) late.units);
      are =
          (units_split first.clauses (counted_clauses on.added) late.units).1 (
            history_has_units first.clauses on.added on.history.history,
            units_among_fewer (first.clauses ++ counted_clauses on.added) second.clauses late.units
                there late.are,
          );
      hold =
          λ values model.
          let then = model_same one two defined values same model in
          All-append (HoldsIn values) (counted_clauses on.added) late.units
          (all_through (HoldsIn values) (counted_clauses on.added) second.clauses
          (counted_there first.clauses second.clauses on.added on.clauses)
          (right.holds values then))
          (late.hold values then);
      sided =
          All-append (AreAsAssumed one.may_give first.clauses assumed) (counted_clauses on.added)
          late.units on.as_assumed
          (as_assumed_before one two first.clauses second.clauses assumed late.units same on.sided
          late.sided);
    }

-- so with nothing more
pub counted_of : (one two : Meaning) (followed : List Followed) (defined : List (List Lit))
    (assumed : List Lit) (first second : Searched) (before after : Counted)
    → MeansTheSame one two → IsRight two followed second defined
    → GoesOn one assumed first second before after
    → HasCounted one assumed defined first.clauses before after
counted_of one two followed defined assumed first second before after same right on =
    counted_then one two followed defined assumed first second before after after same right on
    (counted_none two assumed defined second.clauses after after refl)

-- ---- a clause comes

-- a state with a clause put last
abbrev pub with_clause : Searched → List Lit → Searched
with_clause state clause = record state { clauses = state.clauses ++ clause ∷ [] }

-- a variable that the clause hasn't unnegated stays one-sided
sided_after : (meaning : Meaning) (old new : Searched) (clause : List Lit) (var : ℕ)
    → new ≡ with_clause old clause → (Contains clause (positive var) → ⊥)
    → IsOneSided meaning.may_give old.clauses var → IsOneSided meaning.may_give new.clauses var
sided_after meaning old new clause var put lacks is =
    subst (λ s. IsOneSided meaning.may_give s.clauses var) (sym put)
    (sided_with meaning.may_give old.clauses clause var lacks is)

-- what was in order stays so
order_after : (assumed : List Lit) (old new : Searched) (clause : List Lit)
    → new ≡ with_clause old clause → AreInOrder old.clauses assumed old.trail.steps
    → AreInOrder new.clauses assumed new.trail.steps
order_after assumed old new clause put order =
    subst (λ s. AreInOrder s.clauses assumed s.trail.steps) (sym put)
    (order_with_clause old.clauses clause assumed old.trail.steps order)

-- clauses that were there are there when one comes
more_with : (old new : Searched) (clause : List Lit) (clauses : List (List Lit))
    → new ≡ with_clause old clause → AreMoreClauses clauses old.clauses
    → AreMoreClauses clauses new.clauses
more_with old new clause clauses put there =
    subst (λ s. AreMoreClauses clauses s.clauses) (sym put)
    (All-weaker (Contains old.clauses) (Contains (old.clauses ++ clause ∷ []))
    (λ one here. Contains-append_left old.clauses (clause ∷ []) one here) clauses there)

-- a clause came, and what holds in the models is there
right_with : (meaning : Meaning) (followed : List Followed) (old new : Searched)
    (was defined : List (List Lit)) (clause : List Lit) → IsRight meaning followed old was
    → new ≡ with_clause old clause
    → ((values : List Bool) → IsModelOf meaning defined values
    → Meets values (old.clauses ++ clause ∷ []))
    → AreMoreClauses defined new.clauses → IsRight meaning followed new defined
right_with meaning followed old new was defined clause is put meets kept =
    record {
      alive = ap (λ s. s.dead) put ∙ is.alive;
      holds = λ values model. subst (λ s. Meets values s.clauses) (sym put) (meets values model);
      needed = more_with old new clause meaning.needs put is.needed;
      kept = kept;
      range =
          let r = is.range in let same = ap (λ s. s.trail.vars) put in omega (arith, r, same);
      follows = subst (λ s. AreFollowed s.trail.steps followed) (sym put) is.follows;
    }

-- so for a clause that holds in all models
pub right_added : (meaning : Meaning) (followed : List Followed) (old new : Searched)
    (defined : List (List Lit)) (clause : List Lit) → IsRight meaning followed old defined
    → new ≡ with_clause old clause
    → ((values : List Bool) → IsModelOf meaning defined values → HoldsIn values clause)
    → IsRight meaning followed new defined
right_added meaning followed old new defined clause is put holds =
    right_with meaning followed old new defined defined clause is put
    (λ values model. All-push (HoldsIn values) old.clauses clause (is.holds values model)
    (holds values model)) (more_with old new clause defined put is.kept)

-- and for the clause of a selector, which comes to the clauses of the selectors too
pub right_defined : (meaning : Meaning) (followed : List Followed) (old new : Searched)
    (was defined : List (List Lit)) (clause : List Lit) → IsRight meaning followed old was
    → new ≡ with_clause old clause → defined ≡ was ++ clause ∷ []
    → IsRight meaning followed new defined
right_defined meaning followed old new was defined clause is put more =
    right_with meaning followed old new was defined clause is put meets
    (subst (λ d. AreMoreClauses d new.clauses) (sym more)
    (All-push (Contains new.clauses) was clause (more_with old new clause was put is.kept)
    (subst (λ s. Contains s.clauses clause) (sym put) (Contains-push old.clauses clause))))
  where
    meets : (values : List Bool) → IsModelOf meaning defined values
        → Meets values (old.clauses ++ clause ∷ [])
    meets values model =
        let both : Meets values (was ++ clause ∷ []) = subst (Meets values) more model.meets in
        let first : Meets values was =
        all_through (HoldsIn values) was (was ++ clause ∷ [])
        (λ k d within. Contains-append_left was (clause ∷ []) (get_or was k d)
        (All-contains_itself was k d within)) both in
        let last : HoldsIn values clause =
        All-contains (HoldsIn values) (was ++ clause ∷ []) clause both
        (Contains-push was clause) in
        All-push (HoldsIn values) old.clauses clause
        (is.holds values (record { model = model.model; meets = first })) last

-- a clause is counted
pub goes_on_counted : (meaning : Meaning) (assumed : List Lit) (old new : Searched)
    (before after : Counted) (clause : List Lit) → IsNewWork old.clauses clause
    → All (StandsIn old.clauses) clause → AreOpposed old.clauses assumed clause
    → new ≡ with_clause old clause
    → after ≡ record before { units = before.units ++ clause ∷ [] }
    → GoesOn meaning assumed old new before after
goes_on_counted meaning assumed old new before after clause work stand opposites put counts =
    record {
      vars = ap (λ s. s.trail.vars) put;
      added = counted clause ∷ [];
      clauses = ap (λ s. s.clauses) put;
      counts = counts;
      history = record { history = (work, tt); kind = All-nil meaning.may_give };
      are_units = (work.unit, tt);
      sided =
          λ var is. sided_after meaning old new clause var put
          (lacks_unnegated meaning.may_give old.clauses clause var stand is) is;
      as_assumed =
          All-cons (AreAsAssumed meaning.may_give old.clauses assumed) clause []
          (learned_as_assumed meaning.may_give old.clauses assumed clause stand opposites)
          (All-nil (AreAsAssumed meaning.may_give old.clauses assumed));
      order = order_after assumed old new clause put;
    }

pub counted_one : (meaning : Meaning) (assumed : List Lit) (followed : List Followed)
    (state : Searched) (defined : List (List Lit)) (before after : Counted) (clause : List Lit)
    → IsRight meaning followed state defined → IsNewWork state.clauses clause
    → All (StandsIn state.clauses) clause → AreOpposed state.clauses assumed clause
    → after ≡ record before { units = before.units ++ clause ∷ [] }
    → HasCounted meaning assumed defined state.clauses before after
counted_one meaning assumed followed state defined before after clause right work stand opposites
    counts =
    record {
      units = clause ∷ [];
      counts = counts;
      are = (work.unit, tt);
      hold =
          λ values model. All-cons (HoldsIn values) clause []
          (refuted_follows state.clauses clause work.refuted values (right.holds values model))
          (All-nil (HoldsIn values));
      sided =
          All-cons (AreAsAssumed meaning.may_give state.clauses assumed) clause []
          (learned_as_assumed meaning.may_give state.clauses assumed clause stand opposites)
          (All-nil (AreAsAssumed meaning.may_give state.clauses assumed));
    }

-- a clause is given
pub goes_on_given : (meaning : Meaning) (assumed : List Lit) (old new : Searched)
    (same : Counted) (clause : List Lit) → meaning.may_give clause → IsUnit old.clauses clause
    → new ≡ with_clause old clause → GoesOn meaning assumed old new same same
goes_on_given meaning assumed old new same clause may unit put =
    record {
      vars = ap (λ s. s.trail.vars) put;
      added = given clause ∷ [];
      clauses = ap (λ s. s.clauses) put;
      counts =
          ap (λ units. record same { units = units }) (sym (append-nil same.units));
      history =
          record {
            history = tt;
            kind = All-cons meaning.may_give clause [] may (All-nil meaning.may_give);
          };
      are_units = (unit, tt);
      sided = λ var is. sided_after meaning old new clause var put (is.not_given clause may) is;
      as_assumed = All-nil (AreAsAssumed meaning.may_give old.clauses assumed);
      order = order_after assumed old new clause put;
    }

-- ---- answers of calls

pub on_ok_then : {X E : Type 0} {P Q : Type 0} (result : Result X E) → OnOk result P → (P → Q)
    → OnOk result Q
on_ok_then (Ok x) is then = then is
on_ok_then (Err e) is then = is

pub if_ok_then : {X E : Type 0} (P Q : X → Type 0) (result : Result X E) → IfOk result P
    → ((x : X) → P x → Q x) → IfOk result Q
if_ok_then P Q (Ok x) is then = then x is
if_ok_then P Q (Err e) is then = is
