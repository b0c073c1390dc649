-- Attached clauses when a store grows, and what is true of the store once it is true of them.
use Rattle.std.proofs.Common.{◌≡◌, ℕ, ◌<◌, List, [], ◌∷◌, ◌++◌, length, get_or, Some, refl, sym, ap}
use Rattle.std.proofs.Common.{◌∙◌, subst, inl, inr, arith, length-append}
use Rattle.std.specs.Prelude.{All, Any, slice_get}
use Rattle.std.proofs.lemmas.Bool.{cases_lt}
use Rattle.std.proofs.lemmas.Option.{same_Some, get_or_from_slice_get}
use Rattle.std.proofs.lemmas.List.Elements.{All-contains, All-push, All-weaker}
use Rattle.std.proofs.lemmas.List.Elements.{Contains-append_left}
use Rattle.std.proofs.lemmas.List.Quantifiers.{Any-push}
use Rattle.clause_store.specs.declared.literal.Lit.{Lit}
use Rattle.clause_store.specs.declared.literal.ClauseRef.{ClauseRef}
use Rattle.clause_store.specs.declared.step.Step.{Step}
use Rattle.clause_store.proofs.LiteralLemmas.{any_from}
use Rattle.clause_store.specs.Clause.{IsOver}
use Rattle.clause_store.specs.Trail.{Assigned}
use Rattle.clause_store.specs.Standing.{AreFollowed}
use Rattle.clause_store.proofs.lemmas.Trails.FollowedLemmas.{followed_with_more}
use Rattle.clause_store.proofs.TrailLemmas.{slice_get-append, trail_stays}
use Rattle.propagator.specs.Watched.{Attached, Watched, AreAttached, IsAttached, IsReady}
use Rattle.propagator.specs.Fixpoint.{IsFixpoint, IsQuietOn}
use Rattle.propagator.specs.Laws.{ReadyWithMore, ReadyWithClause, ReadyAfterRewind, ReadyWithAgain}

any-append_left : {X : Type 0} (P : X → Type 0) (xs ys : List X) → Any P xs → Any P (xs ++ ys)
any-append_left P xs ys (k, x, within, is, p) =
    any_from P (xs ++ ys) x (Contains-append_left xs ys x (k, within, is)) p

slice_get-last : {X : Type 0} (xs : List X) (x : X) → slice_get (xs ++ x ∷ []) (length xs) ≡ Some x
slice_get-last [] x = refl
slice_get-last (y ∷ xs) x = slice_get-last xs x

-- where the newest clause of a store is attached last, the attached clauses are again just those of
-- the store
attached_push : (attached : List Attached) (clauses : List (List Lit)) (at : ClauseRef)
    (clause : List Lit) → AreAttached attached clauses
    → at.0 ≡ length clauses → AreAttached (attached ++ record { at = at; lits = clause } ∷ [])
    (clauses ++ clause ∷ [])
attached_push attached clauses at clause is last =
    record { named = named; complete = complete }
  where
    entry : Attached
    entry = record { at = at; lits = clause }

    named : All (λ it. slice_get (clauses ++ clause ∷ []) it.at.0 ≡ Some it.lits)
        (attached ++ entry ∷ [])
    named =
        All-push (λ it. slice_get (clauses ++ clause ∷ []) it.at.0 ≡ Some it.lits) attached entry
        (All-weaker (λ it. slice_get clauses it.at.0 ≡ Some it.lits)
        (λ it. slice_get (clauses ++ clause ∷ []) it.at.0 ≡ Some it.lits)
        (λ it there. slice_get-append clauses (clause ∷ []) it.at.0 it.lits there) attached
        is.named)
        (ap (slice_get (clauses ++ clause ∷ [])) last ∙ slice_get-last clauses clause)

    complete : (k : ℕ) → k < length (clauses ++ clause ∷ [])
        → Any (λ it. it.at.0 ≡ k) (attached ++ entry ∷ [])
    complete k within =
        elim (cases_lt k (length clauses)) [
          | inl before ↦ any-append_left (λ it. it.at.0 ≡ k) attached (entry ∷ [])
              (is.complete k before)
          | inr after ↦ Any-push (λ it. it.at.0 ≡ k) attached entry
              (omega (arith, length-append clauses (clause ∷ []), last))
        ]

-- and where a clause of the store is attached once more
attached_again : (attached : List Attached) (clauses : List (List Lit)) (entry : Attached)
    → AreAttached attached clauses
    → slice_get clauses entry.at.0 ≡ Some entry.lits → AreAttached (attached ++ entry ∷ []) clauses
attached_again attached clauses entry is there =
    record {
      named =
          All-push (λ it. slice_get clauses it.at.0 ≡ Some it.lits) attached entry is.named there;
      complete =
          λ k within. any-append_left (λ it. it.at.0 ≡ k) attached (entry ∷ [])
          (is.complete k within);
    }

-- where each attached clause is quiet, each clause of the store is
pub fixpoint_from_attached : (steps : List Step) (attached : List Attached)
    (clauses : List (List Lit)) → AreAttached attached clauses
    → All (λ it. IsQuietOn steps it.lits) attached → IsFixpoint clauses steps
fixpoint_from_attached steps attached clauses is quiet k d within =
    let some = is.complete k within in
    let here : slice_get clauses some.1.at.0 ≡ Some some.1.lits =
    All-contains (λ it. slice_get clauses it.at.0 ≡ Some it.lits) attached some.1 is.named
    (some.0, some.2, some.3) in
    let named : slice_get clauses k ≡ Some some.1.lits =
    ap (slice_get clauses) (sym some.4) ∙ here in
    subst (IsQuietOn steps) (sym (get_or_from_slice_get clauses k some.1.lits d named))
    (All-contains (λ it. IsQuietOn steps it.lits) attached some.1 quiet (some.0, some.2, some.3))

-- ---- ready for propagation

-- what is ready stays so when assignments come last
pub ready_with_more : ReadyWithMore
ready_with_more clauses old new watches added ready is of =
    record {
      attached = ready.attached;
      same_vars = ready.same_vars ∙ sym (ap (λ trail. trail.vars) is);
      over =
          subst (λ vars. All (All (IsOver vars)) clauses) (sym (ap (λ trail. trail.vars) is))
          ready.over;
      followed =
          subst (λ steps. AreFollowed steps watches.followed) (sym (ap (λ trail. trail.steps) is))
          (followed_with_more old.steps added watches.followed ready.followed);
      of_store = of;
    }

ready_with_last : (clauses : List (List Lit)) (clause : List Lit) (trail : Assigned)
    (old new : Watched) (at : ClauseRef) → IsReady clauses trail old
    → All (IsOver trail.vars) clause → at.0 ≡ length clauses
    → IsAttached (clauses ++ clause ∷ []) at old new
    → IsReady (clauses ++ clause ∷ []) trail new
ready_with_last clauses clause trail old new at ready over last is =
    record {
      attached =
          subst (λ watches. AreAttached watches.clauses (clauses ++ clause ∷ [])) (sym new_is)
          (attached_push old.clauses clauses at clause ready.attached last);
      same_vars = ap (λ watches. watches.vars) new_is ∙ ready.same_vars;
      over = All-push (All (IsOver trail.vars)) clauses clause ready.over over;
      followed =
          subst (λ watches. AreFollowed trail.steps watches.followed) (sym new_is) ready.followed;
      of_store = trail_stays clauses clause trail.steps ready.of_store;
    }
  where
    entry : List Lit → Attached
    entry lits = record { at = at; lits = lits }

    same : is.clause ≡ clause
    same =
        same_Some is.clause clause
        (sym is.named ∙ ap (slice_get (clauses ++ clause ∷ [])) last
        ∙ slice_get-last clauses clause)

    new_is : new ≡ record old { clauses = old.clauses ++ record { at = at; lits = clause } ∷ [] }
    new_is =
        is.last
        ∙ ap
        (λ lits. let watches : Watched =
        record old { clauses = old.clauses ++ entry lits ∷ [] } in watches) same

-- and when a clause is put into the store and attached
pub ready_with_clause : ReadyWithClause
ready_with_clause clauses more clause trail old new at ready over last more_is is =
    subst (λ all. IsReady all trail new) (sym more_is)
    (ready_with_last clauses clause trail old new at ready over last
    (subst (λ all. IsAttached all at old new) more_is is))

-- all stay ready when a clause of the store is attached once more
pub ready_with_again : ReadyWithAgain
ready_with_again clauses trail old new at ready is =
    record {
      attached =
          subst (λ watches. AreAttached watches.clauses clauses) (sym is.last)
          (attached_again old.clauses clauses (record { at = at; lits = is.clause }) ready.attached
          is.named);
      same_vars = ap (λ watches. watches.vars) is.last ∙ ready.same_vars;
      over = ready.over;
      followed =
          subst (λ watches. AreFollowed trail.steps watches.followed) (sym is.last) ready.followed;
      of_store = ready.of_store;
    }

pub ready_after_rewind : ReadyAfterRewind
ready_after_rewind clauses old new watches rewound ready same of rest on =
    record {
      attached = subst (λ it. AreAttached it.clauses clauses) (sym rest) ready.attached;
      same_vars = ap (λ it. it.vars) rest ∙ ready.same_vars ∙ sym same;
      over = subst (λ vars. All (All (IsOver vars)) clauses) (sym same) ready.over;
      followed = on;
      of_store = of;
    }
