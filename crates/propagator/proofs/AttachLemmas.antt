-- Attaching the clauses of a store one after another.
use Rattle.std.proofs.Common.{◌≡◌, ◌+◌, [], ◌∷◌, ◌++◌, take, get_or, Some, sym, ap, ◌∙◌, subst}
use Rattle.std.proofs.Common.{arith, All}
use Rattle.std.specs.Prelude.{slice_get}
use Rattle.std.proofs.lemmas.List.{take_more, length-take-le, get_or-take}
use Rattle.std.proofs.lemmas.Option.{get_or_from_slice_get, slice_get_read}
use Rattle.clause_store.specs.Clause.{IsOver}
use Rattle.propagator.specs.Laws.{ReadyWithNext}
use Rattle.propagator.proofs.WatchedLemmas.{ready_with_clause}

-- where the first clauses of a store are ready and the next one is attached, that many and one are
-- ready
pub ready_with_next : ReadyWithNext
ready_with_next clauses trail old new at over within ready is =
    ready_with_clause (take at.0 clauses) (take (at.0 + 1) clauses) is.clause trail old new at ready
    (subst (All (IsOver trail.vars)) here (over at.0 is.clause within))
    (sym (length-take-le at.0 clauses (omega (arith, within))))
    (take_more clauses at.0 is.clause within ∙ ap (λ clause. take at.0 clauses ++ clause ∷ []) here)
    (record { clause = is.clause; named = named; last = is.last })
  where
    here : get_or clauses at.0 is.clause ≡ is.clause
    here = get_or_from_slice_get clauses at.0 is.clause is.clause is.named

    named : slice_get (take (at.0 + 1) clauses) at.0 ≡ Some is.clause
    named =
        slice_get_read (take (at.0 + 1) clauses) (at.0 + 1) at.0 is.clause
        (sym (length-take-le (at.0 + 1) clauses (omega (arith, within))))
        (omega arith) (sym (get_or-take (at.0 + 1) clauses at.0 is.clause (omega arith) ∙ here))
