use Rattle.std.proofs.Common.{Some, subst, sym}
use Rattle.std.proofs.lemmas.Option.{same_Some}
use Rattle.clause_store.specs.Trail.{IsTrailOf, IsReasonFor}
use Rattle.clause_store.proofs.ReasonLemmas.{trail_of_push}
use Rattle.clause_store.proofs.trail.Trail.assign.Goals as goal

pub returns-clause-of_store : goal.returns-clause-of_store
returns-clause-of_store c =
    subst (λ trail. IsTrailOf trail.steps c.args.store.now) (sym c.put.ensures)
    (trail_of_push c.args.store.now c.args.self.now.steps
    (record { lit = c.args.lit; reason = Some c.args.why; level = c.level-level.result })
    c.requires.of_store
    (λ why same. subst (IsReasonFor c.args.store.now c.args.self.now.steps c.args.lit)
    (same_Some c.args.why why same) c.requires.forced))
