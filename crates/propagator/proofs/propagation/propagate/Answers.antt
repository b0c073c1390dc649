use Rattle.std.proofs.Common.{subst}
use Rattle.std.specs.Prelude.{All}
use Rattle.propagator.specs.Fixpoint.{IsQuietOn}
use Rattle.propagator.proofs.PassLemmas.{if_none_then}
use Rattle.propagator.proofs.WatchedLemmas.{fixpoint_from_attached}
use Rattle.propagator.proofs.propagation.propagate.Goals as goal

pub returns-clause-none : goal.returns-clause-none
returns-clause-none c =
    if_none_then c.scan.result c.scan.ensures.none
    (λ quiet. fixpoint_from_attached c.scan.new.trail.steps c.args.watches.now.clauses
    c.args.store.now c.requires.attached
    (subst (All (λ it. IsQuietOn c.scan.new.trail.steps it.lits)) c.entries.ensures.entries quiet))
