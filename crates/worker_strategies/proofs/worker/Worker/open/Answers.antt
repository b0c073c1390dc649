use Rattle.std.proofs.Common.{false, subst, sym}
use Rattle.worker_strategies.specs.Facts.{AreFactsOf}
use Rattle.worker_strategies.specs.Rounds.{Desk, IsAtWork}
use Rattle.worker_strategies.proofs.DeskLemmas.{opened_ready}
use Rattle.worker_strategies.proofs.worker.Worker.open.Goals as goal

pub invariant_of-result : goal.invariant_of-result
invariant_of-result c = (
  subst (λ (desk : Desk). IsAtWork desk false) (sym c.in_ok-rounds.ensures)
      (record {
        is_normal = c.requires.normal;
        some = c.requires.some;
        ready =
            λ alive.
            opened_ready c.args.normal.now c.args.mode c.args.number c.args.budget
            c.requires.normal c.requires.some;
      }),
  subst (λ (desk : Desk). AreFactsOf desk.normal desk.mode c.in_ok-facts.facts)
      (sym c.in_ok-rounds.ensures) c.in_ok-facts.ensures,
)
