use Rattle.std.proofs.Common.{subst}
use Rattle.anytime_core.specs.Laws.{IsSound}
use Rattle.anytime_core.proofs.LaterLemmas.{each_encloses}
use Rattle.anytime_core.proofs.machine.Core.vouch.Goals as goal

pub returns-clause-encloses : goal.returns-clause-encloses
returns-clause-encloses c =
    each_encloses c.args.self.now (subst IsSound c.self.view_is c.self.invariant.3)
