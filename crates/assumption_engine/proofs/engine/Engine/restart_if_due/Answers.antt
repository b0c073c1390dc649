use Rattle.assumption_engine.proofs.DownLemmas.{down_to_start}
use Rattle.assumption_engine.proofs.engine.Engine.restart_if_due.Goals as goal

pub returns-clause-down : goal.returns-clause-down
returns-clause-down g c =
    down_to_start c.args.self.now.state c.go_back.new.self.state c.go_back.ensures.back
