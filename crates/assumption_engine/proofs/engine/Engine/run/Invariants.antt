use Rattle.std.proofs.Common.{◌≡◌, ◌+◌, ◌^◌, length}
use Rattle.search_heuristics.specs.Places.{AreTrueBefore}
use Rattle.assumption_engine.specs.Theory.{MeansTheSame}
use Rattle.assumption_engine.specs.Engine.{GoesOn, IsRight}
use Rattle.assumption_engine.specs.Answer.{HasRoom}
use Rattle.assumption_engine.specs.Progress.{weight}
use Rattle.assumption_engine.proofs.TurnLemmas.{turns_left}
use Rattle.assumption_engine.proofs.engine.Engine.run.Given as goal

abbrev pub invariant-turns : goal.invariant-turns
invariant-turns g l = record {
  right : IsRight (g.T.Theory.meaning l.self.theory) (g.T.Theory.followed l.self.theory)
      l.self.state l.self.defined;
  same : MeansTheSame (g.T.Theory.meaning l.fn.self.theory) (g.T.Theory.meaning l.self.theory);
  defined : l.self.defined ≡ l.fn.self.defined;
  dead : l.self.dead ≡ l.fn.self.dead;
  on : GoesOn (g.T.Theory.meaning l.fn.self.theory) l.assumed l.fn.self.state l.self.state
      l.fn.budget l.budget;
  room : HasRoom l.stop l.budget;
  places : AreTrueBefore l.assumed l.self.state.trail.steps l.self.steering.places;
}

abbrev pub decreases-turns : goal.decreases-turns
decreases-turns g l =
    turns_left (length l.fn.self.state.clauses + 3 ^ l.fn.self.state.trail.vars)
    (length l.self.state.clauses) l.fn.self.state.trail.vars (weight l.self.state.trail)
