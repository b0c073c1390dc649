use Rattle.std.proofs.Common.{◌≡◌}
use Rattle.clause_store.specs.Standing.{IsConflict}
use Rattle.clause_store.specs.Trail.{IsTrailOf, present_level}
use Rattle.assumption_engine.specs.Theory.{MeansTheSame}
use Rattle.assumption_engine.specs.Down.{IsDown}
use Rattle.assumption_engine.specs.Engine.{IsRight}
use Rattle.assumption_engine.proofs.engine.Engine.learn_from.Given as goal

abbrev pub invariant-conflicts : goal.invariant-conflicts
invariant-conflicts g l = record {
  right : IsRight (g.T.Theory.meaning l.self.theory) (g.T.Theory.followed l.self.theory)
      l.self.state l.self.defined;
  same : MeansTheSame (g.T.Theory.meaning l.fn.self.theory) (g.T.Theory.meaning l.self.theory);
  defined : l.self.defined ≡ l.fn.self.defined;
  dead : l.self.dead ≡ l.fn.self.dead;
  places : l.self.steering.places ≡ l.fn.self.steering.places;
  budget : l.budget ≡ l.fn.budget;
  conflict : IsConflict l.self.state.clauses l.self.state.trail.steps l.conflict;
  down : IsDown l.fn.self.state l.self.state;
  of_store : IsTrailOf l.self.state.trail.steps l.self.state.clauses;
}

abbrev pub decreases-conflicts : goal.decreases-conflicts
decreases-conflicts g l = present_level l.self.state.trail.steps
