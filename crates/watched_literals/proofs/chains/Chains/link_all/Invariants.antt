use Rattle.watched_literals.specs.Laying.{AreFirstLinked, AreOfSameLits}
use Rattle.watched_literals.proofs.chains.Chains.link_all.Given as goal

abbrev pub invariant-loop-at : goal.invariant-loop-at
invariant-loop-at l = record {
  linked : AreFirstLinked l.self.nodes.items l.self.heads.items l.at;
  same : AreOfSameLits l.fn.self l.self;
}
