use Rattle.std.proofs.Common.{arith}
use Rattle.conflict_learning.proofs.LearnedLemmas as lemma
use Rattle.conflict_learning.proofs.walk.Walk.resolve.Goals as goal

pub loop-self-init : goal.loop-self-init
loop-self-init c =
    lemma.resolving_begins c.args.store.now c.args.trail.now c.args.self.now c.go_back-step.new.self
    c.go_back-step.result c.go_back-step.ensures

pub unwrap-why-requires : goal.unwrap-why-requires
unwrap-why-requires c =
    lemma.some_reason c.args.store.now c.args.trail.now c.args.self.now c.loop-self.self
    c.loop-self.step c.loop-self.invariant c.loop-self-test.true

pub lits-requires : goal.lits-requires
lits-requires c =
    lemma.reason_within c.args.store.now c.args.trail.now c.args.self.now c.loop-self.self
    c.loop-self.step c.unwrap-why.result c.loop-self.invariant c.requires.of_store
    c.unwrap-why.ensures

pub note_all-requires-clause-notable : goal.note_all-requires-clause-notable
note_all-requires-clause-notable c =
    lemma.reason_notable c.args.store.now c.args.trail.now c.args.self.now c.loop-self.self
    c.loop-self.step c.unwrap-why.result c.lits.result.now c.loop-self.invariant
    c.requires.of_store c.unwrap-why.ensures
    c.lits.ensures.lits

pub go_back-step-requires-in-loop-self-clause-some :
    goal.go_back-step-requires-in-loop-self-clause-some
go_back-step-requires-in-loop-self-clause-some c =
    omega (arith, c.in_ok-note_all.ensures.later.unresolved, c.loop-self-test.true)

pub loop-self-preserved : goal.loop-self-preserved
loop-self-preserved c =
    lemma.resolving_goes_on c.args.store.now c.args.trail.now c.args.self.now c.loop-self.self
    c.note_all.new.self c.go_back-step-in-loop-self.new.self c.loop-self.step
    c.go_back-step-in-loop-self.result
    c.unwrap-why.result c.lits.result.now c.loop-self.invariant c.requires.of_store
    c.unwrap-why.ensures c.lits.ensures.lits c.in_ok-note_all.ensures
    c.go_back-step-in-loop-self.ensures
