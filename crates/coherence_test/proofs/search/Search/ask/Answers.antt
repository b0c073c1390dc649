use Rattle.std.proofs.Common.{length, subst}
use Rattle.assumption_engine.specs.Answer.{IsAnswer}
use Rattle.coherence_test.specs.AnswerSets.{answer_sets}
use Rattle.coherence_test.proofs.SoundLemmas.{ask_sound, grown}
use Rattle.assumption_engine.proofs.TurnLemmas.{answer_same}
use Rattle.coherence_test.proofs.AskLemmas.{asked_added, asked_counted, asked_in_use}
use Rattle.coherence_test.proofs.search.Search.ask.Goals as goal

pub returns-clause-sound : goal.returns-clause-sound
returns-clause-sound c not =
    let old = c.args.self.now in
    let alive = c.ask.ensures.alive not in
    let on = c.ask.ensures.on alive in
    ask_sound old.normal.now old.engine c.ask.new.self old.disjunctions c.requires.sound
    c.ask.ensures.same (c.ask.ensures.right alive) alive c.ask.ensures.defined on.vars
    (grown old.normal.now old.disjunctions old.engine.state.clauses
    c.ask.new.self.state.clauses c.args.budget.now c.ask.new.budget
    (asked_added old.normal.now old.engine.theory.normal old.disjunctions c.args.assumed.now
    old.engine.state c.ask.new.self.state c.args.budget.now c.ask.new.budget
    c.requires.sound.same on))
    (asked_in_use old.normal.now old.engine.theory.normal old.disjunctions c.args.assumed.now
    old.engine.state c.ask.new.self.state c.args.budget.now c.ask.new.budget
    c.requires.sound.same on (length old.disjunctions) c.requires.sound.in_use c.requires.over)

pub returns-clause-added : goal.returns-clause-added
returns-clause-added c not =
    let old = c.args.self.now in
    asked_added old.normal.now old.engine.theory.normal old.disjunctions c.args.assumed.now
    old.engine.state c.ask.new.self.state c.args.budget.now c.ask.new.budget
    c.requires.sound.same (c.ask.ensures.on (c.ask.ensures.alive not))

pub returns-clause-counted : goal.returns-clause-counted
returns-clause-counted c used over =
    let old = c.args.self.now in
    asked_counted old.normal.now old.engine.theory.normal (length old.disjunctions) used
    old.disjunctions old.engine.state.clauses old.engine.defined c.args.assumed.now
    c.args.budget.now c.ask.new.budget c.requires.sound.same c.requires.sound.in_use
    c.requires.sound.over c.requires.sound.defined over c.ask.ensures.counted

pub returns-clause-says : goal.returns-clause-says
returns-clause-says c not =
    let old = c.args.self.now in
    let says = (c.ask.ensures.answer not).says in (
      c.ask.new.budget.limit,
      subst
          (λ defined.
          IsAnswer (answer_sets old.normal.now) defined c.args.assumed.now c.ask.new.budget.limit
          c.ask.new.self.state.trail c.ask.result)
          c.requires.sound.defined
          (answer_same (answer_sets old.normal.now) (answer_sets old.engine.theory.normal)
          old.engine.defined c.args.assumed.now c.ask.new.budget.limit c.ask.new.self.state.trail
          c.ask.result c.requires.sound.same says),
    )
