use Rattle.std.proofs.Common.{◌∙◌, List, ap, get_or, refl, sym}
use Rattle.clause_store.specs.Clause.{negation}
use Rattle.clause_store.specs.declared.step.Step.{Step}
use Rattle.clause_store.proofs.LiteralLemmas.{negation-negation}
use Rattle.watched_literals.proofs.RunLemmas.{begins, no_step}
use Rattle.watched_literals.proofs.walk.begin.Goals as goal

pub returns-clause-walking : goal.returns-clause-walking
returns-clause-walking c =
    begins c.args.store.now c.args.entries.now c.args.trail.now c.args.tables.now
    (record {
      place = c.args.place;
      lit = c.negated-lit.result;
      level = (get_or c.steps.result.now c.args.place no_step).level;
      last = 4294967295;
      at = c.index.result.now;
    })
    c.requires.running c.requires.within
    (sym (ap negation
    (c.negated-lit.ensures
    ∙ ap (λ (steps : List Step). negation (get_or steps c.args.place no_step).lit)
    c.steps.ensures.steps)
    ∙ negation-negation (get_or c.args.trail.now.steps c.args.place no_step).lit))
    (ap (λ (steps : List Step). (get_or steps c.args.place no_step).level)
    (sym c.steps.ensures.steps))
    refl c.index.ensures
