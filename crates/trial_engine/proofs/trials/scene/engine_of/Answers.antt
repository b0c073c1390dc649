use Rattle.std.proofs.Common.{◌∙◌, get_or, subst, sym}
use Rattle.std.specs.Prelude.{All, Contains}
use Rattle.std.proofs.lemmas.List.Elements.{Contains-get_or}
use Rattle.clause_store.specs.Clause.{Meets}
use Rattle.trial_engine.specs.Told.{IsClauseOver}
use Rattle.trial_engine.proofs.SceneLemmas.{opened}
use Rattle.trial_engine.proofs.trials.scene.engine_of.Goals as goal

pub of-theory-requires : goal.of-theory-requires
of-theory-requires c =
    subst (All (IsClauseOver c.args.vars)) (sym c.in_ok-again.ensures) c.requires.listed

pub open-requires-clause-holds : goal.open-requires-clause-holds
open-requires-clause-holds c values model =
    subst (Meets values) c.of-theory.ensures.base model.base

pub open-requires-clause-needs : goal.open-requires-clause-needs
open-requires-clause-needs c k d within =
    subst (λ clauses. Contains clauses (get_or c.of-theory.result.base k d))
    c.of-theory.ensures.base
    (Contains-get_or c.of-theory.result.base k d within)

pub returns : goal.returns
returns c =
    opened c.open.result c.of-theory.result c.args.vars c.args.listed.now c.requires.listed
    (c.of-theory.ensures.clauses ∙ c.in_ok-again.ensures) c.open.ensures.right
    c.open.ensures.theory
