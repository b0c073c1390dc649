use Rattle.normal_program.proofs.RangeLemmas.{IsNormal-in_range}
use Rattle.normal_program.specs.Clauses.{base_clauses}
use Rattle.completion.proofs.GainLemmas.{gain_keeps_trails}
use Rattle.normal_program.proofs.lemmas.Base.OverLemmas.{base_clauses-over}
use Rattle.normal_program.proofs.lemmas.Base.EntailedLemmas.{base_clauses-entailed}
use Rattle.normal_program.proofs.lemmas.Base.ModelLemmas.{base_clauses-make_models}
use Rattle.completion.proofs.AddsLemmas.{Adds-ok, Adds-err}
use Rattle.completion.proofs.completing.complete.Goals as goal

pub complete_whole-requires : goal.complete_whole-requires
complete_whole-requires c = IsNormal-in_range c.args.normal.now c.requires

pub returns-clause-over : goal.returns-clause-over
returns-clause-over c = base_clauses-over c.args.normal.now c.requires

pub returns-clause-trails : goal.returns-clause-trails
returns-clause-trails c =
    gain_keeps_trails c.complete_whole.result c.args.store.now c.complete_whole.new.store
    (base_clauses c.args.normal.now)
    (Adds-ok c.complete_whole.result c.args.store.now c.complete_whole.new.store _
    c.complete_whole.ensures)
    (Adds-err c.complete_whole.result c.args.store.now c.complete_whole.new.store _
    c.complete_whole.ensures)

pub returns-clause-added : goal.returns-clause-added
returns-clause-added c =
    Adds-ok c.complete_whole.result c.args.store.now c.complete_whole.new.store _
    c.complete_whole.ensures

pub returns-clause-some : goal.returns-clause-some
returns-clause-some c =
    Adds-err c.complete_whole.result c.args.store.now c.complete_whole.new.store _
    c.complete_whole.ensures

pub returns-clause-entailed : goal.returns-clause-entailed
returns-clause-entailed c = base_clauses-entailed c.args.normal.now c.requires

pub returns-clause-models : goal.returns-clause-models
returns-clause-models c = base_clauses-make_models c.args.normal.now c.requires
