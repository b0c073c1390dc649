use Rattle.std.proofs.Common.{arith}
use Rattle.normal_program.specs.Clauses.{positive}
use Rattle.completion.proofs.AddsLemmas.{alone_stopped}
use Rattle.completion.proofs.short_clauses.add_true.Goals as goal

pub returns-in_err-add_alone : goal.returns-in_err-add_alone
returns-in_err-add_alone c =
    alone_stopped c.from_residual.result positive c.args.store.now c.loop-atom.store
    c.add_alone.new.store c.args.atoms.now c.loop-atom.atom-index c.positive.result
    c.from_residual.ensures.0 (omega arith) c.positive.ensures c.loop-atom.invariant
    c.in_err-add_alone.ensures
