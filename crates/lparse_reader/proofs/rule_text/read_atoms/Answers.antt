use Rattle.std.proofs.lemmas.Result.{err_from_is_err_and}
use Rattle.lparse_reader.specs.Fields.{counted_at, atom_at}
use Rattle.lparse_reader.proofs.lemmas.Calls.LoopLemmas.{counted_goes_on, counted_stops}
use Rattle.lparse_reader.proofs.lemmas.Calls.LoopLemmas.{counted_done}
use Rattle.lparse_reader.proofs.rule_text.read_atoms.Goals as goal

pub returns-in_err-atom : goal.returns-in_err-atom
returns-in_err-atom c =
    let stop = err_from_is_err_and c.from_residual.result c.from_residual.ensures.1 in
    rw (stop.1, stop.2)
    (counted_stops c.in_err-atom.field-0.0 (atom_at) c.loop.atoms c.args.count c.loop.counter
    c.loop.rest.now
    (counted_at atom_at c.args.count c.args.bytes.now) c.loop-test.true c.in_err-atom.ensures
    c.loop.invariant)

pub loop-preserved : goal.loop-preserved
loop-preserved c =
    rw c.in_ok-push.ensures.ok
    (counted_goes_on (atom_at) c.loop.atoms c.args.count c.loop.counter c.loop.rest.now
    c.in_ok-atom.atom c.in_ok-atom.after.now
    (counted_at atom_at c.args.count c.args.bytes.now) c.loop-test.true c.in_ok-atom.ensures
    c.loop.invariant)

pub returns : goal.returns
returns c = counted_done (atom_at) c.loop.atoms c.args.count c.loop.counter c.loop.rest.now
    (counted_at atom_at c.args.count c.args.bytes.now) c.loop-test.false c.loop.invariant
