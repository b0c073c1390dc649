use Rattle.std.proofs.Common.{length}
use Rattle.std.proofs.lemmas.Result.{err_from_is_err_and}
use Rattle.lparse_reader.specs.Fields.{until_end_at, atom_or_end_at}
use Rattle.lparse_reader.proofs.lemmas.Calls.LoopLemmas.{until_goes_on, until_stops, until_done}
use Rattle.lparse_reader.proofs.lemmas.Calls.LoopLemmas.{until_out}
use Rattle.lparse_reader.proofs.compute_text.read_atoms_to_end.Goals as goal

pub returns-in_err-atom : goal.returns-in_err-atom
returns-in_err-atom c =
    let bytes = c.args.bytes.now in
    let stop = err_from_is_err_and c.from_residual.result c.from_residual.ensures.1 in
    rw (stop.1, stop.2)
    (until_stops c.in_err-atom.field-0.0 atom_or_end_at c.loop.atoms (length bytes)
    c.loop.counter c.loop.rest.now
    (until_end_at atom_or_end_at (length bytes) bytes) c.loop-test.true c.in_err-atom.ensures
    c.loop.invariant)

pub returns-in-None : goal.returns-in-None
returns-in-None c =
    let bytes = c.args.bytes.now in
    until_done atom_or_end_at c.loop.atoms (length bytes) c.loop.counter c.loop.rest.now
    c.in_ok-atom.after.now
    (until_end_at atom_or_end_at (length bytes) bytes) c.loop-test.true
    (rw (← c.in-None.is) c.in_ok-atom.ensures) c.loop.invariant

pub loop-preserved : goal.loop-preserved
loop-preserved c =
    let bytes = c.args.bytes.now in
    rw c.in_ok-push-in-Some.ensures.ok
    (until_goes_on atom_or_end_at c.loop.atoms (length bytes) c.loop.counter c.loop.rest.now
    c.in-Some.atom c.in_ok-atom.after.now
    (until_end_at atom_or_end_at (length bytes) bytes) c.loop-test.true
    (rw (← c.in-Some.is) c.in_ok-atom.ensures) c.loop.invariant)

pub returns : goal.returns
returns c =
    let bytes = c.args.bytes.now in
    until_out atom_or_end_at c.loop.atoms (length bytes) c.loop.counter c.loop.rest.now
    (until_end_at atom_or_end_at (length bytes) bytes) c.loop-test.false c.loop.invariant
