use Rattle.std.proofs.Common.{◌++◌, flat_map}
use Rattle.ground_program.specs.Program.{atoms_of_rule}
use Rattle.ground_program.specs.Validity.{atoms_of_names}
use Rattle.ground_program.proofs.ValidityLemmas.{greatest-append}
use Rattle.ground_program.proofs.validity.greatest_atom.Goals as goal

pub returns : goal.returns
returns c =
    let program = c.args.program.now in
    let rules = flat_map atoms_of_rule program.rules in
    let names = atoms_of_names program.names in
    let two = greatest-append rules names in
    let three = greatest-append (rules ++ names) program.must in
    let four = greatest-append (rules ++ names ++ program.must) program.must_not in
    cc
