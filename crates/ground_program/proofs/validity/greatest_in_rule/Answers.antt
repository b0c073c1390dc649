use Rattle.ground_program.specs.Validity.{atoms_of_body}
use Rattle.ground_program.proofs.ValidityLemmas.{greatest-append}
use Rattle.ground_program.proofs.validity.greatest_in_rule.Goals as goal

pub returns : goal.returns
returns c =
    let both = greatest-append c.args.rule.now.heads (atoms_of_body c.args.rule.now.body) in cc
