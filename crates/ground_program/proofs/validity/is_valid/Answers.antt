use Rattle.ground_program.proofs.ValidityLemmas.{program-from, program-atoms_fit}
use Rattle.ground_program.proofs.validity.is_valid.Goals as goal

pub returns-then-parts_fit : goal.returns-then-parts_fit
returns-then-parts_fit c = (
  λ yes. program-from c.args.program.now (c.parts_fit.ensures.0 c.if-parts_fit.true)
      (c.atoms_fit.ensures.0 yes),
  λ valid. c.atoms_fit.ensures.1 (program-atoms_fit c.args.program.now valid),
)
