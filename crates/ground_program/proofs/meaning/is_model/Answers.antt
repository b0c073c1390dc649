use Rattle.ground_program.specs.Models.{IsFirstFailing, IsFirstUnmet}
use Rattle.ground_program.proofs.ModelLemmas.{failing-breaks, unmet-breaks}
use Rattle.ground_program.proofs.meaning.is_model.Goals as goal

pub returns-in-Some-clause-model : goal.returns-in-Some-clause-model
returns-in-Some-clause-model c = (
  λ never. absurd (cc),
  λ model.
      let first : IsFirstFailing c.as_slice-set.result.now c.as_slice.result.now c.in-Some.at =
      c.in-Some.ensures in
      absurd
      (failing-breaks _ _ _ (simp (c.as_slice-set.ensures, c.as_slice.ensures) at first)
      model.keeps),
)

pub returns-in-Some-first_unmet-clause-model : goal.returns-in-Some-first_unmet-clause-model
returns-in-Some-first_unmet-clause-model c = (
  λ never. absurd (cc),
  λ model.
      let first : IsFirstUnmet c.args.program.now c.as_slice-set.result.now
      c.in-Some-first_unmet.atom = c.in-Some-first_unmet.ensures in
      absurd
      (unmet-breaks _ _ c.in-Some-first_unmet.atom (simp c.as_slice-set.ensures at first)
      model.compute),
)
