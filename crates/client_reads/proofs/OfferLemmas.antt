-- A model whose normal form finds it minimal is an answer set of the program.
use Rattle.std.proofs.Common.{Bool, List}
use Rattle.ground_program.specs.declared.program.Program.{Program}
use Rattle.ground_program.specs.Meaning.{Keeps, KeepsAll, IsSetOver, IsAnswerSet}
use Rattle.ground_program.specs.Models.{IsModel}
use Rattle.ground_program.proofs.MeaningLemmas.{SomeFails-from}
use Rattle.item_list.proofs.ListLemmas.{AllZip-All, AllZip-flip}
use Rattle.normal_program.specs.declared.normal.Normal.{Normal}
use Rattle.normal_program.specs.Normal.{IsNormalFormOf, KeepsN, KeepsAllN, StandsFor}
use Rattle.normal_program.proofs.NormalLemmas.{KeepsN-from_rule}
use Rattle.minimality_test.specs.Minimality.{IsMinimal}

module _ (normal : Normal) (program : Program) (form : IsNormalFormOf normal program) where
  -- a set that keeps the rules keeps those of the normal form
  pub keeps_normal : (by set : List Bool) → KeepsAll by set program.rules
      → KeepsAllN normal by set
  keeps_normal by set keeps =
      AllZip-All (λ rule one. StandsFor normal.bodies one rule) (Keeps by set)
      (KeepsN normal.bodies by set)
      (λ rule one stands. KeepsN-from_rule normal.bodies by set one rule stands)
      program.rules normal.rules
      (AllZip-flip (StandsFor normal.bodies) normal.rules program.rules form.rules.each) keeps

  -- a minimal model is an answer set
  pub answer_from : (set : List Bool) → IsSetOver program.atoms set → IsModel program set
      → IsMinimal normal set → IsAnswerSet program set
  answer_from set over model minimal =
      record {
        over = over;
        compute = model.compute;
        keeps = model.keeps;
        least = λ part proper. SomeFails-from set part program.rules
            (λ keeps. minimal part proper (keeps_normal set part keeps));
      }
