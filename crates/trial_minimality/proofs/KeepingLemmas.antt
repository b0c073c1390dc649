-- A set that keeps the rules of a program keeps those of its normal form.
use Rattle.std.proofs.Common.{List, Bool}
use Rattle.ground_program.specs.declared.program.Program.{Program}
use Rattle.ground_program.specs.Meaning.{Keeps, KeepsAll}
use Rattle.normal_program.specs.declared.normal.Normal.{Normal}
use Rattle.normal_program.specs.Normal.{StandsFor, IsNormalFormOf, KeepsN, KeepsAllN}
use Rattle.normal_program.proofs.NormalLemmas.{KeepsN-from_rule}
use Rattle.item_list.proofs.ListLemmas.{AllZip-All, AllZip-flip}

pub kept_in_normal : (normal : Normal) (program : Program) (by set : List Bool)
    → IsNormalFormOf normal program → KeepsAll by set program.rules → KeepsAllN normal by set
kept_in_normal normal program by set form keeps =
    AllZip-All (λ rule one. StandsFor normal.bodies one rule) (Keeps by set)
    (KeepsN normal.bodies by set)
    (λ rule one stands. KeepsN-from_rule normal.bodies by set one rule stands) program.rules
    normal.rules
    (AllZip-flip (StandsFor normal.bodies) normal.rules program.rules form.rules.each) keeps
