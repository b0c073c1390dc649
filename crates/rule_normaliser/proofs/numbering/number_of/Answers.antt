use Rattle.std.proofs.Common.{refl}
use Rattle.std.proofs.lemmas.Slice.Eq.{slice_eq-Decides}
use Rattle.rule_normaliser.proofs.NumberLemmas.{Part-Decides, BodyOf-Decides, Numbers-insert}
use Rattle.rule_normaliser.proofs.numbering.number_of.Goals as goal

pub returns : goal.returns
returns c =
    Numbers-insert _
    (λ one two.
    BodyOf-Decides one two _ (slice_eq-Decides Part-Decides one.parts two.parts _ refl))
    c.args.bodies.now.keys c.insert_full.new.self.keys c.args.body c.in_ok-number.number
    (c.in_ok-number.ensures).keys (c.in_ok-number.ensures).stored
