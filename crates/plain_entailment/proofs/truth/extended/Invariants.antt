use Rattle.std.proofs.Common.{◌≡◌, ◌++◌, map, take}
use Rattle.normal_program.specs.Body.{body_holds}
use Rattle.plain_entailment.proofs.truth.extended.Given as goal

abbrev pub invariant-loop-body : goal.invariant-loop-body
invariant-loop-body l =
    l.values ≡ l.set ++ map (body_holds l.set l.set) (take l.body-index l.normal.bodies)
