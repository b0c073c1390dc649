use Rattle.std.proofs.Common.{◌≡◌, false, sym, subst}
use Rattle.std.specs.Prelude.{All}
use Rattle.unfounded_sets.specs.Waits.{Waited}
use Rattle.unfounded_sets.proofs.LookLemmas.{are_founded}
use Rattle.unfounded_sets.proofs.refounding.one_lost.Goals as goal

pub returns-clause-founded : goal.returns-clause-founded
returns-clause-founded c =
    are_founded c.args.normal.now c.args.trail.now.steps c.lost.sources c.lost.invariant.sources
    (subst (λ (waited : Waited). All (λ waits. waits ≡ false) waited.waits)
    (sym c.lost.invariant.doubted) c.requires.none) c.in_default.ensures.none
