use Rattle.std.proofs.Common.{subst, sym}
use Rattle.search_heuristics.specs.Places.{BeginsAtZero}
use Rattle.search_heuristics.proofs.PlaceLemmas.{begins_at_zero}
use Rattle.search_heuristics.proofs.assumption_places.AssumptionPlaces.begin.Goals as goal

pub returns : goal.returns
returns c = subst BeginsAtZero (sym c.keep.ensures) (begins_at_zero c.args.self.now)
