use Rattle.std.proofs.Common.{ap}
use Rattle.search_heuristics.proofs.PlaceLemmas.{places_after_back}
use Rattle.search_heuristics.proofs.tests.go_back.Goals as goal

pub returns-clause-before : goal.returns-clause-before
returns-clause-before c assumed places before =
    places_after_back assumed c.args.trail.now.steps c.back_to.new.self.steps c.args.level places
    (ap (λ trail. trail.steps) c.back_to.ensures.steps) before
