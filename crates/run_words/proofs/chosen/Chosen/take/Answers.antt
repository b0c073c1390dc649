use Rattle.std.proofs.Common.{refl}
use Rattle.run_words.proofs.OptionLemmas.{takes_strategy, takes_budget, takes_slice}
use Rattle.run_words.proofs.chosen.Chosen.take.Goals as goal

pub returns-in-Strategy : goal.returns-in-Strategy
returns-in-Strategy c choices =
    takes_strategy c.put.result choices c.args.choice c.in-Strategy.strategy c.args.self.now _
    c.in-Strategy.is refl refl c.put.ensures

pub returns-in-Budget : goal.returns-in-Budget
returns-in-Budget c choices =
    takes_budget c.put-in-Budget.result choices c.args.choice c.in-Budget.budget c.args.self.now _
    c.in-Budget.is refl refl c.put-in-Budget.ensures

pub returns-in-Slice : goal.returns-in-Slice
returns-in-Slice c choices =
    takes_slice c.put-in-Slice.result choices c.args.choice c.in-Slice.slice c.args.self.now _
    c.in-Slice.is refl refl c.put-in-Slice.ensures
