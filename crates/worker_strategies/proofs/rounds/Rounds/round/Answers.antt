use Rattle.std.proofs.Common.{◌≡◌, ◌-◌, ◌∙◌, ap, arith, length, refl}
use Rattle.worker_strategies.specs.Rounds.{Desk, gain_after, kept_after}
use Rattle.worker_strategies.proofs.DeskLemmas.{begun_over, begun_ready, begun_room}
use Rattle.worker_strategies.proofs.RoundLemmas.{begun_unused}
use Rattle.worker_strategies.proofs.rounds.Rounds.round.Goals as goal

pub test-requires-clause-ready : goal.test-requires-clause-ready
test-requires-clause-ready c =
    begun_ready c.args.self.now c.begin-begun.new.self c.args.job.now c.begin-begun.result
    c.requires.ready c.begin-begun.ensures.begun c.begin-begun.ensures.same

pub test-requires-clause-job : goal.test-requires-clause-job
test-requires-clause-job c =
    begun_over c.args.self.now c.begin-begun.new.self c.args.job.now c.begin-begun.result
    c.requires.ready c.begin-begun.ensures.begun c.begin-begun.ensures.same c.requires.job

pub test-requires-clause-room : goal.test-requires-clause-room
test-requires-clause-room c =
    begun_room c.args.self.now c.begin-begun.new.self c.args.job.now c.begin-begun.result
    c.requires.ready c.begin-begun.ensures.begun c.begin-begun.ensures.same c.requires.selector

pub test-requires-clause-unused : goal.test-requires-clause-unused
test-requires-clause-unused c =
    begun_unused c.args.self.now c.requires.ready c.args.job.now c.begin-begun.new.self.began
    c.begin-begun.result c.begin-begun.ensures.begun

pub returns-clause-round : goal.returns-clause-round
returns-clause-round c =
    let job = c.args.job.now in
    let begun = c.begin-begun.result in
    let there = c.test.new.self in
    let after = c.test.new.budget in
    let outcome = c.in_ok-outcome.outcome in
    let count = length after.units - length begun.budget.units in
    let counted : Desk = record there { counted = count } in
    let used = c.used.result - c.used-before.result in
    let all = c.used.ensures.used in
    let before = c.used-before.ensures.used in
    let number : used ≡ count = omega (arith, all, before) in
    let counted_is =
    ap (λ (it : Desk). record it { counted = used }) c.self.view_is
    ∙ ap (λ n. record there { counted = n }) number in
    let gain_is : c.in_ok-gain.gain ≡ gain_after counted job after outcome =
    c.in_ok-gain.ensures.gain
    ∙ ap (λ (it : Desk). gain_after it job after outcome) counted_is in
    let last_is : c.end.new.self ≡ record counted { kept = kept_after job after outcome } =
    c.in_ok-gain.ensures.kept
    ∙ ap (λ (it : Desk). record it { kept = kept_after job after outcome }) counted_is in
    c.round_is.ensures c.args.self.now c.begin-begun.new.self there counted c.end.new.self job
    begun after outcome c.args.slice c.in_ok-gain.gain c.requires.ready
    c.begin-begun.ensures.begun c.begin-begun.ensures.same c.in_ok-outcome.ensures.keeps
    c.in_ok-outcome.ensures.tested c.in_ok-outcome.ensures.outcome refl last_is gain_is
