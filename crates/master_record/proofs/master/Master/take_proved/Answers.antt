use Rattle.std.proofs.Common.{◌≡◌, ◌<◌, ◌^◌, ℕ, List, [], sym, subst, arith, rules}
use Rattle.std.specs.Prelude.{All}
use Rattle.std.specs.List.Sorted.{IsNonDecreasing}
use Rattle.ground_program.specs.Bounds.{IsCandidate}
use Rattle.master_record.specs.Settling.{AreSettled}
use Rattle.master_record.specs.Books.{Books}
use Rattle.master_record.specs.Merging.{IsTrueLine, proved_list}
use Rattle.master_record.proofs.ProvedLemmas.{all_proved}
use Rattle.master_record.proofs.TrueLemmas.{true_settled}
use Rattle.master_record.proofs.GainedLemmas.{proved_ascends, proved_are}
use Rattle.master_record.proofs.master.Master.take_proved.Goals as goal

pub proved_lines-requires-clause-candidates : goal.proved_lines-requires-clause-candidates
proved_lines-requires-clause-candidates c =
    let books = c.args.self.now in
    let found : c.deref.result.now ≡ proved_list books c.args.pair.now = search rules in
    subst (All (IsCandidate books.normal.names)) (sym found) (proved_are books c.args.pair.now)

pub proved_lines-requires-clause-sorted : goal.proved_lines-requires-clause-sorted
proved_lines-requires-clause-sorted c =
    let books = c.args.self.now in
    let found : c.deref.result.now ≡ proved_list books c.args.pair.now = search rules in
    subst IsNonDecreasing (sym found) (proved_ascends books c.args.pair.now)

pub settle-requires-clause-fits : goal.settle-requires-clause-fits
settle-requires-clause-fits c =
    let few : c.args.self.now.answers < 2 ^ 32 =
    subst (λ (b : Books). b.answers < 2 ^ 32) c.self.view_is c.self.invariant.fits in
    omega (arith, few)

pub settle-requires-clause-holds : goal.settle-requires-clause-holds
settle-requires-clause-holds c =
    let books = c.args.self.now in
    let proved = proved_list books c.args.pair.now in
    let found : c.deref.result.now ≡ proved = search rules in
    let same : c.deref-2.result.now ≡ c.in_ok-lines.lines.items = search rules in
    let settled : AreSettled books.normal.names books.mode books.pair [] proved
    c.in_ok-lines.lines.items =
    subst (λ (xs : List ℕ). AreSettled books.normal.names books.mode books.pair [] xs
    c.in_ok-lines.lines.items) found c.in_ok-lines.ensures in
    subst (All (IsTrueLine books.normal books.mode)) (sym same)
    (true_settled books.normal books.mode books.pair [] proved c.in_ok-lines.lines.items
    (λ k d within. absurd (omega (arith, within)))
    (all_proved books c.args.pair.now c.requires) settled.each)
