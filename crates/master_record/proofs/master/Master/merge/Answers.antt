use Rattle.std.proofs.Common.{◌≡◌, sym, subst, arith}
use Rattle.std.specs.Prelude.{All}
use Rattle.anytime_core.specs.Truth.{IsCoherent}
use Rattle.master_record.specs.Books.{Books}
use Rattle.master_record.specs.Merging.{IsTrueLine, AreGained, round_ended}
use Rattle.master_record.proofs.MergedLemmas.{lines_true, coherent_where}
use Rattle.master_record.proofs.master.Master.merge.Goals as goal

pub settle-requires-clause-coherent : goal.settle-requires-clause-coherent
settle-requires-clause-coherent c =
    let old : Books = c.args.self.now in
    let made : AreGained old c.args.gain c.in_ok-given.given c.in_ok-given.lines.items =
    c.in_ok-given.ensures in
    let ended : c.end_round.new.self ≡ round_ended old c.args.worker c.args.gain.ended =
    c.in_ok-end_round.ensures.ok in
    λ some.
    subst (λ (b : Books). IsCoherent b.normal) (sym ended)
    (coherent_where old c.args.worker c.args.gain made.answers made.settled
    c.in_ok-given.lines.items c.requires.gain made.given made.gained made.parts
    (omega (arith, some, made.counted)))

pub settle-requires-clause-holds : goal.settle-requires-clause-holds
settle-requires-clause-holds c =
    let old : Books = c.args.self.now in
    let made : AreGained old c.args.gain c.in_ok-given.given c.in_ok-given.lines.items =
    c.in_ok-given.ensures in
    let ended : c.end_round.new.self ≡ round_ended old c.args.worker c.args.gain.ended =
    c.in_ok-end_round.ensures.ok in
    subst (λ (b : Books). All (IsTrueLine b.normal b.mode) c.deref.result.now) (sym ended)
    (subst (All (IsTrueLine old.normal old.mode)) (sym c.deref.ensures.value)
    (lines_true old c.args.worker c.args.gain made.answers made.settled c.in_ok-given.lines.items
    c.requires.gain made.given made.gained made.parts))
