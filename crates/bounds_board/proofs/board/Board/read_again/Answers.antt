use Rattle.std.proofs.Common.{◌≡◌, ◌∙◌, subst, arith}
use Rattle.bounds_board.specs.Board.{view_of}
use Rattle.bounds_board.proofs.ReadLemmas.{HasRead, read_met, read_encloses, read_within}
use Rattle.bounds_board.proofs.board.Board.read_again.Goals as goal

pub returns-clause-met : goal.returns-clause-met
returns-clause-met c =
    let board = c.args.self.now in
    let end : c.loop-at.at ≡ board.side =
    omega (arith, c.loop-at-test.false, c.loop-at.auto.at-end) in
    read_met board (view_of c.args.seat.now) c.loop-at.seat c.loop-at.last
    (subst (λ n. HasRead board (view_of c.args.seat.now) c.loop-at.seat c.loop-at.last n)
    (end ∙ board.halves) c.loop-at.invariant)

pub returns-clause-encloses : goal.returns-clause-encloses
returns-clause-encloses c =
    let board = c.args.self.now in
    let end : c.loop-at.at ≡ board.side =
    omega (arith, c.loop-at-test.false, c.loop-at.auto.at-end) in
    read_encloses board (view_of c.args.seat.now) c.loop-at.seat c.loop-at.last
    (subst (λ n. HasRead board (view_of c.args.seat.now) c.loop-at.seat c.loop-at.last n)
    (end ∙ board.halves) c.loop-at.invariant)

pub returns-clause-within : goal.returns-clause-within
returns-clause-within c =
    let board = c.args.self.now in
    let end : c.loop-at.at ≡ board.side =
    omega (arith, c.loop-at-test.false, c.loop-at.auto.at-end) in
    read_within board (view_of c.args.seat.now) c.loop-at.seat c.loop-at.last
    (subst (λ n. HasRead board (view_of c.args.seat.now) c.loop-at.seat c.loop-at.last n)
    (end ∙ board.halves) c.loop-at.invariant)
