use Rattle.std.proofs.Common.{◌≡◌, ◌∙◌, subst, arith}
use Rattle.bounds_board.specs.Board.{view_of}
use Rattle.bounds_board.proofs.ReadLemmas.{HasRead, read_met, read_encloses, read_within}
use Rattle.bounds_board.proofs.board.Board.read_into.Goals as goal

pub returns-clause-met : goal.returns-clause-met
returns-clause-met c =
    let board = c.args.self.now in
    let end : c.loop-word.word ≡ board.side =
    omega (arith, c.loop-word-test.false, c.loop-word.auto.word-end) in
    read_met board (view_of c.args.seat.now) c.loop-word.seat c.loop-word.pair
    (subst (λ n. HasRead board (view_of c.args.seat.now) c.loop-word.seat c.loop-word.pair n)
    (end ∙ board.halves) c.loop-word.invariant)

pub returns-clause-encloses : goal.returns-clause-encloses
returns-clause-encloses c =
    let board = c.args.self.now in
    let end : c.loop-word.word ≡ board.side =
    omega (arith, c.loop-word-test.false, c.loop-word.auto.word-end) in
    read_encloses board (view_of c.args.seat.now) c.loop-word.seat c.loop-word.pair
    (subst (λ n. HasRead board (view_of c.args.seat.now) c.loop-word.seat c.loop-word.pair n)
    (end ∙ board.halves) c.loop-word.invariant)

pub returns-clause-within : goal.returns-clause-within
returns-clause-within c =
    let board = c.args.self.now in
    let end : c.loop-word.word ≡ board.side =
    omega (arith, c.loop-word-test.false, c.loop-word.auto.word-end) in
    read_within board (view_of c.args.seat.now) c.loop-word.seat c.loop-word.pair
    (subst (λ n. HasRead board (view_of c.args.seat.now) c.loop-word.seat c.loop-word.pair n)
    (end ∙ board.halves) c.loop-word.invariant)
