use Rattle.std.proofs.Common.{◌≡◌, ◌∙◌, ℕ, ap, arith, subst}
use Rattle.watched_literals.specs.declared.cursor.Cursor.{Cursor}
use Rattle.watched_literals.specs.Chains.{next_of}
use Rattle.watched_literals.specs.Watching.{IsMoved}
use Rattle.watched_literals.proofs.RunLemmas.{blank}
use Rattle.watched_literals.proofs.SeenLemmas.{read_next}
use Rattle.watched_literals.proofs.RunLemmas.{fails, last_in, leaves, lit_in}
use Rattle.watched_literals.proofs.RunLemmas.{stays, stays_kept, to_in}
use Rattle.watched_literals.proofs.RunLemmas.{walk_more}
use Rattle.watched_literals.proofs.SeatLemmas.{seat}
use Rattle.watched_literals.proofs.walk.pass.Goals as goal

pub index-requires : goal.index-requires
index-requires c =
    omega (
      arith,
      (seat c.args.store.now c.args.entries.now c.args.trail.now c.args.tables.now
          c.args.cursor.now c.requires.walking c.requires.some).node,
    )

pub visit_node-requires : goal.visit_node-requires
visit_node-requires c =
    seat c.args.store.now c.args.entries.now c.args.trail.now c.args.tables.now c.args.cursor.now
    c.requires.walking c.requires.some

pub imply-requires-clause-seat : goal.imply-requires-clause-seat
imply-requires-clause-seat c =
    seat c.args.store.now c.args.entries.now c.args.trail.now c.args.tables.now c.args.cursor.now
    c.requires.walking c.requires.some

pub move_node-requires-clause-last : goal.move_node-requires-clause-last
move_node-requires-clause-last c =
    last_in c.args.store.now c.args.entries.now c.args.trail.now c.args.tables.now
    c.args.cursor.now c.requires.walking

pub move_node-requires-clause-at : goal.move_node-requires-clause-at
move_node-requires-clause-at c =
    (seat c.args.store.now c.args.entries.now c.args.trail.now c.args.tables.now c.args.cursor.now
    c.requires.walking c.requires.some).node

pub move_node-requires-clause-row : goal.move_node-requires-clause-row
move_node-requires-clause-row c =
    (seat c.args.store.now c.args.entries.now c.args.trail.now c.args.tables.now c.args.cursor.now
    c.requires.walking c.requires.some).saved

pub move_node-requires-clause-lit : goal.move_node-requires-clause-lit
move_node-requires-clause-lit c =
    lit_in c.args.store.now c.args.entries.now c.args.trail.now c.args.tables.now
    c.args.cursor.now c.requires.walking c.requires.some

pub move_node-requires-clause-to : goal.move_node-requires-clause-to
move_node-requires-clause-to c =
    to_in c.args.store.now c.args.entries.now c.args.trail.now c.args.tables.now
    c.args.cursor.now c.in-Moves.to c.in-Moves.place c.requires.walking c.requires.some
    c.in-Moves.ensures

pub move_node-requires-clause-place : goal.move_node-requires-clause-place
move_node-requires-clause-place c = (c.in-Moves.ensures blank).1

pub returns-in-Stays-clause-goes : goal.returns-in-Stays-clause-goes
returns-in-Stays-clause-goes c =
    let here = seat c.args.store.now c.args.entries.now c.args.trail.now c.args.tables.now
    c.args.cursor.now c.requires.walking c.requires.some in
    λ goes. stays c.args.store.now c.args.entries.now c.args.trail.now c.args.tables.now
    c.args.cursor.now c.stay.new.self c.requires.walking c.requires.some
    (λ off. c.in-Stays.ensures)
    (c.stay.ensures
    ∙ ap (λ (next : ℕ). let it : Cursor = record c.args.cursor.now {
      last = c.args.cursor.now.at;
      at = next;
    } in it)
    (read_next c.args.tables.now.chains.nodes.items c.args.cursor.now.at c.index.result.now
    here.node c.index.ensures))

pub returns-in-Implies-clause-goes : goal.returns-in-Implies-clause-goes
returns-in-Implies-clause-goes c =
    let here = seat c.args.store.now c.args.entries.now c.args.trail.now c.args.tables.now
    c.args.cursor.now c.requires.walking c.requires.some in
    λ goes. stays_kept c.args.store.now c.args.entries.now c.imply.new.trail c.args.tables.now
    c.imply.new.tables c.args.cursor.now c.stay-in-Implies.new.self
    (walk_more c.args.store.now c.args.entries.now c.args.trail.now c.imply.new.trail
    c.args.tables.now c.args.cursor.now c.requires.walking c.imply.ensures.extends
    c.imply.ensures.of_store c.imply.ensures.is_trail)
    c.requires.some c.imply.ensures.kept
    (c.stay-in-Implies.ensures
    ∙ ap (λ (next : ℕ). let it : Cursor = record c.args.cursor.now {
      last = c.args.cursor.now.at;
      at = next;
    } in it)
    (read_next c.args.tables.now.chains.nodes.items c.args.cursor.now.at c.index.result.now
    here.node c.index.ensures))

pub returns-in-Moves-clause-goes : goal.returns-in-Moves-clause-goes
returns-in-Moves-clause-goes c =
    let here = seat c.args.store.now c.args.entries.now c.args.trail.now c.args.tables.now
    c.args.cursor.now c.requires.walking c.requires.some in
    let next_is : c.index.result.now.next
    ≡ next_of c.args.tables.now.chains.nodes.items c.args.cursor.now.at =
    read_next c.args.tables.now.chains.nodes.items c.args.cursor.now.at c.index.result.now
    here.node c.index.ensures in
    λ goes. leaves c.args.store.now c.args.entries.now c.args.trail.now c.args.tables.now
    c.move_node.new.self c.args.cursor.now c.in-Moves.to c.requires.walking c.requires.some
    (subst
    (λ (next : ℕ). IsMoved c.args.cursor.now.lit c.in-Moves.to c.args.cursor.now.last
    c.args.cursor.now.at next c.args.tables.now c.move_node.new.self) next_is
    c.move_node.ensures)
    (λ d. (c.in-Moves.ensures d).0)
    c.leave.new.self
    (c.leave.ensures
    ∙ ap (λ (next : ℕ). let it : Cursor = record c.args.cursor.now { at = next } in it) next_is)

pub returns-in-IsFalse-clause-fails : goal.returns-in-IsFalse-clause-fails
returns-in-IsFalse-clause-fails c =
    λ ends. fails c.args.store.now c.args.entries.now c.args.trail.now c.args.tables.now
    c.args.cursor.now c.requires.walking c.requires.some c.in-IsFalse.ensures
