use Rattle.std.proofs.Common.{◌≡◌, ◌∙◌, ◌++◌, ◌∷◌, [], List, map, sym, subst, ap, arith}
use Rattle.std.proofs.lemmas.Option.{same_Some}
use Rattle.clause_store.specs.declared.literal.Lit.{Lit}
use Rattle.clause_store.specs.Standing.{as_followed}
use Rattle.propagator.specs.Watched.{Attached, Watched}
use Rattle.watched_literals.specs.Rooms.{IsPut}
use Rattle.watched_literals.specs.Watching.{AreWatching, IsChoice}
use Rattle.watched_literals.proofs.SeatLemmas.{named_over}
use Rattle.watched_literals.proofs.WatchLemmas.{attached, watching_same}
use Rattle.watched_literals.proofs.watches.Watches.attach.Goals as goal

pub invariant_of-self-2 : goal.invariant_of-self-2
invariant_of-self-2 c =
    let same : c.lits-clause.result.now ≡ c.of.result.lits =
    same_Some c.lits-clause.result.now c.of.result.lits
    (sym c.lits-clause.ensures.lits ∙ c.of.ensures.lits) in
    let vars_are : c.args.trail.now.vars ≡ c.self.inside.vars =
    sym (ap (λ (it : Watched). it.vars) c.self.view_is ∙ c.requires.same_vars) in
    subst
    (λ (entries : List Attached). AreWatching c.self.inside.vars entries c.put.new.self
    (map as_followed c.self.inside.known.value.steps) c.self.inside.next)
    (sym (c.push_reserved.ensures.items
    ∙ ap (λ (es : List Attached). es ++ c.of.result ∷ []) c.reserve.ensures.items))
    (attached c.self.inside.vars c.self.inside.entries.items c.self.inside.tables
    c.make_room.new.self c.put.new.self (map as_followed c.self.inside.known.value.steps)
    c.self.inside.next c.of.result c.choose-choice.result c.self.invariant
    c.in_ok-make_room.ensures.ok
    (subst (λ (lits : List Lit). IsPut lits c.choose-choice.result c.self.inside.next
    c.make_room.new.self c.put.new.self) same c.put.ensures)
    (subst (λ (lits : List Lit). IsChoice c.self.inside.vars lits c.choose-choice.result) same
    (subst (λ vars. IsChoice vars c.lits-clause.result.now c.choose-choice.result) vars_are
    c.choose-choice.ensures))
    (omega (arith, c.if-row-ge-MOST.false, c.len-row.ensures)))

pub invariant_of-self-in_err-make_room : goal.invariant_of-self-in_err-make_room
invariant_of-self-in_err-make_room c =
    subst
    (λ (entries : List Attached). AreWatching c.self.inside.vars entries c.make_room.new.self
    (map as_followed c.self.inside.known.value.steps) c.self.inside.next)
    (sym c.reserve.ensures.items)
    (watching_same c.self.inside.vars c.self.inside.entries.items c.self.inside.tables
    c.make_room.new.self (map as_followed c.self.inside.known.value.steps) c.self.inside.next
    c.self.invariant c.in_err-make_room.ensures.err)

pub choose-choice-requires-clause-over : goal.choose-choice-requires-clause-over
choose-choice-requires-clause-over c =
    named_over c.args.trail.now.vars c.args.store.now c.args.at.0 c.lits-clause.result.now
    c.requires.over c.lits-clause.ensures.lits
