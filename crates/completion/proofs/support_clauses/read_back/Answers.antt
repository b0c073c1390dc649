use Rattle.std.proofs.Common.{◌≡◌, ◌≤◌, ◌<◌, ◌++◌, ◌∷◌, [], ◌∙◌, ℕ, List, sym, subst, ap, arith}
use Rattle.clause_store.specs.declared.literal.Lit.{Lit}
use Rattle.completion.specs.declared.support_clauses.Note.{Note}
use Rattle.completion.specs.Chains.{note_of}
use Rattle.completion.proofs.ChainLemmas.{IsRead, read_link, read_more, read_all}
use Rattle.completion.proofs.support_clauses.read_back.Goals as goal

pub note_at-note-requires-clause-last : goal.note_at-note-requires-clause-last
note_at-note-requires-clause-last c =
    (read_link c.args.notes.now c.args.last c.loop-number.number c.loop-number.lits.items
    c.loop-number.invariant (λ zero. omega (arith, zero, c.loop-number-test.true))).last

pub loop-number-smaller : goal.loop-number-smaller
loop-number-smaller c =
    subst (λ (note : Note). note.before < c.loop-number.number) (sym c.note_at-note.ensures)
    (read_link c.args.notes.now c.args.last c.loop-number.number c.loop-number.lits.items
    c.loop-number.invariant (λ zero. omega (arith, zero, c.loop-number-test.true))).back

pub loop-number-preserved : goal.loop-number-preserved
loop-number-preserved c =
    let notes = c.args.notes.now in
    let lits = c.loop-number.lits.items in
    let note = c.note_at-note.result in
    subst (λ (some : List Lit). IsRead notes c.args.last note.before some)
    (sym c.in_ok-push.ensures.items)
    (subst (λ (one : Note). IsRead notes c.args.last one.before (lits ++ one.body ∷ []))
    (sym c.note_at-note.ensures)
    (read_more notes c.args.last c.loop-number.number lits c.loop-number.invariant
    (λ zero. omega (arith, zero, c.loop-number-test.true))))

pub returns : goal.returns
returns c =
    read_all c.args.notes.now c.args.last c.loop-number.number c.loop-number.lits.items
    c.loop-number.invariant (omega (arith, c.loop-number-test.false))
