use denote.Enum.Bare.{sameb}
use Rattle.std.proofs.Common.{◌∙◌, ◌++◌, ◌∷◌, [], take, get_or, sym, ap, subst}
use Rattle.std.proofs.lemmas.Bool.{false≢true}
use Rattle.std.proofs.lemmas.List.{take_more}
use Rattle.clause_store.specs.contracts.literal.Value.{the_type}
use Rattle.clause_store.specs.declared.literal.Value.TheVariants.{No}
use Rattle.conflict_learning.specs.Walk.{NotesAll}
use Rattle.conflict_learning.proofs.WalkLemmas as lemma
use Rattle.conflict_learning.proofs.walk.Walk.note_all.Goals as goal
use Rattle.conflict_learning.proofs.walk.Walk.note_all.Goals.{then-eq+in_ok-note, else-eq}

pub loop-lit-init : goal.loop-lit-init
loop-lit-init c = lemma.notes_none c.args.trail.now c.args.self.now c.requires.under_way

pub loop-lit-preserved : goal.loop-lit-preserved
loop-lit-preserved c =
    rw (take_more c.args.lits.now c.loop-lit.lit-index (record { 0 = 0 }) c.loop-lit-test.true)
    (elim c.if-eq.branch [
      | then-eq+in_ok-note w ↦
          subst
          (λ walk. NotesAll c.args.trail.now c.args.self.now walk
          (take c.loop-lit.lit-index c.args.lits.now
          ++ get_or c.args.lits.now c.loop-lit.lit-index (record { 0 = 0 }) ∷ []))
          (sym w.self-is)
          (lemma.notes_one c.args.trail.now c.args.self.now c.loop-lit.self w.note.new.self
          (take c.loop-lit.lit-index c.args.lits.now) _ c.loop-lit.invariant
          w.in_ok-note.ensures)
      | else-eq w ↦
          subst
          (λ walk. NotesAll c.args.trail.now c.args.self.now walk
          (take c.loop-lit.lit-index c.args.lits.now
          ++ get_or c.args.lits.now c.loop-lit.lit-index (record { 0 = 0 }) ∷ []))
          (sym w.self-is)
          (lemma.notes_skip c.args.trail.now c.args.self.now c.loop-lit.self
          (take c.loop-lit.lit-index c.args.lits.now) _ c.loop-lit.invariant
          (λ wrong. false≢true
          (sym w.if-eq.false ∙ c.eq.ensures
          ∙ ap (λ v. sameb the_type v No) (c.value.ensures ∙ wrong))))
    ])
