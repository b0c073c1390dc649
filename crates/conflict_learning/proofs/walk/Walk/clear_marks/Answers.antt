use Rattle.std.proofs.Common.{◌≡◌, ◌∙◌, false, drop, ap, subst, sym}
use Rattle.std.specs.Prelude.{All}
use Rattle.clause_store.specs.Clause.{variable}
use Rattle.conflict_learning.specs.Marks.{HasNoMark, IsMarked, is_marked}
use Rattle.conflict_learning.proofs.ClearLemmas as lemma
use Rattle.conflict_learning.proofs.walk.Walk.clear_marks.Goals as goal

pub returns-clause-unmarked : goal.returns-clause-unmarked
returns-clause-unmarked c =
    let between : c.deref_mut-2.result.now ≡ c.unmark_steps.new.marks =
    c.deref_mut-2.ensures.value ∙ lemma.read_back c.args.self.now.marks.len c.unmark_steps.new.marks
    _ (c.unmark_steps.auto.marks ∙ c.deref_mut.ensures.len) in
    subst HasNoMark
    (sym
    (lemma.read_back c.args.self.now.marks.len c.unmark_lits.new.marks _
    (c.unmark_lits.auto.marks ∙ c.deref_mut-2.ensures.len)))
    (lemma.none_marked c.args.trail.now c.args.self.now.marks.items c.unmark_steps.new.marks
    c.unmark_lits.new.marks c.args.self.now.clause c.args.self.now.level
    c.args.self.now.unresolved c.args.self.now.at
    c.requires.under_way c.requires.none
    (λ var marked. subst (λ marks. IsMarked marks var) c.deref_mut.ensures.value
    (c.unmark_steps.ensures.fewer var marked))
    (subst (All (λ step. is_marked c.unmark_steps.new.marks (variable step.lit) ≡ false))
    (lemma.all_behind c.steps.result.now c.args.self.now.at
    ∙ ap (drop c.args.self.now.at) c.steps.ensures.steps) c.unmark_steps.ensures.gone)
    (λ var marked. subst (λ marks. IsMarked marks var) between
    (c.unmark_lits.ensures.fewer var marked))
    (subst (All (λ lit. is_marked c.unmark_lits.new.marks (variable lit) ≡ false))
    c.as_slice.ensures c.unmark_lits.ensures.gone))
