use Rattle.std.proofs.Common.{◌∙◌, take, get_or, arith, sym, ap, rules}
use Rattle.std.proofs.lemmas.List.{take_more}
use Rattle.std.proofs.lemmas.List.Elements.{All-contains_itself}
use Rattle.clause_store.specs.Trail.{reason_of}
use Rattle.conflict_learning.proofs.AssignedLemmas.{false_over}
use Rattle.conflict_learning.proofs.MinimisationLemmas as lemma
use Rattle.conflict_learning.proofs.minimisation.Judge.+judging.Goals as goal
use Rattle.conflict_learning.proofs.minimisation.Judge.+judging.Goals.{
  is_explained-else-ne-via-then-ne+in_ok-is_covered-in-Some+else-not-branch,
  is_explained-else-ne-via-else-ne,
}

pub is_covered-has_covered-requires-clause-over : goal.is_covered-has_covered-requires-clause-over
is_covered-has_covered-requires-clause-over t c =
    false_over c.args.trail.now c.args.lit c.requires.ready.is_trail c.requires.is_false

pub is_covered-index-requires : goal.is_covered-index-requires
is_covered-index-requires t c =
    omega (
      arith,
      lemma.uncovered_inside c.args.trail.now c.args.self.now c.args.lit c.requires.ready
          (false_over c.args.trail.now c.args.lit c.requires.ready.is_trail c.requires.is_false),
      c.var.ensures,
    )

pub is_covered-mark_covered-requires-clause-over :
    goal.is_covered-mark_covered-requires-clause-over
is_covered-mark_covered-requires-clause-over t c =
    false_over c.args.trail.now c.args.lit c.requires.ready.is_trail c.requires.is_false

pub is_covered-returns-then-branch-clause-judges :
    goal.is_covered-returns-then-branch-clause-judges
is_covered-returns-then-branch-clause-judges t c =
    lemma.judges_then c.args.store.now c.args.trail.now c.args.self.now c.is_explained.new.self
    c.mark_covered.new.self c.in_ok-is_explained.ensures.judges
    (lemma.judges_covered c.args.store.now c.args.trail.now c.is_explained.new.self
    c.mark_covered.new.self c.args.lit c.requires.is_false
    (c.in_ok-is_explained.ensures.explained c.if-branch.true) c.in_ok-mark_covered.ensures)

pub is_covered-mark_uncovered-requires-clause-over :
    goal.is_covered-mark_uncovered-requires-clause-over
is_covered-mark_uncovered-requires-clause-over t c =
    false_over c.args.trail.now c.args.lit c.requires.ready.is_trail c.requires.is_false

pub is_explained-reason-requires : goal.is_explained-reason-requires
is_explained-reason-requires t c =
    omega (
      arith,
      c.var.ensures,
      (false_over c.args.trail.now c.args.lit c.requires.ready.is_trail c.requires.is_false).last,
    )

pub is_explained-lits-other-items-requires : goal.is_explained-lits-other-items-requires
is_explained-lits-other-items-requires t c =
    lemma.reason_inside c.args.store.now c.args.trail.now.steps c.args.lit c.in-Some.why
    c.requires.of_store c.requires.is_false
    (ap (reason_of c.args.trail.now.steps) (sym c.var.ensures) ∙ sym c.reason.ensures
    ∙ c.in-Some.is)

pub is_explained-is_covered-requires : goal.is_explained-is_covered-requires
is_explained-is_covered-requires t c = (
  search rules,
  (
    c.requires.of_store,
    (
      c.loop-other.invariant.judges.ready,
      lemma.other_false c.args.store.now c.args.trail.now.steps c.args.lit
          (get_or c.lits-other-items.result.now c.loop-other.other-index (record { 0 = 0 }))
          c.negated-forced.result c.in-Some.why
          c.lits-other-items.result.now c.ne.result c.requires.of_store c.requires.is_false
          (ap (reason_of c.args.trail.now.steps) (sym c.var.ensures) ∙ sym c.reason.ensures
          ∙ c.in-Some.is) c.lits-other-items.ensures.lits
          (All-contains_itself c.lits-other-items.result.now c.loop-other.other-index
          (record { 0 = 0 }) c.loop-other-test.true) c.negated-forced.ensures
          c.ne.ensures c.if-ne.true,
    ),
  ),
)

pub is_explained-loop-other-preserved : goal.is_explained-loop-other-preserved
is_explained-loop-other-preserved t c =
    rw (take_more c.lits-other-items.result.now c.loop-other.other-index (record { 0 = 0 })
    c.loop-other-test.true)
    (elim c.else-ne.branch [
      | is_explained-else-ne-via-then-ne+in_ok-is_covered-in-Some+else-not-branch w ↦
          rw w.self-is
          (lemma.explaining_more c.args.store.now c.args.trail.now c.negated-forced.result
          c.args.self.now c.loop-other.self w.is_covered.new.self
          (take c.loop-other.other-index c.lits-other-items.result.now) _ c.loop-other.invariant
          w.in_ok-is_covered-in-Some.ensures.judges
          (w.in_ok-is_covered-in-Some.ensures.covered w.if-not-branch.false))
      | is_explained-else-ne-via-else-ne w ↦
          rw w.self-is
          (lemma.explaining_forced c.args.store.now c.args.trail.now c.negated-forced.result
          c.args.self.now c.loop-other.self
          (take c.loop-other.other-index c.lits-other-items.result.now) _ c.loop-other.invariant
          (sym c.ne.ensures ∙ w.if-ne.false))
    ])
