use Rattle.std.proofs.Common.{◌∙◌, ◌-◌, drop, length, subst, sym, take}
use Rattle.std.specs.Prelude.{All}
use Rattle.coherence_test.specs.Sharing.{IsTellable}
use Rattle.coherence_test.specs.Testing.{used_by}
use Rattle.coherence_test.proofs.ShareLemmas.{behind_tellable}
use Rattle.coherence_test.proofs.tester.Tester.test.Goals as goal

pub note-requires-clause-units : goal.note-requires-clause-units
note-requires-clause-units c =
    let old = c.self.inside.search in
    subst
    (λ normal. All (IsTellable normal.now) (take
    (length c.as_slice.result.now - c.used-before.result)
    (drop c.used-before.result c.as_slice.result.now))) (sym c.in-Ok.ensures.normal)
    (behind_tellable old.normal.now c.test.new.self.disjunctions old.engine.state.clauses
    (used_by c.args.asked.now.any c.test.new.self.disjunctions) c.args.budget.now c.test.new.budget
    c.in-Ok.ensures.counted c.as_slice.result.now c.used-before.result
    (c.as_slice.ensures ∙ c.units.ensures) c.used-before.ensures.used)
