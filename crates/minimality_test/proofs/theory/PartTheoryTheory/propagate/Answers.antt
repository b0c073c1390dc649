use Rattle.std.proofs.Common.{◌≡◌, subst}
use Rattle.std.specs.Prelude.{IfOk}
use Rattle.clause_store.specs.declared.theory_says.Says.TheVariants.{Clause as Given}
use Rattle.assumption_engine.specs.Theory.{IsGiven}
use Rattle.minimality_test.specs.Parts.{PartsOf, meaning_of}
use Rattle.minimality_test.proofs.PartLemmas.{call_gives}
use Rattle.minimality_test.proofs.theory.PartTheoryTheory.propagate.Goals as goal

pub returns-clause-given : goal.returns-clause-given
returns-clause-given c =
    subst
    (λ (parts : PartsOf). IfOk c.propagate.result (λ says. says ≡ Given
    → IsGiven (meaning_of parts.normal parts.set) c.args.trail.now c.propagate.new.out))
    c.self.view_is
    (call_gives c.self.inside.normal.now c.self.inside.set.value c.self.inside.weights
    c.self.invariant c.args.trail.now c.propagate.new.out c.propagate.result
    c.propagate.ensures.says)
