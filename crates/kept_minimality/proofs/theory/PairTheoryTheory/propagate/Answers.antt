use Rattle.std.proofs.Common.{◌≡◌, subst}
use Rattle.std.specs.Prelude.{IfOk}
use Rattle.clause_store.specs.declared.theory_says.Says.TheVariants.{Clause as Given}
use Rattle.assumption_engine.specs.Theory.{IsGiven}
use Rattle.kept_minimality.specs.Pairing.{Paired, meaning_of}
use Rattle.kept_minimality.proofs.TheoryLemmas.{call_gives}
use Rattle.kept_minimality.proofs.theory.PairTheoryTheory.propagate.Goals as goal

pub returns-clause-given : goal.returns-clause-given
returns-clause-given c =
    subst
    (λ (theory : Paired). IfOk c.propagate.result (λ says. says ≡ Given
    → IsGiven (meaning_of theory.pair) c.args.trail.now c.propagate.new.out))
    c.self.view_is
    (call_gives c.self.inside.pair c.self.inside.weights c.self.invariant c.args.trail.now
    c.propagate.new.out c.propagate.result c.propagate.ensures.says)
