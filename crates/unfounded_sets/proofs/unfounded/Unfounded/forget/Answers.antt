use Rattle.std.proofs.Common.{List, subst}
use Rattle.clause_store.specs.declared.literal.Lit.{Lit}
use Rattle.clause_store.specs.declared.step.Step.{Step}
use Rattle.unfounded_sets.specs.Sources.{AreSources, IsReleased}
use Rattle.unfounded_sets.proofs.FollowLemmas.{sources_release}
use Rattle.unfounded_sets.proofs.unfounded.Unfounded.forget.Goals as goal

pub invariant_of-self : goal.invariant_of-self
invariant_of-self c =
    let it = c.self.inside in
    record {
      range = c.self.invariant.range;
      tables = c.self.invariant.tables;
      places_are = c.self.invariant.places_are;
      grown_is = c.self.invariant.grown_is;
      sources_are =
          sources_release it.made_of.value c.pop.new.self.items c.in-Some.step it.sources
          c.release.new.self
          (subst (λ (steps : List Step). AreSources it.made_of.value steps it.sources)
          c.in-Some.ensures.items c.self.invariant.sources_are)
          (subst (λ (lit : Lit). IsReleased lit it.sources c.release.new.self) c.negated.ensures
          c.release.ensures);
    }
