use Rattle.std.proofs.Common.{List, sym, subst}
use Rattle.clause_store.specs.declared.literal.Lit.{Lit}
use Rattle.clause_store.specs.declared.step.Step.{Step}
use Rattle.unfounded_sets.specs.Sources.{AreSources, IsDenied}
use Rattle.unfounded_sets.proofs.FollowLemmas.{sources_follow}
use Rattle.unfounded_sets.proofs.unfounded.Unfounded.follow_step.Goals as goal

pub invariant_of-self-2 : goal.invariant_of-self-2
invariant_of-self-2 c =
    let it = c.self.inside in
    record {
      range = c.self.invariant.range;
      tables = c.self.invariant.tables;
      places_are = c.self.invariant.places_are;
      grown_is = c.self.invariant.grown_is;
      sources_are =
          subst (λ (steps : List Step). AreSources it.made_of.value steps c.deny.new.self)
          (sym c.in_ok-push.ensures.items)
          (sources_follow it.made_of.value c.self.invariant.range it.followed.items c.args.step
          it.places it.sources c.deny.new.self c.self.invariant.places_are
          c.self.invariant.sources_are
          (subst (λ (lit : Lit). IsDenied it.places.occurrences lit it.sources c.deny.new.self)
          c.negated.ensures c.deny.ensures));
    }
