-- The followed assignments and the trail.
use Rattle.std.proofs.Common.{◌≡◌, ◌≤◌, ◌+◌, Bool, false, List, length, map, take}
use Rattle.std.proofs.Common.{sym, ap, ◌∙◌, subst, arith}
use Rattle.std.proofs.lemmas.List.{length-map, take_all}
use Rattle.clause_store.specs.declared.step.Step.{Step}
use Rattle.clause_store.specs.Trail.{Assigned}
use Rattle.clause_store.specs.Standing.{Followed, AreFollowed, HasGoneBack, as_followed}
use Rattle.normal_program.specs.declared.normal.Normal.{Normal}
use Rattle.unfounded_sets.specs.declared.sources.Sources.{Sources}
use Rattle.std.specs.Prelude.{All}
use Rattle.unfounded_sets.specs.declared.grown.Grown.{Grown}
use Rattle.unfounded_sets.specs.declared.places.Places.{Places}
use Rattle.unfounded_sets.specs.Followed.{AreKept}
use Rattle.unfounded_sets.specs.Grown.{IsGrown}
use Rattle.unfounded_sets.specs.Rounds.{IsBelow}
use Rattle.unfounded_sets.specs.Sources.{AreSources, HasRanked}
use Rattle.unfounded_sets.proofs.FalseLemmas.{same_values}
use Rattle.unfounded_sets.proofs.KeepLemmas.{sources_alike}
use Rattle.unfounded_sets.proofs.SourceLemmas.{all_founded}
use Rattle.clause_store.proofs.lemmas.Trails.FollowedLemmas.{followed_after_back}

-- where no less is followed than the trail has, all of it is
pub all_followed : (steps : List Step) (followed : List Followed) → AreFollowed steps followed
    → length steps ≤ length followed → followed ≡ map as_followed steps
all_followed steps followed are enough =
    are ∙ ap (map as_followed) (take_all (length followed) steps enough)

pub all_are_followed : (steps : List Step) (followed : List Followed)
    → followed ≡ map as_followed steps → AreFollowed steps followed
all_are_followed steps followed are =
    are
    ∙ ap (map as_followed)
    (sym
    (take_all (length followed) steps
    (omega (arith, ap length are, length-map steps as_followed))))

-- where the trail has gone back, what is left of them is followed
pub left_followed : (trail : Assigned) (old now : List Followed) → HasGoneBack trail old
    → take (length trail.steps) now ≡ take (length trail.steps) old
    → length now ≤ length trail.steps → AreFollowed trail.steps now
left_followed trail old now back same few =
    subst (AreFollowed trail.steps) (sym same ∙ take_all (length trail.steps) now few)
    (followed_after_back trail old back)

-- sources that follow the whole trail follow its assignments, and the other way round
pub on_trail : (normal : Normal) (one two : List Step) (it : Sources) → AreSources normal one it
    → map as_followed one ≡ map as_followed two → AreSources normal two it
on_trail normal one two it are all =
    sources_alike normal one two it are (λ lit is. same_values one two all lit ∙ is)
    (λ lit is. sym (same_values one two all lit) ∙ is)

-- what is kept after sources were brought up to date with the whole trail
module _ (made normal : Normal) (founded part wanted : List Bool) (places : Places)
    (old : Sources) (grown : Grown) (followed steps : List Step)
    (kept : AreKept made founded part wanted places old grown followed) (is : made ≡ normal)
    (all : map as_followed followed ≡ map as_followed steps) where
  pub kept_on_trail : AreSources normal steps old
  kept_on_trail =
      on_trail normal followed steps old
      (subst (λ (n : Normal). AreSources n followed old) is kept.sources_are) all

  pub kept_grown : IsGrown normal grown
  kept_grown = subst (λ (n : Normal). IsGrown n grown) is kept.grown_is

  pub kept_after : (now_founded now_part now_wanted : List Bool) (new : Sources)
      (now_grown : Grown) → AreSources normal steps new
      → IsGrown normal now_grown → length now_founded ≡ length founded
      → length now_part ≡ length part → length now_wanted ≡ length wanted
      → AreKept made now_founded now_part now_wanted places new now_grown followed
  kept_after now_founded now_part now_wanted new now_grown are grows one two three = record {
    range = kept.range;
    tables = record {
      founded_places = one ∙ kept.tables.founded_places;
      part_places = two ∙ kept.tables.part_places;
      wanted_places = three ∙ kept.tables.wanted_places;
    };
    places_are = kept.places_are;
    sources_are =
        subst (λ (n : Normal). AreSources n followed new) (sym is)
        (on_trail normal steps followed new are (sym all));
    grown_is = subst (λ (n : Normal). IsGrown n now_grown) (sym is) grows;
  }

-- where no body is doubted, a set of atoms with ranks has founded ones alone
pub ranked_below : (normal : Normal) (steps : List Step) (it : Sources) (set : List Bool)
    → AreSources normal steps it → All (λ waits. waits ≡ false) it.doubted.waits
    → HasRanked it set → length set ≡ normal.atoms + 1 → IsBelow normal steps set
ranked_below normal steps it set are none ranked places = record {
  places = places;
  within = λ all closed atom here.
      all_founded normal steps it are none atom (ranked atom here) all closed;
}
