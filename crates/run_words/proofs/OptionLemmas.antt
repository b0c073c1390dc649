-- What words choose.
use Rattle.std.proofs.Common.{◌≡◌, ◌≢◌, ◌<◌, ◌+◌, ℕ, suc, List, [], ◌∷◌, ◌++◌, map, take, drop}
use Rattle.std.proofs.Common.{Option, None, Some, IsSome, All, get_or, length, refl, sym, ap, ◌∙◌}
use Rattle.std.proofs.Common.{arith, subst, Result, Ok, Err, MatchResult}
use Rattle.std.specs.Result.{IsErr}
use Rattle.std.specs.List.{filter_map}
use Rattle.std.specs.Option.{option_to_list}
use Rattle.std.proofs.lemmas.List.{append-nil}
use Rattle.std.proofs.lemmas.List.Elements.{filter_map-append, All-nil, All-cons, All-append}
use Rattle.std.proofs.lemmas.List.Elements.{All-head, All-tail}
use Rattle.std.proofs.lemmas.List.{map-append, take-append-drop, get_or-map, take_more, length-map}
use Rattle.std.proofs.Common.{drop-cons}
use Rattle.worker_jobs.specs.declared.job.Strategy.{Strategy}
use Rattle.run_words.specs.declared.choice.Choice.{Choice}
use Rattle.run_words.specs.declared.choice.Choice.TheVariants as options
use Rattle.run_words.specs.declared.chosen.Chosen.{Chosen}
use Rattle.run_words.specs.Words.{IsChoice, choice_word, IsChosen, AreOptions}
use Rattle.run_words.specs.Words.{strategy_of, budget_of, slice_of}
use Rattle.run_words.proofs.ChoiceLemmas.{same_choices, begins}

module _ {X Y : Type 0} (h : X → Option Y) (xs : List X) (x : X) where
  -- the first value of an option is its value
  pub first_value : (y : Y) → h x ≡ Some y → filter_map h xs ≡ []
      → filter_map h (xs ++ x ∷ []) ≡ y ∷ []
  first_value y here none = rw (filter_map-append h xs (x ∷ []), none, here) refl

  -- the value of another option is none of its own
  pub other_value : (ys : List Y) → h x ≡ None → filter_map h xs ≡ ys
      → filter_map h (xs ++ x ∷ []) ≡ ys
  other_value ys here same = rw (filter_map-append h xs (x ∷ []), same, here) (append-nil ys)

  -- a second value leaves an option without one
  pub second_value : (y : Y) (old new : Option Y) (more : List X) → h x ≡ Some y
      → filter_map h xs ≡ option_to_list old → IsSome old
      → filter_map h (xs ++ x ∷ more) ≡ option_to_list new → ⊥
  second_value y None new more here same some both = absurd cc
  second_value y (Some z) None more here same some both =
      let two : [] ≡ z ∷ y ∷ filter_map h more =
      sym both ∙ rw (filter_map-append h xs (x ∷ more), same, here) refl in
      absurd cc
  second_value y (Some z) (Some w) more here same some both =
      let two : w ∷ [] ≡ z ∷ y ∷ filter_map h more =
      sym both ∙ rw (filter_map-append h xs (x ∷ more), same, here) refl in
      let rest : [] ≡ y ∷ filter_map h more = cc in
      absurd cc

-- no words choose nothing
pub no_options : (chosen : Chosen) → chosen.strategy ≡ None → chosen.budget ≡ None
    → chosen.slice ≡ None → AreOptions [] chosen
no_options chosen strategy budget slice = record {
  choices = [];
  taken = All-nil IsChoice;
  whole = refl;
  once = record {
    strategy = sym (ap option_to_list strategy);
    budget = sym (ap option_to_list budget);
    slice = sym (ap option_to_list slice);
  };
}

-- one more word, whose option was without a value
pub one_more : (words : List (List ℕ)) (word : List ℕ) (choice : Choice) (old new : Chosen)
    → (options : AreOptions words old) → IsChoice choice → word ≡ choice_word choice
    → IsChosen (options.choices ++ choice ∷ []) new
    → AreOptions (words ++ word ∷ []) new
one_more words word choice old new options is same once = record {
  choices = options.choices ++ choice ∷ [];
  taken = All-append IsChoice options.choices (choice ∷ []) options.taken
      (All-cons IsChoice choice [] is (All-nil IsChoice));
  whole = rw (map-append choice_word options.choices (choice ∷ []), ← options.whole, same) refl;
  once = once;
}

-- a word that is none of an option
pub other_word : (before after : List (List ℕ)) (word : List ℕ)
    → ((choice : Choice) → IsChoice choice → word ≢ choice_word choice)
    → (choices : List Choice) → All IsChoice choices
    → before ++ word ∷ after ≡ map choice_word choices → ⊥
other_word [] after word none [] taken whole = absurd cc
other_word [] after word none (x ∷ xs) taken whole = none x (All-head IsChoice x xs taken) cc
other_word (y ∷ ys) after word none [] taken whole = absurd cc
other_word (y ∷ ys) after word none (x ∷ xs) taken whole =
    other_word ys after word none xs (All-tail IsChoice x xs taken) cc

-- a word whose option has a value
pub second_word : (before after : List (List ℕ)) (word : List ℕ) (choice : Choice)
    (old new : Chosen) → (options : AreOptions before old) → IsChoice choice
    → word ≡ choice_word choice
    → ((more : List Choice) (chosen : Chosen)
    → IsChosen (options.choices ++ choice ∷ more) chosen → ⊥)
    → AreOptions (before ++ word ∷ after) new → ⊥
second_word before after word choice old new options is same none whole =
    let words : map choice_word options.choices ++ choice_word choice ∷ after
    ≡ map choice_word whole.choices =
    rw (← options.whole, ← same) whole.whole in
    let all : (more : List Choice) × (whole.choices ≡ options.choices ++ choice ∷ more) =
    begins options.choices choice after whole.choices options.taken is whole.taken words in
    none all.0 new (subst (λ xs. IsChosen xs new) all.1 whole.once)

-- values that give the same list are the same
same_value : {Y : Type 0} (one other : Option Y) → option_to_list one ≡ option_to_list other
    → one ≡ other
same_value None None same = refl
same_value None (Some y) same = absurd cc
same_value (Some x) None same = absurd cc
same_value (Some x) (Some y) same = let is : x ≡ y = cc in ap Some is

abbrev chosen_of : Option Strategy → Option ℕ → Option ℕ → Chosen
chosen_of strategy budget slice = record { strategy = strategy; budget = budget; slice = slice }

-- words choose one value for each option
pub same_chosen : (words : List (List ℕ)) (one other : Chosen) → AreOptions words one
    → AreOptions words other → one ≡ other
same_chosen words one other first second =
    let choices : first.choices ≡ second.choices =
    same_choices first.choices second.choices first.taken second.taken
    (sym first.whole ∙ second.whole) in
    let strategy : one.strategy ≡ other.strategy =
    same_value one.strategy other.strategy
    (sym first.once.strategy ∙ ap (filter_map strategy_of) choices ∙ second.once.strategy) in
    let budget : one.budget ≡ other.budget =
    same_value one.budget other.budget
    (sym first.once.budget ∙ ap (filter_map budget_of) choices ∙ second.once.budget) in
    let slice : one.slice ≡ other.slice =
    same_value one.slice other.slice
    (sym first.once.slice ∙ ap (filter_map slice_of) choices ∙ second.once.slice) in
    ap (λ (x : Option Strategy). chosen_of x one.budget one.slice) strategy
    ∙ ap (λ (x : Option ℕ). chosen_of other.strategy x one.slice) budget
    ∙ ap (λ (x : Option ℕ). chosen_of other.strategy other.budget x) slice

-- a list of words at one of its places
pub place_split : {X : Type 0} (f : X → List ℕ) (xs : List X) (at : ℕ) (x : X)
    → at < length xs → x ≡ get_or xs at x
    → take at (map f xs) ++ f x ∷ drop (suc at) (map f xs) ≡ map f xs
place_split f xs at x within here =
    let inside : at < length (map f xs) = omega (arith, length-map xs f, within) in
    let word : get_or (map f xs) at [] ≡ f x =
    get_or-map f xs at x [] within ∙ ap f (sym here) in
    let rest : drop at (map f xs) ≡ f x ∷ drop (suc at) (map f xs) =
    drop-cons (map f xs) at [] inside
    ∙ ap (λ (y : List ℕ). y ∷ drop (suc at) (map f xs)) word in
    rw (← rest) (take-append-drop at (map f xs))

-- the words up to one of them
pub place_more : {X : Type 0} (f : X → List ℕ) (xs : List X) (at : ℕ) (x : X)
    → at < length xs → x ≡ get_or xs at x
    → take (at + 1) (map f xs) ≡ take at (map f xs) ++ f x ∷ []
place_more f xs at x within here =
    let inside : at < length (map f xs) = omega (arith, length-map xs f, within) in
    let word : get_or (map f xs) at [] ≡ f x =
    get_or-map f xs at x [] within ∙ ap f (sym here) in
    take_more (map f xs) at [] inside ∙ ap (λ (y : List ℕ). take at (map f xs) ++ y ∷ []) word

-- a value is taken where its option has none yet, and then the other options keep theirs
module _ {A E : Type 0} where
  pub takes_strategy : (result : Result A E) (choices : List Choice) (choice : Choice)
      (strategy : Strategy) (old new : Chosen) → choice ≡ options.Strategy strategy
      → new.budget ≡ old.budget → new.slice ≡ old.slice
      → MatchResult result (λ _. (old.strategy ≡ None) × (new.strategy ≡ Some strategy))
      (λ _. IsSome old.strategy)
      → IsChosen choices old
      → MatchResult result (λ _. IsChosen (choices ++ choice ∷ []) new)
      (λ _. (more : List Choice) (chosen : Chosen) → ¬ IsChosen (choices ++ choice ∷ more) chosen)
  takes_strategy (Ok x) choices choice strategy old new is budget slice put once = record {
    strategy = first_value strategy_of choices choice strategy (ap strategy_of is)
        (once.strategy ∙ ap option_to_list put.0) ∙ sym (ap option_to_list put.1);
    budget = other_value budget_of choices choice (option_to_list new.budget) (ap budget_of is)
        (once.budget ∙ sym (ap option_to_list budget));
    slice = other_value slice_of choices choice (option_to_list new.slice) (ap slice_of is)
        (once.slice ∙ sym (ap option_to_list slice));
  }
  takes_strategy (Err e) choices choice strategy old new is budget slice put once =
      λ more chosen both.
      second_value strategy_of choices choice strategy old.strategy chosen.strategy more
      (ap strategy_of is) once.strategy put both.strategy

  pub takes_budget : (result : Result A E) (choices : List Choice) (choice : Choice)
      (budget : ℕ) (old new : Chosen) → choice ≡ options.Budget budget
      → new.strategy ≡ old.strategy → new.slice ≡ old.slice
      → MatchResult result (λ _. (old.budget ≡ None) × (new.budget ≡ Some budget))
      (λ _. IsSome old.budget)
      → IsChosen choices old
      → MatchResult result (λ _. IsChosen (choices ++ choice ∷ []) new)
      (λ _. (more : List Choice) (chosen : Chosen) → ¬ IsChosen (choices ++ choice ∷ more) chosen)
  takes_budget (Ok x) choices choice budget old new is strategy slice put once = record {
    strategy = other_value strategy_of choices choice (option_to_list new.strategy)
        (ap strategy_of is) (once.strategy ∙ sym (ap option_to_list strategy));
    budget = first_value budget_of choices choice budget (ap budget_of is)
        (once.budget ∙ ap option_to_list put.0) ∙ sym (ap option_to_list put.1);
    slice = other_value slice_of choices choice (option_to_list new.slice) (ap slice_of is)
        (once.slice ∙ sym (ap option_to_list slice));
  }
  takes_budget (Err e) choices choice budget old new is strategy slice put once =
      λ more chosen both.
      second_value budget_of choices choice budget old.budget chosen.budget more
      (ap budget_of is) once.budget put both.budget

  pub takes_slice : (result : Result A E) (choices : List Choice) (choice : Choice)
      (slice : ℕ) (old new : Chosen) → choice ≡ options.Slice slice
      → new.strategy ≡ old.strategy → new.budget ≡ old.budget
      → MatchResult result (λ _. (old.slice ≡ None) × (new.slice ≡ Some slice))
      (λ _. IsSome old.slice)
      → IsChosen choices old
      → MatchResult result (λ _. IsChosen (choices ++ choice ∷ []) new)
      (λ _. (more : List Choice) (chosen : Chosen) → ¬ IsChosen (choices ++ choice ∷ more) chosen)
  takes_slice (Ok x) choices choice slice old new is strategy budget put once = record {
    strategy = other_value strategy_of choices choice (option_to_list new.strategy)
        (ap strategy_of is) (once.strategy ∙ sym (ap option_to_list strategy));
    budget = other_value budget_of choices choice (option_to_list new.budget) (ap budget_of is)
        (once.budget ∙ sym (ap option_to_list budget));
    slice = first_value slice_of choices choice slice (ap slice_of is)
        (once.slice ∙ ap option_to_list put.0) ∙ sym (ap option_to_list put.1);
  }
  takes_slice (Err e) choices choice slice old new is strategy budget put once =
      λ more chosen both.
      second_value slice_of choices choice slice old.slice chosen.slice more
      (ap slice_of is) once.slice put both.slice

-- what is answered where words are none of options
pub refused : {E : Type 0} (result : Result Chosen E) (words : List (List ℕ)) → IsErr result
    → ((chosen : Chosen) → ¬ AreOptions words chosen)
    → MatchResult result (AreOptions words) (λ _. (chosen : Chosen) → ¬ AreOptions words chosen)
refused (Ok x) words failed none = absurd cc
refused (Err e) words failed none = none
