-- Words order one task at most, and its settings are within their ranges.
use Rattle.std.proofs.Common.{◌≡◌, ℕ, List, [], ◌∷◌, map, drop, get_or, Option, None, Some}
use Rattle.std.proofs.Common.{Result, Ok, Err, IfErr, ◌-◌, length, take}
use Rattle.std.proofs.lemmas.List.{take_rest}
use Rattle.std.proofs.Common.{All, refl, sym, ap, subst, ◌∙◌, arith}
use Rattle.std.specs.List.{filter_map, cons_option}
use Rattle.std.specs.Option.{option_to_list, unwrap_or}
use Rattle.std.proofs.lemmas.List.Elements.{All-nil, All-cons, All-head, All-tail}
use Rattle.ground_program.specs.declared.program.Mode.{Mode}
use Rattle.ground_program.specs.declared.program.Mode.TheVariants.{Cautious, Brave}
use Rattle.worker_jobs.specs.declared.job.Strategy.{Strategy}
use Rattle.worker_jobs.specs.declared.job.Strategy.TheVariants.{Single, Reduction, Chunks, Mix}
use Rattle.run_words.specs.declared.choice.Choice.{Choice}
use Rattle.run_words.specs.declared.choice.Choice.TheVariants as options
use Rattle.run_words.specs.declared.chosen.Chosen.{Chosen}
use Rattle.run_words.specs.declared.task.Settings.{Settings}
use Rattle.run_words.specs.declared.task.Task.{Task}
use Rattle.run_words.specs.declared.task.Task.TheVariants.{Query}
use Rattle.run_words.specs.Words.{mode_word, IsChoice, IsUpTo, IsStrategy, IsNamed, AreOptions}
use Rattle.run_words.specs.Words.{strategy_of, budget_of, slice_of, Orders, IsQuery}
use Rattle.run_words.specs.Words.{AreSettings, IsAlone, IsTask}
use Rattle.run_words.proofs.OptionLemmas.{same_chosen}

-- words whose later ones are none of options order nothing
pub no_order : {X : Type 0} (f : X → List ℕ) (words : List X)
    → ((chosen : Chosen)
    → ¬ AreOptions (map f (take (length words - 1) (drop 1 words))) chosen)
    → (task : Task) → ¬ Orders (map f words) task
no_order f [] none (Query settings) orders =
    let whole : [] ≡ mode_word settings.mode ∷ orders.rest = orders.whole in absurd cc
no_order f (word ∷ words) none (Query settings) orders =
    let whole : f word ∷ map f words ≡ mode_word settings.mode ∷ orders.rest = orders.whole in
    let tail : take (length (word ∷ words) - 1) words ≡ words = take_rest (word ∷ words) 1 in
    let rest : orders.rest ≡ map f words = cc in
    let own : orders.rest ≡ map f (take (length (word ∷ words) - 1) words) =
    rest ∙ ap (map f) (sym tail) in
    none orders.chosen (subst (λ xs. AreOptions xs orders.chosen) own orders.options)

-- what is answered where words order nothing
pub not_taken : {A E : Type 0} (result : Result A E) (words : List (List ℕ))
    → ((task : Task) → ¬ Orders words task)
    → IfErr result (λ _. (task : Task) → ¬ Orders words task)
not_taken (Ok x) words none = tt
not_taken (Err e) words none = none

module _ {Y : Type 0} (of : Choice → Option Y) (P : Y → Type 0)
    (from : (choice : Choice) (y : Y) → IsChoice choice → of choice ≡ Some y → P y) where
  kept : (choice : Choice) (value : Option Y) (ys : List Y) → IsChoice choice
      → of choice ≡ value → All P ys → All P (cons_option value ys)
  kept choice None ys is same all = all
  kept choice (Some y) ys is same all = All-cons P y ys (from choice y is same) all

  -- what holds of the values that an option may have holds of those that are chosen
  values : (choices : List Choice) → All IsChoice choices → All P (filter_map of choices)
  values [] all = All-nil P
  values (x ∷ xs) all =
      kept x (of x) (filter_map of xs) (All-head IsChoice x xs all) refl
      (values xs (All-tail IsChoice x xs all))

  -- and of the setting, where it holds of the default
  setting : (choices : List Choice) (value : Option Y) (default : Y) → All IsChoice choices
      → filter_map of choices ≡ option_to_list value → P default → P (unwrap_or value default)
  setting choices None default all same fact = fact
  setting choices (Some y) default all same fact =
      All-head P y [] (subst (λ ys. All P ys) same (values choices all))

strategy_from : (choice : Choice) (strategy : Strategy) → IsChoice choice
    → strategy_of choice ≡ Some strategy → IsStrategy strategy
strategy_from (options.Strategy value) strategy is same =
    let own : value ≡ strategy = cc in subst IsStrategy own (named value is)
  where
    named : (strategy : Strategy) → IsNamed strategy → IsStrategy strategy
    named Single is = tt
    named Reduction is = tt
    named (Chunks size) is = omega (arith, is)
    named Mix is = tt
strategy_from (options.Budget value) strategy is same = absurd cc
strategy_from (options.Slice value) strategy is same = absurd cc

budget_from : (choice : Choice) (budget : ℕ) → IsChoice choice → budget_of choice ≡ Some budget
    → IsUpTo 1000000000 budget
budget_from (options.Strategy value) budget is same = absurd cc
budget_from (options.Budget value) budget is same =
    let own : value ≡ budget = cc in subst (IsUpTo 1000000000) own is
budget_from (options.Slice value) budget is same = absurd cc

slice_from : (choice : Choice) (slice : ℕ) → IsChoice choice → slice_of choice ≡ Some slice
    → IsUpTo 1000000 slice
slice_from (options.Strategy value) slice is same = absurd cc
slice_from (options.Budget value) slice is same = absurd cc
slice_from (options.Slice value) slice is same =
    let own : value ≡ slice = cc in subst (IsUpTo 1000000) own is

-- settings of options are within their ranges
pub in_range : (words : List (List ℕ)) (chosen : Chosen) (settings : Settings)
    → AreOptions words chosen → settings.strategy ≡ unwrap_or chosen.strategy Single
    → settings.budget ≡ unwrap_or chosen.budget 100000
    → settings.slice ≡ unwrap_or chosen.slice 256 → settings.workers ≡ 1 → settings.watch ≡ 0
    → AreSettings settings × IsAlone settings
in_range words chosen settings given strategy budget slice workers watch = (
  record {
    workers = (omega (arith, workers), omega (arith, workers));
    watch = omega (arith, watch);
    strategy = subst IsStrategy (sym strategy)
        (setting strategy_of IsStrategy strategy_from given.choices chosen.strategy Single
        given.taken given.once.strategy tt);
    budget = subst (IsUpTo 1000000000) (sym budget)
        (setting budget_of (IsUpTo 1000000000) budget_from given.choices chosen.budget 100000
        given.taken given.once.budget (omega arith, omega arith));
    slice = subst (IsUpTo 1000000) (sym slice)
        (setting slice_of (IsUpTo 1000000) slice_from given.choices chosen.slice 256
        given.taken given.once.slice (omega arith, omega arith));
  },
  record { workers = workers; watch = watch },
)

-- what is ordered is within its ranges
pub ordered_in_range : (words : List (List ℕ)) (task : Task) → Orders words task → IsTask task
ordered_in_range words (Query settings) orders =
    in_range orders.rest orders.chosen settings orders.options orders.strategy orders.budget
    orders.slice orders.workers orders.watch

same_mode : (one other : Mode) → mode_word one ≡ mode_word other → one ≡ other
same_mode Cautious Cautious same = refl
same_mode Cautious Brave same =
    let bytes : 99 ≡ 98 = ap (λ (word : List ℕ). get_or word 0 0) same in
    absurd (omega (arith, bytes))
same_mode Brave Cautious same =
    let bytes : 98 ≡ 99 = ap (λ (word : List ℕ). get_or word 0 0) same in
    absurd (omega (arith, bytes))
same_mode Brave Brave same = refl

abbrev settings_of : Mode → ℕ → ℕ → Chosen → Settings
settings_of mode workers watch chosen = record {
  mode = mode;
  workers = workers;
  watch = watch;
  strategy = unwrap_or chosen.strategy Single;
  budget = unwrap_or chosen.budget 100000;
  slice = unwrap_or chosen.slice 256;
}

abbrev made_of : Mode → ℕ → ℕ → Strategy → ℕ → ℕ → Settings
made_of mode workers watch strategy budget slice = record {
  mode = mode;
  workers = workers;
  watch = watch;
  strategy = strategy;
  budget = budget;
  slice = slice;
}

-- what words order are the settings of what they choose
is_made : (words : List (List ℕ)) (settings : Settings) → (orders : IsQuery words settings)
    → settings ≡ settings_of settings.mode 1 0 orders.chosen
is_made words settings orders =
    ap (λ (x : ℕ). made_of settings.mode x settings.watch settings.strategy settings.budget
    settings.slice) orders.workers
    ∙ ap (λ (x : ℕ). made_of settings.mode 1 x settings.strategy settings.budget settings.slice)
    orders.watch
    ∙ ap (λ (x : Strategy). made_of settings.mode 1 0 x settings.budget settings.slice)
    orders.strategy
    ∙ ap (λ (x : ℕ). made_of settings.mode 1 0 (unwrap_or orders.chosen.strategy Single) x
    settings.slice) orders.budget
    ∙ ap (λ (x : ℕ). made_of settings.mode 1 0 (unwrap_or orders.chosen.strategy Single)
    (unwrap_or orders.chosen.budget 100000) x) orders.slice

-- words order one task at most
pub one_ordered : (words : List (List ℕ)) (one other : Task) → Orders words one
    → Orders words other → one ≡ other
one_ordered words (Query one) (Query other) first second =
    let whole : mode_word one.mode ∷ first.rest ≡ mode_word other.mode ∷ second.rest =
    sym first.whole ∙ second.whole in
    let heads : mode_word one.mode ≡ mode_word other.mode = cc in
    let rest : second.rest ≡ first.rest = cc in
    let mode : one.mode ≡ other.mode = same_mode one.mode other.mode heads in
    let chosen : first.chosen ≡ second.chosen =
    same_chosen first.rest first.chosen second.chosen first.options
    (subst (λ xs. AreOptions xs second.chosen) rest second.options) in
    ap Query
    (is_made words one first
    ∙ ap (λ (x : Mode). settings_of x 1 0 first.chosen) mode
    ∙ ap (λ (x : Chosen). settings_of other.mode 1 0 x) chosen
    ∙ sym (is_made words other second))
