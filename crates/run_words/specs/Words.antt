-- The words of a call, and the task that they order.
use Rattle.std.specs.Prelude.{◌≡◌, ◌≤◌, ℕ, List, ◌∷◌, ◌++◌, Option, Some, None}
use Rattle.std.specs.Prelude.{map, All, codes, decimal, ⊤}
use Rattle.std.specs.List.{filter_map}
use Rattle.std.specs.Option.{option_to_list, unwrap_or}
use Rattle.ground_program.specs.declared.program.Mode.{Mode}
use Rattle.ground_program.specs.declared.program.Mode.TheVariants.{Cautious, Brave}
use Rattle.worker_jobs.specs.declared.job.Strategy.{Strategy}
use Rattle.worker_jobs.specs.declared.job.Strategy.TheVariants.{Single, Reduction, Chunks, Mix}
use Rattle.run_words.specs.declared.task.Settings.{Settings}
use Rattle.run_words.specs.declared.task.Task.{Task}
use Rattle.run_words.specs.declared.task.Task.TheVariants.{Query}
use Rattle.run_words.specs.declared.choice.Choice.{Choice}
use Rattle.run_words.specs.declared.choice.Choice.TheVariants as options
use Rattle.run_words.specs.declared.chosen.Chosen.{Chosen}

-- the word for a mode
abbrev pub mode_word : Mode → List ℕ
mode_word Cautious = codes "cautious"
mode_word Brave = codes "brave"

-- the word for a strategy, and the strategies that have one
abbrev pub strategy_word : Strategy → List ℕ
strategy_word Single = codes "single"
strategy_word Reduction = codes "reduction"
strategy_word (Chunks size) = codes "chunks"
strategy_word Mix = codes "mix"

abbrev pub IsNamed : Strategy → Type 0
IsNamed Single = ⊤
IsNamed Reduction = ⊤
IsNamed (Chunks size) = size ≡ 16
IsNamed Mix = ⊤

-- a number from 1 to the greatest that is taken
abbrev pub IsUpTo : ℕ → ℕ → Type 0
IsUpTo most number = (1 ≤ number) × (number ≤ most)

-- the word of an option with its value, and the values that it takes
abbrev pub choice_word : Choice → List ℕ
choice_word (options.Strategy strategy) = codes "--strategy=" ++ strategy_word strategy
choice_word (options.Budget budget) = codes "--budget=" ++ decimal budget
choice_word (options.Slice slice) = codes "--slice=" ++ decimal slice

abbrev pub IsChoice : Choice → Type 0
IsChoice (options.Strategy strategy) = IsNamed strategy
IsChoice (options.Budget budget) = IsUpTo 1000000000 budget
IsChoice (options.Slice slice) = IsUpTo 1000000 slice

-- the value that an option gets
abbrev pub strategy_of : Choice → Option Strategy
strategy_of (options.Strategy strategy) = Some strategy
strategy_of (options.Budget budget) = None
strategy_of (options.Slice slice) = None

abbrev pub budget_of : Choice → Option ℕ
budget_of (options.Strategy strategy) = None
budget_of (options.Budget budget) = Some budget
budget_of (options.Slice slice) = None

abbrev pub slice_of : Choice → Option ℕ
slice_of (options.Strategy strategy) = None
slice_of (options.Budget budget) = None
slice_of (options.Slice slice) = Some slice

-- each option gets the one value that was chosen for it, or none
pub record IsChosen (choices : List Choice) (chosen : Chosen) : Type 0 where
  pub strategy : filter_map strategy_of choices ≡ option_to_list chosen.strategy
  pub budget : filter_map budget_of choices ≡ option_to_list chosen.budget
  pub slice : filter_map slice_of choices ≡ option_to_list chosen.slice

-- the words are those of options, in any order and none twice, which choose these values
pub record AreOptions (words : List (List ℕ)) (chosen : Chosen) : Type 0 where
  pub choices : List Choice
  pub taken : All IsChoice choices
  pub whole : words ≡ map choice_word choices
  pub once : IsChosen choices chosen

-- the words are a mode's and then those of options. An option that they lack has its default
pub record IsQuery (words : List (List ℕ)) (settings : Settings) : Type 0 where
  pub rest : List (List ℕ)
  pub whole : words ≡ mode_word settings.mode ∷ rest
  pub chosen : Chosen
  pub options : AreOptions rest chosen
  pub strategy : settings.strategy ≡ unwrap_or chosen.strategy Single
  pub budget : settings.budget ≡ unwrap_or chosen.budget 100000
  pub slice : settings.slice ≡ unwrap_or chosen.slice 256
  pub workers : settings.workers ≡ 1
  pub watch : settings.watch ≡ 0

-- the words order this task
abbrev pub Orders : List (List ℕ) → Task → Type 0
Orders words (Query settings) = IsQuery words settings

-- chunks have candidates
abbrev pub IsStrategy : Strategy → Type 0
IsStrategy Single = ⊤
IsStrategy Reduction = ⊤
IsStrategy (Chunks size) = 1 ≤ size
IsStrategy Mix = ⊤

-- the settings are within their ranges
pub record AreSettings (settings : Settings) : Type 0 where
  pub workers : IsUpTo 64 settings.workers
  pub watch : settings.watch ≤ 16
  pub strategy : IsStrategy settings.strategy
  pub budget : IsUpTo 1000000000 settings.budget
  pub slice : IsUpTo 1000000 settings.slice

-- one worker and no watcher
pub record IsAlone (settings : Settings) : Type 0 where
  pub workers : settings.workers ≡ 1
  pub watch : settings.watch ≡ 0

-- a task's numbers are within their ranges
abbrev pub IsTask : Task → Type 0
IsTask (Query settings) = AreSettings settings × IsAlone settings

-- words order one task at most
abbrev pub OneIsOrdered : Type 0
OneIsOrdered =
    (words : List (List ℕ)) (one other : Task) → Orders words one → Orders words other → one ≡ other

-- what is ordered is within its ranges
abbrev pub OrderedAreTasks : Type 0
OrderedAreTasks = (words : List (List ℕ)) (task : Task) → Orders words task → IsTask task
