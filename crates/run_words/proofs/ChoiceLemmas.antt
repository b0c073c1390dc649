-- One choice has one word.
use Rattle.std.proofs.Common.{◌≡◌, ◌≢◌, ◌==◌, ◌<◌, ◌^◌, ℕ, if◌then◌else◌, List, [], ◌∷◌}
use Rattle.std.proofs.Common.{◌++◌, map, codes, Option, None, Some, MatchOption}
use Rattle.std.proofs.Common.{All, get_or, drop, decimal, refl, sym, ap, ◌∙◌, arith}
use Rattle.std.proofs.Common.{Result}
use Rattle.std.specs.Result.{result_ok}
use Rattle.std.specs.Str.Parse.{ParsesUnsigned}
use Rattle.std.proofs.lemmas.Fmt.{decimal_injective, parse-decimal}
use Rattle.std.proofs.lemmas.List.Elements.{All-head, All-tail}
use Rattle.worker_jobs.specs.declared.job.Strategy.{Strategy}
use Rattle.worker_jobs.specs.declared.job.Strategy.TheVariants.{Single, Reduction, Chunks, Mix}
use Rattle.run_words.specs.declared.choice.Choice.{Choice}
use Rattle.run_words.specs.declared.choice.Choice.TheVariants as options
use Rattle.run_words.specs.Words.{IsNamed, strategy_word, IsUpTo, IsChoice, choice_word}

-- the strategy whose word begins so
strategy_from : ℕ → Strategy
strategy_from byte = if byte == 115 then Single
    else (if byte == 114 then Reduction else (if byte == 99 then Chunks 16 else Mix))

is_from : (strategy : Strategy) → IsNamed strategy
    → strategy_from (get_or (strategy_word strategy) 0 0) ≡ strategy
unfolding strategy_from
is_from Single named = refl
is_from Reduction named = refl
is_from (Chunks size) named = ap Chunks (sym named)
is_from Mix named = refl

-- two strategies with one word are the same
pub same_strategy : (one other : Strategy) → IsNamed one → IsNamed other
    → strategy_word one ≡ strategy_word other → one ≡ other
same_strategy one other first second same =
    sym (is_from one first) ∙ ap (λ (word : List ℕ). strategy_from (get_or word 0 0)) same
    ∙ is_from other second

-- two numbers with one text are the same
pub same_number : (most one other : ℕ) → most < 2 ^ 32 → IsUpTo most one → IsUpTo most other
    → decimal one ≡ decimal other → one ≡ other
same_number most one other fits first second same =
    decimal_injective one other (omega (arith, first.1)) (omega (arith, second.1)) same

-- the fourth bytes of two equal words are the same
fourth : (one other : List ℕ) → one ≡ other → get_or one 3 0 ≡ get_or other 3 0
fourth one other same = ap (λ (word : List ℕ). get_or word 3 0) same

-- two choices with one word are the same
pub same_choice : (one other : Choice) → IsChoice one → IsChoice other
    → choice_word one ≡ choice_word other → one ≡ other
same_choice (options.Strategy one) (options.Strategy other) first second same =
    ap options.Strategy (same_strategy one other first second (ap (drop 11) same))
same_choice (options.Strategy one) (options.Budget other) first second same =
    let bytes : 116 ≡ 117 = fourth _ _ same in absurd (omega (arith, bytes))
same_choice (options.Strategy one) (options.Slice other) first second same =
    let bytes : 116 ≡ 108 = fourth _ _ same in absurd (omega (arith, bytes))
same_choice (options.Budget one) (options.Strategy other) first second same =
    let bytes : 117 ≡ 116 = fourth _ _ same in absurd (omega (arith, bytes))
same_choice (options.Budget one) (options.Budget other) first second same =
    ap options.Budget
    (same_number 1000000000 one other (omega arith) first second (ap (drop 9) same))
same_choice (options.Budget one) (options.Slice other) first second same =
    let bytes : 117 ≡ 108 = fourth _ _ same in absurd (omega (arith, bytes))
same_choice (options.Slice one) (options.Strategy other) first second same =
    let bytes : 108 ≡ 116 = fourth _ _ same in absurd (omega (arith, bytes))
same_choice (options.Slice one) (options.Budget other) first second same =
    let bytes : 108 ≡ 117 = fourth _ _ same in absurd (omega (arith, bytes))
same_choice (options.Slice one) (options.Slice other) first second same =
    ap options.Slice (same_number 1000000 one other (omega arith) first second (ap (drop 8) same))

-- two lists of choices with the same words are the same
pub same_choices : (some others : List Choice) → All IsChoice some → All IsChoice others
    → map choice_word some ≡ map choice_word others → some ≡ others
same_choices [] [] first second same = refl
same_choices [] (y ∷ ys) first second same = absurd cc
same_choices (x ∷ xs) [] first second same = absurd cc
same_choices (x ∷ xs) (y ∷ ys) first second same =
    let heads : choice_word x ≡ choice_word y = cc in
    let tails : map choice_word xs ≡ map choice_word ys = cc in
    let one : x ≡ y =
    same_choice x y (All-head IsChoice x xs first) (All-head IsChoice y ys second) heads in
    let rest : xs ≡ ys =
    same_choices xs ys (All-tail IsChoice x xs first) (All-tail IsChoice y ys second) tails in
    cc

-- words that begin with those of some choices are those of these choices and then of others
pub begins : (some : List Choice) (next : Choice) (rest : List (List ℕ)) (all : List Choice)
    → All IsChoice some → IsChoice next → All IsChoice all
    → map choice_word some ++ choice_word next ∷ rest ≡ map choice_word all
    → (more : List Choice) × (all ≡ some ++ next ∷ more)
begins [] next rest [] first one second same = absurd cc
begins [] next rest (y ∷ ys) first one second same =
    let heads : choice_word y ≡ choice_word next = cc in
    let is : y ≡ next = same_choice y next (All-head IsChoice y ys second) one heads in
    (ys, cc)
begins (x ∷ xs) next rest [] first one second same = absurd cc
begins (x ∷ xs) next rest (y ∷ ys) first one second same =
    let heads : choice_word y ≡ choice_word x = cc in
    let tails : map choice_word xs ++ choice_word next ∷ rest ≡ map choice_word ys = cc in
    let is : y ≡ x =
    same_choice y x (All-head IsChoice y ys second) (All-head IsChoice x xs first) heads in
    let after : (more : List Choice) × (ys ≡ xs ++ next ∷ more) =
    begins xs next rest ys (All-tail IsChoice x xs first) one (All-tail IsChoice y ys second)
    tails in
    (after.0, more after.0 is after.1)
  where
    more : (after : List Choice) → y ≡ x → ys ≡ xs ++ next ∷ after
        → y ∷ ys ≡ x ∷ xs ++ next ∷ after
    more after is same = cc

-- a word that begins with the name of no option is no option's
pub no_name : (word : List ℕ) → ((value : List ℕ) → word ≢ codes "--strategy=" ++ value)
    → ((value : List ℕ) → word ≢ codes "--budget=" ++ value)
    → ((value : List ℕ) → word ≢ codes "--slice=" ++ value)
    → (choice : Choice) → IsChoice choice → word ≢ choice_word choice
no_name word strategy budget slice (options.Strategy value) is same =
    strategy (strategy_word value) same
no_name word strategy budget slice (options.Budget value) is same = budget (decimal value) same
no_name word strategy budget slice (options.Slice value) is same = slice (decimal value) same

-- what is answered where there is nothing to give
pub none_answer : {X : Type 0} (P : Type 0) (Q : X → Type 0) (result : Option X)
    → result ≡ None → P → MatchOption result P Q
none_answer P Q None same fact = fact
none_answer P Q (Some x) same fact = absurd cc

-- a text that is the decimal of a number in range is parsed as that number
pub parsed_so : {E : Type 0} (text : List ℕ) (result : Result ℕ E) (most number : ℕ)
    → most < 2 ^ 32 → IsUpTo most number → text ≡ decimal number
    → ParsesUnsigned 32 10 text result → result_ok result ≡ Some number
parsed_so text result most number fits is same parses =
    let small : number < 2 ^ 32 = omega (arith, is.1, fits) in
    ap result_ok (parse-decimal 32 number text result small (omega (arith, small)) same parses)
