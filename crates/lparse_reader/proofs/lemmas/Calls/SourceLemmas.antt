-- Of which text a result over a source speaks.
use Rattle.std.proofs.Common.{◌≤◌, ◌<◌, ℕ, zero, suc, List, [], ◌∷◌, length, Option, Some}
use Rattle.std.proofs.Common.{None, Result, Ok, Err, refl, arith}
use Rattle.std.specs.Prelude.{IfOk, IfErr, IfSome}
use Rattle.ground_program.specs.declared.program.Program.{Program}
use Rattle.lparse_reader.specs.declared.fault.ReadError.{ReadError}
use Rattle.lparse_reader.specs.declared.fault.ReadError.TheVariants.{Text, TooLong, ReadFault}
use Rattle.lparse_reader.specs.declared.fault.ReadError.TheVariants.{NoMemory}
use Rattle.lparse_reader.specs.Pieces.{Reads}
use Rattle.lparse_reader.specs.Refusal.{OnText}
use Rattle.lparse_reader.specs.Refuses.{IsRefused, IsOutcome, IsOfSomeText}

-- a fact holds where a result is of a text
pub on_text : {A : Type 0} (result : Result A ReadError) (P : Type 0) → P → OnText result P
on_text (Ok value) P holds = holds
on_text (Err (Text why line value)) P holds = holds
on_text (Err TooLong) P holds = tt
on_text (Err ReadFault) P holds = tt
on_text (Err NoMemory) P holds = tt

-- what a text is parsed as is what it is
pub parsed_outcome : (bytes : List ℕ) (result : Result Program ReadError)
    → length bytes ≤ 67108864 → IfOk result (Reads bytes) → IfErr result (IsRefused bytes)
    → IsOutcome bytes result
parsed_outcome bytes (Ok program) few reads refused = (few, reads)
parsed_outcome bytes (Err (Text why line value)) few reads refused = (few, refused)
parsed_outcome bytes (Err TooLong) few reads refused = absurd refused
parsed_outcome bytes (Err ReadFault) few reads refused = absurd refused
parsed_outcome bytes (Err NoMemory) few reads refused = tt

more_than : (n : ℕ) → (bytes : List ℕ) × (n < length bytes)
more_than zero = (0 ∷ [], omega arith)
more_than (suc n) =
    let fewer : (bytes : List ℕ) × (n < length bytes) = more_than n in
    (0 ∷ fewer.0, omega (arith, fewer.1))

-- some text is too long
pub too_long_text : (told : Option (List ℕ)) (Q : List ℕ → Type 0)
    → IfSome told (λ left. (67108864 < length left) × Q left)
    → IsOfSomeText told (Err TooLong)
too_long_text None Q long =
    let some : (bytes : List ℕ) × (67108864 < length bytes) = more_than 67108864 in
    record { bytes = some.0; same = tt; outcome = some.1 }
too_long_text (Some left) Q long = record { bytes = left; same = refl; outcome = long.0 }

-- a result that says nothing of the text
pub any_text : (told : Option (List ℕ)) (error : ReadError)
    → ((bytes : List ℕ) → IsOutcome bytes (Err error)) → IsOfSomeText told (Err error)
any_text None error any = record { bytes = []; same = tt; outcome = any [] }
any_text (Some left) error any = record { bytes = left; same = refl; outcome = any left }
