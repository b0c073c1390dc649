-- What a read and a write do to the bytes that a source has left and a sink was given, where they
-- tell those.
use Rattle.std.specs.Prelude.{◌≡◌, ◌≤◌, ◌++◌, ℕ, List, Option, Some, Result, length, take, drop}
use Rattle.std.specs.Prelude.{IfSome, OnOk, OnErr}
use Rattle.std.specs.Option.{IsSomeAnd}
use Rattle.byte_edges.specs.Faults.{Rose}

-- the first n of the bytes went to the front of a buffer, and the rest of both is as before
pub record Moved (n : ℕ) (bytes : List ℕ) (left : Option (List ℕ)) (old new : List ℕ) : Type 0 where
  pub enough : n ≤ length bytes
  pub rest : left ≡ Some (drop n bytes)
  pub buffer : new ≡ take n bytes ++ drop n old

-- the first n of the bytes came behind those of a list, and the rest is left
pub record CameBehind (n : ℕ) (left : Option (List ℕ)) (old new bytes : List ℕ) : Type 0 where
  pub enough : n ≤ length bytes
  pub rest : left ≡ Some (drop n bytes)
  pub list : new ≡ old ++ take n bytes

-- some first bytes were taken, at most so many, and the rest is left
abbrev pub TookUpTo : ℕ → Option (List ℕ) → List ℕ → Type 0
TookUpTo most left bytes = (n : ℕ) × (n ≤ most) × (left ≡ Some (drop n bytes))

-- where a sink tells what was written, it told before, and these bytes came behind
pub record Appended (old new : Option (List ℕ)) (bytes : List ℕ) : Type 0 where
  pub told : IfSome new (λ now. IsSomeAnd old (λ before. now ≡ before ++ bytes))

-- where a sink tells what was written, it told before, and some first bytes of these came behind
abbrev pub AppendedPrefix : Option (List ℕ) → Option (List ℕ) → List ℕ → Type 0
AppendedPrefix old new bytes = (n : ℕ) × Appended old new (take n bytes)

-- What a call that writes these bytes did to a sink: at Ok it wrote them all, else a prefix of
-- them. It fails only where the sink's count of faults rose.
pub record Writes {K T E : Type 0} (written : K → Option (List ℕ)) (faults : K → ℕ) (old new : K)
    (bytes : List ℕ) (result : Result T E) : Type 0 where
  pub all : OnOk result (Appended (written old) (written new) bytes)
  pub prefix : AppendedPrefix (written old) (written new) bytes
  pub cause : OnErr result (Rose (faults old) (faults new))
  pub count : faults old ≤ faults new
