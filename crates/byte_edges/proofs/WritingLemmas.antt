-- The loop that writes all bytes: what stands after some of them.
use Rattle.std.proofs.Common.{◌≡◌, ◌≤◌, ◌+◌, ℕ, List, Option, Ok, Err, length, take, drop, arith}
use Rattle.std.proofs.lemmas.List.{take_all}
use Rattle.std.proofs.Math.Seq.{take-add}
use Rattle.byte_edges.specs.Faults.{Rose}
use Rattle.byte_edges.specs.Edges.{Appended, Writes}
use Rattle.byte_edges.proofs.CallerLemmas.{appended_none, appended_then, rose_earlier}

-- the first n of the bytes were written
pub record WroteFront {K : Type 0} (written : K → Option (List ℕ)) (faults : K → ℕ) (old new : K)
    (bytes : List ℕ) (n : ℕ) : Type 0 where
  pub within : n ≤ length bytes
  pub front : Appended (written old) (written new) (take n bytes)
  pub count : faults old ≤ faults new

module _ {K : Type 0} (written : K → Option (List ℕ)) (faults : K → ℕ) where
  pub front_none : (sink : K) (bytes : List ℕ) → WroteFront written faults sink sink bytes 0
  front_none sink bytes =
      record { within = omega arith; front = appended_none (written sink); count = omega arith }

  pub front_more : (old mid new : K) (bytes : List ℕ) (n more : ℕ)
      → WroteFront written faults old mid bytes n
      → Appended (written mid) (written new) (take more (drop n bytes))
      → faults mid ≤ faults new → n + more ≤ length bytes
      → WroteFront written faults old new bytes (n + more)
  front_more old mid new bytes n more one two count within = record {
    within = within;
    front =
        rw take-add
        (appended_then (written old) (written mid) (written new) (take n bytes)
        (take more (drop n bytes)) one.front two);
    count = omega arith;
  }

  pub front_all : {T E : Type 0} (old new : K) (bytes : List ℕ) (n : ℕ) (value : T)
      → WroteFront written faults old new bytes n → length bytes ≤ n
      → Writes {E = E} written faults old new bytes (Ok value)
  front_all old new bytes n value one whole =
      let same : take n bytes ≡ bytes = take_all n bytes whole in
      let all : Appended (written old) (written new) bytes = rw same at one.front in
      record { all = all; prefix = (n, one.front); cause = tt; count = one.count }

  pub front_fault : {T E : Type 0} (old mid new : K) (bytes : List ℕ) (n : ℕ) (error : E)
      → WroteFront written faults old mid bytes n → written new ≡ written mid
      → Rose (faults mid) (faults new) → faults mid ≤ faults new
      → Writes {T = T} written faults old new bytes (Err error)
  front_fault old mid new bytes n error one same rose count = record {
    all = tt;
    prefix = (n, rw same one.front);
    cause = rose_earlier (faults old) (faults mid) (faults new) one.count rose;
    count = omega arith;
  }
