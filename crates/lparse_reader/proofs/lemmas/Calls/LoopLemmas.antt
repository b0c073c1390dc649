-- Reading items one after the other, as a loop does.
use Rattle.std.proofs.Common.{◌≡◌, ℕ, suc, ◌-◌, ◌+◌, ◌≤◌, ◌<◌, List, [], ◌∷◌, ◌++◌, length, drop}
use Rattle.std.proofs.Common.{get_or, Option, Some, None, Result, Ok, Err, refl, sym, ap, ◌∙◌}
use Rattle.std.proofs.Common.{append_assoc, arith}
use Rattle.std.proofs.lemmas.List.{append-nil, at_drop_more, at_drop_all}
use Rattle.ground_program.specs.declared.program.Weighted.{Weighted}
use Rattle.lparse_reader.specs.declared.fault.Fault.{Fault}
use Rattle.lparse_reader.specs.declared.fault.Fault.TheVariants.{Ended}
use Rattle.lparse_reader.specs.declared.fault.Stop.{Stop}
use Rattle.lparse_reader.specs.declared.fault.Stop.TheVariants as stops
use Rattle.lparse_reader.specs.Fields.{Fails, Field, behind, number_at, counted_at, until_end_at}
use Rattle.lparse_reader.specs.Fields.{weighed_at}

-- an item between those before and those behind
regroup : {A : Type 0} (front : List A) (item : A) (read : Result (List A × List ℕ) Fault)
    → behind front (behind (item ∷ []) read) ≡ behind (front ++ item ∷ []) read
regroup {A = A} front item (Ok more) =
    ap (λ (items : List A). Ok (items, more.1)) (sym (append_assoc front (item ∷ []) more.0))
regroup front item (Err fault) = refl

-- ---- so many items

pub counted_goes_on : {A : Type 0} (field : Field A) (front : List A) (count i : ℕ) (bytes : List ℕ)
    (item : A) (after : List ℕ) (total : Result (List A × List ℕ) Fault)
    → i < count → field bytes ≡ Ok (item, after)
    → behind front (counted_at field (count - i) bytes) ≡ total
    → behind (front ++ item ∷ []) (counted_at field (count - (i + 1)) after) ≡ total
unfolding counted_at
counted_goes_on field front count i bytes item after total lt read so_far =
    let k : count - i ≡ suc (count - (i + 1)) = omega arith in
    let one : behind front (counted_at field (count - i) bytes)
    ≡ behind (front ++ item ∷ []) (counted_at field (count - (i + 1)) after) =
    rw (k, read) (regroup front item (counted_at field (count - (i + 1)) after)) in
    sym one ∙ so_far

pub counted_stops : {A : Type 0} (stop : Stop) (field : Field A) (front : List A) (count i : ℕ)
    (bytes : List ℕ) (total : Result (List A × List ℕ) Fault)
    → i < count → Fails stop (field bytes)
    → behind front (counted_at field (count - i) bytes) ≡ total → Fails stop total
unfolding counted_at
counted_stops stops.NoMemory field front count i bytes total lt fails so_far = tt
counted_stops (stops.Fault fault) field front count i bytes total lt fails so_far =
    let k : count - i ≡ suc (count - (i + 1)) = omega arith in
    let one : behind front (counted_at field (count - i) bytes) ≡ Err fault = rw (k, fails) refl in
    sym so_far ∙ one

pub counted_done : {A : Type 0} (field : Field A) (front : List A) (count i : ℕ) (bytes : List ℕ)
    (total : Result (List A × List ℕ) Fault)
    → count ≤ i → behind front (counted_at field (count - i) bytes) ≡ total
    → total ≡ Ok (front, bytes)
unfolding counted_at
counted_done {A = A} field front count i bytes total le so_far =
    let k : count - i ≡ 0 = omega arith in
    let one : behind front (counted_at field (count - i) bytes) ≡ Ok (front, bytes) =
    rw k (ap (λ (items : List A). Ok (items, bytes)) (append-nil front)) in
    sym so_far ∙ one

-- ---- items up to an end

pub until_goes_on : {A : Type 0} (field : Field (Option A)) (front : List A) (count i : ℕ)
    (bytes : List ℕ) (item : A) (after : List ℕ) (total : Result (List A × List ℕ) Fault)
    → i < count → field bytes ≡ Ok (Some item, after)
    → behind front (until_end_at field (count - i) bytes) ≡ total
    → behind (front ++ item ∷ []) (until_end_at field (count - (i + 1)) after) ≡ total
unfolding until_end_at
until_goes_on field front count i bytes item after total lt read so_far =
    let k : count - i ≡ suc (count - (i + 1)) = omega arith in
    let one : behind front (until_end_at field (count - i) bytes)
    ≡ behind (front ++ item ∷ []) (until_end_at field (count - (i + 1)) after) =
    rw (k, read) (regroup front item (until_end_at field (count - (i + 1)) after)) in
    sym one ∙ so_far

pub until_stops : {A : Type 0} (stop : Stop) (field : Field (Option A)) (front : List A)
    (count i : ℕ) (bytes : List ℕ) (total : Result (List A × List ℕ) Fault)
    → i < count → Fails stop (field bytes)
    → behind front (until_end_at field (count - i) bytes) ≡ total → Fails stop total
unfolding until_end_at
until_stops stops.NoMemory field front count i bytes total lt fails so_far = tt
until_stops (stops.Fault fault) field front count i bytes total lt fails so_far =
    let k : count - i ≡ suc (count - (i + 1)) = omega arith in
    let one : behind front (until_end_at field (count - i) bytes) ≡ Err fault =
    rw (k, fails) refl in
    sym so_far ∙ one

pub until_done : {A : Type 0} (field : Field (Option A)) (front : List A) (count i : ℕ)
    (bytes after : List ℕ) (total : Result (List A × List ℕ) Fault)
    → i < count → field bytes ≡ Ok (None, after)
    → behind front (until_end_at field (count - i) bytes) ≡ total → total ≡ Ok (front, after)
unfolding until_end_at
until_done {A = A} field front count i bytes after total lt read so_far =
    let k : count - i ≡ suc (count - (i + 1)) = omega arith in
    let one : behind front (until_end_at field (count - i) bytes) ≡ Ok (front, after) =
    rw (k, read) (ap (λ (items : List A). Ok (items, after)) (append-nil front)) in
    sym so_far ∙ one

pub until_out : {A : Type 0} (field : Field (Option A)) (front : List A) (count i : ℕ)
    (bytes : List ℕ) (total : Result (List A × List ℕ) Fault)
    → count ≤ i → behind front (until_end_at field (count - i) bytes) ≡ total → total ≡ Err Ended
unfolding until_end_at
until_out field front count i bytes total le so_far =
    let k : count - i ≡ 0 = omega arith in
    let one : behind front (until_end_at field (count - i) bytes) ≡ Err Ended = rw k refl in
    sym so_far ∙ one

-- ---- weights

pub weighed_goes_on : (parts front : List Weighted) (i : ℕ) (d : Weighted) (bytes : List ℕ)
    (weight : ℕ) (after : List ℕ) (total : Result (List Weighted × List ℕ) Fault)
    → i < length parts → number_at bytes ≡ Ok (weight, after)
    → behind front (weighed_at (drop i parts) bytes) ≡ total
    → behind (front ++ record { lit = (get_or parts i d).lit; weight = weight } ∷ [])
    (weighed_at (drop (i + 1) parts) after) ≡ total
unfolding weighed_at
weighed_goes_on parts front i d bytes weight after total lt read so_far =
    let weighed : Weighted = record { lit = (get_or parts i d).lit; weight = weight } in
    let one : behind front (weighed_at (drop i parts) bytes)
    ≡ behind (front ++ weighed ∷ []) (weighed_at (drop (i + 1) parts) after) =
    at_drop_more (λ (rest : List Weighted). behind front (weighed_at rest bytes)) parts i d lt
    ∙ rw read (regroup front weighed (weighed_at (drop (i + 1) parts) after)) in
    sym one ∙ so_far

pub weighed_stops : (stop : Stop) (parts front : List Weighted) (i : ℕ) (d : Weighted)
    (bytes : List ℕ) (total : Result (List Weighted × List ℕ) Fault)
    → i < length parts → Fails stop (number_at bytes)
    → behind front (weighed_at (drop i parts) bytes) ≡ total → Fails stop total
unfolding weighed_at
weighed_stops stops.NoMemory parts front i d bytes total lt fails so_far = tt
weighed_stops (stops.Fault fault) parts front i d bytes total lt fails so_far =
    let one : behind front (weighed_at (drop i parts) bytes) ≡ Err fault =
    at_drop_more (λ (rest : List Weighted). behind front (weighed_at rest bytes)) parts i d lt
    ∙ rw fails refl in
    sym so_far ∙ one

pub weighed_done : (parts front : List Weighted) (i : ℕ) (bytes : List ℕ)
    (total : Result (List Weighted × List ℕ) Fault)
    → length parts ≤ i → behind front (weighed_at (drop i parts) bytes) ≡ total
    → total ≡ Ok (front, bytes)
unfolding weighed_at
weighed_done parts front i bytes total le so_far =
    let one : behind front (weighed_at (drop i parts) bytes) ≡ Ok (front, bytes) =
    at_drop_all (λ (rest : List Weighted). behind front (weighed_at rest bytes)) parts i le
    ∙ ap (λ (items : List Weighted). Ok (items, bytes)) (append-nil front) in
    sym so_far ∙ one
