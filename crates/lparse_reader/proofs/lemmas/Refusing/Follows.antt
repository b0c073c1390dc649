-- Readings that follow what is due: they pass the fields that are due, or break at the first that
-- fails.
use Rattle.std.proofs.Common.{◌≡◌, ℕ, zero, suc, ◌^◌, ◌<◌, ◌≤◌, List, [], ◌∷◌, ◌++◌, length, Option}
use Rattle.std.proofs.Common.{Some, None, Result, Ok, Err, refl, sym, ap, subst, ◌∙◌, append_assoc}
use Rattle.std.proofs.Common.{arith, inl, inr}
use Rattle.std.specs.Prelude.{replicate}
use Rattle.std.specs.List.{AllByRecursion}
use Rattle.lparse_reader.specs.declared.fault.Fault.{Fault}
use Rattle.lparse_reader.specs.Fields.{◌>>=◌, Field, behind, counted_at}
use Rattle.lparse_reader.specs.Pieces.{Item, Stands, PieceRow}
use Rattle.lparse_reader.specs.Due.{Due, after_item, run}
use Rattle.lparse_reader.specs.Refuses.{FailsNext, IsItem, Breaks}
use Rattle.lparse_reader.proofs.lemmas.Pieces.NumberPieces.{bind_ok, ok_is}
use Rattle.lparse_reader.proofs.lemmas.Pieces.RowPieces.{row_join, row_shrinks}
use Rattle.lparse_reader.proofs.lemmas.Refusing.FaultPieces.{bind_err}

-- some fields of those that are due stand one after the other, and these are due then
pub record Passes (agenda : List Due) (bytes : List ℕ) (left : List Due) (rest : List ℕ) :
    Type 0 where
  pub items : List Item
  pub row : PieceRow items bytes rest
  pub good : AllByRecursion IsItem items
  pub ran : run agenda items ≡ Some left

pub passes_shrinks : (agenda : List Due) (bytes : List ℕ) (left : List Due) (rest : List ℕ)
    → Passes agenda bytes left rest → length rest ≤ length bytes
passes_shrinks agenda bytes left rest passes =
    omega (arith, row_shrinks passes.items bytes rest passes.row)

pub passes_none : (agenda : List Due) (bytes : List ℕ) → Passes agenda bytes agenda bytes
passes_none agenda bytes = record { items = []; row = refl; good = tt; ran = refl }

pub passes_one : (due : Due) (agenda more : List Due) (bytes : List ℕ) (item : Item) (rest : List ℕ)
    → Stands item bytes rest → IsItem item → after_item due item ≡ Some more
    → Passes (due ∷ agenda) bytes (more ++ agenda) rest
passes_one due agenda more bytes item rest stands good after =
    record { items = item ∷ []; row = (rest, stands, refl); good = (good, tt); ran = rw after refl }

good_join : (front back : List Item) → AllByRecursion IsItem front → AllByRecursion IsItem back
    → AllByRecursion IsItem (front ++ back)
good_join [] back first second = second
good_join (item ∷ front) back first second = (first.0, good_join front back first.1 second)

no_some : {A : Type 0} (x : A) (o : Option A) → o ≡ None → o ≡ Some x → ⊥
no_some x o none some = let wrong = sym none ∙ some in cc

run_step : (due : Due) (agenda : List Due) (item : Item) (front back : List Item)
    (after : Option (List Due)) (left : List Due) → after_item due item ≡ after
    → run (due ∷ agenda) (item ∷ front) ≡ Some left
    → ((more : List Due) → run (more ++ agenda) front ≡ Some left
    → run (more ++ agenda) (front ++ back) ≡ run left back)
    → run (due ∷ agenda) (item ∷ (front ++ back)) ≡ run left back
run_step due agenda item front back None left after ran rest =
    absurd (let wrong = rw after at ran in cc)
run_step due agenda item front back (Some more) left after ran rest =
    rw after (rest more (rw after at ran))

run_join : (agenda : List Due) (front back : List Item) (left : List Due)
    → run agenda front ≡ Some left → run agenda (front ++ back) ≡ run left back
run_join agenda [] back left ran = ap (λ (a : List Due). run a back) (some_is agenda left ran)
  where
    some_is : (a b : List Due) → Some a ≡ Some b → a ≡ b
    some_is a b e = cc
run_join [] (item ∷ front) back left ran = absurd (let wrong = ran in cc)
run_join (due ∷ agenda) (item ∷ front) back left ran =
    run_step due agenda item front back (after_item due item) left refl ran
    (λ more rest. run_join (more ++ agenda) front back left rest)

pub passes_then : (first : List Due) (bytes : List ℕ) (second : List Due) (middle : List ℕ)
    (third : List Due) (rest : List ℕ)
    → Passes first bytes second middle → Passes second middle third rest
    → Passes first bytes third rest
passes_then first bytes second middle third rest p q = record {
  items = p.items ++ q.items;
  row = row_join p.items q.items bytes middle rest p.row q.row;
  good = good_join p.items q.items p.good q.good;
  ran = run_join first p.items q.items second p.ran ∙ q.ran;
}

pub breaks_now : (agenda : List Due) (bytes : List ℕ) (fault : Fault) → FailsNext agenda bytes fault
    → Breaks agenda bytes fault
breaks_now agenda bytes fault fails =
    record {
      items = [];
      middle = bytes;
      left = agenda;
      row = refl;
      good = tt;
      ran = refl;
      fails =
          fails;
    }

pub breaks_then : (first : List Due) (bytes : List ℕ) (second : List Due) (middle : List ℕ)
    (fault : Fault)
    → Passes first bytes second middle → Breaks second middle fault → Breaks first bytes fault
breaks_then first bytes second middle fault p b = record {
  items = p.items ++ b.items;
  middle = b.middle;
  left = b.left;
  row = row_join p.items b.items bytes middle b.middle p.row b.row;
  good = good_join p.items b.items p.good b.good;
  ran = run_join first p.items b.items second p.ran ∙ b.ran;
  fails = b.fails;
}

-- ---- fields that follow what is due

-- a reading of these bytes passes what is due, and then `more` is due, or breaks
pub record FollowsIn {A : Type 0} (bytes : List ℕ) (read : Result (A × List ℕ) Fault)
    (due : List Due) (more : A → List Due) : Type 0 where
  pub passes : (agenda : List Due) (x : A) (rest : List ℕ) → read ≡ Ok (x, rest)
      → Passes (due ++ agenda) bytes (more x ++ agenda) rest
  pub breaks : (agenda : List Due) (fault : Fault) → read ≡ Err fault
      → Breaks (due ++ agenda) bytes fault

abbrev pub Follows : {A : Type 0} → Field A → List Due → (A → List Due) → Type 0
Follows field due more =
    (bytes : List ℕ) → length bytes < 2 ^ 31 → FollowsIn bytes (field bytes) due more

-- one part after the other
pub follows_then : {A B : Type 0} (bytes : List ℕ) (read : Result (A × List ℕ) Fault)
    (next : A × List ℕ → Result (B × List ℕ) Fault) (due : List Due) (more : A → List Due)
    (end : B → List Due)
    → length bytes < 2 ^ 31 → FollowsIn bytes read due more
    → ((x : A) (rest : List ℕ) → read ≡ Ok (x, rest) → length rest < 2 ^ 31
    → FollowsIn rest (next (x, rest)) (more x) end)
    → FollowsIn bytes (read >>= next) due end
follows_then {A = A} {B = B} bytes read next due more end few first second = record {
  passes = λ agenda y rest e.
      let parts = bind_ok read next (y, rest) e in
      let front = first.passes agenda parts.0.0 parts.0.1 parts.1 in
      let shorter : length parts.0.1 < 2 ^ 31 =
      omega (
        arith,
        few,
        passes_shrinks (due ++ agenda) bytes (more parts.0.0 ++ agenda) parts.0.1
            front,
      ) in
      let back = (second parts.0.0 parts.0.1 parts.1 shorter).passes agenda y rest parts.2 in
      passes_then (due ++ agenda) bytes (more parts.0.0 ++ agenda) parts.0.1 (end y ++ agenda) rest
      front back;
  breaks = λ agenda fault e.
      elim (bind_err read next fault e) [
        | inl now ↦ first.breaks agenda fault now
        | inr later ↦
            let front = first.passes agenda later.0.0 later.0.1 later.1 in
            let shorter : length later.0.1 < 2 ^ 31 =
            omega (
              arith,
              few,
              passes_shrinks (due ++ agenda) bytes (more later.0.0 ++ agenda)
                  later.0.1 front,
            ) in
            breaks_then (due ++ agenda) bytes (more later.0.0 ++ agenda) later.0.1 fault front
            ((second later.0.0 later.0.1 later.1 shorter).breaks agenda fault later.2)
      ];
}

-- a value that was read before
pub follows_done : {A : Type 0} (bytes : List ℕ) (x : A) (due : List Due) (more : A → List Due)
    → more x ≡ due → FollowsIn bytes (Ok (x, bytes)) due more
follows_done {A = A} bytes x due more same = record {
  passes = λ agenda y rest e.
      let both = ok_is (x, bytes) (y, rest) e in
      subst (λ (p : A × List ℕ). Passes (due ++ agenda) bytes (more p.0 ++ agenda) p.1) both
      (subst (λ (d : List Due). Passes (due ++ agenda) bytes (d ++ agenda) bytes) (sym same)
      (passes_none (due ++ agenda) bytes));
  breaks = λ agenda fault e. absurd cc;
}

-- with more that is due behind
pub follows_behind : {A : Type 0} (bytes : List ℕ) (read : Result (A × List ℕ) Fault)
    (due : List Due) (more : A → List Due) (tail : List Due)
    → FollowsIn bytes read due more → FollowsIn bytes read (due ++ tail) (λ x. more x ++ tail)
follows_behind bytes read due more tail follows = record {
  passes = λ agenda x rest e.
      subst (λ (a : List Due). Passes a bytes ((more x ++ tail) ++ agenda) rest)
      (sym (append_assoc due tail agenda))
      (subst (λ (a : List Due). Passes (due ++ (tail ++ agenda)) bytes a rest)
      (sym (append_assoc (more x) tail agenda)) (follows.passes (tail ++ agenda) x rest e));
  breaks = λ agenda fault e.
      subst (λ (a : List Due). Breaks a bytes fault) (sym (append_assoc due tail agenda))
      (follows.breaks (tail ++ agenda) fault e);
}

-- so many items, each of which follows one field that is due
pub follows_counted : {A : Type 0} (field : Field A) (due : Due)
    → Follows field (due ∷ []) (λ _. []) → (count : ℕ)
    → Follows (counted_at field count) (replicate count due) (λ _. [])
unfolding counted_at
follows_counted {A = A} field due follows zero bytes few =
    follows_done {A = List A} bytes [] [] (λ _. []) refl
follows_counted {A = A} field due follows (suc count) bytes few =
    follows_then {A = A} {B = List A} bytes (field bytes)
    (λ x. behind (x.0 ∷ []) (counted_at field count x.1)) (due ∷ replicate count due)
    (λ _. replicate count due) (λ _. []) few
    (follows_behind bytes (field bytes) (due ∷ []) (λ _. []) (replicate count due)
    (follows bytes few))
    (λ x rest e shorter.
    follows_then {A = List A} {B = List A} rest (counted_at field count rest)
    (λ more. Ok ((x ∷ []) ++ more.0, more.1)) (replicate count due) (λ _. []) (λ _. []) shorter
    (follows_counted field due follows count rest shorter)
    (λ xs after read still. follows_done {A = List A} after ((x ∷ []) ++ xs) [] (λ _. []) refl))
