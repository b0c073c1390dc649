-- What callers need of the words on sources and sinks: writes in turn make one write.
use Rattle.std.proofs.Common.{◌<◌, drop, get_or, ◌≡◌, ◌≤◌, ◌+◌, ◌++◌, ◌∷◌, ℕ, List, []}
use Rattle.std.proofs.Common.{Option, Some}
use Rattle.std.proofs.Common.{None, Ok, Err, length, take, min, sym, ◌∙◌, ap, arith, append_assoc}
use Rattle.std.specs.Prelude.{Result, IsErr}
use Rattle.std.proofs.lemmas.List.{take_more, take-append-drop, append-nil, take-append-le}
use Rattle.std.proofs.lemmas.List.{take_min, take_all}
use Rattle.std.proofs.Math.Seq.{take-append-add}
use Rattle.std.proofs.lemmas.Result.{on_ok_weaker, on_err_weaker}
use Rattle.std.specs.List.{flat_map}
use Rattle.std.proofs.lemmas.Grind.{flat_map-append}
use Rattle.byte_edges.specs.Faults.{Rose}
use Rattle.byte_edges.specs.Edges.{Appended, AppendedPrefix, Writes}
use Rattle.byte_edges.specs.Memory.{PageState}
use Rattle.byte_edges.specs.declared.writing.WriteFault.{WriteFault}

-- a rise shows at each later count
pub rose_later : (before now later : ℕ) → Rose before now → now ≤ later → Rose before later
rose_later before now later rose more = omega arith

-- a rise from a later count is one from an earlier count
pub rose_earlier : (earlier before now : ℕ) → earlier ≤ before → Rose before now → Rose earlier now
rose_earlier earlier before now more rose = omega arith

-- nothing was appended
pub appended_none : (old : Option (List ℕ)) → Appended old old []
appended_none None = record { told = tt }
appended_none (Some before) = record { told = sym (append-nil before) }

-- bytes that were appended in turn were appended as one list
pub appended_then : (old mid new : Option (List ℕ)) (first second : List ℕ) → Appended old mid first
    → Appended mid new second → Appended old new (first ++ second)
appended_then old mid None first second one two = record { told = tt }
appended_then old None (Some now) first second one two = absurd two.told
appended_then None (Some between) (Some now) first second one two = absurd one.told
appended_then (Some before) (Some between) (Some now) first second one two =
    record {
      told =
          two.told ∙ ap (λ bytes. bytes ++ second) one.told ∙ append_assoc before first second;
    }

-- bytes and then a prefix of more are a prefix of both
pub prefix_then : (old mid new : Option (List ℕ)) (first second : List ℕ) → Appended old mid first
    → AppendedPrefix mid new second → AppendedPrefix old new (first ++ second)
prefix_then old mid new first second one two = (
  length first + two.0,
  rw take-append-add (appended_then old mid new first (take two.0 second) one two.1),
)

-- a prefix of a list's front is a prefix of the list
pub prefix_longer : (old new : Option (List ℕ)) (front rest : List ℕ) → AppendedPrefix old new front
    → AppendedPrefix old new (front ++ rest)
prefix_longer old new front rest prefix =
    let n : ℕ = min prefix.0 (length front) in
    let same : take n (front ++ rest) ≡ take prefix.0 front =
    take-append-le n front rest (omega arith) ∙ take_min prefix.0 front in
    (n, rw same prefix.1)

module _ {K : Type 0} {written : K → Option (List ℕ)} {faults : K → ℕ} where
  -- nothing was written
  pub writes_none : {T E : Type 0} {value : T} (sink : K)
      → Writes {E = E} written faults sink sink [] (Ok value)
  writes_none sink = record {
    all = appended_none (written sink);
    prefix = (0, appended_none (written sink));
    cause = tt;
    count = omega arith;
  }

  -- bytes were written, and then others, as far as the second call came
  pub writes_then : {T U E F : Type 0} {old mid new : K} {first second : List ℕ} {value : T}
      {result : Result U F} → Writes {E = E} written faults old mid first (Ok value)
      → Writes written faults mid new second result
      → Writes written faults old new (first ++ second) result
  writes_then {old = old} {mid = mid} {new = new} {first = first} {second = second}
      {result = result} one two = record {
        all =
            on_ok_weaker result
            (appended_then (written old) (written mid) (written new) first second one.all) two.all;
        prefix =
            prefix_then (written old) (written mid) (written new) first second one.all two.prefix;
        cause =
            on_err_weaker result (rose_earlier (faults old) (faults mid) (faults new) one.count)
            two.cause;
        count = omega arith;
      }

  -- after a fault the bytes behind weren't tried
  pub writes_longer : {T E : Type 0} {old new : K} {front : List ℕ} {error : E} (rest : List ℕ)
      → Writes {T = T} written faults old new front (Err error)
      → Writes {T = T} written faults old new (front ++ rest) (Err error)
  writes_longer {old = old} {new = new} {front = front} rest one = record {
    all = tt;
    prefix = prefix_longer (written old) (written new) front rest one.prefix;
    cause = one.cause;
    count = one.count;
  }

  -- a fault is handed on, as by `?`
  pub writes_fault : {T U E F : Type 0} {old new : K} {bytes : List ℕ} {error : E}
      {result : Result U F} → IsErr result → Writes {T = T} written faults old new bytes (Err error)
      → Writes written faults old new bytes result
  writes_fault {result = Ok value} is_err one = cc
  writes_fault {result = Err other} is_err one =
      record { all = tt; prefix = one.prefix; cause = one.cause; count = one.count }

  -- the call went well, and its answer doesn't matter
  pub writes_ok : {T U E F : Type 0} {old new : K} {bytes : List ℕ} {value : T} {other : U}
      → Writes {E = E} written faults old new bytes (Ok value)
      → Writes {E = F} written faults old new bytes (Ok other)
  writes_ok one = record { all = one.all; prefix = one.prefix; cause = tt; count = one.count }

  -- the same bytes, said otherwise
  pub writes_same : {T E : Type 0} {old new : K} {bytes same : List ℕ} {result : Result T E}
      → bytes ≡ same → Writes written faults old new bytes result
      → Writes written faults old new same result
  writes_same equal one = rw (← equal) one

-- all of these bytes were written
abbrev pub Wrote : {K : Type 0} (written : K → Option (List ℕ)) (faults : K → ℕ) (old new : K)
    → List ℕ → Type 0
Wrote written faults old new bytes =
    Writes {E = WriteFault} written faults old new bytes (Ok (tt {0}))

-- An item of a list, given by its place, and the text of each item.
module _ {X : Type 0} (text : X → List ℕ) (items : List X) (default : X) (at : ℕ) (item : X)
    (within : at < length items) (is : item ≡ get_or items at default) where
  -- the texts of the first items, and of the next
  texts_more : flat_map text (take at items) ++ text item ≡ flat_map text (take (at + 1) items)
  texts_more =
      sym (ap (flat_map text) (take_more items at default within)
      ∙ flat_map-append text (take at items) (get_or items at default ∷ [])
      ∙ ap (λ last. flat_map text (take at items) ++ last)
      (append-nil (text (get_or items at default)) ∙ ap text (sym is)))

  -- the texts of the first items, of the next, and of the rest
  texts_rest : (flat_map text (take at items) ++ text item)
      ++ flat_map text (drop (at + 1) items) ≡ flat_map text items
  texts_rest =
      ap (λ front. front ++ flat_map text (drop (at + 1) items)) texts_more
      ∙ sym (flat_map-append text (take (at + 1) items) (drop (at + 1) items))
      ∙ ap (flat_map text) (take-append-drop (at + 1) items)

-- A loop that writes the texts of a list's items in turn: `Wrote .. (flat_map text (take at
-- items))`
-- is its invariant.
module _ {K : Type 0} {written : K → Option (List ℕ)} {faults : K → ℕ} where
  -- one more item was written
  pub wrote_more : {X T E : Type 0} {old mid new : K} {value : T} (text : X → List ℕ)
      (items : List X) (default : X) (at : ℕ) (item : X) → at < length items
      → item ≡ get_or items at default
      → Wrote written faults old mid (flat_map text (take at items))
      → Writes {E = E} written faults mid new (text item) (Ok value)
      → Wrote written faults old new (flat_map text (take (at + 1) items))
  wrote_more text items default at item within is before one =
      writes_same (texts_more text items default at item within is)
      (writes_then before (writes_ok one))

  -- an item wasn't written whole
  pub wrote_fault : {X T U E F : Type 0} {old mid new : K} {error : E} {result : Result U F}
      (text : X → List ℕ) (items : List X) (default : X) (at : ℕ) (item : X) → IsErr result
      → at < length items → item ≡ get_or items at default
      → Wrote written faults old mid (flat_map text (take at items))
      → Writes {T = T} written faults mid new (text item) (Err error)
      → Writes written faults old new (flat_map text items) result
  wrote_fault text items default at item fails within is before one =
      writes_fault fails
      (writes_same (texts_rest text items default at item within is)
      (writes_longer (flat_map text (drop (at + 1) items)) (writes_then before one)))

  -- all items were written
  pub wrote_all : {X T E : Type 0} {old new : K} {value : T} (text : X → List ℕ)
      (items : List X) (at : ℕ) → length items ≤ at
      → Wrote written faults old new (flat_map text (take at items))
      → Writes {E = E} written faults old new (flat_map text items) (Ok value)
  wrote_all text items at whole done =
      writes_same (ap (flat_map text) (take_all at items whole)) (writes_ok done)

-- what was written to an empty page is on it
pub page_holds : {T E : Type 0} {faults : PageState → ℕ} {old new : PageState} {text : List ℕ}
    {value : T} → old ≡ record { written = []; faults = 0 }
    → Writes {E = E} (λ page. Some page.written) faults old new text (Ok value)
    → new.written ≡ text
page_holds {text = text} empty one =
    one.all.told ∙ ap (λ (page : PageState). page.written ++ text) empty

-- so what the page holds goes out by one write
pub writes_page : {K T E U F : Type 0} {written : K → Option (List ℕ)} {faults : K → ℕ}
    {page_faults : PageState → ℕ} {before after : PageState} {old new : K} {text page : List ℕ}
    {value : T} {result : Result U F} → before ≡ record { written = []; faults = 0 }
    → Writes {E = E} (λ page. Some page.written) page_faults before after text (Ok value)
    → page ≡ after.written → Writes written faults old new page result
    → Writes written faults old new text result
writes_page empty one same written = writes_same (same ∙ page_holds empty one) written
