-- What the loops carry.
use Rattle.std.proofs.Common.{◌≡◌, ◌≢◌, ℕ, suc, ◌+◌, ◌-◌, ◌<◌, ◌≤◌, Bool, false}
use Rattle.std.proofs.Common.{List, [], ◌∷◌, ◌++◌, length, take, drop, get_or, refl, sym, ap, subst}
use Rattle.std.proofs.Common.{◌∙◌, arith, append_assoc, append-nil, take-append-drop}
use Rattle.std.specs.Prelude.{Option, Some, None}
use Rattle.std.specs.List.{AllByRecursion}
use Rattle.std.proofs.lemmas.Bool.{ne_eqb, eq-eqb}
use Rattle.std.proofs.lemmas.List.{drop_more, take_more, take_all, length-append}
use Rattle.ground_program.specs.declared.program.Named.{Named}
use Rattle.report.specs.declared.lines.Line.{Line}
use Rattle.report.specs.Text.{text_of_line, text_of_lines, words_of_line}
use Rattle.report.proofs.TextLemmas.{text_of_lines_push}
use Rattle.report_reader.specs.Lines.{IsSmall, IsLine, AreOneLine, IsFirstWrong}
use Rattle.report_reader.specs.Reading.{◌>>=◌, before, onward, small_at, numbers_at, begins_with}
use Rattle.report_reader.specs.Reading.{without_first, values_at, set_at, first_at}
use Rattle.report_reader.proofs.FieldLemmas.{no_some, Lacks, Begins, before_then, onward_then}
use Rattle.report_reader.proofs.FieldLemmas.{lacks_append, small_takes, took_shorter, most_same}
use Rattle.report_reader.proofs.TextLemmas.{first_again, first_takes}

-- ---- cutting at a byte

-- where no byte before the place is such a byte, and one stands there, the text is cut there
pub cut_before : (end : ℕ) (text : List ℕ) (at : ℕ) → Lacks end (take at text)
    → Begins end (drop at text) → before end text ≡ take at text
cut_before end text at lacks begins =
    ap (before end) (sym (take-append-drop at text))
    ∙ before_then end (take at text) (drop at text) lacks begins

pub cut_onward : (end : ℕ) (text : List ℕ) (at : ℕ) → Lacks end (take at text)
    → Begins end (drop at text) → onward end text ≡ drop at text
cut_onward end text at lacks begins =
    ap (onward end) (sym (take-append-drop at text))
    ∙ onward_then end (take at text) (drop at text) lacks begins

pub stands_at : (end : ℕ) (text : List ℕ) (at : ℕ) → at < length text → get_or text at 0 ≡ end
    → Begins end (drop at text)
stands_at end text at inside is =
    subst (λ (r : List ℕ). Begins end r) (sym (drop_more text at 0 inside))
    (eq-eqb (get_or text at 0) end is)

pub lacks_more : (end : ℕ) (text : List ℕ) (at : ℕ) → at < length text
    → get_or text at 0 ≢ end → Lacks end (take at text) → Lacks end (take (at + 1) text)
lacks_more end text at inside other lacks =
    subst (λ (t : List ℕ). Lacks end t) (sym (take_more text at 0 inside))
    (lacks_append end (take at text) (get_or text at 0 ∷ []) lacks
    (ne_eqb (get_or text at 0) end other, tt))

pub none_before : (end : ℕ) (text : List ℕ) (at : ℕ) → length text ≤ at
    → Lacks end (take at text) → before end text ≡ text
none_before end text at past lacks =
    let all : take at text ≡ text = take_all at text past in
    ap (before end) (sym (append-nil text))
    ∙ before_then end text [] (subst (λ (t : List ℕ). Lacks end t) all lacks) tt

pub none_onward : (end : ℕ) (text : List ℕ) (at : ℕ) → length text ≤ at
    → Lacks end (take at text) → onward end text ≡ []
none_onward end text at past lacks =
    let all : take at text ≡ text = take_all at text past in
    ap (onward end) (sym (append-nil text))
    ∙ onward_then end text [] (subst (λ (t : List ℕ). Lacks end t) all lacks) tt

-- ---- items before others

-- items that are there, and then those of a reading
abbrev pub with_front : {X : Type 0} → List X → Option (List X) → Option (List X)
with_front front None = None
with_front front (Some more) = Some (front ++ more)

pub front_next : {X : Type 0} (front : List X) (item : X) (more : Option (List X))
    → with_front front (more >>= (λ others. Some (item ∷ others)))
    ≡ with_front (front ++ item ∷ []) more
front_next front item None = refl
front_next front item (Some more) = ap (λ xs. Some xs) (sym (append_assoc front (item ∷ []) more))

pub front_none : {X : Type 0} (more : Option (List X)) → with_front [] more ≡ more
front_none None = refl
front_none (Some more) = refl

-- ---- numbers

pub numbers_step : (front rest : List ℕ) (number : ℕ) (after : List ℕ) → 1 ≤ length rest
    → small_at rest ≡ Some (number, after)
    → with_front front (numbers_at (length rest) rest)
    ≡ with_front (front ++ number ∷ []) (numbers_at (length after) after)
unfolding numbers_at
numbers_step front [] number after some read = absurd (omega (arith, some))
numbers_step front (byte ∷ rest) number after some read =
    let shorter =
    took_shorter (byte ∷ rest) number after (small_takes (byte ∷ rest) number after read) in
    ap
    (λ (first : Option (ℕ × List ℕ)). with_front front
    (first >>= (λ one. numbers_at (length rest) one.1 >>= (λ others. Some (one.0 ∷ others)))))
    read
    ∙ front_next front number (numbers_at (length rest) after)
    ∙ ap (with_front (front ++ number ∷ []))
    (most_same (length rest) (length after) after (omega (arith, shorter)) (omega arith))

pub numbers_stop : (front rest : List ℕ) → 1 ≤ length rest → small_at rest ≡ None
    → with_front front (numbers_at (length rest) rest) ≡ None
unfolding numbers_at
numbers_stop front [] some read = absurd (omega (arith, some))
numbers_stop front (byte ∷ rest) some read =
    ap
    (λ (first : Option (ℕ × List ℕ)). with_front front
    (first >>= (λ one. numbers_at (length rest) one.1 >>= (λ others. Some (one.0 ∷ others)))))
    read

pub numbers_end : (front rest : List ℕ) → length rest ≡ 0
    → with_front front (numbers_at (length rest) rest) ≡ Some front
unfolding numbers_at
numbers_end front [] none = ap (λ (xs : List ℕ). Some xs) (append-nil front)
numbers_end front (byte ∷ rest) none = absurd (omega (arith, none))

-- ---- sets

pub set_begins : (atoms : ℕ) (numbers : List ℕ)
    → with_front (false ∷ []) (values_at (atoms - 0) 1 numbers) ≡ set_at atoms numbers
unfolding set_at
set_begins atoms numbers =
    let all : atoms - 0 ≡ atoms = omega arith in rw all (begun (values_at atoms 1 numbers))
  where
    begun : (values : Option (List Bool))
        → with_front (false ∷ []) values ≡ (values >>= (λ found. Some (false ∷ found)))
    begun None = refl
    begun (Some values) = refl

set_step : (front : List Bool) (count at : ℕ) (left : List ℕ)
    → with_front front (values_at (suc count) at left)
    ≡ with_front (front ++ begins_with at left ∷ [])
    (values_at count (at + 1) (without_first at left))
unfolding values_at
set_step front count at left =
    front_next front (begins_with at left) (values_at count (at + 1) (without_first at left))

pub set_next : (front : List Bool) (atoms place : ℕ) (left : List ℕ) → place < atoms
    → with_front front (values_at (atoms - place) (place + 1) left)
    ≡ with_front (front ++ begins_with (place + 1) left ∷ [])
    (values_at (atoms - (place + 1)) (place + 1 + 1) (without_first (place + 1) left))
set_next front atoms place left inside =
    let more : atoms - place ≡ suc (atoms - (place + 1)) = omega (arith, inside) in
    ap (λ (n : ℕ). with_front front (values_at n (place + 1) left)) more
    ∙ set_step front (atoms - (place + 1)) (place + 1) left

pub set_done : (front : List Bool) (atoms place at : ℕ) (left : List ℕ) → atoms ≤ place
    → length left ≡ 0 → with_front front (values_at (atoms - place) at left) ≡ Some front
unfolding values_at
set_done front atoms place at [] past none =
    let zero_left : atoms - place ≡ 0 = omega (arith, past) in
    rw zero_left (ap (λ (xs : List Bool). Some xs) (append-nil front))
set_done front atoms place at (first ∷ rest) past none = absurd (omega (arith, none))

pub set_over : (front : List Bool) (atoms place at : ℕ) (left : List ℕ) → atoms ≤ place
    → 1 ≤ length left → with_front front (values_at (atoms - place) at left) ≡ None
unfolding values_at
set_over front atoms place at [] past some = absurd (omega (arith, some))
set_over front atoms place at (first ∷ rest) past some =
    let zero_left : atoms - place ≡ 0 = omega (arith, past) in rw zero_left refl

-- ---- lines

-- what was read of a text so far
pub record ReadSoFar (atoms : ℕ) (names : List Named) (text : List ℕ) (lines : List Line)
    (rest : List ℕ) : Type 0 where
  pub each : AllByRecursion (IsLine atoms names) lines
  pub parts : text ≡ text_of_lines names lines ++ rest
  pub few : length lines + length rest ≤ length text

each_push : (atoms : ℕ) (names : List Named) (lines : List Line) (line : Line)
    → AllByRecursion (IsLine atoms names) lines → IsLine atoms names line
    → AllByRecursion (IsLine atoms names) (lines ++ line ∷ [])
each_push atoms names [] line each is = (is, tt)
each_push atoms names (first ∷ lines) line each is =
    (each.0, each_push atoms names lines line each.1 is)

pub first_shorter : (atoms : ℕ) (names : List Named) (text : List ℕ) (line : Line)
    (after : List ℕ) → first_at atoms names text ≡ Some (line, after)
    → length after + 1 ≤ length text
first_shorter atoms names text line after read =
    let took = first_takes atoms names text line after read in
    let words = words_of_line names line in
    let size : length text ≡ length (words ++ 10 ∷ [] ++ after) = ap length took.parts in
    let whole = length-append (words ++ 10 ∷ []) after in
    let front = length-append words (10 ∷ []) in
    omega (arith, size, whole, front)

pub read_more : (atoms : ℕ) (names : List Named) (text : List ℕ) (lines : List Line)
    (rest : List ℕ) (line : Line) (after : List ℕ) → ReadSoFar atoms names text lines rest
    → first_at atoms names rest ≡ Some (line, after)
    → ReadSoFar atoms names text (lines ++ line ∷ []) after
read_more atoms names text lines rest line after so_far read =
    let took = first_takes atoms names rest line after read in
    let shorter = first_shorter atoms names rest line after read in
    let size = length-append lines (line ∷ []) in
    record {
      each = each_push atoms names lines line so_far.each took.is;
      parts =
          so_far.parts
          ∙ ap (λ (r : List ℕ). text_of_lines names lines ++ r) took.parts
          ∙ sym (append_assoc (text_of_lines names lines) (text_of_line names line) after)
          ∙ ap (λ (t : List ℕ). t ++ after) (sym (text_of_lines_push names lines line));
      few = omega (arith, shorter, size, so_far.few);
    }

pub read_stops : (atoms : ℕ) (names : List Named) (text : List ℕ) (lines : List Line)
    (rest : List ℕ) → IsSmall atoms → AreOneLine names → ReadSoFar atoms names text lines rest
    → 1 ≤ length rest → first_at atoms names rest ≡ None
    → IsFirstWrong atoms names text (length lines + 1)
read_stops atoms names text lines rest few one_line so_far some read = record {
  before = lines;
  rest = rest;
  each = so_far.each;
  parts = so_far.parts;
  count = refl;
  some = λ none. omega (arith, some, ap length none);
  wrong = λ line after is same. no_some (line, after)
      (sym read ∙ ap (first_at atoms names) same
      ∙ first_again atoms names line after few one_line is);
}
