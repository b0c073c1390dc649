-- Lines: the words of a line read as the line, and what was read has these words.
use Rattle.std.proofs.Common.{◌≡◌, ℕ, ◌+◌, ◌<◌, ◌≤◌, ◌^◌, Bool, true, false, leb, cond}
use Rattle.std.proofs.Common.{◌&&◌, ◌⊎◌, inl, inr, List, [], ◌∷◌, ◌++◌, length, refl, sym, ap}
use Rattle.std.proofs.Common.{subst}
use Rattle.std.proofs.Common.{◌∙◌, arith, decimal, append_assoc, codes, append-nil}
use Rattle.std.specs.Prelude.{Option, Some, None, ⊤}
use Rattle.std.specs.Str.{bytes_eq}
use Rattle.std.proofs.lemmas.Bool.{le-leb, leb-true}
use Rattle.std.proofs.lemmas.Option.{same_Some}
use Rattle.std.proofs.lemmas.Slice.Eq.{bytes_eq-Decides}
use Rattle.ground_program.specs.declared.program.Named.{Named}
use Rattle.report.specs.declared.lines.Why.{Why}
use Rattle.report.specs.declared.lines.Line.{Line}
use Rattle.report.specs.declared.lines.Line.TheVariants as lines
use Rattle.report.specs.Text.{name_of, field, fields, positions_from, text_of_why, words_of_line}
use Rattle.report_reader.specs.declared.word_text.Word.{Word}
use Rattle.report_reader.specs.declared.word_text.Word.TheVariants as words
use Rattle.report_reader.specs.Lines.{IsSmall, IsSetOver, IsSmallCandidate, IsLine}
use Rattle.report_reader.specs.Reading.{◌>>=◌, before, onward, field_at, number_at, small_at}
use Rattle.report_reader.specs.Reading.{end_at, is_named, named_at, numbers_at, set_at}
use Rattle.report_reader.specs.Reading.{text_of_word, word_at, why_at, answer_at, in_at, out_at}
use Rattle.report_reader.specs.Reading.{open_at, pair_at, watch_at, unknown_at, refused_at}
use Rattle.report_reader.specs.Reading.{alone_at, form_at, line_at}
use Rattle.report_reader.proofs.FieldLemmas.{bind_is, chosen, no_some, both_true, Begins}
use Rattle.report_reader.proofs.FieldLemmas.{before_then, onward_then, split_parts, field_again}
use Rattle.report_reader.proofs.FieldLemmas.{field_takes, number_again, number_takes, Took}
use Rattle.report_reader.proofs.FieldLemmas.{small_again, small_takes, fields_begin, AreSmall}
use Rattle.report_reader.proofs.FieldLemmas.{numbers_again, numbers_take}
use Rattle.report_reader.proofs.SetLemmas.{positions_small, set_again, set_takes}
use Rattle.report_reader.proofs.WordLemmas.{word_again, word_takes, why_again, why_takes}
use Rattle.report_reader.proofs.WordLemmas.{word_lacks_blank, why_lacks_blank}

-- ---- steps

-- where the first part was read, the reading is what follows
pub step : {A B : Type 0} (first : Option A) (next : A → Option B) (item : A) (whole : Option B)
    → first ≡ Some item → next item ≡ whole → (first >>= next) ≡ whole
step first next item whole is more =
    ap (λ (read : Option _). read >>= next) is ∙ more

-- nothing stands behind
pub end_takes : (bytes : List ℕ) (end : ⊤) → end_at bytes ≡ Some end → bytes ≡ []
end_takes [] end e = refl
end_takes (byte ∷ bytes) end e = absurd (no_some end e)

-- ---- lines with a name

-- a candidate, a number and the name
abbrev pub named_text : List Named → ℕ → ℕ → List ℕ
named_text names cand number =
    field (decimal cand) ++ (field (decimal number) ++ field (name_of names cand))

named_group : (word : List ℕ) (names : List Named) (cand number : ℕ)
    → word ++ fields (cand ∷ number ∷ []) ++ field (name_of names cand)
    ≡ word ++ named_text names cand number
named_group word names cand number =
    let name = field (name_of names cand) in
    append_assoc word (fields (cand ∷ number ∷ [])) name
    ∙ ap (λ (r : List ℕ). word ++ r)
    (append_assoc (field (decimal cand)) (field (decimal number) ++ []) name
    ∙ ap (λ (r : List ℕ). field (decimal cand) ++ (r ++ name))
    (append-nil (field (decimal number))))

is_named_again : (names : List Named) (cand : ℕ) → IsSmallCandidate names cand
    → is_named names cand (field (name_of names cand)) ≡ true
is_named_again names cand fits =
    let first : leb 1 cand ≡ true = le-leb 1 cand fits.candidate.first in
    let last : leb cand (length names) ≡ true =
    le-leb cand (length names) fits.candidate.last in
    let name = field (name_of names cand) in
    let same : bytes_eq name name ≡ true = (bytes_eq-Decides name name).1 refl in
    rw (first, last, same) refl

pub named_again : (names : List Named) (cand number : ℕ) → IsSmallCandidate names cand
    → IsSmall number → named_at names (named_text names cand number) ≡ Some (cand, number)
unfolding named_at
named_again names cand number fits small =
    let name = field (name_of names cand) in
    let rest = field (decimal number) ++ name in
    step (small_at (named_text names cand number))
    (λ first. small_at first.1
    >>= (λ second. cond (is_named names first.0 second.1) (Some (first.0, second.0)) None))
    (cand, rest) (Some (cand, number)) (small_again cand rest fits.small refl)
    (step (small_at rest)
    (λ second. cond (is_named names cand second.1) (Some (cand, second.0)) None)
    (number, name) (Some (cand, number)) (small_again number name small refl)
    (ap (λ (b : Bool). cond b (Some (cand, number)) None) (is_named_again names cand fits)))

-- a candidate, a number and the name were read
pub record TookNamed (names : List Named) (bytes : List ℕ) (cand number : ℕ) : Type 0 where
  pub parts : bytes ≡ named_text names cand number
  pub fits : IsSmallCandidate names cand
  pub small : IsSmall number

named_step : (names : List Named) (bytes : List ℕ) (first second : ℕ × List ℕ)
    (cand number : ℕ) → Took (2 ^ 32) bytes first.0 first.1
    → Took (2 ^ 32) first.1 second.0 second.1
    → ((is_named names first.0 second.1 ≡ true)
    × ◌≡◌ {A = Option (ℕ × ℕ)} (Some (first.0, second.0)) (Some (cand, number)))
    ⊎ ((is_named names first.0 second.1 ≡ false)
    × ◌≡◌ {A = Option (ℕ × ℕ)} None (Some (cand, number)))
    → TookNamed names bytes cand number
named_step names bytes first second cand number took more (inr is) =
    absurd (no_some (cand, number) is.1)
named_step names bytes first second cand number took more (inl is) =
    let same = same_Some (first.0, second.0) (cand, number) is.1 in
    let cand_is : first.0 ≡ cand = ap (λ (p : ℕ × ℕ). p.0) same in
    let number_is : second.0 ≡ number = ap (λ (p : ℕ × ℕ). p.1) same in
    let front =
    both_true (leb 1 first.0 && leb first.0 (length names))
    (bytes_eq (field (name_of names first.0)) second.1) is.0 in
    let range = both_true (leb 1 first.0) (leb first.0 (length names)) front.0 in
    let name = (bytes_eq-Decides (field (name_of names first.0)) second.1).0 front.1 in
    subst (λ (c : ℕ). TookNamed names bytes c number) cand_is
    (subst (λ (n : ℕ). TookNamed names bytes first.0 n) number_is
    (record {
      parts =
          took.parts
          ∙ ap (λ (r : List ℕ). field (decimal first.0) ++ r)
          (more.parts ∙ ap (λ (r : List ℕ). field (decimal second.0) ++ r) (sym name));
      fits = record {
        candidate = record {
          first = leb-true 1 first.0 range.0;
          last = leb-true first.0 (length names) range.1;
        };
        small = took.fits;
      };
      small = more.fits;
    }))

pub named_takes : (names : List Named) (bytes : List ℕ) (cand number : ℕ)
    → named_at names bytes ≡ Some (cand, number) → TookNamed names bytes cand number
unfolding named_at
named_takes names bytes cand number e =
    let first =
    bind_is (small_at bytes)
    (λ first. small_at first.1
    >>= (λ second. cond (is_named names first.0 second.1) (Some (first.0, second.0)) None))
    (cand, number) e in
    let second =
    bind_is (small_at first.item.1)
    (λ second. cond (is_named names first.item.0 second.1) (Some (first.item.0, second.0)) None)
    (cand, number) first.leads in
    named_step names bytes first.item second.item cand number
    (small_takes bytes first.item.0 first.item.1 first.is)
    (small_takes first.item.1 second.item.0 second.item.1 second.is)
    (chosen (is_named names first.item.0 second.item.1)
    (Some (first.item.0, second.item.0)) None (Some (cand, number)) second.leads)

-- ---- each form again

-- the words are a word and bytes that read as the line
pub line_form : (atoms : ℕ) (names : List Named) (word : Word) (rest : List ℕ) (line : Option Line)
    → Begins 32 rest → form_at atoms names word rest ≡ line
    → line_at atoms names (text_of_word word ++ rest) ≡ line
unfolding line_at
line_form atoms names word rest line begins form =
    let text = text_of_word word in
    let front : before 32 (text ++ rest) ≡ text =
    before_then 32 text rest (word_lacks_blank word) begins in
    let back : onward 32 (text ++ rest) ≡ rest =
    onward_then 32 text rest (word_lacks_blank word) begins in
    ap
    (λ (t : List ℕ). word_at t
    >>= (λ found. form_at atoms names found (onward 32 (text ++ rest)))) front
    ∙ ap (λ (r : List ℕ). word_at text >>= (λ found. form_at atoms names found r)) back
    ∙ step (word_at text) (λ found. form_at atoms names found rest) word line (word_again word)
    form

answer_again : (atoms number : ℕ) (set : List Bool) → IsSmall atoms → IsSmall number
    → IsSetOver atoms set
    → answer_at atoms (fields (number ∷ positions_from 0 set)) ≡ Some (lines.Answer number set)
unfolding answer_at
answer_again atoms number set few small over =
    let positions = positions_from 0 set in
    let smalls : AreSmall positions =
    positions_small 0 set (omega (arith, few, over.size)) in
    step (small_at (fields (number ∷ positions)))
    (λ first. numbers_at (length first.1) first.1
    >>= (λ numbers. set_at atoms numbers >>= (λ found. Some (lines.Answer first.0 found))))
    (number, fields positions) (Some (lines.Answer number set))
    (small_again number (fields positions) small (fields_begin positions))
    (step (numbers_at (length (fields positions)) (fields positions))
    (λ numbers. set_at atoms numbers >>= (λ found. Some (lines.Answer number found)))
    positions (Some (lines.Answer number set))
    (numbers_again (length (fields positions)) positions smalls (fields_long positions))
    (step (set_at atoms positions) (λ found. Some (lines.Answer number found)) set
    (Some (lines.Answer number set)) (set_again atoms set over) refl))
  where
    length_append : (one two : List ℕ) → length (one ++ two) ≡ length one + length two
    length_append [] two = omega arith
    length_append (byte ∷ one) two = let more = length_append one two in omega (arith, more)

    fields_long : (numbers : List ℕ) → length numbers ≤ length (fields numbers)
    fields_long [] = omega arith
    fields_long (number ∷ numbers) =
        let more = fields_long numbers in
        let size = length_append (decimal number) (fields numbers) in
        omega (arith, more, size)

pair_again : (lower upper : ℕ) → IsSmall lower → IsSmall upper
    → pair_at (fields (lower ∷ upper ∷ [])) ≡ Some (lines.Sizes lower upper)
unfolding pair_at
pair_again lower upper small also =
    let whole = Some (lines.Sizes lower upper) in
    step (small_at (fields (lower ∷ upper ∷ [])))
    (λ first. small_at first.1
    >>= (λ second. end_at second.1 >>= (λ end. Some (lines.Sizes first.0 second.0))))
    (lower, fields (upper ∷ [])) whole (small_again lower (fields (upper ∷ [])) small refl)
    (step (small_at (fields (upper ∷ [])))
    (λ second. end_at second.1 >>= (λ end. Some (lines.Sizes lower second.0)))
    (upper, []) whole (small_again upper [] also tt) refl)

watch_again : (watcher lower upper : ℕ) → IsSmall watcher → IsSmall lower → IsSmall upper
    → watch_at (fields (watcher ∷ lower ∷ upper ∷ []))
    ≡ Some (lines.Watch watcher lower upper)
unfolding watch_at
watch_again watcher lower upper small also third =
    let whole = Some (lines.Watch watcher lower upper) in
    step (small_at (fields (watcher ∷ lower ∷ upper ∷ [])))
    (λ zeroth. small_at zeroth.1
    >>= (λ first. small_at first.1
    >>= (λ second. end_at second.1
    >>= (λ end. Some (lines.Watch zeroth.0 first.0 second.0)))))
    (watcher, fields (lower ∷ upper ∷ [])) whole
    (small_again watcher (fields (lower ∷ upper ∷ [])) small refl)
    (step (small_at (fields (lower ∷ upper ∷ [])))
    (λ first. small_at first.1
    >>= (λ second. end_at second.1 >>= (λ end. Some (lines.Watch watcher first.0 second.0))))
    (lower, fields (upper ∷ [])) whole (small_again lower (fields (upper ∷ [])) also refl)
    (step (small_at (fields (upper ∷ [])))
    (λ second. end_at second.1 >>= (λ end. Some (lines.Watch watcher lower second.0)))
    (upper, []) whole (small_again upper [] third tt) refl))

unknown_again : (units : ℕ) → IsSmall units
    → unknown_at (fields (units ∷ [])) ≡ Some (lines.Unknown units)
unfolding unknown_at
unknown_again units small =
    step (small_at (fields (units ∷ [])))
    (λ first. end_at first.1 >>= (λ end. Some (lines.Unknown first.0)))
    (units, []) (Some (lines.Unknown units)) (small_again units [] small tt) refl

-- the number of a line, the word of a refusal and its value
abbrev refused_text : ℕ → Why → ℕ → List ℕ
refused_text line why value =
    field (decimal line) ++ (field (text_of_why why) ++ (field (decimal value) ++ []))

refused_group : (word : List ℕ) (line : ℕ) (why : Why) (value : ℕ)
    → word ++ fields (line ∷ []) ++ field (text_of_why why) ++ field (decimal value)
    ≡ word ++ refused_text line why value
refused_group word line why value =
    let text = field (text_of_why why) in
    let last = field (decimal value) in
    append_assoc (word ++ fields (line ∷ [])) text last
    ∙ append_assoc word (fields (line ∷ [])) (text ++ last)
    ∙ ap (λ (r : List ℕ). word ++ r)
    (ap (λ (r : List ℕ). r ++ (text ++ last)) (append-nil (field (decimal line)))
    ∙ ap (λ (r : List ℕ). field (decimal line) ++ (text ++ r)) (sym (append-nil last)))

refused_again : (line : ℕ) (why : Why) (value : ℕ) → IsSmall line → value < 2 ^ 64
    → refused_at (refused_text line why value) ≡ Some (lines.Refused line why value)
unfolding refused_at
refused_again line why value small fits =
    let whole = Some (lines.Refused line why value) in
    let last = field (decimal value) ++ [] in
    let middle = field (text_of_why why) ++ last in
    step (small_at (refused_text line why value))
    (λ first. field_at first.1
    >>= (λ text. why_at text.0
    >>= (λ cause. number_at text.1
    >>= (λ number. end_at number.1
    >>= (λ end. Some (lines.Refused first.0 cause number.0))))))
    (line, middle) whole (small_again line middle small refl)
    (step (field_at middle)
    (λ text. why_at text.0
    >>= (λ cause. number_at text.1
    >>= (λ number. end_at number.1 >>= (λ end. Some (lines.Refused line cause number.0)))))
    (text_of_why why, last) whole
    (field_again (text_of_why why) last (why_lacks_blank why) refl)
    (step (why_at (text_of_why why))
    (λ cause. number_at last
    >>= (λ number. end_at number.1 >>= (λ end. Some (lines.Refused line cause number.0))))
    why whole (why_again why)
    (step (number_at last)
    (λ number. end_at number.1 >>= (λ end. Some (lines.Refused line why number.0)))
    (value, []) whole (number_again value [] fits tt) refl)))

in_again : (names : List Named) (cand by : ℕ) → IsSmallCandidate names cand → IsSmall by
    → in_at names (named_text names cand by) ≡ Some (lines.SettledIn cand by)
unfolding in_at
in_again names cand by fits small =
    step (named_at names (named_text names cand by))
    (λ named. Some (lines.SettledIn named.0 named.1)) (cand, by)
    (Some (lines.SettledIn cand by)) (named_again names cand by fits small) refl

out_again : (names : List Named) (cand by : ℕ) → IsSmallCandidate names cand → IsSmall by
    → out_at names (named_text names cand by) ≡ Some (lines.SettledOut cand by)
unfolding out_at
out_again names cand by fits small =
    step (named_at names (named_text names cand by))
    (λ named. Some (lines.SettledOut named.0 named.1)) (cand, by)
    (Some (lines.SettledOut cand by)) (named_again names cand by fits small) refl

open_again : (names : List Named) (cand by : ℕ) → IsSmallCandidate names cand → IsSmall by
    → open_at names (named_text names cand by) ≡ Some (lines.Unsettled cand by)
unfolding open_at
open_again names cand by fits small =
    step (named_at names (named_text names cand by))
    (λ named. Some (lines.Unsettled named.0 named.1)) (cand, by)
    (Some (lines.Unsettled cand by)) (named_again names cand by fits small) refl

-- a line that is its word alone
alone_again : (atoms : ℕ) (names : List Named) (word : Word) (line : Line)
    → form_at atoms names word [] ≡ Some line
    → line_at atoms names (text_of_word word) ≡ Some line
alone_again atoms names word line form =
    ap (line_at atoms names) (sym (append-nil (text_of_word word)))
    ∙ line_form atoms names word [] (Some line) tt form

alone_form : (line : Line) → alone_at line [] ≡ Some line
unfolding alone_at
alone_form line = refl

-- the words of each line read as the line
pub line_again : (atoms : ℕ) (names : List Named) (line : Line) → IsSmall atoms
    → IsLine atoms names line → line_at atoms names (words_of_line names line) ≡ Some line
line_again atoms names (lines.Answer number set) few is =
    line_form atoms names words.Answer (fields (number ∷ positions_from 0 set))
    (Some (lines.Answer number set)) refl (answer_again atoms number set few is.0 is.1)
line_again atoms names (lines.SettledIn cand by) few is =
    ap (line_at atoms names) (named_group (codes "IN") names cand by)
    ∙ line_form atoms names words.In (named_text names cand by)
    (Some (lines.SettledIn cand by)) refl (in_again names cand by is.0 is.1)
line_again atoms names (lines.SettledOut cand by) few is =
    ap (line_at atoms names) (named_group (codes "OUT") names cand by)
    ∙ line_form atoms names words.Out (named_text names cand by)
    (Some (lines.SettledOut cand by)) refl (out_again names cand by is.0 is.1)
line_again atoms names (lines.Sizes lower upper) few is =
    line_form atoms names words.Pair (fields (lower ∷ upper ∷ []))
    (Some (lines.Sizes lower upper)) refl (pair_again lower upper is.0 is.1)
line_again atoms names (lines.Watch watcher lower upper) few is =
    line_form atoms names words.Watch (fields (watcher ∷ lower ∷ upper ∷ []))
    (Some (lines.Watch watcher lower upper)) refl
    (watch_again watcher lower upper is.0 is.1 is.2)
line_again atoms names (lines.Unsettled cand units) few is =
    ap (line_at atoms names) (named_group (codes "OPEN") names cand units)
    ∙ line_form atoms names words.Open (named_text names cand units)
    (Some (lines.Unsettled cand units)) refl (open_again names cand units is.0 is.1)
line_again atoms names (lines.Unknown units) few is =
    line_form atoms names words.Unknown (fields (units ∷ []))
    (Some (lines.Unknown units)) refl (unknown_again units is)
line_again atoms names lines.Complete few is =
    alone_again atoms names words.Complete lines.Complete (alone_form lines.Complete)
line_again atoms names lines.Partial few is =
    alone_again atoms names words.Partial lines.Partial (alone_form lines.Partial)
line_again atoms names lines.Incoherent few is =
    alone_again atoms names words.Incoherent lines.Incoherent (alone_form lines.Incoherent)
line_again atoms names lines.NoMemory few is =
    alone_again atoms names words.NoMemory lines.NoMemory (alone_form lines.NoMemory)
line_again atoms names (lines.Refused line why value) few is =
    ap (line_at atoms names) (refused_group (codes "REFUSED") line why value)
    ∙ line_form atoms names words.Refused (refused_text line why value)
    (Some (lines.Refused line why value)) refl (refused_again line why value is.0 is.1)

-- ---- what was read

-- a line was read whose words these are
pub record TookLine (atoms : ℕ) (names : List Named) (words : List ℕ) (line : Line) : Type 0 where
  pub is : IsLine atoms names line
  pub same : words_of_line names line ≡ words

-- where two lines are one
one_line : {atoms : ℕ} {names : List Named} {words : List ℕ} {line : Line} (made : Line)
    → Some made ≡ Some line → TookLine atoms names words made → TookLine atoms names words line
one_line {atoms} {names} {words} {line} made same took =
    subst (λ (l : Line). TookLine atoms names words l) (same_Some made line same) took

answer_takes : (atoms : ℕ) (names : List Named) (bytes : List ℕ) (line : Line)
    → answer_at atoms bytes ≡ Some line
    → TookLine atoms names (codes "ANSWER" ++ bytes) line
unfolding answer_at
answer_takes atoms names bytes line e =
    let first =
    bind_is (small_at bytes)
    (λ first. numbers_at (length first.1) first.1
    >>= (λ numbers. set_at atoms numbers >>= (λ found. Some (lines.Answer first.0 found))))
    line e in
    let rest = first.item.1 in
    let numbers =
    bind_is (numbers_at (length rest) rest)
    (λ numbers. set_at atoms numbers >>= (λ found. Some (lines.Answer first.item.0 found)))
    line first.leads in
    let set =
    bind_is (set_at atoms numbers.item) (λ found. Some (lines.Answer first.item.0 found)) line
    numbers.leads in
    let took = small_takes bytes first.item.0 rest first.is in
    let all = numbers_take (length rest) rest numbers.item numbers.is in
    let made = set_takes atoms numbers.item set.item set.is in
    one_line (lines.Answer first.item.0 set.item) set.leads
    (record {
      is = (took.fits, made.over);
      same =
          ap (λ (ps : List ℕ). codes "ANSWER" ++ fields (first.item.0 ∷ ps)) made.positions
          ∙ ap (λ (r : List ℕ). codes "ANSWER" ++ (field (decimal first.item.0) ++ r))
          (sym all.parts)
          ∙ ap (λ (r : List ℕ). codes "ANSWER" ++ r) (sym took.parts);
    })

in_takes : (atoms : ℕ) (names : List Named) (bytes : List ℕ) (line : Line)
    → in_at names bytes ≡ Some line → TookLine atoms names (codes "IN" ++ bytes) line
unfolding in_at
in_takes atoms names bytes line e =
    let named =
    bind_is (named_at names bytes) (λ named. Some (lines.SettledIn named.0 named.1)) line e in
    let took = named_takes names bytes named.item.0 named.item.1 named.is in
    one_line (lines.SettledIn named.item.0 named.item.1) named.leads
    (record {
      is = (took.fits, took.small);
      same =
          named_group (codes "IN") names named.item.0 named.item.1
          ∙ ap (λ (r : List ℕ). codes "IN" ++ r) (sym took.parts);
    })

out_takes : (atoms : ℕ) (names : List Named) (bytes : List ℕ) (line : Line)
    → out_at names bytes ≡ Some line → TookLine atoms names (codes "OUT" ++ bytes) line
unfolding out_at
out_takes atoms names bytes line e =
    let named =
    bind_is (named_at names bytes) (λ named. Some (lines.SettledOut named.0 named.1)) line e in
    let took = named_takes names bytes named.item.0 named.item.1 named.is in
    one_line (lines.SettledOut named.item.0 named.item.1) named.leads
    (record {
      is = (took.fits, took.small);
      same =
          named_group (codes "OUT") names named.item.0 named.item.1
          ∙ ap (λ (r : List ℕ). codes "OUT" ++ r) (sym took.parts);
    })

open_takes : (atoms : ℕ) (names : List Named) (bytes : List ℕ) (line : Line)
    → open_at names bytes ≡ Some line → TookLine atoms names (codes "OPEN" ++ bytes) line
unfolding open_at
open_takes atoms names bytes line e =
    let named =
    bind_is (named_at names bytes) (λ named. Some (lines.Unsettled named.0 named.1)) line e in
    let took = named_takes names bytes named.item.0 named.item.1 named.is in
    one_line (lines.Unsettled named.item.0 named.item.1) named.leads
    (record {
      is = (took.fits, took.small);
      same =
          named_group (codes "OPEN") names named.item.0 named.item.1
          ∙ ap (λ (r : List ℕ). codes "OPEN" ++ r) (sym took.parts);
    })

-- a last number and the end
last_parts : {limit : ℕ} (bytes : List ℕ) (number : ℕ) (rest : List ℕ) (end : ⊤)
    → Took limit bytes number rest → end_at rest ≡ Some end → bytes ≡ field (decimal number) ++ []
last_parts bytes number rest end took ends =
    took.parts ∙ ap (λ (r : List ℕ). field (decimal number) ++ r) (end_takes rest end ends)

pair_takes : (atoms : ℕ) (names : List Named) (bytes : List ℕ) (line : Line)
    → pair_at bytes ≡ Some line → TookLine atoms names (codes "PAIR" ++ bytes) line
unfolding pair_at
pair_takes atoms names bytes line e =
    let first =
    bind_is (small_at bytes)
    (λ first. small_at first.1
    >>= (λ second. end_at second.1 >>= (λ end. Some (lines.Sizes first.0 second.0)))) line e in
    let second =
    bind_is (small_at first.item.1)
    (λ second. end_at second.1 >>= (λ end. Some (lines.Sizes first.item.0 second.0))) line
    first.leads in
    let end =
    bind_is (end_at second.item.1) (λ end. Some (lines.Sizes first.item.0 second.item.0)) line
    second.leads in
    let took = small_takes bytes first.item.0 first.item.1 first.is in
    let more = small_takes first.item.1 second.item.0 second.item.1 second.is in
    one_line (lines.Sizes first.item.0 second.item.0) end.leads
    (record {
      is = (took.fits, more.fits);
      same =
          sym
          (ap (λ (r : List ℕ). codes "PAIR" ++ r)
          (took.parts
          ∙ ap (λ (r : List ℕ). field (decimal first.item.0) ++ r)
          (last_parts first.item.1 second.item.0 second.item.1 end.item more end.is)));
    })

watch_takes : (atoms : ℕ) (names : List Named) (bytes : List ℕ) (line : Line)
    → watch_at bytes ≡ Some line → TookLine atoms names (codes "WATCH" ++ bytes) line
unfolding watch_at
watch_takes atoms names bytes line e =
    let zeroth =
    bind_is (small_at bytes)
    (λ zeroth. small_at zeroth.1
    >>= (λ first. small_at first.1
    >>= (λ second. end_at second.1
    >>= (λ end. Some (lines.Watch zeroth.0 first.0 second.0))))) line e in
    let first =
    bind_is (small_at zeroth.item.1)
    (λ first. small_at first.1
    >>= (λ second. end_at second.1
    >>= (λ end. Some (lines.Watch zeroth.item.0 first.0 second.0)))) line zeroth.leads in
    let second =
    bind_is (small_at first.item.1)
    (λ second. end_at second.1
    >>= (λ end. Some (lines.Watch zeroth.item.0 first.item.0 second.0))) line first.leads in
    let end =
    bind_is (end_at second.item.1)
    (λ end. Some (lines.Watch zeroth.item.0 first.item.0 second.item.0)) line second.leads in
    let before = small_takes bytes zeroth.item.0 zeroth.item.1 zeroth.is in
    let took = small_takes zeroth.item.1 first.item.0 first.item.1 first.is in
    let more = small_takes first.item.1 second.item.0 second.item.1 second.is in
    one_line (lines.Watch zeroth.item.0 first.item.0 second.item.0) end.leads
    (record {
      is = (before.fits, took.fits, more.fits);
      same =
          sym
          (ap (λ (r : List ℕ). codes "WATCH" ++ r)
          (before.parts
          ∙ ap (λ (r : List ℕ). field (decimal zeroth.item.0) ++ r)
          (took.parts
          ∙ ap (λ (r : List ℕ). field (decimal first.item.0) ++ r)
          (last_parts first.item.1 second.item.0 second.item.1 end.item more end.is))));
    })

unknown_takes : (atoms : ℕ) (names : List Named) (bytes : List ℕ) (line : Line)
    → unknown_at bytes ≡ Some line → TookLine atoms names (codes "UNKNOWN" ++ bytes) line
unfolding unknown_at
unknown_takes atoms names bytes line e =
    let first =
    bind_is (small_at bytes) (λ first. end_at first.1 >>= (λ end. Some (lines.Unknown first.0)))
    line e in
    let end =
    bind_is (end_at first.item.1) (λ end. Some (lines.Unknown first.item.0)) line first.leads in
    let took = small_takes bytes first.item.0 first.item.1 first.is in
    one_line (lines.Unknown first.item.0) end.leads
    (record {
      is = took.fits;
      same =
          sym
          (ap (λ (r : List ℕ). codes "UNKNOWN" ++ r)
          (last_parts bytes first.item.0 first.item.1 end.item took end.is));
    })

refused_takes : (atoms : ℕ) (names : List Named) (bytes : List ℕ) (line : Line)
    → refused_at bytes ≡ Some line → TookLine atoms names (codes "REFUSED" ++ bytes) line
unfolding refused_at
refused_takes atoms names bytes line e =
    let first =
    bind_is (small_at bytes)
    (λ first. field_at first.1
    >>= (λ text. why_at text.0
    >>= (λ cause. number_at text.1
    >>= (λ number. end_at number.1
    >>= (λ end. Some (lines.Refused first.0 cause number.0)))))) line e in
    let text =
    bind_is (field_at first.item.1)
    (λ text. why_at text.0
    >>= (λ cause. number_at text.1
    >>= (λ number. end_at number.1
    >>= (λ end. Some (lines.Refused first.item.0 cause number.0))))) line first.leads in
    let cause =
    bind_is (why_at text.item.0)
    (λ cause. number_at text.item.1
    >>= (λ number. end_at number.1
    >>= (λ end. Some (lines.Refused first.item.0 cause number.0)))) line text.leads in
    let number =
    bind_is (number_at text.item.1)
    (λ number. end_at number.1
    >>= (λ end. Some (lines.Refused first.item.0 cause.item number.0))) line cause.leads in
    let end =
    bind_is (end_at number.item.1)
    (λ end. Some (lines.Refused first.item.0 cause.item number.item.0)) line number.leads in
    let took = small_takes bytes first.item.0 first.item.1 first.is in
    let field_is = field_takes first.item.1 text.item.0 text.item.1 text.is in
    let cause_is = why_takes text.item.0 cause.item cause.is in
    let value = number_takes text.item.1 number.item.0 number.item.1 number.is in
    one_line (lines.Refused first.item.0 cause.item number.item.0) end.leads
    (record {
      is = (took.fits, value.fits);
      same =
          refused_group (codes "REFUSED") first.item.0 cause.item number.item.0
          ∙ sym
          (ap (λ (r : List ℕ). codes "REFUSED" ++ r)
          (took.parts
          ∙ ap (λ (r : List ℕ). field (decimal first.item.0) ++ r)
          (field_is
          ∙ ap (λ (t : List ℕ). field t ++ text.item.1) cause_is
          ∙ ap (λ (r : List ℕ). field (text_of_why cause.item) ++ r)
          (last_parts text.item.1 number.item.0 number.item.1 end.item value end.is))));
    })

-- the word alone
alone_takes : (atoms : ℕ) (names : List Named) (text bytes : List ℕ) (alone line : Line)
    → IsLine atoms names alone → words_of_line names alone ≡ text
    → alone_at alone bytes ≡ Some line → TookLine atoms names (text ++ bytes) line
unfolding alone_at
alone_takes atoms names text bytes alone line is words_are e =
    let end = bind_is (end_at bytes) (λ end. Some alone) line e in
    one_line alone end.leads
    (record {
      is = is;
      same =
          words_are ∙ sym (append-nil text)
          ∙ ap (λ (r : List ℕ). text ++ r) (sym (end_takes bytes end.item end.is));
    })

form_takes : (atoms : ℕ) (names : List Named) (word : Word) (bytes : List ℕ) (line : Line)
    → form_at atoms names word bytes ≡ Some line
    → TookLine atoms names (text_of_word word ++ bytes) line
form_takes atoms names words.Answer bytes line e = answer_takes atoms names bytes line e
form_takes atoms names words.In bytes line e = in_takes atoms names bytes line e
form_takes atoms names words.Out bytes line e = out_takes atoms names bytes line e
form_takes atoms names words.Pair bytes line e = pair_takes atoms names bytes line e
form_takes atoms names words.Watch bytes line e = watch_takes atoms names bytes line e
form_takes atoms names words.Open bytes line e = open_takes atoms names bytes line e
form_takes atoms names words.Unknown bytes line e = unknown_takes atoms names bytes line e
form_takes atoms names words.Complete bytes line e =
    alone_takes atoms names (codes "COMPLETE") bytes lines.Complete line tt refl e
form_takes atoms names words.Partial bytes line e =
    alone_takes atoms names (codes "PARTIAL") bytes lines.Partial line tt refl e
form_takes atoms names words.Incoherent bytes line e =
    alone_takes atoms names (codes "INCOHERENT") bytes lines.Incoherent line tt refl e
form_takes atoms names words.NoMemory bytes line e =
    alone_takes atoms names (codes "NOMEMORY") bytes lines.NoMemory line tt refl e
form_takes atoms names words.Refused bytes line e = refused_takes atoms names bytes line e

-- what is read of words is a line with these words
pub line_takes : (atoms : ℕ) (names : List Named) (words : List ℕ) (line : Line)
    → line_at atoms names words ≡ Some line → TookLine atoms names words line
unfolding line_at
line_takes atoms names words line e =
    let word =
    bind_is (word_at (before 32 words)) (λ word. form_at atoms names word (onward 32 words))
    line e in
    let took = form_takes atoms names word.item (onward 32 words) line word.leads in
    record {
      is = took.is;
      same =
          took.same
          ∙ ap (λ (t : List ℕ). t ++ onward 32 words)
          (sym (word_takes (before 32 words) word.item word.is))
          ∙ sym (split_parts 32 words);
    }
