-- Words: each is known by its text.
use Rattle.std.proofs.Common.{◌≡◌, ℕ, Bool, true, false, eqb, not, ◌&&◌, ◌⊎◌, inl, inr, List}
use Rattle.std.proofs.Common.{[], ◌∷◌, length, refl, ap, ◌∙◌}
use Rattle.std.specs.Prelude.{Some, find}
use Rattle.std.specs.Str.{bytes_eq}
use Rattle.std.proofs.lemmas.Option.{same_Some}
use Rattle.std.proofs.lemmas.Slice.Eq.{bytes_eq-Decides, text_from_reads}
use Rattle.std.proofs.lemmas.Slice.Eq.{HasBytesAt}
use Rattle.report.specs.declared.lines.Why.{Why}
use Rattle.report.specs.declared.lines.Why.TheVariants as whys
use Rattle.report.specs.Text.{text_of_why}
use Rattle.report_reader.specs.declared.word_text.Word.{Word}
use Rattle.report_reader.specs.declared.word_text.Word.TheVariants.{Answer, In, Out, Pair, Watch}
use Rattle.report_reader.specs.declared.word_text.Word.TheVariants.{Open, Unknown, Complete}
use Rattle.report_reader.specs.declared.word_text.Word.TheVariants.{Partial, Incoherent, NoMemory}
use Rattle.report_reader.specs.declared.word_text.Word.TheVariants.{Refused}
use Rattle.report_reader.specs.Reading.{text_of_word, word_at, why_at, all_words, all_whys}
use Rattle.report_reader.proofs.FieldLemmas.{Lacks, chosen, no_some, both_true}

-- what is found passes the test
found_step : {A : Type 0} (test : A → Bool) (first : A) (rest : List A) (item : A)
    → ((test first ≡ true) × (Some first ≡ Some item))
    ⊎ ((test first ≡ false) × (find test rest ≡ Some item))
    → (find test rest ≡ Some item → test item ≡ true) → test item ≡ true
found_step test first rest item (inl is) more =
    ap test (same_Some item first (sym_of is.1)) ∙ is.0
  where
    sym_of : {B : Type 0} {x y : B} → Some x ≡ Some y → Some y ≡ Some x
    sym_of e = cc
found_step test first rest item (inr is) more = more is.1

found_passes : {A : Type 0} (test : A → Bool) (items : List A) (item : A)
    → find test items ≡ Some item → test item ≡ true
found_passes test [] item e = absurd (no_some item e)
found_passes test (first ∷ rest) item e =
    found_step test first rest item
    (chosen (test first) (Some first) (find test rest) (Some item) e)
    (found_passes test rest item)

pub word_takes : (text : List ℕ) (word : Word) → word_at text ≡ Some word
    → text ≡ text_of_word word
unfolding word_at
word_takes text word e =
    (bytes_eq-Decides text (text_of_word word)).0
    (found_passes (λ (each : Word). bytes_eq text (text_of_word each)) all_words word e)

pub why_takes : (text : List ℕ) (why : Why) → why_at text ≡ Some why → text ≡ text_of_why why
unfolding why_at
why_takes text why e =
    (bytes_eq-Decides text (text_of_why why)).0
    (found_passes (λ (each : Why). bytes_eq text (text_of_why each)) all_whys why e)

pub word_again : (word : Word) → word_at (text_of_word word) ≡ Some word
unfolding word_at
word_again Answer = refl
word_again In = refl
word_again Out = refl
word_again Pair = refl
word_again Watch = refl
word_again Open = refl
word_again Unknown = refl
word_again Complete = refl
word_again Partial = refl
word_again Incoherent = refl
word_again NoMemory = refl
word_again Refused = refl

pub why_again : (why : Why) → why_at (text_of_why why) ≡ Some why
unfolding why_at
why_again whys.NotANumber = refl
why_again whys.UnknownKind = refl
why_again whys.MinimizeRule = refl
why_again whys.AtomZero = refl
why_again whys.NumberTooLarge = refl
why_again whys.NegativeCount = refl
why_again whys.MissingMark = refl
why_again whys.ExternalSection = refl
why_again whys.NameMissing = refl
why_again whys.EndOfInput = refl
why_again whys.TrailingText = refl
why_again whys.TooLong = refl
why_again whys.ReadFault = refl
why_again whys.TooManyVariables = refl
why_again whys.Words = refl

-- whether a text has no such byte
abbrev lacks : ℕ → List ℕ → Bool
lacks end [] = true
lacks end (byte ∷ text) = not (eqb byte end) && lacks end text

lacks_first : (first others : Bool) → (not first && others) ≡ true
    → (first ≡ false) × (others ≡ true)
lacks_first true others e = absurd cc
lacks_first false others e = (refl, e)

lacks_told : (end : ℕ) (text : List ℕ) → lacks end text ≡ true → Lacks end text
lacks_told end [] e = tt
lacks_told end (byte ∷ text) e =
    let parts = lacks_first (eqb byte end) (lacks end text) e in
    (parts.0, lacks_told end text parts.1)

word_plain : (word : Word) → (lacks 32 (text_of_word word) && lacks 10 (text_of_word word)) ≡ true
word_plain Answer = refl
word_plain In = refl
word_plain Out = refl
word_plain Pair = refl
word_plain Watch = refl
word_plain Open = refl
word_plain Unknown = refl
word_plain Complete = refl
word_plain Partial = refl
word_plain Incoherent = refl
word_plain NoMemory = refl
word_plain Refused = refl

why_plain : (why : Why) → (lacks 32 (text_of_why why) && lacks 10 (text_of_why why)) ≡ true
why_plain whys.NotANumber = refl
why_plain whys.UnknownKind = refl
why_plain whys.MinimizeRule = refl
why_plain whys.AtomZero = refl
why_plain whys.NumberTooLarge = refl
why_plain whys.NegativeCount = refl
why_plain whys.MissingMark = refl
why_plain whys.ExternalSection = refl
why_plain whys.NameMissing = refl
why_plain whys.EndOfInput = refl
why_plain whys.TrailingText = refl
why_plain whys.TooLong = refl
why_plain whys.ReadFault = refl
why_plain whys.TooManyVariables = refl
why_plain whys.Words = refl

-- a word has no blank and no line feed
pub word_lacks_blank : (word : Word) → Lacks 32 (text_of_word word)
word_lacks_blank word =
    lacks_told 32 (text_of_word word)
    (both_true (lacks 32 (text_of_word word)) (lacks 10 (text_of_word word)) (word_plain word)).0

pub word_lacks_feed : (word : Word) → Lacks 10 (text_of_word word)
word_lacks_feed word =
    lacks_told 10 (text_of_word word)
    (both_true (lacks 32 (text_of_word word)) (lacks 10 (text_of_word word)) (word_plain word)).1

pub why_lacks_blank : (why : Why) → Lacks 32 (text_of_why why)
why_lacks_blank why =
    lacks_told 32 (text_of_why why)
    (both_true (lacks 32 (text_of_why why)) (lacks 10 (text_of_why why)) (why_plain why)).0

pub why_lacks_feed : (why : Why) → Lacks 10 (text_of_why why)
why_lacks_feed why =
    lacks_told 10 (text_of_why why)
    (both_true (lacks 32 (text_of_why why)) (lacks 10 (text_of_why why)) (why_plain why)).1

-- a text with the length and the bytes of a word is that word's
pub word_reads : (text : List ℕ) (word : Word) → length text ≡ length (text_of_word word)
    → HasBytesAt text 0 (text_of_word word) → word_at text ≡ Some word
word_reads text word size bytes =
    ap word_at (text_from_reads text (text_of_word word) size bytes) ∙ word_again word

pub why_reads : (text : List ℕ) (why : Why) → length text ≡ length (text_of_why why)
    → HasBytesAt text 0 (text_of_why why) → why_at text ≡ Some why
why_reads text why size bytes =
    ap why_at (text_from_reads text (text_of_why why) size bytes) ∙ why_again why
