-- A whole text follows what is due in it.
use Rattle.std.proofs.Common.{◌≡◌, ℕ, ◌^◌, ◌<◌, Bool, true, false, eqb, List, [], ◌∷◌, ◌++◌, length}
use Rattle.std.proofs.Common.{Result, Ok, Err, refl, sym, ap, ◌∙◌, arith, inl, inr}
use Rattle.std.proofs.lemmas.Bool.{eqb-true, eqb-false}
use Rattle.ground_program.specs.declared.program.Rule.{Rule}
use Rattle.ground_program.specs.declared.program.Named.{Named}
use Rattle.ground_program.specs.declared.program.Program.{Program}
use Rattle.lparse_reader.specs.declared.fault.Fault.{Fault}
use Rattle.lparse_reader.specs.declared.fault.Fault.TheVariants.{Ended, At}
use Rattle.lparse_reader.specs.declared.fault.TextFault.TheVariants.{MissingMark, ExternalSection}
use Rattle.lparse_reader.specs.declared.fault.TextFault.TheVariants.{TrailingText}
use Rattle.lparse_reader.specs.Tokens.{skipped, is_token_end}
use Rattle.lparse_reader.specs.Fields.{◌>>=◌, number_at, atom_or_end_at, entry_or_end_at, is_mark}
use Rattle.lparse_reader.specs.Fields.{after_two, mark_here, mark_at, is_external, models_at}
use Rattle.lparse_reader.specs.Fields.{end_here, end_at}
use Rattle.lparse_reader.specs.Reading.{rule_or_end_at, all_at, program_at}
use Rattle.lparse_reader.specs.Pieces.{number, entry, mark, IsGap, rule_items}
use Rattle.lparse_reader.specs.Due.{Due, rules, entries, sign, atoms, models, whole}
use Rattle.lparse_reader.specs.Refuses.{TokenBegins}
use Rattle.lparse_reader.specs.Refuses.{NoToken, External, Trailing, FailsAt, Breaks}
use Rattle.lparse_reader.proofs.lemmas.Pieces.NumberPieces.{bind_ok, chosen, both, skipped_gap}
use Rattle.lparse_reader.proofs.lemmas.Pieces.NumberPieces.{skipped_token}
use Rattle.lparse_reader.proofs.lemmas.Pieces.NumberPieces.{skips, token_begins}
use Rattle.lparse_reader.proofs.lemmas.Pieces.RowPieces.{row_shrinks}
use Rattle.lparse_reader.proofs.lemmas.Pieces.FieldPieces.{atoms_read, mark_stands, mark_again}
use Rattle.lparse_reader.proofs.lemmas.Pieces.FieldPieces.{models_stands}
use Rattle.lparse_reader.proofs.lemmas.Pieces.FieldPieces.{end_stands}
use Rattle.lparse_reader.proofs.lemmas.Pieces.EntryPieces.{entries_read}
use Rattle.lparse_reader.proofs.lemmas.Pieces.RuleAgain.{rules_read}
use Rattle.lparse_reader.proofs.lemmas.Pieces.WholePieces.{after_end, after_models, after_must_not}
use Rattle.lparse_reader.proofs.lemmas.Pieces.WholePieces.{after_minus}
use Rattle.lparse_reader.proofs.lemmas.Pieces.WholePieces.{after_must, after_plus, after_names}
use Rattle.lparse_reader.proofs.lemmas.Pieces.WholePieces.{after_rules}
use Rattle.lparse_reader.proofs.lemmas.Refusing.FaultPieces.{fault_is, bind_err, no_token}
use Rattle.lparse_reader.proofs.lemmas.Refusing.FaultPieces.{number_fails}
use Rattle.lparse_reader.proofs.lemmas.Refusing.Follows.{Passes, passes_shrinks, passes_none}
use Rattle.lparse_reader.proofs.lemmas.Refusing.Follows.{passes_one}
use Rattle.lparse_reader.proofs.lemmas.Refusing.Follows.{passes_then, breaks_now, breaks_then}
use Rattle.lparse_reader.proofs.lemmas.Refusing.DueFields.{atoms_follow, entries_follow}
use Rattle.lparse_reader.proofs.lemmas.Refusing.RuleFollows.{rules_follow, Takes, until_follows}

pub eqb_same : (n : ℕ) → eqb n n ≡ true
eqb_same n = go n (eqb n n) refl
  where
    go : (n : ℕ) (test : Bool) → eqb n n ≡ test → eqb n n ≡ true
    go n true e = e
    go n false e = absurd (eqb-false n n e refl)

-- ---- marks

pub mark_fault : (letter place first : ℕ) (rest : List ℕ) (fault : Fault)
    → mark_here letter place (first ∷ rest) ≡ Err fault
    → fault ≡ At MissingMark (length (first ∷ rest)) place
mark_fault letter place first rest fault e =
    elim
    (chosen (is_mark letter (first ∷ rest)) (Ok (after_two (first ∷ rest)))
    (Err (At MissingMark (length (first ∷ rest)) place)) (Err fault) e) [
      | inl wrong ↦ absurd (let e = wrong.1 in cc)
      | inr right ↦ sym
          (fault_is {A = List ℕ} (At MissingMark (length (first ∷ rest)) place) fault right.1)
    ]

-- what stands behind the gap is the first token
token_skipped_to : (bytes : List ℕ) (first : ℕ) (rest : List ℕ) → skipped bytes ≡ first ∷ rest
    → TokenBegins first bytes rest
token_skipped_to bytes first rest here_is =
    let gone = skips bytes in
    record {
      gap = gone.gap;
      between = gone.between;
      parts = gone.parts ∙ ap (λ (r : List ℕ). gone.gap ++ r) here_is;
      begins = token_begins bytes first rest here_is;
    }

mark_fails_here : (letter place : ℕ) (bytes here : List ℕ) (fault : Fault) → skipped bytes ≡ here
    → mark_here letter place here ≡ Err fault → mark_at letter place bytes ≡ Err fault
    → FailsAt (sign letter place) bytes fault
mark_fails_here letter place bytes [] fault here_is e fails =
    inl (record
    { blank = no_token bytes here_is; fault_is = sym (fault_is {A = List ℕ} Ended fault e) })
mark_fails_here letter place bytes (first ∷ rest) fault here_is e fails =
    inr (record {
      first = first;
      rest = rest;
      token = token_skipped_to bytes first rest here_is;
      no_mark = λ after stands. let wrong =
          sym (mark_again letter place bytes after (eqb_same letter) stands) ∙ fails in cc;
      fault_is = mark_fault letter place first rest fault e;
    })

pub mark_fails : (letter place : ℕ) (bytes : List ℕ) (fault : Fault)
    → mark_at letter place bytes ≡ Err fault → FailsAt (sign letter place) bytes fault
unfolding mark_at
mark_fails letter place bytes fault e =
    mark_fails_here letter place bytes (skipped bytes) fault refl e e

mark_passes : (letter place : ℕ) (agenda : List Due) (bytes rest : List ℕ)
    → mark_at letter place bytes ≡ Ok rest → Passes (sign letter place ∷ agenda) bytes agenda rest
mark_passes letter place agenda bytes rest e =
    passes_one (sign letter place) agenda [] bytes (mark letter) rest
    (mark_stands letter place bytes rest e) tt (rw (eqb_same letter) refl)

-- ---- the number of models

pub external_here : (bytes here : List ℕ) (fault : Fault) → skipped bytes ≡ here
    → is_external here ≡ true → fault ≡ At ExternalSection (length here) 69 → External bytes fault
external_here bytes [] fault here_is e told = absurd cc
external_here bytes (first ∷ rest) fault here_is e told =
    let tests = both (eqb first 69) (is_token_end rest) e in
    let letter : first ≡ 69 = eqb-true _ _ tests.0 in
    let gone = skips bytes in
    record {
      gap = gone.gap;
      rest = rest;
      between = gone.between;
      parts =
          gone.parts ∙ ap (λ (r : List ℕ). gone.gap ++ r)
          (here_is ∙ ap (λ (n : ℕ). n ∷ rest) letter);
      ends = tests.1;
      fault_is = told;
    }

no_letter : (bytes : List ℕ) (fault : Fault) → External bytes fault
    → is_external (skipped bytes) ≡ false → ⊥
no_letter bytes fault external other =
    let here : skipped bytes ≡ 69 ∷ external.rest =
    ap skipped external.parts ∙ skipped_gap external.gap (69 ∷ external.rest) external.between
    ∙ skipped_token 69 external.rest refl in
    let shown : is_external (skipped bytes) ≡ true = ap is_external here ∙ external.ends in
    let wrong = sym shown ∙ other in cc

pub models_fail : (bytes : List ℕ) (fault : Fault) → models_at bytes ≡ Err fault
    → FailsAt models bytes fault
unfolding models_at
models_fail bytes fault e =
    elim
    (chosen (is_external (skipped bytes)) (Err (At ExternalSection (length (skipped bytes)) 69))
    (number_at bytes) (Err fault) e) [
      | inl letter ↦ inr
          (inl
          (external_here bytes (skipped bytes) fault refl letter.0
          (sym
          (fault_is {A = ℕ × List ℕ} (At ExternalSection (length (skipped bytes)) 69)
          fault letter.1))))
      | inr other ↦ elim (number_fails bytes fault other.1) [
        | inl none ↦ inl none
        | inr bad ↦ inr
            (inr
            (record {
              bad = bad;
              no_external =
                  λ found external. no_letter bytes found external other.0;
            }))
      ]
    ]

models_pass : (agenda : List Due) (bytes : List ℕ) (value : ℕ) (rest : List ℕ)
    → models_at bytes ≡ Ok (value, rest) → Passes (models ∷ agenda) bytes agenda rest
models_pass agenda bytes value rest e =
    passes_one models agenda [] bytes (number value) rest (models_stands bytes value rest e) tt refl

-- ---- the end

end_fails_here : (bytes here : List ℕ) (fault : Fault) → skipped bytes ≡ here
    → end_here here ≡ Err fault → Trailing bytes fault
end_fails_here bytes [] fault here_is e = absurd cc
end_fails_here bytes (first ∷ rest) fault here_is e =
    record {
      first = first;
      rest = rest;
      token = token_skipped_to bytes first rest here_is;
      fault_is =
          sym (fault_is {A = List ℕ} (At TrailingText (length (first ∷ rest)) first) fault e);
    }

pub end_fails : (bytes : List ℕ) (fault : Fault) → end_at bytes ≡ Err fault → Trailing bytes fault
unfolding end_at
end_fails bytes fault e = end_fails_here bytes (skipped bytes) fault refl e

-- ---- lists up to their end

nothing_left : NoToken [] Ended
nothing_left = record { blank = tt; fault_is = refl }

rules_take : Takes rule_or_end_at rules
rules_take = record {
  shrinks =
      λ bytes rule rest few e. omega (
        arith,
        row_shrinks (rule_items rule) bytes rest
            (rules_read.some bytes rule rest few e).0,
      );
  missing = inl nothing_left;
}

entries_take : Takes entry_or_end_at entries
entries_take = record {
  shrinks = λ bytes named rest few e.
      let read = entries_read.some bytes named rest few e in
      omega (arith, row_shrinks (entry named.atom named.name ∷ []) bytes rest read.0);
  missing = inl nothing_left;
}

atoms_take : Takes atom_or_end_at atoms
atoms_take = record {
  shrinks = λ bytes atom rest few e.
      let read = atoms_read.some bytes atom rest few e in
      omega (arith, row_shrinks (number atom ∷ []) bytes rest read.0);
  missing = inl nothing_left;
}

-- ---- the whole text

-- what was passed before, and a part that goes on from there
step : {A : Type 0} (bytes : List ℕ) (agenda : List Due) (middle : List ℕ) (read : Result A Fault)
    (next : A → Result Program Fault) (fault : Fault)
    → Passes whole bytes agenda middle → (read >>= next) ≡ Err fault
    → (read ≡ Err fault → Breaks agenda middle fault)
    → ((x : A) → read ≡ Ok x → next x ≡ Err fault → Breaks whole bytes fault)
    → Breaks whole bytes fault
step bytes agenda middle read next fault before e now later =
    elim (bind_err read next fault e) [
      | inl here ↦ breaks_then whole bytes agenda middle fault before (now here)
      | inr there ↦ later there.0 there.1 there.2
    ]

-- a program that was read passes all that is due
pub record PassesAll (bytes : List ℕ) : Type 0 where
  pub rest : List ℕ
  pub passes : Passes whole bytes [] rest
  pub blank : IsGap rest

-- what is due from each section on
abbrev from_must_not : List Due
from_must_not = atoms ∷ models ∷ []

abbrev from_minus : List Due
from_minus = sign 45 2 ∷ from_must_not

abbrev from_must : List Due
from_must = atoms ∷ from_minus

abbrev from_plus : List Due
from_plus = sign 43 1 ∷ from_must

abbrev done : Program → Result Program Fault
done program = Ok program

shorter : (first : List Due) (bytes : List ℕ) (second : List Due) (rest : List ℕ)
    → length bytes < 2 ^ 31 → Passes first bytes second rest → length rest < 2 ^ 31
shorter first bytes second rest few passes =
    omega (arith, few, passes_shrinks first bytes second rest passes)

rules_pass : (bytes : List ℕ) (found : List Rule) (rest : List ℕ) → length bytes < 2 ^ 31
    → all_at rule_or_end_at bytes ≡ Ok (found, rest) → Passes whole bytes (entries ∷ from_plus) rest
rules_pass bytes found rest few e =
    (until_follows rule_or_end_at rules rules_follow rules_take (length bytes) bytes (omega arith)
    few).passes (entries ∷ from_plus) found rest e

names_pass : (bytes middle : List ℕ) (found : List Named) (rest : List ℕ) → length bytes < 2 ^ 31
    → Passes whole bytes (entries ∷ from_plus) middle
    → all_at entry_or_end_at middle ≡ Ok (found, rest) → Passes whole bytes from_plus rest
names_pass bytes middle found rest few before e =
    passes_then whole bytes (entries ∷ from_plus) middle from_plus rest before
    ((until_follows entry_or_end_at entries entries_follow entries_take (length middle) middle
    (omega arith) (shorter whole bytes (entries ∷ from_plus) middle few before)).passes
    from_plus found rest e)

plus_passes : (bytes middle rest : List ℕ) → Passes whole bytes from_plus middle
    → mark_at 43 1 middle ≡ Ok rest → Passes whole bytes from_must rest
plus_passes bytes middle rest before e =
    passes_then whole bytes from_plus middle from_must rest before
    (mark_passes 43 1 from_must middle rest e)

must_pass : (bytes middle : List ℕ) (found rest : List ℕ) → length bytes < 2 ^ 31
    → Passes whole bytes from_must middle → all_at atom_or_end_at middle ≡ Ok (found, rest)
    → Passes whole bytes from_minus rest
must_pass bytes middle found rest few before e =
    passes_then whole bytes from_must middle from_minus rest before
    ((until_follows atom_or_end_at atoms atoms_follow atoms_take (length middle) middle
    (omega arith) (shorter whole bytes from_must middle few before)).passes from_minus found
    rest e)

minus_passes : (bytes middle rest : List ℕ) → Passes whole bytes from_minus middle
    → mark_at 45 2 middle ≡ Ok rest → Passes whole bytes from_must_not rest
minus_passes bytes middle rest before e =
    passes_then whole bytes from_minus middle from_must_not rest before
    (mark_passes 45 2 from_must_not middle rest e)

must_not_pass : (bytes middle : List ℕ) (found rest : List ℕ) → length bytes < 2 ^ 31
    → Passes whole bytes from_must_not middle → all_at atom_or_end_at middle ≡ Ok (found, rest)
    → Passes whole bytes (models ∷ []) rest
must_not_pass bytes middle found rest few before e =
    passes_then whole bytes from_must_not middle (models ∷ []) rest before
    ((until_follows atom_or_end_at atoms atoms_follow atoms_take (length middle) middle
    (omega arith) (shorter whole bytes from_must_not middle few before)).passes (models ∷ [])
    found rest e)

count_passes : (bytes middle : List ℕ) (value : ℕ) (rest : List ℕ)
    → Passes whole bytes (models ∷ []) middle → models_at middle ≡ Ok (value, rest)
    → Passes whole bytes [] rest
count_passes bytes middle value rest before e =
    passes_then whole bytes (models ∷ []) middle [] rest before (models_pass [] middle value rest e)

pub program_passes : (bytes : List ℕ) (program : Program) → length bytes < 2 ^ 31
    → program_at bytes ≡ Ok program → PassesAll bytes
unfolding program_at
program_passes bytes program few e =
    let rules_found = bind_ok (all_at rule_or_end_at bytes) after_rules program e in
    let names_found =
    bind_ok (all_at entry_or_end_at rules_found.0.1) (after_names rules_found.0.0) program
    rules_found.2 in
    let plus =
    bind_ok (mark_at 43 1 names_found.0.1) (after_plus rules_found.0.0 names_found.0.0) program
    names_found.2 in
    let must =
    bind_ok (all_at atom_or_end_at plus.0) (after_must rules_found.0.0 names_found.0.0) program
    plus.2 in
    let minus =
    bind_ok (mark_at 45 2 must.0.1) (after_minus rules_found.0.0 names_found.0.0 must.0.0)
    program must.2 in
    let must_not =
    bind_ok (all_at atom_or_end_at minus.0)
    (after_must_not rules_found.0.0 names_found.0.0 must.0.0) program minus.2 in
    let count =
    bind_ok (models_at must_not.0.1)
    (after_models rules_found.0.0 names_found.0.0 must.0.0 must_not.0.0) program
    must_not.2 in
    let ended =
    bind_ok (end_at count.0.1)
    (after_end rules_found.0.0 names_found.0.0 must.0.0 must_not.0.0 count.0.0) program
    count.2 in
    let p1 = rules_pass bytes rules_found.0.0 rules_found.0.1 few rules_found.1 in
    let p2 =
    names_pass bytes rules_found.0.1 names_found.0.0 names_found.0.1 few p1 names_found.1 in
    let p3 = plus_passes bytes names_found.0.1 plus.0 p2 plus.1 in
    let p4 = must_pass bytes plus.0 must.0.0 must.0.1 few p3 must.1 in
    let p5 = minus_passes bytes must.0.1 minus.0 p4 minus.1 in
    let p6 = must_not_pass bytes minus.0 must_not.0.0 must_not.0.1 few p5 must_not.1 in
    let p7 = count_passes bytes must_not.0.1 count.0.0 count.0.1 p6 count.1 in
    record { rest = count.0.1; passes = p7; blank = end_stands count.0.1 ended.0 ended.1 }

pub program_breaks : (bytes : List ℕ) (fault : Fault) → length bytes < 2 ^ 31
    → program_at bytes ≡ Err fault → Breaks whole bytes fault
unfolding program_at
program_breaks bytes fault few e =
    step bytes whole bytes (all_at rule_or_end_at bytes) after_rules fault (passes_none whole bytes)
    e
    (λ now.
    (until_follows rule_or_end_at rules rules_follow rules_take (length bytes) bytes
    (omega arith) few).breaks (entries ∷ from_plus) fault now)
    (λ found_rules e1 e.
    let p1 = rules_pass bytes found_rules.0 found_rules.1 few e1 in
    step bytes (entries ∷ from_plus) found_rules.1 (all_at entry_or_end_at found_rules.1)
    (after_names found_rules.0) fault p1 e
    (λ now.
    (until_follows entry_or_end_at entries entries_follow entries_take (length found_rules.1)
    found_rules.1 (omega arith)
    (shorter whole bytes (entries ∷ from_plus) found_rules.1 few p1)).breaks from_plus
    fault now)
    (λ found_names e2 e.
    let p2 = names_pass bytes found_rules.1 found_names.0 found_names.1 few p1 e2 in
    step bytes from_plus found_names.1 (mark_at 43 1 found_names.1)
    (after_plus found_rules.0 found_names.0) fault p2 e
    (λ now. breaks_now from_plus found_names.1 fault (mark_fails 43 1 found_names.1 fault now))
    (λ plus e3 e.
    let p3 = plus_passes bytes found_names.1 plus p2 e3 in
    step bytes from_must plus (all_at atom_or_end_at plus) (after_must found_rules.0 found_names.0)
    fault p3 e
    (λ now.
    (until_follows atom_or_end_at atoms atoms_follow atoms_take (length plus) plus (omega arith)
    (shorter whole bytes from_must plus few p3)).breaks from_minus fault now)
    (λ must e4 e.
    let p4 = must_pass bytes plus must.0 must.1 few p3 e4 in
    step bytes from_minus must.1 (mark_at 45 2 must.1)
    (after_minus found_rules.0 found_names.0 must.0) fault p4 e
    (λ now. breaks_now from_minus must.1 fault (mark_fails 45 2 must.1 fault now))
    (λ minus e5 e.
    let p5 = minus_passes bytes must.1 minus p4 e5 in
    step bytes from_must_not minus (all_at atom_or_end_at minus)
    (after_must_not found_rules.0 found_names.0 must.0) fault p5 e
    (λ now.
    (until_follows atom_or_end_at atoms atoms_follow atoms_take (length minus) minus
    (omega arith) (shorter whole bytes from_must_not minus few p5)).breaks (models ∷ [])
    fault now)
    (λ must_not e6 e.
    let p6 = must_not_pass bytes minus must_not.0 must_not.1 few p5 e6 in
    step bytes (models ∷ []) must_not.1 (models_at must_not.1)
    (after_models found_rules.0 found_names.0 must.0 must_not.0) fault p6 e
    (λ now. breaks_now (models ∷ []) must_not.1 fault (models_fail must_not.1 fault now))
    (λ count e7 e.
    let p7 = count_passes bytes must_not.1 count.0 count.1 p6 e7 in
    step bytes [] count.1 (end_at count.1)
    (after_end found_rules.0 found_names.0 must.0 must_not.0 count.0) fault p7 e
    (λ now. breaks_now [] count.1 fault (end_fails count.1 fault now))
    (λ nothing e8 e. absurd (no_err e)))))))))
  where
    no_err : {p : Program} {f : Fault} → done p ≡ Err f → ⊥
    no_err e = cc
