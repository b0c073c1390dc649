-- Atoms, literals, marks and the end of a text are read exactly where their pieces stand.
use Rattle.std.proofs.Common.{◌≡◌, ℕ, zero, suc, ◌≤◌, Bool, true, false, ◌&&◌, cond, eqb, List, []}
use Rattle.std.proofs.Common.{◌∷◌, ◌++◌, length, Option, Some, None, Result, Ok, Err, refl, sym, ap}
use Rattle.std.proofs.Common.{subst, ◌∙◌, arith, inl, inr}
use Rattle.std.specs.List.{AllByRecursion}
use Rattle.std.specs.Char.{is_ascii_digit}
use Rattle.std.proofs.lemmas.Bool.{ne_eqb, eqb-true}
use Rattle.std.proofs.lemmas.List.{append-nil}
use Rattle.ground_program.specs.declared.program.Weighted.{Weighted}
use Rattle.ground_program.specs.Program.{IsNumber}
use Rattle.lparse_reader.specs.declared.fault.Fault.{Fault}
use Rattle.lparse_reader.specs.declared.fault.Fault.TheVariants.{At}
use Rattle.lparse_reader.specs.declared.fault.TextFault.TheVariants.{AtomZero, MissingMark}
use Rattle.lparse_reader.specs.declared.fault.TextFault.TheVariants.{ExternalSection}
use Rattle.lparse_reader.specs.Tokens.{skipped, is_token_end}
use Rattle.lparse_reader.specs.Fields.{number_at, atom_at, atom_or_end_at, part_at, is_mark}
use Rattle.lparse_reader.specs.Fields.{mark_here, mark_at, is_external, models_at, end_here, end_at}
use Rattle.lparse_reader.specs.Pieces.{Item, number, IsGap, StandsNumber, StandsMark}
use Rattle.lparse_reader.proofs.lemmas.Pieces.NumberPieces.{bind_ok, chosen, ok_is, both}
use Rattle.lparse_reader.proofs.lemmas.Pieces.NumberPieces.{skipped_gap, skips}
use Rattle.lparse_reader.proofs.lemmas.Pieces.NumberPieces.{skipped_token, digit_range}
use Rattle.lparse_reader.proofs.lemmas.Pieces.NumberPieces.{digit_no_separator}
use Rattle.lparse_reader.proofs.lemmas.Pieces.NumberPieces.{number_stands, number_again}
use Rattle.lparse_reader.proofs.lemmas.Pieces.RowPieces.{ReadsItem, ReadAgain, ReadsItems}
use Rattle.lparse_reader.proofs.lemmas.Pieces.RowPieces.{ReadsAgain}

-- ---- atoms

pub record IsAtom (atom : ℕ) : Type 0 where
  pub some : 1 ≤ atom
  pub small : IsNumber atom

not_zero : (n : ℕ) → eqb n 0 ≡ false → 1 ≤ n
not_zero zero e = absurd cc
not_zero (suc n) e = omega arith

pub atom_stands : (bytes : List ℕ) (atom : ℕ) (rest : List ℕ) → atom_at bytes ≡ Ok (atom, rest)
    → StandsNumber atom bytes rest × IsAtom atom
unfolding atom_at
atom_stands bytes atom rest e =
    let read =
    bind_ok (number_at bytes)
    (λ x. cond (eqb x.0 0) (Err (At AtomZero (length (skipped bytes)) 0)) (Ok x))
    (atom, rest) e in
    elim
    (chosen (eqb read.0.0 0) (Err (At AtomZero (length (skipped bytes)) 0)) (Ok read.0)
    (Ok (atom, rest)) read.2) [
      | inl wrong ↦ absurd (let e = wrong.1 in cc)
      | inr right ↦
          let stands = number_stands bytes read.0.0 read.0.1 read.1 in
          subst (λ (p : ℕ × List ℕ). StandsNumber p.0 bytes p.1 × IsAtom p.0)
          (ok_is read.0 (atom, rest) right.1)
          (stands, record { some = not_zero read.0.0 right.0; small = stands.numeral.small })
    ]

pub atom_again : (bytes : List ℕ) (atom : ℕ) (rest : List ℕ) → IsAtom atom
    → StandsNumber atom bytes rest → atom_at bytes ≡ Ok (atom, rest)
unfolding atom_at
atom_again bytes atom rest is_atom stands =
    let test : eqb atom 0 ≡ false = ne_eqb _ _ (λ e. omega (arith, e, is_atom.some)) in
    rw (number_again bytes atom rest stands, test) refl

abbrev pub atom_items : ℕ → List Item
atom_items atom = number atom ∷ []

abbrev or_end : ℕ × List ℕ → Result (Option ℕ × List ℕ) Fault
or_end atom = cond (eqb atom.0 0) (Ok (None, atom.1)) (Ok (Some atom.0, atom.1))

some_is : (m n : ℕ) → Some m ≡ Some n → m ≡ n
some_is m n e = cc

pub atoms_read : ReadsItems atom_or_end_at atom_items IsAtom
unfolding atom_or_end_at
atoms_read = record {
  some = λ bytes atom rest few e.
      let read = bind_ok (number_at bytes) or_end (Some atom, rest) e in
      elim
      (chosen (eqb read.0.0 0) (Ok (None, read.0.1)) (Ok (Some read.0.0, read.0.1))
      (Ok (Some atom, rest)) read.2) [
        | inl wrong ↦ absurd
            (let same = ok_is (None, read.0.1) (Some atom, rest) wrong.1 in
            let e = ap (λ (p : Option ℕ × List ℕ). p.0) same in cc)
        | inr right ↦
            let same = ok_is (Some read.0.0, read.0.1) (Some atom, rest) right.1 in
            let atom_is : read.0.0 ≡ atom =
            some_is read.0.0 atom (ap (λ (p : Option ℕ × List ℕ). p.0) same) in
            let rest_is : read.0.1 ≡ rest = ap (λ (p : Option ℕ × List ℕ). p.1) same in
            let stands = number_stands bytes read.0.0 read.0.1 read.1 in
            let here : StandsNumber atom bytes rest =
            subst (λ (n : ℕ). StandsNumber n bytes rest) atom_is
            (subst (λ (r : List ℕ). StandsNumber read.0.0 bytes r) rest_is stands) in (
              (rest, here, refl),
              record {
                some =
                    subst (λ (n : ℕ). 1 ≤ n) atom_is (not_zero read.0.0 right.0);
                small =
                    here.numeral.small;
              },
            )
      ];
  none = λ bytes rest e.
      let read = bind_ok (number_at bytes) or_end (None, rest) e in
      elim
      (chosen (eqb read.0.0 0) (Ok (None, read.0.1)) (Ok (Some read.0.0, read.0.1))
      (Ok (None, rest)) read.2) [
        | inl right ↦
            let same = ok_is (None, read.0.1) (None, rest) right.1 in
            let rest_is : read.0.1 ≡ rest = ap (λ (p : Option ℕ × List ℕ). p.1) same in
            let stands = number_stands bytes read.0.0 read.0.1 read.1 in
            subst (λ (n : ℕ). StandsNumber n bytes rest) (eqb-true _ _ right.0)
            (subst (λ (r : List ℕ). StandsNumber read.0.0 bytes r) rest_is stands)
        | inr wrong ↦ absurd
            (let same = ok_is (Some read.0.0, read.0.1) (None, rest) wrong.1 in
            let e = ap (λ (p : Option ℕ × List ℕ). p.0) same in cc)
      ];
}

pub atoms_again : ReadsAgain atom_or_end_at atom_items IsAtom
unfolding atom_or_end_at
atoms_again = record {
  some = λ bytes atom rest is_atom row.
      let stands = subst (λ (r : List ℕ). StandsNumber atom bytes r) row.2 row.1 in
      let test : eqb atom 0 ≡ false = ne_eqb _ _ (λ e. omega (arith, e, is_atom.some)) in
      rw (number_again bytes atom rest stands, test) refl;
  none = λ bytes rest stands. rw (number_again bytes 0 rest stands) refl;
  takes = λ atom. omega arith;
}

-- ---- literals of the weight 1

pub record IsWeightedPart (negated : Bool) (part : Weighted) : Type 0 where
  pub negated_is : part.lit.negated ≡ negated
  pub weight_is : part.weight ≡ 1
  pub atom : IsAtom part.lit.atom

abbrev pub part_item : Weighted → Item
part_item part = number part.lit.atom

abbrev made_part : Bool → ℕ → ℕ → Weighted
made_part negated atom weight =
    record { lit = record { atom = atom; negated = negated }; weight = weight }

same_part : (negated : Bool) (part : Weighted) → IsWeightedPart negated part
    → made_part negated part.lit.atom 1 ≡ part
same_part negated part is_part =
    ap (λ (b : Bool). made_part b part.lit.atom 1) (sym is_part.negated_is)
    ∙ ap (λ (w : ℕ). made_part part.lit.negated part.lit.atom w) (sym is_part.weight_is)

pub part_stands : (negated : Bool) → ReadsItem (part_at negated) part_item (IsWeightedPart negated)
unfolding part_at
part_stands negated bytes part rest e =
    let read =
    bind_ok (atom_at bytes) (λ atom. Ok (made_part negated atom.0 1, atom.1)) (part, rest) e in
    let stands = atom_stands bytes read.0.0 read.0.1 read.1 in
    subst
    (λ (p : Weighted × List ℕ). StandsNumber p.0.lit.atom bytes p.1
    × IsWeightedPart negated p.0)
    (ok_is (made_part negated read.0.0 1, read.0.1) (part, rest) read.2)
    (stands.0, record { negated_is = refl; weight_is = refl; atom = stands.1 })

pub part_again : (negated : Bool) → ReadAgain (part_at negated) part_item (IsWeightedPart negated)
unfolding part_at
part_again negated bytes part rest is_part stands =
    rw (atom_again bytes part.lit.atom rest is_part.atom stands)
    (ap (λ (p : Weighted). Ok (p, rest)) (same_part negated part is_part))

-- ---- marks

mark_stands_here : (sign place : ℕ) (bytes here rest : List ℕ) → skipped bytes ≡ here
    → mark_here sign place here ≡ Ok rest → StandsMark sign bytes rest
mark_stands_here sign place bytes [] rest here_is e = absurd cc
mark_stands_here sign place bytes (first ∷ []) rest here_is e = absurd cc
mark_stands_here sign place bytes (first ∷ second ∷ after) rest here_is e =
    elim
    (chosen (is_mark sign (first ∷ second ∷ after)) (Ok after)
    (Err (At MissingMark (length (first ∷ second ∷ after)) place)) (Ok rest) e) [
      | inl right ↦
          let tests = both ((eqb first 66) && (eqb second sign)) (is_token_end after) right.0 in
          let two = both (eqb first 66) (eqb second sign) tests.0 in
          let rest_is : after ≡ rest = ok_is after rest right.1 in
          let gone = skips bytes in
          let letters : skipped bytes ≡ 66 ∷ sign ∷ rest =
          here_is ∙ ap (λ (n : ℕ). n ∷ second ∷ after) (eqb-true _ _ two.0)
          ∙ ap (λ (n : ℕ). 66 ∷ n ∷ after) (eqb-true _ _ two.1)
          ∙ ap (λ (r : List ℕ). 66 ∷ sign ∷ r) rest_is in
          record {
            gap = gone.gap;
            between = gone.between;
            parts = gone.parts ∙ ap (λ (r : List ℕ). gone.gap ++ r) letters;
            ends = subst (λ (r : List ℕ). is_token_end r ≡ true) rest_is tests.1;
          }
      | inr wrong ↦ absurd (let e = wrong.1 in cc)
    ]

pub mark_stands : (sign place : ℕ) (bytes rest : List ℕ) → mark_at sign place bytes ≡ Ok rest
    → StandsMark sign bytes rest
unfolding mark_at
mark_stands sign place bytes rest e = mark_stands_here sign place bytes (skipped bytes) rest refl e

pub mark_again : (sign place : ℕ) (bytes rest : List ℕ) → eqb sign sign ≡ true
    → StandsMark sign bytes rest → mark_at sign place bytes ≡ Ok rest
unfolding mark_at
mark_again sign place bytes rest same stands =
    let here : skipped bytes ≡ 66 ∷ sign ∷ rest =
    ap skipped stands.parts ∙ skipped_gap stands.gap (66 ∷ sign ∷ rest) stands.between
    ∙ skipped_token 66 (sign ∷ rest) refl in
    ap (mark_here sign place) here ∙ rw (same, stands.ends) refl

-- ---- the number of models

pub models_stands : (bytes : List ℕ) (models : ℕ) (rest : List ℕ)
    → models_at bytes ≡ Ok (models, rest) → StandsNumber models bytes rest
unfolding models_at
models_stands bytes models rest e =
    elim
    (chosen (is_external (skipped bytes)) (Err (At ExternalSection (length (skipped bytes)) 69))
    (number_at bytes) (Ok (models, rest)) e) [
      | inl wrong ↦ absurd (let e = wrong.1 in cc)
      | inr right ↦ number_stands bytes models rest right.1
    ]

-- a number doesn't begin with an `E`
no_external : (value : ℕ) (bytes gap token rest : List ℕ) → IsGap gap
    → AllByRecursion (λ byte. is_ascii_digit byte ≡ true) token → 1 ≤ length token
    → bytes ≡ gap ++ (token ++ rest) → is_external (skipped bytes) ≡ false
no_external value bytes gap [] rest between digits some parts = absurd (omega (arith, some))
no_external value bytes gap (digit ∷ token) rest between digits some parts =
    let here : skipped bytes ≡ digit ∷ (token ++ rest) =
    ap skipped parts ∙ skipped_gap gap ((digit ∷ token) ++ rest) between
    ∙ skipped_token digit (token ++ rest) (digit_no_separator digit digits.0) in
    let range = digit_range digit digits.0 in
    let other : eqb digit 69 ≡ false = ne_eqb _ _ (λ e. omega (arith, e, range.1)) in
    ap is_external here ∙ rw other refl

pub models_again : (bytes : List ℕ) (models : ℕ) (rest : List ℕ) → StandsNumber models bytes rest
    → models_at bytes ≡ Ok (models, rest)
unfolding models_at
models_again bytes models rest stands =
    rw (no_external models bytes stands.gap stands.token rest stands.between stands.numeral.digits
    stands.numeral.some stands.parts) (number_again bytes models rest stands)

-- ---- the end of the text

end_stands_here : (bytes here nothing : List ℕ) → skipped bytes ≡ here → end_here here ≡ Ok nothing
    → IsGap bytes
end_stands_here bytes [] nothing here_is e =
    let gone = skips bytes in
    subst IsGap
    (sym (gone.parts ∙ ap (λ (r : List ℕ). gone.gap ++ r) here_is ∙ append-nil gone.gap))
    gone.between
end_stands_here bytes (first ∷ after) nothing here_is e = absurd cc

pub end_stands : (bytes nothing : List ℕ) → end_at bytes ≡ Ok nothing → IsGap bytes
unfolding end_at
end_stands bytes nothing e = end_stands_here bytes (skipped bytes) nothing refl e

pub end_again : (bytes : List ℕ) → IsGap bytes → end_at bytes ≡ Ok []
unfolding end_at skipped
end_again bytes between =
    let here : skipped bytes ≡ [] =
    ap skipped (sym (append-nil bytes)) ∙ skipped_gap bytes [] between in
    ap end_here here
