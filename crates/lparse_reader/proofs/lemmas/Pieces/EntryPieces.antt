-- An entry of the symbol table is read exactly where its piece stands.
use Rattle.std.proofs.Common.{◌≡◌, ◌≢◌, ℕ, zero, suc, ◌-◌, ◌^◌, ◌<◌, ◌≤◌, Bool, true, false, ◌||◌}
use Rattle.std.proofs.Common.{cond, eqb, List, [], ◌∷◌, ◌++◌, length, get_or, Option, Some, None}
use Rattle.std.proofs.Common.{Result, Ok, Err, refl, sym, ap, subst, ◌∙◌, append_assoc, arith, inl}
use Rattle.std.proofs.Common.{inr, ◌⊎◌}
use Rattle.std.specs.List.{AllByRecursion}
use Rattle.std.proofs.lemmas.Bool.{ne_eqb, eqb-true, eqb-false}
use Rattle.std.proofs.lemmas.Option.{slice_get-get_or, get_or_from_slice_get}
use Rattle.std.proofs.lemmas.List.{length-append}
use Rattle.std.proofs.lemmas.List.Elements.{All-from_recursion, recursion_from_All}
use Rattle.ground_program.specs.declared.program.Named.{Named}
use Rattle.ground_program.specs.Program.{IsName}
use Rattle.lparse_reader.specs.declared.fault.Fault.{Fault}
use Rattle.lparse_reader.specs.declared.fault.Fault.TheVariants.{At}
use Rattle.lparse_reader.specs.declared.fault.TextFault.TheVariants.{NameMissing}
use Rattle.lparse_reader.specs.Tokens.{skipped, line_of, after_line, put_before, trimmed}
use Rattle.lparse_reader.specs.Fields.{number_at, entry_of, name_at, entry_or_end_at}
use Rattle.lparse_reader.specs.Pieces.{Item, StandsNumber, StandsEntry, IsLineEnd, entry_item}
use Rattle.lparse_reader.proofs.lemmas.Pieces.TokenLemmas.{trimmed_done}
use Rattle.lparse_reader.proofs.lemmas.Pieces.NumberPieces.{bind_ok, chosen, ok_is, number_stands}
use Rattle.lparse_reader.proofs.lemmas.Pieces.NumberPieces.{number_again}
use Rattle.lparse_reader.proofs.lemmas.Pieces.RowPieces.{ReadsItems, ReadsAgain, number_shrinks}
use Rattle.lparse_reader.proofs.lemmas.Pieces.FieldPieces.{IsAtom}

-- ---- a line and what follows it

-- the bytes of a line are these, and the rest begins at its end
pub record Line (bytes line rest : List ℕ) : Type 0 where
  pub parts : bytes ≡ line ++ rest
  pub one_line : AllByRecursion (λ byte. byte ≢ 10) line
  pub ends : IsLineEnd rest

line_step : (byte : ℕ) (bytes : List ℕ) (feeds : Bool) → eqb byte 10 ≡ feeds
    → Line bytes (line_of bytes) (after_line bytes)
    → Line (byte ∷ bytes) (line_of (byte ∷ bytes)) (after_line (byte ∷ bytes))
unfolding line_of after_line
line_step byte bytes true test more =
    rw test (record { parts = refl; one_line = tt; ends = eqb-true _ _ test })
line_step byte bytes false test more =
    rw test
    (record {
      parts = ap (λ (r : List ℕ). byte ∷ r) more.parts;
      one_line =
          (eqb-false _ _ test, more.one_line);
      ends = more.ends;
    })

pub line_stands : (bytes : List ℕ) → Line bytes (line_of bytes) (after_line bytes)
unfolding line_of after_line
line_stands [] = record { parts = refl; one_line = tt; ends = tt }
line_stands (byte ∷ bytes) = line_step byte bytes (eqb byte 10) refl (line_stands bytes)

line_again_end : (rest : List ℕ) → IsLineEnd rest → (line_of rest ≡ []) × (after_line rest ≡ rest)
unfolding line_of after_line
line_again_end [] ends = (refl, refl)
line_again_end (byte ∷ rest) ends =
    let test : eqb byte 10 ≡ true = rw ends refl in (rw test refl, rw test refl)

pub line_again : (line rest : List ℕ) → AllByRecursion (λ byte. byte ≢ 10) line → IsLineEnd rest
    → (line_of (line ++ rest) ≡ line) × (after_line (line ++ rest) ≡ rest)
unfolding line_of after_line
line_again [] rest one_line ends = line_again_end rest ends
line_again (byte ∷ line) rest one_line ends =
    let more = line_again line rest one_line.1 ends in
    let test : eqb byte 10 ≡ false = ne_eqb _ _ one_line.0 in
    (rw test (ap (λ (r : List ℕ). byte ∷ r) more.0), rw test more.1)

-- ---- a name and the carriage returns behind it

abbrev AreReturns : List ℕ → Type 0
AreReturns returns = AllByRecursion (λ byte. byte ≡ 13) returns

pub record Trimmed (line name : List ℕ) : Type 0 where
  pub returns : List ℕ
  pub returns_only : AreReturns returns
  pub parts : line ≡ name ++ returns

put_parts : (byte : ℕ) (name line returns : List ℕ) (returned : Bool) → eqb byte 13 ≡ returned
    → AreReturns returns → line ≡ name ++ returns → Trimmed (byte ∷ line) (put_before byte name)
put_parts byte [] line returns true test only parts =
    rw test
    (record {
      returns = byte ∷ returns;
      returns_only = (eqb-true _ _ test, only);
      parts =
          ap (λ (r : List ℕ). byte ∷ r) parts;
    })
put_parts byte [] line returns false test only parts =
    rw test
    (record
    { returns = returns; returns_only = only; parts = ap (λ (r : List ℕ). byte ∷ r) parts })
put_parts byte (next ∷ name) line returns returned test only parts =
    record { returns = returns; returns_only = only; parts = ap (λ (r : List ℕ). byte ∷ r) parts }

pub trimmed_stands : (line : List ℕ) → Trimmed line (trimmed line)
unfolding trimmed
trimmed_stands [] = record { returns = []; returns_only = tt; parts = refl }
trimmed_stands (byte ∷ line) =
    let more = trimmed_stands line in
    put_parts byte (trimmed line) line more.returns (eqb byte 13) refl more.returns_only more.parts

-- a name that was trimmed doesn't end with a carriage return
put_end : (byte : ℕ) (name : List ℕ) (returned : Bool) → eqb byte 13 ≡ returned
    → ((place : ℕ) → length name ≡ suc place → get_or name place 0 ≢ 13)
    → (place : ℕ) → length (put_before byte name) ≡ suc place
    → get_or (put_before byte name) place 0 ≢ 13
put_end byte [] true test more place len =
    absurd (let none : length (put_before byte []) ≡ 0 = rw test refl in omega (arith, none, len))
put_end byte [] false test more zero len = let one : put_before byte [] ≡ byte ∷ [] =
    rw test refl in rw one (eqb-false _ _ test)
put_end byte [] false test more (suc place) len =
    absurd (let one : length (put_before byte []) ≡ 1 = rw test refl in omega (arith, one, len))
put_end byte (next ∷ name) returned test more zero len = absurd (omega (arith, len))
put_end byte (next ∷ name) returned test more (suc place) len = more place (omega (arith, len))

pub trimmed_end : (line : List ℕ) (place : ℕ) → length (trimmed line) ≡ suc place
    → get_or (trimmed line) place 0 ≢ 13
unfolding trimmed
trimmed_end [] place len = absurd (omega (arith, len))
trimmed_end (byte ∷ line) place len =
    put_end byte (trimmed line) (eqb byte 13) refl (trimmed_end line) place len

returns_trimmed : (returns : List ℕ) → AreReturns returns → trimmed returns ≡ []
unfolding trimmed
returns_trimmed [] only = refl
returns_trimmed (byte ∷ returns) only =
    let test : eqb byte 13 ≡ true = rw only.0 refl in rw (returns_trimmed returns only.1, test) refl

trimmed_behind : (name returns : List ℕ) → AreReturns returns
    → trimmed (name ++ returns) ≡ trimmed name
unfolding trimmed
trimmed_behind [] returns only = returns_trimmed returns only
trimmed_behind (byte ∷ name) returns only = ap (put_before byte) (trimmed_behind name returns only)

pub name_trimmed : (name returns : List ℕ) → IsName name → AreReturns returns
    → trimmed (name ++ returns) ≡ name
name_trimmed name returns is_name only =
    trimmed_behind name returns only
    ∙ trimmed_done name is_name.some
    (λ e. is_name.end
    (slice_get-get_or name (length name - 1) 0 (omega (arith, is_name.some))
    ∙ ap (λ (n : ℕ). Some n) e))

all_front : (front back : List ℕ) → AllByRecursion (λ byte. byte ≢ 10) (front ++ back)
    → AllByRecursion (λ byte. byte ≢ 10) front
all_front [] back each = tt
all_front (byte ∷ front) back each = (each.0, all_front front back each.1)

all_join : (front back : List ℕ) → AllByRecursion (λ byte. byte ≢ 10) front
    → AllByRecursion (λ byte. byte ≢ 10) back → AllByRecursion (λ byte. byte ≢ 10) (front ++ back)
all_join [] back first second = second
all_join (byte ∷ front) back first second = (first.0, all_join front back first.1 second)

returns_one_line : (returns : List ℕ) → AreReturns returns
    → AllByRecursion (λ byte. byte ≢ 10) returns
returns_one_line [] only = tt
returns_one_line (byte ∷ returns) only =
    (λ e. omega (arith, e, only.0), returns_one_line returns only.1)

-- ---- entries

pub record IsEntry (named : Named) : Type 0 where
  pub atom : IsAtom named.atom
  pub name : IsName named.name

abbrev pub entry_items : Named → List Item
entry_items named = entry_item named ∷ []

some_named : (m n : Named) → Some m ≡ Some n → m ≡ n
some_named m n e = cc

-- an entry whose name is this
entry_of_stands : (from atom : ℕ) (found rest : List ℕ) (named : Named) (after : List ℕ)
    → entry_of from atom found rest ≡ Ok (Some named, after)
    → (1 ≤ length found) × (named.atom ≡ atom) × (named.name ≡ found) × (after ≡ rest)
entry_of_stands from atom [] rest named after e = absurd cc
entry_of_stands from atom (byte ∷ found) rest named after e =
    let made : Named = record { atom = atom; name = byte ∷ found } in
    let same = ok_is (Some made, rest) (Some named, after) e in
    let named_is : made ≡ named =
    some_named made named (ap (λ (p : Option Named × List ℕ). p.0) same) in (
      omega arith,
      sym (ap (λ (n : Named). n.atom) named_is),
      sym (ap (λ (n : Named). n.name) named_is),
      sym (ap (λ (p : Option Named × List ℕ). p.1) same),
    )

-- what a name that was read is
pub record NameStands (atom : ℕ) (bytes : List ℕ) (named : Named) (rest : List ℕ) : Type 0 where
  pub blank : ℕ
  pub returns : List ℕ
  pub gap : (blank ≡ 32) ⊎ (blank ≡ 9)
  pub returns_only : AreReturns returns
  pub parts : bytes ≡ blank ∷ (named.name ++ (returns ++ rest))
  pub ends : IsLineEnd rest
  pub atom_is : named.atom ≡ atom
  pub name : IsName named.name

is_gap : (byte : ℕ) → (eqb byte 32 || eqb byte 9) ≡ true → (byte ≡ 32) ⊎ (byte ≡ 9)
is_gap byte e = gap_of byte (eqb byte 32) (eqb byte 9) refl refl e
  where
    gap_of : (byte : ℕ) (blank tab : Bool) → eqb byte 32 ≡ blank → eqb byte 9 ≡ tab
        → (blank || tab) ≡ true → (byte ≡ 32) ⊎ (byte ≡ 9)
    gap_of byte true tab is_blank is_tab e = inl (eqb-true _ _ is_blank)
    gap_of byte false true is_blank is_tab e = inr (eqb-true _ _ is_tab)
    gap_of byte false false is_blank is_tab e = absurd cc

name_stands : (from atom : ℕ) (bytes : List ℕ) (named : Named) (rest : List ℕ)
    → length bytes < 2 ^ 31 → name_at from atom bytes ≡ Ok (Some named, rest)
    → NameStands atom bytes named rest
name_stands from atom [] named rest few e = absurd cc
name_stands from atom (gap ∷ bytes) named rest few e =
    elim
    (chosen (eqb gap 32 || eqb gap 9)
    (entry_of from atom (trimmed (line_of bytes)) (after_line bytes))
    (Err (At NameMissing from atom)) (Ok (Some named, rest)) e) [
      | inr wrong ↦ absurd (let e = wrong.1 in cc)
      | inl right ↦
          let line = line_stands bytes in
          let name = trimmed_stands (line_of bytes) in
          let made =
          entry_of_stands from atom (trimmed (line_of bytes)) (after_line bytes) named rest
          right.1 in
          let found : named.name ≡ trimmed (line_of bytes) = made.2 in
          let whole : bytes ≡ trimmed (line_of bytes) ++ (name.returns ++ after_line bytes) =
          line.parts ∙ ap (λ (l : List ℕ). l ++ after_line bytes) name.parts
          ∙ append_assoc (trimmed (line_of bytes)) name.returns (after_line bytes) in
          let one_line : AllByRecursion (λ byte. byte ≢ 10) (trimmed (line_of bytes)) =
          all_front (trimmed (line_of bytes)) name.returns
          (subst (AllByRecursion (λ byte. byte ≢ 10)) name.parts line.one_line) in
          let short : length (trimmed (line_of bytes)) < 2 ^ 31 =
          omega (
            arith,
            ap length whole,
            length-append (trimmed (line_of bytes)) (name.returns ++ after_line bytes),
            few,
          ) in
          let is_name : IsName (trimmed (line_of bytes)) = record {
            some = made.0;
            one_line = All-from_recursion (λ byte. byte ≢ 10) (trimmed (line_of bytes)) one_line;
            end =
                λ e. trimmed_end (line_of bytes) (length (trimmed (line_of bytes)) - 1)
                (omega (arith, made.0))
                (get_or_from_slice_get (trimmed (line_of bytes))
                (length (trimmed (line_of bytes)) - 1) 13 0 e);
            short = short;
          } in
          record {
            blank = gap;
            returns = name.returns;
            gap = is_gap gap right.0;
            returns_only = name.returns_only;
            parts =
                ap (λ (r : List ℕ). gap ∷ r)
                (whole ∙ ap (λ (n : List ℕ). n ++ (name.returns ++ after_line bytes))
                (sym found)
                ∙ ap (λ (r : List ℕ). named.name ++ (name.returns ++ r)) (sym made.3));
            ends = subst IsLineEnd (sym made.3) line.ends;
            atom_is = made.1;
            name = subst IsName (sym found) is_name;
          }
    ]

not_zero : (n : ℕ) → eqb n 0 ≡ false → 1 ≤ n
not_zero zero e = absurd cc
not_zero (suc n) e = omega arith

abbrev or_end : List ℕ → ℕ × List ℕ → Result (Option Named × List ℕ) Fault
or_end bytes atom =
    cond (eqb atom.0 0) (Ok (None, atom.1)) (name_at (length (skipped bytes)) atom.0 atom.1)

no_none : (from atom : ℕ) (found rest after : List ℕ)
    → entry_of from atom found rest ≡ Ok (None, after) → ⊥
no_none from atom [] rest after e = cc
no_none from atom (byte ∷ found) rest after e =
    let made : Named = record { atom = atom; name = byte ∷ found } in
    let same = ok_is (Some made, rest) (None, after) e in
    let wrong : Some made ≡ None = ap (λ (p : Option Named × List ℕ). p.0) same in cc

name_no_none : (from atom : ℕ) (bytes rest : List ℕ) → name_at from atom bytes ≡ Ok (None, rest) → ⊥
name_no_none from atom [] rest e = cc
name_no_none from atom (gap ∷ bytes) rest e =
    elim
    (chosen (eqb gap 32 || eqb gap 9)
    (entry_of from atom (trimmed (line_of bytes)) (after_line bytes))
    (Err (At NameMissing from atom)) (Ok (None, rest)) e) [
      | inr wrong ↦ let e = wrong.1 in cc
      | inl right ↦ no_none from atom (trimmed (line_of bytes)) (after_line bytes) rest right.1
    ]

pub entries_read : ReadsItems entry_or_end_at entry_items IsEntry
unfolding entry_or_end_at
entries_read = record {
  some = λ bytes named rest few e.
      let read = bind_ok (number_at bytes) (or_end bytes) (Some named, rest) e in
      elim
      (chosen (eqb read.0.0 0) (Ok (None, read.0.1))
      (name_at (length (skipped bytes)) read.0.0 read.0.1) (Ok (Some named, rest)) read.2) [
        | inl wrong ↦ absurd
            (let same = ok_is (None, read.0.1) (Some named, rest) wrong.1 in
            let e = ap (λ (p : Option Named × List ℕ). p.0) same in cc)
        | inr right ↦
            let stands = number_stands bytes read.0.0 read.0.1 read.1 in
            let shorter : length read.0.1 < 2 ^ 31 =
            omega (arith, number_shrinks read.0.0 bytes read.0.1 stands, few) in
            let name =
            name_stands (length (skipped bytes)) read.0.0 read.0.1 named rest shorter right.1 in
            let here : StandsEntry named.atom named.name bytes rest = record {
              after = read.0.1;
              blank = name.blank;
              returns = name.returns;
              atom_stands =
                  subst (λ (n : ℕ). StandsNumber n bytes read.0.1) (sym name.atom_is) stands;
              gap = name.gap;
              returns_only = name.returns_only;
              parts = name.parts;
              ends = name.ends;
            } in
            let atom : IsAtom named.atom =
            record {
              some =
                  subst (λ (n : ℕ). 1 ≤ n) (sym name.atom_is) (not_zero read.0.0 right.0);
              small =
                  here.atom_stands.numeral.small;
            } in
            ((rest, here, refl), record { atom = atom; name = name.name })
      ];
  none = λ bytes rest e.
      let read = bind_ok (number_at bytes) (or_end bytes) (None, rest) e in
      elim
      (chosen (eqb read.0.0 0) (Ok (None, read.0.1))
      (name_at (length (skipped bytes)) read.0.0 read.0.1) (Ok (None, rest)) read.2) [
        | inl right ↦
            let same = ok_is (None, read.0.1) (None, rest) right.1 in
            let rest_is : read.0.1 ≡ rest = ap (λ (p : Option Named × List ℕ). p.1) same in
            let stands = number_stands bytes read.0.0 read.0.1 read.1 in
            subst (λ (n : ℕ). StandsNumber n bytes rest) (eqb-true _ _ right.0)
            (subst (λ (r : List ℕ). StandsNumber read.0.0 bytes r) rest_is stands)
        | inr wrong ↦ absurd (name_no_none (length (skipped bytes)) read.0.0 read.0.1 rest wrong.1)
      ];
}

gap_test : (byte : ℕ) → (byte ≡ 32) ⊎ (byte ≡ 9) → (eqb byte 32 || eqb byte 9) ≡ true
gap_test byte (inl e) = rw e refl
gap_test byte (inr e) = rw e refl

entry_again : (from atom : ℕ) (name rest : List ℕ) → 1 ≤ length name
    → entry_of from atom name rest ≡ Ok (Some (record { atom = atom; name = name }), rest)
entry_again from atom [] rest some = absurd (omega (arith, some))
entry_again from atom (byte ∷ name) rest some = refl

pub name_again : (from atom blank : ℕ) (name returns rest : List ℕ) → (blank ≡ 32) ⊎ (blank ≡ 9)
    → IsName name → AreReturns returns → IsLineEnd rest
    → name_at from atom (blank ∷ (name ++ (returns ++ rest)))
    ≡ Ok (Some (record { atom = atom; name = name }), rest)
name_again from atom blank name returns rest gap is_name only ends =
    let one_line : AllByRecursion (λ byte. byte ≢ 10) (name ++ returns) =
    all_join name returns (recursion_from_All (λ byte. byte ≢ 10) name is_name.one_line)
    (returns_one_line returns only) in
    let line = line_again (name ++ returns) rest one_line ends in
    let regrouped : name ++ (returns ++ rest) ≡ (name ++ returns) ++ rest =
    sym (append_assoc name returns rest) in
    let read : entry_of from atom (trimmed (line_of (name ++ (returns ++ rest))))
    (after_line (name ++ (returns ++ rest)))
    ≡ Ok (Some (record { atom = atom; name = name }), rest) =
    ap (λ (r : List ℕ). entry_of from atom (trimmed (line_of r)) (after_line r)) regrouped
    ∙ ap (λ (l : List ℕ). entry_of from atom (trimmed l) (after_line ((name ++ returns) ++ rest)))
    line.0
    ∙ ap (λ (r : List ℕ). entry_of from atom (trimmed (name ++ returns)) r) line.1
    ∙ ap (λ (n : List ℕ). entry_of from atom n rest) (name_trimmed name returns is_name only)
    ∙ entry_again from atom name rest is_name.some in
    rw (gap_test blank gap) read

pub entries_again : ReadsAgain entry_or_end_at entry_items IsEntry
unfolding entry_or_end_at
entries_again = record {
  some = λ bytes named rest is_entry row.
      let stands : StandsEntry named.atom named.name bytes rest =
      subst (λ (r : List ℕ). StandsEntry named.atom named.name bytes r) row.2 row.1 in
      let test : eqb named.atom 0 ≡ false =
      ne_eqb _ _ (λ e. omega (arith, e, is_entry.atom.some)) in
      let name =
      name_again (length (skipped bytes)) named.atom stands.blank named.name stands.returns rest
      stands.gap is_entry.name stands.returns_only stands.ends in
      rw (number_again bytes named.atom stands.after stands.atom_stands, test)
      (ap (name_at (length (skipped bytes)) named.atom) stands.parts ∙ name);
  none = λ bytes rest stands. rw (number_again bytes 0 rest stands) refl;
  takes = λ named. omega arith;
}
