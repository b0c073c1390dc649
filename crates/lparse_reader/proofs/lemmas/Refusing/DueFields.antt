-- Each field of one token follows what is due.
use Rattle.std.proofs.Common.{◌≡◌, ℕ, zero, suc, ◌-◌, ◌^◌, ◌<◌, ◌≤◌, Bool, true, false, ◌||◌, cond}
use Rattle.std.proofs.Common.{eqb, ltb, List, [], ◌∷◌, ◌++◌, length, Option, Some, None, Result, Ok}
use Rattle.std.proofs.Common.{Err, refl, sym, ap, subst, ◌∙◌, arith, inl, inr, ◌⊎◌}
use Rattle.std.specs.Prelude.{replicate}
use Rattle.std.specs.List.{AllByRecursion}
use Rattle.std.specs.Char.{is_ascii_digit}
use Rattle.std.proofs.lemmas.Bool.{ne_eqb}
use Rattle.ground_program.specs.declared.program.Kind.{Kind}
use Rattle.ground_program.specs.declared.program.Kind.TheVariants.{Basic, Constraint, Choice}
use Rattle.ground_program.specs.declared.program.Kind.TheVariants.{Weight, Disjunctive}
use Rattle.ground_program.specs.declared.program.Named.{Named}
use Rattle.ground_program.specs.Program.{IsName}
use Rattle.lparse_reader.specs.declared.fault.Fault.{Fault}
use Rattle.lparse_reader.specs.declared.fault.Fault.TheVariants.{At}
use Rattle.lparse_reader.specs.declared.fault.TextFault.TheVariants.{UnknownKind, MinimizeRule}
use Rattle.lparse_reader.specs.declared.fault.TextFault.TheVariants.{AtomZero, NegativeCount}
use Rattle.lparse_reader.specs.declared.fault.TextFault.TheVariants.{NameMissing}
use Rattle.lparse_reader.specs.declared.rule_text.Counts.{Counts}
use Rattle.lparse_reader.specs.Tokens.{skipped, line_of, after_line, trimmed}
use Rattle.lparse_reader.specs.Fields.{◌>>=◌, number_at, atom_at, atom_or_end_at, name_at, entry_of}
use Rattle.lparse_reader.specs.Fields.{entry_or_end_at}
use Rattle.lparse_reader.specs.Reading.{kind_of, kind_or_end_at}
use Rattle.lparse_reader.specs.Pieces.{number, entry, IsGap, StandsNumber, StandsEntry}
use Rattle.lparse_reader.specs.Due.{Extra, nothing, bound, weights, Due, rules, atom, any_number}
use Rattle.lparse_reader.specs.Due.{head_count, literal_count, negative_count, entries, atoms}
use Rattle.lparse_reader.specs.Due.{after_counts, after_kind, after_number}
use Rattle.lparse_reader.specs.Refuses.{NoToken, BadNumber, bad_value, BadValue, FailsAt}
use Rattle.lparse_reader.proofs.lemmas.Pieces.NumberPieces.{bind_ok, chosen, ok_is, skipped_gap}
use Rattle.lparse_reader.proofs.lemmas.Pieces.NumberPieces.{skipped_token}
use Rattle.lparse_reader.proofs.lemmas.Pieces.NumberPieces.{digit_no_separator, number_stands}
use Rattle.lparse_reader.proofs.lemmas.Pieces.NumberPieces.{number_again}
use Rattle.lparse_reader.proofs.lemmas.Pieces.FieldPieces.{atom_stands, atoms_read}
use Rattle.lparse_reader.proofs.lemmas.Pieces.EntryPieces.{IsEntry, entries_read, entries_again}
use Rattle.lparse_reader.proofs.lemmas.Pieces.RuleAgain.{kind_or_zero, kind_stands}
use Rattle.lparse_reader.proofs.lemmas.Refusing.FaultPieces.{fault_of, fault_is, bind_err}
use Rattle.lparse_reader.proofs.lemmas.Refusing.FaultPieces.{FailsNumber}
use Rattle.lparse_reader.proofs.lemmas.Refusing.FaultPieces.{number_fails}
use Rattle.lparse_reader.proofs.lemmas.Refusing.Follows.{Passes, passes_one, breaks_now, FollowsIn}
use Rattle.lparse_reader.proofs.lemmas.Refusing.Follows.{Follows}

-- the token of a number begins behind the separators
token_here : (value : ℕ) (bytes gap token rest : List ℕ) → IsGap gap → 1 ≤ length token
    → AllByRecursion (λ byte. is_ascii_digit byte ≡ true) token → bytes ≡ gap ++ (token ++ rest)
    → skipped bytes ≡ token ++ rest
token_here value bytes gap [] rest between some digits parts = absurd (omega (arith, some))
token_here value bytes gap (digit ∷ token) rest between some digits parts =
    ap skipped parts ∙ skipped_gap gap ((digit ∷ token) ++ rest) between
    ∙ skipped_token digit (token ++ rest) (digit_no_separator digit digits.0)

pub stands_here : (value : ℕ) (bytes rest : List ℕ) (stands : StandsNumber value bytes rest)
    → skipped bytes ≡ stands.token ++ rest
stands_here value bytes rest stands =
    token_here value bytes stands.gap stands.token rest stands.between stands.numeral.some
    stands.numeral.digits stands.parts

pub unfit_value : (due : Due) (value : ℕ) (bytes rest : List ℕ) (fault : Fault)
    → StandsNumber value bytes rest → after_number due value ≡ None
    → fault ≡ bad_value due (length (skipped bytes)) value → BadValue due bytes fault
unfit_value due value bytes rest fault stands unfit told = record {
  value = value;
  rest = rest;
  stands = stands;
  unfit = unfit;
  fault_is =
      told ∙ ap (λ (r : List ℕ). bad_value due (length r) value)
      (stands_here value bytes rest stands);
}

-- ---- numbers that may be any

pub follows_number : (due : Due) (after : ℕ → List Due)
    → ((value : ℕ) → after_number due value ≡ Some (after value))
    → ((bytes : List ℕ) (fault : Fault) → FailsNumber bytes fault → FailsAt due bytes fault)
    → Follows number_at (due ∷ []) after
follows_number due after fits fails bytes few = record {
  passes =
      λ agenda value rest e. passes_one due agenda (after value) bytes (number value) rest
      (number_stands bytes value rest e) tt (fits value);
  breaks =
      λ agenda fault e. breaks_now (due ∷ agenda) bytes fault
      (fails bytes fault (number_fails bytes fault e));
}

wider : {C : Type 0} (bytes : List ℕ) (fault : Fault) → FailsNumber bytes fault
    → NoToken bytes fault ⊎ (BadNumber bytes fault ⊎ C)
wider bytes fault (inl none) = inl none
wider bytes fault (inr bad) = inr (inl bad)

pub any_follows : Follows number_at (any_number ∷ []) (λ _. [])
any_follows =
    follows_number any_number (λ _. []) (λ value. refl)
    (λ bytes fault fails. wider bytes fault fails)

pub head_count_follows : Follows number_at (head_count ∷ []) (λ value. replicate value atom)
head_count_follows =
    follows_number head_count (λ value. replicate value atom) (λ value. refl)
    (λ bytes fault fails. wider bytes fault fails)

pub literals_follow : (extra : Extra)
    → Follows number_at (literal_count extra ∷ []) (λ value. negative_count extra value ∷ [])
literals_follow extra =
    follows_number (literal_count extra) (λ value. negative_count extra value ∷ []) (λ value. refl)
    (λ bytes fault fails. wider bytes fault fails)

-- ---- atoms

pub atom_follows : Follows atom_at (atom ∷ []) (λ _. [])
unfolding atom_at
atom_follows bytes few = record {
  passes = λ agenda value rest e.
      let stands = atom_stands bytes value rest e in
      let test : eqb value 0 ≡ false =
      ne_eqb _ _ (λ nought. omega (arith, nought, stands.1.some)) in
      passes_one atom agenda [] bytes (number value) rest stands.0 tt (rw test refl);
  breaks = λ agenda fault e.
      breaks_now (atom ∷ agenda) bytes fault
      (elim
      (bind_err (number_at bytes)
      (λ x. cond (eqb x.0 0) (Err (At AtomZero (length (skipped bytes)) 0)) (Ok x))
      fault e) [
        | inl now ↦ wider bytes fault (number_fails bytes fault now)
        | inr later ↦ elim
            (chosen (eqb later.0.0 0) (Err (At AtomZero (length (skipped bytes)) 0)) (Ok later.0)
            (Err fault) later.2) [
              | inl nought ↦ inr
                  (inr
                  (unfit_value atom later.0.0 bytes later.0.1 fault
                  (number_stands bytes later.0.0 later.0.1 later.1) (rw nought.0 refl)
                  (sym
                  (fault_is {A = ℕ × List ℕ} (At AtomZero (length (skipped bytes)) 0) fault
                  nought.1))))
              | inr fine ↦ absurd (let e = fine.1 in cc)
            ]
      ]);
}

-- ---- items of a list that has an end

abbrev pub or_none : {A : Type 0} → Due → Option A → List Due
or_none due None = []
or_none due (Some x) = due ∷ []

atoms_pass : (bytes : List ℕ) → length bytes < 2 ^ 31
    → (agenda : List Due) (found : Option ℕ) (rest : List ℕ)
    → atom_or_end_at bytes ≡ Ok (found, rest)
    → Passes (atoms ∷ agenda) bytes (or_none atoms found ++ agenda) rest
atoms_pass bytes few agenda None rest e =
    passes_one atoms agenda [] bytes (number 0) rest (atoms_read.none bytes rest e) tt refl
atoms_pass bytes few agenda (Some value) rest e =
    let read = atoms_read.some bytes value rest few e in
    let stands = subst (λ (r : List ℕ). StandsNumber value bytes r) read.0.2 read.0.1 in
    let test : eqb value 0 ≡ false = ne_eqb _ _ (λ nought. omega (arith, nought, read.1.some)) in
    passes_one atoms agenda (atoms ∷ []) bytes (number value) rest stands tt (rw test refl)

pub atoms_follow : Follows atom_or_end_at (atoms ∷ []) (or_none atoms)
unfolding atom_or_end_at
atoms_follow bytes few = record {
  passes = λ agenda found rest e. atoms_pass bytes few agenda found rest e;
  breaks = λ agenda fault e.
      breaks_now (atoms ∷ agenda) bytes fault
      (elim
      (bind_err (number_at bytes)
      (λ x. cond (eqb x.0 0) (Ok (None, x.1)) (Ok (Some x.0, x.1))) fault e) [
        | inl now ↦ wider bytes fault (number_fails bytes fault now)
        | inr later ↦ elim
            (chosen (eqb later.0.0 0) (Ok (None, later.0.1)) (Ok (Some later.0.0, later.0.1))
            (Err fault) later.2) [
              | inl nought ↦ absurd (let e = nought.1 in cc)
              | inr fine ↦ absurd (let e = fine.1 in cc)
            ]
      ]);
}

entries_pass : (bytes : List ℕ) → length bytes < 2 ^ 31
    → (agenda : List Due) (found : Option Named) (rest : List ℕ)
    → entry_or_end_at bytes ≡ Ok (found, rest)
    → Passes (entries ∷ agenda) bytes (or_none entries found ++ agenda) rest
entries_pass bytes few agenda None rest e =
    passes_one entries agenda [] bytes (number 0) rest (entries_read.none bytes rest e) tt refl
entries_pass bytes few agenda (Some named) rest e =
    let read = entries_read.some bytes named rest few e in
    let stands =
    subst (λ (r : List ℕ). StandsEntry named.atom named.name bytes r) read.0.2 read.0.1 in
    passes_one entries agenda (entries ∷ []) bytes (entry named.atom named.name) rest stands
    (read.1.atom.some, read.1.name) refl

entry_of_fault : (from value : ℕ) (name rest : List ℕ) (fault : Fault)
    → entry_of from value name rest ≡ Err fault → fault ≡ At NameMissing from value
entry_of_fault from value [] rest fault e =
    sym (fault_is {A = Option Named × List ℕ} (At NameMissing from value) fault e)
entry_of_fault from value (byte ∷ name) rest fault e = absurd cc

pub name_fault : (from value : ℕ) (bytes : List ℕ) (fault : Fault)
    → name_at from value bytes ≡ Err fault → fault ≡ At NameMissing from value
name_fault from value [] fault e =
    sym (fault_is {A = Option Named × List ℕ} (At NameMissing from value) fault e)
name_fault from value (gap ∷ bytes) fault e =
    elim
    (chosen (eqb gap 32 || eqb gap 9)
    (entry_of from value (trimmed (line_of bytes)) (after_line bytes))
    (Err (At NameMissing from value)) (Err fault) e) [
      | inl found ↦ entry_of_fault from value (trimmed (line_of bytes)) (after_line bytes) fault
          found.1
      | inr wrong ↦ sym
          (fault_is {A = Option Named × List ℕ} (At NameMissing from value) fault wrong.1)
    ]

not_zero : (n : ℕ) → eqb n 0 ≡ false → 1 ≤ n
not_zero zero e = absurd cc
not_zero (suc n) e = omega arith

same_value : (m n : ℕ) (a b : List ℕ) (read : Result (ℕ × List ℕ) Fault) → read ≡ Ok (m, a)
    → read ≡ Ok (n, b) → m ≡ n
same_value m n a b read first second =
    ap (λ (p : ℕ × List ℕ). p.0) (ok_is (m, a) (n, b) (sym first ∙ second))

no_entry_here : (bytes : List ℕ) (fault : Fault) (value : ℕ) (after : List ℕ)
    → number_at bytes ≡ Ok (value, after) → 1 ≤ value → entry_or_end_at bytes ≡ Err fault
    → (other : ℕ) (name rest : List ℕ) → IsName name → StandsEntry other name bytes rest → ⊥
no_entry_here bytes fault value after read some fails other name rest is_name stands =
    let same : value ≡ other =
    same_value value other after stands.after (number_at bytes) read
    (number_again bytes other stands.after stands.atom_stands) in
    let named : Named = record { atom = other; name = name } in
    let is_entry : IsEntry named =
    record {
      atom =
          record {
            some = subst (λ (n : ℕ). 1 ≤ n) same some;
            small =
                stands.atom_stands.numeral.small;
          };
      name = is_name;
    } in
    let again = entries_again.some bytes named rest is_entry (rest, stands, refl) in
    let wrong = sym again ∙ fails in cc

abbrev name_end : List ℕ → ℕ × List ℕ → Result (Option Named × List ℕ) Fault
name_end bytes value =
    cond (eqb value.0 0) (Ok (None, value.1)) (name_at (length (skipped bytes)) value.0 value.1)

entry_fails : (bytes : List ℕ) (fault : Fault) → entry_or_end_at bytes ≡ Err fault
    → (number_at bytes >>= name_end bytes) ≡ Err fault → FailsAt entries bytes fault
entry_fails bytes fault whole e =
    elim (bind_err (number_at bytes) (name_end bytes) fault e) [
      | inl now ↦ wider bytes fault (number_fails bytes fault now)
      | inr later ↦ elim
          (chosen (eqb later.0.0 0) (Ok (None, later.0.1))
          (name_at (length (skipped bytes)) later.0.0 later.0.1) (Err fault) later.2) [
            | inl nought ↦ absurd (let e = nought.1 in cc)
            | inr named ↦ inr (inr (record {
              bad =
                  unfit_value entries later.0.0 bytes later.0.1 fault
                  (number_stands bytes later.0.0 later.0.1 later.1) (rw named.0 refl)
                  (name_fault (length (skipped bytes)) later.0.0 later.0.1 fault named.1);
              no_entry =
                  no_entry_here bytes fault later.0.0 later.0.1 later.1 (not_zero later.0.0 named.0)
                  whole;
            }))
          ]
    ]

pub entries_follow : Follows entry_or_end_at (entries ∷ []) (or_none entries)
unfolding entry_or_end_at
entries_follow bytes few = record {
  passes = λ agenda found rest e. entries_pass bytes few agenda found rest e;
  breaks =
      λ agenda fault e. breaks_now (entries ∷ agenda) bytes fault (entry_fails bytes fault e e);
}

-- ---- kinds

-- the fields that are due after a kind
abbrev pub kind_due : Kind → List Due
kind_due Basic = atom ∷ literal_count nothing ∷ []
kind_due Constraint = atom ∷ literal_count bound ∷ []
kind_due Choice = head_count ∷ literal_count nothing ∷ []
kind_due Weight = atom ∷ any_number ∷ literal_count weights ∷ []
kind_due Disjunctive = head_count ∷ literal_count nothing ∷ []

abbrev pub kind_or_none : Option Kind → List Due
kind_or_none None = []
kind_or_none (Some kind) = kind_due kind ++ rules ∷ []

kind_fits : (kind : Option Kind) → after_number rules (kind_or_zero kind) ≡ Some (kind_or_none kind)
kind_fits None = refl
kind_fits (Some Basic) = refl
kind_fits (Some Constraint) = refl
kind_fits (Some Choice) = refl
kind_fits (Some Weight) = refl
kind_fits (Some Disjunctive) = refl

abbrev kinds : Bool → Bool → Bool → Bool → Bool → Bool → Fault → Result (Option Kind) Fault
kinds t0 t1 t2 t3 t5 t8 fault =
    cond t0 (Ok None)
    (cond t1 (Ok (Some Basic))
    (cond t2 (Ok (Some Constraint))
    (cond t3 (Ok (Some Choice))
    (cond t5 (Ok (Some Weight)) (cond t8 (Ok (Some Disjunctive)) (Err fault))))))

abbrev dues : Bool → Bool → Bool → Bool → Bool → Bool → Option (List Due)
dues t0 t1 t2 t3 t5 t8 =
    cond t0 (Some [])
    (cond t1 (Some (atom ∷ literal_count nothing ∷ rules ∷ []))
    (cond t2 (Some (atom ∷ literal_count bound ∷ rules ∷ []))
    (cond t3 (Some (head_count ∷ literal_count nothing ∷ rules ∷ []))
    (cond t5 (Some (atom ∷ any_number ∷ literal_count weights ∷ rules ∷ []))
    (cond t8 (Some (head_count ∷ literal_count nothing ∷ rules ∷ [])) None)))))

kinds_fail : (t0 t1 t2 t3 t5 t8 : Bool) (found fault : Fault)
    → kinds t0 t1 t2 t3 t5 t8 found ≡ Err fault → (dues t0 t1 t2 t3 t5 t8 ≡ None) × (fault ≡ found)
kinds_fail true t1 t2 t3 t5 t8 found fault e = absurd cc
kinds_fail false true t2 t3 t5 t8 found fault e = absurd cc
kinds_fail false false true t3 t5 t8 found fault e = absurd cc
kinds_fail false false false true t5 t8 found fault e = absurd cc
kinds_fail false false false false true t8 found fault e = absurd cc
kinds_fail false false false false false true found fault e = absurd cc
kinds_fail false false false false false false found fault e =
    (refl, sym (fault_is {A = Option Kind} found fault e))

push_fault : (test : Bool) (a b : Fault)
    → cond test (fault_of {A = Option Kind} a) (Err b) ≡ fault_of {A = Option Kind} (cond test a b)
push_fault true a b = refl
push_fault false a b = refl

kind_fails : (from n : ℕ) (fault : Fault) → kind_of from n ≡ Err fault
    → (after_kind n ≡ None) × (fault ≡ bad_value rules from n)
kind_fails from n fault e =
    kinds_fail (eqb n 0) (eqb n 1) (eqb n 2) (eqb n 3) (eqb n 5) (eqb n 8) (bad_value rules from n)
    fault
    (subst
    (λ (r : Result (Option Kind) Fault). cond (eqb n 0) (Ok None)
    (cond (eqb n 1) (Ok (Some Basic))
    (cond (eqb n 2) (Ok (Some Constraint))
    (cond (eqb n 3) (Ok (Some Choice))
    (cond (eqb n 5) (Ok (Some Weight))
    (cond (eqb n 8) (Ok (Some Disjunctive)) r))))) ≡ Err fault)
    (push_fault (eqb n 6) (At MinimizeRule from 6) (At UnknownKind from n)) e)

abbrev kind_end : ℕ × List ℕ → Option Kind → Result (Option Kind × List ℕ) Fault
kind_end n kind = Ok (kind, n.1)

abbrev kind_step : List ℕ → ℕ × List ℕ → Result (Option Kind × List ℕ) Fault
kind_step bytes n = kind_of (length (skipped bytes)) n.0 >>= kind_end n

kinds_fail_at : (bytes : List ℕ) (fault : Fault) → (number_at bytes >>= kind_step bytes) ≡ Err fault
    → FailsAt rules bytes fault
kinds_fail_at bytes fault e =
    elim (bind_err (number_at bytes) (kind_step bytes) fault e) [
      | inl now ↦ wider bytes fault (number_fails bytes fault now)
      | inr later ↦ elim
          (bind_err (kind_of (length (skipped bytes)) later.0.0) (kind_end later.0) fault later.2) [
            | inl wrong ↦
                let told = kind_fails (length (skipped bytes)) later.0.0 fault wrong in
                inr (inr
                (unfit_value rules later.0.0 bytes later.0.1 fault
                (number_stands bytes later.0.0 later.0.1 later.1) told.0 told.1))
            | inr fine ↦ absurd (let e = fine.2 in cc)
          ]
    ]

pub kinds_follow : Follows kind_or_end_at (rules ∷ []) kind_or_none
unfolding kind_or_end_at
kinds_follow bytes few = record {
  passes =
      λ agenda kind rest e. passes_one rules agenda (kind_or_none kind) bytes
      (number (kind_or_zero kind)) rest (kind_stands bytes kind rest e) tt (kind_fits kind);
  breaks = λ agenda fault e. breaks_now (rules ∷ agenda) bytes fault (kinds_fail_at bytes fault e);
}

-- ---- the number of negatives

abbrev pub counts_end : ℕ → List ℕ → ℕ × List ℕ → Result (Counts × List ℕ) Fault
counts_end literals middle negatives =
    cond (ltb literals negatives.0) (Err (At NegativeCount (length (skipped middle)) negatives.0))
    (Ok (
      record
          { literals = literals; negatives = negatives.0; positives = literals - negatives.0 },
      negatives.1,
    ))

pub negatives_follow : (extra : Extra) (literals : ℕ) (bytes : List ℕ)
    → FollowsIn bytes (number_at bytes >>= counts_end literals bytes)
    (negative_count extra literals ∷ []) (λ counts. after_counts extra counts.literals)
negatives_follow extra literals bytes = record {
  passes = λ agenda counts rest e.
      let read = bind_ok (number_at bytes) (counts_end literals bytes) (counts, rest) e in
      let made_counts : Counts =
      record { literals = literals; negatives = read.0.0; positives = literals - read.0.0 } in
      elim
      (chosen (ltb literals read.0.0) (Err (At NegativeCount (length (skipped bytes)) read.0.0))
      (Ok (made_counts, read.0.1)) (Ok (counts, rest)) read.2) [
        | inl wrong ↦ absurd (let e = wrong.1 in cc)
        | inr right ↦
            subst
            (λ (p : Counts × List ℕ). Passes (negative_count extra literals ∷ agenda) bytes
            (after_counts extra p.0.literals ++ agenda) p.1)
            (ok_is (made_counts, read.0.1) (counts, rest) right.1)
            (passes_one (negative_count extra literals) agenda (after_counts extra literals) bytes
            (number read.0.0) read.0.1 (number_stands bytes read.0.0 read.0.1 read.1) tt
            (rw right.0 refl))
      ];
  breaks = λ agenda fault e.
      breaks_now (negative_count extra literals ∷ agenda) bytes fault
      (elim (bind_err (number_at bytes) (counts_end literals bytes) fault e) [
        | inl now ↦ wider bytes fault (number_fails bytes fault now)
        | inr later ↦ elim
            (chosen (ltb literals later.0.0)
            (Err (At NegativeCount (length (skipped bytes)) later.0.0))
            (Ok (
              record {
                literals = literals;
                negatives = later.0.0;
                positives =
                    literals - later.0.0;
              },
              later.0.1,
            )) (Err fault) later.2) [
              | inl many ↦ inr
                  (inr
                  (unfit_value (negative_count extra literals) later.0.0 bytes later.0.1 fault
                  (number_stands bytes later.0.0 later.0.1 later.1) (rw many.0 refl)
                  (sym
                  (fault_is {A = Counts × List ℕ}
                  (At NegativeCount (length (skipped bytes)) later.0.0) fault many.1))))
              | inr fine ↦ absurd (let e = fine.1 in cc)
            ]
      ]);
}
