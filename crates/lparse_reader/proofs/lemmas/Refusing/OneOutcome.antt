-- A text has one outcome: what stands and what fails is determined, field by field.
use Rattle.std.proofs.Common.{◌≡◌, ℕ, ◌^◌, ◌<◌, Bool, true, false, cond, eqb, List, [], ◌∷◌, ◌++◌}
use Rattle.std.proofs.Common.{length, Option, Some, None, Result, Ok, Err, refl, sym, ap, subst}
use Rattle.std.proofs.Common.{◌∙◌, arith, inl, inr, ◌⊎◌}
use Rattle.std.specs.List.{AllByRecursion}
use Rattle.std.proofs.lemmas.Bool.{eqb-true}
use Rattle.ground_program.specs.declared.program.Named.{Named}
use Rattle.ground_program.specs.Program.{IsName}
use Rattle.lparse_reader.specs.declared.fault.Fault.{Fault}
use Rattle.lparse_reader.specs.declared.fault.Fault.TheVariants.{At}
use Rattle.lparse_reader.specs.declared.fault.TextFault.TheVariants.{MissingMark, ExternalSection}
use Rattle.lparse_reader.specs.declared.fault.TextFault.TheVariants.{NameMissing}
use Rattle.lparse_reader.specs.Tokens.{is_separator, skipped}
use Rattle.lparse_reader.specs.Fields.{◌>>=◌, number_at, name_at, entry_or_end_at, mark_here}
use Rattle.lparse_reader.specs.Fields.{mark_at, is_external, models_at, end_here, end_at}
use Rattle.lparse_reader.specs.Pieces.{Item, number, entry, mark, IsGap, StandsNumber, StandsMark}
use Rattle.lparse_reader.specs.Pieces.{StandsEntry, Stands, PieceRow}
use Rattle.lparse_reader.specs.Due.{Due, rules, atom, any_number, head_count, literal_count}
use Rattle.lparse_reader.specs.Due.{negative_count, entries, sign, atoms, models, after_number}
use Rattle.lparse_reader.specs.Due.{after_entry, after_mark_of, after_item, run}
use Rattle.lparse_reader.specs.Refuses.{NoToken, BadNumber, bad_value, BadValue, NoName, NoMark}
use Rattle.lparse_reader.specs.Refuses.{External, BadModels, Trailing, FailsAt, FailsNext, IsItem}
use Rattle.lparse_reader.proofs.lemmas.Pieces.NumberPieces.{ok_is, skipped_gap, skipped_token}
use Rattle.lparse_reader.proofs.lemmas.Pieces.NumberPieces.{number_again}
use Rattle.lparse_reader.proofs.lemmas.Pieces.RowPieces.{piece_shrinks}
use Rattle.lparse_reader.proofs.lemmas.Pieces.FieldPieces.{mark_stands, mark_again, models_again}
use Rattle.lparse_reader.proofs.lemmas.Pieces.FieldPieces.{end_again}
use Rattle.lparse_reader.proofs.lemmas.Pieces.EntryPieces.{IsEntry, entries_read, entries_again}
use Rattle.lparse_reader.proofs.lemmas.Refusing.FaultPieces.{fault_of, fault_is, FailsNumber}
use Rattle.lparse_reader.proofs.lemmas.Refusing.FaultPieces.{number_fails_again}
use Rattle.lparse_reader.proofs.lemmas.Refusing.FaultPieces.{no_token_again}
use Rattle.lparse_reader.proofs.lemmas.Refusing.DueFields.{stands_here, name_fault}
use Rattle.lparse_reader.proofs.lemmas.Refusing.WholeFollows.{eqb_same, mark_fault, external_here}

-- ---- what is due, read as one function

abbrev Found : Type 0
Found = Result (Item × List ℕ) Fault

abbrev found : Item → List ℕ → Found
found item rest = Ok (item, rest)

abbrev fit : Option (List Due) → Item × List ℕ → Fault → Found
fit None here fault = Err fault
fit (Some more) here fault = Ok here

abbrev due_number : Due → List ℕ → Found
due_number due bytes =
    number_at bytes >>= λ n. fit (after_number due n.0) (number n.0, n.1)
    (bad_value due (length (skipped bytes)) n.0)

abbrev entry_or_zero : Option Named → Item
entry_or_zero None = number 0
entry_or_zero (Some named) = entry named.atom named.name

abbrev due_at : Due → List ℕ → Found
due_at entries bytes = entry_or_end_at bytes >>= λ e. Ok (entry_or_zero e.0, e.1)
due_at (sign letter place) bytes = mark_at letter place bytes >>= λ rest. Ok (mark letter, rest)
due_at models bytes = models_at bytes >>= λ n. Ok (number n.0, n.1)
due_at due bytes = due_number due bytes

-- ---- a field that fails is read as that fault

err_again : (fault other : Fault) → other ≡ fault → fault_of {A = Item × List ℕ} other ≡ Err fault
err_again fault other same = ap (λ (f : Fault). fault_of {A = Item × List ℕ} f) same

number_fault : (due : Due) (bytes : List ℕ) (fault : Fault) → FailsNumber bytes fault
    → due_number due bytes ≡ Err fault
number_fault due bytes fault fails = rw (number_fails_again bytes fault fails) refl

value_fault : (due : Due) (bytes : List ℕ) (fault : Fault) → BadValue due bytes fault
    → due_number due bytes ≡ Err fault
value_fault due bytes fault bad =
    rw (number_again bytes bad.value bad.rest bad.stands, bad.unfit)
    (err_again fault (bad_value due (length (skipped bytes)) bad.value)
    (ap (λ (r : List ℕ). bad_value due (length r) bad.value)
    (stands_here bad.value bytes bad.rest bad.stands) ∙ sym bad.fault_is))

fails_number : (due : Due) (bytes : List ℕ) (fault : Fault)
    → NoToken bytes fault ⊎ (BadNumber bytes fault ⊎ BadValue due bytes fault)
    → due_number due bytes ≡ Err fault
fails_number due bytes fault (inl none) = number_fault due bytes fault (inl none)
fails_number due bytes fault (inr (inl bad)) = number_fault due bytes fault (inr bad)
fails_number due bytes fault (inr (inr bad)) = value_fault due bytes fault bad

-- a result is a value or a fault
result_cases : {A : Type 0} {C : Type 0} (r : Result A Fault) → ((x : A) → r ≡ Ok x → C)
    → ((f : Fault) → r ≡ Err f → C) → C
result_cases (Ok x) value fails = value x refl
result_cases (Err f) value fails = fails f refl

opened : (letter place first : ℕ) (rest bytes : List ℕ) (other : Fault)
    → skipped bytes ≡ first ∷ rest → mark_at letter place bytes ≡ Err other
    → mark_here letter place (first ∷ rest) ≡ Err other
unfolding mark_at
opened letter place first rest bytes other here e = ap (mark_here letter place) (sym here) ∙ e

mark_fault_again : (letter place first : ℕ) (rest bytes : List ℕ) (fault : Fault)
    → skipped bytes ≡ first ∷ rest → fault ≡ At MissingMark (length (first ∷ rest)) place
    → ((after : List ℕ) → StandsMark letter bytes after → ⊥)
    → mark_at letter place bytes ≡ Err fault
mark_fault_again letter place first rest bytes fault here told no_mark =
    result_cases (mark_at letter place bytes)
    (λ after e. absurd (no_mark after (mark_stands letter place bytes after e)))
    (λ other e. e ∙ ap (λ (f : Fault). fault_of {A = List ℕ} f)
    (mark_fault letter place first rest other
    (opened letter place first rest bytes other here e) ∙ sym told))

mark_nothing : (letter place : ℕ) (bytes : List ℕ) (fault : Fault) → NoToken bytes fault
    → mark_at letter place bytes ≡ Err fault
unfolding mark_at
mark_nothing letter place bytes fault none =
    ap (mark_here letter place) (no_token_again bytes none.blank)
    ∙ ap (λ (f : Fault). fault_of {A = List ℕ} f) (sym none.fault_is)

token_is : (bytes gap : List ℕ) (first : ℕ) (rest : List ℕ) → IsGap gap
    → bytes ≡ gap ++ (first ∷ rest) → is_separator first ≡ false → skipped bytes ≡ first ∷ rest
token_is bytes gap first rest between parts begins =
    ap skipped parts ∙ skipped_gap gap (first ∷ rest) between ∙ skipped_token first rest begins

sign_fails : (letter place : ℕ) (bytes : List ℕ) (fault : Fault)
    → NoToken bytes fault ⊎ NoMark letter place bytes fault → mark_at letter place bytes ≡ Err fault
sign_fails letter place bytes fault (inl none) = mark_nothing letter place bytes fault none
sign_fails letter place bytes fault (inr other) =
    mark_fault_again letter place other.first other.rest bytes fault
    (token_is bytes other.token.gap other.first other.rest other.token.between other.token.parts
    other.token.begins)
    other.fault_is other.no_mark

no_external : (bytes : List ℕ) (test : Bool) → is_external (skipped bytes) ≡ test
    → ((other : Fault) → External bytes other → ⊥) → is_external (skipped bytes) ≡ false
no_external bytes true shown none =
    absurd
    (none (At ExternalSection (length (skipped bytes)) 69)
    (external_here bytes (skipped bytes) (At ExternalSection (length (skipped bytes)) 69)
    refl shown refl))
no_external bytes false shown none = shown

models_fails : (bytes : List ℕ) (fault : Fault)
    → NoToken bytes fault ⊎ (External bytes fault ⊎ BadModels bytes fault)
    → models_at bytes ≡ Err fault
unfolding models_at
models_fails bytes fault (inl none) =
    rw (ap is_external (no_token_again bytes none.blank))
    (number_fails_again bytes fault (inl none))
models_fails bytes fault (inr (inl external)) =
    let here : skipped bytes ≡ 69 ∷ external.rest =
    token_is bytes external.gap 69 external.rest external.between external.parts refl in
    let shown : is_external (skipped bytes) ≡ true = ap is_external here ∙ external.ends in
    rw shown
    (ap (λ (r : List ℕ). fault_of {A = ℕ × List ℕ} (At ExternalSection (length r) 69)) here
    ∙ ap (λ (f : Fault). fault_of {A = ℕ × List ℕ} f) (sym external.fault_is))
models_fails bytes fault (inr (inr bad)) =
    let other : is_external (skipped bytes) ≡ false =
    no_external bytes (is_external (skipped bytes)) refl bad.no_external in
    rw other (number_fails_again bytes fault (inr bad.bad))

unfit_is : (value : ℕ) (test : Bool) → eqb value 0 ≡ test → after_number entries value ≡ None
    → eqb value 0 ≡ false
unfit_is value true shown unfit = absurd (let wrong = rw shown at unfit in cc)
unfit_is value false shown unfit = shown

same_value : (m n : ℕ) (a b : List ℕ) (read : Result (ℕ × List ℕ) Fault) → read ≡ Ok (m, a)
    → read ≡ Ok (n, b) → m ≡ n
same_value m n a b read first second =
    ap (λ (p : ℕ × List ℕ). p.0) (ok_is (m, a) (n, b) (sym first ∙ second))

abbrev name_end : List ℕ → ℕ × List ℕ → Result (Option Named × List ℕ) Fault
name_end bytes value =
    cond (eqb value.0 0) (Ok (None, value.1)) (name_at (length (skipped bytes)) value.0 value.1)

-- where a number that isn't 0 stands, reading an entry goes on with its name
goes_on : (bytes : List ℕ) (value : ℕ) (rest : List ℕ) (read : Result (Option Named × List ℕ) Fault)
    → number_at bytes ≡ Ok (value, rest) → eqb value 0 ≡ false → entry_or_end_at bytes ≡ read
    → name_at (length (skipped bytes)) value rest ≡ read
unfolding entry_or_end_at
goes_on bytes value rest read number_read some e =
    let one : entry_or_end_at bytes ≡ name_at (length (skipped bytes)) value rest =
    rw (number_read, some) refl in
    sym one ∙ e

only_name : (bytes : List ℕ) (value : ℕ) (rest : List ℕ) (other : Fault)
    → number_at bytes ≡ Ok (value, rest) → eqb value 0 ≡ false → entry_or_end_at bytes ≡ Err other
    → other ≡ At NameMissing (length (skipped bytes)) value
only_name bytes value rest other read some e =
    name_fault (length (skipped bytes)) value rest other
    (goes_on bytes value rest (Err other) read some e)

no_value : (bytes : List ℕ) (value : ℕ) (rest : List ℕ) → length bytes < 2 ^ 31
    → number_at bytes ≡ Ok (value, rest) → eqb value 0 ≡ false
    → ((other : ℕ) (name after : List ℕ) → IsName name → StandsEntry other name bytes after → ⊥)
    → (item : Option Named) (after : List ℕ) → entry_or_end_at bytes ≡ Ok (item, after) → ⊥
no_value bytes value rest few read some no_entry None after e =
    let stands = entries_read.none bytes after e in
    let nought : value ≡ 0 =
    same_value value 0 rest after (number_at bytes) read (number_again bytes 0 after stands) in
    let test : eqb value 0 ≡ true = rw nought refl in
    let wrong = sym test ∙ some in cc
no_value bytes value rest few read some no_entry (Some named) after e =
    let found_entry = entries_read.some bytes named after few e in
    no_entry named.atom named.name found_entry.0.0 found_entry.1.name found_entry.0.1

-- behind an atom with no entry the name fails
name_end_fails : (bytes : List ℕ) (value : ℕ) (rest : List ℕ) (fault : Fault)
    → length bytes < 2 ^ 31 → number_at bytes ≡ Ok (value, rest) → eqb value 0 ≡ false
    → fault ≡ At NameMissing (length (skipped bytes)) value
    → ((other : ℕ) (name after : List ℕ) → IsName name → StandsEntry other name bytes after → ⊥)
    → entry_or_end_at bytes ≡ Err fault
name_end_fails bytes value rest fault few read some told no_entry =
    result_cases (entry_or_end_at bytes)
    (λ x e. absurd (no_value bytes value rest few read some no_entry x.0 x.1 e))
    (λ other e. e ∙ ap (λ (f : Fault). fault_of {A = Option Named × List ℕ} f)
    (only_name bytes value rest other read some e ∙ sym told))

entries_fails : (bytes : List ℕ) (fault : Fault) → length bytes < 2 ^ 31
    → NoToken bytes fault ⊎ (BadNumber bytes fault ⊎ NoName bytes fault)
    → entry_or_end_at bytes ≡ Err fault
unfolding entry_or_end_at
entries_fails bytes fault few (inl none) = rw (number_fails_again bytes fault (inl none)) refl
entries_fails bytes fault few (inr (inl bad)) = rw (number_fails_again bytes fault (inr bad)) refl
entries_fails bytes fault few (inr (inr name)) =
    let bad = name.bad in
    let some : eqb bad.value 0 ≡ false = unfit_is bad.value (eqb bad.value 0) refl bad.unfit in
    let told : fault ≡ At NameMissing (length (skipped bytes)) bad.value =
    bad.fault_is ∙ ap (λ (r : List ℕ). At NameMissing (length r) bad.value)
    (sym (stands_here bad.value bytes bad.rest bad.stands)) in
    name_end_fails bytes bad.value bad.rest fault few
    (number_again bytes bad.value bad.rest bad.stands) some told name.no_entry

-- whatever is due, a field that fails is read as its fault
due_fails : (due : Due) (bytes : List ℕ) (fault : Fault) → length bytes < 2 ^ 31
    → FailsAt due bytes fault → due_at due bytes ≡ Err fault
due_fails rules bytes fault few fails = fails_number rules bytes fault fails
due_fails atom bytes fault few fails = fails_number atom bytes fault fails
due_fails any_number bytes fault few fails = fails_number any_number bytes fault fails
due_fails head_count bytes fault few fails = fails_number head_count bytes fault fails
due_fails (literal_count extra) bytes fault few fails =
    fails_number (literal_count extra) bytes fault fails
due_fails (negative_count extra literals) bytes fault few fails =
    fails_number (negative_count extra literals) bytes fault fails
due_fails entries bytes fault few fails = rw (entries_fails bytes fault few fails) refl
due_fails (sign letter place) bytes fault few fails =
    rw (sign_fails letter place bytes fault fails) refl
due_fails atoms bytes fault few fails = fails_number atoms bytes fault fails
due_fails models bytes fault few fails = rw (models_fails bytes fault fails) refl

-- ---- a piece that stands is read as its item

only_zero : (value : ℕ) (test : Bool) → eqb value 0 ≡ test → (more : List Due)
    → after_number entries value ≡ Some more → value ≡ 0
only_zero value true shown more after = eqb-true _ _ shown
only_zero value false shown more after = absurd (let wrong = rw shown at after in cc)

only_letter : (place other letter : ℕ) (test : Bool) → eqb other letter ≡ test → (more : List Due)
    → after_mark_of (sign letter place) other ≡ Some more → other ≡ letter
only_letter place other letter true shown more after = eqb-true _ _ shown
only_letter place other letter false shown more after = absurd (let wrong = rw shown at after in cc)

number_stands_so : (due : Due) (value : ℕ) (bytes rest : List ℕ) (more : List Due)
    → StandsNumber value bytes rest → after_number due value ≡ Some more
    → due_number due bytes ≡ Ok (number value, rest)
number_stands_so due value bytes rest more stands after =
    rw (number_again bytes value rest stands, after) refl

item_stands_so : (due : Due) (item : Item) (bytes rest : List ℕ) (more : List Due)
    → after_entry due ≡ None → ((letter : ℕ) → after_mark_of due letter ≡ None)
    → Stands item bytes rest → after_item due item ≡ Some more
    → due_number due bytes ≡ Ok (item, rest)
item_stands_so due (number value) bytes rest more no_entry no_mark stands after =
    number_stands_so due value bytes rest more stands after
item_stands_so due (entry value name) bytes rest more no_entry no_mark stands after =
    absurd (let wrong = sym no_entry ∙ after in cc)
item_stands_so due (mark letter) bytes rest more no_entry no_mark stands after =
    absurd (let wrong = sym (no_mark letter) ∙ after in cc)

entry_stands_so : (item : Item) (bytes rest : List ℕ) (more : List Due) → Stands item bytes rest
    → IsItem item → after_item entries item ≡ Some more → due_at entries bytes ≡ Ok (item, rest)
entry_stands_so (number value) bytes rest more stands good after =
    let nought : value ≡ 0 = only_zero value (eqb value 0) refl more after in
    rw (entries_again.none bytes rest (subst (λ (n : ℕ). StandsNumber n bytes rest) nought stands))
    (ap (λ (n : ℕ). found (number n) rest) (sym nought))
entry_stands_so (entry value name) bytes rest more stands good after =
    let named : Named = record { atom = value; name = name } in
    let is_entry : IsEntry named =
    record {
      atom = record { some = good.0; small = stands.atom_stands.numeral.small };
      name =
          good.1;
    } in
    rw (entries_again.some bytes named rest is_entry (rest, stands, refl)) refl
entry_stands_so (mark letter) bytes rest more stands good after = absurd cc

sign_stands_so : (letter place : ℕ) (item : Item) (bytes rest : List ℕ) (more : List Due)
    → Stands item bytes rest → after_item (sign letter place) item ≡ Some more
    → due_at (sign letter place) bytes ≡ Ok (item, rest)
sign_stands_so letter place (number value) bytes rest more stands after = absurd cc
sign_stands_so letter place (entry value name) bytes rest more stands after = absurd cc
sign_stands_so letter place (mark other) bytes rest more stands after =
    let same : other ≡ letter = only_letter place other letter (eqb other letter) refl more after in
    rw (mark_again letter place bytes rest (eqb_same letter)
    (subst (λ (n : ℕ). StandsMark n bytes rest) same stands))
    (ap (λ (n : ℕ). found (mark n) rest) (sym same))

models_stand_so : (item : Item) (bytes rest : List ℕ) (more : List Due) → Stands item bytes rest
    → after_item models item ≡ Some more → due_at models bytes ≡ Ok (item, rest)
models_stand_so (number value) bytes rest more stands after =
    rw (models_again bytes value rest stands) refl
models_stand_so (entry value name) bytes rest more stands after = absurd cc
models_stand_so (mark other) bytes rest more stands after = absurd cc

due_stands : (due : Due) (item : Item) (bytes rest : List ℕ) (more : List Due)
    → Stands item bytes rest → IsItem item → after_item due item ≡ Some more
    → due_at due bytes ≡ Ok (item, rest)
due_stands rules item bytes rest more stands good after =
    item_stands_so rules item bytes rest more refl (λ letter. refl) stands after
due_stands atom item bytes rest more stands good after =
    item_stands_so atom item bytes rest more refl (λ letter. refl) stands after
due_stands any_number item bytes rest more stands good after =
    item_stands_so any_number item bytes rest more refl (λ letter. refl) stands after
due_stands head_count item bytes rest more stands good after =
    item_stands_so head_count item bytes rest more refl (λ letter. refl) stands after
due_stands (literal_count extra) item bytes rest more stands good after =
    item_stands_so (literal_count extra) item bytes rest more refl (λ letter. refl) stands after
due_stands (negative_count extra literals) item bytes rest more stands good after =
    item_stands_so (negative_count extra literals) item bytes rest more refl (λ letter. refl) stands
    after
due_stands entries item bytes rest more stands good after =
    entry_stands_so item bytes rest more stands good after
due_stands (sign letter place) item bytes rest more stands good after =
    sign_stands_so letter place item bytes rest more stands after
due_stands atoms item bytes rest more stands good after =
    item_stands_so atoms item bytes rest more refl (λ letter. refl) stands after
due_stands models item bytes rest more stands good after =
    models_stand_so item bytes rest more stands after

-- ---- one outcome

-- a text ends well, or with a fault
abbrev pub Outcome : List Due → List ℕ → Option Fault → Type 0
Outcome agenda bytes None = (agenda ≡ []) × IsGap bytes
Outcome agenda bytes (Some fault) = FailsNext agenda bytes fault

trailing_again : (bytes : List ℕ) (fault : Fault) → Trailing bytes fault → end_at bytes ≡ Err fault
unfolding end_at
trailing_again bytes fault trailing =
    ap end_here
    (token_is bytes trailing.token.gap trailing.first trailing.rest trailing.token.between
    trailing.token.parts trailing.token.begins)
    ∙ ap (λ (f : Fault). fault_of {A = List ℕ} f) (sym trailing.fault_is)

same_fault : {A : Type 0} (f g : Fault) (read : Result A Fault) → read ≡ Err f → read ≡ Err g
    → f ≡ g
same_fault {A = A} f g read first second = fault_is {A = A} f g (sym first ∙ second)

nothing_due : (due : Due) (agenda : List Due) → due ∷ agenda ≡ [] → ⊥
nothing_due due agenda e = cc

-- where no field is passed, there is one outcome
now_same : (agenda : List Due) (bytes : List ℕ) (first second : Option Fault)
    → length bytes < 2 ^ 31 → Outcome agenda bytes first → Outcome agenda bytes second
    → first ≡ second
now_same agenda bytes None None few a b = refl
now_same [] bytes None (Some fault) few a b =
    absurd (let wrong = sym (end_again bytes a.1) ∙ trailing_again bytes fault b in cc)
now_same (due ∷ agenda) bytes None (Some fault) few a b = absurd (nothing_due due agenda a.0)
now_same [] bytes (Some fault) None few a b =
    absurd (let wrong = sym (end_again bytes b.1) ∙ trailing_again bytes fault a in cc)
now_same (due ∷ agenda) bytes (Some fault) None few a b = absurd (nothing_due due agenda b.0)
now_same [] bytes (Some fault) (Some other) few a b =
    ap (λ (f : Fault). Some f)
    (same_fault {A = List ℕ} fault other (end_at bytes) (trailing_again bytes fault a)
    (trailing_again bytes other b))
now_same (due ∷ agenda) bytes (Some fault) (Some other) few a b =
    ap (λ (f : Fault). Some f)
    (same_fault {A = Item × List ℕ} fault other (due_at due bytes)
    (due_fails due bytes fault few a) (due_fails due bytes other few b))

-- a step that is taken is one that may be taken
pub record Step (due : Due) (agenda : List Due) (item : Item) (items : List Item)
    (left : List Due) : Type 0 where
  pub more : List Due
  pub after : after_item due item ≡ Some more
  pub ran : run (more ++ agenda) items ≡ Some left

step_of : (due : Due) (agenda : List Due) (item : Item) (items : List Item) (left : List Due)
    (after : Option (List Due)) → after_item due item ≡ after
    → run (due ∷ agenda) (item ∷ items) ≡ Some left → Step due agenda item items left
step_of due agenda item items left None after ran = absurd (let wrong = rw after at ran in cc)
step_of due agenda item items left (Some more) after ran =
    record { more = more; after = after; ran = rw after at ran }

some_due : (a b : List Due) → Some a ≡ Some b → a ≡ b
some_due a b e = cc

-- no outcome comes where a field stands
no_outcome : (agenda : List Due) (bytes : List ℕ) (outcome : Option Fault) (item : Item)
    (items : List Item) (rest : List ℕ) (left : List Due) → length bytes < 2 ^ 31
    → Outcome agenda bytes outcome → Stands item bytes rest → IsItem item
    → run agenda (item ∷ items) ≡ Some left → ⊥
no_outcome [] bytes outcome item items rest left few so stands good ran = cc
no_outcome (due ∷ agenda) bytes None item items rest left few so stands good ran =
    nothing_due due agenda so.0
no_outcome (due ∷ agenda) bytes (Some fault) item items rest left few so stands good ran =
    let step = step_of due agenda item items left (after_item due item) refl ran in
    let wrong =
    sym (due_stands due item bytes rest step.more stands good step.after)
    ∙ due_fails due bytes fault few so in cc

abbrev pair : Item → List ℕ → Item × List ℕ
pair item rest = (item, rest)

pub same_outcome : (items others : List Item) (agenda : List Due) (bytes middle after : List ℕ)
    (left due_then : List Due) (first second : Option Fault) → length bytes < 2 ^ 31
    → PieceRow items bytes middle → AllByRecursion IsItem items → run agenda items ≡ Some left
    → Outcome left middle first
    → PieceRow others bytes after → AllByRecursion IsItem others → run agenda others ≡ Some due_then
    → Outcome due_then after second → first ≡ second
same_outcome [] [] agenda bytes middle after left due_then first second few row good ran so row2
    good2 ran2 so2 =
    let here : Outcome agenda bytes first =
    subst (λ (d : List Due). Outcome d bytes first) (sym (some_due agenda left ran))
    (subst (λ (b : List ℕ). Outcome left b first) (sym row) so) in
    let there : Outcome agenda bytes second =
    subst (λ (d : List Due). Outcome d bytes second) (sym (some_due agenda due_then ran2))
    (subst (λ (b : List ℕ). Outcome due_then b second) (sym row2) so2) in
    now_same agenda bytes first second few here there
same_outcome [] (item ∷ others) agenda bytes middle after left due_then first second few row good
    ran so row2 good2 ran2 so2 =
    let here : Outcome agenda bytes first =
    subst (λ (d : List Due). Outcome d bytes first) (sym (some_due agenda left ran))
    (subst (λ (b : List ℕ). Outcome left b first) (sym row) so) in
    absurd (no_outcome agenda bytes first item others row2.0 due_then few here row2.1 good2.0 ran2)
same_outcome (item ∷ items) [] agenda bytes middle after left due_then first second few row good ran
    so row2 good2 ran2 so2 =
    let there : Outcome agenda bytes second =
    subst (λ (d : List Due). Outcome d bytes second) (sym (some_due agenda due_then ran2))
    (subst (λ (b : List ℕ). Outcome due_then b second) (sym row2) so2) in
    absurd (no_outcome agenda bytes second item items row.0 left few there row.1 good.0 ran)
same_outcome (item ∷ items) (other ∷ others) [] bytes middle after left due_then first second few
    row good ran so row2 good2 ran2 so2 = absurd cc
same_outcome (item ∷ items) (other ∷ others) (due ∷ agenda) bytes middle after left due_then first
    second few row good ran so row2 good2 ran2 so2 =
    let step1 = step_of due agenda item items left (after_item due item) refl ran in
    let step2 = step_of due agenda other others due_then (after_item due other) refl ran2 in
    let read1 = due_stands due item bytes row.0 step1.more row.1 good.0 step1.after in
    let read2 = due_stands due other bytes row2.0 step2.more row2.1 good2.0 step2.after in
    let same : pair item row.0 ≡ pair other row2.0 =
    ok_is (item, row.0) (other, row2.0) (sym read1 ∙ read2) in
    let same_item : item ≡ other = ap (λ (p : Item × List ℕ). p.0) same in
    let same_rest : row.0 ≡ row2.0 = ap (λ (p : Item × List ℕ). p.1) same in
    let same_more : step1.more ≡ step2.more =
    some_due step1.more step2.more
    (sym step1.after ∙ ap (after_item due) same_item ∙ step2.after) in
    let row2_here : PieceRow others row.0 after =
    subst (λ (b : List ℕ). PieceRow others b after) (sym same_rest) row2.2 in
    let ran2_here : run (step1.more ++ agenda) others ≡ Some due_then =
    subst (λ (d : List Due). run (d ++ agenda) others ≡ Some due_then) (sym same_more)
    step2.ran in
    same_outcome items others (step1.more ++ agenda) row.0 middle after left due_then first second
    (omega (arith, few, piece_shrinks item bytes row.0 row.1)) row.2 good.1 step1.ran so row2_here
    good2.1 ran2_here so2
