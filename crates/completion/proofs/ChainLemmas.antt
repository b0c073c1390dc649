-- The chains in which the bodies of rules are gathered.
use Rattle.std.proofs.Common.{◌≡◌, ◌≤◌, ◌<◌, ◌+◌, ◌-◌, ℕ, eqb, cond, List, [], ◌∷◌, ◌++◌, length}
use Rattle.std.proofs.Common.{length-append, length-set, get_or, get_or-set_same, get_or-set_other}
use Rattle.std.proofs.Common.{slice_set, map, filter, flat_map, reverse, replicate, refl, sym, ap}
use Rattle.std.proofs.Common.{subst, ◌∙◌, arith, append_assoc, append-nil, ⊎_elim}
use Rattle.std.proofs.lemmas.Bool.{eq-eqb, ne_eqb, cases_eq}
use Rattle.std.proofs.lemmas.List.{map-append, length-replicate, get_or-replicate, get_or_push}
use Rattle.std.proofs.lemmas.List.{get_or_append_left, reverse-append, reverse-reverse}
use Rattle.std.proofs.lemmas.List.{get_or_default}
use Rattle.std.proofs.lemmas.List.Elements.{filter-append}
use Rattle.std.proofs.lemmas.List.Concat.{flat_map-append}
use Rattle.clause_store.specs.declared.literal.Lit.{Lit}
use Rattle.normal_program.specs.declared.normal.NormalRule.{NormalRule}
use Rattle.normal_program.specs.declared.normal.Normal.{Normal}
use Rattle.normal_program.specs.Normal.{body_var}
use Rattle.normal_program.specs.Clauses.{positive}
use Rattle.completion.specs.declared.support_clauses.Note.{Note}
use Rattle.completion.specs.declared.support_clauses.Supports.{Supports}
use Rattle.completion.specs.Filling.{supports_of}
use Rattle.completion.specs.Chains.{note_of, IsLink, IsChain, HasChain, AreSupports, Puts, NotesAll}

abbrev blank : Note
blank = record { body = record { 0 = 0 }; before = 0 }

module _ (notes : List Note) (note : Note) where
  -- a note stays, where one is put last
  note_kept : (number : ℕ) → 1 ≤ number → number ≤ length notes
      → note_of (notes ++ note ∷ []) number ≡ note_of notes number
  note_kept number first last =
      get_or_append_left notes (note ∷ []) blank (number - 1) (omega (arith, first, last))

  -- and so does a chain
  chain_kept : (number : ℕ) (lits : List Lit) → IsChain notes number lits
      → IsChain (notes ++ note ∷ []) number lits
  chain_kept number [] chain = chain
  chain_kept number (lit ∷ lits) chain =
      let link = chain.0 in
      let same = note_kept number link.first link.last in (
        record {
          first = link.first;
          last = omega (arith, link.last, length-append notes (note ∷ []));
          noted = ap (λ (one : Note). one.body) same ∙ link.noted;
          back = subst (λ (one : Note). one.before < number) (sym same) link.back;
        },
        subst (λ (one : Note). IsChain (notes ++ note ∷ []) one.before lits) (sym same)
            (chain_kept (note_of notes number).before lits chain.1),
      )

-- a chain ends within the notes
chain_within : (notes : List Note) (number : ℕ) (lits : List Lit) → IsChain notes number lits
    → number ≤ length notes
chain_within notes number [] chain = omega (arith, chain)
chain_within notes number (lit ∷ lits) chain = chain.0.last

-- a note put last makes a chain longer
chain_more : (notes : List Note) (number : ℕ) (lits : List Lit) (lit : Lit)
    → IsChain notes number lits
    → IsChain (notes ++ record { body = lit; before = number } ∷ []) (length notes + 1)
    (lit ∷ lits)
chain_more notes number lits lit chain =
    let note : Note = record { body = lit; before = number } in
    let same : note_of (notes ++ note ∷ []) (length notes + 1) ≡ note =
    get_or_push notes note blank (length notes + 1 - 1) (omega arith) in
    let low : number < length notes + 1 = omega (arith, chain_within notes number lits chain) in (
      record {
        first = omega arith;
        last = omega (arith, length-append notes (note ∷ []));
        noted = ap (λ (one : Note). one.body) same;
        back = subst (λ (one : Note). one.before < length notes + 1) (sym same) low;
      },
      subst (λ (one : Note). IsChain (notes ++ note ∷ []) one.before lits) (sym same)
          (chain_kept notes note number lits chain),
    )

-- one note ends one chain
chain_same : (notes : List Note) (number : ℕ) (xs ys : List Lit) → IsChain notes number xs
    → IsChain notes number ys → xs ≡ ys
chain_same notes number [] [] one two = refl
chain_same notes number [] (y ∷ ys) one two = absurd (omega (arith, one, two.0.first))
chain_same notes number (x ∷ xs) [] one two = absurd (omega (arith, two, one.0.first))
chain_same notes number (x ∷ xs) (y ∷ ys) one two =
    ap (λ (lit : Lit). lit ∷ xs) (sym one.0.noted ∙ two.0.noted)
    ∙ ap (λ (lits : List Lit). y ∷ lits)
    (chain_same notes (note_of notes number).before xs ys one.1 two.1)

-- literals that make a chain backwards are those of it, turned round
pub chain_turned : (notes : List Note) (number : ℕ) (xs ys : List Lit) → IsChain notes number xs
    → IsChain notes number (reverse ys) → reverse xs ≡ ys
chain_turned notes number xs ys one two =
    ap (λ (lits : List Lit). reverse lits) (chain_same notes number xs (reverse ys) one two)
    ∙ reverse-reverse ys

-- a chain is read back to a number: these literals are read, and the rest is ahead
pub record IsRead (notes : List Note) (last number : ℕ) (lits : List Lit) : Type 0 where
  pub rest : List Lit
  pub ahead : IsChain notes number rest
  pub whole : IsChain notes last (lits ++ rest)

module _ (notes : List Note) (last : ℕ) where
  -- nothing is read yet
  pub read_none : (lits : List Lit) → lits ≡ [] → HasChain notes last
      → IsRead notes last last lits
  read_none lits none chain = record {
    rest = chain.0;
    ahead = chain.1;
    whole = subst (λ (some : List Lit). IsChain notes last (some ++ chain.0)) (sym none) chain.1;
  }

  module _ (number : ℕ) (lits : List Lit) (read : IsRead notes last number lits) where
    -- there is a note, unless the end was reached
    pub read_link : (number ≡ 0 → ⊥) → IsLink notes number (note_of notes number).body
    read_link more = by read.rest read.ahead
      where
        by : (rest : List Lit) → IsChain notes number rest
            → IsLink notes number (note_of notes number).body
        by [] ahead = absurd (more ahead)
        by (lit ∷ rest) ahead = subst (IsLink notes number) (sym ahead.0.noted) ahead.0

    -- its literal is read
    pub read_more : (number ≡ 0 → ⊥)
        → IsRead notes last (note_of notes number).before
        (lits ++ (note_of notes number).body ∷ [])
    read_more more = by read.rest read.ahead read.whole
      where
        by : (rest : List Lit) → IsChain notes number rest → IsChain notes last (lits ++ rest)
            → IsRead notes last (note_of notes number).before
            (lits ++ (note_of notes number).body ∷ [])
        by [] ahead whole = absurd (more ahead)
        by (lit ∷ rest) ahead whole =
            let body = (note_of notes number).body in
            record {
              rest = rest;
              ahead = ahead.1;
              whole = subst (IsChain notes last) (sym (append_assoc lits (body ∷ []) rest))
                  (subst (λ (one : Lit). IsChain notes last (lits ++ one ∷ rest))
                  (sym ahead.0.noted) whole);
            }

    -- all is read at the end
    pub read_all : number ≡ 0 → IsChain notes last lits
    read_all end = by read.rest read.ahead read.whole
      where
        by : (rest : List Lit) → IsChain notes number rest → IsChain notes last (lits ++ rest)
            → IsChain notes last lits
        by [] ahead whole = subst (IsChain notes last) (append-nil lits) whole
        by (lit ∷ rest) ahead whole = absurd (omega (arith, end, ahead.0.first))

-- the chain of an atom after a literal was put into that of a head
put_chain : (head : ℕ) (lit : Lit) (old new : Supports) → head < length old.lasts.items
    → Puts head lit old new → (atom : ℕ) (lits : List Lit)
    → IsChain old.notes.items (get_or old.lasts.items atom 0) (reverse lits)
    → IsChain new.notes.items (get_or new.lasts.items atom 0)
    (reverse (lits ++ map (λ one. lit) (filter (λ one. eqb one atom) (head ∷ []))))
put_chain head lit old new within puts atom lits chain =
    let size = length old.notes.items + 1 in
    let note : ℕ → Note = λ number. record { body = lit; before = number } in
    let names : List Lit = map (λ one. lit) (filter (λ one. eqb one atom) (head ∷ [])) in
    ⊎_elim
    (λ same.
    let mine : names ≡ lit ∷ [] =
    ap (λ b. map (λ one. lit) (cond b (head ∷ []) [])) (eq-eqb head atom same) in
    let turned : lit ∷ reverse lits ≡ reverse (lits ++ names) =
    sym (reverse-append lits (lit ∷ [])) ∙ ap (λ l. reverse (lits ++ l)) (sym mine) in
    let last : size ≡ get_or new.lasts.items atom 0 =
    sym
    (ap (λ l. get_or l atom 0) puts.last
    ∙ ap (λ a. get_or (slice_set old.lasts.items head size) a 0) (sym same)
    ∙ get_or-set_same old.lasts.items head size 0 within) in
    let notes : old.notes.items ++ note (get_or old.lasts.items atom 0) ∷ [] ≡ new.notes.items =
    ap (λ a. old.notes.items ++ note (get_or old.lasts.items a 0) ∷ []) (sym same)
    ∙ sym puts.noted in
    subst (λ (l : List Lit). IsChain new.notes.items (get_or new.lasts.items atom 0) l) turned
    (subst (λ n. IsChain new.notes.items n (lit ∷ reverse lits)) last
    (subst (λ (l : List Note). IsChain l size (lit ∷ reverse lits)) notes
    (chain_more old.notes.items (get_or old.lasts.items atom 0) (reverse lits) lit chain))))
    (λ other.
    let none : names ≡ [] =
    ap (λ b. map (λ one. lit) (cond b (head ∷ []) [])) (ne_eqb head atom other) in
    let turned : reverse lits ≡ reverse (lits ++ names) =
    ap (λ (l : List Lit). reverse l) (sym (ap (λ l. lits ++ l) none ∙ append-nil lits)) in
    let last : get_or old.lasts.items atom 0 ≡ get_or new.lasts.items atom 0 =
    sym
    (ap (λ l. get_or l atom 0) puts.last
    ∙ get_or-set_other old.lasts.items head atom size 0 (λ e. other (sym e))) in
    subst (λ (l : List Lit). IsChain new.notes.items (get_or new.lasts.items atom 0) l) turned
    (subst (λ n. IsChain new.notes.items n (reverse lits)) last
    (subst (λ (l : List Note). IsChain l (get_or old.lasts.items atom 0) (reverse lits))
    (sym puts.noted)
    (chain_kept old.notes.items (note (get_or old.lasts.items head 0))
    (get_or old.lasts.items atom 0) (reverse lits) chain))))
    (cases_eq head atom)

-- no head yet
pub NotesAll-none : (lit : Lit) (supports : Supports) → NotesAll [] lit supports supports
NotesAll-none lit supports = record {
  count = refl;
  each = λ atom lits chain.
      subst
      (λ (l : List Lit). IsChain supports.notes.items (get_or supports.lasts.items atom 0)
      (reverse l))
      (sym (append-nil lits)) chain;
}

-- one more head
pub NotesAll-more : (heads : List ℕ) (head : ℕ) (lit : Lit) (old mid new : Supports)
    → NotesAll heads lit old mid → head < length mid.lasts.items → Puts head lit mid new
    → NotesAll (heads ++ head ∷ []) lit old new
NotesAll-more heads head lit old mid new notes within puts = record {
  count = ap length puts.last
      ∙ length-set mid.lasts.items head (length mid.notes.items + 1) ∙ notes.count;
  each = λ atom lits chain.
      let names : List ℕ → List Lit = λ some. map (λ one. lit) (filter (λ one. eqb one atom) some)
      in
      let more : names (heads ++ head ∷ []) ≡ names heads ++ names (head ∷ []) =
      ap (map (λ one. lit)) (filter-append (λ one. eqb one atom) heads (head ∷ []))
      ∙ map-append (λ one. lit) (filter (λ one. eqb one atom) heads)
      (filter (λ one. eqb one atom) (head ∷ [])) in
      subst
      (λ (l : List Lit). IsChain new.notes.items (get_or new.lasts.items atom 0) (reverse l))
      (append_assoc lits (names heads) (names (head ∷ [])) ∙ ap (λ l. lits ++ l) (sym more))
      (put_chain head lit mid new within puts atom (lits ++ names heads)
      (notes.each atom lits chain));
}

-- no rule yet
pub AreSupports-none : (normal : Normal) (supports : Supports)
    → supports.lasts.items ≡ replicate (normal.atoms + 1) 0 → AreSupports normal [] supports
AreSupports-none normal supports empty = record {
  count = ap length empty ∙ length-replicate (normal.atoms + 1) 0;
  each =
      λ atom low. ap (λ l. get_or l atom 0) empty
      ∙ get_or-replicate (normal.atoms + 1) atom 0 0 (omega (arith, low));
}

-- one more rule
pub AreSupports-more : (normal : Normal) (rules : List NormalRule) (rule : NormalRule)
    (old new : Supports) → AreSupports normal rules old
    → NotesAll rule.heads (positive (body_var normal rule.body)) old new
    → AreSupports normal (rules ++ rule ∷ []) new
AreSupports-more normal rules rule old new supports notes = record {
  count = notes.count ∙ supports.count;
  each = λ atom low.
      let row : NormalRule → List Lit =
      λ one. map (λ head. positive (body_var normal one.body))
      (filter (λ head. eqb head atom) one.heads) in
      subst
      (λ (l : List Lit). IsChain new.notes.items (get_or new.lasts.items atom 0) (reverse l))
      (sym
      (flat_map-append row rules (rule ∷ [])
      ∙ ap (λ l. flat_map row rules ++ l) (append-nil (row rule))))
      (notes.each atom (supports_of normal rules atom) (supports.each atom low));
}

-- literals that were read back from the last note of an atom and turned round are its bodies
pub read_supports : (normal : Normal) (supports : Supports) (atom : ℕ) (notes : List Note)
    (last : ℕ) (lits turned : List Lit) → AreSupports normal normal.rules supports
    → atom ≤ normal.atoms → notes ≡ supports.notes.items
    → last ≡ get_or supports.lasts.items atom last → IsChain notes last lits
    → turned ≡ reverse lits → turned ≡ supports_of normal normal.rules atom
read_supports normal supports atom notes last lits turned are low same here chain round =
    let place : last ≡ get_or supports.lasts.items atom 0 =
    here
    ∙ sym (get_or_default supports.lasts.items atom 0 last (omega (arith, low, are.count))) in
    round
    ∙ chain_turned supports.notes.items (get_or supports.lasts.items atom 0) lits
    (supports_of normal normal.rules atom)
    (subst (λ n. IsChain supports.notes.items n lits) place
    (subst (λ (l : List Note). IsChain l last lits) same chain))
    (are.each atom low)
