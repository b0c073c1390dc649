-- Bodies get numbers, and rules whose bodies have numbers stay so when one more follows.
use mathlib.Core.Bool.{beq}
use Rattle.std.proofs.Common.{eqb, ◌&&◌, ◌≡◌, ◌≢◌, ◌≤◌, ◌<◌, ◌+◌, ◌⊎◌, ℕ, Bool, true, false, List}
use Rattle.std.proofs.Common.{[], ◌∷◌, ◌++◌, Some, length, get_or, AllPairs, refl, sym, ap}
use Rattle.std.proofs.Common.{subst, ◌∙◌, arith, if◌then◌else◌, inl, inr, ⊎_elim, slice_get}
use Rattle.std.specs.Bool.{Decides}
use Rattle.std.specs.List.{list_any}
use Rattle.std.proofs.lemmas.Bool.{cases_lt, both_ways}
use Rattle.std.proofs.lemmas.Bool.Decides.{Decides-and, Decides-eqb, Decides-like}
use Rattle.std.proofs.lemmas.List.{length_push, get_or_push}
use Rattle.std.proofs.lemmas.List.{get_or_append_left, take-append-le, take_at}
use Rattle.std.proofs.lemmas.List.Folds.{list_any_at}
use Rattle.std.proofs.lemmas.List.Quantifiers.{all_pairs_push, Any-push}
use Rattle.std.proofs.lemmas.Option.{slice_get_within, slice_get_read}
use Rattle.std.proofs.lemmas.Option.{get_or_from_slice_get}
use Rattle.ground_program.specs.declared.program.Rule.{Rule}
use Rattle.ground_program.specs.declared.program.AtomLit.{AtomLit}
use Rattle.normal_program.specs.declared.normal.Part.{Part}
use Rattle.normal_program.specs.declared.normal.BodyOf.{BodyOf}
use Rattle.normal_program.specs.declared.normal.NormalRule.{NormalRule}
use Rattle.normal_program.specs.Normal.{IsBodyOf, StandsFor, HasNumber, AreInOrder, AreNumbered}
use Rattle.item_list.proofs.ListLemmas.{Any-append_left, slice_get_append, IsSomeAnd-kept}
use Rattle.item_list.proofs.ListLemmas.{AllZip-add, AllZip-weaker}
use Rattle.rule_normaliser.specs.Numbering.{Numbers}

-- the test of two truth values
beq-Decides : (one two : Bool) → Decides (beq one two) (one ≡ two)
beq-Decides true true = (λ e. refl, λ e. refl)
beq-Decides true false = (λ e. cc, λ e. cc)
beq-Decides false true = (λ e. cc, λ e. cc)
beq-Decides false false = (λ e. refl, λ e. refl)

-- the test of two literals
AtomLit-Decides : (one two : AtomLit)
    → Decides (eqb one.atom two.atom && beq one.negated two.negated) (one ≡ two)
AtomLit-Decides one two =
    Decides-like _
    (λ same. λ i. record { atom = same.0 i; negated = same.1 i })
    (λ same. (ap (λ (lit : AtomLit). lit.atom) same, ap (λ (lit : AtomLit). lit.negated) same))
    (Decides-and _ _ (Decides-eqb one.atom two.atom) (beq-Decides one.negated two.negated))

-- the test of two parts
pub Part-Decides : (one two : Part)
    → Decides ((eqb one.lit.atom two.lit.atom && beq one.lit.negated two.lit.negated)
    && eqb one.weight two.weight) (one ≡ two)
Part-Decides one two =
    Decides-like _
    (λ same. λ i. record { lit = same.0 i; weight = same.1 i })
    (λ same. (ap (λ (part : Part). part.lit) same, ap (λ (part : Part). part.weight) same))
    (Decides-and _ _ (AtomLit-Decides one.lit two.lit) (Decides-eqb one.weight two.weight))

-- the test of two bodies
pub BodyOf-Decides : (one two : BodyOf) (parts : Bool) → Decides parts (one.parts ≡ two.parts)
    → Decides (eqb one.bound two.bound && parts) (one ≡ two)
BodyOf-Decides one two parts decides =
    Decides-like _
    (λ same. λ i. record { bound = same.0 i; parts = same.1 i })
    (λ same. (ap (λ (body : BodyOf). body.bound) same, ap (λ (body : BodyOf). body.parts) same))
    (Decides-and _ _ (Decides-eqb one.bound two.bound) decides)

module _ (equal : BodyOf → BodyOf → Bool)
    (decides : (one two : BodyOf) → Decides (equal one two) (one ≡ two)) where
  -- a body that is put among others gets a number
  pub Numbers-insert : (old new : List BodyOf) (body : BodyOf) (number : ℕ)
      → new ≡ (if list_any (equal body) old then old else old ++ body ∷ [])
      → (found : BodyOf) × (slice_get new number ≡ Some found) × (equal body found ≡ true)
      → Numbers old body new number
  Numbers-insert old new body number inserted stored = by (list_any (equal body) old) refl
    where
      same : body ≡ stored.0
      same = (decides body stored.0).0 stored.2

      by : (b : Bool) → list_any (equal body) old ≡ b → Numbers old body new number
      by true e =
          let kept : new ≡ old = inserted ∙ ap (λ b. if b then old else old ++ body ∷ []) e in
          inl (
            kept,
            ap (λ all. slice_get all number) (sym kept) ∙ stored.1 ∙ ap Some (sym same),
          )
      by false e =
          let more : new ≡ old ++ body ∷ [] =
          inserted ∙ ap (λ b. if b then old else old ++ body ∷ []) e in
          let here : slice_get (old ++ body ∷ []) number ≡ Some stored.0 =
          ap (λ all. slice_get all number) (sym more) ∙ stored.1 in
          let within : number < length old + 1 =
          omega (
            arith,
            slice_get_within (old ++ body ∷ []) number stored.0 here,
            length_push old body,
          ) in
          inr (
            (λ k d h other. both_ways (list_any (equal body) old) e
                (list_any_at (equal body) old k d h
                ((decides body (get_or old k d)).1 (sym other)))),
            more,
            ⊎_elim (λ low. absurd (both_ways (list_any (equal body) old) e
                (list_any_at (equal body) old number stored.0 low
                (subst (λ k. equal body k ≡ true)
                (sym
                (sym (get_or_append_left old (body ∷ []) stored.0 number low)
                ∙ get_or_from_slice_get (old ++ body ∷ []) number stored.0 stored.0
                here)) stored.2))))
                (λ high. omega arith)
                (cases_lt number (length old)),
          )

module _ (old : List BodyOf) (body : BodyOf) (new : List BodyOf) (number : ℕ)
    (numbers : Numbers old body new number) where
  -- the body has its number
  pub Numbers-here : slice_get new number ≡ Some body
  Numbers-here = ⊎_elim
      (λ known. ap (λ bodies. slice_get bodies number) known.0 ∙ known.1)
      (λ next. ap (λ bodies. slice_get bodies number) next.1
      ∙ ap (slice_get (old ++ body ∷ [])) next.2
      ∙ slice_get_read (old ++ body ∷ []) (length old + 1) (length old) body
      (sym (length_push old body)) (omega arith)
      (sym (get_or_push old body body (length old) refl)))
      numbers

  -- the other bodies keep theirs
  pub Numbers-kept : (at : ℕ) (other : BodyOf) → slice_get old at ≡ Some other
      → slice_get new at ≡ Some other
  Numbers-kept at other here = ⊎_elim
      (λ known. ap (λ bodies. slice_get bodies at) known.0 ∙ here)
      (λ next. ap (λ bodies. slice_get bodies at) next.1
      ∙ slice_get_append old (body ∷ []) at other here)
      numbers

  -- at most one number is new, and it is the next
  pub Numbers-few : length new ≤ length old + 1
  Numbers-few = ⊎_elim
      (λ known. omega (arith, ap length known.0))
      (λ next. omega (arith, ap length next.1, length_push old body))
      numbers

  pub Numbers-next : number ≤ length old
  Numbers-next = ⊎_elim
      (λ known. omega (arith, slice_get_within old number body known.1))
      (λ next. omega (arith, next.2))
      numbers

  -- a number that some body has was there, or is that of the body
  pub Numbers-cases : (at : ℕ) → at < length new → (at < length old) ⊎ (at ≡ number)
  Numbers-cases at within = ⊎_elim
      (λ known. inl (omega (arith, ap length known.0)))
      (λ next. ⊎_elim (λ low. inl low)
      (λ high. inr (omega (arith, ap length next.1, length_push old body, next.2)))
      (cases_lt at (length old)))
      numbers

  -- bodies that differ go on differing
  pub Numbers-differ : AllPairs (λ earlier later. earlier ≢ later) old
      → AllPairs (λ earlier later. earlier ≢ later) new
  Numbers-differ differ = ⊎_elim
      (λ known. subst (AllPairs (λ earlier later. earlier ≢ later)) (sym known.0) differ)
      (λ next. subst (AllPairs (λ earlier later. earlier ≢ later)) (sym next.1)
      (all_pairs_push (λ earlier later. earlier ≢ later) old body differ next.0))
      numbers

  module _ (normals : List NormalRule) (rules : List Rule)
      (numbered : AreNumbered old normals rules) (normal : NormalRule) (rule : Rule)
      (kind : normal.kind ≡ rule.kind) (heads : normal.heads ≡ rule.heads)
      (at : normal.body ≡ number) (of_rule : IsBodyOf rule body) where
    -- one more rule
    pub AreNumbered-push : AreNumbered new (normals ++ normal ∷ []) (rules ++ rule ∷ [])
    AreNumbered-push = record {
      each =
          AllZip-add (StandsFor new) normals rules normal rule
          (AllZip-weaker (StandsFor old) (StandsFor new) still normals rules numbered.each)
          stands;
      differ = Numbers-differ numbered.differ;
      used = λ k within. ⊎_elim
          (λ low. Any-append_left (λ one. one.body ≡ k) normals (normal ∷ []) (numbered.used k low))
          (λ same. Any-push (λ one. one.body ≡ k) normals normal (at ∙ sym same))
          (Numbers-cases k within);
      order = in_order;
    }
      where
        still : (one : NormalRule) (source : Rule) → StandsFor old one source
            → StandsFor new one source
        still one source fact =
            record {
              kind = fact.kind;
              heads = fact.heads;
              body =
                  IsSomeAnd-kept (IsBodyOf source) (slice_get old one.body) (slice_get new one.body)
                  (Numbers-kept one.body) fact.body;
            }

        stands : StandsFor new normal rule
        stands =
            record {
              kind = kind;
              heads = heads;
              body =
                  IsSomeAnd-kept (IsBodyOf rule) (Some body) (slice_get new normal.body)
                  (λ x same. ap (slice_get new) at ∙ Numbers-here ∙ same) of_rule;
            }

        in_order : AreInOrder (normals ++ normal ∷ [])
        in_order place one here k less = ⊎_elim
            (λ low.
            let there : get_or (normals ++ normal ∷ []) place one ≡ one =
            get_or_from_slice_get (normals ++ normal ∷ []) place one one here in
            let seen : slice_get normals place ≡ Some one =
            slice_get_read normals (length normals) place one refl low
            (sym there ∙ get_or_append_left normals (normal ∷ []) one place low) in
            subst (λ before. HasNumber before k)
            (sym (take-append-le place normals (normal ∷ []) (omega arith)))
            (numbered.order place one seen k less))
            (λ high.
            let within : place < length normals + 1 =
            omega (
              arith,
              slice_get_within (normals ++ normal ∷ []) place one here,
              length_push normals normal,
            ) in
            let last : place ≡ length normals = omega arith in
            let there : get_or (normals ++ normal ∷ []) place one ≡ one =
            get_or_from_slice_get (normals ++ normal ∷ []) place one one here in
            let same : normal ≡ one =
            sym (get_or_push normals normal one place (sym last)) ∙ there in
            let low : k < length old =
            omega (arith, less, ap (λ (r : NormalRule). r.body) same, at, Numbers-next) in
            subst (λ before. HasNumber before k)
            (sym (take_at normals (normal ∷ []) place (sym last))) (numbered.used k low))
            (cases_lt place (length normals))
