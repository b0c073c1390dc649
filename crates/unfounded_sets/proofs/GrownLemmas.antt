-- Sets of atoms that literals shut: no rule founds them, and the loop clause that denies one.
use Rattle.std.proofs.Common.{◌≡◌, ◌≢◌, ◌≤◌, ◌<◌, ◌+◌, ◌*◌, ℕ, Bool, true, false, not, List, []}
use Rattle.std.proofs.Common.{◌∷◌, ◌++◌, length, map, get_or, refl, sym, ap, ◌∙◌, subst, inl}
use Rattle.std.proofs.Common.{Some, take, inr, arith, slice_get, if◌then◌else◌, ⊎_elim, length-set}
use Rattle.std.specs.List.{range_with_len}
use Rattle.std.specs.Prelude.{All, Contains, IsSomeAnd, ◌||◌, ◌&&◌}
use Rattle.std.proofs.lemmas.Bool.{cases_Bool, both_ways, false≢true}
use Rattle.std.proofs.lemmas.List.{get_or-map, length-map}
use Rattle.std.proofs.lemmas.List.{get_or_default, append-nil, take_more}
use Rattle.std.proofs.lemmas.List.FromFn.{get_or-range_with_len, length-range_with_len}
use Rattle.std.proofs.lemmas.List.Elements.{All-nil, All-push, All-map, All-contains, All-weaker}
use Rattle.std.proofs.lemmas.List.Elements.{Contains-push, Contains-append_left, Contains-get_or}
use Rattle.std.proofs.lemmas.List.Quantifiers.{all_pairs_push}
use Rattle.std.proofs.lemmas.List.Sums.{sum_by_push}
use Rattle.std.proofs.lemmas.Option.{slice_get-get_or}
use Rattle.item_list.proofs.ListLemmas.{sum_by-le_each}
use Rattle.ground_program.specs.Meaning.{has, IsIn, IsPart}
use Rattle.clause_store.specs.declared.literal.Lit.{Lit}
use Rattle.clause_store.specs.declared.literal.Value.{Value}
use Rattle.clause_store.specs.declared.literal.Value.TheVariants.{Yes, No, Unset}
use Rattle.clause_store.specs.declared.step.Step.{Step}
use Rattle.clause_store.specs.Clause.{variable, IsOver, HasNoVariableTwice}
use Rattle.clause_store.specs.Trail.{Assigned, value_of}
use Rattle.clause_store.specs.Standing.{IsFalse}
use Rattle.clause_store.proofs.LiteralLemmas.{any_from}
use Rattle.normal_program.specs.declared.normal.Part.{Part}
use Rattle.normal_program.specs.declared.normal.BodyOf.{BodyOf}
use Rattle.normal_program.specs.declared.normal.NormalRule.{NormalRule}
use Rattle.normal_program.specs.declared.normal.Normal.{Normal}
use Rattle.normal_program.specs.Normal.{body_var, greatest_body_var}
use Rattle.normal_program.specs.Clauses.{positive, negative, literal_of, has_lit, has_atom}
use Rattle.normal_program.specs.Loop.{IsAtomOf, IsLoopClause, AnswersFor, is_beside, weight_beside}
use Rattle.normal_program.specs.Range.{IsInRange}
use Rattle.normal_program.proofs.lemmas.Base.TruthLemmas.{variable-negative}
use Rattle.unfounded_sets.specs.Founding.{is_false, IsReached, IsClosed, counts_with}
use Rattle.unfounded_sets.specs.Founding.{founding_weight, IsFounded}
use Rattle.unfounded_sets.specs.Found.{IsGiven, IsLoopWritten}
use Rattle.unfounded_sets.specs.Grown.{coded, weight_apart, IsShut, IsShutFor, AreAtoms, AreLits}
use Rattle.unfounded_sets.specs.Grown.{AddsLits}
use Rattle.unfounded_sets.specs.Grown.{IsGrown, IsOpenIn, apart_of, possible_of}
use Rattle.unfounded_sets.specs.Members.{Marked, IsListed, IsAdded}
use Rattle.unfounded_sets.specs.declared.grown.Grown.{Grown}
use Rattle.unfounded_sets.specs.declared.places.Places.{Places}
use Rattle.unfounded_sets.specs.Placed.{ArePlaces, IsHead}
use Rattle.unfounded_sets.specs.Rounds.{IsCovered}
use Rattle.unfounded_sets.specs.Wanted.{is_over, weight_off, weight_possible}
use Rattle.unfounded_sets.proofs.FoundingLemmas.{added_more, some_weaker}
use Rattle.unfounded_sets.proofs.LoopLemmas.{cells, if_positive, lit_found, atom_found, unset_apart}
use Rattle.unfounded_sets.proofs.MemberLemmas.{added_all}
use Rattle.unfounded_sets.proofs.ValueLemmas.{not_false_is, same_false}
use Rattle.unfounded_sets.proofs.ValueLemmas.{false_is, false_atom}

-- ---- picking literals

either_less : (a b c : Bool) (weight : ℕ) → (c ≡ true → a ≡ true)
    → (if a || b then 0 else weight) ≤ (if c || b then 0 else weight)
either_less true b c weight more = omega arith
either_less false true c weight more = omega arith
either_less false false true weight more = absurd (false≢true (more refl))
either_less false false false weight more = omega arith

-- more literals leave less
pub apart_less : (over less more : List Bool) (parts : List Part) → IsPart less more
    → weight_apart over more parts ≤ weight_apart over less parts
apart_less over less more parts is =
    sum_by-le_each
    (apart_of over more) (apart_of over less) parts
    (λ k d within. let it = get_or parts k d in
    either_less (has more (literal_of it.lit).0) (is_over over it.lit)
    (has less (literal_of it.lit).0) it.weight (is (literal_of it.lit).0))

-- what is left is no more than what isn't over the set
pub apart_off : (over lits : List Bool) (parts : List Part)
    → weight_apart over lits parts ≤ weight_off over parts
apart_off over lits parts =
    sum_by-le_each
    (apart_of over lits)
    (λ (it : Part). if is_over over it.lit then 0 else it.weight)
    parts
    (λ k d within. let it = get_or parts k d in
    either_less (has lits (literal_of it.lit).0) (is_over over it.lit) false it.weight
    (λ is. absurd (false≢true is)))

module _ (steps : List Step) (over : List Bool) where
  -- one literal of a body more
  pub pick_step : (front : List Part) (it : Part) (before after : List Bool)
      (left now lacked : ℕ)
      → weight_apart over before front + left ≤ weight_possible steps over front + lacked
      → IsPart before after
      → apart_of over after it + now ≤ possible_of steps over it + left
      → weight_apart over after (front ++ it ∷ []) + now
      ≤ weight_possible steps over (front ++ it ∷ []) + lacked
  pick_step front it before after left now lacked so_far more step =
      omega (
        arith,
        so_far,
        step,
        apart_less over before after front more,
        sum_by_push (apart_of over after) front it,
        sum_by_push (possible_of steps over) front it,
      )

  pub pick_at : (items : List Part) (at : ℕ) (d : Part) (before after : List Bool)
      (left now lacked : ℕ)
      → weight_apart over before (take at items) + left
      ≤ weight_possible steps over (take at items) + lacked
      → IsPart before after → at < length items
      → apart_of over after (get_or items at d) + now
      ≤ possible_of steps over (get_or items at d) + left
      → weight_apart over after (take (at + 1) items) + now
      ≤ weight_possible steps over (take (at + 1) items) + lacked
  pick_at items at d before after left now lacked so_far more within step =
      subst
      (λ front. weight_apart over after front + now
      ≤ weight_possible steps over front + lacked)
      (sym (take_more items at d within))
      (pick_step (take at items) (get_or items at d) before after left now lacked so_far more step)

-- ---- shutting

-- more literals shut as much
pub shut_more : (normal : Normal) (over less more : List Bool) (number : ℕ) → IsPart less more
    → IsShut normal over less number → IsShut normal over more number
shut_more normal over less more number is (inl here) =
    inl (is (positive (body_var normal number)).0 here)
shut_more normal over less more number is (inr below) =
    inr
    (some_weaker (λ (body : BodyOf). weight_apart over less body.parts < body.bound)
    (λ (body : BodyOf). weight_apart over more body.parts < body.bound)
    (slice_get normal.bodies number)
    (λ body low. omega (arith, low, apart_less over less more body.parts is)) below)

pub shut_for_more : (normal : Normal) (over less more : List Bool) (atom : ℕ) → IsPart less more
    → IsShutFor normal over less atom → IsShutFor normal over more atom
shut_for_more normal over less more atom is shut number head =
    shut_more normal over less more number is (shut number head)

-- nothing was added
pub adds_none : (normal : Normal) (old : Marked) → AreLits normal old → AddsLits normal old old
adds_none normal old lits = record { lits = lits; more = λ one here. here }

pub adds_then : (normal : Normal) (one two three : Marked) → AddsLits normal one two
    → AddsLits normal two three → AddsLits normal one three
adds_then normal one two three first second = record {
  lits = second.lits;
  more = λ code here. second.more code (first.more code here);
}

-- a body that literals hold below its bound
pub shut_below : (normal : Normal) (over lits : List Bool) (number : ℕ) (body : BodyOf)
    → slice_get normal.bodies number ≡ Some body → weight_apart over lits body.parts < body.bound
    → IsShut normal over lits number
shut_below normal over lits number body there low =
    inr
    (subst (λ o. IsSomeAnd o (λ (one : BodyOf). weight_apart over lits one.parts < one.bound))
    (sym there) low)

-- the literal of a body's variable is over the atoms and bodies
pub body_over : (normal : Normal) (number : ℕ) (lit : Lit) → number < length normal.bodies
    → lit.0 ≡ 2 * body_var normal number → IsOver (greatest_body_var normal) lit
body_over normal number lit within is =
    record { first = omega (arith, is, within); last = omega (arith, is, within) }

-- bodies and atoms one after the other
pub bodies_then : (normal : Normal) (over : List Bool) (before after : Marked) (numbers : List ℕ)
    (number : ℕ) → IsPart before.marks after.marks
    → All (IsShut normal over before.marks) numbers → IsShut normal over after.marks number
    → All (IsShut normal over after.marks) (numbers ++ number ∷ [])
bodies_then normal over before after numbers number more so_far here =
    All-push (IsShut normal over after.marks) numbers number
    (All-weaker (IsShut normal over before.marks) (IsShut normal over after.marks)
    (λ one is. shut_more normal over before.marks after.marks one more is) numbers so_far) here

pub atoms_then : (normal : Normal) (over : List Bool) (before after : Marked) (atoms : List ℕ)
    (atom : ℕ) → IsPart before.marks after.marks
    → All (IsShutFor normal over before.marks) atoms → IsShutFor normal over after.marks atom
    → All (IsShutFor normal over after.marks) (atoms ++ atom ∷ [])
atoms_then normal over before after atoms atom more so_far here =
    All-push (IsShutFor normal over after.marks) atoms atom
    (All-weaker (IsShutFor normal over before.marks) (IsShutFor normal over after.marks)
    (λ one is. shut_for_more normal over before.marks after.marks one more is) atoms so_far) here

-- the bodies of all rules for an atom
pub all_bodies : (normal : Normal) (places : Places) (over lits : List Bool) (atom : ℕ)
    (numbers : List ℕ) → ArePlaces normal places → numbers ≡ get_or places.supports atom []
    → All (IsShut normal over lits) numbers → IsShutFor normal over lits atom
all_bodies normal places over lits atom numbers are is shut number head =
    All-contains (IsShut normal over lits) numbers number shut
    (subst (λ (all : List ℕ). Contains all number) (sym is) ((are.supports atom number).1 head))

-- the code of a literal is below those of the variables behind
pub code_within : (normal : Normal) (lits : Marked) (lit : Lit) → AreLits normal lits
    → IsOver (greatest_body_var normal) lit → lit.0 < length lits.marks
code_within normal lits lit are is = omega (arith, are.size, is.last)

-- a literal was added
pub adds_one : (normal : Normal) (old new : Marked) (lit : Lit) → AreLits normal old
    → IsOver (greatest_body_var normal) lit → IsAdded lit.0 old new → AddsLits normal old new
adds_one normal old new lit are is added = record {
  lits = record {
    size =
        ap length added.marks ∙ length-set old.marks lit.0 true ∙ are.size;
    over =
        added_all (λ code. IsOver (greatest_body_var normal) (coded code)) lit.0 old new added
        are.over is;
  };
  more = subst (IsPart old.marks) (sym added.marks)
      (added_more old.marks lit.0 (code_within normal old lit are is));
}

-- an atom was added
pub atoms_one : (normal : Normal) (old new : Marked) (atom : ℕ) → AreAtoms normal old
    → IsAtomOf normal atom → IsAdded atom old new → AreAtoms normal new
atoms_one normal old new atom are is added = record {
  size = ap length added.marks ∙ length-set old.marks atom true ∙ are.size;
  are = added_all (IsAtomOf normal) atom old new added are.are is;
}

-- none is there
pub atoms_none : (normal : Normal) (it : Marked) → length it.marks ≡ normal.atoms + 1
    → it.list ≡ [] → AreAtoms normal it
atoms_none normal it size is = record {
  size = size;
  are = subst (All (IsAtomOf normal)) (sym is) (All-nil (IsAtomOf normal));
}

pub lits_none : (normal : Normal) (it : Marked)
    → length it.marks ≡ 2 * greatest_body_var normal + 2 → it.list ≡ [] → AreLits normal it
lits_none normal it size is = record {
  size = size;
  over =
      subst (All (λ code. IsOver (greatest_body_var normal) (coded code))) (sym is)
      (All-nil (λ code. IsOver (greatest_body_var normal) (coded code)));
}

pub shut_none : (normal : Normal) (over lits : List Bool) (list : List ℕ) → list ≡ []
    → All (IsShutFor normal over lits) list
shut_none normal over lits list is =
    subst (All (IsShutFor normal over lits)) (sym is) (All-nil (IsShutFor normal over lits))

-- literals over the atoms and bodies are over the trail's variables
pub over_trail : (normal : Normal) (vars : ℕ) (lits : Marked) → IsCovered normal vars
    → AreLits normal lits → All (λ code. IsOver vars (coded code)) lits.list
over_trail normal vars lits covered are k d within =
    let here = are.over k d within in
    record { first = here.first; last = omega (arith, here.last, covered.over) }

-- where the next atom stands says nothing of the set
pub grown_next : (normal : Normal) (old new : Grown) → IsGrown normal old
    → new ≡ record old { next = new.next } → IsGrown normal new
grown_next normal old new is same =
    subst (IsGrown normal) (sym same)
    (record { atoms = is.atoms; lits = is.lits; shut = is.shut })

-- ---- no rule founds the atoms of a set that is shut by false literals

not_true : (b : Bool) → not b ≡ true → b ≡ false
not_true true is = absurd (false≢true is)
not_true false is = refl

both_true : (a b : Bool) → a ≡ true → b ≡ true → (a && b) ≡ true
both_true true b one two = two
both_true false b one two = absurd (false≢true one)

first_true : (a b : Bool) → (a && b) ≡ true → a ≡ true
first_true true b is = refl
first_true false b is = absurd (false≢true is)

second_true : (a b : Bool) → (a && b) ≡ true → b ≡ true
second_true true b is = is
second_true false b is = absurd (false≢true is)

not_of : (b : Bool) → b ≡ false → not b ≡ true
not_of b is = ap not is

module _ (normal : Normal) (steps : List Step) (atoms lits : Marked) (atoms_listed : IsListed atoms)
    (lits_listed : IsListed lits) (range : IsInRange normal)
    (are : All (IsAtomOf normal) atoms.list)
    (shut : All (IsShutFor normal atoms.marks lits.marks) atoms.list)
    (falses : All (λ code. IsFalse steps (coded code)) lits.list) where
  -- a literal that is among them is false
  lit_false : (lit : Lit) → IsIn lits.marks lit.0 → IsFalse steps lit
  lit_false lit here =
      All-contains (λ code. IsFalse steps (coded code)) lits.list lit.0 falses
      (lits_listed.has lit.0 here)

  -- the atoms that are neither false nor in the set
  abbrev is_beyond : ℕ → Bool
  is_beyond atom = not (is_false steps (positive atom)) && not (has atoms.marks atom)

  abbrev beyond : List Bool
  beyond = map is_beyond (range_with_len 0 (normal.atoms + 1))

  from_zero : (atom : ℕ) → 0 + atom ≡ atom
  from_zero atom = omega arith

  beyond_at : (atom : ℕ) → atom ≤ normal.atoms → has beyond atom ≡ is_beyond atom
  beyond_at atom low =
      get_or-map is_beyond (range_with_len 0 (normal.atoms + 1)) atom 0 false
      (omega (arith, low, length-range_with_len 0 (normal.atoms + 1)))
      ∙ ap is_beyond
      (get_or-range_with_len 0 (normal.atoms + 1) atom 0 (omega (arith, low)) ∙ from_zero atom)

  count_cell : (negated denied inside known among : Bool) (weight : ℕ)
      → (among ≡ true → denied ≡ true) → (negated ≡ false → inside ≡ true → denied ≡ false)
      → (negated ≡ false → inside ≡ true → known ≡ false)
      → (if (if negated then not denied else inside) then weight else 0)
      ≤ (if among || (if negated then false else known) then 0 else weight)
  count_cell true true inside known among weight one two three = omega arith
  count_cell true false inside known true weight one two three = absurd (false≢true (one refl))
  count_cell true false inside known false weight one two three = omega arith
  count_cell false denied false known among weight one two three = omega arith
  count_cell false denied true known true weight one two three =
      absurd (false≢true (sym (two refl refl) ∙ one refl))
  count_cell false denied true true false weight one two three =
      absurd (false≢true (sym (three refl refl)))
  count_cell false denied true false false weight one two three = omega arith

  counts_apart : (parts : List Part) → All (λ (it : Part). IsAtomOf normal it.lit.atom) parts
      → founding_weight steps beyond parts ≤ weight_apart atoms.marks lits.marks parts
  counts_apart parts of_normal =
      sum_by-le_each (λ (it : Part). if counts_with steps beyond it.lit then it.weight else 0)
      (apart_of atoms.marks lits.marks) parts
      (λ k d within. let it = get_or parts k d in
      let at = beyond_at it.lit.atom (of_normal k d within).last in
      count_cell it.lit.negated (is_false steps (literal_of it.lit)) (has beyond it.lit.atom)
      (has atoms.marks it.lit.atom) (has lits.marks (literal_of it.lit).0) it.weight
      (λ here. false_is steps (literal_of it.lit) (lit_false (literal_of it.lit) here))
      (λ plain inside. ap
      (λ b. is_false steps (if b then negative it.lit.atom else positive it.lit.atom)) plain
      ∙ not_true (is_false steps (positive it.lit.atom))
      (first_true (not (is_false steps (positive it.lit.atom))) (not (has atoms.marks it.lit.atom))
      (sym at ∙ inside)))
      (λ plain inside. not_true (has atoms.marks it.lit.atom)
      (second_true (not (is_false steps (positive it.lit.atom))) (not (has atoms.marks it.lit.atom))
      (sym at ∙ inside))))

  -- a rule for an atom of the set isn't reached with the others
  not_reached : (rule : NormalRule) (body : BodyOf) → slice_get normal.bodies rule.body ≡ Some body
      → All (λ (it : Part). IsAtomOf normal it.lit.atom) body.parts
      → IsShut normal atoms.marks lits.marks rule.body → ¬ IsReached normal steps beyond rule
  not_reached rule body there of_normal (inl here) reached =
      reached.possible (lit_false (positive (body_var normal rule.body)) here)
  not_reached rule body there of_normal (inr below) reached =
      let low = subst
      (λ o. IsSomeAnd o
      (λ (one : BodyOf). weight_apart atoms.marks lits.marks one.parts < one.bound)) there below in
      let enough = subst
      (λ o. IsSomeAnd o (λ (one : BodyOf). one.bound ≤ founding_weight steps beyond one.parts))
      there reached.enough in
      omega (arith, low, enough, counts_apart body.parts of_normal)

  closed : IsClosed normal steps beyond
  closed k rule within reached j head inside possible =
      let it = get_or normal.rules k rule in
      let one = get_or it.heads j head in
      let is_atom : IsAtomOf normal one = range.heads k rule within j head inside in
      ⊎_elim
      (λ here. let number = range.numbers k rule within in
      let none : BodyOf = record { bound = 0; parts = [] } in
      absurd
      (not_reached it (get_or normal.bodies it.body none)
      (slice_get-get_or normal.bodies it.body none number) (range.parts it.body none number)
      (All-contains (IsShutFor normal atoms.marks lits.marks) atoms.list one shut
      (atoms_listed.has one here) it.body (head_here k rule within j head inside))
      reached))
      (λ out. beyond_at one is_atom.last
      ∙ both_true (not (is_false steps (positive one))) (not (has atoms.marks one))
      (not_of (is_false steps (positive one)) (not_false_is steps (positive one) possible))
      (not_of (has atoms.marks one) out))
      (cases_Bool (has atoms.marks one))
    where
      head_here : (k : ℕ) (rule : NormalRule) → k < length normal.rules → (j head : ℕ)
          → j < length (get_or normal.rules k rule).heads
          → IsHead normal (get_or normal.rules k rule).body
          (get_or (get_or normal.rules k rule).heads j head)
      head_here k rule within j head inside =
          let it = get_or normal.rules k rule in (
            k,
            it,
            within,
            get_or_default normal.rules k it rule within,
            (refl, Contains-get_or it.heads j head inside),
          )

  pub unfounded_atom : (atom : ℕ) → Contains atoms.list atom → ¬ IsFounded normal steps atom
  unfounded_atom atom here founded =
      let is_atom : IsAtomOf normal atom =
      All-contains (IsAtomOf normal) atoms.list atom are here in
      let inside : IsIn atoms.marks atom =
      All-contains (IsIn atoms.marks) atoms.list atom atoms_listed.are here in
      both_ways (has atoms.marks atom)
      (not_true (has atoms.marks atom)
      (second_true (not (is_false steps (positive atom))) (not (has atoms.marks atom))
      (sym (beyond_at atom is_atom.last) ∙ founded beyond closed))) inside

  -- ---- the loop clause

  module _ (clause : List Lit)
      (has_lits : (code : ℕ) → Contains lits.list code → Contains clause (coded code)) where
    beside_apart : (it : Part)
        → (if is_beside atoms.list clause it then it.weight else 0)
        ≤ apart_of atoms.marks lits.marks it
    beside_apart it =
        cells (has_lit clause (literal_of it.lit))
        (if it.lit.negated then false else has_atom atoms.list it.lit.atom)
        (has lits.marks (literal_of it.lit).0) (is_over atoms.marks it.lit) it.weight
        (λ here. lit_found clause (literal_of it.lit)
        (has_lits (literal_of it.lit).0 (lits_listed.has (literal_of it.lit).0 here)))
        (if_positive it.lit.negated (has atoms.marks it.lit.atom)
        (has_atom atoms.list it.lit.atom)
        (λ here. atom_found atoms.list it.lit.atom (atoms_listed.has it.lit.atom here)))

    answers : (rule : NormalRule) → IsShut normal atoms.marks lits.marks rule.body
        → AnswersFor normal atoms.list clause rule
    answers rule (inl here) =
        inl
        (has_lits (positive (body_var normal rule.body)).0
        (lits_listed.has (positive (body_var normal rule.body)).0 here))
    answers rule (inr below) =
        inr
        (inl
        (some_weaker
        (λ (body : BodyOf). weight_apart atoms.marks lits.marks body.parts < body.bound)
        (λ (body : BodyOf). weight_beside atoms.list clause body < body.bound)
        (slice_get normal.bodies rule.body)
        (λ body low. omega (
          arith,
          low,
          sum_by-le_each
              (λ (it : Part). if is_beside atoms.list clause it then it.weight else 0)
              (apart_of atoms.marks lits.marks) body.parts
              (λ k d within. beside_apart (get_or body.parts k d)),
        )) below))

    is_loop : (atom : ℕ) → Contains atoms.list atom → Contains clause (negative atom)
        → IsLoopClause normal clause
    is_loop atom here denied = (
      atoms.list,
      record {
        over = are;
        denies = any_from (λ one. Contains clause (negative one)) atoms.list atom here denied;
        rules = λ k rule within head.
            let it = get_or normal.rules k rule in
            let among : Contains it.heads head.1 = (head.0, head.2, head.3) in
            answers it
            (All-contains (IsShutFor normal atoms.marks lits.marks) atoms.list head.1 shut head.4
            it.body
            (k, it, within, get_or_default normal.rules k it rule within, (refl, among)));
      },
    )

module _ (normal : Normal) (trail : Assigned) (atoms lits : Marked) (atoms_listed : IsListed atoms)
    (lits_listed : IsListed lits) (range : IsInRange normal)
    (are : All (IsAtomOf normal) atoms.list)
    (shut : All (IsShutFor normal atoms.marks lits.marks) atoms.list)
    (falses : All (λ code. IsFalse trail.steps (coded code)) lits.list)
    (over : All (λ code. IsOver (greatest_body_var normal) (coded code)) lits.list) (atom : ℕ)
    (opened : IsOpenIn trail.steps atoms.list atom) where
  abbrev denial : Lit
  denial = negative atom

  abbrev lits_of : List Lit
  lits_of = map coded lits.list

  is_atom : IsAtomOf normal atom
  is_atom = All-contains (IsAtomOf normal) atoms.list atom are opened.among

  all_false : All (IsFalse trail.steps) lits_of
  all_false = All-map (IsFalse trail.steps) coded lits.list falses

  all_over : All (IsOver (greatest_body_var normal)) lits_of
  all_over = All-map (IsOver (greatest_body_var normal)) coded lits.list over

  all_once : HasNoVariableTwice lits_of
  all_once i j d low high same =
      let j_in : j < length lits.list = omega (arith, high, length-map lits.list coded) in
      let i_in : i < length lits.list = omega (arith, low, j_in) in
      lits_listed.once i j 0 low j_in
      (ap (λ (lit : Lit). lit.0)
      (same_false trail.steps (coded (get_or lits.list i 0)) (coded (get_or lits.list j 0))
      (ap variable (sym (get_or-map coded lits.list i 0 d i_in)) ∙ same
      ∙ ap variable (get_or-map coded lits.list j 0 d j_in))
      (falses i 0 i_in) (falses j 0 j_in)))

  lit_here : (code : ℕ) → Contains lits.list code → Contains lits_of (coded code)
  lit_here code (k, within, at) = (
    k,
    omega (arith, within, length-map lits.list coded),
    get_or-map coded lits.list k code (coded code) within ∙ ap coded at,
  )

  denial_over : IsOver (greatest_body_var normal) denial
  denial_over =
      let var = variable-negative atom in
      record {
        first = omega (arith, var, is_atom.first);
        last = omega (arith, var, is_atom.last);
      }

  loop_with : (clause : List Lit)
      → ((code : ℕ) → Contains lits.list code → Contains clause (coded code))
      → Contains clause denial → IsLoopClause normal clause
  loop_with clause has_lits here =
      is_loop normal trail.steps atoms lits atoms_listed lits_listed range are shut falses clause
      has_lits atom opened.among here

  -- the denial stands among the literals
  written_among : IsIn lits.marks denial.0 → IsLoopWritten normal trail lits_of
  written_among among = record {
    is_loop = loop_with lits_of lit_here (lit_here denial.0 (lits_listed.has denial.0 among));
    standing = inl all_false;
    once = all_once;
    over = all_over;
  }

  pushed : (code : ℕ) → Contains lits.list code → Contains (lits_of ++ denial ∷ []) (coded code)
  pushed code here =
      Contains-append_left lits_of (denial ∷ []) (coded code) (lit_here code here)

  pushed_over : All (IsOver (greatest_body_var normal)) (lits_of ++ denial ∷ [])
  pushed_over = All-push (IsOver (greatest_body_var normal)) lits_of denial all_over denial_over

  -- it is false
  written_false : has lits.marks denial.0 ≡ false → IsFalse trail.steps denial
      → IsLoopWritten normal trail (lits_of ++ denial ∷ [])
  written_false out denied = record {
    is_loop = loop_with (lits_of ++ denial ∷ []) pushed (Contains-push lits_of denial);
    standing = inl (All-push (IsFalse trail.steps) lits_of denial all_false denied);
    once =
        all_pairs_push (λ one two. variable one ≢ variable two) lits_of denial all_once
        (λ k d within same. both_ways (has lits.marks denial.0) out
        (subst (λ (lit : Lit). IsIn lits.marks lit.0)
        (same_false trail.steps (get_or lits_of k d) denial same (all_false k d within) denied)
        (All-map (λ (lit : Lit). IsIn lits.marks lit.0) coded lits.list lits_listed.are k d
        within)));
    over = pushed_over;
  }

  -- or unset
  written_open : value_of trail.steps denial ≡ Unset
      → IsLoopWritten normal trail (lits_of ++ denial ∷ [])
  written_open unset = record {
    is_loop = loop_with (lits_of ++ denial ∷ []) pushed (Contains-push lits_of denial);
    standing = inr (
      denial,
      record {
        here = Contains-push lits_of denial;
        unset = unset;
        others =
            All-push (λ other. other ≢ denial → IsFalse trail.steps other) lits_of denial
            (λ k d within other. all_false k d within) (λ other. absurd (other refl));
      },
    );
    once =
        all_pairs_push (λ one two. variable one ≢ variable two) lits_of denial all_once
        (λ k d within same. unset_apart trail.steps (get_or lits_of k d) denial same
        (all_false k d within) unset);
    over = pushed_over;
  }

  written_by : (value : Value) → value_of trail.steps denial ≡ value
      → has lits.marks denial.0 ≡ false → IsLoopWritten normal trail (lits_of ++ denial ∷ [])
  written_by Yes is out = absurd (opened.possible (false_atom trail.steps atom is))
  written_by No is out = written_false out is
  written_by Unset is out = written_open is

  -- so some atom is unfounded, and the clause is a loop clause
  pub given_by : (clause : List Lit)
      → clause ≡ lits_of ++ (if has lits.marks denial.0 then [] else (denial ∷ []))
      → IsGiven normal trail clause
  given_by clause is = record {
    some = (
      atom,
      record {
        is_atom = is_atom;
        possible = opened.possible;
        unfounded =
            unfounded_atom normal trail.steps atoms lits atoms_listed lits_listed range are shut
            falses atom opened.among;
      },
    );
    written = elim (cases_Bool (has lits.marks denial.0)) [
      | inl among ↦
          subst (IsLoopWritten normal trail)
          (sym
          (is ∙ ap (λ b. lits_of ++ (if b then [] else (denial ∷ []))) among
          ∙ append-nil lits_of)) (written_among among)
      | inr out ↦
          subst (IsLoopWritten normal trail)
          (sym (is ∙ ap (λ b. lits_of ++ (if b then [] else (denial ∷ []))) out))
          (written_by (value_of trail.steps denial) refl out)
    ];
  }
