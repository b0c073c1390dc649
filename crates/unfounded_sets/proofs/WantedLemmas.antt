-- What the marked literals of a loop clause come to.
use Rattle.std.proofs.Common.{◌≡◌, ◌≢◌, ◌≤◌, ◌<◌, ◌+◌, ℕ, Bool, true, false, List, [], ◌∷◌}
use Rattle.std.proofs.Common.{◌++◌, length, set, get_or, Some, slice_get, arith, refl, sym}
use Rattle.std.proofs.Common.{◌∙◌, subst, if◌then◌else◌, ⊎_elim, length-set, inl, inr}
use Rattle.std.specs.Prelude.{All, Any, Contains, IsSomeAnd, ◌||◌, ◌&&◌}
use Rattle.std.proofs.lemmas.Bool.{cases_eq}
use Rattle.std.proofs.lemmas.List.{get_or-set_same}
use Rattle.std.proofs.lemmas.List.Elements.{All-nil, All-push, All-weaker}
use Rattle.std.proofs.lemmas.List.Elements.{Contains-push, Contains-append_left}
use Rattle.std.proofs.lemmas.List.Quantifiers.{all_pairs_push}
use Rattle.ground_program.specs.Meaning.{IsPart, IsIn, has}
use Rattle.clause_store.specs.declared.literal.Lit.{Lit}
use Rattle.clause_store.specs.declared.step.Step.{Step}
use Rattle.clause_store.specs.Clause.{variable}
use Rattle.clause_store.specs.Standing.{IsFalse}
use Rattle.normal_program.specs.declared.normal.Part.{Part}
use Rattle.normal_program.specs.declared.normal.BodyOf.{BodyOf}
use Rattle.normal_program.specs.declared.normal.NormalRule.{NormalRule}
use Rattle.normal_program.specs.declared.normal.Normal.{Normal}
use Rattle.normal_program.specs.Normal.{body_var}
use Rattle.normal_program.specs.Clauses.{positive, literal_of}
use Rattle.item_list.proofs.ListLemmas.{sum_by-le_each}
use Rattle.unfounded_sets.specs.Founding.{is_false}
use Rattle.unfounded_sets.specs.Wanted.{is_over, is_wanted, weight_off, weight_possible}
use Rattle.unfounded_sets.specs.Wanted.{weight_left, HasOther, IsOther}
use Rattle.unfounded_sets.specs.Wanted.{BlocksIn, IsAnswered, Wants}
use Rattle.unfounded_sets.specs.Wanted.{MarksFalse, PutsFalse, AreWritten}
use Rattle.unfounded_sets.proofs.ValueLemmas.{false_if, same_false}
use Rattle.unfounded_sets.proofs.FoundingLemmas.{All-one, added_more, some_weaker}

-- ---- weights

either-less : (a b c d : Bool) (weight : ℕ) → (c ≡ true → a ≡ true) → (d ≡ true → b ≡ true)
    → (if a || b then 0 else weight) ≤ (if c || d then 0 else weight)
either-less true b c d weight first second = omega arith
either-less false true c d weight first second = omega arith
either-less false false true d weight first second =
    absurd (let e : false ≡ true = first refl in cc)
either-less false false false true weight first second =
    absurd (let e : false ≡ true = second refl in cc)
either-less false false false false weight first second = omega arith

pub and-true : (a b : Bool) → (a && b) ≡ true → (a ≡ true) × (b ≡ true)
and-true true b is = (refl, is)
and-true false b is = absurd (cc)

both-true : (a b : Bool) → a ≡ true → b ≡ true → (a && b) ≡ true
both-true true b one two = two
both-true false b one two = absurd (cc)

module _ (steps : List Step) (part : List Bool) where
  -- wanting more leaves less
  pub left_less : (less more : List Bool) (parts : List Part) → IsPart less more
      → weight_left steps part more parts ≤ weight_left steps part less parts
  left_less less more parts is =
      sum_by-le_each
      (λ (it : Part). if is_wanted steps more it.lit || is_over part it.lit then 0 else it.weight)
      (λ (it : Part). if is_wanted steps less it.lit || is_over part it.lit then 0 else it.weight)
      parts
      (λ k d within. let it = get_or parts k d in
      either-less (is_wanted steps more it.lit) (is_over part it.lit) (is_wanted steps less it.lit)
      (is_over part it.lit) it.weight
      (λ wants. let both =
      and-true (is_false steps (literal_of it.lit)) (has less it.lit.atom) wants in
      both-true (is_false steps (literal_of it.lit)) (has more it.lit.atom) both.0
      (is it.lit.atom both.1)) (λ over. over))

  -- what is left is no more than what isn't over the part
  pub left_off : (wanted : List Bool) (parts : List Part)
      → weight_left steps part wanted parts ≤ weight_off part parts
  left_off wanted parts =
      sum_by-le_each
      (λ (it : Part). if is_wanted steps wanted it.lit || is_over part it.lit then 0 else it.weight)
      (λ (it : Part). if is_over part it.lit then 0 else it.weight)
      parts
      (λ k d within. let it = get_or parts k d in
      either-less (is_wanted steps wanted it.lit) (is_over part it.lit) false
      (is_over part it.lit) it.weight (λ none. absurd (cc)) (λ over. over))

  -- where all false literals are wanted only what is possible is left
  pub left_possible : (wanted : List Bool) (parts : List Part)
      → All (λ (it : Part). IsFalse steps (literal_of it.lit) → IsIn wanted it.lit.atom) parts
      → weight_left steps part wanted parts ≤ weight_possible steps part parts
  left_possible wanted parts marked =
      sum_by-le_each
      (λ (it : Part). if is_wanted steps wanted it.lit || is_over part it.lit then 0 else it.weight)
      (λ (it : Part). if is_false steps (literal_of it.lit) || is_over part it.lit then 0
      else it.weight)
      parts
      (λ k d within. let it = get_or parts k d in
      either-less (is_wanted steps wanted it.lit) (is_over part it.lit)
      (is_false steps (literal_of it.lit)) (is_over part it.lit) it.weight
      (λ is. both-true (is_false steps (literal_of it.lit)) (has wanted it.lit.atom) is
      (marked k d within (false_if steps (literal_of it.lit) is))) (λ over. over))

-- ---- rules

module _ (normal : Normal) (steps : List Step) (part : List Bool) where
  answered_more : (less more : List Bool) (rule : NormalRule) → IsPart less more
      → IsAnswered normal steps part less rule → IsAnswered normal steps part more rule
  answered_more less more rule is (inl denied) =
      inl (denied.0, is (body_var normal rule.body) denied.1)
  answered_more less more rule is (inr (inl below)) =
      inr
      (inl
      (some_weaker (λ (body : BodyOf). weight_left steps part less body.parts < body.bound)
      (λ (body : BodyOf). weight_left steps part more body.parts < body.bound)
      (slice_get normal.bodies rule.body)
      (λ body low. omega (arith, low, left_less steps part less more body.parts is)) below))
  answered_more less more rule is (inr (inr (head, other, here))) =
      inr (inr (head, other, is head here))

  abbrev Answers : List Bool → NormalRule → Type 0
  Answers wanted rule = Any (IsIn part) rule.heads → IsAnswered normal steps part wanted rule

  wants_one : (rule : NormalRule) (before : List Bool) → Answers before rule
      → Wants normal steps part (rule ∷ []) before before
  wants_one rule before answers = record {
    places = refl;
    more = λ atom here. here;
    answered = All-one (Answers before) rule answers;
  }

  -- a rule without a head in the part needs nothing
  pub wants_no_head : (rule : NormalRule) (before : List Bool) → ¬ Any (IsIn part) rule.heads
      → Wants normal steps part (rule ∷ []) before before
  wants_no_head rule before none = wants_one rule before (λ head. absurd (none head))

  -- nor does one that the part holds below its bound
  pub wants_below : (rule : NormalRule) (body : BodyOf) (before : List Bool)
      → slice_get normal.bodies rule.body ≡ Some body → weight_off part body.parts < body.bound
      → Wants normal steps part (rule ∷ []) before before
  wants_below rule body before here low =
      wants_one rule before
      (λ head. inr
      (inl
      (subst
      (λ o. IsSomeAnd o (λ (one : BodyOf). weight_left steps part before one.parts < one.bound))
      (sym here) (omega (arith, low, left_off steps part before body.parts)))))

  -- a false variable is wanted
  pub wants_var : (rule : NormalRule) (before : List Bool)
      → IsFalse steps (positive (body_var normal rule.body))
      → body_var normal rule.body < length before
      → Wants normal steps part (rule ∷ []) before (set before (body_var normal rule.body) true)
  wants_var rule before denied within = record {
    places = length-set before (body_var normal rule.body) true;
    more = added_more before (body_var normal rule.body) within;
    answered =
        All-one (Answers (set before (body_var normal rule.body) true)) rule
        (λ head. inl
        (denied, get_or-set_same before (body_var normal rule.body) true false within));
  }

  -- another head that is true is wanted
  pub wants_head : (rule : NormalRule) (before : List Bool) (head : ℕ)
      → IsOther steps part rule head → head < length before
      → Wants normal steps part (rule ∷ []) before (set before head true)
  wants_head rule before head other within = record {
    places = length-set before head true;
    more = added_more before head within;
    answered =
        All-one (Answers (set before head true)) rule
        (λ some. inr (inr (head, other, get_or-set_same before head true false within)));
  }

  -- or else the false literals of the body are
  pub wants_false : (rule : NormalRule) (body : BodyOf) (before after : List Bool)
      → slice_get normal.bodies rule.body ≡ Some body
      → ¬ IsFalse steps (positive (body_var normal rule.body)) → ¬ HasOther steps part rule
      → BlocksIn normal steps part rule → MarksFalse steps body.parts before after
      → Wants normal steps part (rule ∷ []) before after
  wants_false rule body before after here possible none blocks marks = record {
    places = marks.places;
    more = marks.more;
    answered =
        All-one (Answers after) rule
        (λ head. ⊎_elim (λ denied. absurd (possible denied))
        (λ others. ⊎_elim (λ below. inr (inl (some_there body here below)))
        (λ other. absurd (none other)) others)
        (blocks head));
  }
    where
      some_there : (one : BodyOf) → slice_get normal.bodies rule.body ≡ Some one
          → IsSomeAnd (slice_get normal.bodies rule.body)
          (λ (it : BodyOf). weight_possible steps part it.parts < it.bound)
          → IsSomeAnd (slice_get normal.bodies rule.body)
          (λ (it : BodyOf). weight_left steps part after it.parts < it.bound)
      some_there one there below =
          subst
          (λ o. IsSomeAnd o (λ (it : BodyOf). weight_left steps part after it.parts < it.bound))
          (sym here)
          (let low = subst
          (λ o. IsSomeAnd o (λ (it : BodyOf). weight_possible steps part it.parts < it.bound))
          here below in
          omega (arith, low, left_possible steps part after body.parts marks.marked))

  -- rules one after the other
  pub wants_none : (before : List Bool) → Wants normal steps part [] before before
  wants_none before = record {
    places = refl;
    more = λ atom here. here;
    answered = All-nil (Answers before);
  }

  pub wants_more : (front : List NormalRule) (rule : NormalRule) (before mid after : List Bool)
      → Wants normal steps part front before mid → Wants normal steps part (rule ∷ []) mid after
      → Wants normal steps part (front ++ rule ∷ []) before after
  wants_more front rule before mid after so_far step = record {
    places = step.places ∙ so_far.places;
    more = λ atom here. step.more atom (so_far.more atom here);
    answered =
        All-push (Answers after) front rule
        (All-weaker (Answers mid) (Answers after)
        (λ one answers head. answered_more mid after one step.more (answers head)) front
        so_far.answered)
        (step.answered 0 rule (omega arith));
  }

-- ---- the false literals of a body

pub marks_none : (steps : List Step) (before : List Bool) → MarksFalse steps [] before before
marks_none steps before = record {
  places = refl;
  more = λ atom here. here;
  marked = All-nil (λ (it : Part). IsFalse steps (literal_of it.lit) → IsIn before it.lit.atom);
}

pub marks_more : (steps : List Step) (front : List Part) (it : Part) (before mid : List Bool)
    → MarksFalse steps front before mid → it.lit.atom < length mid
    → MarksFalse steps (front ++ it ∷ []) before (set mid it.lit.atom true)
marks_more steps front it before mid so_far within = record {
  places = length-set mid it.lit.atom true ∙ so_far.places;
  more = λ atom here. added_more mid it.lit.atom within atom (so_far.more atom here);
  marked =
      All-push
      (λ (one : Part). IsFalse steps (literal_of one.lit)
      → IsIn (set mid it.lit.atom true) one.lit.atom) front it
      (All-weaker (λ (one : Part). IsFalse steps (literal_of one.lit) → IsIn mid one.lit.atom)
      (λ (one : Part). IsFalse steps (literal_of one.lit)
      → IsIn (set mid it.lit.atom true) one.lit.atom)
      (λ one marked denied. added_more mid it.lit.atom within one.lit.atom (marked denied)) front
      so_far.marked)
      (λ _. get_or-set_same mid it.lit.atom true false within);
}

pub marks_same : (steps : List Step) (front : List Part) (it : Part) (before mid : List Bool)
    → MarksFalse steps front before mid → ¬ IsFalse steps (literal_of it.lit)
    → MarksFalse steps (front ++ it ∷ []) before mid
marks_same steps front it before mid so_far possible = record {
  places = so_far.places;
  more = so_far.more;
  marked =
      All-push (λ (one : Part). IsFalse steps (literal_of one.lit) → IsIn mid one.lit.atom) front it
      so_far.marked (λ denied. absurd (possible denied));
}

-- ---- writing

module _ (steps : List Step) (wanted : List Bool) where
  pub written_none : AreWritten steps wanted 1 []
  written_none = record {
    falses = All-nil (IsFalse steps);
    over = All-nil (λ lit. (1 ≤ variable lit) × (variable lit < 1));
    once = λ i j low high d e. absurd (omega (arith, high));
    complete = λ lit denied here first last. absurd (omega (arith, first, last));
  }

  over_more : (to : ℕ) (lits : List Lit)
      → All (λ lit. (1 ≤ variable lit) × (variable lit < to)) lits
      → All (λ lit. (1 ≤ variable lit) × (variable lit < to + 1)) lits
  over_more to lits over k d within =
      let here = over k d within in (here.0, omega (arith, here.1))

  -- a variable that isn't wanted, or has no false literal
  pub written_skip : (to : ℕ) (lits : List Lit) → AreWritten steps wanted to lits
      → ((lit : Lit) → variable lit ≡ to → IsFalse steps lit → IsIn wanted to → ⊥)
      → AreWritten steps wanted (to + 1) lits
  written_skip to lits so_far none = record {
    falses = so_far.falses;
    over = over_more to lits so_far.over;
    once = so_far.once;
    complete = λ lit denied here first last.
        ⊎_elim
        (λ same. absurd (none lit same denied (subst (IsIn wanted) same here)))
        (λ other. so_far.complete lit denied here first (omega (arith, last, other)))
        (cases_eq (variable lit) to);
  }

  -- one more false literal
  pub written_more : (to : ℕ) (lits : List Lit) (lit : Lit) → AreWritten steps wanted to lits
      → 1 ≤ to → IsFalse steps lit → variable lit ≡ to
      → AreWritten steps wanted (to + 1) (lits ++ lit ∷ [])
  written_more to lits lit so_far first denied is = record {
    falses = All-push (IsFalse steps) lits lit so_far.falses denied;
    over =
        All-push (λ one. (1 ≤ variable one) × (variable one < to + 1)) lits lit
        (over_more to lits so_far.over) (omega (arith, first, is), omega (arith, is));
    once =
        all_pairs_push (λ one two. variable one ≢ variable two) lits lit so_far.once
        (λ k d within same. let low = (so_far.over k d within).1 in omega (arith, low, same, is));
    complete = λ one false_one here low high.
        ⊎_elim
        (λ same. subst (Contains (lits ++ lit ∷ []))
        (same_false steps lit one (is ∙ sym same) denied false_one) (Contains-push lits lit))
        (λ other. Contains-append_left lits (lit ∷ []) one
        (so_far.complete one false_one here low (omega (arith, high, other))))
        (cases_eq (variable one) to);
  }

  pub written_puts : (to : ℕ) (before after : List Lit) → AreWritten steps wanted to before
      → 1 ≤ to → PutsFalse steps to before after → AreWritten steps wanted (to + 1) after
  written_puts to before after so_far first (inl none) =
      subst (AreWritten steps wanted (to + 1)) (sym none.0)
      (written_skip to before so_far (λ lit is denied here. none.1 lit is denied))
  written_puts to before after so_far first (inr some) =
      subst (AreWritten steps wanted (to + 1)) (sym some.1)
      (written_more to before some.0 so_far first some.2.denied some.2.of)
