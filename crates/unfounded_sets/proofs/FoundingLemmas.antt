-- What a try at a rule and a round over the rules do, and what the rounds come to.
use Rattle.std.proofs.Common.{◌≡◌, ◌≤◌, ◌<◌, ◌+◌, ℕ, Bool, true, false, List, [], ◌∷◌, ◌++◌}
use Rattle.std.proofs.Common.{length, set, get_or, Some, slice_get, arith, refl, sym, ap, ◌∙◌}
use Rattle.std.proofs.Common.{subst}
use Rattle.std.proofs.Common.{if◌then◌else◌, ⊎_elim, length-set, Option, None}
use Rattle.std.specs.Prelude.{All, IsSomeAnd}
use Rattle.std.proofs.lemmas.Bool.{cases_eq, cases_lt, both_ways}
use Rattle.std.specs.Bool.{OnFalse}
use Rattle.std.proofs.lemmas.List.{get_or-set_same, get_or-set_other, get_or_past}
use Rattle.std.proofs.lemmas.List.Elements.{All-nil, All-push, All-weaker}
use Rattle.ground_program.specs.Meaning.{IsPart, IsIn, has, missing}
use Rattle.clause_store.specs.declared.step.Step.{Step}
use Rattle.clause_store.specs.Standing.{IsFalse}
use Rattle.normal_program.specs.declared.normal.Part.{Part}
use Rattle.normal_program.specs.declared.normal.BodyOf.{BodyOf}
use Rattle.normal_program.specs.declared.normal.NormalRule.{NormalRule}
use Rattle.normal_program.specs.declared.normal.Normal.{Normal}
use Rattle.normal_program.specs.Clauses.{positive}
use Rattle.item_list.proofs.ListLemmas.{All-left, All-right, sum_by-le_each}
use Rattle.unfounded_sets.specs.Founding.{counts_with, founding_weight, IsReached}
use Rattle.unfounded_sets.specs.Founding.{Founds}
use Rattle.unfounded_sets.specs.Rounds.{AddsHeads, Tries, IsBelow, IsSettled, IsEmpty}
use Rattle.unfounded_sets.specs.Rounds.{IsCovered, IsRuleIn}
use Rattle.normal_program.specs.Loop.{IsAtomOf}
use Rattle.ground_program.proofs.SetLemmas.{added_is_part, missing-added}

-- the first item of a list of one
pub All-one : {X : Type 0} (P : X → Type 0) (x : X) → P x → All P (x ∷ [])
All-one P x here = All-push P [] x (All-nil P) here

pub All-only : {X : Type 0} (P : X → Type 0) (x : X) → All P (x ∷ []) → P x
All-only P x all = all 0 x (omega arith)

-- more atoms reach more
pub if-more : (a b : Bool) (weight : ℕ) → (a ≡ true → b ≡ true)
    → (if a then weight else 0) ≤ (if b then weight else 0)
if-more true true weight more = omega arith
if-more true false weight more = absurd (let e : false ≡ true = more refl in cc)
if-more false true weight more = omega arith
if-more false false weight more = omega arith

either-more : (negated other a b : Bool) → (a ≡ true → b ≡ true)
    → (if negated then other else a) ≡ true → (if negated then other else b) ≡ true
either-more true other a b more is = is
either-more false other a b more is = more is

weight_more : (steps : List Step) (less more : List Bool) (parts : List Part) → IsPart less more
    → founding_weight steps less parts ≤ founding_weight steps more parts
weight_more steps less more parts part =
    sum_by-le_each (λ (it : Part). if counts_with steps less it.lit then it.weight else 0)
    (λ (it : Part). if counts_with steps more it.lit then it.weight else 0) parts
    (λ k d within. let it = get_or parts k d in
    if-more (counts_with steps less it.lit) (counts_with steps more it.lit) it.weight
    (either-more it.lit.negated _ (has less it.lit.atom) (has more it.lit.atom)
    (part it.lit.atom)))

pub some_weaker : {X : Type 0} (P Q : X → Type 0) (o : Option X) → ((x : X) → P x → Q x)
    → IsSomeAnd o P → IsSomeAnd o Q
some_weaker P Q None more fact = fact
some_weaker P Q (Some x) more fact = more x fact

pub reached_more : (normal : Normal) (steps : List Step) (less more : List Bool) (rule : NormalRule)
    → IsPart less more → IsReached normal steps less rule → IsReached normal steps more rule
reached_more normal steps less more rule part reached = record {
  possible = reached.possible;
  enough =
      some_weaker (λ (body : BodyOf). body.bound ≤ founding_weight steps less body.parts)
      (λ (body : BodyOf). body.bound ≤ founding_weight steps more body.parts)
      (slice_get normal.bodies rule.body)
      (λ body enough. omega (arith, enough, weight_more steps less more body.parts part))
      reached.enough;
}

-- heads one after the other
pub heads_none : (steps : List Step) (before : List Bool) → AddsHeads steps [] before before false
heads_none steps before = record {
  places = refl;
  more = λ atom here. here;
  within = λ set _ part. part;
  has = All-nil (λ head. ¬ IsFalse steps (positive head) → IsIn before head);
  nearer = tt;
  same = refl;
}

pub heads_known : (steps : List Step) (front : List ℕ) (head : ℕ) (before mid : List Bool)
    (grew : Bool) → AddsHeads steps front before mid grew
    → (¬ IsFalse steps (positive head) → IsIn mid head)
    → AddsHeads steps (front ++ head ∷ []) before mid grew
heads_known steps front head before mid grew so_far known = record {
  places = so_far.places;
  more = so_far.more;
  within = λ set has part. so_far.within set
      (All-left (λ one. ¬ IsFalse steps (positive one) → IsIn set one) front (head ∷ []) has) part;
  has =
      All-push (λ one. ¬ IsFalse steps (positive one) → IsIn mid one) front head so_far.has known;
  nearer = so_far.nearer;
  same = so_far.same;
}

missing_no_more : (steps : List Step) (front : List ℕ) (before mid : List Bool) (grew : Bool)
    → AddsHeads steps front before mid grew → missing mid ≤ missing before
missing_no_more steps front before mid true so_far = omega (arith, so_far.nearer)
missing_no_more steps front before mid false so_far = omega (arith, ap missing so_far.same)

pub added_more : (mid : List Bool) (head : ℕ) → head < length mid → IsPart mid (set mid head true)
added_more mid head within atom here =
    ⊎_elim (λ (same : atom ≡ head). rw same (get_or-set_same mid head true false within))
    (λ (apart : atom ≡ head → ⊥). get_or-set_other mid head atom true false apart ∙ here)
    (cases_eq atom head)

pub heads_new : (steps : List Step) (front : List ℕ) (head : ℕ) (before mid : List Bool)
    (grew : Bool) → AddsHeads steps front before mid grew → head < length mid
    → has mid head ≡ false → ¬ IsFalse steps (positive head)
    → AddsHeads steps (front ++ head ∷ []) before (set mid head true) true
heads_new steps front head before mid grew so_far within out possible = record {
  places = length-set mid head true ∙ so_far.places;
  more = λ atom here. added_more mid head within atom (so_far.more atom here);
  within = λ all has part.
      added_is_part mid all head
      (so_far.within all
      (All-left (λ one. ¬ IsFalse steps (positive one) → IsIn all one) front (head ∷ []) has) part)
      (All-only (λ one. ¬ IsFalse steps (positive one) → IsIn all one) head
      (All-right (λ one. ¬ IsFalse steps (positive one) → IsIn all one) front (head ∷ []) has)
      possible);
  has =
      All-push (λ one. ¬ IsFalse steps (positive one) → IsIn (set mid head true) one) front head
      (All-weaker (λ one. ¬ IsFalse steps (positive one) → IsIn mid one)
      (λ one. ¬ IsFalse steps (positive one) → IsIn (set mid head true) one)
      (λ one had not. added_more mid head within one (had not)) front so_far.has)
      (λ _. get_or-set_same mid head true false within);
  nearer =
      omega (
        arith,
        missing-added mid head within out,
        missing_no_more steps front before mid grew so_far,
      );
  same = tt;
}

-- a rule that isn't reached adds nothing
pub tries_unreached : (normal : Normal) (steps : List Step) (rule : NormalRule) (before : List Bool)
    → ¬ IsReached normal steps before rule → Tries normal steps (rule ∷ []) before before false
tries_unreached normal steps rule before not = record {
  places = refl;
  within = λ set _ part. part;
  nearer = tt;
  same = refl;
  closed = All-one (Founds normal steps before) rule (λ reached. absurd (not reached));
}

-- one that is reached adds its heads
closed_after : (normal : Normal) (steps : List Step) (rule : NormalRule) (before after : List Bool)
    (grew : Bool) → AddsHeads steps rule.heads before after grew
    → OnFalse grew (All (Founds normal steps after) (rule ∷ []))
closed_after normal steps rule before after true adds = tt
closed_after normal steps rule before after false adds =
    All-one (Founds normal steps after) rule (λ _. adds.has)

pub tries_reached : (normal : Normal) (steps : List Step) (rule : NormalRule)
    (before after : List Bool) (grew : Bool) → IsReached normal steps before rule
    → AddsHeads steps rule.heads before after grew
    → Tries normal steps (rule ∷ []) before after grew
tries_reached normal steps rule before after grew reached adds = record {
  places = adds.places;
  within = λ set founds part.
      adds.within set
      (All-only (Founds normal steps set) rule founds
      (reached_more normal steps before set rule part reached)) part;
  nearer = adds.nearer;
  same = adds.same;
  closed = closed_after normal steps rule before after grew adds;
}

-- rules one after the other
pub tries_none : (normal : Normal) (steps : List Step) (before : List Bool)
    → Tries normal steps [] before before false
tries_none normal steps before = record {
  places = refl;
  within = λ set _ part. part;
  nearer = tt;
  same = refl;
  closed = All-nil (Founds normal steps before);
}

within_more : (normal : Normal) (steps : List Step) (front : List NormalRule) (rule : NormalRule)
    (before mid after : List Bool) (one two : Bool) → Tries normal steps front before mid one
    → Tries normal steps (rule ∷ []) mid after two
    → (set : List Bool) → All (Founds normal steps set) (front ++ rule ∷ []) → IsPart before set
    → IsPart after set
within_more normal steps front rule before mid after one two so_far step set founds part =
    step.within set (All-right (Founds normal steps set) front (rule ∷ []) founds)
    (so_far.within set (All-left (Founds normal steps set) front (rule ∷ []) founds) part)

tries_missing : (normal : Normal) (steps : List Step) (rules : List NormalRule)
    (before mid : List Bool) (grew : Bool) → Tries normal steps rules before mid grew
    → missing mid ≤ missing before
tries_missing normal steps rules before mid true so_far = omega (arith, so_far.nearer)
tries_missing normal steps rules before mid false so_far =
    omega (arith, ap missing so_far.same)

-- a further rule founded an atom
pub tries_grew : (normal : Normal) (steps : List Step) (front : List NormalRule) (rule : NormalRule)
    (before mid after : List Bool) (grew : Bool) → Tries normal steps front before mid grew
    → Tries normal steps (rule ∷ []) mid after true
    → Tries normal steps (front ++ rule ∷ []) before after true
tries_grew normal steps front rule before mid after grew so_far step = record {
  places = step.places ∙ so_far.places;
  within = within_more normal steps front rule before mid after grew true so_far step;
  nearer =
      omega (arith, step.nearer, tries_missing normal steps front before mid grew so_far);
  same = tt;
  closed = tt;
}

-- a further rule founded none
pub tries_same : (normal : Normal) (steps : List Step) (front : List NormalRule) (rule : NormalRule)
    (before mid after : List Bool) (grew : Bool) → Tries normal steps front before mid grew
    → Tries normal steps (rule ∷ []) mid after false
    → Tries normal steps (front ++ rule ∷ []) before after grew
tries_same normal steps front rule before mid after true so_far step = record {
  places = step.places ∙ so_far.places;
  within = within_more normal steps front rule before mid after true false so_far step;
  nearer = omega (arith, so_far.nearer, ap missing step.same);
  same = tt;
  closed = tt;
}
tries_same normal steps front rule before mid after false so_far step = record {
  places = step.places ∙ so_far.places;
  within = within_more normal steps front rule before mid after false false so_far step;
  nearer = tt;
  same = step.same ∙ so_far.same;
  closed =
      All-push (Founds normal steps after) front rule
      (subst (λ (it : List Bool). All (Founds normal steps it) front) (sym step.same)
      so_far.closed)
      (All-only (Founds normal steps after) rule step.closed);
}

-- nothing is founded at first
pub below_empty : (normal : Normal) (steps : List Step) (set : List Bool)
    → IsEmpty (normal.atoms + 1) set → IsBelow normal steps set
below_empty normal steps set empty = record {
  places = empty.count;
  within = λ other _ atom here.
      ⊎_elim (λ (low : atom < length set). absurd
      (both_ways (has set atom) (empty.none atom false low) here))
      (λ (past : length set ≤ atom). absurd
      (both_ways (has set atom) (get_or_past set atom false past) here))
      (cases_lt atom (length set));
}

pub below_more : (normal : Normal) (steps : List Step) (before after : List Bool) (grew : Bool)
    → IsBelow normal steps before → Tries normal steps normal.rules before after grew
    → IsBelow normal steps after
below_more normal steps before after grew below tries = record {
  places = tries.places ∙ below.places;
  within = λ set closed. tries.within set closed (below.within set closed);
}

-- one rule leaves founded atoms alone
pub below_by : (normal : Normal) (steps : List Step) (number : ℕ) (rule : NormalRule)
    (before after : List Bool) (grew : Bool) → number < length normal.rules
    → rule ≡ get_or normal.rules number rule → IsBelow normal steps before
    → Tries normal steps (rule ∷ []) before after grew → IsBelow normal steps after
below_by normal steps number rule before after grew within at below tries = record {
  places = tries.places ∙ below.places;
  within = λ set closed.
      tries.within set
      (All-one (Founds normal steps set) rule
      (subst (Founds normal steps set) (sym at) (closed number rule within)))
      (below.within set closed);
}

-- a rule of the normal form names atoms and a body
pub rule_in : (normal : Normal) (vars number : ℕ) (rule : NormalRule) → IsCovered normal vars
    → number < length normal.rules → rule ≡ get_or normal.rules number rule → IsRuleIn normal rule
rule_in normal vars number rule covered within at = record {
  heads =
      subst (λ (one : NormalRule). All (IsAtomOf normal) one.heads) (sym at)
      (covered.range.heads number rule within);
  number =
      subst (λ (one : NormalRule). one.body < length normal.bodies) (sym at)
      (covered.range.numbers number rule within);
}

-- a round that founds nothing is the last
pub settled : (normal : Normal) (steps : List Step) (before after : List Bool)
    → IsBelow normal steps before → Tries normal steps normal.rules before after false
    → IsSettled normal steps after
settled normal steps before after below tries = record {
  below = below_more normal steps before after false below tries;
  closed = tries.closed;
}
