-- Lists of atoms, the greatest of them, and the order of literals.
use Rattle.std.proofs.Common.{◌≡◌, ◌<◌, ◌≤◌, ◌+◌, ℕ, false, List, [], ◌∷◌, ◌++◌, length, get_or}
use Rattle.std.proofs.Common.{take, All, IsTrue, max, map, flat_map, arith, refl, sym, ap, ◌∙◌}
use Rattle.std.proofs.Common.{subst}
use Rattle.std.specs.Prelude.{◌↔◌}
use Rattle.std.specs.Ordering.{ord_max, nat_cmp}
use Rattle.std.proofs.lemmas.Bool.Decides.{nat_tests}
use Rattle.std.proofs.lemmas.List.{take_more, get_or_default, get_or-take, length-take-le}
use Rattle.std.proofs.lemmas.List.Elements.{All-nil, All-cons, All-head, All-tail, All-append}
use Rattle.std.proofs.lemmas.List.Elements.{All-more, All-weaker}
use Rattle.std.proofs.lemmas.List.Quantifiers.{all_pairs_push}
use Rattle.std.proofs.lemmas.List.Recursion.{max_push}
use Rattle.ground_program.specs.declared.program.Rule.{Rule}
use Rattle.ground_program.specs.declared.program.Weighted.{Weighted}
use Rattle.ground_program.specs.declared.program.Named.{Named}
use Rattle.ground_program.specs.declared.program.Program.{Program}
use Rattle.ground_program.specs.Program.{IsProgram, IsNumber, IsRule, NegativesFirst, atoms_of_rule}
use Rattle.ground_program.specs.Program.{atoms_of, greatest}
use Rattle.ground_program.specs.Validity.{IsAtom, RuleAtoms, AllAtoms, PartsFit, AtomsFit, FitsKind}
use Rattle.ground_program.specs.Validity.{RuleNumbers, atoms_of_body, atoms_of_names}

pub greatest-append : (xs ys : List ℕ) → greatest (xs ++ ys) ≡ max (greatest xs) (greatest ys)
greatest-append [] ys = omega arith
greatest-append (x ∷ xs) ys = let rest = greatest-append xs ys in omega arith

-- the greatest so far, with one more item
next-of : {X : Type 0} (F : List X → ℕ) (f : X → ℕ) → F [] ≡ 0
    → ((x : X) (xs : List X) → F (x ∷ xs) ≡ max (f x) (F xs))
    → (xs : List X) (i : ℕ) (d : X) → i < length xs
    → F (take (i + 1) xs) ≡ max (F (take i xs)) (f (get_or xs i d))
next-of F f none step xs i d below =
    ap F (take_more xs i d below) ∙ max_push F f none step (take i xs) (get_or xs i d)

pub next-number : (xs : List ℕ) (i : ℕ) (d : ℕ) → i < length xs
    → greatest (take (i + 1) xs) ≡ max (greatest (take i xs)) (get_or xs i d)
next-number = next-of greatest (λ x. x) refl (λ _ _. refl)

pub next-part : (body : List Weighted) (i : ℕ) (d : Weighted) → i < length body
    → greatest (atoms_of_body (take (i + 1) body))
    ≡ max (greatest (atoms_of_body (take i body))) (get_or body i d).lit.atom
next-part = next-of (λ xs. greatest (atoms_of_body xs)) (λ part. part.lit.atom) refl (λ _ _. refl)

pub next-named : (names : List Named) (i : ℕ) (d : Named) → i < length names
    → greatest (atoms_of_names (take (i + 1) names))
    ≡ max (greatest (atoms_of_names (take i names))) (get_or names i d).atom
next-named = next-of (λ xs. greatest (atoms_of_names xs)) (λ named. named.atom) refl (λ _ _. refl)

pub next-rule : (rules : List Rule) (i : ℕ) (d : Rule) → i < length rules
    → greatest (flat_map atoms_of_rule (take (i + 1) rules))
    ≡ max (greatest (flat_map atoms_of_rule (take i rules)))
    (greatest (atoms_of_rule (get_or rules i d)))
next-rule =
    next-of (λ xs. greatest (flat_map atoms_of_rule xs)) (λ rule. greatest (atoms_of_rule rule))
    refl
    (λ rule rules. greatest-append (atoms_of_rule rule) (flat_map atoms_of_rule rules))

-- what holds of each item of two lists in a row holds of each item of either
all-left : {X : Type 0} (P : X → Type 0) (xs ys : List X) → All P (xs ++ ys) → All P xs
all-left P [] ys all = All-nil P
all-left P (x ∷ xs) ys all =
    All-cons P x xs (All-head P x (xs ++ ys) all) (all-left P xs ys (All-tail P x (xs ++ ys) all))

all-right : {X : Type 0} (P : X → Type 0) (xs ys : List X) → All P (xs ++ ys) → All P ys
all-right P [] ys all = all
all-right P (x ∷ xs) ys all = all-right P xs ys (All-tail P x (xs ++ ys) all)

all-mapped : {X Y : Type 0} (P : Y → Type 0) (f : X → Y) (xs : List X) → All (λ x. P (f x)) xs
    → All P (map f xs)
all-mapped P f [] all = All-nil P
all-mapped P f (x ∷ xs) all =
    All-cons P (f x) (map f xs) (All-head (λ x. P (f x)) x xs all)
    (all-mapped P f xs (All-tail (λ x. P (f x)) x xs all))

all-unmapped : {X Y : Type 0} (P : Y → Type 0) (f : X → Y) (xs : List X) → All P (map f xs)
    → All (λ x. P (f x)) xs
all-unmapped P f [] all = All-nil (λ x. P (f x))
all-unmapped P f (x ∷ xs) all =
    All-cons (λ x. P (f x)) x xs (All-head P (f x) (map f xs) all)
    (all-unmapped P f xs (All-tail P (f x) (map f xs) all))

rule-atoms : (rule : Rule) → RuleAtoms rule → All IsAtom (atoms_of_rule rule)
rule-atoms rule parts =
    All-append IsAtom rule.heads (atoms_of_body rule.body) parts.heads
    (all-mapped IsAtom (λ part. part.lit.atom) rule.body parts.body)

atoms-rule : (rule : Rule) → All IsAtom (atoms_of_rule rule) → RuleAtoms rule
atoms-rule rule all = record {
  heads = all-left IsAtom rule.heads (atoms_of_body rule.body) all;
  body =
      all-unmapped IsAtom (λ part. part.lit.atom) rule.body
      (all-right IsAtom rule.heads (atoms_of_body rule.body) all);
}

rules-atoms : (rules : List Rule) → All RuleAtoms rules → All IsAtom (flat_map atoms_of_rule rules)
rules-atoms [] all = All-nil IsAtom
rules-atoms (rule ∷ rules) all =
    All-append IsAtom (atoms_of_rule rule) (flat_map atoms_of_rule rules)
    (rule-atoms rule (All-head RuleAtoms rule rules all))
    (rules-atoms rules (All-tail RuleAtoms rule rules all))

atoms-rules : (rules : List Rule) → All IsAtom (flat_map atoms_of_rule rules) → All RuleAtoms rules
atoms-rules [] all = All-nil RuleAtoms
atoms-rules (rule ∷ rules) all =
    All-cons RuleAtoms rule rules
    (atoms-rule rule (all-left IsAtom (atoms_of_rule rule) (flat_map atoms_of_rule rules) all))
    (atoms-rules rules (all-right IsAtom (atoms_of_rule rule) (flat_map atoms_of_rule rules) all))

atom-is : (atom : ℕ) → IsAtom atom → (1 ≤ atom) × IsNumber atom
atom-is atom is = (is.first, is.number)

is-atom : (atom : ℕ) → (1 ≤ atom) × IsNumber atom → IsAtom atom
is-atom atom is = record { first = is.0; number = is.1 }

program-atoms : (program : Program) → AllAtoms program → All IsAtom (atoms_of program)
program-atoms program each =
    let front =
    All-append IsAtom _ _ (rules-atoms program.rules each.rules)
    (all-mapped IsAtom (λ named. named.atom) program.names each.names) in
    All-append IsAtom _ _ (All-append IsAtom _ _ front each.compute.must) each.compute.must_not

atoms-program : (program : Program) → All IsAtom (atoms_of program) → AllAtoms program
atoms-program program all =
    let rules = flat_map atoms_of_rule program.rules in
    let names = atoms_of_names program.names in
    let three = all-left IsAtom (rules ++ names ++ program.must) program.must_not all in
    let two = all-left IsAtom (rules ++ names) program.must three in
    record {
      rules = atoms-rules program.rules (all-left IsAtom rules names two);
      names =
          all-unmapped IsAtom (λ named. named.atom) program.names
          (all-right IsAtom rules names two);
      compute = record {
        must = all-right IsAtom (rules ++ names) program.must three;
        must_not = all-right IsAtom (rules ++ names ++ program.must) program.must_not all;
      };
    }

-- the parts of a program make it one, and a program has them
pub program-from : (program : Program) → PartsFit program → AtomsFit program → IsProgram program
program-from program parts atoms = record {
  atoms = atoms.atoms;
  each_atom =
      All-weaker IsAtom (λ atom. (1 ≤ atom) × IsNumber atom) atom-is (atoms_of program)
      (program-atoms program atoms.each);
  rules = parts.rules;
  names = parts.names;
  models = parts.numbers.models;
  few_rules = parts.numbers.few_rules;
  few_names = parts.numbers.few_names;
  few_must = parts.numbers.few_must;
  few_must_not = parts.numbers.few_must_not;
}

pub program-parts : (program : Program) → IsProgram program → PartsFit program
program-parts program valid = record {
  numbers = record {
    models = valid.models;
    few_rules = valid.few_rules;
    few_names = valid.few_names;
    few_must = valid.few_must;
    few_must_not = valid.few_must_not;
  };
  rules = valid.rules;
  names = valid.names;
}

pub program-atoms_fit : (program : Program) → IsProgram program → AtomsFit program
program-atoms_fit program valid =
    record {
      atoms = valid.atoms;
      each =
          atoms-program program
          (All-weaker (λ atom. (1 ≤ atom) × IsNumber atom) IsAtom is-atom (atoms_of program)
          valid.each_atom);
    }

-- the parts of a rule make it one, and a rule has them
pub rule-from : (rule : Rule) → FitsKind rule → RuleNumbers rule → NegativesFirst rule.body
    → IsRule rule
rule-from rule kind numbers order = record {
  heads = kind.heads;
  bound = kind.bound;
  bound_number = numbers.bound_number;
  weights = kind.weights;
  order = order;
  few_heads = numbers.few_heads;
  few_literals = numbers.few_literals;
}

pub rule-kind : (rule : Rule) → IsRule rule → FitsKind rule
rule-kind rule valid = record { heads = valid.heads; bound = valid.bound; weights = valid.weights }

pub rule-numbers : (rule : Rule) → IsRule rule → RuleNumbers rule
rule-numbers rule valid = record {
  bound_number = valid.bound_number;
  few_heads = valid.few_heads;
  few_literals = valid.few_literals;
}

ord_max-is : (a b : ℕ) → ord_max nat_cmp a b ≡ max a b
ord_max-is a b = grind (arith, nat_tests)

-- the greatest number so far grows by the next one
pub grow : (so_far front next result more : ℕ) → result ≡ ord_max nat_cmp so_far next
    → so_far ≡ front → more ≡ max front next → result ≡ more
grow so_far front next result more is same step =
    is ∙ ord_max-is so_far next ∙ ap (λ n. max n next) same ∙ sym step

-- any literal, to read a body with
abbrev pub some_part : Weighted
some_part = record { lit = record { atom = 0; negated = false }; weight = 0 }

-- a literal is negative
abbrev pub IsNegative : Weighted → Type 0
IsNegative part = IsTrue part.lit.negated

-- before a negative literal all are negative
pub front-negative : (body : List Weighted) (i : ℕ) (d : Weighted) → i < length body
    → NegativesFirst body → IsNegative (get_or body i d) → All IsNegative (take i body)
front-negative body i d below order negative k e inside =
    let within : k < i = omega (arith, inside, length-take-le i body (omega arith)) in
    let here : IsNegative (get_or body i e) =
    subst IsNegative (get_or_default body i d e below) negative in
    subst IsNegative (sym (get_or-take i body k e within)) (order k i e within below here)

-- one more literal in order
pub order-more : (body : List Weighted) (i : ℕ) (d : Weighted) → i < length body
    → NegativesFirst (take i body) → (IsNegative (get_or body i d) → All IsNegative (take i body))
    → NegativesFirst (take (i + 1) body)
order-more body i d below order front =
    subst NegativesFirst (sym (take_more body i d below))
    (all_pairs_push (λ earlier later. IsNegative later → IsNegative earlier) (take i body)
    (get_or body i d) order
    (λ k e inside negative. front negative k e inside))

-- one more literal is negative exactly where all so far are, given that those before it are where
-- it is
pub flag-more : (body : List Weighted) (i : ℕ) (d : Weighted) → i < length body
    → (IsNegative (get_or body i d) → All IsNegative (take i body))
    → (IsNegative (get_or body i d) ↔ All IsNegative (take (i + 1) body))
flag-more body i d below front = (
  λ negative. All-more IsNegative body i d below (front negative) negative,
  λ all.
      let inside : i < length (take (i + 1) body) =
      omega (arith, length-take-le (i + 1) body (omega arith)) in
      subst IsNegative (get_or-take (i + 1) body i d (omega arith)) (all i d inside),
)
