-- The unfounded atoms, and what is written for them.
use Rattle.std.proofs.Common.{◌≡◌, ◌≢◌, ◌≤◌, ◌<◌, ◌+◌, ℕ, Bool, true, false, not, List, [], ◌∷◌}
use Rattle.std.proofs.Common.{◌++◌, length, get_or, Some, slice_get, arith, refl, sym, ap}
use Rattle.std.proofs.Common.{◌∙◌, subst, if◌then◌else◌, ⊎_elim, inl, inr, Option}
use Rattle.std.specs.Prelude.{All, Any, Contains, IsSomeAnd, ◌||◌}
use Rattle.std.proofs.Common.{cond, eqb, None, set, length-set, zero, suc}
use Rattle.std.proofs.lemmas.Bool.{cases_Bool, cases_eq, cases_lt, both_ways, eq-eqb}
use Rattle.std.proofs.lemmas.List.{get_or-set_same}
use Rattle.std.proofs.lemmas.List.Folds.{list_any-from_Any}
use Rattle.std.proofs.lemmas.Option.{slice_get-get_or}
use Rattle.std.proofs.lemmas.List.Elements.{All-push, Contains-get_or, Contains-push}
use Rattle.std.proofs.lemmas.List.Elements.{All-contains, Contains-append_left}
use Rattle.std.proofs.lemmas.List.Quantifiers.{all_pairs_push}
use Rattle.ground_program.specs.Meaning.{IsIn, has}
use Rattle.clause_store.specs.declared.literal.Lit.{Lit}
use Rattle.clause_store.specs.declared.literal.Value.TheVariants.{Yes, No, Unset}
use Rattle.clause_store.specs.declared.step.Step.{Step}
use Rattle.clause_store.specs.Clause.{variable, IsOver}
use Rattle.clause_store.specs.Trail.{Assigned, step_of, value_by, value_of}
use Rattle.clause_store.specs.Standing.{IsFalse}
use Rattle.clause_store.proofs.LiteralLemmas.{any_from, has_first, has_later, has_kept, kept_passes}
use Rattle.normal_program.specs.declared.normal.Part.{Part}
use Rattle.normal_program.specs.declared.normal.BodyOf.{BodyOf}
use Rattle.normal_program.specs.declared.normal.NormalRule.{NormalRule}
use Rattle.normal_program.specs.declared.normal.Normal.{Normal}
use Rattle.normal_program.specs.Normal.{body_var, greatest_body_var}
use Rattle.normal_program.specs.Clauses.{positive, negative, literal_of, is_lit, has_lit, has_atom}
use Rattle.normal_program.specs.Clauses.{atoms_of_normal, numbers_from}
use Rattle.normal_program.specs.Loop.{IsAtomOf, IsLoopClause, AnswersFor}
use Rattle.normal_program.specs.Loop.{is_beside, weight_beside}
use Rattle.normal_program.specs.Spent.{atoms_in}
use Rattle.item_list.proofs.ListLemmas.{sum_by-le_each}
use Rattle.normal_program.proofs.lemmas.Base.TruthLemmas.{variable-positive, variable-negative}
use Rattle.normal_program.proofs.lemmas.Base.TruthLemmas.{variable-literal_of}
use Rattle.normal_program.proofs.RangeLemmas.{IsNormal-in_range}
use Rattle.normal_program.specs.Limit.{IsNormal}
use Rattle.normal_program.specs.Range.{IsInRange}
use Rattle.normal_program.proofs.lemmas.Base.CleanLemmas.{kept_from}
use Rattle.normal_program.proofs.lemmas.Base.EntailedLemmas.{numbers_within}
use Rattle.unfounded_sets.specs.Founding.{is_false, HasHeads, HasTrueHead, IsClosed, IsOpen}
use Rattle.unfounded_sets.specs.Founding.{founding_weight, counts_with, KeepsOn, KeepsAllOn}
use Rattle.unfounded_sets.specs.Founding.{LacksOne}
use Rattle.unfounded_sets.specs.Found.{AreFounded, IsGiven, IsLoopWritten}
use Rattle.unfounded_sets.specs.Rounds.{IsCovered, IsSettled, IsOutside, HasValued, IsBelow}
use Rattle.unfounded_sets.specs.Wanted.{HasOpen, HasOther, IsOpenPart, IsLoopPart, BlocksIn}
use Rattle.unfounded_sets.specs.Wanted.{IsAnswered, Wants, AreWritten, weight_left, weight_possible}
use Rattle.unfounded_sets.specs.Wanted.{is_over, is_wanted}
use Rattle.unfounded_sets.proofs.ValueLemmas.{false_if, not_false_if}
use Rattle.unfounded_sets.proofs.ValueLemmas.{false_atom, yes_or_unset, yes_or_no}
use Rattle.unfounded_sets.proofs.WantedLemmas.{and-true}

-- ---- open atoms

-- an atom that isn't false is true or unset
pub has_open : (normal : Normal) (steps : List Step) (founded : List Bool)
    → HasValued normal steps founded Yes → HasValued normal steps founded Unset
    → HasOpen normal steps founded
has_open normal steps founded trues unsets atom is_atom possible =
    ⊎_elim (trues atom is_atom) (unsets atom is_atom)
    (yes_or_unset (value_of steps (positive atom)) possible)

pub open_yes : (normal : Normal) (steps : List Step) (founded : List Bool) (atom : ℕ)
    → IsOutside normal steps founded Yes atom → IsOpen normal steps founded atom
open_yes normal steps founded atom outside = record {
  is_atom = outside.is_atom;
  possible = λ denied. absurd (let e : Yes ≡ No = sym outside.valued ∙ denied in cc);
  outside = outside.outside;
}

pub open_unset : (normal : Normal) (steps : List Step) (founded : List Bool) (atom : ℕ)
    → IsOutside normal steps founded Unset atom → IsOpen normal steps founded atom
open_unset normal steps founded atom outside = record {
  is_atom = outside.is_atom;
  possible = λ denied. absurd (let e : Unset ≡ No = sym outside.valued ∙ denied in cc);
  outside = outside.outside;
}

-- ---- the part

counts_cell : (negated denied inside known : Bool) (weight : ℕ)
    → (negated ≡ false → denied ≡ false → inside ≡ false → known ≡ true)
    → (if denied || (if negated then false else inside) then 0 else weight)
    ≤ (if (if negated then not denied else known) then weight else 0)
counts_cell true true inside known weight brings = omega arith
counts_cell true false inside known weight brings = omega arith
counts_cell false true inside known weight brings = omega arith
counts_cell false false true known weight brings = omega arith
counts_cell false false false true weight brings = omega arith
counts_cell false false false false weight brings =
    absurd (let e : false ≡ true = brings refl refl refl in cc)

module _ (normal : Normal) (steps : List Step) (founded part : List Bool)
    (is : IsOpenPart normal steps founded part) where
  -- a literal that is possible outside the part counts towards founding
  counts_if : (it : Part) → IsAtomOf normal it.lit.atom
      → (if is_false steps (literal_of it.lit) || is_over part it.lit then 0 else it.weight)
      ≤ (if counts_with steps founded it.lit then it.weight else 0)
  counts_if it is_atom =
      counts_cell it.lit.negated (is_false steps (literal_of it.lit)) (has part it.lit.atom)
      (has founded it.lit.atom) it.weight
      (λ plain possible outside. ⊎_elim (λ known. known)
      (λ unknown. absurd
      (both_ways (has part it.lit.atom) outside
      ((is.just it.lit.atom).1
      (record {
        is_atom = is_atom;
        possible =
            not_false_if steps (positive it.lit.atom)
            (sym
            (ap (λ b. is_false steps (if b then negative it.lit.atom else positive it.lit.atom))
            plain) ∙ possible);
        outside = both_ways (has founded it.lit.atom) unknown;
      }))))
      (cases_Bool (has founded it.lit.atom)))

  possible_counts : (parts : List Part) → All (λ (it : Part). IsAtomOf normal it.lit.atom) parts
      → weight_possible steps part parts ≤ founding_weight steps founded parts
  possible_counts parts atoms =
      sum_by-le_each
      (λ (it : Part). if is_false steps (literal_of it.lit) || is_over part it.lit then 0
      else it.weight)
      (λ (it : Part). if counts_with steps founded it.lit then it.weight else 0) parts
      (λ k d within. counts_if (get_or parts k d) (atoms k d within))

  -- the set lacks a head in the part
  lacks_head : (rule : NormalRule) → Any (IsIn part) rule.heads
      → ¬ HasHeads steps founded rule.heads
  lacks_head rule (k, head, within, at, here) has_heads =
      let open_head = (is.just head).0 here in
      open_head.outside
      (subst (IsIn founded) at
      (has_heads k head within
      (subst (λ one. ¬ IsFalse steps (positive one)) (sym at) open_head.possible)))

  -- a true head in the set is outside the part
  other_head : (rule : NormalRule) → HasTrueHead steps founded rule → HasOther steps part rule
  other_head rule (disjunctive, (k, head, within, at, true_in)) = (
    head,
    record {
      disjunctive = disjunctive;
      among = (k, within, at);
      other = record {
        denied = true_in.1;
        outside = λ here. ((is.just head).0 here).outside true_in.0;
      };
    },
  )

  blocked_if : (rule : NormalRule) (body : BodyOf) → slice_get normal.bodies rule.body ≡ Some body
      → All (λ (it : Part). IsAtomOf normal it.lit.atom) body.parts
      → KeepsOn normal steps founded rule → BlocksIn normal steps part rule
  blocked_if rule body there atoms keeps head =
      ⊎_elim
      (λ denied. inl (false_if steps (positive (body_var normal rule.body)) denied))
      (λ possible. ⊎_elim
      (λ low. inr
      (inl
      (subst
      (λ o. IsSomeAnd o (λ (one : BodyOf). weight_possible steps part one.parts < one.bound))
      (sym there) low)))
      (λ enough. ⊎_elim (λ has_heads. absurd (lacks_head rule head has_heads))
      (λ other. inr (inr (other_head rule other)))
      (keeps
      (record {
        possible = not_false_if steps (positive (body_var normal rule.body)) possible;
        enough =
            subst
            (λ o. IsSomeAnd o
            (λ (one : BodyOf). one.bound ≤ founding_weight steps founded one.parts)) (sym there)
            (omega (arith, enough, possible_counts body.parts atoms));
      })))
      (cases_lt (weight_possible steps part body.parts) body.bound))
      (cases_Bool (is_false steps (positive (body_var normal rule.body))))

  -- so the part is an unfounded set
  pub loop_part : (atom : ℕ) (vars : ℕ) → IsCovered normal vars → KeepsAllOn normal steps founded
      → IsOpen normal steps founded atom → IsLoopPart normal steps part atom
  loop_part atom vars covered keeps opened = record {
    places = is.places;
    here = (is.just atom).1 opened;
    is_atom = λ one here. ((is.just one).0 here).is_atom;
    possible = λ one here. ((is.just one).0 here).possible;
    blocked = λ k rule within.
        let it = get_or normal.rules k rule in
        let number = covered.range.numbers k rule within in
        let body : BodyOf = record { bound = 0; parts = [] } in
        blocked_if it (get_or normal.bodies it.body body)
        (slice_get-get_or normal.bodies it.body body number)
        (covered.range.parts it.body body number) (keeps k rule within);
  }

-- a set to which founding adds nothing keeps the rules
pub closed_keeps : (normal : Normal) (steps : List Step) (set : List Bool)
    → IsClosed normal steps set → KeepsAllOn normal steps set
closed_keeps normal steps set closed k rule within reached = inl (closed k rule within reached)

-- ---- the loop clause

pub lit_found : (clause : List Lit) (lit : Lit) → Contains clause lit → has_lit clause lit ≡ true
lit_found clause lit here =
    list_any-from_Any (is_lit lit) clause
    (any_from (λ one. is_lit lit one ≡ true) clause lit here (eq-eqb lit.0 lit.0 refl))

pub atom_found : (atoms : List ℕ) (atom : ℕ) → Contains atoms atom → has_atom atoms atom ≡ true
atom_found atoms atom here =
    list_any-from_Any (eqb atom) atoms
    (any_from (λ one. eqb atom one ≡ true) atoms atom here (eq-eqb atom atom refl))

pub if_positive : (negated one two : Bool) → (one ≡ true → two ≡ true)
    → (if negated then false else one) ≡ true → (if negated then false else two) ≡ true
if_positive true one two more is = is
if_positive false one two more is = more is

pub cells : (has over wanted part : Bool) (weight : ℕ) → (wanted ≡ true → has ≡ true)
    → (part ≡ true → over ≡ true)
    → (if not (has || over) then weight else 0) ≤ (if wanted || part then 0 else weight)
cells true over wanted part weight first second = omega arith
cells false true wanted part weight first second = omega arith
cells false false true part weight first second =
    absurd (let e : false ≡ true = first refl in cc)
cells false false false true weight first second =
    absurd (let e : false ≡ true = second refl in cc)
cells false false false false weight first second = omega arith

-- a literal isn't false where one of its variable is unset
pub unset_apart : (steps : List Step) (one two : Lit) → variable one ≡ variable two
    → IsFalse steps one → value_of steps two ≡ Unset → ⊥
unset_apart steps one two same denied unset = go (step_of steps (variable one)) refl
  where
    never : (b : Bool) → cond b Yes No ≡ Unset → ⊥
    never true is = absurd (cc)
    never false is = absurd (cc)

    go : (o : Option Step) → step_of steps (variable one) ≡ o → ⊥
    go None none =
        absurd (let e : Unset ≡ No = sym (ap (λ o. value_by o one) none) ∙ denied in cc)
    go (Some step) some =
        never (eqb step.lit.0 two.0)
        (sym (ap (λ o. value_by o two) (ap (step_of steps) (sym same) ∙ some)) ∙ unset)

-- a number stands among those from a first one on
number_there : (first count number : ℕ) → first ≤ number → number < first + count
    → Contains (numbers_from first count) number
number_there first zero number low high = absurd (omega (arith, low, high))
number_there first (suc count) number low high =
    ⊎_elim (λ same. subst (Contains (numbers_from first (suc count))) (sym same)
    (has_first first (numbers_from (first + 1) count)))
    (λ other. has_later first number (numbers_from (first + 1) count)
    (number_there (first + 1) count number (omega (arith, low, other)) (omega (arith, high))))
    (cases_eq number first)

-- an atom stands among the atoms
atom_there : (normal : Normal) (atom : ℕ) → IsAtomOf normal atom
    → Contains (atoms_of_normal normal) atom
atom_there normal atom is = number_there 1 normal.atoms atom is.first (omega (arith, is.last))

module _ (normal : Normal) (steps : List Step) (part wanted : List Bool) (lits clause : List Lit)
    (written : AreWritten steps wanted (greatest_body_var normal + 1) lits)
    (has_lits : (lit : Lit) → Contains lits lit → Contains clause lit) where
  abbrev atoms : List ℕ
  atoms = atoms_in normal part

  atoms_are : All (IsAtomOf normal) atoms
  atoms_are k d within =
      let low = numbers_within 1 normal.atoms (get_or atoms k d)
      (kept_from (has part) (atoms_of_normal normal) (get_or atoms k d)
      (Contains-get_or atoms k d within)) in
      record { first = low.0; last = omega (arith, low.1) }

  from_atoms : (atom : ℕ) → Contains atoms atom → IsIn part atom
  from_atoms atom here = kept_passes (has part) (atoms_of_normal normal) atom here

  to_atoms : (atom : ℕ) → IsAtomOf normal atom → IsIn part atom → Contains atoms atom
  to_atoms atom is_atom here =
      has_kept (has part) (atoms_of_normal normal) atom (atom_there normal atom is_atom) here

  -- a wanted false literal stands in the clause
  stands : (lit : Lit) → IsFalse steps lit → IsIn wanted (variable lit) → 1 ≤ variable lit
      → variable lit ≤ greatest_body_var normal → Contains clause lit
  stands lit denied here first last =
      has_lits lit (written.complete lit denied here first (omega (arith, last)))

  beside_left : (it : Part) → IsAtomOf normal it.lit.atom
      → (if is_beside atoms clause it then it.weight else 0)
      ≤ (if is_wanted steps wanted it.lit || is_over part it.lit then 0 else it.weight)
  beside_left it is_atom =
      cells (has_lit clause (literal_of it.lit))
      (if it.lit.negated then false else has_atom atoms it.lit.atom)
      (is_wanted steps wanted it.lit) (is_over part it.lit) it.weight
      (λ wants. let both = and-true (is_false steps (literal_of it.lit))
      (has wanted it.lit.atom) wants in
      let var = variable-literal_of it.lit in
      lit_found clause (literal_of it.lit)
      (stands (literal_of it.lit) (false_if steps (literal_of it.lit) both.0)
      (subst (IsIn wanted) (sym var) both.1) (omega (arith, var, is_atom.first))
      (omega (arith, var, is_atom.last))))
      (if_positive it.lit.negated (has part it.lit.atom) (has_atom atoms it.lit.atom)
      (λ here. atom_found atoms it.lit.atom (to_atoms it.lit.atom is_atom here)))

  answers : (rule : NormalRule) → IsAnswered normal steps part wanted rule
      → (body : BodyOf) → slice_get normal.bodies rule.body ≡ Some body
      → All (λ (it : Part). IsAtomOf normal it.lit.atom) body.parts
      → rule.body < length normal.bodies → All (IsAtomOf normal) rule.heads
      → AnswersFor normal atoms clause rule
  answers rule (inl denied) body there parts number heads =
      let var = variable-positive (body_var normal rule.body) in
      inl
      (stands (positive (body_var normal rule.body)) denied.0
      (subst (IsIn wanted) (sym var) denied.1) (omega (arith, var)) (omega (arith, var, number)))
  answers rule (inr (inl below)) body there parts number heads =
      inr
      (inl
      (subst (λ o. IsSomeAnd o (λ (one : BodyOf). weight_beside atoms clause one < one.bound))
      (sym there)
      (let low = subst
      (λ o. IsSomeAnd o (λ (one : BodyOf). weight_left steps part wanted one.parts < one.bound))
      there below in
      omega (
        arith,
        low,
        sum_by-le_each (λ (it : Part). if is_beside atoms clause it then it.weight else 0)
            (λ (it : Part). if is_wanted steps wanted it.lit || is_over part it.lit then 0
            else it.weight) body.parts
            (λ k d within. beside_left (get_or body.parts k d) (parts k d within)),
      ))))
  answers rule (inr (inr (head, other, here))) body there parts number heads =
      let var = variable-negative head in
      let is_atom =
      All-contains (IsAtomOf normal) rule.heads head heads other.among in
      inr
      (inr (
        other.disjunctive,
        any_from (λ one. (¬ Contains atoms one) × Contains clause (negative one)) rule.heads head
            other.among (
              λ inside. other.other.outside (from_atoms head inside),
              stands (negative head) other.other.denied (subst (IsIn wanted) (sym var) here)
                  (omega (arith, var, is_atom.first)) (omega (arith, var, is_atom.last)),
            ),
      ))

  -- the clause is a loop clause where it has the negation of an atom of the part
  is_loop : (atom : ℕ) → IsLoopPart normal steps part atom → IsInRange normal
      → All (λ rule. Any (IsIn part) rule.heads → IsAnswered normal steps part wanted rule)
      normal.rules
      → Contains clause (negative atom) → IsLoopClause normal clause
  is_loop atom loop range answered here = (
    atoms,
    record {
      over = atoms_are;
      denies =
          any_from (λ one. Contains clause (negative one)) atoms atom
          (to_atoms atom (loop.is_atom atom loop.here) loop.here) here;
      rules = λ k rule within head.
          let it = get_or normal.rules k rule in
          let number = range.numbers k rule within in
          let none : BodyOf = record { bound = 0; parts = [] } in
          answers it
          (answered k rule within
          (head.0, head.1, head.2, head.3, from_atoms head.1 head.4))
          (get_or normal.bodies it.body none)
          (slice_get-get_or normal.bodies it.body none number)
          (range.parts it.body none number) number (range.heads k rule within);
    },
  )

module _ (normal : Normal) (trail : Assigned) (part before wanted : List Bool) (atom : ℕ)
    (lits : List Lit) (covered : IsCovered normal trail.vars)
    (loop : IsLoopPart normal trail.steps part atom)
    (places : length before ≡ greatest_body_var normal + 1)
    (wants : Wants normal trail.steps part normal.rules (set before atom true) wanted)
    (lits_written : AreWritten trail.steps wanted (length wanted) lits) where
  abbrev denial : Lit
  denial = negative atom

  is_atom : IsAtomOf normal atom
  is_atom = loop.is_atom atom loop.here

  up_to_last : AreWritten trail.steps wanted (greatest_body_var normal + 1) lits
  up_to_last =
      subst (λ to. AreWritten trail.steps wanted to lits)
      (wants.places ∙ length-set before atom true ∙ places) lits_written

  lits_over : All (IsOver (greatest_body_var normal)) lits
  lits_over k d within =
      let low = up_to_last.over k d within in
      record { first = low.0; last = omega (arith, low.1) }

  -- where the negation is unset it is put last
  pub written_unset : value_of trail.steps denial ≡ Unset
      → IsLoopWritten normal trail (lits ++ denial ∷ [])
  written_unset unset =
      let clause = lits ++ denial ∷ [] in
      let var = variable-negative atom in
      record {
        is_loop =
            is_loop normal trail.steps part wanted lits clause up_to_last
            (λ lit here. Contains-append_left lits (denial ∷ []) lit here) atom loop covered.range
            wants.answered (Contains-push lits denial);
        standing =
            inr (
              denial,
              record {
                here = Contains-push lits denial;
                unset = unset;
                others =
                    All-push (λ other. other ≢ denial → IsFalse trail.steps other) lits denial
                    (λ k d within other. up_to_last.falses k d within)
                    (λ other. absurd (other refl));
              },
            );
        once =
            all_pairs_push (λ one two. variable one ≢ variable two) lits denial up_to_last.once
            (λ k d within same. unset_apart trail.steps (get_or lits k d) denial same
            (up_to_last.falses k d within) unset);
        over =
            All-push (IsOver (greatest_body_var normal)) lits denial lits_over
            (record {
              first = omega (arith, var, is_atom.first);
              last = omega (arith, var, is_atom.last);
            });
      }

  -- or else it is false and stands among them
  denied : value_of trail.steps denial ≢ Unset → IsFalse trail.steps denial
  denied known =
      ⊎_elim
      (λ is_yes. absurd (loop.possible atom loop.here (false_atom trail.steps atom is_yes)))
      (λ is_no. is_no) (yes_or_no (value_of trail.steps denial) known)

  pub written_set : value_of trail.steps denial ≢ Unset → IsLoopWritten normal trail lits
  written_set known =
      let var = variable-negative atom in
      let low : atom < length before = omega (arith, places, is_atom.last) in
      let marked : IsIn wanted atom =
      wants.more atom (get_or-set_same before atom true false low) in
      record {
        is_loop =
            is_loop normal trail.steps part wanted lits lits up_to_last (λ lit here. here) atom loop
            covered.range wants.answered
            (up_to_last.complete denial (denied known) (subst (IsIn wanted) (sym var) marked)
            (omega (arith, var, is_atom.first)) (omega (arith, var, is_atom.last)));
        standing = inl up_to_last.falses;
        once = up_to_last.once;
        over = lits_over;
      }

-- ---- what is found

pub all_founded : (normal : Normal) (steps : List Step) (founded : List Bool)
    → IsBelow normal steps founded → HasOpen normal steps founded → AreFounded normal steps
all_founded normal steps founded below none atom is_atom possible set closed =
    below.within set closed atom (none atom is_atom possible)

pub given_loop : (normal : Normal) (trail : Assigned) (founded : List Bool) (atom : ℕ)
    (clause : List Lit) → IsSettled normal trail.steps founded
    → IsOpen normal trail.steps founded atom → IsLoopWritten normal trail clause
    → IsGiven normal trail clause
given_loop normal trail founded atom clause settled opened written = record {
  some = (
    atom,
    record {
      is_atom = opened.is_atom;
      possible = opened.possible;
      unfounded = λ is. opened.outside (is founded settled.closed);
    },
  );
  written = written;
}

pub covers : (normal : Normal) (vars : ℕ) → IsNormal normal → greatest_body_var normal ≤ vars
    → IsCovered normal vars
covers normal vars is over = record { range = IsNormal-in_range normal is; over = over }

-- the set has no such atom, and lacks one
pub none_lacks : (normal : Normal) (steps : List Step) (set : List Bool)
    → HasOpen normal steps set → ¬ LacksOne normal steps set
none_lacks normal steps set has (atom, opened) =
    opened.outside (has atom opened.is_atom opened.possible)
