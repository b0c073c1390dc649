-- The atoms and numbers of a normal form are in range, since those of its program are.
use Rattle.std.proofs.Common.{◌≡◌, ◌≤◌, ◌<◌, ◌+◌, ℕ, List, [], ◌∷◌, ◌++◌, slice_get, length, get_or}
use Rattle.std.proofs.Common.{get_or-append-add, map, flat_map, All, sym, ap, subst, ◌∙◌, arith}
use Rattle.std.proofs.Common.{length-append}
use Rattle.std.specs.List.{AllZip}
use Rattle.std.proofs.lemmas.List.{get_or_append_left, get_or-map, length-map}
use Rattle.std.proofs.lemmas.List.Elements.{All-nil, All-cons}
use Rattle.std.proofs.lemmas.Option.{slice_get_within, get_or_from_slice_get}
use Rattle.ground_program.specs.declared.program.AtomLit.{AtomLit}
use Rattle.ground_program.specs.declared.program.Weighted.{Weighted}
use Rattle.ground_program.specs.declared.program.Rule.{Rule}
use Rattle.ground_program.specs.declared.program.Named.{Named}
use Rattle.ground_program.specs.declared.program.Program.{Program}
use Rattle.ground_program.specs.Program.{IsRule, HeadsFit, IsProgram, atoms_of_rule, atoms_of}
use Rattle.ground_program.specs.Program.{greatest}
use Rattle.normal_program.specs.declared.normal.BodyOf.{BodyOf}
use Rattle.normal_program.specs.declared.normal.NormalRule.{NormalRule}
use Rattle.normal_program.specs.declared.normal.Normal.{Normal}
use Rattle.normal_program.specs.Normal.{IsBodyOf, StandsFor, IsNormalFormOf}
use Rattle.normal_program.specs.Limit.{IsNormal}
use Rattle.normal_program.specs.Loop.{IsAtomOf}
use Rattle.normal_program.specs.Range.{IsInRange}
use Rattle.item_list.proofs.ListLemmas.{AllZip-All, AllZip-flip, AllZip-length, All-found}
use Rattle.item_list.proofs.ListLemmas.{IsSomeAnd-found}
use Rattle.normal_program.proofs.UniqueLemmas.{body_at}

module _ {X : Type 0} (P : X → Type 0) where
  -- all of two lists are all of each
  pub All-left : (xs ys : List X) → All P (xs ++ ys) → All P xs
  All-left xs ys all k d within =
      subst P (get_or_append_left xs ys d k within)
      (all k d (omega (arith, within, length-append xs ys)))

  pub All-right : (xs ys : List X) → All P (xs ++ ys) → All P ys
  All-right xs ys all k d within =
      subst P (get_or-append-add xs ys k d)
      (all (length xs + k) d (omega (arith, within, length-append xs ys)))

  module _ {Y : Type 0} where
    -- all values of a function
    pub All-unmap : (f : Y → X) (ys : List Y) → All P (map f ys) → All (λ y. P (f y)) ys
    All-unmap f ys all k d within =
        subst P (get_or-map f ys k d (f d) within)
        (all k (f d) (omega (arith, within, length-map ys f)))

    -- all items of many lists
    pub All-unflat : (f : Y → List X) (ys : List Y) → All P (flat_map f ys)
        → All (λ y. All P (f y)) ys
    All-unflat f [] all = All-nil (λ y. All P (f y))
    All-unflat f (y ∷ ys) all =
        All-cons (λ z. All P (f z)) y ys (All-left (f y) (flat_map f ys) all)
        (All-unflat f ys (All-right (f y) (flat_map f ys) all))

-- no number is over the greatest
at_most_greatest : (xs : List ℕ) → All (λ x. x ≤ greatest xs) xs
at_most_greatest [] = All-nil (λ x. x ≤ greatest [])
at_most_greatest (y ∷ xs) =
    All-cons (λ x. x ≤ greatest (y ∷ xs)) y xs (omega arith)
    (λ k d within. let low : get_or xs k d ≤ greatest xs = at_most_greatest xs k d within in
    omega arith)

module _ (normal : Normal) (program : Program) (valid : IsProgram program)
    (form : IsNormalFormOf normal program) where
  all_atoms : All (IsAtomOf normal) (atoms_of program)
  all_atoms k d within =
      let low : get_or (atoms_of program) k d ≤ greatest (atoms_of program) =
      at_most_greatest (atoms_of program) k d within in
      let each = valid.each_atom k d within in
      record { first = each.0; last = omega (arith, low, valid.atoms, form.atoms) }

  rule_atoms : All (λ rule. All (IsAtomOf normal) (atoms_of_rule rule)) program.rules
  rule_atoms = All-unflat (IsAtomOf normal) atoms_of_rule program.rules
      (All-left (IsAtomOf normal) _ (map (λ (named : Named). named.atom) program.names)
      (All-left (IsAtomOf normal) _ program.must
      (All-left (IsAtomOf normal) _ program.must_not all_atoms)))

  name_atoms : All (λ named. IsAtomOf normal named.atom) program.names
  name_atoms = All-unmap (IsAtomOf normal) (λ (named : Named). named.atom) program.names
      (All-right (IsAtomOf normal) (flat_map atoms_of_rule program.rules)
      (map (λ (named : Named). named.atom) program.names)
      (All-left (IsAtomOf normal) _ program.must
      (All-left (IsAtomOf normal) _ program.must_not all_atoms)))

  must_atoms : All (IsAtomOf normal) program.must
  must_atoms =
      All-right (IsAtomOf normal)
      (flat_map atoms_of_rule program.rules
      ++ map (λ (named : Named). named.atom) program.names) program.must
      (All-left (IsAtomOf normal) _ program.must_not all_atoms)

  must_not_atoms : All (IsAtomOf normal) program.must_not
  must_not_atoms =
      All-right (IsAtomOf normal)
      (flat_map atoms_of_rule program.rules ++ map (λ (named : Named). named.atom) program.names
      ++ program.must) program.must_not all_atoms

  back : AllZip (λ rule one. StandsFor normal.bodies one rule) program.rules normal.rules
  back = AllZip-flip (StandsFor normal.bodies) normal.rules program.rules form.rules.each

  number_within : (rule : Rule) (one : NormalRule) → StandsFor normal.bodies one rule
      → one.body < length normal.bodies
  number_within rule one stands = let found =
      IsSomeAnd-found (IsBodyOf rule) (slice_get normal.bodies one.body) stands.body in
      slice_get_within normal.bodies one.body found.0 found.1

  part_atoms : All (λ body. All (λ part. IsAtomOf normal part.lit.atom) body.parts) normal.bodies
  part_atoms at d within k e in_parts =
      let some = form.rules.used at within in
      let rule : Rule = record { kind = some.1.kind; heads = some.1.heads; bound = 0; body = [] } in
      let found =
      body_at normal.bodies normal.rules program.rules form.rules some.0 some.1 rule some.2 in
      let number : (get_or normal.rules some.0 some.1).body ≡ at =
      ap (λ (one : NormalRule). one.body) some.3 ∙ some.4 in
      let same : get_or normal.bodies at d ≡ found.0 =
      get_or_from_slice_get normal.bodies at found.0 d
      (ap (slice_get normal.bodies) (sym number) ∙ found.1) in
      let source = get_or program.rules some.0 rule in
      let in_source : All (λ item. IsAtomOf normal item.lit.atom) source.body =
      All-unmap (IsAtomOf normal) (λ (item : Weighted). item.lit.atom) source.body
      (All-right (IsAtomOf normal) source.heads
      (map (λ (item : Weighted). item.lit.atom) source.body)
      (rule_atoms some.0 rule
      (omega (
        arith,
        some.2,
        AllZip-length (StandsFor normal.bodies) normal.rules program.rules
            form.rules.each,
      )))) in
      let of_found : All (λ part. IsAtomOf normal part.lit.atom) found.0.parts =
      λ j part low. let item = found.2.parts.occurs j part low in
      subst (λ (lit : AtomLit). IsAtomOf normal lit.atom) item.4
      (All-found (λ (one : Weighted). IsAtomOf normal one.lit.atom) _ source.body in_source
      item) in
      subst (λ (body : BodyOf). All (λ part. IsAtomOf normal part.lit.atom) body.parts) (sym same)
      of_found k e in_parts

-- a normal form is in range
pub IsNormal-in_range : (normal : Normal) → IsNormal normal → IsInRange normal
IsNormal-in_range normal is = record {
  parts = part_atoms normal is.source is.valid is.form;
  heads =
      AllZip-All (λ rule one. StandsFor normal.bodies one rule)
      (λ rule. All (IsAtomOf normal) (atoms_of_rule rule))
      (λ one. All (IsAtomOf normal) one.heads)
      (λ rule one stands atoms. subst (All (IsAtomOf normal)) (sym stands.heads)
      (All-left (IsAtomOf normal) rule.heads
      (map (λ (item : Weighted). item.lit.atom) rule.body) atoms))
      is.source.rules normal.rules (back normal is.source is.valid is.form)
      (rule_atoms normal is.source is.valid is.form);
  heads_fit =
      AllZip-All (λ rule one. StandsFor normal.bodies one rule) IsRule
      (λ one. HeadsFit one.kind one.heads)
      (λ rule one stands fits. subst (λ kind. HeadsFit kind one.heads) (sym stands.kind)
      (subst (HeadsFit rule.kind) (sym stands.heads) fits.heads))
      is.source.rules normal.rules (back normal is.source is.valid is.form) is.valid.rules;
  numbers =
      AllZip-All (λ rule one. StandsFor normal.bodies one rule)
      (λ rule. All (IsAtomOf normal) (atoms_of_rule rule))
      (λ one. one.body < length normal.bodies)
      (λ rule one stands atoms. number_within normal is.source is.valid is.form rule one stands)
      is.source.rules normal.rules (back normal is.source is.valid is.form)
      (rule_atoms normal is.source is.valid is.form);
  names =
      subst (All (λ named. IsAtomOf normal named.atom)) (sym is.form.names)
      (name_atoms normal is.source is.valid is.form);
  must =
      subst (All (IsAtomOf normal)) (sym is.form.must)
      (must_atoms normal is.source is.valid is.form);
  must_not =
      subst (All (IsAtomOf normal)) (sym is.form.must_not)
      (must_not_atoms normal is.source is.valid is.form);
  few = is.few;
}
