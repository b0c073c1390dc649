use Rattle.std.proofs.Common.{sym, true≢false, ◌∙◌}
use Rattle.std.proofs.lemmas.List.Elements.{All-same}
use Rattle.ground_program.specs.Validity.{IsAtom, RuleAtoms}
use Rattle.ground_program.proofs.validity.have_atoms.Goals as goal

pub returns-then-not-rules_have_atoms : goal.returns-then-not-rules_have_atoms
returns-then-not-rules_have_atoms c = (
  λ never. absurd (true≢false (sym never)),
  λ all.
      let holds =
      c.rules_have_atoms.ensures.1 (All-same RuleAtoms _ _ c.as_slice.ensures all.rules) in
      absurd (true≢false (sym holds ∙ c.if-not-rules_have_atoms.true)),
)

pub returns-then-names_have_atoms : goal.returns-then-names_have_atoms
returns-then-names_have_atoms c = (
  λ yes. record {
    rules =
        All-same RuleAtoms _ _ (sym c.as_slice.ensures)
        (c.rules_have_atoms.ensures.0 c.if-not-rules_have_atoms.false);
    names =
        All-same (λ named. IsAtom named.atom) _ _ (sym c.as_slice-2.ensures)
        (c.names_have_atoms.ensures.0 c.if-names_have_atoms.true);
    compute = c.has_compute_atoms.ensures.0 yes;
  },
  λ all. c.has_compute_atoms.ensures.1 all.compute,
)
