use Rattle.std.proofs.Common.{◌≡◌, subst, refl, arith}
use Rattle.normal_program.specs.declared.normal.Normal.{Normal}
use Rattle.normal_program.specs.Normal.{AreNumbered, variables, IsNormalFormOf}
use Rattle.normal_program.proofs.NormalLemmas.{SameBodies-normal_form, SameAnswerSets-normal_form}
use Rattle.rule_normaliser.proofs.normalising.normalise.Goals as goal

pub returns-then-count-gt-MOST_VARIABLES-clause-refused :
    goal.returns-then-count-gt-MOST_VARIABLES-clause-refused
returns-then-count-gt-MOST_VARIABLES-clause-refused c =
    let program = c.args.program.now in
    let numbered = c.in_ok-numbered.numbered in
    let normal : Normal =
    record {
      atoms = program.atoms;
      bodies = numbered.bodies.keys;
      rules = numbered.rules;
      names = program.names;
      must = program.must;
      must_not = program.must_not;
    } in
    let form : IsNormalFormOf normal program =
    record {
      atoms = refl;
      names = refl;
      must = refl;
      must_not = refl;
      rules =
          subst (AreNumbered normal.bodies normal.rules) c.as_slice.ensures
          c.in_ok-numbered.ensures;
    } in
    let count : variables normal ≡ c.variable_count-count.result =
    omega (
      arith,
      c.variable_count-count.ensures,
      c.len.ensures.len,
    ) in
    ((normal, form, count), c.if-count-gt-MOST_VARIABLES.true)

pub returns-clause-bodies : goal.returns-clause-bodies
returns-clause-bodies c = SameBodies-normal_form _ _ c.in_ok-normal.ensures.form

pub returns-clause-same : goal.returns-clause-same
returns-clause-same c = SameAnswerSets-normal_form _ _ c.in_ok-normal.ensures.form
