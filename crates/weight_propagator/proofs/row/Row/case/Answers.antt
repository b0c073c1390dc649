use Rattle.std.proofs.Common.{◌≡◌, ◌∙◌, ◌+◌, ◌-◌, arith, sym, ap}
use Rattle.clause_store.specs.declared.literal.Value.TheVariants.{Yes, No, Unset}
use Rattle.clause_store.specs.Trail.{value_of}
use Rattle.clause_store.proofs.LiteralLemmas.{lit_of_code}
use Rattle.normal_program.specs.Clauses.{positive}
use Rattle.weight_propagator.proofs.CaseLemmas.{taken_missed, cause_missed, cause_needs}
use Rattle.weight_propagator.proofs.CaseLemmas.{cause_refuses}
use Rattle.weight_propagator.proofs.row.Row.case.Goals as goal

pub returns-then-missed : goal.returns-then-missed
returns-then-missed c =
    let is : value_of c.args.trail.now.steps (positive c.args.self.now.var.0) ≡ Yes =
    ap (value_of c.args.trail.now.steps)
    (lit_of_code (positive c.args.self.now.var.0) c.positive.result (sym c.positive.ensures))
    ∙ sym c.value.ensures ∙ c.in-Yes.is in
    cause_missed c.args.trail.now.steps c.args.self.now c.requires.row.sized
    (omega (arith, c.requires.possible, c.if-missed.true)) (λ e. cc)

pub overflow_add-sums : goal.overflow_add-sums
overflow_add-sums c =
    omega (
      arith,
      c.requires.possible,
      c.requires.row.sized.few,
      taken_missed c.args.trail.now.steps c.args.self.now.terms,
    )

pub returns-in-Some : goal.returns-in-Some
returns-in-Some c =
    let is : value_of c.args.trail.now.steps (positive c.args.self.now.var.0) ≡ Yes =
    ap (value_of c.args.trail.now.steps)
    (lit_of_code (positive c.args.self.now.var.0) c.positive.result (sym c.positive.ensures))
    ∙ sym c.value.ensures ∙ c.in-Yes.is in
    cause_needs c.args.trail.now.steps c.args.self.now c.requires.row.sized c.in-Some.lit
    (c.args.sums.possible - c.args.self.now.bound + 1) is
    c.in-Some.ensures.some
    (omega (arith, c.requires.possible, c.if-missed.false)) c.in-Some.ensures.weight

pub returns-in-Some-unset_of : goal.returns-in-Some-unset_of
returns-in-Some-unset_of c =
    let is : value_of c.args.trail.now.steps (positive c.args.self.now.var.0) ≡ No =
    ap (value_of c.args.trail.now.steps)
    (lit_of_code (positive c.args.self.now.var.0) c.positive.result (sym c.positive.ensures))
    ∙ sym c.value.ensures ∙ c.in-No.is in
    cause_refuses c.args.trail.now.steps c.args.self.now c.requires.row.sized c.in-Some-unset_of.lit
    (c.args.self.now.bound - c.args.sums.yes) is
    c.in-Some-unset_of.ensures.some
    (omega (arith, c.requires.yes)) c.in-Some-unset_of.ensures.weight

pub returns-then-missed-2 : goal.returns-then-missed-2
returns-then-missed-2 c =
    let is : value_of c.args.trail.now.steps (positive c.args.self.now.var.0) ≡ Unset =
    ap (value_of c.args.trail.now.steps)
    (lit_of_code (positive c.args.self.now.var.0) c.positive.result (sym c.positive.ensures))
    ∙ sym c.value.ensures ∙ c.in-Unset.is in
    cause_missed c.args.trail.now.steps c.args.self.now c.requires.row.sized
    (omega (arith, c.requires.possible, c.if-missed-2.true)) (λ e. cc)
