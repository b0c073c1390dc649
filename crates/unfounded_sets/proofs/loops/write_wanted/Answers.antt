use Rattle.std.proofs.Common.{◌≡◌, false, length, rules, arith, subst}
use Rattle.std.proofs.lemmas.Bool.{both_ways}
use Rattle.ground_program.specs.Meaning.{has}
use Rattle.unfounded_sets.specs.Wanted.{AreWritten}
use Rattle.unfounded_sets.proofs.WantedLemmas.{written_skip, written_puts}
use Rattle.unfounded_sets.proofs.loops.write_wanted.Goals as goal
use Rattle.unfounded_sets.proofs.loops.write_wanted.Goals.{then-has_atom+in_ok-write_false}
use Rattle.unfounded_sets.proofs.loops.write_wanted.Goals.{else-has_atom}

pub loop-var-preserved : goal.loop-var-preserved
loop-var-preserved c = (
  omega arith,
  elim c.if-has_atom.branch [
    | then-has_atom+in_ok-write_false w ↦
        rw w.out-is
        (written_puts c.args.trail.now.steps c.args.wanted.now c.loop-var.var c.loop-var.out
        w.write_false.new.out c.loop-var.invariant.1 c.loop-var.invariant.0
        w.in_ok-write_false.ensures)
    | else-has_atom w ↦
        let out : has c.args.wanted.now c.loop-var.var ≡ false = search rules in
        rw w.out-is
        (written_skip c.args.trail.now.steps c.args.wanted.now c.loop-var.var c.loop-var.out
        c.loop-var.invariant.1
        (λ lit is denied here. both_ways (has c.args.wanted.now c.loop-var.var) out here))
  ],
)

pub returns : goal.returns
returns c =
    let some = c.requires.some in
    let count = c.len-var-end.ensures in
    let last : c.loop-var.var ≡ length c.args.wanted.now =
    omega (
      arith,
      some,
      count,
      c.loop-var-test.false,
      c.loop-var.auto.var-end (omega (arith, some, count)),
    ) in
    subst (λ to. AreWritten c.args.trail.now.steps c.args.wanted.now to c.loop-var.out) last
    c.loop-var.invariant.1
