use Rattle.std.proofs.Common.{◌≡◌, ◌≢◌, ◌∙◌, rules, true, set, length-set}
use Rattle.clause_store.specs.declared.literal.Value.TheVariants.{Unset}
use Rattle.clause_store.specs.Trail.{value_of}
use Rattle.clause_store.proofs.LiteralLemmas.{lit_of_code}
use Rattle.normal_program.specs.Clauses.{negative}
use Rattle.unfounded_sets.specs.Wanted.{Wants}
use Rattle.unfounded_sets.proofs.LoopLemmas.{written_unset, written_set}
use Rattle.unfounded_sets.proofs.loops.write_loop.Goals as goal

pub returns-in_ok-push-clause-written : goal.returns-in_ok-push-clause-written
returns-in_ok-push-clause-written c =
    let is : c.negative-denial.result ≡ negative c.args.atom =
    lit_of_code c.negative-denial.result (negative c.args.atom) c.negative-denial.ensures in
    let wants : Wants c.args.normal.now c.args.trail.now.steps c.args.part.now
    c.args.normal.now.rules (set c.clear.new.set c.args.atom true) c.mark_answers.new.wanted =
    search rules in
    let unset : value_of c.args.trail.now.steps (negative c.args.atom) ≡ Unset = search rules in
    rw (c.in_ok-push.ensures.ok, is)
    (written_unset c.args.normal.now c.args.trail.now c.args.part.now c.clear.new.set
    c.mark_answers.new.wanted c.args.atom c.write_wanted.new.out c.requires.covered c.requires.part
    (c.clear.ensures.count ∙ c.requires.places) wants c.in_ok-write_wanted.ensures unset)

pub returns-in_default : goal.returns-in_default
returns-in_default c =
    let wants : Wants c.args.normal.now c.args.trail.now.steps c.args.part.now
    c.args.normal.now.rules (set c.clear.new.set c.args.atom true) c.mark_answers.new.wanted =
    search rules in
    let known : value_of c.args.trail.now.steps (negative c.args.atom) ≢ Unset = search rules in
    record {
      written =
          written_set c.args.normal.now c.args.trail.now c.args.part.now c.clear.new.set
          c.mark_answers.new.wanted c.args.atom c.write_wanted.new.out c.requires.covered
          c.requires.part (c.clear.ensures.count ∙ c.requires.places) wants
          c.in_ok-write_wanted.ensures known;
      places =
          wants.places ∙ length-set c.clear.new.set c.args.atom true ∙ c.clear.ensures.count;
    }
