use Rattle.std.proofs.Common.{◌≡◌, ◌++◌, ◌∷◌, [], map, rules, ap, subst, if◌then◌else◌}
use Rattle.std.specs.Prelude.{All}
use Rattle.ground_program.specs.Meaning.{has}
use Rattle.clause_store.specs.declared.literal.Lit.{Lit}
use Rattle.clause_store.specs.Standing.{IsFalse}
use Rattle.clause_store.proofs.LiteralLemmas.{lit_of_code}
use Rattle.normal_program.specs.Clauses.{negative}
use Rattle.unfounded_sets.specs.declared.grown.Grown.{Grown}
use Rattle.unfounded_sets.specs.Grown.{coded}
use Rattle.unfounded_sets.specs.Members.{Marked}
use Rattle.unfounded_sets.proofs.GrownLemmas.{given_by, grown_next}
use Rattle.unfounded_sets.proofs.grown.Grown.write.Goals as goal

pub returns-in_err-write_denial-clause-grown : goal.returns-in_err-write_denial-clause-grown
returns-in_err-write_denial-clause-grown c =
    grown_next c.args.normal.now c.args.self.now c.next_open.new.self c.requires.grown
    c.next_open.ensures.same

pub returns-in-Some-clause-grown : goal.returns-in-Some-clause-grown
returns-in-Some-clause-grown c =
    grown_next c.args.normal.now c.args.self.now c.next_open.new.self c.requires.grown
    c.next_open.ensures.same

pub returns-in-Some-clause-given : goal.returns-in-Some-clause-given
returns-in-Some-clause-given c =
    let it = c.args.self.now in
    let lits : c.next_open.new.self.lits ≡ it.lits =
    ap (λ (one : Grown). one.lits) c.next_open.ensures.same in
    let falses : All (λ code. IsFalse c.args.trail.now.steps (coded code)) c.list.result.now =
    search rules in
    let denial : c.negative.result ≡ negative c.in-Some.atom =
    lit_of_code c.negative.result (negative c.in-Some.atom) c.negative.ensures in
    given_by c.args.normal.now c.args.trail.now it.atoms it.lits c.next_open.ensures.listed
    c.list.ensures.listed c.requires.covered.range c.requires.grown.atoms.are c.requires.grown.shut
    (subst (All (λ code. IsFalse c.args.trail.now.steps (coded code))) c.list.ensures.is falses)
    c.requires.grown.lits.over c.in-Some.atom c.in-Some.ensures.some c.write_denial.new.out
    (subst
    (λ (lit : Lit). c.write_denial.new.out
    ≡ map coded it.lits.list ++ (if has it.lits.marks lit.0 then [] else (lit ∷ []))) denial
    (subst
    (λ (some : Marked). c.write_denial.new.out
    ≡ map coded some.list
    ++ (if has some.marks c.negative.result.0 then [] else (c.negative.result ∷ []))) lits
    c.in_ok-write_denial.ensures))
