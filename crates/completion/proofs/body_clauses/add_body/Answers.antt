use Rattle.std.proofs.Common.{◌≤◌, List, All, sym, subst, ap, ◌∙◌}
use Rattle.clause_store.specs.declared.literal.Lit.{Lit}
use Rattle.clause_store.specs.Clause.{variable}
use Rattle.normal_program.specs.Clauses.{literals_of}
use Rattle.completion.proofs.GainLemmas.{vars-literals}
use Rattle.completion.proofs.body_clauses.add_body.Goals as goal

pub define-requires-clause-lits : goal.define-requires-clause-lits
define-requires-clause-lits c =
    subst (λ (lits : List Lit). All (λ lit. 1 ≤ variable lit) lits)
    (sym
    (c.as_slice-2.ensures.value ∙ c.in_ok-read_literals.ensures
    ∙ ap literals_of c.as_slice.ensures))
    (vars-literals c.args.body.now.parts c.requires.parts)
