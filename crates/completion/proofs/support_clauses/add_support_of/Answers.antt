use Rattle.std.proofs.Common.{◌≤◌, List, All, sym, subst, ◌∙◌}
use Rattle.clause_store.specs.declared.literal.Lit.{Lit}
use Rattle.clause_store.specs.Clause.{variable}
use Rattle.completion.specs.Filling.{Adds}
use Rattle.completion.proofs.RowLemmas.{supports-vars, cleaned-row}
use Rattle.completion.proofs.support_clauses.add_support_of.Goals as goal

pub add_support-requires-clause-bodies : goal.add_support-requires-clause-bodies
add_support-requires-clause-bodies c =
    subst (λ (lits : List Lit). All (λ lit. 1 ≤ variable lit) lits)
    (sym (c.as_slice.ensures.value ∙ c.in_ok-read_bodies.ensures))
    (supports-vars c.args.normal.now c.args.normal.now.rules c.args.atom)

pub returns : goal.returns
returns c =
    subst (Adds c.add_support.result c.args.store.now c.add_support.new.store)
    (cleaned-row c.args.normal.now c.args.atom c.as_slice.result.now
    (c.as_slice.ensures.value ∙ c.in_ok-read_bodies.ensures))
    c.add_support.ensures
