use Rattle.std.proofs.Common.{◌≤◌, not, filter, List, All, sym, subst, ap, ◌∙◌}
use Rattle.std.proofs.lemmas.List.Elements.{All-filter}
use Rattle.clause_store.specs.declared.literal.Lit.{Lit}
use Rattle.clause_store.specs.Clause.{variable}
use Rattle.normal_program.specs.declared.normal.Part.{Part}
use Rattle.normal_program.specs.Clauses.{literals_of}
use Rattle.completion.specs.Filling.{IsVar}
use Rattle.completion.proofs.GainLemmas.{vars-literals}
use Rattle.completion.proofs.within.add_inner_body.Goals as goal

pub define-requires-clause-lits : goal.define-requires-clause-lits
define-requires-clause-lits c =
    let parts = c.args.body.now.parts in
    subst (λ (lits : List Lit). All (λ lit. 1 ≤ variable lit) lits)
    (sym
    (c.as_slice-2.ensures.value ∙ c.in_ok-read_positives.ensures
    ∙ ap (λ (some : List Part). literals_of (filter (λ (part : Part). not part.lit.negated) some))
    c.as_slice.ensures))
    (vars-literals (filter (λ (part : Part). not part.lit.negated) parts)
    (All-filter (λ (part : Part). not part.lit.negated) (λ (part : Part). IsVar part.lit.atom)
    parts c.requires.parts))
