use Rattle.std.proofs.Common.{◌∙◌, ◌+◌, ◌<◌, ap, arith, filter, sym, subst, take}
use Rattle.std.specs.Prelude.{Any, IsTrue}
use Rattle.clause_store.specs.Clause.{variable}
use Rattle.clause_store.specs.Trail.{values_of}
use Rattle.normal_program.specs.Normal.{greatest_body_var}
use Rattle.coherence_test.specs.Searching.{is_low}
use Rattle.coherence_test.proofs.TellLemmas.{told_core, told_found, told_spent}
use Rattle.coherence_test.proofs.search.Search.told.Goals as goal

pub returns-in_ok-set-in-Model-clause-tested : goal.returns-in_ok-set-in-Model-clause-tested
returns-in_ok-set-in-Model-clause-tested c =
    let it = c.args.self.now in
    told_found it.normal.now it.engine it.disjunctions c.args.asked.now c.args.selector
    c.args.answer c.requires.over c.requires.any_over c.requires.selector
    (c.requires.says (λ is. let e = sym c.in-Model.is ∙ is in cc)) c.in_ok-set-in-Model.set
    c.in-Model.is
    (c.in_ok-set-in-Model.ensures
    ∙ ap (λ trail. take (it.normal.now.atoms + 1) (values_of trail)) c.trail.ensures)

pub returns-in-SpentInside-clause-tested : goal.returns-in-SpentInside-clause-tested
returns-in-SpentInside-clause-tested c =
    let it = c.args.self.now in
    told_spent it.normal.now it.engine it.disjunctions c.args.asked.now c.args.selector
    c.args.answer c.requires.over c.requires.any_over c.requires.selector
    (c.requires.says (λ is. let e = sym c.in-SpentInside.is ∙ is in cc)) c.in-SpentInside.set
    c.in-SpentInside.units c.in-SpentInside.is

pub returns-in_ok-core_of-in-Core-clause-tested : goal.returns-in_ok-core_of-in-Core-clause-tested
returns-in_ok-core_of-in-Core-clause-tested c =
    let it = c.args.self.now in
    let core = c.in_ok-core_of-in-Core.field-0 in
    let found = c.in-Core.lits in
    let given = c.as_slice.result.now in
    let low = c.greatest_body_var-greatest.ensures in
    let same = c.as_slice.ensures in
    let is = c.in_ok-core_of-in-Core.ensures in
    told_core it.normal.now it.engine it.disjunctions c.args.asked.now c.args.selector
    c.args.answer found core c.requires.disjunctions c.requires.over c.requires.selector
    (c.requires.says (λ is. let e = sym c.in-Core.is ∙ is in cc)) c.in-Core.is
    (is.lits ∙ ap (λ n. filter (is_low n) given) low
    ∙ ap (λ lits. filter (is_low (greatest_body_var it.normal.now)) lits) same)
    (subst
    (λ lits. (IsTrue core.any → Any (λ lit. greatest_body_var it.normal.now < variable lit) lits)
    × (Any (λ lit. greatest_body_var it.normal.now < variable lit) lits → IsTrue core.any)) same
    (subst (λ n. (IsTrue core.any → Any (λ lit. n < variable lit) given)
    × (Any (λ lit. n < variable lit) given → IsTrue core.any)) low is.any))

pub set_on-requires : goal.set_on-requires
set_on-requires c =
    let low = c.requires.vars (λ is. let e = sym c.in-Model.is ∙ is in cc) in
    let same = ap (λ trail. trail.vars) c.trail.ensures in
    omega (arith, low, same)
