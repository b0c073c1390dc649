use Rattle.std.specs.Cmp.{unsigned_Decides}
use Rattle.std.proofs.Common.{ap}
use Rattle.std.proofs.lemmas.Slice.Eq.{slice_eq-Decides}
use Rattle.clause_store.proofs.LiteralLemmas.{lit_of_code}
use Rattle.coherence_test.proofs.search.is_same.Goals as goal

pub returns : goal.returns
returns c =
    slice_eq-Decides
    (λ a b. (
      λ same. lit_of_code a b ((unsigned_Decides a.0 b.0).0 same),
      λ same. (unsigned_Decides a.0 b.0).1 (ap (λ lit. lit.0) same),
    ))
    c.args.one.now c.args.two.now c.eq.result c.eq.ensures
