use Rattle.std.proofs.Common.{◌≡◌, ◌-◌, take, sum_by}
use Rattle.std.specs.Prelude.{if◌then◌else◌}
use Rattle.weight_propagator.specs.Rows.{is_kept, kept_terms, given_sum}
use Rattle.weight_propagator.proofs.build.row_of.Given as goal

abbrev pub invariant-loop-part : goal.invariant-loop-part
invariant-loop-part l = record {
  bound : l.bound ≡ l.body.bound - given_sum l.inside (take l.part-index l.part-items);
  terms : l.terms ≡ kept_terms l.inside (take l.part-index l.part-items);
  full :
      l.full
      ≡ sum_by (λ part. if is_kept l.inside part then part.weight else 0)
      (take l.part-index l.part-items);
}
