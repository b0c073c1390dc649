use Rattle.std.proofs.Common.{◌∙◌, List, sym, subst, arith}
use Rattle.std.specs.Prelude.{All}
use Rattle.normal_program.specs.Normal.{greatest_body_var}
use Rattle.weight_propagator.specs.declared.row.Row.{Row}
use Rattle.weight_propagator.specs.Rows.{IsRow}
use Rattle.weight_propagator.specs.Sums.{AreOccurrences}
use Rattle.weight_propagator.proofs.OpenLemmas.{open_kept}
use Rattle.weight_propagator.proofs.RowsLemmas.{all_sound}
use Rattle.weight_propagator.proofs.weights.Weights.judged_by.Goals as goal

pub gather-requires-clause-each : goal.gather-requires-clause-each
gather-requires-clause-each c =
    subst (λ vars. All (IsRow vars) c.deref.result.now) (sym c.greatest_body_var.ensures)
    (subst (λ (rows : List Row). All (IsRow (greatest_body_var c.args.normal.now)) rows)
    (sym c.deref.ensures.value)
    (all_sound c.args.inside c.args.normal.now c.in_ok-rows.rows.items c.in_ok-rows.ensures
    (greatest_body_var c.args.normal.now) (omega arith)))

pub invariant_of-result : goal.invariant_of-result
invariant_of-result c =
    rw (c.of-2.ensures, c.of-3.ensures, c.new.ensures.items)
    (open_kept c.args.inside c.args.normal.now c.in_ok-rows.rows.items
    c.in_ok-occurrences.occurrences c.in_ok-tally.tally c.len.result c.in_ok-rows.ensures
    (subst (λ (rows : List Row). AreOccurrences rows c.in_ok-occurrences.occurrences)
    c.deref.ensures.value
    (subst (AreOccurrences c.deref.result.now)
    (sym (c.in_ok-occurrences.ensures ∙ c.deref-2.ensures.value)) c.in_ok-places.ensures))
    (c.len.ensures ∙ c.in_ok-rows.rows.ok.0) c.in_ok-tally.ensures.reached
    c.in_ok-tally.ensures.missed c.in_ok-tally.ensures.same c.in_ok-tally.ensures.all)
