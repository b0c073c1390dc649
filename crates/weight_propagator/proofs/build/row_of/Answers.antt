use Rattle.std.proofs.Common.{◌≡◌, ◌<◌, ◌-◌, ◌^◌, ◌∙◌, false}
use Rattle.std.proofs.Common.{List, take, take_all, sum_by, refl, sym, ap, subst, arith}
use Rattle.std.specs.Prelude.{if◌then◌else◌, IsPermutation}
use Rattle.std.proofs.lemmas.List.Sorted.{sum_by-IsPermutation}
use Rattle.std.proofs.lemmas.List.Sums.{sum_by_more_le_part}
use Rattle.normal_program.specs.declared.normal.Part.{Part}
use Rattle.weight_propagator.specs.declared.row.Term.{Term}
use Rattle.weight_propagator.specs.Rows.{is_kept, kept_terms, given_sum}
use Rattle.weight_propagator.specs.Rows.{all_sum}
use Rattle.weight_propagator.proofs.RowsLemmas.{at_most_part, kept_weight}
use Rattle.weight_propagator.proofs.build.row_of.Goals as goal

pub overflow_add-full : goal.overflow_add-full
overflow_add-full c =
    let few = subst (λ (parts : List Part). sum_by (λ (part : Part). part.weight) parts < 2 ^ 62)
    (sym c.as_slice-part-items.ensures) c.requires.few in
    omega (
      arith,
      few,
      c.loop-part.invariant.full,
      sum_by_more_le_part
          (λ part. if is_kept c.args.inside.now part then part.weight else 0)
          (λ (part : Part). part.weight) c.as_slice-part-items.result.now c.loop-part.part-index
          (record { lit = record { atom = 0; negated = false }; weight = 0 })
          c.loop-part-test.true
          (λ part. at_most_part (is_kept c.args.inside.now part) part.weight),
    )

pub returns : goal.returns
returns c =
    let inside = c.args.inside.now in
    let items = c.as_slice-part-items.result.now in
    let all : take c.loop-part.part-index items ≡ c.args.body.now.parts =
    take_all c.loop-part.part-index items c.loop-part-test.false
    ∙ c.as_slice-part-items.ensures in
    let kept : c.loop-part.terms ≡ kept_terms inside c.args.body.now.parts =
    c.loop-part.invariant.terms ∙ ap (kept_terms inside) all in
    record {
      var = refl;
      bound = c.loop-part.invariant.bound
          ∙ ap (λ parts. c.args.body.now.bound - given_sum inside parts) all;
      terms =
          subst (λ terms. IsPermutation terms c.in_ok-terms.terms)
          (c.as_slice.ensures ∙ kept) c.in_ok-terms.ensures.same;
      descending = c.in_ok-terms.ensures.order;
      full = c.loop-part.invariant.full
          ∙ sym (kept_weight inside (take c.loop-part.part-index items))
          ∙ ap all_sum (sym c.loop-part.invariant.terms ∙ sym c.as_slice.ensures)
          ∙ sym (sum_by-IsPermutation (λ (term : Term). term.weight) c.as_slice.result.now
          c.in_ok-terms.terms c.in_ok-terms.ensures.same);
    }
