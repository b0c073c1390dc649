use Rattle.std.proofs.Common.{Global}
use Rattle.std.specs.declared.vec.Vec.{Vec}
use Rattle.std.proofs.Common.{◌≡◌, ◌<◌, ◌+◌, ◌∙◌, ℕ, List, length, get_or}
use Rattle.std.proofs.Common.{Some, slice_get, sym, ap, subst, arith}
use Rattle.std.proofs.lemmas.Option.{slice_get-get_or}
use Rattle.normal_program.specs.declared.normal.BodyOf.{BodyOf}
use Rattle.weight_propagator.specs.declared.row.Row.{Row}
use Rattle.weight_propagator.specs.Rows.{AreRowsTo, IsRowFor}
use Rattle.weight_propagator.proofs.BodyLemmas.{normal_body}
use Rattle.weight_propagator.proofs.RowsLemmas.{rows_with, rows_without}
use Rattle.weight_propagator.proofs.build.rows_of.Goals as goal
use Rattle.weight_propagator.proofs.build.rows_of.Goals.{
  then-not-is_conjunctive+in_ok-row+in_ok-push,
}
use Rattle.weight_propagator.proofs.build.rows_of.Goals.{else-not-is_conjunctive}

-- the item that is read stands at its number
at_number : (bodies items : List BodyOf) (number : ℕ) (body : BodyOf) → items ≡ bodies
    → number < length items → body ≡ get_or items number body
    → slice_get bodies number ≡ Some body
at_number bodies items number body same within is =
    ap (λ (some : List BodyOf). slice_get some number) (sym same)
    ∙ slice_get-get_or items number body within ∙ ap Some (sym is)

pub row_of-requires-clause-few : goal.row_of-requires-clause-few
row_of-requires-clause-few c =
    (normal_body c.args.normal.now c.requires.normal c.loop-number.number c.body-item.result
    (at_number c.args.normal.now.bodies c.as_slice-body-items.result.now c.loop-number.number
    c.body-item.result c.as_slice-body-items.ensures c.loop-number-test.true
    c.body-item.is)).few

pub row_of-requires-clause-small : goal.row_of-requires-clause-small
row_of-requires-clause-small c k d within =
    let fit = normal_body c.args.normal.now c.requires.normal c.loop-number.number
    c.body-item.result
    (at_number c.args.normal.now.bodies c.as_slice-body-items.result.now c.loop-number.number
    c.body-item.result c.as_slice-body-items.ensures c.loop-number-test.true
    c.body-item.is) in
    let atom = fit.atoms k d within in
    omega (arith, atom.last, c.requires.normal.few)

pub loop-number-preserved : goal.loop-number-preserved
loop-number-preserved c =
    let inside = c.args.inside.now in
    let normal = c.args.normal.now in
    let number = c.loop-number.number in
    let body = c.body-item.result in
    let here = at_number normal.bodies c.as_slice-body-items.result.now number body
    c.as_slice-body-items.ensures c.loop-number-test.true c.body-item.is in
    elim c.if-not-is_conjunctive.branch [
      | then-not-is_conjunctive+in_ok-row+in_ok-push w ↦
          subst (λ (rows : List Row). AreRowsTo inside normal (number + 1) rows)
          (sym (ap (λ (v : Vec Row Global). v.items) w.rows-is ∙ w.in_ok-push.ensures.items))
          (rows_with inside normal number c.loop-number.rows.items c.loop-number.invariant body
          w.in_ok-row.row
          (record {
            here = here;
            weight = sym c.is_conjunctive.ensures ∙ w.if-not-is_conjunctive.true;
            kept =
                subst (λ n. IsRowFor inside body n w.in_ok-row.row) w.body_var-var.ensures.is
                w.in_ok-row.ensures;
          }))
      | else-not-is_conjunctive w ↦
          subst (λ (rows : List Row). AreRowsTo inside normal (number + 1) rows)
          (sym (ap (λ (v : Vec Row Global). v.items) w.rows-is))
          (rows_without inside normal number c.loop-number.rows.items c.loop-number.invariant body
          here
          (sym c.is_conjunctive.ensures ∙ w.if-not-is_conjunctive.false))
    ]
