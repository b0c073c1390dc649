use Rattle.std.proofs.Common.{◌≡◌, ◌≤◌, ◌+◌, ◌++◌, ◌∷◌, [], ℕ, List, length, take, sym, ap}
use Rattle.std.proofs.Common.{subst, ◌∙◌, arith, vec_len}
use Rattle.std.specs.Prelude.{filter}
use Rattle.std.specs.List.{range_with_len}
use Rattle.std.proofs.lemmas.List.{take_all}
use Rattle.ground_program.specs.declared.pair.Pair.{Pair}
use Rattle.master_record.specs.Course.{is_open}
use Rattle.master_record.proofs.OpenListLemmas.{among_open, among_shut, none_among, take_among}
use Rattle.master_record.proofs.jobs.first_unsettled.Goals as goal
use Rattle.master_record.proofs.jobs.first_unsettled.Goals.{then-is_open+in_ok-push, else-is_open}

pub loop-place-init : goal.loop-place-init
loop-place-init c = record {
  so_far = c.new-cands.ensures.items
      ∙ sym (none_among c.args.candidates.now.pair c.least_open-place.result
      c.least_open-place.ensures.before);
  few = omega (arith, c.new-cands.ensures.len);
}

pub returns-then-len-size : goal.returns-then-len-size
returns-then-len-size c =
    let pair : Pair = c.args.candidates.now.pair in
    let has : vec_len c.loop-place.cands ≡ length c.loop-place.cands.items =
    c.loop-place.cands.ok.0 in
    let full : length c.loop-place.cands.items ≡ c.args.size = omega arith in
    let within : c.loop-place.place ≤ length c.args.candidates.now.left = omega arith in
    c.from_vec.ensures ∙ c.loop-place.invariant.so_far
    ∙ sym (take_among pair c.loop-place.place (length c.args.candidates.now.left) c.args.size within
    (ap length (sym c.loop-place.invariant.so_far) ∙ full))

pub loop-place-preserved : goal.loop-place-preserved
loop-place-preserved c =
    let pair : Pair = c.args.candidates.now.pair in
    let at : ℕ = c.loop-place.place in
    elim c.if-is_open.branch [
      | then-is_open+in_ok-push w ↦ record {
        so_far = ap (λ v. v.items) w.cands-is ∙ w.in_ok-push.ensures.items
            ∙ ap (λ (xs : List ℕ). xs ++ (at + 1) ∷ []) c.loop-place.invariant.so_far
            ∙ sym (among_open pair at (sym c.is_open.ensures ∙ w.if-is_open.true));
        few = subst (λ v. vec_len v ≤ c.args.size) (sym w.cands-is)
            (omega (arith, w.in_ok-push.ensures.len));
      }
      | else-is_open w ↦ record {
        so_far = ap (λ v. v.items) w.cands-is ∙ c.loop-place.invariant.so_far
            ∙ sym (among_shut pair at (sym c.is_open.ensures ∙ w.if-is_open.false));
        few = subst (λ v. vec_len v ≤ c.args.size) (sym w.cands-is) c.loop-place.invariant.few;
      }
    ]

pub returns : goal.returns
returns c =
    let has : vec_len c.loop-place.cands ≡ length c.loop-place.cands.items =
    c.loop-place.cands.ok.0 in
    let few : length c.loop-place.cands.items ≤ c.args.size = omega arith in
    let end : c.loop-place.place ≡ length c.args.candidates.now.left = omega arith in
    let all : c.loop-place.cands.items ≡ filter (is_open c.args.candidates.now.pair)
    (range_with_len 1 (length c.args.candidates.now.left)) =
    subst (λ n. c.loop-place.cands.items ≡ filter (is_open c.args.candidates.now.pair)
    (range_with_len 1 n)) end c.loop-place.invariant.so_far in
    c.from_vec-2.ensures ∙ sym (take_all c.args.size c.loop-place.cands.items few)
    ∙ ap (take c.args.size) all
