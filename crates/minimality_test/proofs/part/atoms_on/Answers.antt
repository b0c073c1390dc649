use Rattle.std.proofs.Common.{◌≡◌, ◌+◌, ◌∷◌, [], ◌++◌, false, sym, ap, ◌∙◌, arith, rules}
use Rattle.minimality_test.proofs.TotalLemmas.{values_before, none_before, one_more_before}
use Rattle.minimality_test.proofs.TotalLemmas.{atoms_before}
use Rattle.minimality_test.proofs.part.atoms_on.Goals as goal

pub loop-atom-init : goal.loop-atom-init
loop-atom-init c =
    let pushed : c.push.new.self ≡ [] ++ false ∷ [] = search rules in
    pushed ∙ none_before c.args.trail.now c.vouch.ensures

pub loop-atom-preserved : goal.loop-atom-preserved
loop-atom-preserved c =
    c.in_ok-push-2.ensures.ok
    ∙ ap (λ set. set ++ c.is_true.result ∷ []) c.loop-atom.invariant
    ∙ ap (λ b. values_before c.args.trail.now c.loop-atom.atom ++ b ∷ []) c.is_true.ensures
    ∙ sym (one_more_before c.args.trail.now c.loop-atom.atom)

pub returns : goal.returns
returns c =
    let last : c.loop-atom.atom ≡ c.args.normal.now.atoms + 1 =
    omega (arith, c.loop-atom-test.false, c.loop-atom.auto.atom-end (omega arith)) in
    c.loop-atom.invariant
    ∙ ap (values_before c.args.trail.now) last
    ∙ atoms_before c.args.normal.now c.args.trail.now c.requires.over
