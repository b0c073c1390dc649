use Rattle.std.proofs.Common.{◌≡◌, ◌+◌, ℕ, [], ◌∷◌, ◌++◌, get_or, take, sym, subst, arith, rules}
use Rattle.master_record.proofs.SettledLemmas.{AreSoFar}
use Rattle.master_record.proofs.SoFarLemmas.{so_far_all, again_here, skipped_here, told_here}
use Rattle.master_record.proofs.settling.settled_lines.Goals as goal
use Rattle.master_record.proofs.settling.settled_lines.Goals.{in-Some+in_ok-push, in_default}

pub loop-cand-preserved-then-cand-last : goal.loop-cand-preserved-then-cand-last
loop-cand-preserved-then-cand-last c =
    again_here c.args.names.now c.args.mode c.args.candidates.now.pair c.args.answers.now
    c.args.proved.now c.args.looked.now c.loop-cand.last c.loop-cand.lines.items
    c.loop-cand.cand-index c.loop-cand-test.true c.requires.ascending c.loop-cand.invariant
    c.requires.candidates (omega (arith, c.if-cand-last.true))

pub loop-cand-preserved : goal.loop-cand-preserved
loop-cand-preserved c =
    let names = c.args.names.now in
    let mode = c.args.mode in
    let pair = c.args.candidates.now.pair in
    let answers = c.args.answers.now in
    let proved = c.args.proved.now in
    let looked = c.args.looked.now in
    let at = c.loop-cand.cand-index in
    let last = c.loop-cand.last in
    let lines = c.loop-cand.lines.items in
    let cand : ℕ = get_or looked at 0 in
    elim c.match-due_line.branch [
      | in-Some+in_ok-push w ↦
          let now : c.match-due_line.lines.items ≡ lines ++ w.in-Some.line ∷ [] = search rules in
          let after : c.match-due_line.last ≡ cand = search rules in
          subst (λ n. AreSoFar names mode pair answers proved (take (at + 1) looked) n
          c.match-due_line.lines.items) (sym after)
          (subst (AreSoFar names mode pair answers proved (take (at + 1) looked) cand) (sym now)
          (told_here names mode pair answers proved looked last lines at c.loop-cand-test.true
          c.requires.ascending c.loop-cand.invariant w.in-Some.line
          (omega (arith, c.if-cand-last.false))
          w.in-Some.ensures))
      | in_default w ↦
          let now : c.match-due_line.lines.items ≡ lines = search rules in
          let after : c.match-due_line.last ≡ last = search rules in
          subst (λ n. AreSoFar names mode pair answers proved (take (at + 1) looked) n
          c.match-due_line.lines.items) (sym after)
          (subst (AreSoFar names mode pair answers proved (take (at + 1) looked) last) (sym now)
          (skipped_here names mode pair answers proved looked last lines at c.loop-cand-test.true
          c.requires.ascending c.loop-cand.invariant w.in_default.ensures))
    ]

pub returns : goal.returns
returns c =
    so_far_all c.args.names.now c.args.mode c.args.candidates.now.pair c.args.answers.now
    c.args.proved.now c.args.looked.now c.loop-cand.last c.loop-cand.lines.items
    c.loop-cand.cand-index c.loop-cand-test.false c.loop-cand.invariant
