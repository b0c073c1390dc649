use Rattle.std.proofs.Common.{◌≡◌, ◌+◌, [], ◌∷◌, ◌++◌, take, sym, subst, rules, arith}
use Rattle.std.proofs.lemmas.Grind.{common_steps}
use Rattle.report.specs.declared.lines.Line.TheVariants.{Answer}
use Rattle.master_record.specs.Settling.{AreAnswers}
use Rattle.master_record.proofs.NewsLemmas.{given_here, dropped_here}
use Rattle.master_record.proofs.answers.answer_lines.Goals as goal
use Rattle.master_record.proofs.answers.answer_lines.Goals.{then-is_news+in_ok-line+in_ok-push}
use Rattle.master_record.proofs.answers.answer_lines.Goals.{else-is_news}

pub loop-set-preserved : goal.loop-set-preserved
loop-set-preserved c =
    let names = c.args.names.now in
    let pair = c.args.candidates.now.pair in
    let sets = c.args.sets.now in
    let at = c.loop-set.set-index in
    let lines = c.loop-set.lines.items in
    let given = c.loop-set.given in
    let mode = c.args.mode in
    let count = c.args.count in
    elim c.if-is_news.branch [
      | then-is_news+in_ok-line+in_ok-push w ↦
          let now : c.if-is_news.lines.items ≡ lines ++ Answer (given + 1) c.set-item.result ∷ [] =
          search rules in
          record {
            answers =
                subst (AreAnswers names mode pair count (take (at + 1) sets)) (sym now)
                (given_here names mode pair count sets at c.set-item.result
                c.loop-set-test.true c.set-item.is lines c.loop-set.invariant.answers given
                c.loop-set.invariant.number (c.is_news.ensures.0 w.if-is_news.true));
            number = grind (arith, common_steps);
          }
      | else-is_news w ↦
          let now : c.if-is_news.lines.items ≡ lines = search rules in
          record {
            answers =
                subst (AreAnswers names mode pair count (take (at + 1) sets)) (sym now)
                (dropped_here names mode pair count sets at c.set-item.result
                c.loop-set-test.true c.set-item.is lines c.loop-set.invariant.answers given
                c.loop-set.invariant.number
                (λ news. absurd (search (rules, c.is_news.ensures.1 news))));
            number = grind (arith, common_steps);
          }
    ]
