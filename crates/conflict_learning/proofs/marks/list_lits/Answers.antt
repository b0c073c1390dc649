use Rattle.std.proofs.lemmas.List.Elements.{All-contains_itself}
use Rattle.conflict_learning.proofs.MarkLemmas.{lists_more}
use Rattle.conflict_learning.proofs.marks.list_lits.Goals as goal

pub loop-lit-preserved : goal.loop-lit-preserved
loop-lit-preserved c =
    lists_more c.args.lits.now c.args.visited.now c.loop-lit.visited c.push.new.self _
    c.var.result c.loop-lit.invariant
    (All-contains_itself c.args.lits.now c.loop-lit.lit-index (record { 0 = 0 })
    c.loop-lit-test.true) c.var.ensures c.in_ok-push.ensures.ok
