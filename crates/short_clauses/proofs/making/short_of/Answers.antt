use Rattle.std.proofs.Common.{arith}
use Rattle.short_clauses.proofs.MakingLemmas.{short_of_one, short_of_three, short_of_two}
use Rattle.short_clauses.proofs.making.short_of.Goals as goal

pub returns-in-len1 : goal.returns-in-len1
returns-in-len1 c =
    short_of_one c.args.lits.now c.sorted.result (record { 0 = 0 }) c.requires.clause
    (omega (arith, c.in-len1)) c.sorted.ensures.places c.sorted.ensures.order c.sorted.ensures.same

pub returns-in-len2 : goal.returns-in-len2
returns-in-len2 c =
    let done = c.sorted-in-len2.ensures in
    short_of_two c.args.lits.now c.sorted-in-len2.result (record { 0 = 0 }) c.requires.clause
    (omega (arith, c.in-len2)) done.places done.order done.same

pub returns-in-len3 : goal.returns-in-len3
returns-in-len3 c =
    let done = c.sorted-in-len3.ensures in
    short_of_three c.args.lits.now c.sorted-in-len3.result (record { 0 = 0 }) c.requires.clause
    (omega (arith, c.in-len3)) done.places done.order done.same
