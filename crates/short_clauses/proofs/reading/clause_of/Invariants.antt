use Rattle.std.proofs.Common.{◌≡◌, filter, map, not, nat_eq, take}
use Rattle.short_clauses.proofs.reading.clause_of.Given as goal

abbrev pub invariant-loop-code : goal.invariant-loop-code
invariant-loop-code l =
    l.clause
    ≡ map (λ code. record { 0 = code })
    (filter (λ code. not (nat_eq code 0)) (take l.code-index l.code-items))
