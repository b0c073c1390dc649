-- Tests of one worker are apart.
use Rattle.std.proofs.Common.{inl}
use Rattle.std.specs.Prelude.{Option, Some, None, IfNone, ◌++◌}
use Rattle.clause_store.proofs.lemmas.Units.UnitLemmas.{units_among_fewer}
use Rattle.normal_program.specs.Clauses.{base_clauses}
use Rattle.worker_jobs.specs.Laws.{LaterTestsAreApart}

-- what holds anyway holds where nothing is there
if_none : {X : Type 0} {P : Type 0} (o : Option X) → P → IfNone o P
if_none None holds = holds
if_none (Some x) holds = tt

-- units beside more clauses than the base clauses and the units of an earlier test
pub later_tests_are_apart : LaterTestsAreApart
later_tests_are_apart normal earlier later clauses more are =
    if_none earlier.inside
    (if_none later.inside
    (inl (units_among_fewer (base_clauses normal ++ earlier.units) clauses later.units more are)))
