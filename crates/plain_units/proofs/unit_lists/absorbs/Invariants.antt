use Rattle.std.proofs.Common.{take}
use Rattle.std.specs.Prelude.{All}
use Rattle.plain_units.specs.Forcing.{IsAbsorbedAt}
use Rattle.plain_units.proofs.unit_lists.absorbs.Given as goal

abbrev pub invariant-loop-lit : goal.invariant-loop-lit
invariant-loop-lit l = All (IsAbsorbedAt l.clauses l.clause) (take l.lit-index l.clause)
