-- The lists that heads and bodies stand for.
use Rattle.std.specs.Prelude.{ℕ, List, []}
use Rattle.ground_program.specs.declared.heads.Held.{Held as HeldHeads}
use Rattle.ground_program.specs.declared.heads.Held.TheVariants as heads
use Rattle.ground_program.specs.declared.body.Held.{Held as HeldBody}
use Rattle.ground_program.specs.declared.body.Held.TheVariants as bodies
use Rattle.ground_program.specs.declared.program.Weighted.{Weighted}

-- the heads that are held
abbrev pub heads_held : HeldHeads → List ℕ
heads_held heads.None = []
heads_held (heads.One one) = one
heads_held (heads.Two two) = two
heads_held (heads.Many many) = many.value.items

-- the literals that are held
abbrev pub body_held : HeldBody → List Weighted
body_held bodies.None = []
body_held (bodies.One one) = one
body_held (bodies.Two two) = two
body_held (bodies.Many many) = many.items
