-- When what is left to do falls.
use Rattle.std.proofs.Common.{◌≡◌, ◌≤◌, ◌<◌, ◌+◌, ◌*◌, ℕ, arith}
use Rattle.std.proofs.lemmas.Nat.{mul-le}
use Rattle.query_run.specs.Progress.{weigh}

-- a product falls by a whole row
row : (few many width : ℕ) → few < many → few * width + width ≤ many * width
row few many width less =
    let more : (few + 1) * width ≤ many * width = mul-le (few + 1) width many width (omega (arith, less)) (omega arith) in
    let same : (few + 1) * width ≡ few * width + width = grind arith in
    omega (arith, more, same)

-- no fewer rows
rows : (few many width : ℕ) → few ≤ many → few * width ≤ many * width
rows few many width less = mul-le few width many width less (omega arith)

-- the first number falls
pub first_falls : (most last first second third before other rest : ℕ) → first < before
    → second ≤ most → third ≤ last
    → weigh most last first second third < weigh most last before other rest
first_falls most last first second third before other rest less within below =
    let head : first * (most + 1) + (most + 1) ≤ before * (most + 1) =
    row first before (most + 1) less in
    let now : ℕ = first * (most + 1) + second in
    let then : ℕ = before * (most + 1) + other in
    let fewer : now < then = omega (arith, head) in
    let body : now * (last + 1) + (last + 1) ≤ then * (last + 1) = row now then (last + 1) fewer in
    omega (arith, body)

-- the second falls, and the first doesn't rise
pub second_falls : (most last first second third before other rest : ℕ) → first ≤ before
    → second < other → third ≤ last
    → weigh most last first second third < weigh most last before other rest
second_falls most last first second third before other rest same less below =
    let head : first * (most + 1) ≤ before * (most + 1) = rows first before (most + 1) same in
    let now : ℕ = first * (most + 1) + second in
    let then : ℕ = before * (most + 1) + other in
    let fewer : now < then = omega (arith, head) in
    let body : now * (last + 1) + (last + 1) ≤ then * (last + 1) = row now then (last + 1) fewer in
    omega (arith, body)

-- the third falls, and neither of the others rises
pub third_falls : (most last first second third before other rest : ℕ) → first ≤ before
    → second ≤ other → third < rest
    → weigh most last first second third < weigh most last before other rest
third_falls most last first second third before other rest same fewer less =
    let head : first * (most + 1) ≤ before * (most + 1) = rows first before (most + 1) same in
    let now : ℕ = first * (most + 1) + second in
    let then : ℕ = before * (most + 1) + other in
    let body : now * (last + 1) ≤ then * (last + 1) = rows now then (last + 1) (omega (arith, head)) in
    omega (arith, body)
