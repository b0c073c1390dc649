-- What stands in a buffer that is full of one byte, once digits were written to its end.
use Rattle.std.proofs.Common.{◌≡◌, ℕ, zero, suc, ◌+◌, ◌-◌, ◌≤◌, ◌<◌, List, [], ◌∷◌, ◌++◌, length}
use Rattle.std.proofs.Common.{take, drop, get_or, sym, ap, ◌∙◌, arith, drop-cons, replicate}
use Rattle.std.proofs.lemmas.List.{get_or-take, get_or-replicate, take_rest, append-nil}

-- the byte before the digits is one that the buffer had
pub byte_and_digits : (byte start size : ℕ) (new digits : List ℕ) → 1 ≤ start → 1 ≤ length digits
    → start + length digits ≡ size → length new ≡ size
    → take start new ≡ take start (replicate size byte) → drop start new ≡ digits ++ []
    → take (size - (start - 1)) (drop (start - 1) new) ≡ byte ∷ digits
byte_and_digits byte zero size new digits some digit sizes whole before written =
    absurd (omega arith)
byte_and_digits byte (suc at) size new digits some digit sizes whole before written =
    let place : suc at - 1 ≡ at = omega arith in
    let within : at < length new = omega arith in
    let first : get_or new at 0 ≡ byte =
    sym (get_or-take (suc at) new at 0 (omega arith)) ∙ ap (λ (xs : List ℕ). get_or xs at 0) before
    ∙ get_or-take (suc at) (replicate size byte) at 0 (omega arith)
    ∙ get_or-replicate size at byte 0 (omega arith) in
    rw (place, ← whole, take_rest new at, drop-cons new at 0, first, written, append-nil digits)
