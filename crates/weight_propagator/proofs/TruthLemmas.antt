-- Denied truth values.
use Rattle.std.proofs.Common.{◌≡◌, Bool, true, false, not, refl, sym}

pub not_false : (b : Bool) → not b ≡ false → b ≡ true
not_false true is = refl
not_false false is = sym is

pub not_true : (b : Bool) → not b ≡ true → b ≡ false
not_true true is = sym is
not_true false is = refl
