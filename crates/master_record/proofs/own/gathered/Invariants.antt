use Rattle.std.proofs.Common.{◌≡◌, ◌≤◌, length, map, vec_len, vec_capacity}
use Rattle.master_record.specs.Books.{open_own}
use Rattle.master_record.proofs.own.gathered.Given as goal

abbrev pub invariant-loop-one : goal.invariant-loop-one
invariant-loop-one l = record {
  tests : l.room.items ≡ map (λ one. one.test) (open_own l.candidates.pair l.yielded);
  few : vec_len l.room ≤ length l.yielded;
  capacity : vec_capacity l.room ≡ vec_capacity l.initial.room;
}
