-- Plans that were followed, from the last one on.
use Rattle.std.proofs.Common.{◌≡◌, ◌≢◌, ◌≤◌, ◌<◌, ◌+◌, ℕ, List, [], ◌∷◌, ◌++◌, length, get_or, set}
use Rattle.std.proofs.Common.{refl, sym, ap, subst, ◌∙◌, ⊎_elim, arith, length-append, length-set}
use Rattle.std.proofs.Common.{Some}
use Rattle.std.specs.Prelude.{slice_get}
use Rattle.std.proofs.lemmas.Bool.{cases_eq}
use Rattle.std.proofs.lemmas.List.{get_or_append_left, get_or-set_same, get_or-set_other}
use Rattle.std.proofs.lemmas.Option.{slice_get_within, slice_get-get_or, get_or_from_slice_get}
use Rattle.std.proofs.Math.Seq.{get_or-append_seam}
use Rattle.master_record.specs.declared.worker.Worker.{Worker}
use Rattle.master_record.specs.declared.worker.Plan.{Plan}
use Rattle.master_record.specs.Rounds.{follow, HasRoomFor}
use Rattle.master_record.specs.Jobs.{CanFollow, HaveFollowed}

read_longer : {X : Type 0} (xs : List X) (y : X) (k : ℕ) (x : X) → slice_get xs k ≡ Some x
    → slice_get (xs ++ y ∷ []) k ≡ Some x
read_longer xs y k x is =
    let within : k < length xs = slice_get_within xs k x is in
    let longer : length (xs ++ y ∷ []) ≡ length xs + length (y ∷ []) = length-append xs (y ∷ []) in
    let more : k < length (xs ++ y ∷ []) = omega arith in
    slice_get-get_or (xs ++ y ∷ []) k x more
    ∙ ap Some (get_or_append_left xs (y ∷ []) x k within ∙ get_or_from_slice_get xs k x x is)

read_end : {X : Type 0} (xs : List X) (y : X) → slice_get (xs ++ y ∷ []) (length xs) ≡ Some y
read_end xs y =
    let longer : length (xs ++ y ∷ []) ≡ length xs + length (y ∷ []) = length-append xs (y ∷ []) in
    let one : length (y ∷ []) ≡ 1 = refl in
    let more : length xs < length (xs ++ y ∷ []) = omega arith in
    slice_get-get_or (xs ++ y ∷ []) (length xs) y more ∙ ap Some (get_or-append_seam xs y [] y)

-- a write at a place
set_here : {X : Type 0} (xs : List X) (k : ℕ) (x : X) → k < length xs
    → slice_get (set xs k x) k ≡ Some x
set_here xs k x within =
    slice_get-get_or (set xs k x) k x (subst (λ n. k < n) (sym (length-set xs k x)) within)
    ∙ ap Some (get_or-set_same xs k x x within)

-- and at another one
set_elsewhere : {X : Type 0} (xs : List X) (k j : ℕ) (x y : X) → j ≢ k → slice_get xs j ≡ Some y
    → slice_get (set xs k x) j ≡ Some y
set_elsewhere xs k j x y other is =
    slice_get-get_or (set xs k x) j y
    (subst (λ n. j < n) (sym (length-set xs k x)) (slice_get_within xs j y is))
    ∙ ap Some (get_or-set_other xs k j x y other ∙ get_or_from_slice_get xs j y y is)

-- the workers of the plans that aren't left did as planned
pub record AreFollowed (old : List Worker) (plans left : List Plan) (now : List Worker) : Type 0
  where
    pub same : length now ≡ length old
    pub few : length left ≤ length old
    pub rest : (at : ℕ) (plan : Plan) → slice_get left at ≡ Some plan
        → slice_get plans at ≡ Some plan
    pub before : (at : ℕ) (worker : Worker) → at < length left
        → slice_get old at ≡ Some worker → slice_get now at ≡ Some worker
    pub after : (at : ℕ) (worker : Worker) (plan : Plan) → length left ≤ at
        → slice_get old at ≡ Some worker → slice_get plans at ≡ Some plan
        → slice_get now at ≡ Some (follow worker plan)

pub none_followed : (old : List Worker) (plans : List Plan) → length plans ≡ length old
    → AreFollowed old plans plans old
none_followed old plans count = record {
  same = refl;
  few = omega arith;
  rest = λ at plan is. is;
  before = λ at worker less is. is;
  after = λ at worker plan past here is.
      let within : at < length plans = slice_get_within plans at plan is in
      absurd (omega arith);
}

pub all_followed : (old : List Worker) (plans : List Plan) (now : List Worker)
    → AreFollowed old plans [] now → HaveFollowed old plans now
all_followed old plans now followed = record {
  same = followed.same;
  each = λ at worker plan here is. followed.after at worker plan (omega arith) here is;
}

module _ (old : List Worker) (plans left : List Plan) (plan : Plan) (now : List Worker)
    (so_far : AreFollowed old plans (left ++ plan ∷ []) now) where
  one_more : length (left ++ plan ∷ []) ≡ length left + 1
  one_more = length-append left (plan ∷ [])

  -- the next one has a place
  pub has_place : length left < length now
  has_place =
      let few : length (left ++ plan ∷ []) ≤ length old = so_far.few in
      omega (arith, one_more, few, so_far.same)

  its_plan : slice_get plans (length left) ≡ Some plan
  its_plan = so_far.rest (length left) plan (read_end left plan)

  its_worker : (worker : Worker) → worker ≡ get_or now (length left) worker
      → slice_get old (length left) ≡ Some worker
  its_worker worker is =
      let within : length left < length old = subst (λ n. length left < n) so_far.same has_place in
      let was : Worker = get_or old (length left) worker in
      let here : slice_get old (length left) ≡ Some was =
      slice_get-get_or old (length left) worker within in
      let less : length left < length (left ++ plan ∷ []) = omega (arith, one_more) in
      let same : was ≡ worker =
      sym (get_or_from_slice_get now (length left) was worker
      (so_far.before (length left) was less here)) ∙ sym is in
      here ∙ ap Some same

  -- there is room for it
  pub room_for : (worker : Worker) → CanFollow old plans → worker ≡ get_or now (length left) worker
      → HasRoomFor worker plan
  room_for worker can is = can.each (length left) worker plan (its_worker worker is) its_plan

  -- and it is followed
  pub follow_one : (worker : Worker) → worker ≡ get_or now (length left) worker
      → AreFollowed old plans left (set now (length left) (follow worker plan))
  follow_one worker is = record {
    same = length-set now (length left) (follow worker plan) ∙ so_far.same;
    few = omega (arith, one_more, so_far.few);
    rest = λ at other there. so_far.rest at other (read_longer left plan at other there);
    before = λ at other less there.
        let differ : at ≢ length left = λ same. omega (arith, same, less) in
        set_elsewhere now (length left) at (follow worker plan) other differ
        (so_far.before at other (omega (arith, one_more, less)) there);
    after = λ at other planned past there its.
        ⊎_elim
        (λ same.
        let who : worker ≡ other =
        sym (get_or_from_slice_get old (length left) worker worker (its_worker worker is))
        ∙ ap (λ n. get_or old n worker) (sym same)
        ∙ get_or_from_slice_get old at other worker there in
        let what : plan ≡ planned =
        sym (get_or_from_slice_get plans (length left) plan plan its_plan)
        ∙ ap (λ n. get_or plans n plan) (sym same)
        ∙ get_or_from_slice_get plans at planned plan its in
        subst (λ n. slice_get (set now (length left) (follow worker plan)) n
        ≡ Some (follow other planned)) (sym same)
        (set_here now (length left) (follow worker plan) has_place
        ∙ ap Some (ap (λ (w : Worker). follow w plan) who ∙ ap (follow other) what)))
        (λ differ.
        set_elsewhere now (length left) at (follow worker plan) (follow other planned) differ
        (so_far.after at other planned (omega (arith, one_more, past, differ)) there its))
        (cases_eq at (length left));
  }
