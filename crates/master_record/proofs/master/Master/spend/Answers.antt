use Rattle.std.proofs.Common.{◌≡◌, ◌≤◌, ◌+◌, ◌-◌, true, false, List, [], ◌∷◌, ◌++◌, length}
use Rattle.std.proofs.Common.{refl, sym, ap, subst, ◌∙◌, vec_len, vec_capacity, arith, rules}
use Rattle.std.specs.Prelude.{All}
use Rattle.normal_program.specs.Spent.{AreApart}
use Rattle.master_record.specs.declared.own.OwnTest.{OwnTest}
use Rattle.master_record.specs.Course.{Course, is_left_at}
use Rattle.master_record.specs.Books.{Books, open_own}
use Rattle.master_record.specs.Merging.{new_own}
use Rattle.master_record.specs.Sound.{IsOwn, IsKept}
use Rattle.master_record.proofs.SpendLemmas.{spent_nothing, spent_one, kept_spent}
use Rattle.master_record.proofs.master.Master.spend.Goals as goal

pub returns-then-not-is_left-clause-ok : goal.returns-then-not-is_left-clause-ok
returns-then-not-is_left-clause-ok c =
    let it = c.self.inside in
    let books : Books = record {
      normal = it.normal.now;
      mode = it.mode;
      strategy = it.strategy;
      budget = it.budget;
      answers = it.answers;
      pair = it.candidates.pair;
      coherence = it.coherence;
      own = open_own it.candidates.pair it.own.items;
      incoherent = it.incoherent;
      workers = it.workers.items;
    } in
    let one : OwnTest = record { cand = c.args.cand; test = c.args.test } in
    let own : IsOwn books.normal books.mode books.budget (length books.workers) one =
    subst (λ (b : Books). IsOwn b.normal b.mode b.budget (length b.workers) one)
    (sym c.self.view_is) c.requires.own in
    let gone : is_left_at it.candidates.left (one.cand - 1) ≡ false = search rules in
    subst (λ (b : Books). b ≡ record b { own = open_own b.pair (b.own ++ new_own b.own one) })
    c.self.view_is
    (ap (λ (xs : List OwnTest). record books { own = xs })
    (spent_nothing books it.candidates.left it.own it.room refl c.self.invariant one own.candidate
    gone))

pub invariant_of-self-2 : goal.invariant_of-self-2
invariant_of-self-2 c =
    let it = c.self.inside in
    let books : Books = record {
      normal = it.normal.now;
      mode = it.mode;
      strategy = it.strategy;
      budget = it.budget;
      answers = it.answers;
      pair = it.candidates.pair;
      coherence = it.coherence;
      own = open_own it.candidates.pair it.own.items;
      incoherent = it.incoherent;
      workers = it.workers.items;
    } in
    let one : OwnTest = record { cand = c.args.cand; test = c.args.test } in
    let own : IsOwn books.normal books.mode books.budget (length books.workers) one =
    subst (λ (b : Books). IsOwn b.normal b.mode b.budget (length b.workers) one)
    (sym c.self.view_is) c.requires.own in
    let now = c.push_reserved.new.self in
    let space = c.make_room.new.room in
    let is_left : is_left_at it.candidates.left (one.cand - 1) ≡ true = search rules in
    let pushed : now.items ≡ it.own.items ++ one ∷ [] =
    c.push_reserved.ensures.items
    ∙ ap (λ (xs : List OwnTest). xs ++ one ∷ []) c.make_room.ensures.own in
    let apart : All (λ (item : OwnTest). item.test.by ≡ one.test.by
    → AreApart books.normal item.test one.test) books.own =
    subst (λ (b : Books). All (λ (item : OwnTest). item.test.by ≡ one.test.by
    → AreApart b.normal item.test one.test) b.own) (sym c.self.view_is) c.requires.apart in
    let longer : vec_len now ≡ vec_len it.own + 1 =
    omega (arith, c.push_reserved.ensures.len, c.make_room.ensures.own_len) in
    let space_for : vec_len it.own + 2 ≤ vec_capacity space =
    omega (arith, c.in_ok-make_room.ensures.space, c.make_room.ensures.own_len) in
    subst (λ (course : Course). IsKept (record books {
      pair = course.pair;
      own = open_own course.pair now.items;
    }) course.left now space)
    (sym c.spend.ensures)
    (kept_spent books it.candidates.left it.own it.room refl c.self.invariant one own.candidate
    is_left now pushed space own apart longer
    (c.make_room.ensures.room ∙ c.self.invariant.empty)
    (c.make_room.ensures.room_len ∙ c.self.invariant.none) space_for)

pub returns-clause-ok : goal.returns-clause-ok
returns-clause-ok c =
    let it = c.self.inside in
    let books : Books = record {
      normal = it.normal.now;
      mode = it.mode;
      strategy = it.strategy;
      budget = it.budget;
      answers = it.answers;
      pair = it.candidates.pair;
      coherence = it.coherence;
      own = open_own it.candidates.pair it.own.items;
      incoherent = it.incoherent;
      workers = it.workers.items;
    } in
    let one : OwnTest = record { cand = c.args.cand; test = c.args.test } in
    let own : IsOwn books.normal books.mode books.budget (length books.workers) one =
    subst (λ (b : Books). IsOwn b.normal b.mode b.budget (length b.workers) one)
    (sym c.self.view_is) c.requires.own in
    let now = c.push_reserved.new.self in
    let is_left : is_left_at it.candidates.left (one.cand - 1) ≡ true = search rules in
    let pushed : now.items ≡ it.own.items ++ one ∷ [] =
    c.push_reserved.ensures.items
    ∙ ap (λ (xs : List OwnTest). xs ++ one ∷ []) c.make_room.ensures.own in
    subst (λ (b : Books). record books {
      pair = c.spend.new.self.pair;
      own = open_own c.spend.new.self.pair now.items;
    } ≡ record b { own = open_own b.pair (b.own ++ new_own b.own one) })
    c.self.view_is
    (subst (λ (course : Course). record books {
      pair = course.pair;
      own = open_own course.pair now.items;
    } ≡ record books { own = open_own books.pair (books.own ++ new_own books.own one) })
    (sym c.spend.ensures)
    (ap (λ (xs : List OwnTest). record books { own = xs })
    (spent_one books it.candidates.left it.own it.room refl c.self.invariant one own.candidate
    is_left now pushed)))
