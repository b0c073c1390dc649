-- What is kept when the own test of a candidate is spent, and when workers change.
use Rattle.std.proofs.Common.{◌≡◌, ◌≢◌, ◌≤◌, ◌<◌, ◌+◌, ◌-◌, ◌^◌, ◌==◌, ℕ, Bool, true, false, List}
use Rattle.std.proofs.Common.{[]}
use Rattle.std.proofs.Common.{◌∷◌, ◌++◌, length, get_or, set, refl, sym, ap, subst, ◌∙◌, ⊎_elim}
use Rattle.std.proofs.Common.{arith}
use Rattle.std.proofs.Common.{true≢false, vec_len, vec_capacity, length-set, append-nil, eq-eqb}
use Rattle.std.proofs.Common.{eqb-true}
use Rattle.std.specs.Prelude.{All, AllPairs, Any, ◌↔◌, Vec, filter, if◌then◌else◌, IfSome}
use Rattle.std.specs.List.{list_any}
use Rattle.std.specs.declared.alloc.Global.{Global}
use Rattle.std.proofs.lemmas.List.{get_or-set_same, get_or-set_other, get_or_default}
use Rattle.std.proofs.lemmas.List.Elements.{All-push, filter-append, All-set}
use Rattle.std.proofs.lemmas.List.Quantifiers.{all_pairs_push}
use Rattle.std.proofs.lemmas.List.Folds.{Any-from_list_any, list_any-from_Any}
use Rattle.std.proofs.lemmas.List.Quantifiers.{Any-push}
use Rattle.std.proofs.lemmas.Bool.{cases_eq, cases_lt}
use Rattle.report.proofs.LegalLemmas.{Any-before, Any-last}
use Rattle.ground_program.specs.declared.pair.Pair.{Pair}
use Rattle.ground_program.specs.Bounds.{IsCandidate}
use Rattle.normal_program.specs.declared.spent.SpentTest.{SpentTest}
use Rattle.normal_program.specs.Spent.{AreApart}
use Rattle.worker_jobs.specs.Job.{IsJobOver}
use Rattle.master_record.specs.declared.own.OwnTest.{OwnTest}
use Rattle.master_record.specs.declared.worker.Worker.{Worker}
use Rattle.master_record.specs.Course.{is_open, is_open_at, is_left_at}
use Rattle.master_record.specs.Books.{Books, open_own}
use Rattle.master_record.specs.Merging.{new_own}
use Rattle.master_record.specs.Sound.{IsKept, IsOwn, IsLeftAt, IsSpentByOne}
use Rattle.master_record.proofs.CourseLemmas.{filter_again, not_so}
use Rattle.master_record.proofs.FoundLemmas.{any_unfiltered}
use Rattle.master_record.proofs.LeftLemmas.{tested_or_not, any_filtered}

-- workers with the same jobs, or others over the same names
pub kept_workers : (books : Books) (left : List Bool) (own : Vec OwnTest Global)
    (room : Vec SpentTest Global) (workers : List Worker) → IsKept books left own room
    → length workers ≡ length books.workers
    → All (λ (worker : Worker). IsJobOver books.normal.names worker.job) workers
    → IsKept (record books { workers = workers }) left own room
kept_workers books left own room workers kept same jobs = record {
  sound = record {
    normal_form = kept.sound.normal_form;
    some_worker = subst (λ n. 1 ≤ n) (sym same) kept.sound.some_worker;
    few_workers = subst (λ n. n ≤ 64) (sym same) kept.sound.few_workers;
    encloses = kept.sound.encloses;
    answered = kept.sound.answered;
    unanswerable = kept.sound.unanswerable;
    coherence = subst (λ n. IfSome books.coherence (IsSpentByOne books.normal books.budget n))
        (sym same) kept.sound.coherence;
    own = subst (λ n. All (IsOwn books.normal books.mode books.budget n) books.own) (sym same)
        kept.sound.own;
    distinct = kept.sound.distinct;
    apart = kept.sound.apart;
    strategy = kept.sound.strategy;
    jobs = jobs;
  };
  fits = kept.fits;
  count = kept.count;
  left_is = kept.left_is;
  numbered = kept.numbered;
  distinct = kept.distinct;
  empty = kept.empty;
  none = kept.none;
  has_room = kept.has_room;
}

module _ (books : Books) (left : List Bool) (own : Vec OwnTest Global) (room : Vec SpentTest Global)
    (view : books.own ≡ open_own books.pair own.items) (kept : IsKept books left own room)
    (one : OwnTest) where
  abbrev test_open : OwnTest → Bool
  test_open item = is_open books.pair item.cand

  -- all shown own tests are of unsettled candidates
  own_open : open_own books.pair books.own ≡ books.own
  own_open =
      ap (λ (xs : List OwnTest). open_own books.pair xs) view
      ∙ filter_again test_open test_open (λ item is. is) own.items ∙ sym view

  -- one more
  with_more : (more : List OwnTest) → open_own books.pair (books.own ++ more)
      ≡ books.own ++ open_own books.pair more
  with_more more =
      filter-append test_open books.own more
      ∙ ap (λ (xs : List OwnTest). xs ++ open_own books.pair more) own_open

  -- the candidate isn't left, so nothing is added
  pub spent_nothing : IsCandidate books.normal.names one.cand
      → is_left_at left (one.cand - 1) ≡ false
      → books.own ≡ open_own books.pair (books.own ++ new_own books.own one)
  spent_nothing candidate gone = by_any (list_any (λ other. other.cand == one.cand) books.own) refl
    where
      first : 1 ≤ one.cand
      first = candidate.first

      same : one.cand - 1 + 1 ≡ one.cand
      same = omega arith

      none_added : (b : Bool) → is_open books.pair one.cand ≡ b
          → list_any (λ (other : OwnTest). other.cand == one.cand) books.own ≡ false
          → open_own books.pair (one ∷ []) ≡ []
      none_added false shut untested = rw shut refl
      none_added true unsettled untested =
          absurd (⊎_elim
          (λ found.
          let shown : Any (λ (item : OwnTest). item.cand ≡ one.cand) books.own =
          subst (Any (λ (item : OwnTest). item.cand ≡ one.cand)) (sym view)
          (any_filtered (λ (item : OwnTest). item.cand ≡ one.cand) test_open
          (λ item is. subst (λ n. is_open books.pair n ≡ true) (sym is) unsettled) own.items found) in
          let (k, item, within, at, is) = shown in
          true≢false (sym (list_any-from_Any (λ (other : OwnTest). other.cand == one.cand) books.own
          (k, item, within, at, eq-eqb item.cand one.cand is)) ∙ untested))
          (λ none. true≢false (sym ((kept.left_is (one.cand - 1)).1 (
            unsettled,
            subst (λ n. ¬ Any (λ (item : OwnTest). item.cand ≡ n) own.items) (sym same) none,
          )) ∙ gone))
          (tested_or_not own.items one.cand))

      by_any : (b : Bool) → list_any (λ (other : OwnTest). other.cand == one.cand) books.own ≡ b
          → books.own ≡ open_own books.pair (books.own ++ new_own books.own one)
      by_any true tested =
          sym (append-nil books.own)
          ∙ sym (with_more [])
          ∙ ap (λ (b : Bool). open_own books.pair (books.own ++ (if b then [] else one ∷ [])))
          (sym tested)
      by_any false untested =
          sym (append-nil books.own)
          ∙ ap (λ (xs : List OwnTest). books.own ++ xs)
          (sym (none_added (is_open books.pair one.cand) refl untested))
          ∙ sym (with_more (one ∷ []))
          ∙ ap (λ (b : Bool). open_own books.pair (books.own ++ (if b then [] else one ∷ [])))
          (sym untested)

  module _ (candidate : IsCandidate books.normal.names one.cand)
      (is_left : is_left_at left (one.cand - 1) ≡ true) (now : Vec OwnTest Global)
      (pushed : now.items ≡ own.items ++ one ∷ []) where
    same_cand : one.cand - 1 + 1 ≡ one.cand
    same_cand = let first : 1 ≤ one.cand = candidate.first in omega arith

    open_now : is_open books.pair one.cand ≡ true
    open_now = ((kept.left_is (one.cand - 1)).0 is_left).0

    untested : ¬ Any (λ (item : OwnTest). item.cand ≡ one.cand) own.items
    untested =
        subst (λ n. ¬ Any (λ (item : OwnTest). item.cand ≡ n) own.items) same_cand
        ((kept.left_is (one.cand - 1)).0 is_left).1

    only_one : open_own books.pair (one ∷ []) ≡ one ∷ []
    only_one = rw open_now refl

    -- the shown own tests have one more
    pub view_now : open_own books.pair now.items ≡ books.own ++ one ∷ []
    view_now =
        ap (λ (xs : List OwnTest). open_own books.pair xs) pushed
        ∙ filter-append test_open own.items (one ∷ [])
        ∙ ap (λ (xs : List OwnTest). xs ++ open_own books.pair (one ∷ [])) (sym view)
        ∙ ap (λ (xs : List OwnTest). books.own ++ xs) only_one

    unshown : list_any (λ (other : OwnTest). other.cand == one.cand) books.own ≡ false
    unshown = not_so (list_any (λ (other : OwnTest). other.cand == one.cand) books.own)
        (λ found.
        let (k, item, within, at, is) =
        Any-from_list_any (λ (other : OwnTest). other.cand == one.cand) books.own found in
        untested (any_unfiltered (λ (other : OwnTest). other.cand ≡ one.cand) test_open own.items
        (subst (Any (λ (other : OwnTest). other.cand ≡ one.cand)) view
        (k, item, within, at, eqb-true item.cand one.cand is))))

    -- that is what the contract says
    pub spent_one : open_own books.pair now.items
        ≡ open_own books.pair (books.own ++ new_own books.own one)
    spent_one =
        view_now
        ∙ ap (λ (xs : List OwnTest). books.own ++ xs) (sym only_one)
        ∙ sym (with_more (one ∷ []))
        ∙ ap (λ (b : Bool). open_own books.pair (books.own ++ (if b then [] else one ∷ [])))
        (sym unshown)

    -- what is left then
    left_now : (at : ℕ) → IsLeftAt books.pair now.items (set left (one.cand - 1) false) at
    left_now at =
        ⊎_elim
        (λ same. (
          λ is. absurd (true≢false (sym is
              ∙ subst (λ n. get_or (set left (one.cand - 1) false) n false ≡ false) (sym same)
              (get_or-set_same left (one.cand - 1) false false in_left))),
          λ both. absurd (both.1
              (subst (Any (λ (item : OwnTest). item.cand ≡ at + 1)) (sym pushed)
              (Any-push (λ (item : OwnTest). item.cand ≡ at + 1) own.items one
              (sym same_cand ∙ ap (λ n. n + 1) (sym same))))),
        ))
        (λ differ.
        let kept_at : get_or (set left (one.cand - 1) false) at false ≡ get_or left at false =
        get_or-set_other left (one.cand - 1) at false false differ in (
          λ is.
              let both = (kept.left_is at).0 (sym kept_at ∙ is) in (
                both.0,
                λ found. ⊎_elim both.1
                    (λ this. let first : 1 ≤ one.cand = candidate.first in
                    differ (omega (arith, this)))
                    (Any-last (λ (item : OwnTest). item.cand ≡ at + 1) own.items one
                    (subst (Any (λ (item : OwnTest). item.cand ≡ at + 1)) pushed found)),
              ),
          λ both. kept_at ∙ (kept.left_is at).1 (
            both.0,
            λ found. both.1 (subst (Any (λ (item : OwnTest). item.cand ≡ at + 1)) (sym pushed)
                (Any-before (λ (item : OwnTest). item.cand ≡ at + 1) own.items (one ∷ []) found)),
          ),
        ))
        (cases_eq at (one.cand - 1))
      where
        in_left : one.cand - 1 < length left
        in_left =
            let first : 1 ≤ one.cand = candidate.first in
            let last : one.cand ≤ length books.normal.names = candidate.last in
            subst (λ n. one.cand - 1 < n) (sym kept.count) (omega arith)

    -- and what is kept
    pub kept_spent : (space : Vec SpentTest Global)
        → IsOwn books.normal books.mode books.budget (length books.workers) one
        → All (λ (item : OwnTest). item.test.by ≡ one.test.by
        → AreApart books.normal item.test one.test) books.own
        → vec_len now ≡ vec_len own + 1 → space.items ≡ [] → vec_len space ≡ 0
        → vec_len own + 2 ≤ vec_capacity space
        → IsKept (record books { own = open_own books.pair now.items })
        (set left (one.cand - 1) false) now space
    kept_spent space is apart longer empty none room_for = record {
      sound = record {
        normal_form = kept.sound.normal_form;
        some_worker = kept.sound.some_worker;
        few_workers = kept.sound.few_workers;
        encloses = kept.sound.encloses;
        answered = kept.sound.answered;
        unanswerable = kept.sound.unanswerable;
        coherence = kept.sound.coherence;
        own = subst (All (IsOwn books.normal books.mode books.budget (length books.workers)))
            (sym view_now)
            (All-push (IsOwn books.normal books.mode books.budget (length books.workers)) books.own
            one kept.sound.own is);
        distinct = subst (AllPairs (λ (earlier later : OwnTest). earlier.cand ≢ later.cand))
            (sym view_now)
            (all_pairs_push (λ (earlier later : OwnTest). earlier.cand ≢ later.cand) books.own one
            kept.sound.distinct
            (λ k d within same. untested
            (any_unfiltered (λ (other : OwnTest). other.cand ≡ one.cand) test_open own.items
            (subst (Any (λ (other : OwnTest). other.cand ≡ one.cand)) view
            (shown_at k d within same)))));
        apart = subst (AllPairs (λ (earlier later : OwnTest). earlier.test.by ≡ later.test.by
            → AreApart books.normal earlier.test later.test)) (sym view_now)
            (all_pairs_push (λ (earlier later : OwnTest). earlier.test.by ≡ later.test.by
            → AreApart books.normal earlier.test later.test) books.own one kept.sound.apart
            (λ k d within. apart k d within));
        strategy = kept.sound.strategy;
        jobs = kept.sound.jobs;
      };
      fits = kept.fits;
      count = length-set left (one.cand - 1) false ∙ kept.count;
      left_is = left_now;
      numbered = subst (All (λ (item : OwnTest). 1 ≤ item.cand)) (sym pushed)
          (All-push (λ (item : OwnTest). 1 ≤ item.cand) own.items one kept.numbered candidate.first);
      distinct = subst (AllPairs (λ (earlier later : OwnTest). earlier.cand ≢ later.cand)) (sym pushed)
          (all_pairs_push (λ (earlier later : OwnTest). earlier.cand ≢ later.cand) own.items one
          kept.distinct
          (λ k d within same. untested (
            k,
            get_or own.items k d,
            within,
            get_or_default own.items k (get_or own.items k d) d within,
            same,
          )));
      empty = empty;
      none = none;
      has_room = omega (arith, longer, room_for);
    }
      where
        shown_at : (k : ℕ) (d : OwnTest) → k < length books.own
            → (get_or books.own k d).cand ≡ one.cand
            → Any (λ (other : OwnTest). other.cand ≡ one.cand) books.own
        shown_at k d within same = (
          k,
          get_or books.own k d,
          within,
          get_or_default books.own k (get_or books.own k d) d within,
          same,
        )
