-- Watches that are opened, get a clause, and go back.
use Rattle.std.proofs.Common.{◌≡◌, ◌≢◌, ◌≤◌, ◌<◌, ◌+◌, ◌*◌, ℕ, Bool, true, false, List, []}
use Rattle.std.proofs.Common.{◌∷◌}
use Rattle.std.proofs.Common.{◌++◌, length, length-append, get_or, map, take, replicate, refl, sym}
use Rattle.std.proofs.Common.{ap, subst, ◌∙◌, arith, inl, inr}
use Rattle.std.proofs.Common.{zero, suc, None}
use Rattle.std.specs.Prelude.{Any, All, filter, nat_le}
use Rattle.std.proofs.lemmas.Bool.{cases_eq, cases_lt, cases_Bool, le-leb, lt-leb, false≢true}
use Rattle.std.proofs.lemmas.List.{get_or_append_left, get_or_push, get_or-replicate}
use Rattle.std.proofs.lemmas.List.{length-replicate, length-map, get_or-map, get_or_default}
use Rattle.std.proofs.lemmas.List.{length-take, get_or-take}
use Rattle.std.proofs.lemmas.List.Elements.{All-cons, All-nil}
use Rattle.clause_store.specs.declared.literal.Lit.{Lit}
use Rattle.clause_store.specs.declared.step.Step.{Step}
use Rattle.clause_store.specs.Trail.{Assigned, up_to}
use Rattle.clause_store.specs.Standing.{Followed, HasGoneBack, as_followed}
use Rattle.clause_store.proofs.BackLemmas.{front_after_back}
use Rattle.clause_store.proofs.lemmas.Trails.FollowedLemmas.{followed_fit}
use Rattle.propagator.specs.Watched.{Attached}
use Rattle.watched_literals.specs.declared.tables.Tables.{Tables}
use Rattle.watched_literals.specs.declared.choosing.Choice.{Choice}
use Rattle.watched_literals.specs.Chains.{none, lit_of, AreLinked}
use Rattle.watched_literals.specs.Rooms.{IsRoomier, IsPut, IsSame}
use Rattle.watched_literals.specs.Watching.{AreNone, AreOthersFalse, AreSettled, AreWatching}
use Rattle.watched_literals.specs.Watching.{HoldsForGood, IsChoice, IsPair, IsRow, IsSettled}
use Rattle.watched_literals.specs.Watching.{IsTrueBy}
use Rattle.watched_literals.proofs.KnownLemmas.{none_apart, row_maps}

-- ---- opening

linked_open : (count : ℕ) → AreLinked [] (replicate count none)
linked_open count = record {
  few = omega arith;
  coded = λ node within. absurd (omega (arith, within));
  chains =
      λ code within. (
        [],
        record {
          chain = get_or-replicate count code none none
              (omega (arith, within, length-replicate count none));
          all = λ node inside. absurd (omega (arith, inside));
        },
      );
}

pub opened : (vars : ℕ) (tables : Tables) → tables.chains.nodes.items ≡ []
    → tables.chains.heads.items ≡ replicate (2 * vars + 2) none → tables.saved.items ≡ []
    → tables.pending.waits ≡ [] → AreWatching vars [] tables [] 0
opened vars tables nodes heads saved waits = record {
  linked =
      subst (λ it. AreLinked it tables.chains.heads.items) (sym nodes)
      (subst (AreLinked []) (sym heads) (linked_open (2 * vars + 2)));
  heads = ap length heads ∙ length-replicate (2 * vars + 2) none;
  nodes = ap length nodes ∙ omega arith;
  saved = ap length saved;
  waits = ap length waits;
  few = omega arith;
  rows = λ number d within. absurd (omega (arith, within));
  settled = λ number within. absurd (omega (arith, within));
  detached = λ number d within. absurd (omega (arith, within));
  reached = omega arith;
}

-- ---- want of memory

-- where nothing changed but the room, what is watched stays so
pub watching_same : (vars : ℕ) (entries : List Attached) (old new : Tables)
    (known : List Followed) (next : ℕ) → AreWatching vars entries old known next
    → IsSame old new → AreWatching vars entries new known next
watching_same vars entries old new known next was is = record {
  linked = rw (is.nodes, is.heads) was.linked;
  heads = ap length is.heads ∙ was.heads;
  nodes = ap length is.nodes ∙ was.nodes;
  saved = ap length is.saved ∙ was.saved;
  waits = ap length is.waits ∙ was.waits;
  few = was.few;
  rows = λ number d within. rw (is.nodes, is.saved) (was.rows number d within);
  settled =
      λ number within off. rw is.nodes
      (was.settled number within (ap (λ waits. get_or waits number false) (sym is.waits) ∙ off));
  detached =
      λ number d within none_is off. was.detached number d within
      (subst
      (λ nodes. AreNone (lit_of nodes (2 * number)) (lit_of nodes (2 * number + 1))) is.nodes
      none_is)
      (ap (λ waits. get_or waits number false) (sym is.waits) ∙ off);
  reached = was.reached;
}

-- ---- one clause more

-- a clause of two literals has no others
two_only : (known : List Followed) (clause : List Lit) (one two : Lit) → length clause ≡ 2
    → IsPair clause one two → AreOthersFalse known clause one two
two_only known clause one two count pair k d within not_one not_two =
    absurd
    (elim (cases_eq k pair.one_here.0) [
      | inl same ↦
          not_one
          (ap (λ n. get_or clause n d) same
          ∙ get_or_default clause pair.one_here.0 d one pair.one_here.1
          ∙ pair.one_here.2)
      | inr else_one ↦
          elim (cases_eq k pair.two_here.0) [
            | inl same ↦
                not_two
                (ap (λ n. get_or clause n d) same
                ∙ get_or_default clause pair.two_here.0 d two pair.two_here.1
                ∙ pair.two_here.2)
            | inr else_two ↦
                elim (cases_eq pair.one_here.0 pair.two_here.0) [
                  | inl same ↦
                      pair.differ
                      (sym pair.one_here.2
                      ∙ get_or_default clause pair.one_here.0 one two pair.one_here.1
                      ∙ ap (λ n. get_or clause n two) same
                      ∙ pair.two_here.2)
                  | inr apart ↦
                      omega (
                        arith,
                        within,
                        count,
                        pair.one_here.1,
                        pair.two_here.1,
                        else_one,
                        else_two,
                        apart,
                      )
                ]
          ]
    ])

unsettled : (known : List Followed) (next : ℕ) (one two : Lit) → next ≡ 0
    → AreSettled known next one two
unsettled known next one two is = record {
  first = λ at d before. absurd (omega (arith, before, is));
  second = λ at d before. absurd (omega (arith, before, is));
}

module _ (vars : ℕ) (entries : List Attached) (old mid new : Tables) (known : List Followed)
    (next : ℕ) (entry : Attached) (choice : Choice) (was : AreWatching vars entries old known next)
    (roomier : IsRoomier old mid) (is : IsPut entry.lits choice next mid new)
    (chosen : IsChoice vars entry.lits choice) (few : length entries < 2147483647) where
  count : ℕ
  count = length entries

  nodes_mid : length mid.chains.nodes.items ≡ 2 * length entries
  nodes_mid = ap length roomier.nodes ∙ was.nodes

  saved_mid : length mid.saved.items ≡ length entries
  saved_mid = ap length roomier.saved ∙ was.saved

  lit_before : (n : ℕ) → n < 2 * length entries
      → lit_of new.chains.nodes.items n ≡ lit_of old.chains.nodes.items n
  lit_before n within =
      is.nodes.before n (omega (arith, within, nodes_mid))
      ∙ ap (λ nodes. lit_of nodes n) roomier.nodes

  one_at : lit_of new.chains.nodes.items (2 * length entries) ≡ choice.one
  one_at = ap (lit_of new.chains.nodes.items) (sym nodes_mid) ∙ is.nodes.one_is

  two_at : lit_of new.chains.nodes.items (2 * length entries + 1) ≡ choice.two
  two_at = ap (λ n. lit_of new.chains.nodes.items (n + 1)) (sym nodes_mid) ∙ is.nodes.two_is

  waits_before : (number : ℕ) → number < length entries
      → get_or new.pending.waits number false ≡ get_or old.pending.waits number false
  waits_before number within =
      is.wait.others number (λ same. omega (arith, same, within, saved_mid))
      ∙ ap (λ waits. get_or waits number false) roomier.waits
      ∙ get_or_append_left old.pending.waits (false ∷ []) false number
      (omega (arith, within, was.waits))

  saved_before : (number : ℕ) → number < length entries
      → get_or new.saved.items number 0 ≡ get_or old.saved.items number 0
  saved_before number within =
      ap (λ saved. get_or saved number 0) is.saved
      ∙ get_or_append_left mid.saved.items (is.place ∷ []) 0 number
      (omega (arith, within, saved_mid))
      ∙ ap (λ saved. get_or saved number 0) roomier.saved

  saved_at : get_or new.saved.items (length entries) 0 ≡ is.place
  saved_at =
      ap (λ saved. get_or saved (length entries) 0) is.saved
      ∙ get_or_push mid.saved.items is.place 0 (length entries) saved_mid

  old_row : (number : ℕ) (d : Attached) → number < length entries
      → IsRow known (get_or (entries ++ entry ∷ []) number d).lits (get_or new.saved.items number 0)
      (lit_of new.chains.nodes.items (2 * number))
      (lit_of new.chains.nodes.items (2 * number + 1))
  old_row number d within =
      rw (
        get_or_append_left entries (entry ∷ []) d number within,
        saved_before number within,
        lit_before (2 * number) (omega (arith, within)),
        lit_before (2 * number + 1) (omega (arith, within)),
      )
      (was.rows number d within)

  chosen_row : IsRow known entry.lits is.place choice.one choice.two
  chosen_row =
      elim (cases_lt (length entry.lits) 2) [
        | inl short ↦ inr (chosen.short short)
        | inr long ↦
            let pair = chosen.pair long in
            inl (record {
              pair = pair;
              binary =
                  λ none_is. two_only known entry.lits choice.one choice.two (is.binary none_is)
                  pair;
            })
      ]

  new_row : (d : Attached)
      → IsRow known (get_or (entries ++ entry ∷ []) (length entries) d).lits
      (get_or new.saved.items (length entries) 0)
      (lit_of new.chains.nodes.items (2 * length entries))
      (lit_of new.chains.nodes.items (2 * length entries + 1))
  new_row d =
      rw (get_or_push entries entry d (length entries) refl, saved_at, one_at, two_at)
      chosen_row

  old_settled : (number : ℕ) → number < length entries
      → get_or new.pending.waits number false ≡ false
      → AreSettled known next (lit_of new.chains.nodes.items (2 * number))
      (lit_of new.chains.nodes.items (2 * number + 1))
  old_settled number within off =
      rw (
        lit_before (2 * number) (omega (arith, within)),
        lit_before (2 * number + 1) (omega (arith, within)),
      )
      (was.settled number within (sym (waits_before number within) ∙ off))

  old_good : (number : ℕ) (d : Attached) → number < length entries
      → AreNone (lit_of new.chains.nodes.items (2 * number))
      (lit_of new.chains.nodes.items (2 * number + 1))
      → get_or new.pending.waits number false ≡ false
      → HoldsForGood known (get_or (entries ++ entry ∷ []) number d).lits
  old_good number d within none_is off =
      let same : get_or (entries ++ entry ∷ []) number d ≡ get_or entries number d =
      get_or_append_left entries (entry ∷ []) d number within in
      subst (λ (it : Attached). HoldsForGood known it.lits) (sym same)
      (was.detached number d within
      (subst (λ lit. AreNone lit (lit_of old.chains.nodes.items (2 * number + 1)))
      (lit_before (2 * number) (omega (arith, within)))
      (subst (AreNone (lit_of new.chains.nodes.items (2 * number)))
      (lit_before (2 * number + 1) (omega (arith, within))) none_is))
      (sym (waits_before number within) ∙ off))

  new_waits : (number : ℕ) → number ≡ length entries
      → AreNone (lit_of new.chains.nodes.items (2 * number))
      (lit_of new.chains.nodes.items (2 * number + 1))
      → get_or new.pending.waits number false ≢ false
  new_waits number last none_is off =
      let here : AreNone choice.one choice.two =
      subst (λ lit. AreNone lit choice.two)
      (ap (λ n. lit_of new.chains.nodes.items (2 * n)) last ∙ one_at)
      (subst (AreNone (lit_of new.chains.nodes.items (2 * number)))
      (ap (λ n. lit_of new.chains.nodes.items (2 * n + 1)) last ∙ two_at) none_is) in
      elim (cases_lt (length entry.lits) 2) [
        | inl short ↦
            false≢true
            (sym off ∙ ap (λ n. get_or new.pending.waits n false) (last ∙ sym saved_mid)
            ∙ is.wait.short short)
        | inr long ↦
            none_apart entry.lits choice.one choice.two (chosen.pair long) here
      ]

  at_count : (number : ℕ) → number < length (entries ++ entry ∷ []) → length entries ≤ number
      → number ≡ length entries
  at_count number within after =
      omega (arith, within, after, length-append entries (entry ∷ []))

  -- where a clause is put last, it is watched
  pub attached : AreWatching vars (entries ++ entry ∷ []) new known next
  attached = record {
    linked =
        is.nodes.linked
        (subst (λ nodes. AreLinked nodes mid.chains.heads.items) (sym roomier.nodes)
        (subst (AreLinked old.chains.nodes.items) (sym roomier.heads) was.linked));
    heads = is.nodes.heads ∙ ap length roomier.heads ∙ was.heads;
    nodes =
        omega (arith, is.nodes.nodes, nodes_mid, length-append entries (entry ∷ []));
    saved =
        omega (
          arith,
          ap length is.saved,
          length-append mid.saved.items (is.place ∷ []),
          saved_mid,
          length-append entries (entry ∷ []),
        );
    waits =
        omega (
          arith,
          is.wait.count,
          ap length roomier.waits,
          length-append old.pending.waits (false ∷ []),
          was.waits,
          length-append entries (entry ∷ []),
        );
    few = omega (arith, few, length-append entries (entry ∷ []));
    rows =
        λ number d within. elim (cases_lt number (length entries)) [
          | inl before ↦ old_row number d before
          | inr after ↦
              subst
              (λ r. IsRow known (get_or (entries ++ entry ∷ []) r d).lits (get_or new.saved.items r 0)
              (lit_of new.chains.nodes.items (2 * r))
              (lit_of new.chains.nodes.items (2 * r + 1)))
              (sym (at_count number within after)) (new_row d)
        ];
    settled =
        λ number within off. elim (cases_lt number (length entries)) [
          | inl before ↦ old_settled number before off
          | inr after ↦
              unsettled known next (lit_of new.chains.nodes.items (2 * number))
              (lit_of new.chains.nodes.items (2 * number + 1))
              (is.wait.later
              (ap (λ r. get_or new.pending.waits r false)
              (saved_mid ∙ sym (at_count number within after)) ∙ off))
        ];
    detached =
        λ number d within none_is off. elim (cases_lt number (length entries)) [
          | inl before ↦ old_good number d before none_is off
          | inr after ↦ absurd (new_waits number (at_count number within after) none_is off)
        ];
    reached = was.reached;
  }

-- ---- going back

-- what has a property, and so passes a filter, is among those that pass
any_kept : {X : Type 0} (P : X → Type 0) (keeps : X → Bool) (xs : List X)
    → ((x : X) → P x → keeps x ≡ true) → Any P xs → Any P (filter keeps xs)
any_kept P keeps [] always (k, x, within, is, p) = absurd (omega (arith, within))
any_kept P keeps (y ∷ xs) always (zero, x, within, is, p) =
    let kept : keeps y ≡ true = ap keeps is ∙ always x p in
    rw kept (zero, x, omega arith, is, p)
any_kept P keeps (y ∷ xs) always (suc k, x, within, is, p) =
    let rest = any_kept P keeps xs always (k, x, omega (arith, within), is, p) in
    elim (cases_Bool (keeps y)) [
      | inl stays ↦ rw stays (suc rest.0, rest.1, omega (arith, rest.2), rest.3, rest.4)
      | inr goes ↦ rw goes rest
    ]

up_to_low : (level : ℕ) (steps : List Step) → All (λ step. step.level ≤ level) (up_to level steps)
up_to_low level [] = All-nil (λ step. step.level ≤ level)
up_to_low level (step ∷ steps) =
    elim (cases_lt level step.level) [
      | inl above ↦ rw (lt-leb step.level level above) (up_to_low level steps)
      | inr low ↦
          rw (le-leb step.level level low)
          (All-cons (λ s. s.level ≤ level) step (up_to level steps) low (up_to_low level steps))
    ]

abbrev no_step : Step
no_step = record { lit = record { 0 = 0 }; reason = None; level = 0 }

module _ (trail : Assigned) (known : List Followed) (gone : HasGoneBack trail known) where
  front : (rest : List Step) × (gone.earlier ≡ up_to gone.level gone.earlier ++ rest)
  front = front_after_back (record trail { steps = gone.earlier }) gone.level gone.was_trail

  whole : gone.earlier ≡ trail.steps ++ front.0
  whole = front.1 ∙ ap (λ steps. steps ++ front.0) (sym gone.went_back)

  fits : length known ≤ length gone.earlier
  fits = followed_fit gone.earlier known gone.were_followed

  was : (at : ℕ) (d : Followed) → at < length known
      → get_or known at d ≡ as_followed (get_or gone.earlier at no_step)
  was at d within =
      ap (λ all. get_or all at d) gone.were_followed
      ∙ get_or-map as_followed (take (length known) gone.earlier) at no_step d
      (omega (arith, within, fits, length-take (length known) gone.earlier))
      ∙ ap as_followed (get_or-take (length known) gone.earlier at no_step within)

  is_still : (at : ℕ) (d : Followed) → at < length known → at < length trail.steps
      → get_or (map as_followed trail.steps) at d ≡ get_or known at d
  is_still at d within left =
      get_or-map as_followed trail.steps at no_step d left
      ∙ ap as_followed
      (sym (ap (λ steps. get_or steps at no_step) whole
      ∙ get_or_append_left trail.steps front.0 no_step at left))
      ∙ sym (was at d within)

  low : (at : ℕ) (d : Followed) → at < length known → at < length trail.steps
      → (get_or known at d).level ≤ gone.level
  low at d within left =
      let all : All (λ step. step.level ≤ gone.level) trail.steps =
      subst (All (λ step. step.level ≤ gone.level)) (sym gone.went_back)
      (up_to_low gone.level gone.earlier) in
      let it : get_or known at d ≡ as_followed (get_or trail.steps at no_step) =
      sym (is_still at d within left)
      ∙ get_or-map as_followed trail.steps at no_step d left in
      omega (arith, ap (λ (f : Followed). f.level) it, all at no_step left)

  true_still : (level : ℕ) (lit : Lit) → level ≤ gone.level → IsTrueBy level known lit
      → IsTrueBy level (map as_followed trail.steps) lit
  true_still level lit below (j, g, within, is, p) =
      let here : as_followed (get_or gone.earlier j no_step) ≡ g = sym (was j g within) ∙ is in
      let some : Any (λ (s : Step). (s.lit ≡ lit) × (s.level ≤ level)) gone.earlier = (
        j,
        get_or gone.earlier j no_step,
        omega (arith, within, fits),
        get_or_default gone.earlier j (get_or gone.earlier j no_step) no_step
            (omega (arith, within, fits)),
        (
          ap (λ (f : Followed). f.lit) here ∙ p.0,
          omega (arith, ap (λ (f : Followed). f.level) here, p.1),
        ),
      ) in
      let kept : Any (λ (s : Step). (s.lit ≡ lit) × (s.level ≤ level)) trail.steps =
      subst (Any (λ (s : Step). (s.lit ≡ lit) × (s.level ≤ level))) (sym gone.went_back)
      (any_kept (λ (s : Step). (s.lit ≡ lit) × (s.level ≤ level))
      (λ s. nat_le s.level gone.level) gone.earlier
      (λ s has. le-leb s.level gone.level (omega (arith, has.1, below))) some) in (
        kept.0,
        as_followed kept.1,
        omega (arith, kept.2, length-map trail.steps as_followed),
        get_or-map as_followed trail.steps kept.0 kept.1 (as_followed kept.1) kept.2
            ∙ ap as_followed kept.3,
        kept.4,
      )

  settled_still : (next less : ℕ) (lit other : Lit) → next ≤ length known → less ≤ next
      → less ≤ length trail.steps → IsSettled known next lit other
      → IsSettled (map as_followed trail.steps) less lit other
  settled_still next less lit other reached fewer left is at d before inside makes =
      let within : at < length known = omega (arith, before, fewer, reached) in
      let here : at < length trail.steps = omega (arith, before, left) in
      let same = is_still at d within here in
      subst (λ (f : Followed). IsTrueBy f.level (map as_followed trail.steps) other) (sym same)
      (true_still (get_or known at d).level other (low at d within here)
      (is at d (omega (arith, before, fewer)) within
      (sym (ap (λ (f : Followed). f.lit) same) ∙ makes)))

  any_maps : {X : Type 0} (P Q : X → Type 0) (xs : List X) → ((x : X) → P x → Q x) → Any P xs
      → Any Q xs
  any_maps P Q xs implies (k, x, within, is, p) = (k, x, within, is, implies x p)

  good_still : (lits : List Lit) → HoldsForGood known lits
      → HoldsForGood (map as_followed trail.steps) lits
  good_still lits some =
      any_maps (IsTrueBy 0 known) (IsTrueBy 0 (map as_followed trail.steps)) lits
      (λ lit is. true_still 0 lit (omega arith) is) some

  -- what is watched stays so when the trail goes back
  pub rewound : (vars : ℕ) (entries : List Attached) (tables : Tables) (next less : ℕ)
      → AreWatching vars entries tables known next → less ≤ next → less ≤ length trail.steps
      → AreWatching vars entries tables (map as_followed trail.steps) less
  rewound vars entries tables next less watching fewer left = record {
    linked = watching.linked;
    heads = watching.heads;
    nodes = watching.nodes;
    saved = watching.saved;
    waits = watching.waits;
    few = watching.few;
    rows =
        λ number d within. row_maps known (map as_followed trail.steps) _ _ _ _
        (λ lit is. true_still 0 lit (omega arith) is) (watching.rows number d within);
    settled =
        λ number within off. let both = watching.settled number within off in
        record {
          first =
              settled_still next less _ _ watching.reached fewer left both.first;
          second =
              settled_still next less _ _ watching.reached fewer left both.second;
        };
    detached =
        λ number d within none_is off. good_still _
        (watching.detached number d within none_is off);
    reached = omega (arith, left, length-map trail.steps as_followed);
  }
