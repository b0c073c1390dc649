-- Each kind of step keeps the rule of the board.
use Rattle.std.proofs.Common.{◌≡◌, ◌≢◌, ◌<◌, ◌∷◌, [], ℕ, zero, suc, true≢false, true}
use Rattle.std.proofs.Common.{List}
use Rattle.std.proofs.Common.{length, set, replicate, refl, sym, ap, subst, ◌∙◌, ⊎_elim, length-set}
use Rattle.std.specs.Prelude.{slice_index}
use Rattle.std.proofs.lemmas.List.{get_or-set_same, length-replicate}
use mathlib.Core.Option.{some, some-injective, some-ne-none}
use lib.ListN.{get_elem?}
use Rattle.atomic_table.specs.Table.{Me, Allows, Splits, Joins, keeps, stepped}
use Rattle.atomic_table.specs.Table.{opening}
use Rattle.atomic_table.proofs.Lists.{at_set, at_snoc}
use Rattle.ground_program.specs.declared.program.Mode.{Mode}
use Rattle.normal_program.specs.declared.normal.Normal.{Normal}
use Rattle.anytime_core.specs.declared.event.Event.{Event}
use Rattle.anytime_core.specs.Bits.{HasBit, IsPartOf, all_words}
use Rattle.anytime_core.specs.Truth.{IsTrueWord, AreTrue}
use Rattle.anytime_core.proofs.BitLemmas.{part_trans, part_refl, part_grows, part_meets}
use Rattle.anytime_core.proofs.BitLemmas.{both_within, length-both, zeros_are_part}
use Rattle.anytime_core.proofs.TruthLemmas.{true_set, true_zeros}
use Rattle.bounds_board.specs.declared.view.About.{About}
use Rattle.bounds_board.specs.declared.view.View.{View}
use Rattle.bounds_board.specs.Rule.{FitsTable, KeepsBoard, first_view}
use Rattle.bounds_board.specs.Plays.{met_view, Teaches, teller, note_of, learner, spent_view}

module _ (about : About) where
  -- two live views are of one run
  same_trues : (words : List ℕ) (one other : View) (row : List ℕ) → FitsTable about words one
      → FitsTable about words other → AreTrue one.normal one.mode row
      → AreTrue other.normal other.mode row
  same_trues words one other row first second trues =
      subst (λ (m : Mode). AreTrue other.normal m row) (first.same_mode ∙ sym second.same_mode)
      (subst (λ (n : Normal). AreTrue n one.mode row) (first.same_normal ∙ sym second.same_normal)
      trues)

  -- a view fits words of more true bits
  fits_more : (words later : List ℕ) (view : View) → length later ≡ length words
      → IsPartOf words later → AreTrue view.normal view.mode later → FitsTable about words view
      → FitsTable about later view
  fits_more words later view same more trues fit =
      record {
        same_normal = fit.same_normal;
        same_mode = fit.same_mode;
        row = same ∙ fit.row;
        as_many = fit.as_many ∙ sym same;
        trues = trues;
        part = part_trans view.actor.seen words later fit.part more;
      }

module _ {S : Type 0} (about : About) where
  -- a step that keeps the bits of a word and adds only true ones teaches its seat the word
  pub teaches : (slots id : ℕ) (me : Me S View) (place : ℕ) (event : Event) (change : ℕ → ℕ)
      → me.0.live ≡ true → place < all_words (length me.0.normal.names)
      → ((n bit : ℕ) → HasBit n bit → HasBit (change n) bit)
      → ((n : ℕ) → IsTrueWord me.0.normal me.0.mode place n
      → IsTrueWord me.0.normal me.0.mode place (change n))
      → Allows (KeepsBoard about) slots id me place change
      (λ found after. Teaches event place (change found) me after)
  teaches slots id me place event change live within grows trues s holds homes at small = (
    new,
    keeps,
    tt,
    kept,
    (
      refl,
      record {
        view = refl;
        trues = trues found (fit.trues place);
        more = λ bit has. grows found bit (fit.part place bit has);
      },
    ),
  )
    where
      view : View
      view = me.0

      found : ℕ
      found = slice_index s.words place

      words : List ℕ
      words = set s.words place (change found)

      new : View
      new = met_view me.0 event place (change found)

      fit : FitsTable about s.words view
      fit = holds id me.0 at live

      more : IsPartOf s.words words
      more = part_grows s.words place (change found) (grows found)

      all : AreTrue view.normal view.mode words
      all = true_set view.normal view.mode s.words place (change found) fit.trues
          (trues found (fit.trues place))

      mine : FitsTable about words new
      mine =
          record {
            same_normal = fit.same_normal;
            same_mode = fit.same_mode;
            row = length-set s.words place (change found) ∙ fit.row;
            as_many = length-set view.actor.seen place (change found) ∙ fit.as_many
                ∙ sym (length-set s.words place (change found));
            trues = all;
            part = subst (λ w. IsPartOf (set view.actor.seen place w) words)
                (get_or-set_same s.words place (change found) 0
                (subst (λ n. place < n) (sym fit.row) within))
                (part_meets view.actor.seen words place
                (part_trans view.actor.seen s.words words fit.part more));
          }

      kept : KeepsBoard about (stepped s place (change found) id me.1 new keeps)
      kept seat other there alive =
          ⊎_elim
          (λ (t : (seat ≡ id) × (new ≡ other)). subst (FitsTable about words) t.1 mine)
          (λ (t : (seat ≢ id) × (get_elem? s.views seat ≡ some other)).
          fits_more about s.words words other (length-set s.words place (change found)) more
          (same_trues about s.words view other words fit (holds seat other t.1 alive) all)
          (holds seat other t.1 alive))
          (at_set s.views id seat new other there)

  -- a seat makes a second one
  pub notes : (id : ℕ) (view : View) → view.live ≡ true
      → Splits {S = S} (KeepsBoard about) id view (teller view) (note_of view)
  notes id view live s holds at seat other there alive =
      ⊎_elim
      (λ old. ⊎_elim
      (λ (t : (seat ≡ id) × (teller view ≡ other)). subst (FitsTable about s.words) t.1 told)
      (λ (t : (seat ≢ id) × (get_elem? s.views seat ≡ some other)). holds seat other t.1 alive)
      (at_set s.views id seat (teller view) other old))
      (λ (same : note_of view ≡ other). subst (FitsTable about s.words) same noted)
      (at_snoc (set s.views id (teller view)) (note_of view) other seat there)
    where
      fit : FitsTable about s.words view
      fit = holds id view at live

      told : FitsTable about s.words (teller view)
      told =
          record {
            same_normal = fit.same_normal;
            same_mode = fit.same_mode;
            row = fit.row;
            as_many = fit.as_many;
            trues = fit.trues;
            part = fit.part;
          }

      noted : FitsTable about s.words (note_of view)
      noted =
          let count : ℕ = length view.actor.seen in
          record {
            same_normal = fit.same_normal;
            same_mode = fit.same_mode;
            row = fit.row;
            as_many = length-both (replicate count 0) view.actor.seen
                (length-replicate {A = ℕ} count 0)
                ∙ length-replicate {A = ℕ} count 0 ∙ fit.as_many;
            trues = fit.trues;
            part = both_within (replicate count 0) view.actor.seen s.words
                (zeros_are_part count s.words) fit.part;
          }

  -- a seat takes in what another has seen
  pub learns : (id : ℕ) (view : View) (from : ℕ) (noted : View) → view.live ≡ true
      → noted.live ≡ true
      → Joins {S = S} (KeepsBoard about) id view from noted (learner view noted) spent_view
  learns id view from noted live alive s holds at apart there seat other here lives =
      ⊎_elim
      (λ (t : (seat ≡ from) × (spent_view ≡ other)).
      absurd (true≢false (sym lives ∙ ap (λ (v : View). v.live) (sym t.1))))
      (λ (t : (seat ≢ from) × (get_elem? (set s.views id (learner view noted)) seat ≡ some other)).
      ⊎_elim
      (λ (u : (seat ≡ id) × (learner view noted ≡ other)).
      subst (FitsTable about s.words) u.1 taught)
      (λ (u : (seat ≢ id) × (get_elem? s.views seat ≡ some other)). holds seat other u.1 lives)
      (at_set s.views id seat (learner view noted) other t.1))
      (at_set (set s.views id (learner view noted)) from seat spent_view other here)
    where
      fit : FitsTable about s.words view
      fit = holds id view at live

      theirs : FitsTable about s.words noted
      theirs =
          ⊎_elim
          (λ (t : (from ≡ id) × (learner view noted ≡ noted)). absurd (apart t.0))
          (λ (t : (from ≢ id) × (get_elem? s.views from ≡ some noted)).
          holds from noted t.1 alive)
          (at_set s.views id from (learner view noted) noted there)

      taught : FitsTable about s.words (learner view noted)
      taught =
          record {
            same_normal = fit.same_normal;
            same_mode = fit.same_mode;
            row = fit.row;
            as_many = length-both view.actor.seen noted.actor.seen
                (fit.as_many ∙ sym theirs.as_many) ∙ fit.as_many;
            trues = fit.trues;
            part = both_within view.actor.seen noted.actor.seen s.words fit.part theirs.part;
          }

  -- the rule at the beginning
  pub begins : (words : List ℕ) (homes : List S)
      → words ≡ replicate (all_words (length about.normal.value.names)) 0
      → KeepsBoard about (opening words homes (first_view about))
  begins words homes zeros seat view there alive =
      subst (FitsTable about words) (first seat there)
      (subst (λ row. FitsTable about row (first_view about)) (sym zeros) fit)
    where
      count : ℕ
      count = all_words (length about.normal.value.names)

      first : (at : ℕ) → get_elem? (first_view about ∷ []) at ≡ some view → first_view about ≡ view
      first zero is = some-injective (first_view about) view is
      first (suc at) is = absurd (some-ne-none view (sym is))

      fit : FitsTable about (replicate count 0) (first_view about)
      fit =
          record {
            same_normal = refl;
            same_mode = refl;
            row = length-replicate {A = ℕ} count 0;
            as_many = refl;
            trues = true_zeros about.normal.value about.mode count;
            part = part_refl (replicate count 0);
          }

-- what is true of one run is true of the same run
pub true_word_of : (normal same : Normal) (mode other : Mode) (place word : ℕ) → same ≡ normal
    → other ≡ mode → IsTrueWord normal mode place word → IsTrueWord same other place word
true_word_of normal same mode other place word one two trues =
    subst (λ (m : Mode). IsTrueWord same m place word) (sym two)
    (subst (λ (n : Normal). IsTrueWord n mode place word) (sym one) trues)
