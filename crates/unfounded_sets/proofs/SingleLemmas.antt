-- Which atoms are marked as supported, and the loop clause of one that isn't.
use Rattle.std.proofs.Common.{◌≡◌, ◌≢◌, ◌<◌, ◌+◌, ◌⊎◌, ℕ, Bool, true, false, List, [], ◌∷◌, ◌++◌}
use Rattle.std.proofs.Common.{length, set, get_or, arith, refl, sym, ap, ◌∙◌, subst, ⊎_elim}
use Rattle.std.proofs.Common.{inl, inr}
use Rattle.std.proofs.Common.{length-set}
use Rattle.std.specs.Prelude.{All, Any, Contains}
use Rattle.std.proofs.lemmas.Bool.{cases_eq, cases_lt, false≢true}
use Rattle.std.proofs.lemmas.List.{get_or-set_same, get_or-set_other, get_or_past}
use Rattle.std.proofs.lemmas.List.Elements.{All-contains, All-nil, All-push, All-weaker}
use Rattle.std.proofs.lemmas.List.Elements.{Contains-append_left, Contains-push}
use Rattle.ground_program.specs.declared.program.Kind.TheVariants.{Disjunctive}
use Rattle.ground_program.specs.Meaning.{IsIn}
use Rattle.clause_store.specs.declared.step.Step.{Step}
use Rattle.clause_store.specs.Standing.{IsFalse}
use Rattle.clause_store.proofs.LiteralLemmas.{any_from}
use Rattle.normal_program.specs.declared.normal.NormalRule.{NormalRule}
use Rattle.normal_program.specs.declared.normal.Normal.{Normal}
use Rattle.normal_program.specs.Normal.{body_var}
use Rattle.normal_program.specs.Clauses.{positive}
use Rattle.normal_program.specs.Loop.{IsAtomOf}
use Rattle.unfounded_sets.specs.Founding.{IsOpen}
use Rattle.unfounded_sets.specs.Rounds.{IsEmpty}
use Rattle.unfounded_sets.specs.Single.{AddsAll, IsOtherTrue, IsSupported, IsUnsupported, LeavesOut}
use Rattle.unfounded_sets.specs.Single.{Marks, MarksOne, Supports}
use Rattle.unfounded_sets.specs.Wanted.{HasOpen, HasOther, IsBlocked, IsLoopPart, IsOther}
use Rattle.unfounded_sets.proofs.FoundingLemmas.{added_more}

-- ---- one more atom

-- an atom of a set with one more is that one or was there
pub one_of_more : (before : List Bool) (one atom : ℕ) → IsIn (set before one true) atom
    → (atom ≡ one) ⊎ IsIn before atom
one_of_more before one atom here =
    ⊎_elim (λ same. inl same)
    (λ apart. inr (sym (get_or-set_other before one atom true false apart) ∙ here))
    (cases_eq atom one)

pub adds_none : (before : List Bool) → AddsAll [] before before
adds_none before = record {
  places = refl;
  more = λ atom here. here;
  added = λ atom here. inl here;
  has = All-nil (IsIn before);
}

pub adds_more : (front : List ℕ) (one : ℕ) (before mid : List Bool) → AddsAll front before mid
    → one < length mid → AddsAll (front ++ one ∷ []) before (set mid one true)
adds_more front one before mid so_far within = record {
  places = length-set mid one true ∙ so_far.places;
  more = λ atom here. added_more mid one within atom (so_far.more atom here);
  added = λ atom here.
      ⊎_elim
      (λ same. inr (subst (Contains (front ++ one ∷ [])) (sym same) (Contains-push front one)))
      (λ there. ⊎_elim (λ before. inl before)
      (λ among. inr (Contains-append_left front (one ∷ []) atom among)) (so_far.added atom there))
      (one_of_more mid one atom here);
  has =
      All-push (IsIn (set mid one true)) front one
      (All-weaker (IsIn mid) (IsIn (set mid one true)) (added_more mid one within) front so_far.has)
      (get_or-set_same mid one true false within);
}

-- ---- the heads of a rule

-- another head that is true is outside a set that has no other atom
other_outside : (steps : List Step) (part : List Bool) (rule : NormalRule) (atom : ℕ)
    → (rule.kind ≡ Disjunctive) × Any (IsOtherTrue steps atom) rule.heads
    → ((one : ℕ) → one ≢ atom → ¬ IsIn part one) → HasOther steps part rule
other_outside steps part rule atom (disjunctive, (k, head, within, at, it)) outside = (
  head,
  record {
    disjunctive = disjunctive;
    among = (k, within, at);
    other = record { denied = it.denied; outside = outside head it.other };
  },
)

module _ (normal : Normal) (steps : List Step) (rule : NormalRule) where
  abbrev body : ℕ
  body = body_var normal rule.body

  -- a false body supports none
  pub marks_left : (before : List Bool) → IsFalse steps (positive body)
      → MarksOne normal steps rule before before
  marks_left before denied = record {
    places = refl;
    more = λ atom here. here;
    marked = λ atom here. inl here;
    complete = λ k d within out. inl denied;
  }

  -- where no head is true, or the rule isn't disjunctive, it supports all heads
  pub marks_all : (before after : List Bool) → ¬ IsFalse steps (positive body)
      → ¬ HasOther steps [] rule → AddsAll rule.heads before after
      → MarksOne normal steps rule before after
  marks_all before after possible none adds = record {
    places = adds.places;
    more = adds.more;
    marked = λ atom here.
        ⊎_elim (λ there. inl there)
        (λ among. inr
        (record {
          head = among;
          possible = λ out.
              ⊎_elim (λ denied. possible denied)
              (λ other. none (other_outside steps [] rule atom other (λ one apart. false≢true))) out;
        }))
        (adds.added atom here);
    complete = λ k d within out. absurd (out (adds.has k d within));
  }

  -- a true head is supported alone, where no other is true
  module _ (before : List Bool) (head : ℕ) (is : IsOther steps [] rule head) where
    left_by : (atom : ℕ) → atom ≢ head → LeavesOut normal steps rule atom
    left_by atom apart =
        inr (
          is.disjunctive,
          any_from (IsOtherTrue steps atom) rule.heads head is.among
              (record { denied = is.other.denied; other = λ same. apart (sym same) }),
        )

    pub marks_one : head < length before → ¬ IsFalse steps (positive body)
        → ¬ Any (IsOtherTrue steps head) rule.heads
        → MarksOne normal steps rule before (set before head true)
    marks_one within possible alone = record {
      places = length-set before head true;
      more = added_more before head within;
      marked = λ atom here.
          ⊎_elim
          (λ same. inr
          (subst (Supports normal steps rule) (sym same)
          (record {
            head = is.among;
            possible = λ out.
                ⊎_elim (λ denied. possible denied) (λ other. alone other.1) out;
          })))
          (λ there. inl there) (one_of_more before head atom here);
      complete = λ k d among out.
          let atom = get_or rule.heads k d in
          left_by atom
          (λ same. out
          (subst (IsIn (set before head true)) (sym same)
          (get_or-set_same before head true false within)));
    }

    pub marks_both : Any (IsOtherTrue steps head) rule.heads
        → MarksOne normal steps rule before before
    marks_both others = record {
      places = refl;
      more = λ atom here. here;
      marked = λ atom here. inl here;
      complete = λ k d among out.
          let atom = get_or rule.heads k d in
          ⊎_elim
          (λ same. subst (LeavesOut normal steps rule) (sym same) (inr (is.disjunctive, others)))
          (λ apart. left_by atom apart) (cases_eq atom head);
    }

-- ---- rules one after the other

module _ (normal : Normal) (steps : List Step) where
  abbrev IsComplete : List Bool → NormalRule → Type 0
  IsComplete after rule =
      All (λ head. ¬ IsIn after head → LeavesOut normal steps rule head) rule.heads

  pub marks_none : (before : List Bool) → Marks normal steps [] before before
  marks_none before = record {
    places = refl;
    more = λ atom here. here;
    marked = λ atom here. inl here;
    complete = All-nil (IsComplete before);
  }

  complete_more : (mid after : List Bool) (rule : NormalRule)
      → ((atom : ℕ) → IsIn mid atom → IsIn after atom) → IsComplete mid rule → IsComplete after rule
  complete_more mid after rule more complete k d within out =
      complete k d within (λ here. out (more (get_or rule.heads k d) here))

  pub marks_more : (front : List NormalRule) (rule : NormalRule) (before mid after : List Bool)
      → Marks normal steps front before mid → MarksOne normal steps rule mid after
      → Marks normal steps (front ++ rule ∷ []) before after
  marks_more front rule before mid after so_far step = record {
    places = step.places ∙ so_far.places;
    more = λ atom here. step.more atom (so_far.more atom here);
    marked = λ atom here.
        let supports = λ (one : NormalRule). Supports normal steps one atom in
        ⊎_elim
        (λ there. ⊎_elim (λ first. inl first)
        (λ some. inr
        (any_from supports (front ++ rule ∷ []) some.1
        (Contains-append_left front (rule ∷ []) some.1 (some.0, some.2, some.3)) some.4))
        (so_far.marked atom there))
        (λ last. inr
        (any_from supports (front ++ rule ∷ []) rule (Contains-push front rule) last))
        (step.marked atom here);
    complete =
        All-push (IsComplete after) front rule
        (All-weaker (IsComplete mid) (IsComplete after)
        (λ one. complete_more mid after one step.more) front so_far.complete)
        step.complete;
  }

-- ---- an atom that isn't marked

-- no atom is in an empty set
empty_none : (places atom : ℕ) (none : List Bool) → IsEmpty places none → IsIn none atom → ⊥
empty_none places atom none is here =
    ⊎_elim
    (λ low. false≢true (sym (is.none atom false low) ∙ here))
    (λ past. false≢true (sym (get_or_past none atom false past) ∙ here))
    (cases_lt atom (length none))

module _ (normal : Normal) (steps : List Step) (none supported : List Bool) (atom : ℕ)
    (empty : IsEmpty (normal.atoms + 1) none) (first : List Bool)
    (marks : Marks normal steps normal.rules first supported)
    (opened : IsOpen normal steps supported atom) where
  abbrev part : List Bool
  part = set none atom true

  only : (one : ℕ) → IsIn part one → one ≡ atom
  only one here =
      ⊎_elim (λ same. same)
      (λ there. absurd (empty_none (normal.atoms + 1) one none empty there))
      (one_of_more none atom one here)

  left_out : (rule : NormalRule)
      → All (λ head. ¬ IsIn supported head → LeavesOut normal steps rule head) rule.heads
      → Any (IsIn part) rule.heads → IsBlocked normal steps part rule
  left_out rule complete (k, head, within, at, here) =
      let same = only head here in
      ⊎_elim (λ denied. inl denied)
      (λ other. inr
      (inr
      (other_outside steps part rule atom other (λ one apart inside. apart (only one inside)))))
      (subst (LeavesOut normal steps rule) same
      (All-contains (λ one. ¬ IsIn supported one → LeavesOut normal steps rule one) rule.heads head
      complete (k, within, at)
      (subst (λ one. ¬ IsIn supported one) (sym same) opened.outside)))

  -- the atom alone is an unfounded set
  pub single_part : IsLoopPart normal steps part atom
  single_part = record {
    places = length-set none atom true ∙ empty.count;
    here =
        get_or-set_same none atom true false
        (omega (arith, empty.count, opened.is_atom.last));
    is_atom = λ one here. subst (IsAtomOf normal) (sym (only one here)) opened.is_atom;
    possible = λ one here.
        subst (λ it. ¬ IsFalse steps (positive it)) (sym (only one here)) opened.possible;
    blocked = λ k rule within. left_out (get_or normal.rules k rule) (marks.complete k rule within);
  }

  -- and isn't supported
  pub single_unsupported : IsUnsupported normal steps atom
  single_unsupported = record {
    is_atom = opened.is_atom;
    possible = opened.possible;
    unsupported = λ some.
        let leaves =
        All-contains
        (λ (rule : NormalRule).
        All (λ head. ¬ IsIn supported head → LeavesOut normal steps rule head) rule.heads)
        normal.rules some.1 marks.complete (some.0, some.2, some.3) in
        some.4.possible
        (All-contains (λ one. ¬ IsIn supported one → LeavesOut normal steps some.1 one)
        some.1.heads atom leaves some.4.head opened.outside);
  }

-- where each atom that isn't false is marked it is supported
pub all_supported : (normal : Normal) (steps : List Step) (first supported : List Bool)
    → IsEmpty (normal.atoms + 1) first → Marks normal steps normal.rules first supported
    → HasOpen normal steps supported → (atom : ℕ) → IsAtomOf normal atom
    → ¬ IsFalse steps (positive atom) → IsSupported normal steps atom
all_supported normal steps first supported starts marks has_open atom is_atom possible =
    ⊎_elim (λ there. absurd (empty_none (normal.atoms + 1) atom first starts there))
    (λ some. some) (marks.marked atom (has_open atom is_atom possible))

-- a cleared table is empty
pub cleared : (made normal : Normal) (before after : List Bool) → made ≡ normal
    → length before ≡ made.atoms + 1 → IsEmpty (length before) after
    → IsEmpty (normal.atoms + 1) after
cleared made normal before after same places is =
    subst (λ count. IsEmpty count after)
    (places ∙ ap (λ (it : Normal). it.atoms + 1) same) is
