-- Sets of numbers that know those that they have.
use Rattle.std.proofs.Common.{◌≡◌, ◌≢◌, ◌<◌, ◌-◌, ◌++◌, ◌∷◌, ℕ, Bool, true, false, List, [], length}
use Rattle.std.proofs.Common.{get_or, set, take, sym, ap, ◌∙◌, subst, inl, inr, arith}
use Rattle.std.proofs.Common.{Some, slice_get, length-append}
use Rattle.std.specs.Prelude.{All}
use Rattle.std.proofs.lemmas.Bool.{both_ways}
use Rattle.std.proofs.lemmas.List.{get_or-set_same, get_or-set_other, get_or-take, length-take}
use Rattle.std.proofs.lemmas.List.{get_or_default}
use Rattle.std.proofs.lemmas.List.Elements.{All-push}
use Rattle.std.proofs.lemmas.List.Quantifiers.{all_pairs_push}
use Rattle.std.proofs.lemmas.Option.{get_or_from_slice_get, slice_get_within, slice_get-get_or}
use Rattle.std.proofs.Math.Seq.{get_or-append_seam}
use Rattle.ground_program.specs.Meaning.{IsIn}
use Rattle.unfounded_sets.specs.Members.{Marked, AreListed, IsAdded, IsListed}
use Rattle.unfounded_sets.proofs.FoundingLemmas.{added_more}
use Rattle.unfounded_sets.proofs.StackLemmas.{stack_with, stack_without}

module _ (marks : List Bool) (list : List ℕ) (places : ℕ) (is : AreListed marks list places) where
  -- a number joins
  pub members_with : (number : ℕ) (d : Bool) → number < length marks
      → get_or marks number d ≡ false
      → AreListed (set marks number true) (list ++ number ∷ []) places
  members_with number d within off = record {
    stack = stack_with marks list places is.stack number d within off;
    are =
        All-push (IsIn (set marks number true)) list number
        (λ k e low. added_more marks number within (get_or list k e) (is.are k e low))
        (get_or-set_same marks number true false within);
    once =
        all_pairs_push (λ one two. one ≢ two) list number is.once
        (λ k e low same. both_ways (get_or marks number false)
        (get_or_default marks number false d within ∙ off)
        (subst (IsIn marks) same (is.are k e low)));
  }

  -- and the last one goes
  pub members_without : (number : ℕ) → slice_get list (length list - 1) ≡ Some number
      → AreListed (set marks number false) (take (length list - 1) list) places
  members_without number last = record {
    stack = stack_without marks list places is.stack number last;
    are = λ k d low.
        let before : k < length list - 1 =
        omega (arith, low, length-take (length list - 1) list) in
        let same = get_or-take (length list - 1) list k d before in
        subst (IsIn (set marks number false)) (sym same)
        (get_or-set_other marks number (get_or list k d) false false
        (λ again. is.once k (length list - 1) d before last_within
        (again ∙ sym (get_or_from_slice_get list (length list - 1) number d last)))
        ∙ is.are k d (omega (arith, before)));
    once = λ i j d low high same.
        let before : j < length list - 1 =
        omega (arith, high, length-take (length list - 1) list) in
        is.once i j d low (omega (arith, before))
        (sym (get_or-take (length list - 1) list i d (omega (arith, low, before))) ∙ same
        ∙ get_or-take (length list - 1) list j d before);
  }
    where
      last_within : length list - 1 < length list
      last_within = slice_get_within list (length list - 1) number last

  -- what callers know
  pub members_listed : IsListed (record { marks = marks; list = list })
  members_listed = record {
    has = λ number here.
        let (k, it, within, at, same) = is.stack.has number here in
        (k, within, get_or_default list k number it within ∙ at ∙ same);
    are = is.are;
    once = is.once;
  }

-- the last of a list
pub last_of : (list rest : List ℕ) (number : ℕ) → list ≡ rest ++ number ∷ []
    → slice_get list (length list - 1) ≡ Some number
last_of list rest number is =
    subst (λ all. slice_get all (length all - 1) ≡ Some number) (sym is)
    (let size = length-append rest (number ∷ []) in
    let at : length (rest ++ number ∷ []) - 1 ≡ length rest = omega (arith, size) in
    ap (slice_get (rest ++ number ∷ [])) at
    ∙ slice_get-get_or (rest ++ number ∷ []) (length rest) number (omega (arith, size))
    ∙ ap Some (get_or-append_seam rest number [] number))

-- what holds of all members and of a number that is added holds of all
pub added_all : (P : ℕ → Type 0) (number : ℕ) (old new : Marked) → IsAdded number old new
    → All P old.list → P number → All P new.list
added_all P number old new added all here = elim added.list [
  | inl same ↦ subst (All P) (sym same) all
  | inr more ↦ subst (All P) (sym more) (All-push P old.list number all here)
]
