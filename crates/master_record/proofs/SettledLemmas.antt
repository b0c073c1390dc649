-- The lines of candidates one after the other.
use Rattle.std.proofs.Common.{◌≡◌, ◌≤◌, ◌<◌, ◌+◌, ◌-◌, ◌⊎◌, ℕ, suc, Bool, true, List, [], ◌∷◌, ◌++◌}
use Rattle.std.proofs.Common.{length}
use Rattle.std.proofs.Common.{inl, inr, sym, ap, subst, ◌∙◌, ⊎_elim, arith, get_or, refl}
use Rattle.std.proofs.Common.{length-append}
use Rattle.std.specs.Prelude.{All, Any, AllPairs, Contains}
use Rattle.std.proofs.lemmas.List.Quantifiers.{Any-push}
use Rattle.std.proofs.lemmas.List.Elements.{All-push, Contains-push, Contains-push_cases}
use Rattle.std.proofs.lemmas.List.Elements.{Contains-append_left}
use Rattle.std.proofs.lemmas.List.Quantifiers.{all_pairs_push}
use Rattle.ground_program.specs.declared.program.Named.{Named}
use Rattle.ground_program.specs.declared.program.Mode.{Mode}
use Rattle.ground_program.specs.declared.pair.Pair.{Pair}
use Rattle.ground_program.specs.Bounds.{IsCandidate}
use Rattle.report.specs.declared.lines.Line.{Line}
use Rattle.report.specs.declared.lines.Line.TheVariants.{Answer}
use Rattle.report.proofs.LegalLemmas.{Any-before}
use Rattle.master_record.specs.Course.{IsOpenIn}
use Rattle.master_record.specs.Settling.{IsGainedLine, IsDue, cand_of, IsTold, IsShownIn}
use Rattle.master_record.specs.Settling.{AreAnswers}
use Rattle.master_record.specs.Settling.{IsNews, IsShownLine, IsProvedLine, AreSettledAmong}

-- the lines so far, of the candidates so far: the last that has one is known
pub record AreSoFar (names : List Named) (mode : Mode) (pair : Pair) (answers : List Line)
    (proved looked : List ℕ) (last : ℕ) (lines : List Line) : Type 0 where
  pub ascending : AllPairs (λ earlier later. cand_of earlier < cand_of later) lines
  pub each : All (IsGainedLine names mode pair answers proved) lines
  pub below : All (λ line. cand_of line ≤ last) lines
  pub latest : (last ≡ 0) ⊎ (Contains looked last × Any (λ line. cand_of line ≡ last) lines)
  pub all : (cand : ℕ) → Contains looked cand → IsDue names mode pair answers proved cand
      → Any (λ line. cand_of line ≡ cand) lines

module _ (names : List Named) (mode : Mode) (pair : Pair) (answers : List Line) (proved : List ℕ)
  where
    -- nothing so far
    pub so_far_none : AreSoFar names mode pair answers proved [] 0 []
    so_far_none = record {
      ascending = λ i j d less within. absurd (omega arith);
      each = λ k d within. absurd (omega arith);
      below = λ k d within. absurd (omega arith);
      latest = inl refl;
      all = λ cand (k, within, is). absurd (omega arith);
    }

    module _ (looked : List ℕ) (last : ℕ) (lines : List Line)
        (sofar : AreSoFar names mode pair answers proved looked last lines) (cand : ℕ) where
      -- the last one stays known
      latest_stays : (last ≡ 0)
          ⊎ (Contains (looked ++ cand ∷ []) last × Any (λ line. cand_of line ≡ last) lines)
      latest_stays =
          ⊎_elim
          (λ none. inl none)
          (λ has. inr (Contains-append_left looked (cand ∷ []) last has.0, has.1))
          sofar.latest

      -- a candidate that isn't due has no line
      pub so_far_skipped : ¬ IsDue names mode pair answers proved cand
          → AreSoFar names mode pair answers proved (looked ++ cand ∷ []) last lines
      so_far_skipped undue = record {
        ascending = sofar.ascending;
        each = sofar.each;
        below = sofar.below;
        latest = latest_stays;
        all = λ other has due.
            ⊎_elim
            (λ earlier. sofar.all other earlier due)
            (λ same. absurd (undue (subst (IsDue names mode pair answers proved) (sym same) due)))
            (Contains-push_cases looked cand other has);
      }

      -- nor has one that came before
      pub so_far_again : 1 ≤ cand → cand ≤ last → All (λ other. other ≤ cand) looked
          → AreSoFar names mode pair answers proved (looked ++ cand ∷ []) last lines
      so_far_again first behind sorted = record {
        ascending = sofar.ascending;
        each = sofar.each;
        below = sofar.below;
        latest = latest_stays;
        all = λ other has due.
            ⊎_elim
            (λ earlier. sofar.all other earlier due)
            (λ same. subst (λ n. Any (λ line. cand_of line ≡ n) lines) same line_of_cand)
            (Contains-push_cases looked cand other has);
      }
        where
          line_of_cand : Any (λ line. cand_of line ≡ cand) lines
          line_of_cand =
              ⊎_elim
              (λ none. absurd (omega (arith, none, first, behind)))
              (λ (found, line).
              let (k, within, is) = found in
              let low : last ≤ cand = subst (λ n. n ≤ cand) is (sorted k last within) in
              let same : last ≡ cand = omega arith in
              subst (λ n. Any (λ line. cand_of line ≡ n) lines) same line)
              sofar.latest

      -- one that is due has its line
      pub so_far_told : (line : Line) → last < cand → IsOpenIn names pair cand
          → IsTold names mode answers proved cand line
          → AreSoFar names mode pair answers proved (looked ++ cand ∷ []) cand (lines ++ line ∷ [])
      so_far_told line more unsettled told = record {
        ascending = all_pairs_push (λ earlier later. cand_of earlier < cand_of later) lines line
            sofar.ascending
            (λ k d within. let low : cand_of (get_or lines k d) ≤ last = sofar.below k d within in
            let is : cand_of line ≡ cand = told.about in
            omega arith);
        each = All-push (IsGainedLine names mode pair answers proved) lines line sofar.each
            (record {
              unsettled = subst (IsOpenIn names pair) (sym told.about) unsettled;
              told = subst (λ n. IsShownLine names mode answers n line
                  ⊎ IsProvedLine mode proved n line) (sym told.about) told.told;
            });
        below = All-push (λ one. cand_of one ≤ cand) lines line
            (λ k d within. let low : cand_of (get_or lines k d) ≤ last = sofar.below k d within in
            omega arith)
            (let is : cand_of line ≡ cand = told.about in omega arith);
        latest = inr
            (Contains-push looked cand, Any-push (λ one. cand_of one ≡ cand) lines line told.about);
        all = λ other has due.
            ⊎_elim
            (λ earlier. Any-before (λ one. cand_of one ≡ other) lines (line ∷ [])
            (sofar.all other earlier due))
            (λ same. Any-push (λ one. cand_of one ≡ other) lines line (told.about ∙ same))
            (Contains-push_cases looked cand other has);
      }

-- the lines of answer sets, one set more
module _ (names : List Named) (mode : Mode) (pair : Pair) (set : List Bool) where
  pub answers_given : (count : ℕ) (sets : List (List Bool)) (lines : List Line) (number : ℕ)
      → AreAnswers names mode pair count sets lines → number ≡ count + length lines
      → IsNews names mode pair number set
      → AreAnswers names mode pair count (sets ++ set ∷ []) (lines ++ Answer (number + 1) set ∷ [])
  answers_given count [] lines number none is news =
      let same : number ≡ count = omega (arith, ap (λ (xs : List Line). length xs) none) in
      inl (
        subst (λ n. IsNews names mode pair n set) same news,
        (
          [],
          ap (λ (xs : List Line). xs ++ Answer (number + 1) set ∷ []) none
              ∙ ap (λ n. Answer (n + 1) set ∷ []) same,
          refl,
        ),
      )
  answers_given count (one ∷ sets) lines number given is news =
      ⊎_elim
      (λ (first, (rest, parts, more)).
      let long : length lines ≡ suc (length rest) = ap (λ (xs : List Line). length xs) parts in
      inl (
        first,
        (
          rest ++ Answer (number + 1) set ∷ [],
          ap (λ (xs : List Line). xs ++ Answer (number + 1) set ∷ []) parts,
          answers_given (count + 1) sets rest number more (omega arith) news,
        ),
      ))
      (λ (old, more). inr (old, answers_given count sets lines number more is news))
      given

  pub answers_dropped : (count : ℕ) (sets : List (List Bool)) (lines : List Line) (number : ℕ)
      → AreAnswers names mode pair count sets lines → number ≡ count + length lines
      → ¬ IsNews names mode pair number set
      → AreAnswers names mode pair count (sets ++ set ∷ []) lines
  answers_dropped count [] lines number none is old =
      let same : number ≡ count = omega (arith, ap (λ (xs : List Line). length xs) none) in
      inr (subst (λ n. ¬ IsNews names mode pair n set) same old, none)
  answers_dropped count (one ∷ sets) lines number given is old =
      ⊎_elim
      (λ (first, (rest, parts, more)).
      let long : length lines ≡ suc (length rest) = ap (λ (xs : List Line). length xs) parts in
      inl (
        first,
        (
          rest,
          parts,
          answers_dropped (count + 1) sets rest number more (omega arith) old,
        ),
      ))
      (λ (before, more). inr (before, answers_dropped count sets lines number more is old))
      given
