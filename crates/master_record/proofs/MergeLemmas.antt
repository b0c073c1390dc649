-- The lines of a merge go behind the lines so far.
use Rattle.std.proofs.Common.{◌≡◌, ◌≢◌, ◌≤◌, ◌<◌, ◌+◌, ◌-◌, ◌⊎◌, ℕ, zero, suc, Bool, true, false}
use Rattle.std.proofs.Common.{List, []}
use Rattle.std.proofs.Common.{◌∷◌, ◌++◌, length, get_or, set, refl, sym, ap, subst, ◌∙◌, ⊎_elim}
use Rattle.std.proofs.Common.{arith}
use Rattle.std.proofs.Common.{inl, inr, append-nil, append_assoc, true≢false, fold}
use Rattle.std.specs.Prelude.{All, Any, AllPairs}
use Rattle.std.proofs.lemmas.List.{get_or-set_other}
use Rattle.std.proofs.lemmas.List.Elements.{All-head, All-tail}
use Rattle.ground_program.specs.declared.pair.Pair.{Pair}
use Rattle.ground_program.specs.declared.program.Mode.{Mode}
use Rattle.ground_program.specs.declared.program.Mode.TheVariants.{Cautious, Brave}
use Rattle.ground_program.specs.declared.program.Named.{Named}
use Rattle.ground_program.specs.declared.program.Program.{Program}
use Rattle.ground_program.specs.Bounds.{IsCandidate, IsConsequence}
use Rattle.normal_program.specs.declared.normal.Normal.{Normal}
use Rattle.normal_program.specs.Normal.{IsAnswerSetN, IsNormalFormOf}
use Rattle.anytime_core.specs.Truth.{IsConsequenceN}
use Rattle.anytime_core.proofs.LaterLemmas.{consequence_is, consequence_was}
use Rattle.report.specs.declared.lines.Line.{Line}
use Rattle.report.specs.declared.lines.Line.TheVariants.{Answer, SettledIn, SettledOut, Sizes}
use Rattle.report.specs.Legal.{InNames, OutNames, IsShownBy, IsSettled, GivesShown, IsLegalLine}
use Rattle.report.proofs.LegalLemmas.{Any-before}
use Rattle.master_record.specs.Course.{IsOpenIn, with_line, with_lines}
use Rattle.master_record.specs.Settling.{AreAnswers, IsNews, cand_of}
use Rattle.master_record.proofs.TellLemmas.{Part, part_answer, part_in, part_out, open_is}

module _ (normal : Normal) (mode : Mode) where
  -- the lines of answer sets
  pub part_answers : (pair : Pair) (sets : List (List Bool)) (answers : ℕ) (more lines : List Line)
      → Part normal mode answers pair lines → All (IsAnswerSetN normal) sets
      → AreAnswers normal.names mode pair answers sets more
      → Part normal mode (answers + length more) pair (lines ++ more)
  part_answers pair [] answers more lines part sound none =
      let same : lines ++ more ≡ lines =
      ap (λ (xs : List Line). lines ++ xs) none ∙ append-nil lines in
      let count : answers + length more ≡ answers =
      omega (arith, ap (λ (xs : List Line). length xs) none) in
      subst (λ n. Part normal mode n pair (lines ++ more)) (sym count)
      (subst (Part normal mode answers pair) (sym same) part)
  part_answers pair (members ∷ sets) answers more lines part sound given =
      let rest_sound : All (IsAnswerSetN normal) sets =
      All-tail (IsAnswerSetN normal) members sets sound in
      ⊎_elim
      (λ (news, (rest, parts, next)).
      let line : Line = Answer (answers + 1) members in
      let longer : Part normal mode (answers + 1) pair (lines ++ line ∷ []) =
      part_answer normal mode answers pair lines part members
      (All-head (IsAnswerSetN normal) members sets sound) news in
      let all : Part normal mode (answers + 1 + length rest) pair ((lines ++ line ∷ []) ++ rest) =
      part_answers pair sets (answers + 1) rest (lines ++ line ∷ []) longer rest_sound next in
      let same : (lines ++ line ∷ []) ++ rest ≡ lines ++ more =
      append_assoc lines (line ∷ []) rest ∙ ap (λ (xs : List Line). lines ++ xs) (sym parts) in
      let long : length more ≡ suc (length rest) = ap (λ (xs : List Line). length xs) parts in
      let count : answers + 1 + length rest ≡ answers + length more = omega arith in
      subst (λ n. Part normal mode n pair (lines ++ more)) count
      (subst (Part normal mode (answers + 1 + length rest) pair) same all))
      (λ (old, next). part_answers pair sets answers more lines part rest_sound next)
      given

  -- what a line of a candidate says is true and named, behind these lines
  abbrev pub IsTellable : List Line → Line → Type 0
  IsTellable lines (SettledIn cand by) =
      IsConsequenceN normal mode cand × InNames normal.names mode lines cand by
  IsTellable lines (SettledOut cand by) =
      (¬ IsConsequenceN normal mode cand) × OutNames normal.names mode lines cand by
  IsTellable lines _ = ⊥

  shown_later : (other : Mode) (lines more : List Line) (cand by : ℕ)
      → IsShownBy normal.names other lines cand by
      → IsShownBy normal.names other (lines ++ more) cand by
  shown_later other lines more cand by shown =
      Any-before (GivesShown normal.names other cand by) lines more shown

  -- it stays so behind more lines
  pub in_later : (other : Mode) (lines more : List Line) (cand by : ℕ)
      → InNames normal.names other lines cand by → InNames normal.names other (lines ++ more) cand by
  in_later Cautious lines more cand by named = named
  in_later Brave lines more cand by named = shown_later Brave lines more cand by named

  pub out_later : (other : Mode) (lines more : List Line) (cand by : ℕ)
      → OutNames normal.names other lines cand by
      → OutNames normal.names other (lines ++ more) cand by
  out_later Cautious lines more cand by named = shown_later Cautious lines more cand by named
  out_later Brave lines more cand by named = named

  tellable_later : (lines : List Line) (one line : Line) → IsTellable lines line
      → IsTellable (lines ++ one ∷ []) line
  tellable_later lines one (SettledIn cand by) tell =
      (tell.0, in_later mode lines (one ∷ []) cand by tell.1)
  tellable_later lines one (SettledOut cand by) tell =
      (tell.0, out_later mode lines (one ∷ []) cand by tell.1)
  tellable_later lines one _ tell = absurd tell

  in_of_program : (program : Program) → IsNormalFormOf normal program → (other : Mode)
      → (lines : List Line) (cand by : ℕ) → InNames normal.names other lines cand by
      → InNames program.names other lines cand by
  in_of_program program form other lines cand by named =
      subst (λ (names : List Named). InNames names other lines cand by) form.names named

  out_of_program : (program : Program) → IsNormalFormOf normal program → (other : Mode)
      → (lines : List Line) (cand by : ℕ) → OutNames normal.names other lines cand by
      → OutNames program.names other lines cand by
  out_of_program program form other lines cand by named =
      subst (λ (names : List Named). OutNames names other lines cand by) form.names named

  -- one line more
  part_line : (answers : ℕ) (pair : Pair) (lines : List Line) (line : Line)
      → Part normal mode answers pair lines → IsOpenIn normal.names pair (cand_of line)
      → IsTellable lines line
      → Part normal mode answers (with_line pair line) (lines ++ line ∷ [])
  part_line answers pair lines (SettledIn cand by) part unsettled tell =
      part_in normal mode answers pair lines part cand by unsettled
      (λ program watch form. record {
        unsettled = record {
          candidate = subst (λ (names : List Named). IsCandidate names cand) form.names
              unsettled.candidate;
          unsettled = λ done. true≢false (sym (open_is normal mode pair cand unsettled)
              ∙ (part.settled cand unsettled.candidate).0 done);
        };
        consequence = consequence_is normal program form mode cand tell.0;
        named = in_of_program program form mode lines cand by tell.1;
      })
  part_line answers pair lines (SettledOut cand by) part unsettled tell =
      part_out normal mode answers pair lines part cand by unsettled
      (λ program watch form. record {
        unsettled = record {
          candidate = subst (λ (names : List Named). IsCandidate names cand) form.names
              unsettled.candidate;
          unsettled = λ done. true≢false (sym (open_is normal mode pair cand unsettled)
              ∙ (part.settled cand unsettled.candidate).0 done);
        };
        no_consequence = λ holds. tell.0 (consequence_was normal program form mode cand holds);
        named = out_of_program program form mode lines cand by tell.1;
      })
  part_line answers pair lines _ part unsettled tell = absurd tell

  -- another candidate stays unsettled
  open_beside : (pair : Pair) (lines : List Line) (line : Line) (cand : ℕ) → IsTellable lines line
      → 1 ≤ cand_of line → cand_of line < cand → IsOpenIn normal.names pair cand
      → IsOpenIn normal.names (with_line pair line) cand
  open_beside pair lines (SettledIn one by) cand tell first less unsettled =
      let differ : cand - 1 ≢ one - 1 = omega arith in
      record {
        candidate = unsettled.candidate;
        unproved = λ has. unsettled.unproved
            (sym (get_or-set_other pair.lower (one - 1) (cand - 1) true false differ) ∙ has);
        possible = unsettled.possible;
      }
  open_beside pair lines (SettledOut one by) cand tell first less unsettled =
      let differ : cand - 1 ≢ one - 1 = omega arith in
      record {
        candidate = unsettled.candidate;
        unproved = unsettled.unproved;
        possible = get_or-set_other pair.upper (one - 1) (cand - 1) false false differ
            ∙ unsettled.possible;
      }
  open_beside pair lines _ cand tell first less unsettled = absurd tell

  -- the rest of ascending lines
  pairs_tail : {X : Type 0} (R : X → X → Type 0) (x : X) (xs : List X) → AllPairs R (x ∷ xs)
      → AllPairs R xs
  pairs_tail R x xs pairs = λ i j d less within. pairs (suc i) (suc j) d (omega arith) (omega arith)

  -- the lines of candidates, ascending
  pub part_lines : (answers : ℕ) (pair : Pair) (lines more : List Line)
      → Part normal mode answers pair lines
      → AllPairs (λ earlier later. cand_of earlier < cand_of later) more
      → All (λ line. IsOpenIn normal.names pair (cand_of line)) more
      → All (IsTellable lines) more
      → Part normal mode answers (with_lines pair more) (lines ++ more)
  part_lines answers pair lines [] part ascending unsettled tell =
      subst (Part normal mode answers pair) (sym (append-nil lines)) part
  part_lines answers pair lines (line ∷ more) part ascending unsettled tell =
      let here : IsOpenIn normal.names pair (cand_of line) =
      All-head (λ (one : Line). IsOpenIn normal.names pair (cand_of one)) line more unsettled in
      let first : IsTellable lines line = All-head (IsTellable lines) line more tell in
      subst (Part normal mode answers (with_lines (with_line pair line) more))
      (append_assoc lines (line ∷ []) more)
      (part_lines answers (with_line pair line) (lines ++ line ∷ []) more
      (part_line answers pair lines line part here first)
      (pairs_tail (λ (earlier later : Line). cand_of earlier < cand_of later) line more ascending)
      (λ k d within. open_beside pair lines line (cand_of (get_or more k d)) first
      here.candidate.first
      (ascending 0 (suc k) d (omega arith) (omega arith))
      (All-tail (λ (one : Line). IsOpenIn normal.names pair (cand_of one)) line more unsettled k d within))
      (λ k d within. tellable_later lines line (get_or more k d)
      (All-tail (IsTellable lines) line more tell k d within)))

-- some item of joined lists is one of the first or one of the second
pub any_of_both : {X : Type 0} (P : X → Type 0) (xs ys : List X) → Any P (xs ++ ys)
    → Any P xs ⊎ Any P ys
any_of_both P [] ys found = inr found
any_of_both P (x ∷ xs) ys (zero, y, within, is, holds) =
    inl (zero, y, omega arith, is, holds)
any_of_both P (x ∷ xs) ys (suc k, y, within, is, holds) =
    elim (any_of_both P xs ys (k, y, omega arith, is, holds)) [
      | inl (j, z, inside, at, true_of) ↦ inl (suc j, z, omega arith, at, true_of)
      | inr later ↦ inr later
    ]
