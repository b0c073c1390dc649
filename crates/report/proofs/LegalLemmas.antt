-- Legal reports grow line by line, and end in a verdict.
use Rattle.std.proofs.Common.{◌≡◌, ◌⊎◌, ℕ, zero, suc, List, [], ◌∷◌, ◌++◌, refl, sym, ◌∙◌, ap}
use Rattle.std.proofs.Common.{subst, inl, inr, arith, length-append}
use Rattle.std.proofs.Math.ListN.{get_or-append}
use Rattle.std.specs.Prelude.{Any}
use Rattle.ground_program.specs.declared.program.Mode.{Mode}
use Rattle.ground_program.specs.declared.program.Program.{Program}
use Rattle.report.specs.declared.lines.Line.{Line}
use Rattle.report.specs.declared.lines.Line.TheVariants.{Complete, Partial, Incoherent, NoMemory}
use Rattle.report.specs.Legal.{IsLegalLine, IsLegalSoFar, IsLegalReport, IsIncoherent, IsComplete}
use Rattle.report.specs.Legal.{IsPartial, KeepsInside, EachWatched}

-- some element of a list is one of a longer list
pub Any-before : {X : Type 0} (P : X → Type 0) (xs ys : List X) → Any P xs → Any P (xs ++ ys)
Any-before P xs ys (k, x, inside, is, holds) =
    (k, x, omega (arith, length-append xs ys), get_or-append xs ys x k inside ∙ is, holds)

-- an element behind a list is the last or stands in the list
pub Any-last : {X : Type 0} (P : X → Type 0) (xs : List X) (y : X) → Any P (xs ++ y ∷ [])
    → Any P xs ⊎ P y
Any-last P [] y (zero, x, inside, is, holds) = inr (subst P (sym is) holds)
Any-last P [] y (suc k, x, inside, is, holds) = absurd (omega arith)
Any-last P (z ∷ xs) y (zero, x, inside, is, holds) = inl (zero, x, omega arith, is, holds)
Any-last P (z ∷ xs) y (suc k, x, inside, is, holds) =
    elim (Any-last P xs y (k, x, omega arith, is, holds)) [
      | inl (j, w, within, at, true_of) ↦ inl (suc j, w, omega arith, at, true_of)
      | inr last ↦ inr last
    ]

-- where a list with one line more is cut before a line: that line is the last, or stands in the
-- list
cut_of : (lines before after : List Line) (line item : Line)
    → lines ++ line ∷ [] ≡ before ++ item ∷ after
    → ((before ≡ lines) × (item ≡ line))
    ⊎ ((rest : List Line) × (lines ≡ before ++ item ∷ rest))
cut_of [] [] after line item e = inl (refl, cc)
cut_of [] (b ∷ []) after line item e = absurd (cc)
cut_of [] (b ∷ c ∷ before) after line item e = absurd (cc)
cut_of (l ∷ lines) [] after line item e = let first : l ≡ item = cc in
    inr (lines, ap (λ (h : Line). h ∷ lines) first)
cut_of (l ∷ lines) (b ∷ before) after line item e =
    let first : l ≡ b = cc in
    let tail : lines ++ line ∷ [] ≡ before ++ item ∷ after = cc in
    elim (cut_of lines before after line item tail) [
      | inl (all, last) ↦ inl (cc, last)
      | inr (rest, is) ↦ inr (rest, cc)
    ]

-- nothing can't be cut before a line
no_cut : (before after : List Line) (line : Line) → [] ≡ before ++ line ∷ after → ⊥
no_cut [] after line e = cc
no_cut (b ∷ before) after line e = cc

module _ (program : Program) (mode : Mode) (watch : ℕ) where
  -- no line at all may begin a report
  pub so_far_none : IsLegalSoFar program mode watch []
  so_far_none = record { each = λ before after line e. absurd (no_cut before after line e) }

  -- a line that may stand behind these gives a longer beginning
  pub so_far_then : (lines : List Line) (line : Line) → IsLegalSoFar program mode watch lines
      → IsLegalLine program mode watch lines line
      → IsLegalSoFar program mode watch (lines ++ line ∷ [])
  so_far_then lines line so_far legal = record {
    each = λ before after item e.
        elim (cut_of lines before after line item e) [
          | inl (all, last) ↦ rw (all, last) legal
          | inr (rest, is) ↦ so_far.each before rest item is
        ];
  }

  module _ (budget : ℕ) (body : List Line) (so_far : IsLegalSoFar program mode watch body)
      (inside : KeepsInside watch body) where
    -- where every candidate is settled, COMPLETE makes a report
    pub legal_complete : IsComplete program watch body
        → IsLegalReport program mode watch budget (body ++ Complete ∷ [])
    legal_complete ended = record {
      body = body;
      tests = [];
      verdict = Complete;
      parts = refl;
      so_far = so_far;
      inside = inside;
      ended = (ended, refl);
    }

    -- where each test that is left was spent, its lines and PARTIAL make a report
    pub legal_partial : (tests : List Line) → IsPartial program watch budget body tests
        → IsLegalReport program mode watch budget (body ++ (tests ++ Partial ∷ []))
    legal_partial tests ended = record {
      body = body;
      tests = tests;
      verdict = Partial;
      parts = refl;
      so_far = so_far;
      inside = inside;
      ended = ended;
    }

    -- where there is no answer set, INCOHERENT makes a report
    pub legal_incoherent : IsIncoherent program watch body
        → IsLegalReport program mode watch budget (body ++ Incoherent ∷ [])
    legal_incoherent ended = record {
      body = body;
      tests = [];
      verdict = Incoherent;
      parts = refl;
      so_far = so_far;
      inside = inside;
      ended = (ended, refl);
    }

    -- NOMEMORY makes a report at any time
    pub legal_no_memory : IsLegalReport program mode watch budget (body ++ NoMemory ∷ [])
    legal_no_memory = record {
      body = body;
      tests = [];
      verdict = NoMemory;
      parts = refl;
      so_far = so_far;
      inside = inside;
      ended = refl;
    }

-- without watchers there is nothing to ask of them
pub inside_unwatched : (lines : List Line) → KeepsInside 0 lines
inside_unwatched lines = λ watcher known. absurd (omega (arith, known.first, known.last))

pub watched_unwatched : (lines : List Line) → EachWatched 0 lines
watched_unwatched lines = λ watcher known. absurd (omega (arith, known.first, known.last))
