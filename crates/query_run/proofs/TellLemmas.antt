-- The lines of rounds, one round after the other.
use Rattle.std.proofs.Common.{◌≡◌, ◌≢◌, ◌≤◌, ◌+◌, ◌||◌, ℕ, Bool}
use Rattle.std.proofs.Common.{true, false, List, [], ◌∷◌, ◌++◌, length, refl, sym, ap, subst}
use Rattle.std.proofs.Common.{◌∙◌, arith, true≢false, append_assoc, append-nil}
use Rattle.std.proofs.Common.{Some, cond}
use Rattle.std.specs.Prelude.{count_by, map}
use Rattle.std.specs.List.{flat_map, list_any}
use Rattle.ground_program.specs.declared.program.Named.{Named}
use Rattle.report.specs.Text.{text_of_line, text_of_lines}
use Rattle.std.proofs.lemmas.List.Elements.{filter_map-append}
use Rattle.std.proofs.lemmas.List.Sums.{sum_by-append, sum_by-cons}
use Rattle.report.specs.declared.lines.Line.{Line}
use Rattle.report.specs.declared.lines.Line.TheVariants.{Answer, SettledIn, SettledOut, Sizes}
use Rattle.report.specs.declared.lines.Line.TheVariants.{Watch, Unsettled, Unknown, Complete}
use Rattle.report.specs.declared.lines.Line.TheVariants.{Partial, Incoherent, NoMemory, Refused}
use Rattle.report.specs.Legal.{EndsSized, Extent, all_sizes, sizes_in, is_in, is_out, last_of}
use Rattle.normal_program.specs.declared.normal.Normal.{Normal}
use Rattle.master_record.specs.Told.{IsToldBy, IsResized, sizes_of}
use Rattle.master_record.proofs.LawLemmas.{sizes_told}
use Rattle.master_record.proofs.ResizedLemmas.{resized_by}
use Rattle.query_run.specs.Way.{Way, HasGone, Stands, settles, sizes_line, with_sizes, first_sizes}

-- what a truth value adds to a count
abbrev counted : Bool → ℕ
counted b = cond b 1 0

-- counts of two lists
pub count_both : (p : Line → Bool) (xs ys : List Line)
    → count_by p (xs ++ ys) ≡ count_by p xs + count_by p ys
count_both p xs ys = sum_by-append (λ (line : Line). counted (p line)) xs ys

-- lines that settle something
some_settle : (lines : List Line) → list_any settles lines ≡ true
    → 1 ≤ count_by is_in lines + count_by is_out lines
some_settle [] is = absurd (true≢false (sym is))
some_settle (line ∷ lines) is = by_line (λ rest. some_settle lines rest) line is
  where
    Rest : Type 0
    Rest = list_any settles lines ≡ true → 1 ≤ count_by is_in lines + count_by is_out lines

    more_in : (line : Line) → count_by is_in (line ∷ lines)
        ≡ counted (is_in line) + count_by is_in lines
    more_in line = sum_by-cons (λ (one : Line). counted (is_in one)) line lines

    more_out : (line : Line) → count_by is_out (line ∷ lines)
        ≡ counted (is_out line) + count_by is_out lines
    more_out line = sum_by-cons (λ (one : Line). counted (is_out one)) line lines

    later : Rest → (line : Line) → list_any settles lines ≡ true
        → 1 ≤ count_by is_in (line ∷ lines) + count_by is_out (line ∷ lines)
    later below line rest = omega (arith, below rest, more_in line, more_out line)

    by_line : Rest → (line : Line) → list_any settles (line ∷ lines) ≡ true
        → 1 ≤ count_by is_in (line ∷ lines) + count_by is_out (line ∷ lines)
    by_line below (SettledIn cand by) has = omega (arith, more_in (SettledIn cand by))
    by_line below (SettledOut cand by) has = omega (arith, more_out (SettledOut cand by))
    by_line below (Answer number members) has = later below (Answer number members) has
    by_line below (Sizes low up) has = later below (Sizes low up) has
    by_line below (Watch watcher low up) has = later below (Watch watcher low up) has
    by_line below (Unsettled cand units) has = later below (Unsettled cand units) has
    by_line below (Unknown units) has = later below (Unknown units) has
    by_line below Complete has = later below Complete has
    by_line below Partial has = later below Partial has
    by_line below Incoherent has = later below Incoherent has
    by_line below NoMemory has = later below NoMemory has
    by_line below (Refused number why value) has = later below (Refused number why value) has

-- lines that settle nothing
none_settle : (lines : List Line) → list_any settles lines ≡ false
    → (count_by is_in lines ≡ 0) × (count_by is_out lines ≡ 0)
none_settle [] is = (refl, refl)
none_settle (line ∷ lines) is = by_line (λ rest. none_settle lines rest) line is
  where
    Rest : Type 0
    Rest = list_any settles lines ≡ false
        → (count_by is_in lines ≡ 0) × (count_by is_out lines ≡ 0)

    more_in : (line : Line) → count_by is_in (line ∷ lines)
        ≡ counted (is_in line) + count_by is_in lines
    more_in line = sum_by-cons (λ (one : Line). counted (is_in one)) line lines

    more_out : (line : Line) → count_by is_out (line ∷ lines)
        ≡ counted (is_out line) + count_by is_out lines
    more_out line = sum_by-cons (λ (one : Line). counted (is_out one)) line lines

    later : Rest → (line : Line) → is_in line ≡ false → is_out line ≡ false
        → list_any settles lines ≡ false
        → (count_by is_in (line ∷ lines) ≡ 0) × (count_by is_out (line ∷ lines) ≡ 0)
    later below line no_in no_out rest =
        let both = below rest in (
          omega (arith, both.0, more_in line, ap counted no_in),
          omega (arith, both.1, more_out line, ap counted no_out),
        )

    by_line : Rest → (line : Line) → list_any settles (line ∷ lines) ≡ false
        → (count_by is_in (line ∷ lines) ≡ 0) × (count_by is_out (line ∷ lines) ≡ 0)
    by_line below (SettledIn cand by) has = absurd (true≢false has)
    by_line below (SettledOut cand by) has = absurd (true≢false has)
    by_line below (Answer number members) has = later below (Answer number members) refl refl has
    by_line below (Sizes low up) has = later below (Sizes low up) refl refl has
    by_line below (Watch watcher low up) has = later below (Watch watcher low up) refl refl has
    by_line below (Unsettled cand units) has = later below (Unsettled cand units) refl refl has
    by_line below (Unknown units) has = later below (Unknown units) refl refl has
    by_line below Complete has = later below Complete refl refl has
    by_line below Partial has = later below Partial refl refl has
    by_line below Incoherent has = later below Incoherent refl refl has
    by_line below NoMemory has = later below NoMemory refl refl has
    by_line below (Refused number why value) has = later below (Refused number why value) refl refl has

-- the lines of one more round stand behind those before
module _ (told more : List Line) (old new : Way) (stands : Stands told old)
    (gone : HasGone old more new) where
  tells : IsToldBy (told ++ more) new.books
  tells = gone.tells told stands.tells

  same_names : length new.books.normal.names ≡ length old.books.normal.names
  same_names = ap (λ (n : Normal). length n.names) gone.same.normal

  with_pair : list_any settles more ≡ true
      → Stands (told ++ (more ++ sizes_line new.books ∷ [])) (record new { sized = true })
  with_pair some =
      let resized : IsResized (told ++ more) new.books =
      resized_by told more old.books new.books same_names stands.tells tells gone.unsized
      (some_settle more some) in
      let line : Line = sizes_line new.books in
      let parts : told ++ (more ++ line ∷ []) ≡ (told ++ more) ++ line ∷ [] =
      sym (append_assoc told more (line ∷ [])) in
      record {
        tells = subst (λ (xs : List Line). IsToldBy xs new.books) (sym parts)
            (sizes_told (told ++ more) new.books tells resized);
        ended = λ is. record {
          before = told ++ more;
          after = [];
          sizes = sizes_of new.books.pair;
          parts = parts;
          settled_in = refl;
          settled_out = refl;
        };
        begun = λ is. absurd (true≢false is);
      }

  without_pair : list_any settles more ≡ false → (sized : Bool) → old.sized ≡ sized
      → Stands (told ++ more) (record new { sized = sized })
  without_pair none sized is =
      let nothing = none_settle more none in
      record {
        tells = tells;
        ended = λ now.
            let was : EndsSized told = stands.ended (is ∙ now) in
            record {
              before = was.before;
              after = was.after ++ more;
              sizes = was.sizes;
              parts =
                  ap (λ (xs : List Line). xs ++ more) was.parts
                  ∙ append_assoc was.before (Sizes was.sizes.lower was.sizes.upper ∷ was.after) more;
              settled_in = omega (arith, count_both is_in was.after more, was.settled_in, nothing.0);
              settled_out = omega (arith, count_both is_out was.after more, was.settled_out, nothing.1);
            };
        begun = λ now.
            let was = stands.begun (is ∙ now) in (
              filter_map-append sizes_in told more
                  ∙ ap (λ (xs : List Extent). xs ++ all_sizes more) was.0 ∙ gone.unsized,
              omega (arith, count_both is_in told more, was.1, nothing.0),
              omega (arith, count_both is_out told more, was.2, nothing.1),
            );
      }

  pub stands_then : Stands (told ++ with_sizes new.books more)
      (record new { sized = old.sized || list_any settles more })
  stands_then = by_more (list_any settles more) refl old.sized refl
    where
      both : (sized : Bool) → list_any settles more ≡ true
          → Stands (told ++ (more ++ sizes_line new.books ∷ [])) (record new { sized = sized || true })
      both true some = with_pair some
      both false some = with_pair some

      either : (sized : Bool) → list_any settles more ≡ false → old.sized ≡ sized
          → Stands (told ++ (more ++ [])) (record new { sized = sized || false })
      either true none is =
          subst (λ (xs : List Line). Stands (told ++ xs) (record new { sized = true }))
          (sym (append-nil more)) (without_pair none true is)
      either false none is =
          subst (λ (xs : List Line). Stands (told ++ xs) (record new { sized = false }))
          (sym (append-nil more)) (without_pair none false is)

      by_more : (b : Bool) → list_any settles more ≡ b → (sized : Bool) → old.sized ≡ sized
          → Stands (told ++ with_sizes new.books more)
          (record new { sized = old.sized || list_any settles more })
      by_more true some sized is =
          rw (some, is) (both sized some)
      by_more false none sized is = rw (none, is) (either sized none is)

-- ---- the PAIR line before a verdict

module _ (told : List Line) (way : Way) (stands : Stands told way) where
  unresized : all_sizes told ≡ [] → IsResized told way.books
  unresized none is =
      none_last (subst (λ (xs : List Extent). last_of xs ≡ Some (sizes_of way.books.pair)) none is)
    where
      none_last : last_of [] ≢ Some (sizes_of way.books.pair)
      none_last e = cc

  pub sized_told : IsToldBy (told ++ first_sizes way) way.books
  sized_told = by_sized way.sized refl
    where
      by_sized : (b : Bool) → way.sized ≡ b → IsToldBy (told ++ first_sizes way) way.books
      by_sized true is =
          rw is (subst (λ (xs : List Line). IsToldBy xs way.books) (sym (append-nil told)) stands.tells)
      by_sized false is =
          rw is (sizes_told told way.books stands.tells (unresized (stands.begun is).0))

  pub sized_ends : EndsSized (told ++ first_sizes way)
  sized_ends = by_sized way.sized refl
    where
      by_sized : (b : Bool) → way.sized ≡ b → EndsSized (told ++ first_sizes way)
      by_sized true is = rw is (subst EndsSized (sym (append-nil told)) (stands.ended is))
      by_sized false is =
          rw is
          (record {
            before = told;
            after = [];
            sizes = sizes_of way.books.pair;
            parts = refl;
            settled_in = refl;
            settled_out = refl;
          })

-- the text of the lines of open candidates
pub open_text : (names : List Named) (budget : ℕ) (cands : List ℕ)
    → flat_map (λ (cand : ℕ). text_of_line names (Unsettled cand budget)) cands
    ≡ text_of_lines names (map (λ (cand : ℕ). Unsettled cand budget) cands)
open_text names budget [] = refl
open_text names budget (cand ∷ cands) =
    ap (λ (rest : List ℕ). text_of_line names (Unsettled cand budget) ++ rest)
    (open_text names budget cands)
