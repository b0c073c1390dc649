-- The last lines of a run, one after the other.
use Rattle.std.proofs.Common.{◌≡◌, ℕ, Bool, List, [], ◌∷◌, ◌++◌, refl, sym, Option, Ok, Err}
use Rattle.std.specs.Prelude.{Result, IsErr}
use Rattle.std.proofs.lemmas.Grind.{flat_map-append}
use Rattle.byte_edges.specs.Edges.{Writes}
use Rattle.byte_edges.proofs.CallerLemmas.{writes_fault, writes_longer, writes_same, writes_then}
use Rattle.ground_program.specs.declared.program.Named.{Named}
use Rattle.normal_program.specs.declared.spent.SpentTest.{SpentTest}
use Rattle.report.specs.declared.lines.Line.{Line}
use Rattle.report.specs.Text.{text_of_line, text_of_lines}
use Rattle.query_run.specs.declared.answering.Ended.{Ended}
use Rattle.report.specs.declared.lines.Line.TheVariants.{Partial}
use Rattle.normal_program.specs.declared.normal.Normal.{Normal}
use Rattle.master_record.specs.Told.{sizes_of}
use Rattle.master_record.specs.Verdicts.{AreSpent}
use Rattle.query_run.specs.Ending.{HasEnded, IsSpentEnd}
use Rattle.query_run.specs.Way.{Left, sizes_before}

module _ {K : Type 0} {written : K → Option (List ℕ)} {faults : K → ℕ} {names : List Named}
    {status : ℕ} {spent : List SpentTest} where
  -- first lines weren't written whole
  pub ended_fault : {T E F : Type 0} {old new : K} {error : E} {result : Result Ended F}
      (first rest : List Line) → IsErr result
      → Writes {T = T} written faults old new (text_of_lines names first) (Err error)
      → HasEnded written faults old new names (first ++ rest) status spent result
  ended_fault {result = Ok told} first rest is_err writes = cc
  ended_fault {result = Err other} first rest is_err writes = record {
    writes = writes_same (sym (flat_map-append (text_of_line names) first rest))
        (writes_longer (text_of_lines names rest) (writes_fault refl writes));
    given = tt;
  }

  -- first lines were written, and then the rest
  pub ended_then : {T E F : Type 0} {old mid new : K} {value : T} {result : Result Ended F}
      (first rest : List Line)
      → Writes {E = E} written faults old mid (text_of_lines names first) (Ok value)
      → HasEnded written faults mid new names rest status spent result
      → HasEnded written faults old new names (first ++ rest) status spent result
  ended_then first rest writes ended = record {
    writes = writes_same (sym (flat_map-append (text_of_line names) first rest))
        (writes_then writes ended.writes);
    given = ended.given;
  }

-- an end by the parts of a run is one by what contracts see of it
pub spent_end : {K E : Type 0} {written : K → Option (List ℕ)} {faults : K → ℕ} {old new : K}
    {result : Result Ended E} (left : Left) (tests : ℕ → List Line) (spent : List SpentTest)
    (normal : Normal) (budget : ℕ) (sized : Bool) (lower upper : ℕ)
    → left.books.normal ≡ normal → left.books.budget ≡ budget → left.sized ≡ sized
    → (sizes_of left.books.pair).lower ≡ lower → (sizes_of left.books.pair).upper ≡ upper
    → AreSpent left.books spent
    → HasEnded written faults old new normal.names
    (sizes_before sized lower upper ++ (tests budget ++ Partial ∷ [])) 1 spent result
    → IsSpentEnd written faults old new left (tests left.books.budget) result
spent_end {written = written} {faults = faults} {old = old} {new = new} {result = result} left tests
    spent normal budget sized lower upper same_normal same_budget same_sized same_lower same_upper are
    ended = record {
      spent = spent;
      are = are;
      ended = rw (same_normal, same_budget, same_sized, same_lower, same_upper) ended;
    }
