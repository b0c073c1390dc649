-- A set is least exactly where no smaller one keeps the rules.
use Rattle.std.proofs.Common.{Bool, true, false, not, List, arith, refl, sym, true≢false}
use Rattle.std.specs.Prelude.{◌↔◌, IsTrue}
use Rattle.ground_program.specs.declared.program.Program.{Program}
use Rattle.ground_program.specs.Meaning.{KeepsAll, IsProperSubset, IsAnswerSet}
use Rattle.ground_program.proofs.MeaningLemmas.{SomeFails-from, fails-not_all}
use Rattle.plain_answer_sets.specs.Candidates.{IsCutFrom, SomeSmallerKeeps, IsReductModel}

pub model_of_answer : (program : Program) (set : List Bool) → IsAnswerSet program set
    → IsReductModel program set
model_of_answer program set answer =
    record { over = answer.over; compute = answer.compute; keeps = answer.keeps }

-- a proper subset that keeps the rules is a smaller keeper, and the other way round
subset_found : (program : Program) (set smaller : List Bool) → IsProperSubset smaller set
    → KeepsAll set smaller program.rules
    → SomeSmallerKeeps set program.rules set 0
subset_found program set smaller proper keeps =
    let cut : IsCutFrom set 0 smaller = record {
      positions = proper.positions;
      before = λ place below. absurd (omega (arith, below));
      inside = proper.inside;
    } in
    (smaller, record { cut = cut; other = proper.other; keeps = keeps })

found_breaks : (program : Program) (set : List Bool) → SomeSmallerKeeps set program.rules set 0
    → ¬ IsAnswerSet program set
found_breaks program set (part, keeper) answer =
    let proper : IsProperSubset part set = record {
      positions = keeper.cut.positions;
      inside = keeper.cut.inside;
      other = keeper.other;
    } in
    fails-not_all set part program.rules (answer.least part proper) keeper.keeps

answer_of : (program : Program) (set : List Bool) → IsReductModel program set
    → ¬ SomeSmallerKeeps set program.rules set 0
    → IsAnswerSet program set
answer_of program set model none = record {
  over = model.over;
  compute = model.compute;
  keeps = model.keeps;
  least =
      λ smaller proper. SomeFails-from set smaller program.rules
      (λ keeps. none (subset_found program set smaller proper keeps));
}

-- where no smaller set keeps the rules, a model of its reduct is an answer set, and only there
pub least_exactly : (program : Program) (set : List Bool) (found : Bool) → IsReductModel program set
    → (IsTrue found ↔ SomeSmallerKeeps set program.rules set 0)
    → (IsTrue (not found) ↔ IsAnswerSet program set)
least_exactly program set true model is = (
  λ never. absurd (true≢false (sym never)),
  λ answer. absurd (found_breaks program set (is.0 refl) answer),
)
least_exactly program set false model is =
    (λ told. answer_of program set model (λ some. true≢false (sym (is.1 some))), λ answer. refl)
