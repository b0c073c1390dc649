-- True lines are over the candidates that there are.
use Rattle.std.proofs.Common.{◌≡◌, ◌≤◌, ℕ, List, length, get_or, sym, subst}
use Rattle.std.specs.Prelude.{All}
use Rattle.ground_program.specs.declared.program.Mode.{Mode}
use Rattle.normal_program.specs.declared.normal.Normal.{Normal}
use Rattle.report.specs.declared.lines.Line.{Line}
use Rattle.report.specs.declared.lines.Line.TheVariants.{Answer, SettledIn, SettledOut, Sizes}
use Rattle.report.specs.declared.lines.Line.TheVariants.{Watch, Unsettled, Unknown, Complete}
use Rattle.report.specs.declared.lines.Line.TheVariants.{Partial, Incoherent, NoMemory, Refused}
use Rattle.master_record.specs.Course.{IsLineOver}
use Rattle.master_record.specs.Merging.{IsTrueLine}

line_over : (normal : Normal) (mode : Mode) (line : Line) → IsTrueLine normal mode line
    → IsLineOver (length normal.names) line
line_over normal mode (Answer number members) holds = tt
line_over normal mode (SettledIn cand by) holds = (holds.0.first, holds.0.last)
line_over normal mode (SettledOut cand by) holds = (holds.0.first, holds.0.last)
line_over normal mode (Sizes lower upper) holds = tt
line_over normal mode (Watch watcher lower upper) holds = tt
line_over normal mode (Unsettled cand units) holds = tt
line_over normal mode (Unknown units) holds = tt
line_over normal mode Complete holds = tt
line_over normal mode Partial holds = tt
line_over normal mode Incoherent holds = tt
line_over normal mode NoMemory holds = tt
line_over normal mode (Refused one_line why value) holds = tt

pub lines_over : (normal : Normal) (mode : Mode) (count : ℕ) (lines : List Line)
    → count ≡ length normal.names → All (IsTrueLine normal mode) lines
    → All (IsLineOver count) lines
lines_over normal mode count lines same holds =
    subst (λ n. All (IsLineOver n) lines) (sym same)
    (λ k d within. line_over normal mode (get_or lines k d) (holds k d within))
