-- The text of lines grows with them.
use Rattle.std.proofs.Common.{◌≡◌, ℕ, List, [], ◌∷◌, ◌++◌, ◌∙◌, ap, append-nil}
use Rattle.std.proofs.lemmas.Grind.{flat_map-append}
use Rattle.ground_program.specs.declared.program.Named.{Named}
use Rattle.report.specs.declared.lines.Line.{Line}
use Rattle.report.specs.Text.{text_of_line, text_of_lines}

-- the text of two lists, one after the other
pub text_of_lines-append : (names : List Named) (lines others : List Line)
    → text_of_lines names (lines ++ others) ≡ text_of_lines names lines
    ++ text_of_lines names others
text_of_lines-append names lines others = flat_map-append (text_of_line names) lines others

-- the text of one line more
pub text_of_lines_push : (names : List Named) (lines : List Line) (line : Line)
    → text_of_lines names (lines ++ line ∷ []) ≡ text_of_lines names lines
    ++ text_of_line names line
text_of_lines_push names lines line =
    text_of_lines-append names lines (line ∷ [])
    ∙ ap (λ (text : List ℕ). text_of_lines names lines ++ text)
    (append-nil (text_of_line names line))
