use Rattle.std.proofs.Common.{sym, ◌∙◌}
use Rattle.report_reader.proofs.FieldLemmas.{none_by_utf8, none_by_parse, number_same}
use Rattle.report_reader.proofs.FieldLemmas.{number_other}
use Rattle.report_reader.proofs.field_text.number_of_text.Goals as goal

pub returns-in_default : goal.returns-in_default
returns-in_default c = none_by_utf8 c.args.text.now c.in_default.ensures.cases.0

pub returns-in_default-parse : goal.returns-in_default-parse
returns-in_default-parse c =
    none_by_parse c.args.text.now c.in-Ok.digits.now c.parse.result c.in-Ok.ensures.cases.0
    c.parse.ensures.value.0 c.in_default-parse.not-Ok

pub returns-then-eq : goal.returns-then-eq
returns-then-eq c =
    number_same c.args.text.now c.in-Ok.digits.now c.as_bytes.result.now c.in-Ok-parse.number
    c.parse.result c.parse.ensures.value.0 c.in-Ok-parse.is
    (c.as_bytes.ensures.value ∙ c.format.ensures.text) (sym c.eq.ensures ∙ c.if-eq.true)

pub returns-else-eq : goal.returns-else-eq
returns-else-eq c =
    number_other c.args.text.now c.in-Ok.digits.now c.as_bytes.result.now c.in-Ok-parse.number
    c.parse.result c.in-Ok.ensures.cases.0 c.parse.ensures.value.0 c.in-Ok-parse.is
    (c.as_bytes.ensures.value ∙ c.format.ensures.text) (sym c.eq.ensures ∙ c.if-eq.false)
