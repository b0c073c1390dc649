use Rattle.run_words.proofs.ChoiceLemmas.{no_name, none_answer}
use Rattle.run_words.proofs.choice.read_choice.Goals as goal

pub returns-in_err-value : goal.returns-in_err-value
returns-in_err-value c =
    none_answer _ _ c.from_residual-in_err-value.result c.from_residual-in_err-value.ensures
    (no_name c.args.word.now c.in_default.ensures c.in_default-value_of.ensures
    c.in_err-value.ensures)
