use Rattle.std.proofs.Common.{rules, ◌≡◌, ◌≢◌, map, string_bytes, suc, take, drop, subst, sym, ◌∙◌}
use Rattle.run_words.specs.declared.choice.Choice.{Choice}
use Rattle.run_words.specs.Words.{IsChoice, choice_word, AreOptions}
use Rattle.run_words.proofs.OptionLemmas.{place_split, place_more, other_word, second_word}
use Rattle.run_words.proofs.OptionLemmas.{one_more, refused}
use Rattle.run_words.proofs.chosen.read_options.Goals as goal

pub returns-in_err-choice : goal.returns-in_err-choice
returns-in_err-choice c =
    let words = map string_bytes c.args.words.now in
    let at = c.loop-word.word-index in
    let word = string_bytes c.word-item.result in
    let none : (choice : Choice) → IsChoice choice → c.deref.result.now ≢ choice_word choice =
    search rules in
    refused c.from_residual.result words c.from_residual.ensures.0
    (λ chosen options.
    other_word (take at words) (drop (suc at) words) word
    (λ choice is same. none choice is (c.deref.ensures ∙ same)) options.choices options.taken
    (place_split string_bytes c.args.words.now at c.word-item.result c.loop-word-test.true
    c.word-item.is ∙ options.whole))

pub returns-in_err-take : goal.returns-in_err-take
returns-in_err-take c =
    let words = map string_bytes c.args.words.now in
    let at = c.loop-word.word-index in
    let word = string_bytes c.word-item.result in
    let choice = c.in_ok-choice.choice in
    let own : IsChoice choice × (c.deref.result.now ≡ choice_word choice) = search rules in
    refused c.from_residual-in_err-take.result words c.from_residual-in_err-take.ensures.0
    (λ chosen options.
    second_word (take at words) (drop (suc at) words) word choice c.loop-word.chosen chosen
    c.loop-word.invariant own.0 (sym c.deref.ensures ∙ own.1)
    (c.in_err-take.ensures c.loop-word.invariant.choices c.loop-word.invariant.once)
    (subst (λ xs. AreOptions xs chosen)
    (sym (place_split string_bytes c.args.words.now at c.word-item.result c.loop-word-test.true
    c.word-item.is)) options))

pub loop-word-preserved : goal.loop-word-preserved
loop-word-preserved c =
    let words = map string_bytes c.args.words.now in
    let at = c.loop-word.word-index in
    let word = string_bytes c.word-item.result in
    let choice = c.in_ok-choice.choice in
    let own : IsChoice choice × (c.deref.result.now ≡ choice_word choice) = search rules in
    subst (λ xs. AreOptions xs c.take.new.self)
    (sym (place_more string_bytes c.args.words.now at c.word-item.result c.loop-word-test.true
    c.word-item.is))
    (one_more (take at words) word choice c.loop-word.chosen c.take.new.self c.loop-word.invariant
    own.0 (sym c.deref.ensures ∙ own.1)
    (c.in_ok-take.ensures c.loop-word.invariant.choices c.loop-word.invariant.once))
