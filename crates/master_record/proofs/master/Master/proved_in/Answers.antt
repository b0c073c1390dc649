use Rattle.std.proofs.Common.{◌≡◌, ℕ, List, ap, ◌∙◌, rules}
use Rattle.std.specs.Prelude.{filter}
use Rattle.std.proofs.lemmas.Fn.{filter_same}
use Rattle.ground_program.specs.declared.program.Mode.{Mode}
use Rattle.master_record.specs.Books.{Books, open_list}
use Rattle.master_record.specs.Merging.{is_proved_in}
use Rattle.master_record.proofs.master.Master.proved_in.Goals as goal

pub returns : goal.returns
returns c =
    let mode : Mode = c.self.inside.mode in
    let pair = c.args.pair.now in
    let same : mode ≡ c.args.self.now.mode = ap (λ (b : Books). b.mode) c.self.view_is in
    filter_same _ (is_proved_in mode pair) _ (λ x b q k. search rules) _ _
    c.retain.ensures.filtered
    ∙ ap (λ (xs : List ℕ). filter (is_proved_in mode pair) xs) c.in_ok-cands.ensures
    ∙ ap (λ (m : Mode). filter (is_proved_in m pair) (open_list c.args.self.now)) same
