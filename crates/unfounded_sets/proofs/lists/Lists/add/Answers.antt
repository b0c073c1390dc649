use Rattle.std.proofs.Common.{◌≡◌, ◌++◌, ◌∷◌, [], ◌∙◌, ap, ap₂, length}
use Rattle.unfounded_sets.specs.declared.lists.Span.{Span}
use Rattle.unfounded_sets.proofs.PartLemmas.{parts_push}
use Rattle.unfounded_sets.proofs.lists.Lists.add.Goals as goal
use Rattle.unfounded_sets.proofs.lists.Lists.add.Goals.{After-push_reserved}

-- the places were put behind, and their part behind the parts
entries_are : (c : After-push_reserved)
    → c.extend_from_slice.new.self.items ≡ c.self.inside.entries.items ++ c.args.list.now
entries_are c = c.in_ok-extend_from_slice.ensures.items

spans_are : (c : After-push_reserved) → c.push_reserved.new.self.items
    ≡ c.self.inside.spans.items
    ++ record {
      start = length c.self.inside.entries.items;
      end = length (c.self.inside.entries.items ++ c.args.list.now);
    } ∷ []
spans_are c =
    c.push_reserved.ensures.items
    ∙ ap₂ (λ spans span. spans ++ span ∷ []) c.in_ok-reserve.ensures.items
    (ap₂ (λ start end. let span : Span = record { start = start; end = end } in span)
    (c.len-start.ensures ∙ c.self.inside.entries.ok.0)
    (c.len-end.ensures ∙ c.extend_from_slice.new.self.ok.0 ∙ ap length (entries_are c)))

pub returns-clause-ok : goal.returns-clause-ok
returns-clause-ok c =
    rw (entries_are c, spans_are c, ← c.self.view_is)
    (parts_push c.self.inside.entries.items c.args.list.now c.self.inside.spans.items
    c.self.invariant)
