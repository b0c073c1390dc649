use Rattle.std.proofs.Common.{◌∙◌}
use Rattle.plain_units.proofs.UnitLemmas.{absorbed_says}
use Rattle.plain_units.proofs.unit_lists.absorbs_at.Goals as goal

pub returns : goal.returns
returns c =
    absorbed_says _ _ _ _ _ _ _ (c.as_slice.ensures ∙ c.in_ok-given.ensures) c.as_slice-2.ensures
    c.in_ok-known.ensures c.is_known_or_refuted.ensures
