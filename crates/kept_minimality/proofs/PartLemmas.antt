-- The part of a pair, as it stands on a trail.
use Rattle.std.proofs.Common.{◌≡◌, ◌≤◌, ◌+◌, ◌-◌, ℕ, Bool, List, [], ◌∷◌, ◌++◌, take}
use Rattle.std.proofs.Common.{drop, sym, ap, ◌∙◌, subst, arith}
use Rattle.std.proofs.lemmas.List.{drop-take, get_or-drop, length-drop, take-take}
use Rattle.item_list.proofs.ListLemmas.{take_more_read}
use Rattle.clause_store.specs.Trail.{Assigned, is_yes, value_of, values_of}
use Rattle.normal_program.specs.Clauses.{positive}
use Rattle.kept_minimality.proofs.TotalLemmas.{length-values, value_at}

-- what stands behind the whole is the same within the atoms
pub front_part : (few many : ℕ) (values : List Bool) → few + few + 1 ≤ many
    → take few (drop (few + 1) (take many values)) ≡ take few (drop (few + 1) values)
front_part few many values low =
    let rest = many - (few + 1) in
    subst (λ size. take few (drop (few + 1) (take size values)) ≡ take few (drop (few + 1) values))
    (omega (arith, low))
    (ap (take few) (drop-take (few + 1) rest values)
    ∙ take-take few rest (drop (few + 1) values) (omega (arith, low)))

-- one value more
pub next_part : (trail : Assigned) (atoms at : ℕ) (value : Bool) → atoms + 1 + at ≤ trail.vars
    → value ≡ is_yes (value_of trail.steps (positive (atoms + 1 + at)))
    → take at (drop (atoms + 1) (values_of trail)) ++ value ∷ []
    ≡ take (at + 1) (drop (atoms + 1) (values_of trail))
next_part trail atoms at value low is =
    sym
    (take_more_read (drop (atoms + 1) (values_of trail)) at value
    (omega (arith, low, length-values trail, length-drop (atoms + 1) (values_of trail)))
    (is ∙ sym (value_at trail (atoms + 1 + at) value low)
    ∙ sym (get_or-drop (atoms + 1) (values_of trail) at value)))
