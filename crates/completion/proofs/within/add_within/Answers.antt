use Rattle.std.proofs.Common.{map, flat_map, [], ◌∷◌, ◌++◌}
use Rattle.normal_program.specs.Clauses.{negative, alone, numbered_bodies, rule_clauses}
use Rattle.normal_program.specs.Spent.{atoms_in, atoms_outside, inner_body_clauses}
use Rattle.normal_program.specs.Spent.{inner_choice_clauses}
use Rattle.completion.proofs.AddsLemmas.{Adds-stopped, Adds-then, stopped_before}
use Rattle.completion.proofs.within.add_within.Goals as goal

pub returns-in_err-add_kept_rules : goal.returns-in_err-add_kept_rules
returns-in_err-add_kept_rules c =
    let normal = c.args.normal.now in
    let set = c.args.set.now in
    Adds-stopped c.from_residual.result c.args.store.now c.add_kept_rules.new.store _
    c.from_residual.ensures.0
    (stopped_before c.args.store.now c.add_kept_rules.new.store
    (map (λ atom. alone (negative atom)) (atoms_outside normal set)
    ++ map negative (atoms_in normal set) ∷ []
    ++ flat_map (inner_body_clauses normal set) (numbered_bodies normal)
    ++ flat_map (rule_clauses normal) normal.rules)
    (flat_map (inner_choice_clauses normal set) normal.rules) c.in_err-add_kept_rules.ensures)

pub returns : goal.returns
returns c =
    let normal = c.args.normal.now in
    let set = c.args.set.now in
    Adds-then c.add_choices.result c.args.store.now c.add_kept_rules.new.store
    c.add_choices.new.store
    (map (λ atom. alone (negative atom)) (atoms_outside normal set)
    ++ map negative (atoms_in normal set) ∷ []
    ++ flat_map (inner_body_clauses normal set) (numbered_bodies normal)
    ++ flat_map (rule_clauses normal) normal.rules)
    (flat_map (inner_choice_clauses normal set) normal.rules) c.in_ok-add_kept_rules.ensures
    c.add_choices.ensures
