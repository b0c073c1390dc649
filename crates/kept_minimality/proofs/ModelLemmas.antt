-- Assignments that extend models of a normal form.
use Rattle.std.proofs.Common.{◌≡◌, ◌≤◌, ◌+◌, Bool, List, ◌++◌, length, map, take, None}
use Rattle.std.proofs.Common.{sym, ◌∙◌, subst, arith, length-append}
use Rattle.std.specs.Prelude.{All}
use Rattle.std.proofs.Math.Seq.{take-length}
use Rattle.std.proofs.lemmas.List.{length-map, take-append-le}
use Rattle.clause_store.specs.declared.literal.Lit.{Lit}
use Rattle.clause_store.specs.Clause.{HoldsIn, IsOver, Meets}
use Rattle.clause_store.specs.Trail.{Assigned, values_of}
use Rattle.clause_store.proofs.FrontLemmas.{holds_in_front}
use Rattle.normal_program.specs.declared.normal.Normal.{Normal}
use Rattle.normal_program.specs.Body.{body_holds}
use Rattle.normal_program.specs.Clauses.{base_clauses}
use Rattle.normal_program.specs.Limit.{IsNormal}
use Rattle.normal_program.specs.Models.{front_of, IsModelOf, set_of}
use Rattle.normal_program.specs.Normal.{extension, greatest_body_var}
use Rattle.normal_program.proofs.lemmas.Base.ModelLemmas.{base_clauses-make_models}
use Rattle.weight_propagator.specs.Gives.{IsQuiet}
use Rattle.kept_minimality.specs.Total.{IsTotalOver}
use Rattle.kept_minimality.proofs.QuietLemmas.{quiet_means}
use Rattle.kept_minimality.proofs.TotalLemmas.{total_assignment}

-- the set of an assignment that begins with its extension
pub set_of_extension : (normal : Normal) (set rest : List Bool) → length set ≡ normal.atoms + 1
    → set_of normal (extension normal set set ++ rest) ≡ set
set_of_extension normal set rest positions =
    let bodies = map (body_holds set set) normal.bodies in
    let low : normal.atoms + 1 ≤ length (set ++ bodies) =
    omega (arith, positions, length-append set bodies) in
    take-append-le (normal.atoms + 1) (set ++ bodies) rest low
    ∙ take-append-le (normal.atoms + 1) set bodies (omega (arith, positions))
    ∙ subst (λ n. take n set ≡ set) positions (take-length set)

-- and what it begins with
pub front_of_extension : (normal : Normal) (set rest : List Bool) → length set ≡ normal.atoms + 1
    → front_of normal (extension normal set set ++ rest) ≡ extension normal set set
front_of_extension normal set rest positions =
    let bodies = map (body_holds set set) normal.bodies in
    let whole : length (set ++ bodies) ≡ normal.atoms + 1 + length normal.bodies =
    omega (
      arith,
      positions,
      length-append set bodies,
      length-map normal.bodies (body_holds set set),
    ) in
    take-append-le (normal.atoms + 1 + length normal.bodies) (set ++ bodies) rest
    (omega (arith, whole))
    ∙ subst (λ n. take n (set ++ bodies) ≡ set ++ bodies) whole (take-length (set ++ bodies))

-- a clause over atoms and bodies that holds in the extension of a model holds where it is extended
pub holds_beyond : (normal : Normal) (values : List Bool) (clause : List Lit)
    → All (IsOver (greatest_body_var normal)) clause → IsModelOf normal values
    → HoldsIn (extension normal (set_of normal values) (set_of normal values)) clause
    → HoldsIn values clause
holds_beyond normal values clause over model holds =
    let count : normal.atoms + 1 + length normal.bodies ≡ greatest_body_var normal + 1 =
    omega arith in
    (holds_in_front (greatest_body_var normal) values clause over).1
    (subst (λ n. HoldsIn (take n values) clause) count
    (subst (λ front. HoldsIn front clause) (sym model.extends) holds))

-- a total trail that meets the base clauses, and on which no weight body gives a clause, is a model
pub total_model : (normal : Normal) (trail : Assigned) → IsNormal normal → IsTotalOver normal trail
    → Meets (values_of trail) (base_clauses normal) → IsQuiet None normal trail.steps
    → IsModelOf normal (values_of trail)
total_model normal trail is total meets quiet =
    base_clauses-make_models normal is (values_of trail)
    (total_assignment normal trail total) meets
    (quiet_means normal trail is total quiet)
