-- Local clauses hold in each assignment that extends an answer set.
use Rattle.std.proofs.Common.{◌≡◌, ◌+◌, Bool, false, not, List, [], ◌∷◌, ◌++◌, map, length}
use Rattle.std.proofs.Common.{drop, sym, ap, ◌∙◌, subst, arith}
use Rattle.std.proofs.lemmas.List.{take-append-drop, get_or_append_left}
use Rattle.std.proofs.lemmas.Option.{get_or_from_slice_get}
use Rattle.ground_program.specs.Meaning.{IsSetOver}
use Rattle.clause_store.specs.declared.literal.Lit.{Lit}
use Rattle.clause_store.specs.Clause.{HoldsIn}
use Rattle.normal_program.specs.declared.normal.Normal.{Normal}
use Rattle.normal_program.specs.Body.{body_holds}
use Rattle.normal_program.specs.Normal.{extension}
use Rattle.normal_program.specs.Clauses.{negative, alone, AreChosen}
use Rattle.normal_program.specs.Models.{set_of}
use Rattle.normal_program.proofs.RangeLemmas.{IsNormal-in_range}
use Rattle.normal_program.proofs.lemmas.Base.TruthLemmas.{makes_true-negative, HoldsIn-here}
use Rattle.normal_program.proofs.lemmas.Entailed.GroundedLemmas.{local-entailed}
use Rattle.coherence_test.specs.Laws.{LocalClausesHold}

-- disjunctions that hold wherever place 0 is false, one for each value
abbrev free : List Bool → List (List Lit)
free rest = map (λ on. alone (negative 0)) rest

free_chosen : (values : List Bool) → HoldsIn values (alone (negative 0)) → (rest : List Bool)
    → AreChosen values (free rest) rest
free_chosen values holds [] = tt
free_chosen values holds (on ∷ rest) = (λ chosen. holds, free_chosen values holds rest)

-- place 0 of an extension is false
free_holds : (normal : Normal) (set : List Bool) → IsSetOver normal.atoms set
    → HoldsIn (extension normal set set) (alone (negative 0))
free_holds normal set over =
    HoldsIn-here (extension normal set set) (negative 0) []
    (makes_true-negative (extension normal set set) 0
    ∙ ap not
    (get_or_append_left set (map (body_holds set set) normal.bodies) false 0
    (omega (arith, over.positions))
    ∙ get_or_from_slice_get set 0 false false over.no_atom))

pub local_holds : LocalClausesHold
local_holds normal clause values is local model =
    let set = set_of normal values in
    let size = normal.atoms + 1 + length normal.bodies in
    let rest = drop size values in
    let whole : extension normal set set ++ rest ≡ values =
    ap (λ front. front ++ rest) (sym model.extends) ∙ take-append-drop size values in
    subst (λ all. HoldsIn all clause) whole
    (local-entailed normal (IsNormal-in_range normal is) clause (free rest) local set rest
    model.answers
    (free_chosen (extension normal set set) (free_holds normal set model.answers.over) rest))
