-- The models of a pair program are its answer sets, since any of its atoms may be true by itself.
use Rattle.std.proofs.Common.{◌≤◌, ℕ, Bool, false, List, [], length}
use Rattle.std.proofs.Common.{get_or, sym, ap, ◌∙◌, subst, arith, ⊎_elim, append-nil}
use Rattle.std.specs.Prelude.{All}
use Rattle.std.proofs.lemmas.Bool.{both_ways, cases_eq, cases_lt}
use Rattle.std.proofs.lemmas.List.{get_or_past}
use Rattle.std.proofs.lemmas.List.Elements.{All-contains}
use Rattle.std.proofs.lemmas.Option.{get_or_from_slice_get}
use Rattle.item_list.proofs.ListLemmas.{AllZip-All}
use Rattle.ground_program.specs.declared.program.Kind.TheVariants.{Choice}
use Rattle.ground_program.specs.declared.program.Rule.{Rule}
use Rattle.ground_program.specs.declared.program.Program.{Program}
use Rattle.ground_program.specs.Meaning.{has, HeadHolds, IsAnswerSet, IsIn, IsProperSubset}
use Rattle.ground_program.specs.Meaning.{IsSetOver, Keeps, KeepsAll}
use Rattle.ground_program.specs.Models.{IsModel}
use Rattle.ground_program.proofs.MeaningLemmas.{SomeFails-from}
use Rattle.ground_program.proofs.SetLemmas.{same_sets}
use Rattle.clause_store.specs.Clause.{AreOver, HoldsIn, Meets}
use Rattle.normal_program.specs.declared.normal.Normal.{Normal}
use Rattle.normal_program.specs.Clauses.{AreEntailed, base_clauses}
use Rattle.normal_program.specs.Models.{IsModelOf, set_of}
use Rattle.normal_program.specs.Normal.{extension, greatest_body_var, IsAnswerSetN, KeepsN}
use Rattle.normal_program.specs.Normal.{KeepsAllN, MeetsComputeN, StandsFor}
use Rattle.normal_program.proofs.NormalLemmas.{Keeps-from_normal, SameAnswerSets-normal_form}
use Rattle.pair_program.specs.Pairs.{IsFreeBy}
use Rattle.kept_minimality.specs.Kept.{IsPairForm}
use Rattle.kept_minimality.proofs.ModelLemmas.{front_of_extension, holds_beyond, set_of_extension}

-- an atom in a set over some is one of them
atom_in : (atoms : ℕ) (set : List Bool) → IsSetOver atoms set → (atom : ℕ) → IsIn set atom
    → (1 ≤ atom) × (atom ≤ atoms)
atom_in atoms set over atom inside = (
  ⊎_elim
      (λ zero. absurd
      (both_ways (has set atom)
      (ap (has set) zero ∙ get_or_from_slice_get set 0 false false over.no_atom) inside))
      (λ other. omega (arith, other)) (cases_eq atom 0),
  ⊎_elim (λ low. omega (arith, low, over.positions))
      (λ past. absurd (both_ways (has set atom) (get_or_past set atom false past) inside))
      (cases_lt atom (length set)),
)

-- a set that keeps the reduct keeps an atom that may be true by itself
kept_free : (by set : List Bool) (rule : Rule) (atom : ℕ) → IsFreeBy atom rule
    → Keeps by set rule → IsIn by atom → IsIn set atom
kept_free by set rule atom free keeps inside =
    let heads : HeadHolds Choice by set rule.heads =
    subst (λ kind. HeadHolds kind by set rule.heads) free.kind
    (keeps (omega (arith, free.bound))) in
    All-contains (λ head. IsIn by head → IsIn set head) rule.heads atom heads free.head inside

module _ (normal pair : Normal) (form : IsPairForm normal pair) where
  abbrev program : Program
  program = form.program

  -- no proper subset keeps the reduct
  none_smaller : (all : List Bool) → IsSetOver program.atoms all → (part : List Bool)
      → IsProperSubset part all → ¬ KeepsAll all part program.rules
  none_smaller all over part proper keeps =
      proper.other
      (same_sets part all proper.positions proper.inside
      (λ atom inside.
      let range = atom_in program.atoms all over atom inside in
      let some = form.pairs.free atom range.0 range.1 in
      kept_free all part some.1 atom some.4
      (subst (Keeps all part) some.3 (keeps some.0 some.1 some.2)) inside))

  -- so a model is an answer set
  model_answers : (all : List Bool) → IsSetOver program.atoms all → IsModel program all
      → IsAnswerSet program all
  model_answers all over model = record {
    over = over;
    compute = model.compute;
    keeps = model.keeps;
    least =
        λ part proper. SomeFails-from all part program.rules (none_smaller all over part proper);
  }

  -- and one of the normal form
  pub program_answers : (all : List Bool) → IsSetOver program.atoms all → IsModel program all
      → IsAnswerSetN pair all
  program_answers all over model =
      (SameAnswerSets-normal_form pair program form.form all).1 (model_answers all over model)

  -- its extension is a model of the theory
  pub extension_model : (all : List Bool) → IsAnswerSetN pair all
      → IsModelOf pair (extension pair all all)
  extension_model all answer =
      let same = set_of_extension pair all [] answer.over.positions in
      subst (IsModelOf pair) (append-nil (extension pair all all))
      (record {
        over = subst (IsSetOver pair.atoms) (sym same) answer.over;
        extends =
            front_of_extension pair all [] answer.over.positions
            ∙ ap (λ it. extension pair it it) (sym same);
        keeps = subst (λ it. KeepsAllN pair it it) (sym same) answer.keeps;
        compute = subst (MeetsComputeN pair) (sym same) answer.compute;
      })

  -- a model of the theory is a model of the program
  pub program_model : (values : List Bool) → IsModelOf pair values
      → IsSetOver program.atoms (set_of pair values) × IsModel program (set_of pair values)
  program_model values model = (
    subst (λ atoms. IsSetOver atoms (set_of pair values)) form.form.atoms model.over,
    record {
      keeps =
          AllZip-All (StandsFor pair.bodies)
          (KeepsN pair.bodies (set_of pair values) (set_of pair values))
          (Keeps (set_of pair values) (set_of pair values))
          (Keeps-from_normal pair.bodies (set_of pair values) (set_of pair values)) pair.rules
          program.rules form.form.rules.each model.keeps;
      compute = record {
        must = subst (All (IsIn (set_of pair values))) form.form.must model.compute.must;
        must_not =
            subst (All (λ atom. ¬ IsIn (set_of pair values) atom)) form.form.must_not
            model.compute.must_not;
      };
    },
  )

  -- so it meets the base clauses
  pub base_meets : (values : List Bool) → AreOver (greatest_body_var pair) (base_clauses pair)
      → AreEntailed pair → IsModelOf pair values → Meets values (base_clauses pair)
  base_meets values over entailed model k d within =
      let both = program_model values model in
      let set = set_of pair values in
      holds_beyond pair values (get_or (base_clauses pair) k d) (over k d within) model
      (subst (λ it. HoldsIn it (get_or (base_clauses pair) k d))
      (append-nil (extension pair set set))
      (entailed k d within set [] (program_answers set both.0 both.1) tt))
