-- Units beside fewer clauses, and lists of units one after another.
use Rattle.std.proofs.Common.{List, [], ◌∷◌, ◌++◌, sym, subst, append_assoc}
use Rattle.std.proofs.lemmas.List.{append-nil}
use Rattle.std.proofs.lemmas.List.Elements.{All-push, All-weaker, Contains-append_left}
use Rattle.std.proofs.lemmas.List.Elements.{Contains-push}
use Rattle.std.specs.Prelude.{Contains}
use Rattle.clause_store.specs.declared.literal.Lit.{Lit}
use Rattle.clause_store.specs.Entailment.{AreUnits}
use Rattle.clause_store.specs.Laws.{AreMoreClauses}
use Rattle.clause_store.specs.UnitLaws.{UnitAmongFewer, UnitsAmongFewer, UnitsGrowInStore}
use Rattle.clause_store.specs.UnitLaws.{UnitsSplit}
use Rattle.clause_store.proofs.EntailmentLemmas.{absorbing_grows, units_grow}

-- a unit beside more clauses is one beside fewer of them
pub unit_among_fewer : UnitAmongFewer
unit_among_fewer fewer more unit clauses is =
    record {
      some = is.some;
      once = is.once;
      new = λ absorbed. is.new (absorbing_grows fewer more unit clauses absorbed);
    }

-- both lists get one clause more
pub more_clauses_push : (fewer more : List (List Lit)) (clause : List Lit)
    → AreMoreClauses fewer more → AreMoreClauses (fewer ++ clause ∷ []) (more ++ clause ∷ [])
more_clauses_push fewer more clause clauses =
    All-push (Contains (more ++ clause ∷ [])) fewer clause
    (All-weaker (Contains more) (Contains (more ++ clause ∷ []))
    (λ one here. Contains-append_left more (clause ∷ []) one here) fewer clauses)
    (Contains-push more clause)

pub units_among_fewer : UnitsAmongFewer
units_among_fewer fewer more [] clauses are = tt
units_among_fewer fewer more (unit ∷ rest) clauses are = (
  unit_among_fewer fewer more unit clauses are.0,
  units_among_fewer (fewer ++ unit ∷ []) (more ++ unit ∷ []) rest
      (more_clauses_push fewer more unit clauses) are.1,
)

pub units_grow_in_store : UnitsGrowInStore
units_grow_in_store base units store unit are clauses is =
    units_grow base units unit are (unit_among_fewer (base ++ units) store unit clauses is)

pub units_split : UnitsSplit
units_split base [] second = (
  λ are. (tt, subst (λ b. AreUnits b second) (sym (append-nil base)) are),
  λ are. subst (λ b. AreUnits b second) (append-nil base) are.1,
)
units_split base (unit ∷ rest) second =
    let later = units_split (base ++ unit ∷ []) rest second in (
      λ are. let parts = later.0 are.1 in (
        (are.0, parts.0),
        subst (λ b. AreUnits b second) (append_assoc base (unit ∷ []) rest) parts.1,
      ),
      λ are. (
        are.0.0,
        later.1 (
          are.0.1,
          subst (λ b. AreUnits b second) (sym (append_assoc base (unit ∷ []) rest)) are.1,
        ),
      ),
    )
