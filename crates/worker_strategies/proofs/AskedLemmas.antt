-- What one question does to its tester, as one record.
use Rattle.std.proofs.Common.{◌≡◌, ◌∙◌, ◌++◌, false, List, [], sym, ap, subst, refl}
use Rattle.std.proofs.Common.{Option, None, append-nil}
use Rattle.std.specs.Prelude.{All}
use Rattle.std.proofs.lemmas.List.{append_cancel_left}
use Rattle.std.proofs.lemmas.List.Elements.{All-nil}
use Rattle.clause_store.specs.declared.literal.Lit.{Lit}
use Rattle.clause_store.specs.Counted.{Counted}
use Rattle.clause_store.specs.Entailment.{AreUnits}
use Rattle.clause_store.specs.History.{counted_clauses}
use Rattle.normal_program.specs.Clauses.{IsEntailed}
use Rattle.normal_program.specs.Spent.{selector_clauses}
use Rattle.coherence_test.specs.Selectors.{AreUsed, IsInUse, MayAdd}
use Rattle.coherence_test.specs.Testing.{AreCountedBeside, HasAdded, HasCountedUnits, Testing}
use Rattle.coherence_test.specs.Testing.{used_by}
use Rattle.worker_strategies.specs.Testing.{HasTested}

-- units that were counted once are the same, whoever tells of them
same_units : (before after : Counted) (one two : List (List Lit))
    → after ≡ record before { units = before.units ++ one }
    → after ≡ record before { units = before.units ++ two } → one ≡ two
same_units before after one two first second =
    append_cancel_left before.units one two
    (ap (λ it. it.units) (sym first) ∙ ap (λ it. it.units) second)

-- what a tester says of one question is one record
pub asked_tested : (any : Option (List Lit)) (old new : Testing) (before after : Counted)
    → HasAdded old.normal new.disjunctions old.clauses new.clauses before after
    → HasCountedUnits old.normal new.disjunctions old.clauses (used_by any new.disjunctions) before
    after
    → AreCountedBeside (old.clauses ++ selector_clauses old.normal new.disjunctions) before after
    → AreUsed old.disjunctions any new.disjunctions → new.dead ≡ false
    → new.normal ≡ old.normal → HasTested any old new before after
asked_tested any old new before after added counted beside uses alive same =
    let all = counted_clauses added.added in
    let units : counted.units ≡ all =
    same_units before after counted.units all counted.counts added.counts in
    let besides : beside.units ≡ all =
    same_units before after beside.units all beside.counts added.counts in
    record {
      added = added;
      entailed = subst (All (IsEntailed old.normal new.disjunctions)) units counted.entailed;
      in_use =
          subst (All (All (IsInUse old.normal (used_by any new.disjunctions)))) units
          counted.in_use;
      beside =
          subst (AreUnits (old.clauses ++ selector_clauses old.normal new.disjunctions)) besides
          beside.are;
      uses = uses;
      alive = alive;
      same = same;
    }

-- where nothing was done, nothing was tested
pub nothing_tested : (tester : Testing) (counted : Counted) → tester.dead ≡ false
    → HasTested None tester tester counted counted
nothing_tested tester counted alive =
    record {
      added =
          record {
            added = [];
            clauses = sym (append-nil tester.clauses);
            counts = ap (λ units. record counted { units = units }) (sym (append-nil counted.units));
            history =
                record {
                  history = tt;
                  kind = All-nil (MayAdd tester.normal tester.disjunctions);
                };
          };
      entailed = All-nil (IsEntailed tester.normal tester.disjunctions);
      in_use = All-nil (All (IsInUse tester.normal 0));
      beside = tt;
      uses = refl;
      alive = alive;
      same = refl;
    }
