use Rattle.std.proofs.Common.{sym, ap, subst, arith}
use Rattle.std.proofs.lemmas.List.Elements.{All-nil}
use Rattle.std.specs.Prelude.{Contains}
use Rattle.clause_store.specs.Clause.{Meets}
use Rattle.clause_store.specs.Laws.{AreMoreClauses}
use Rattle.assumption_engine.proofs.SameLemmas.{none_followed}
use Rattle.assumption_engine.proofs.engine.Engine.open.Goals as goal

pub returns-clause-right : goal.returns-clause-right
returns-clause-right g c =
    record {
      alive = ap (λ s. s.dead) c.in_ok-state.ensures;
      holds =
          λ values model. subst (λ s. Meets values s.clauses) (sym c.in_ok-state.ensures)
          (c.requires.holds values model.model);
      needed =
          subst (λ s. AreMoreClauses (g.T.Theory.meaning c.args.theory).needs s.clauses)
          (sym c.in_ok-state.ensures) c.requires.needs;
      kept =
          subst (λ defined. AreMoreClauses defined c.in_ok-state.state.clauses)
          (sym c.open-5.ensures) (All-nil (Contains c.in_ok-state.state.clauses));
      range =
          let vars = ap (λ s. s.trail.vars) c.in_ok-state.ensures in
          omega (arith, vars, c.requires.range);
      follows =
          none_followed c.in_ok-state.state.trail.steps (g.T.Theory.followed c.args.theory)
          c.requires.follows;
    }
