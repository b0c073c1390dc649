use Rattle.std.proofs.Common.{◌<◌, arith, ap, sym, subst}
use Rattle.clause_store.specs.Trail.{present_level}
use Rattle.conflict_learning.proofs.ConflictLemmas.{level_within}
use Rattle.conflict_learning.proofs.UnitLemmas.{back_is_lower}
use Rattle.assumption_engine.specs.Engine.{Taught}
use Rattle.assumption_engine.proofs.DownLemmas.{IsAnalysed, conflict_back, taught}
use Rattle.assumption_engine.proofs.engine.Engine.resolve.Goals as goal

pub go_back-requires-clause-level : goal.go_back-requires-clause-level
go_back-requires-clause-level g c =
    level_within c.args.self.now.state.clauses c.args.self.now.state.trail.steps c.args.conflict
    c.requires.conflict.clause c.args.level c.requires.conflict c.requires.conflict.named
    (c.requires.level c.requires.conflict.clause c.requires.conflict.named)

pub analyse-requires-clause-conflict : goal.analyse-requires-clause-conflict
analyse-requires-clause-conflict g c =
    let there =
    conflict_back c.requires.conflict c.requires.level c.requires.above c.go_back.ensures.back
    c.store.ensures.store c.trail.ensures.trail in
    there.conflict

pub analyse-requires-clause-present : goal.analyse-requires-clause-present
analyse-requires-clause-present g c =
    let there =
    conflict_back c.requires.conflict c.requires.level c.requires.above c.go_back.ensures.back
    c.store.ensures.store c.trail.ensures.trail in
    there.present

pub go_back-requires-2-clause-level : goal.go_back-requires-2-clause-level
go_back-requires-2-clause-level g c =
    let same = ap (λ t. present_level t.steps) c.trail.ensures.trail in
    let above : 0 < present_level c.trail.result.now.steps =
    omega (arith, same, c.go_back.ensures.back.present, c.requires.above) in
    omega (
      arith,
      same,
      c.in_ok-analyse.ensures.back,
      back_is_lower c.trail.result.now.steps c.analyse.new.learned.clause
          c.analyse.new.learned.asserting above c.in_ok-analyse.ensures.asserting,
    )

pub returns-clause-taught : goal.returns-clause-taught
returns-clause-taught g c =
    let analysed : IsAnalysed c.store.result.now c.trail.result.now c.analyse.new.learned =
    record {
      refuted = c.in_ok-analyse.ensures.refuted;
      is_false = c.in_ok-analyse.ensures.is_false;
      once = c.in_ok-analyse.ensures.once;
      over = c.in_ok-analyse.ensures.over;
      asserting = c.in_ok-analyse.ensures.asserting;
      back = c.in_ok-analyse.ensures.back;
      stands = c.in_ok-analyse.ensures.stands;
    } in
    subst (Taught c.args.self.now.state c.go_back-2.new.self.state)
    (sym c.go_back-2.ensures.learned)
    (taught c.args.self.now.state c.go_back.new.self.state c.go_back-2.new.self.state
    c.analyse.new.learned c.args.level c.requires.above
    (level_within c.args.self.now.state.clauses c.args.self.now.state.trail.steps c.args.conflict
    c.requires.conflict.clause c.args.level c.requires.conflict c.requires.conflict.named
    (c.requires.level c.requires.conflict.clause c.requires.conflict.named))
    c.go_back.ensures.back
    (subst (λ clauses. IsAnalysed clauses c.go_back.new.self.state.trail c.analyse.new.learned)
    c.store.ensures.store
    (subst (λ t. IsAnalysed c.store.result.now t c.analyse.new.learned) c.trail.ensures.trail
    analysed)) c.go_back-2.ensures.back)
