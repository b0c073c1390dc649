use Rattle.std.proofs.Common.{◌≡◌, ◌∙◌, ◌+◌, ◌++◌, ◌∷◌, [], ap, length, subst, sym}
use Rattle.normal_program.specs.Normal.{first_selector}
use Rattle.assumption_engine.specs.Selector.{selector_clause}
use Rattle.coherence_test.specs.Testing.{IsSound}
use Rattle.coherence_test.proofs.SoundLemmas.{define_sound}
use Rattle.coherence_test.proofs.search.Search.define.Goals as goal

pub returns-clause-sound : goal.returns-clause-sound
returns-clause-sound c =
    let old = c.args.self.now in
    let first = first_selector old.normal.now in
    let any = c.args.any.now in
    let is : c.selector-var.result.0 ≡ first + length old.disjunctions =
    c.selector-var.ensures ∙ ap (λ n. first + n) c.len.ensures in
    let pushed : c.push.new.self ≡ old.disjunctions ++ any ∷ [] =
    c.in_ok-push.ensures.ok ∙ ap (λ it. old.disjunctions ++ it ∷ []) c.in_ok-copy.ensures in
    let new = c.define.new.self in
    let done = c.in_ok-define.ensures in
    subst (IsSound old.normal.now new) (sym pushed)
    (define_sound old.normal.now old.engine new old.disjunctions any c.requires.sound
    c.requires.over done.same (done.right done.alive) done.alive
    (subst (λ var. new.defined ≡ old.engine.defined ++ selector_clause var any ∷ []) is
    done.defined)
    (ap (λ trail. trail.vars) done.back)
    (subst (λ var. new.state.clauses ≡ old.engine.state.clauses ++ selector_clause var any ∷ []) is
    done.ok))
