use Rattle.std.proofs.Common.{◌≡◌, ℕ, List, sym, ap, subst, ◌∙◌, rules}
use Rattle.std.specs.Prelude.{slice_index, slice_set}
use Rattle.std.proofs.lemmas.Option.{get_or_from_slice_get}
use Rattle.anytime_core.specs.declared.event.Event.{Event}
use Rattle.anytime_core.specs.declared.event.Event.TheVariants.{ReadWord, Meet}
use Rattle.anytime_core.specs.declared.actor.Actor.{Actor}
use Rattle.anytime_core.specs.Knowing.{steps_once, meets_word, told_by}
use Rattle.anytime_core.specs.Actors.{actor_of}
use Rattle.anytime_core.specs.Machine.{Machine, machine_of, after}
use Rattle.anytime_core.specs.Laws.{IsSound}
use Rattle.anytime_core.proofs.StepLemmas.{kept, twice}
use Rattle.anytime_core.proofs.machine.Core.step.Goals as goal

pub invariant_of-self : goal.invariant_of-self
invariant_of-self c = (
  c.self.invariant.0,
  c.self.invariant.1,
  c.self.invariant.2,
  kept c.args.self.now _ c.args.event (search rules) (subst IsSound c.self.view_is c.self.invariant.3)
      c.requires.legal,
)

pub invariant_of-self-in-ReportOut : goal.invariant_of-self-in-ReportOut
invariant_of-self-in-ReportOut c = (
  c.self.invariant.0,
  c.self.invariant.1,
  c.self.invariant.2,
  kept c.args.self.now _ c.args.event (search rules) (subst IsSound c.self.view_is c.self.invariant.3)
      c.requires.legal,
)

pub invariant_of-self-in-ReportState : goal.invariant_of-self-in-ReportState
invariant_of-self-in-ReportState c = (
  c.self.invariant.0,
  c.self.invariant.1,
  c.self.invariant.2,
  kept c.args.self.now _ c.args.event (search rules) (subst IsSound c.self.view_is c.self.invariant.3)
      c.requires.legal,
)

pub returns-in-ReadWord : goal.returns-in-ReadWord
returns-in-ReadWord c =
    let s = c.self.inside in
    let place : ℕ = c.in-ReadWord.word in
    let number : ℕ = c.in-ReadWord.actor in
    let built : List Actor → Machine =
    λ xs. machine_of s.about.value s.mode s.room s.words s.log.items xs in
    let met : ℕ → Event → Machine =
    λ word event. built (slice_set s.actors.items number
    (meets_word (actor_of s.actors.items number) event place word)) in
    let found : slice_index s.words place ≡ c.get-found.result.now =
    get_or_from_slice_get s.words place c.get-found.result.now 0 c.get-found.ensures in
    ap built c.meet_word.ensures
    ∙ ap (λ word. met word (ReadWord number place)) (sym found)
    ∙ ap (λ event. after (built s.actors.items) event) (sym c.in-ReadWord.is)
    ∙ ap (λ (m : Machine). after m c.args.event) c.self.view_is

pub invariant_of-self-in-ReadWord : goal.invariant_of-self-in-ReadWord
invariant_of-self-in-ReadWord c = (
  c.self.invariant.0,
  c.self.invariant.1,
  c.self.invariant.2,
  kept c.args.self.now _ c.args.event (returns-in-ReadWord c)
      (subst IsSound c.self.view_is c.self.invariant.3) c.requires.legal,
)

pub invariant_of-self-in-Append : goal.invariant_of-self-in-Append
invariant_of-self-in-Append c = (
  c.self.invariant.0,
  search rules,
  search rules,
  kept c.args.self.now _ c.args.event (search rules) (subst IsSound c.self.view_is c.self.invariant.3)
      c.requires.legal,
)

pub invariant_of-self-in-Copy : goal.invariant_of-self-in-Copy
invariant_of-self-in-Copy c = (
  c.self.invariant.0,
  c.self.invariant.1,
  c.self.invariant.2,
  kept c.args.self.now _ c.args.event (search rules) (subst IsSound c.self.view_is c.self.invariant.3)
      c.requires.legal,
)

pub returns-in-Meet : goal.returns-in-Meet
returns-in-Meet c =
    let s = c.self.inside in
    let into : ℕ = c.in-Meet.into in
    let from : ℕ = c.in-Meet.from in
    let built : List Actor → Machine =
    λ xs. machine_of s.about.value s.mode s.room s.words s.log.items xs in
    let told : Actor = told_by (actor_of s.actors.items into) (actor_of s.actors.items from) in
    ap built c.step_once-in-Meet.ensures
    ∙ ap (λ (xs : List Actor).
    built (slice_set xs into (steps_once (actor_of xs into) (Meet into from))))
    c.tell-in-Meet.ensures
    ∙ ap built (twice s.actors.items into told (Meet into from) (search rules))
    ∙ ap (λ event. after (built s.actors.items) event) (sym c.in-Meet.is)
    ∙ ap (λ (m : Machine). after m c.args.event) c.self.view_is

pub invariant_of-self-in-Meet : goal.invariant_of-self-in-Meet
invariant_of-self-in-Meet c = (
  c.self.invariant.0,
  c.self.invariant.1,
  c.self.invariant.2,
  kept c.args.self.now _ c.args.event (returns-in-Meet c)
      (subst IsSound c.self.view_is c.self.invariant.3) c.requires.legal,
)
