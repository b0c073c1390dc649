use Rattle.std.proofs.Common.{◌≡◌, ◌≢◌, ◌+◌, ◌∙◌, ◌∷◌, ◌++◌, [], None, Some, ap, length, refl}
use Rattle.std.specs.Prelude.{slice_get}
use Rattle.std.proofs.lemmas.List.Elements.{All-cons, All-nil}
use Rattle.clause_store.specs.declared.literal.Lit.{Lit}
use Rattle.clause_store.specs.declared.literal.Value.TheVariants.{No}
use Rattle.clause_store.specs.Trail.{present_level, value_of}
use Rattle.clause_store.proofs.LiteralLemmas.{has_first, has_later}
use Rattle.trial_engine.proofs.trials.stores.assignments_come_and_go.Goals as goal

pub assign-requires-clause-forced : goal.assign-requires-clause-forced
assign-requires-clause-forced c =
    let one : Lit = record { 0 = 3 } in
    let two : Lit = record { 0 = 4 } in
    let named : slice_get c.add.new.self c.in_ok-why.why.0 ≡ Some (one ∷ two ∷ []) =
    ap (slice_get c.add.new.self) (c.in_ok-why.ensures.at ∙ ap length c.open-store.ensures)
    ∙ ap (λ clauses. slice_get clauses 0)
    (c.in_ok-why.ensures.ok
    ∙ ap (λ clauses. clauses ++ (one ∷ two ∷ []) ∷ []) c.open-store.ensures) in
    let no : value_of c.decide.new.self.steps one ≡ No =
    ap (λ trail. value_of trail.steps one) c.decide.ensures.steps
    ∙ ap
    (λ trail. value_of
    (trail.steps ++ record {
      lit = record { 0 = 2 };
      reason = None;
      level = present_level trail.steps + 1;
    } ∷ []) one)
    c.in_ok-trail.ensures.empty in
    record {
      clause = one ∷ two ∷ [];
      named = named;
      here = has_later one two (two ∷ []) (has_first two []);
      others =
          All-cons (λ other. other ≢ two → value_of c.decide.new.self.steps other ≡ No) one
          (two ∷ []) (λ differs. no)
          (All-cons (λ other. other ≢ two → value_of c.decide.new.self.steps other ≡ No) two []
          (λ differs. absurd (differs refl))
          (All-nil (λ other. other ≢ two → value_of c.decide.new.self.steps other ≡ No)));
    }
