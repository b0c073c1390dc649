use Rattle.std.proofs.Common.{◌≡◌, ◌++◌, ◌∷◌, [], refl, subst, sym}
use Rattle.std.proofs.lemmas.Bool.{false≢true}
use Rattle.normal_program.specs.Normal.{greatest_body_var}
use Rattle.coherence_test.specs.Sharing.{AreNoted, AreShareable, IsTold}
use Rattle.coherence_test.proofs.ShareLemmas.{one_noted, one_passed, push_shareable}
use Rattle.coherence_test.proofs.sharing.note_one.Goals as goal

is_told : (c : goal.In_ok-push) → IsTold (greatest_body_var c.args.normal.now) c.args.unit.now
is_told c =
    subst (λ greatest. IsTold greatest c.args.unit.now) c.greatest_body_var.ensures
    (c.if-may_tell.ensures.0 refl)

pushed : (c : goal.In_ok-push)
    → c.push.new.self.items ≡ c.args.left.now.items ++ c.short_of.result ∷ []
pushed c = c.in_ok-push.ensures.items

pub returns-in_ok-push-clause-left : goal.returns-in_ok-push-clause-left
returns-in_ok-push-clause-left c =
    subst (AreShareable c.args.normal.now) (sym (pushed c))
    (push_shareable c.args.normal.now c.args.unit.now c.short_of.result c.args.left.now.items
    c.requires.unit (is_told c) c.short_of.ensures c.requires.left)

pub returns-in_ok-push-clause-noted : goal.returns-in_ok-push-clause-noted
returns-in_ok-push-clause-noted c =
    subst (AreNoted c.args.normal.now (c.args.unit.now ∷ []) c.args.left.now.items) (sym (pushed c))
    (one_noted c.args.normal.now c.args.unit.now c.short_of.result c.args.left.now.items (is_told c)
    c.short_of.ensures)

pub returns-else-may_tell-clause-noted : goal.returns-else-may_tell-clause-noted
returns-else-may_tell-clause-noted c =
    one_passed c.args.normal.now c.args.unit.now c.args.left.now.items
    (λ told. false≢true
    (c.if-may_tell.ensures.1
    (subst (λ greatest. IsTold greatest c.args.unit.now) (sym c.greatest_body_var.ensures) told)))
