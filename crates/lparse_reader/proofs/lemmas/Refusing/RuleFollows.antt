-- Rules and lists up to their end follow what is due.
use Rattle.std.proofs.Common.{◌≡◌, ℕ, zero, suc, ◌+◌, ◌^◌, ◌<◌, ◌≤◌, Bool, true, false, List, []}
use Rattle.std.proofs.Common.{◌∷◌, ◌++◌, length, Option, Some, None, Result, Ok, refl, ap, subst}
use Rattle.std.proofs.Common.{◌∙◌, arith}
use Rattle.std.specs.Prelude.{replicate}
use Rattle.std.proofs.lemmas.List.{replicate-append-replicate}
use Rattle.ground_program.specs.declared.program.Kind.{Kind}
use Rattle.ground_program.specs.declared.program.Kind.TheVariants.{Basic, Constraint, Choice}
use Rattle.ground_program.specs.declared.program.Kind.TheVariants.{Weight, Disjunctive}
use Rattle.ground_program.specs.declared.program.Weighted.{Weighted}
use Rattle.ground_program.specs.declared.program.Rule.{Rule}
use Rattle.lparse_reader.specs.declared.fault.Fault.{Fault}
use Rattle.lparse_reader.specs.declared.fault.Fault.TheVariants.{Ended}
use Rattle.lparse_reader.specs.declared.rule_text.Counts.{Counts}
use Rattle.lparse_reader.specs.Fields.{◌>>=◌, Field, behind, number_at, atom_at, part_at}
use Rattle.lparse_reader.specs.Fields.{weighed_at, counted_at, before_end, until_end_at}
use Rattle.lparse_reader.specs.Reading.{counts_at, body_at, heads_at, basic_at, constraint_at}
use Rattle.lparse_reader.specs.Reading.{weight_at, many_heads_at, rule_at, rule_of_kind}
use Rattle.lparse_reader.specs.Reading.{rule_or_end_at, kind_or_end_at}
use Rattle.lparse_reader.specs.Due.{Extra, nothing, bound, weights, Due, rules, atom, any_number}
use Rattle.lparse_reader.specs.Due.{head_count, literal_count, negative_count, after_counts}
use Rattle.lparse_reader.specs.Refuses.{FailsAt}
use Rattle.lparse_reader.proofs.lemmas.Pieces.BodyPieces.{counts_stand, body_stands}
use Rattle.lparse_reader.proofs.lemmas.Refusing.FaultPieces.{fault_of, fault_is}
use Rattle.lparse_reader.proofs.lemmas.Refusing.Follows.{breaks_now, FollowsIn, Follows}
use Rattle.lparse_reader.proofs.lemmas.Refusing.Follows.{follows_then, follows_done}
use Rattle.lparse_reader.proofs.lemmas.Refusing.Follows.{follows_behind, follows_counted}
use Rattle.lparse_reader.proofs.lemmas.Refusing.DueFields.{any_follows, head_count_follows}
use Rattle.lparse_reader.proofs.lemmas.Refusing.DueFields.{literals_follow}
use Rattle.lparse_reader.proofs.lemmas.Refusing.DueFields.{atom_follows, or_none, kind_due}
use Rattle.lparse_reader.proofs.lemmas.Refusing.DueFields.{kind_or_none}
use Rattle.lparse_reader.proofs.lemmas.Refusing.DueFields.{kinds_follow, counts_end}
use Rattle.lparse_reader.proofs.lemmas.Refusing.DueFields.{negatives_follow}

-- the same of what is due under another spelling
pub follows_same : {A : Type 0} (bytes : List ℕ) (read : Result (A × List ℕ) Fault)
    (due other : List Due) (more : A → List Due) → due ≡ other → FollowsIn bytes read due more
    → FollowsIn bytes read other more
follows_same bytes read due other more same follows =
    subst (λ (d : List Due). FollowsIn bytes read d more) same follows

abbrev ends : {A : Type 0} → A → List Due
ends x = []

abbrev made : Kind → List ℕ → ℕ → List Weighted → Rule
made kind heads limit body = record { kind = kind; heads = heads; bound = limit; body = body }

counts_follow : (extra : Extra) → Follows counts_at (literal_count extra ∷ [])
    (λ counts. after_counts extra counts.literals)
unfolding counts_at
counts_follow extra bytes few =
    follows_then {A = ℕ} {B = Counts} bytes (number_at bytes)
    (λ literals. number_at literals.1 >>= counts_end literals.0 literals.1)
    (literal_count extra ∷ []) (λ literals. negative_count extra literals ∷ [])
    (λ counts. after_counts extra counts.literals) few (literals_follow extra bytes few)
    (λ literals rest read shorter. negatives_follow extra literals rest)

part_follows : (negated : Bool) → Follows (part_at negated) (atom ∷ []) (λ _. [])
unfolding part_at
part_follows negated bytes few =
    follows_then {A = ℕ} {B = Weighted} bytes (atom_at bytes)
    (λ found. Ok
    (record { lit = record { atom = found.0; negated = negated }; weight = 1 }, found.1))
    (atom ∷ []) (λ _. []) (λ _. []) few (atom_follows bytes few)
    (λ found rest read shorter. follows_done {A = Weighted} rest
    (record { lit = record { atom = found; negated = negated }; weight = 1 }) [] (λ _. []) refl)

-- a body of which so many literals are due
body_follows : (counts : Counts) (literals : ℕ) → counts.negatives + counts.positives ≡ literals
    → Follows (body_at counts) (replicate literals atom) (λ _. [])
unfolding body_at
body_follows counts literals sum bytes few =
    follows_same {A = List Weighted} bytes (body_at counts bytes)
    (replicate counts.negatives atom ++ replicate counts.positives atom)
    (replicate literals atom) (λ _. [])
    (replicate-append-replicate counts.negatives counts.positives atom
    ∙ ap (λ (n : ℕ). replicate n atom) sum)
    (follows_then {A = List Weighted} {B = List Weighted} bytes
    (counted_at (part_at true) counts.negatives bytes)
    (λ front. behind front.0 (counted_at (part_at false) counts.positives front.1))
    (replicate counts.negatives atom ++ replicate counts.positives atom)
    (λ _. replicate counts.positives atom) (λ _. []) few
    (follows_behind {A = List Weighted} bytes (counted_at (part_at true) counts.negatives bytes)
    (replicate counts.negatives atom) (λ _. []) (replicate counts.positives atom)
    (follows_counted (part_at true) atom (part_follows true) counts.negatives bytes few))
    (λ front rest read shorter.
    follows_then {A = List Weighted} {B = List Weighted} rest
    (counted_at (part_at false) counts.positives rest) (λ more. Ok (front ++ more.0, more.1))
    (replicate counts.positives atom) (λ _. []) (λ _. []) shorter
    (follows_counted (part_at false) atom (part_follows false) counts.positives rest shorter)
    (λ back after found still. follows_done {A = List Weighted} after (front ++ back) [] (λ _. [])
    refl)))

weights_follow : (parts : List Weighted)
    → Follows (weighed_at parts) (replicate (length parts) any_number) (λ _. [])
unfolding weighed_at
weights_follow [] bytes few = follows_done {A = List Weighted} bytes [] [] (λ _. []) refl
weights_follow (part ∷ parts) bytes few =
    follows_then {A = ℕ} {B = List Weighted} bytes (number_at bytes)
    (λ weight. behind (record { lit = part.lit; weight = weight.0 } ∷ [])
    (weighed_at parts weight.1))
    (any_number ∷ replicate (length parts) any_number) (λ _. replicate (length parts) any_number)
    (λ _. []) few
    (follows_behind {A = ℕ} bytes (number_at bytes) (any_number ∷ []) (λ _. [])
    (replicate (length parts) any_number) (any_follows bytes few))
    (λ weight rest read shorter.
    follows_then {A = List Weighted} {B = List Weighted} rest (weighed_at parts rest)
    (λ more. Ok ((record { lit = part.lit; weight = weight } ∷ []) ++ more.0, more.1))
    (replicate (length parts) any_number) (λ _. []) (λ _. []) shorter
    (weights_follow parts rest shorter)
    (λ body after found still. follows_done {A = List Weighted} after
    ((record { lit = part.lit; weight = weight } ∷ []) ++ body) [] (λ _. []) refl))

heads_follow : Follows heads_at (head_count ∷ []) (λ _. [])
unfolding heads_at
heads_follow bytes few =
    follows_then {A = ℕ} {B = List ℕ} bytes (number_at bytes)
    (λ count. counted_at atom_at count.0 count.1) (head_count ∷ [])
    (λ count. replicate count atom) (λ _. []) few (head_count_follows bytes few)
    (λ count rest read shorter. follows_counted atom_at atom atom_follows count rest shorter)

-- ---- rules of each kind

abbrev tail_of : Extra → List Due
tail_of extra = literal_count extra ∷ []

basic_follows : Follows basic_at (kind_due Basic) (λ _. [])
unfolding basic_at
basic_follows bytes few =
    follows_then {A = ℕ} {B = Rule} bytes (atom_at bytes)
    (λ head. counts_at head.1 >>= λ counts. body_at counts.0 counts.1 >>= λ body. Ok
    (made Basic (head.0 ∷ []) counts.0.literals body.0, body.1))
    (atom ∷ tail_of nothing) (λ _. tail_of nothing) (λ _. []) few
    (follows_behind {A = ℕ} bytes (atom_at bytes) (atom ∷ []) (λ _. []) (tail_of nothing)
    (atom_follows bytes few))
    (λ head rest head_read shorter.
    follows_then {A = Counts} {B = Rule} rest (counts_at rest)
    (λ counts. body_at counts.0 counts.1 >>= λ body. Ok
    (made Basic (head ∷ []) counts.0.literals body.0, body.1))
    (tail_of nothing) (λ counts. after_counts nothing counts.literals) (λ _. []) shorter
    (counts_follow nothing rest shorter)
    (λ counts after counts_read still.
    follows_then {A = List Weighted} {B = Rule} after (body_at counts after)
    (λ body. Ok (made Basic (head ∷ []) counts.literals body.0, body.1))
    (replicate counts.literals atom) (λ _. []) (λ _. []) still
    (body_follows counts counts.literals (counts_stand rest counts after counts_read).sum after
    still)
    (λ body end body_read few_still. follows_done {A = Rule} end
    (made Basic (head ∷ []) counts.literals body) [] (λ _. []) refl)))

constraint_follows : Follows constraint_at (kind_due Constraint) (λ _. [])
unfolding constraint_at
constraint_follows bytes few =
    follows_then {A = ℕ} {B = Rule} bytes (atom_at bytes)
    (λ head. counts_at head.1 >>= λ counts. number_at counts.1 >>= λ limit. body_at counts.0
    limit.1 >>= λ body. Ok (made Constraint (head.0 ∷ []) limit.0 body.0, body.1))
    (atom ∷ tail_of bound) (λ _. tail_of bound) (λ _. []) few
    (follows_behind {A = ℕ} bytes (atom_at bytes) (atom ∷ []) (λ _. []) (tail_of bound)
    (atom_follows bytes few))
    (λ head rest head_read shorter.
    follows_then {A = Counts} {B = Rule} rest (counts_at rest)
    (λ counts. number_at counts.1 >>= λ limit. body_at counts.0 limit.1 >>= λ body. Ok
    (made Constraint (head ∷ []) limit.0 body.0, body.1))
    (tail_of bound) (λ counts. after_counts bound counts.literals) (λ _. []) shorter
    (counts_follow bound rest shorter)
    (λ counts after counts_read still.
    follows_then {A = ℕ} {B = Rule} after (number_at after)
    (λ limit. body_at counts limit.1 >>= λ body. Ok
    (made Constraint (head ∷ []) limit.0 body.0, body.1))
    (any_number ∷ replicate counts.literals atom) (λ _. replicate counts.literals atom) (λ _. [])
    still
    (follows_behind {A = ℕ} after (number_at after) (any_number ∷ []) (λ _. [])
    (replicate counts.literals atom) (any_follows after still))
    (λ limit begins limit_read few_still.
    follows_then {A = List Weighted} {B = Rule} begins (body_at counts begins)
    (λ body. Ok (made Constraint (head ∷ []) limit body.0, body.1))
    (replicate counts.literals atom) (λ _. []) (λ _. []) few_still
    (body_follows counts counts.literals (counts_stand rest counts after counts_read).sum begins
    few_still)
    (λ body end body_read fewer. follows_done {A = Rule} end
    (made Constraint (head ∷ []) limit body) [] (λ _. []) refl))))

many_heads_follow : (kind : Kind) →
    Follows (many_heads_at kind) (head_count ∷ tail_of nothing) (λ _. [])
unfolding many_heads_at
many_heads_follow kind bytes few =
    follows_then {A = List ℕ} {B = Rule} bytes (heads_at bytes)
    (λ heads. counts_at heads.1 >>= λ counts. body_at counts.0 counts.1 >>= λ body. Ok
    (made kind heads.0 counts.0.literals body.0, body.1))
    (head_count ∷ tail_of nothing) (λ _. tail_of nothing) (λ _. []) few
    (follows_behind {A = List ℕ} bytes (heads_at bytes) (head_count ∷ []) (λ _. [])
    (tail_of nothing) (heads_follow bytes few))
    (λ heads rest head_read shorter.
    follows_then {A = Counts} {B = Rule} rest (counts_at rest)
    (λ counts. body_at counts.0 counts.1 >>= λ body. Ok
    (made kind heads counts.0.literals body.0, body.1))
    (tail_of nothing) (λ counts. after_counts nothing counts.literals) (λ _. []) shorter
    (counts_follow nothing rest shorter)
    (λ counts after counts_read still.
    follows_then {A = List Weighted} {B = Rule} after (body_at counts after)
    (λ body. Ok (made kind heads counts.literals body.0, body.1))
    (replicate counts.literals atom) (λ _. []) (λ _. []) still
    (body_follows counts counts.literals (counts_stand rest counts after counts_read).sum after
    still)
    (λ body end body_read few_still. follows_done {A = Rule} end
    (made kind heads counts.literals body) [] (λ _. []) refl)))

weight_follows : Follows weight_at (kind_due Weight) (λ _. [])
unfolding weight_at
weight_follows bytes few =
    follows_then {A = ℕ} {B = Rule} bytes (atom_at bytes)
    (λ head. number_at head.1 >>= λ limit. counts_at limit.1 >>= λ counts. body_at counts.0
    counts.1 >>= λ body. weighed_at body.0 body.1 >>= λ weighed. Ok
    (made Weight (head.0 ∷ []) limit.0 weighed.0, weighed.1))
    (atom ∷ any_number ∷ tail_of weights) (λ _. any_number ∷ tail_of weights) (λ _. []) few
    (follows_behind {A = ℕ} bytes (atom_at bytes) (atom ∷ []) (λ _. [])
    (any_number ∷ tail_of weights) (atom_follows bytes few))
    (λ head rest head_read shorter.
    follows_then {A = ℕ} {B = Rule} rest (number_at rest)
    (λ limit. counts_at limit.1 >>= λ counts. body_at counts.0 counts.1 >>= λ body. weighed_at
    body.0 body.1 >>= λ weighed. Ok (made Weight (head ∷ []) limit.0 weighed.0, weighed.1))
    (any_number ∷ tail_of weights) (λ _. tail_of weights) (λ _. []) shorter
    (follows_behind {A = ℕ} rest (number_at rest) (any_number ∷ []) (λ _. []) (tail_of weights)
    (any_follows rest shorter))
    (λ limit after limit_read still.
    follows_then {A = Counts} {B = Rule} after (counts_at after)
    (λ counts. body_at counts.0 counts.1 >>= λ body. weighed_at body.0 body.1 >>= λ weighed. Ok
    (made Weight (head ∷ []) limit weighed.0, weighed.1))
    (tail_of weights) (λ counts. after_counts weights counts.literals) (λ _. []) still
    (counts_follow weights after still)
    (λ counts begins counts_read few_still.
    let sum = (counts_stand after counts begins counts_read).sum in
    follows_then {A = List Weighted} {B = Rule} begins (body_at counts begins)
    (λ body. weighed_at body.0 body.1 >>= λ weighed. Ok
    (made Weight (head ∷ []) limit weighed.0, weighed.1))
    (replicate counts.literals atom ++ replicate counts.literals any_number)
    (λ _. replicate counts.literals any_number) (λ _. []) few_still
    (follows_behind {A = List Weighted} begins (body_at counts begins)
    (replicate counts.literals atom) (λ _. []) (replicate counts.literals any_number)
    (body_follows counts counts.literals sum begins few_still))
    (λ body middle body_read fewer.
    let len = (body_stands counts begins body middle body_read).len ∙ sum in
    follows_then {A = List Weighted} {B = Rule} middle (weighed_at body middle)
    (λ weighed. Ok (made Weight (head ∷ []) limit weighed.0, weighed.1))
    (replicate counts.literals any_number) (λ _. []) (λ _. []) fewer
    (follows_same {A = List Weighted} middle (weighed_at body middle)
    (replicate (length body) any_number) (replicate counts.literals any_number) (λ _. [])
    (ap (λ (n : ℕ). replicate n any_number) len) (weights_follow body middle fewer))
    (λ weighed end weighed_read fewest. follows_done {A = Rule} end
    (made Weight (head ∷ []) limit weighed) [] (λ _. []) refl)))))

rule_follows : (kind : Kind) → Follows (rule_at kind) (kind_due kind) (λ _. [])
rule_follows Basic bytes few = basic_follows bytes few
rule_follows Constraint bytes few = constraint_follows bytes few
rule_follows Choice bytes few = many_heads_follow Choice bytes few
rule_follows Weight bytes few = weight_follows bytes few
rule_follows Disjunctive bytes few = many_heads_follow Disjunctive bytes few

rule_of_kind_follows : (kind : Option Kind)
    → Follows (rule_of_kind kind) (kind_or_none kind) (or_none rules)
rule_of_kind_follows None bytes few =
    follows_done {A = Option Rule} bytes None [] (or_none rules) refl
rule_of_kind_follows (Some kind) bytes few =
    follows_then {A = Rule} {B = Option Rule} bytes (rule_at kind bytes)
    (λ rule. Ok (Some rule.0, rule.1)) (kind_due kind ++ rules ∷ []) (λ _. rules ∷ [])
    (or_none rules) few
    (follows_behind {A = Rule} bytes (rule_at kind bytes) (kind_due kind) (λ _. []) (rules ∷ [])
    (rule_follows kind bytes few))
    (λ rule rest read shorter. follows_done {A = Option Rule} rest (Some rule) (rules ∷ [])
    (or_none rules) refl)

pub rules_follow : Follows rule_or_end_at (rules ∷ []) (or_none rules)
unfolding rule_or_end_at
rules_follow bytes few =
    follows_then {A = Option Kind} {B = Option Rule} bytes (kind_or_end_at bytes)
    (λ kind. rule_of_kind kind.0 kind.1) (rules ∷ []) kind_or_none (or_none rules) few
    (kinds_follow bytes few)
    (λ kind rest read shorter. rule_of_kind_follows kind rest shorter)

-- ---- lists up to their end

-- each item takes some bytes, and at the end of the text what is due is missing
pub record Takes {A : Type 0} (field : Field (Option A)) (due : Due) : Type 0 where
  pub shrinks : (bytes : List ℕ) (x : A) (rest : List ℕ) → length bytes < 2 ^ 31
      → field bytes ≡ Ok (Some x, rest) → length rest < length bytes
  pub missing : FailsAt due [] Ended

end_follows : {A : Type 0} (field : Field (Option A)) (due : Due) (item : Option A) (after : List ℕ)
    (others : Result (List A × List ℕ) Fault) → length after < 2 ^ 31
    → ((x : A) → item ≡ Some x → FollowsIn after others (due ∷ []) (λ _. []))
    → FollowsIn after (before_end item after others) (or_none due item) (λ _. [])
end_follows {A = A} field due None after others few more =
    follows_done {A = List A} after [] [] (λ _. []) refl
end_follows {A = A} field due (Some x) after others few more =
    follows_then {A = List A} {B = List A} after others (λ read. Ok ((x ∷ []) ++ read.0, read.1))
    (due ∷ []) (λ _. []) (λ _. []) few (more x refl)
    (λ xs rest read shorter. follows_done {A = List A} rest ((x ∷ []) ++ xs) [] (λ _. []) refl)

pub until_follows : {A : Type 0} (field : Field (Option A)) (due : Due)
    → Follows field (due ∷ []) (or_none due) → Takes field due → (most : ℕ) (bytes : List ℕ)
    → length bytes ≤ most → length bytes < 2 ^ 31
    → FollowsIn bytes (until_end_at field most bytes) (due ∷ []) (λ _. [])
unfolding until_end_at
until_follows {A = A} field due follows takes zero [] room few = record {
  passes = λ agenda x rest e. absurd (no_ok e);
  breaks =
      λ agenda fault e. breaks_now (due ∷ agenda) [] fault
      (subst (FailsAt due []) (fault_is {A = List A × List ℕ} Ended fault e) takes.missing);
}
  where
    no_ok : {B : Type 0} {x : B} → fault_of {A = B} Ended ≡ Ok x → ⊥
    no_ok e = cc
until_follows field due follows takes zero (byte ∷ bytes) room few = absurd (omega (arith, room))
until_follows {A = A} field due follows takes (suc most) bytes room few =
    follows_then {A = Option A} {B = List A} bytes (field bytes)
    (λ item. before_end item.0 item.1 (until_end_at field most item.1)) (due ∷ []) (or_none due)
    (λ _. []) few (follows bytes few)
    (λ item after read shorter.
    end_follows field due item after (until_end_at field most after) shorter
    (λ x is_some. until_follows field due follows takes most after
    (omega (
      arith,
      takes.shrinks bytes x after few
          (read ∙ ap (λ (o : Option A). Ok (o, after)) is_some),
      room,
    )) shorter))
