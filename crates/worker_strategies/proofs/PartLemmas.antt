-- What a core says of a chunk, and the parts of it that are tested one after the other.
use Rattle.std.proofs.Common.{◌≡◌, ◌≤◌, ◌<◌, ◌+◌, ◌-◌, ◌/◌, ◌∙◌, ℕ, false, List, [], ◌++◌}
use Rattle.std.proofs.Common.{None, Option, Some, filter, get_or, length, map, ◌⊎◌}
use Rattle.std.proofs.Common.{ap, append-nil, arith, length-append, refl, subst, sym}
use Rattle.std.specs.Prelude.{All, Contains}
use Rattle.std.proofs.lemmas.List.Elements.{All-contains, All-contains_itself, All-nil}
use Rattle.std.proofs.lemmas.List.Elements.{All-weaker}
use Rattle.std.proofs.lemmas.Option.{slice_get-get_or}
use Rattle.ground_program.specs.declared.program.Mode.{Mode}
use Rattle.ground_program.specs.declared.program.Named.{Named}
use Rattle.ground_program.specs.Bounds.{IsCandidate}
use Rattle.clause_store.specs.declared.literal.Lit.{Lit}
use Rattle.clause_store.specs.Clause.{HasNoVariableTwice, IsOver}
use Rattle.clause_store.specs.Counted.{Counted}
use Rattle.clause_store.specs.History.{counted_clauses}
use Rattle.normal_program.specs.declared.normal.Normal.{Normal}
use Rattle.normal_program.specs.Normal.{greatest_body_var}
use Rattle.normal_program.specs.Clauses.{IsEntailed}
use Rattle.normal_program.specs.Limit.{IsNormal}
use Rattle.assumption_engine.specs.Answer.{IsBelow}
use Rattle.coherence_test.specs.declared.asked.Core.{Core}
use Rattle.coherence_test.specs.Asked.{IsCoreFor}
use Rattle.coherence_test.specs.Selectors.{IsInUse, MayAdd}
use Rattle.coherence_test.specs.Testing.{MayAsk, Testing, selectors}
use Rattle.worker_jobs.specs.declared.job.Job.TheVariants.{Chunk}
use Rattle.worker_jobs.specs.declared.gain.RoundEnd.TheVariants.{Done}
use Rattle.worker_jobs.specs.Job.{AreCandidates, test_literal}
use Rattle.worker_strategies.specs.declared.outcome.Outcome.{Outcome}
use Rattle.worker_strategies.specs.Chunks.{IsSmaller, first_half}
use Rattle.worker_strategies.specs.Disjunction.{asked_for, disjunction_of}
use Rattle.worker_strategies.specs.Literals.{has_same_literal, named_of}
use Rattle.worker_strategies.specs.Outcome.{IsAnswer, IsOutcome}
use Rattle.worker_strategies.specs.Testing.{HasTested}
use Rattle.worker_strategies.proofs.ChunkLemmas.{AreNamedIn, chunk_none, chunk_proved, half_is}
use Rattle.worker_strategies.proofs.ChunkLemmas.{named_are, outcome_of_part, part_are}
use Rattle.worker_strategies.proofs.ReduceLemmas.{disjunction_once, disjunction_over}
use Rattle.worker_strategies.proofs.ReduceLemmas.{test_lits_over}
use Rattle.worker_strategies.proofs.TestLemmas.{tested_then}

-- ---- what a core says

-- the candidates that were named, where the lists are handed on as slices
pub named_is : (names : List Named) (mode : Mode) (lits lits_there : List Lit)
    (cands cands_there named slice : List ℕ) → slice ≡ named
    → named ≡ named_of names mode lits_there cands_there → lits_there ≡ lits
    → cands_there ≡ cands → slice ≡ named_of names mode lits cands
named_is names mode lits lits_there cands cands_there named slice first second third fourth =
    first ∙ second ∙ ap (λ all. named_of names mode all cands_there) third
    ∙ ap (named_of names mode lits) fourth

-- the candidates that have the literal of the first of some
abbrev pub same_candidates : List Named → Mode → List ℕ → List ℕ → List ℕ
same_candidates names mode named cands =
    filter (has_same_literal names mode (get_or named 0 0)) cands

module _ (normal : Normal) (mode : Mode) (cands : List ℕ) (is : IsNormal normal)
    (are : AreCandidates normal.names cands) (core : Core) (named : List ℕ)
    (same : named ≡ named_of normal.names mode core.lits cands) where
  named_there : AreNamedIn normal.names mode cands core.lits named
  named_there =
      subst (AreNamedIn normal.names mode cands core.lits) (sym same)
      (named_are normal.names mode cands core.lits)

  -- the first one that it names is a candidate
  pub first_is_candidate : 1 ≤ length named → IsCandidate normal.names (get_or named 0 0)
  first_is_candidate some =
      All-contains (IsCandidate normal.names) cands (get_or named 0 0) are.each
      (named_there.among 0 0 (omega (arith, some)))

  -- where it names several, the first half of them is a smaller chunk
  pub half_of_named : (part : List ℕ) → 2 ≤ length named → part ≡ first_half named
      → IsSmaller cands part
  half_of_named part several half =
      let count = length named in
      subst (IsSmaller cands) (sym half)
      (half_is cands named (count - count / 2) named_there.among named_there.few
      (omega (arith, several)) (omega (arith, several)))

  module _ (core_is : IsCoreFor normal (asked_for normal.names mode (Chunk cands)) core) where
    -- where it names no candidate there is no answer set
    pub none_named : length named < 1
        → IsAnswer normal mode (Chunk cands)
        (record { sets = []; proved = []; coherent = Some false; ended = Done })
    none_named few =
        chunk_none normal mode cands is are core core_is named named_there (omega (arith, few))

    -- where it names one, the candidates with its literal are proved
    pub one_named : (proved : List ℕ) → 1 ≤ length named → length named < 2
        → proved ≡ same_candidates normal.names mode named cands
        → IsAnswer normal mode (Chunk cands)
        (record { sets = []; proved = proved; coherent = None; ended = Done })
    one_named proved some few its =
        subst
        (λ all. IsAnswer normal mode (Chunk cands)
        (record { sets = []; proved = all; coherent = None; ended = Done })) (sym its)
        (chunk_proved normal mode cands is are core core_is named named_there (get_or named 0 0)
        (omega (arith, some, few)) (slice_get-get_or named 0 0 (omega (arith, some))))

-- ---- parts

-- no test at all
pub not_tested : (tester : Testing) (counted : Counted) → tester.dead ≡ false
    → HasTested None tester tester counted counted
not_tested tester counted alive =
    record {
      added =
          record {
            added = [];
            clauses = sym (append-nil tester.clauses);
            counts =
                ap (λ units. record counted { units = units })
                (sym (append-nil counted.units));
            history =
                record {
                  history = tt;
                  kind = All-nil (MayAdd tester.normal tester.disjunctions);
                };
          };
      entailed = All-nil (IsEntailed tester.normal tester.disjunctions);
      in_use = All-nil (All (IsInUse tester.normal 0));
      beside = tt;
      uses = refl;
      alive = alive;
      same = refl;
    }

-- a test counts on
pub counts_on : (any : Option (List Lit)) (old new : Testing) (before after : Counted)
    → HasTested any old new before after → length before.units ≤ length after.units
counts_on any old new before after tested =
    let size : length after.units
    ≡ length (before.units ++ counted_clauses tested.added.added) =
    ap (λ it. length it.units) tested.added.counts in
    omega
    (arith, size, length-append before.units (counted_clauses tested.added.added))

-- a part of a chunk is to be tested, after tests that have counted fewer clauses than they may
pub record IsNextPart (normal : Normal) (cands : List ℕ) (stop : ℕ) (old now : Testing)
    (before counted : Counted) (part : List ℕ) : Type 0 where
  pub are : AreCandidates normal.names part
  pub among : All (Contains cands) part
  pub tested : HasTested None old now before counted
  pub below : IsBelow stop counted

-- the first part is the whole
pub first_part : (normal : Normal) (cands : List ℕ) (slice : ℕ) (tester : Testing)
    (counted : Counted) → AreCandidates normal.names cands → tester.dead ≡ false → 1 ≤ slice
    → length counted.units < counted.limit
    → IsNextPart normal cands (length counted.units + slice) tester tester counted counted cands
first_part normal cands slice tester counted are alive some unused =
    record {
      are = are;
      among = All-contains_itself cands;
      tested = not_tested tester counted alive;
      below = record { before_stop = omega (arith, some); limit = unused };
    }

module _ (normal : Normal) (mode : Mode) (cands : List ℕ) (stop : ℕ) (old now new : Testing)
    (before counted after : Counted) (part : List ℕ)
    (is : IsNextPart normal cands stop old now before counted part)
    (tested : HasTested None now new counted after) where
  pub tested_both : HasTested None old new before after
  tested_both = tested_then None old now new before counted after is.tested tested

  -- a smaller part is next
  pub later_part : (next : List ℕ) → IsSmaller part next → IsBelow stop after
      → IsNextPart normal cands stop old new before after next
  later_part next smaller below =
      record {
        are = part_are normal.names part next is.are smaller;
        among =
            All-weaker (Contains part) (Contains cands)
            (λ cand here. All-contains (Contains cands) part cand is.among here) next
            smaller.among;
        tested = tested_both;
        below = below;
      }

  -- the test of a part has ended
  pub part_ends : (outcome : Outcome) → IsOutcome normal mode (Chunk part) stop after outcome
      → IsOutcome normal mode (Chunk cands) stop after outcome
  part_ends outcome = outcome_of_part normal mode cands part stop after outcome is.among

-- what is left of the slice ends where the slice does
pub stop_stays : (start used slice first now : ℕ) → first ≡ start → now ≡ used → start ≤ used
    → used < start + slice → used + (slice - (now - first)) ≡ start + slice
stop_stays start used slice first now begins ends low high =
    omega (arith, begins, ends, low, high)

-- so it is after tests of parts
pub same_stop : (normal : Normal) (cands : List ℕ) (slice : ℕ) (old now : Testing)
    (before counted : Counted) (part : List ℕ)
    → IsNextPart normal cands (length before.units + slice) old now before counted part
    → (first used : ℕ) → first ≡ length before.units → used ≡ length counted.units
    → length counted.units + (slice - (used - first)) ≡ length before.units + slice
same_stop normal cands slice old now before counted part is first used begins ends =
    stop_stays (length before.units) (length counted.units) slice first used begins ends
    (counts_on None old now before counted is.tested) is.below.before_stop

-- ---- what is asked

-- all test literals may be asked
pub may_ask_all : (normal there : Normal) (mode : Mode) (cands cands_there : List ℕ)
    (disjunctions : List (List Lit)) (assume : List Lit) → there ≡ normal → IsNormal normal
    → All (IsCandidate normal.names) cands
    → assume ≡ map (test_literal normal.names mode) cands_there → cands_there ≡ cands
    → MayAsk there disjunctions (record { assume = assume; any = None })
may_ask_all normal there mode cands cands_there disjunctions assume same is are its slice =
    record {
      over =
          subst (λ it. All (IsOver (greatest_body_var it)) assume) (sym same)
          (subst (All (IsOver (greatest_body_var normal)))
          (sym (its ∙ ap (map (test_literal normal.names mode)) slice))
          (test_lits_over normal mode cands is are));
      any_over = tt;
      once = tt;
      left = tt;
    }

-- their disjunction may be asked, where a selector is there for it
pub may_ask_any : (normal there : Normal) (mode : Mode) (cands cands_there : List ℕ)
    (disjunctions : List (List Lit)) (any : List Lit) → there ≡ normal → IsNormal normal
    → All (IsCandidate normal.names) cands
    → any ≡ disjunction_of normal.names mode cands_there → cands_there ≡ cands
    → Contains disjunctions (disjunction_of normal.names mode cands)
    ⊎ (length disjunctions < selectors there)
    → MayAsk there disjunctions (record { assume = []; any = Some any })
may_ask_any normal there mode cands cands_there disjunctions any same is are its slice room =
    let it_is : any ≡ disjunction_of normal.names mode cands =
    its ∙ ap (disjunction_of normal.names mode) slice in
    record {
      over = All-nil (IsOver (greatest_body_var there));
      any_over =
          subst (λ it. All (IsOver (greatest_body_var it)) any) (sym same)
          (subst (All (IsOver (greatest_body_var normal))) (sym it_is)
          (disjunction_over normal mode cands is are));
      once = subst HasNoVariableTwice (sym it_is) (disjunction_once normal.names mode cands);
      left =
          subst (λ it. Contains disjunctions it ⊎ (length disjunctions < selectors there))
          (sym it_is) room;
    }
