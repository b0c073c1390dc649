-- The disjunction that is asked for a list of candidates.
use Rattle.std.specs.Prelude.{ℕ, Bool, ◌==◌, List, [], ◌∷◌, ◌++◌, Option, None, Some}
use Rattle.std.specs.Prelude.{if◌then◌else◌, fold, map}
use Rattle.std.specs.List.{list_any}
use Rattle.ground_program.specs.declared.program.Mode.{Mode}
use Rattle.ground_program.specs.declared.program.Named.{Named}
use Rattle.clause_store.specs.declared.literal.Lit.{Lit}
use Rattle.coherence_test.specs.declared.asked.Asked.{Asked}
use Rattle.worker_jobs.specs.declared.job.Job.{Job}
use Rattle.worker_jobs.specs.declared.job.Job.TheVariants.{Idle, Coherence, Single, Reduce, Chunk}
use Rattle.worker_jobs.specs.Job.{test_literal}

-- whether a list has the literal
abbrev pub has_literal : List Lit → Lit → Bool
has_literal lits lit = list_any (λ other. other.0 == lit.0) lits

-- the list with a literal, which is put last where it is new
abbrev pub with_literal : List Lit → Lit → List Lit
with_literal lits lit = if has_literal lits lit then lits else lits ++ lit ∷ []

-- the test literals of candidates, each once, in the order in which they come first
abbrev pub disjunction_of : List Named → Mode → List ℕ → List Lit
disjunction_of names mode cands =
    fold (λ lits cand. with_literal lits (test_literal names mode cand)) [] cands

-- the disjunction of a job, if it has one
abbrev pub disjunction_for : List Named → Mode → Job → Option (List Lit)
disjunction_for names mode Idle = None
disjunction_for names mode Coherence = None
disjunction_for names mode (Single cand) = None
disjunction_for names mode (Reduce cands) = Some (disjunction_of names mode cands)
disjunction_for names mode (Chunk cands) = None

-- the literal of a job, if it tests one candidate
abbrev pub literal_for : List Named → Mode → Job → Option Lit
literal_for names mode Idle = None
literal_for names mode Coherence = None
literal_for names mode (Single cand) = Some (test_literal names mode cand)
literal_for names mode (Reduce cands) = None
literal_for names mode (Chunk cands) = None

-- the literals that a job assumes
abbrev pub assumed_for : List Named → Mode → Job → List Lit
assumed_for names mode Idle = []
assumed_for names mode Coherence = []
assumed_for names mode (Single cand) = test_literal names mode cand ∷ []
assumed_for names mode (Reduce cands) = []
assumed_for names mode (Chunk cands) = map (test_literal names mode) cands

-- what a job asks
abbrev pub asked_for : List Named → Mode → Job → Asked
asked_for names mode job = record {
  assume = assumed_for names mode job;
  any = disjunction_for names mode job;
}
