use Rattle.worker_jobs.proofs.CandidateLemmas as lemma
use Rattle.worker_jobs.proofs.laws.shown_is_not_proved.Goals as goal

pub returns-clause-shows : goal.returns-clause-shows
returns-clause-shows c = lemma.test_literal_shows

pub returns-clause-apart : goal.returns-clause-apart
returns-clause-apart c = lemma.shown_is_not_proved
