use Rattle.clause_store.proofs.lemmas.Progress.ProgressLemmas as lemma
use Rattle.clause_store.proofs.laws.progress_is_bounded.Goals as goal

pub returns : goal.returns
returns c = lemma.progress_is_bounded
