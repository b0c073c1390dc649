use Rattle.clause_store.proofs.lemmas.Progress.ProgressLemmas as lemma
use Rattle.clause_store.proofs.laws.present_after_back.Goals as goal

pub returns : goal.returns
returns c = lemma.present_after_back
