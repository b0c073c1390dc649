use Rattle.clause_store.proofs.lemmas.Units.HistoryLemmas as lemma
use Rattle.clause_store.proofs.laws.history_takes_counted.Goals as goal

pub returns : goal.returns
returns c = lemma.history_takes_counted
