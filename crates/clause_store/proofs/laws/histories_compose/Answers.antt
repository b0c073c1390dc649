use Rattle.clause_store.proofs.lemmas.Units.HistoryLemmas as lemma
use Rattle.clause_store.proofs.laws.histories_compose.Goals as goal

pub returns : goal.returns
returns c = lemma.histories_compose
