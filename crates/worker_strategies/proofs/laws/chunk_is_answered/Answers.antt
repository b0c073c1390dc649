use Rattle.worker_strategies.proofs.ChunkLemmas as lemma
use Rattle.worker_strategies.specs.Literals.{named_of}
use Rattle.worker_strategies.proofs.laws.chunk_is_answered.Goals as goal

pub returns-clause-found : goal.returns-clause-found
returns-clause-found c = lemma.chunk_found

pub returns-clause-none : goal.returns-clause-none
returns-clause-none c normal mode cands is are core core_is empty =
    let named = named_of normal.names mode core.lits cands in
    lemma.chunk_none normal mode cands is are core core_is named
    (lemma.named_are normal.names mode cands core.lits) empty

pub returns-clause-proved : goal.returns-clause-proved
returns-clause-proved c normal mode cands is are core core_is one single first =
    let named = named_of normal.names mode core.lits cands in
    lemma.chunk_proved normal mode cands is are core core_is named
    (lemma.named_are normal.names mode cands core.lits) one single first

pub returns-clause-halves : goal.returns-clause-halves
returns-clause-halves c normal mode cands core half some less stop after below =
    let named = named_of normal.names mode core.lits cands in
    let are = lemma.named_are normal.names mode cands core.lits in
    (lemma.half_is cands named half are.among are.few some less, below)
