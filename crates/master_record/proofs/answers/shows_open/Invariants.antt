use Rattle.master_record.proofs.NewsLemmas.{ShowsNone}
use Rattle.master_record.proofs.answers.shows_open.Given as goal

abbrev pub invariant-loop-place : goal.invariant-loop-place
invariant-loop-place l = ShowsNone l.names l.mode l.candidates.pair l.set l.place
