use Rattle.normal_program.proofs.RangeLemmas.{IsNormal-in_range}
use Rattle.normal_program.proofs.lemmas.Entailed.ChoiceLemmas.{body_clause-entailed}
use Rattle.normal_program.proofs.lemmas.Entailed.LoopLemmas.{loop_clause-entailed}
use Rattle.normal_program.proofs.lemmas.Entailed.GroundedLemmas.{local-entailed}
use Rattle.normal_program.proofs.laws.local_clauses_are_entailed.Goals as goal

pub returns-clause-loops : goal.returns-clause-loops
returns-clause-loops c = λ normal atoms clause disjunctions is loop.
    loop_clause-entailed normal (IsNormal-in_range normal is) atoms clause disjunctions loop

pub returns-clause-bodies : goal.returns-clause-bodies
returns-clause-bodies c = λ normal clause disjunctions is follows.
    body_clause-entailed normal (IsNormal-in_range normal is) clause disjunctions follows

pub returns-clause-local : goal.returns-clause-local
returns-clause-local c = λ normal clause disjunctions is local.
    local-entailed normal (IsNormal-in_range normal is) clause disjunctions local
