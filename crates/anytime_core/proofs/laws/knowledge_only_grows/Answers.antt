use Rattle.anytime_core.proofs.LaterLemmas.{events_keep, pairs_narrow, reports_are_held}
use Rattle.anytime_core.proofs.LaterLemmas.{told_have_both}
use Rattle.anytime_core.proofs.laws.knowledge_only_grows.Goals as goal

pub returns-clause-keep : goal.returns-clause-keep
returns-clause-keep c = events_keep

pub returns-clause-narrow : goal.returns-clause-narrow
returns-clause-narrow c = pairs_narrow

pub returns-clause-reports : goal.returns-clause-reports
returns-clause-reports c = reports_are_held

pub returns-clause-told : goal.returns-clause-told
returns-clause-told c = told_have_both
