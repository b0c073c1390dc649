use Rattle.master_record.proofs.ReportLemmas.{complete_report, incoherent_report, unknown_report}
use Rattle.master_record.proofs.ResizedLemmas.{resized_by}
use Rattle.master_record.proofs.laws.reports_end.Goals as goal

pub returns-clause-complete : goal.returns-clause-complete
returns-clause-complete c = λ program watch lines books may finished sized.
    complete_report program watch lines books may.form may.told may.inside may.watched finished sized

pub returns-clause-incoherent : goal.returns-clause-incoherent
returns-clause-incoherent c = λ program watch lines books may sound says.
    incoherent_report program watch lines books may.form may.told may.inside may.watched sound says

pub returns-clause-unknown : goal.returns-clause-unknown
returns-clause-unknown c = λ program watch lines books may unanswered sized.
    unknown_report program watch lines books may.form may.told may.inside may.watched unanswered sized

pub returns-clause-resized : goal.returns-clause-resized
returns-clause-resized c = resized_by
