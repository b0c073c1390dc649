use Rattle.lparse_reader.proofs.lemmas.Calls.ParseLemmas.{answer_reads, answer_all_read}
use Rattle.lparse_reader.proofs.lemmas.Refusing.RefusalLemmas.{answer_refused, answer_all_refused}
use Rattle.lparse_reader.proofs.whole_text.parse.Goals as goal

pub returns-clause-read : goal.returns-clause-read
returns-clause-read c =
    answer_reads c.args.bytes.now c.parse_whole.result c.requires c.parse_whole.ensures

pub returns-clause-all_read : goal.returns-clause-all_read
returns-clause-all_read c =
    λ program reads. answer_all_read c.args.bytes.now c.parse_whole.result program
    c.parse_whole.ensures reads

pub returns-clause-refused : goal.returns-clause-refused
returns-clause-refused c =
    answer_refused c.args.bytes.now c.parse_whole.result c.requires c.parse_whole.ensures

pub returns-clause-all_refused : goal.returns-clause-all_refused
returns-clause-all_refused c =
    λ why line value refuses. answer_all_refused c.args.bytes.now c.parse_whole.result why line
    value c.requires c.parse_whole.ensures refuses
