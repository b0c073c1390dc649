use Rattle.lparse_reader.proofs.lemmas.Writing.TextPrograms.{text_reads, reading_gives, text_tells}
use Rattle.lparse_reader.proofs.text_laws.text_reads_back.Goals as goal

pub returns : goal.returns
returns c = record { reads = text_reads; gives = reading_gives; tells = text_tells }
