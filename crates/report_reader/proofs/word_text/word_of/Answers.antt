use Rattle.std.proofs.Common.{arith}
use Rattle.report_reader.specs.declared.word_text.Word.TheVariants as words
use Rattle.report_reader.proofs.WordLemmas.{word_reads}
use Rattle.report_reader.proofs.word_text.word_of.Goals as goal

pub returns-in-ANSWER : goal.returns-in-ANSWER
returns-in-ANSWER c =
    word_reads c.args.text.now words.Answer (omega arith) (
      omega arith,
      (
        omega arith,
        (
          omega arith,
          (
            omega arith,
            (
              omega arith,
              (
                omega arith,
                tt,
              ),
            ),
          ),
        ),
      ),
    )

pub returns-in-UNKNOWN : goal.returns-in-UNKNOWN
returns-in-UNKNOWN c =
    word_reads c.args.text.now words.Unknown (omega arith) (
      omega arith,
      (
        omega arith,
        (
          omega arith,
          (
            omega arith,
            (
              omega arith,
              (
                omega arith,
                (omega arith, tt),
              ),
            ),
          ),
        ),
      ),
    )

pub returns-in-COMPLETE : goal.returns-in-COMPLETE
returns-in-COMPLETE c =
    word_reads c.args.text.now words.Complete (omega arith) (
      omega arith,
      (
        omega arith,
        (
          omega arith,
          (
            omega arith,
            (
              omega arith,
              (
                omega arith,
                (omega arith, (omega arith, tt)),
              ),
            ),
          ),
        ),
      ),
    )

pub returns-in-PARTIAL : goal.returns-in-PARTIAL
returns-in-PARTIAL c =
    word_reads c.args.text.now words.Partial (omega arith) (
      omega arith,
      (
        omega arith,
        (
          omega arith,
          (
            omega arith,
            (
              omega arith,
              (
                omega arith,
                (omega arith, tt),
              ),
            ),
          ),
        ),
      ),
    )

pub returns-in-INCOHERENT : goal.returns-in-INCOHERENT
returns-in-INCOHERENT c =
    word_reads c.args.text.now words.Incoherent (omega arith) (
      omega arith,
      (
        omega arith,
        (
          omega arith,
          (
            omega arith,
            (
              omega arith,
              (
                omega arith,
                (omega arith, (omega arith, (omega arith, (omega arith, tt)))),
              ),
            ),
          ),
        ),
      ),
    )

pub returns-in-NOMEMORY : goal.returns-in-NOMEMORY
returns-in-NOMEMORY c =
    word_reads c.args.text.now words.NoMemory (omega arith) (
      omega arith,
      (
        omega arith,
        (
          omega arith,
          (
            omega arith,
            (
              omega arith,
              (
                omega arith,
                (omega arith, (omega arith, tt)),
              ),
            ),
          ),
        ),
      ),
    )

pub returns-in-REFUSED : goal.returns-in-REFUSED
returns-in-REFUSED c =
    word_reads c.args.text.now words.Refused (omega arith) (
      omega arith,
      (
        omega arith,
        (
          omega arith,
          (
            omega arith,
            (
              omega arith,
              (
                omega arith,
                (omega arith, tt),
              ),
            ),
          ),
        ),
      ),
    )
