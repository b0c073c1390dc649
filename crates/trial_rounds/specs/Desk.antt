-- A record and its only worker, in a cautious run.
use Rattle.std.specs.Prelude.{◌≡◌, length}
use Rattle.ground_program.specs.declared.program.Mode.TheVariants.{Cautious}
use Rattle.normal_program.specs.declared.normal.Normal.{Normal}
use Rattle.normal_program.specs.Limit.{IsNormal}
use Rattle.master_record.specs.Books.{Books}
use Rattle.worker_strategies.specs.Working.{Working}

-- both are of this normal form
pub record IsDesk (normal : Normal) (books : Books) (worker : Working) : Type 0 where
  pub form : IsNormal normal
  pub record_normal : books.normal ≡ normal
  pub record_mode : books.mode ≡ Cautious
  pub one : length books.workers ≡ 1
  pub worker_normal : worker.normal ≡ normal
  pub worker_mode : worker.mode ≡ Cautious
