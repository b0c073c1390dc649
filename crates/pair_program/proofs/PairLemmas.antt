-- What is made for a normal form is its pair program.
use Rattle.std.proofs.Common.{refl}
use Rattle.normal_program.specs.declared.normal.Normal.{Normal}
use Rattle.normal_program.specs.Limit.{IsNormal}
use Rattle.normal_program.proofs.RangeLemmas.{IsNormal-in_range}
use Rattle.pair_program.specs.Pairs.{IsPairProgram, FitsFormat}
use Rattle.pair_program.specs.Rules.{program_of}
use Rattle.pair_program.proofs.ModelLemmas.{pair_into, model_out, any_free}
use Rattle.pair_program.proofs.FitsLemmas.{program_fits}

-- what is made for a normal form is its pair program
pub is_pair_program : (normal : Normal) → IsNormal normal → FitsFormat normal
    → IsPairProgram normal (program_of normal)
is_pair_program normal is fits =
    let range = IsNormal-in_range normal is in
    record {
      valid = program_fits normal is range fits;
      atoms = refl;
      free = any_free normal;
      into = λ whole part pair. pair_into normal whole part pair range;
      out = model_out normal range;
    }
