use Rattle.std.proofs.Common.{rules, ◌≡◌, sym, subst}
use Rattle.normal_program.proofs.RangeLemmas.{IsNormal-in_range}
use Rattle.pair_program.specs.Pairs.{IsPairProgram, FitsFormat}
use Rattle.pair_program.specs.Rules.{program_of}
use Rattle.pair_program.proofs.PairLemmas.{is_pair_program}
use Rattle.pair_program.proofs.pairing.pairs_of.Goals as goal

pub fits_format-requires : goal.fits_format-requires
fits_format-requires c = IsNormal-in_range c.args.normal.now c.requires

pub program_of-requires-clause-range : goal.program_of-requires-clause-range
program_of-requires-clause-range c = IsNormal-in_range c.args.normal.now c.requires

pub returns-clause-is : goal.returns-clause-is
returns-clause-is c =
    let fits : FitsFormat c.args.normal.now = search rules in
    let made : c.in_ok-program.program ≡ program_of c.args.normal.now =
    c.in_ok-program.ensures in
    subst (IsPairProgram c.args.normal.now) (sym made)
    (is_pair_program c.args.normal.now c.requires fits)
