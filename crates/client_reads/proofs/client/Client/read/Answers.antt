use Rattle.std.proofs.Common.{subst}
use Rattle.ground_program.specs.Bounds.{Encloses}
use Rattle.normal_program.specs.declared.normal.Normal.{Normal}
use Rattle.anytime_core.specs.Truth.{EnclosesN}
use Rattle.anytime_core.proofs.LaterLemmas.{encloses_the_program}
use Rattle.bounds_board.specs.Board.{mode_of}
use Rattle.client_reads.specs.Client.{Watch}
use Rattle.client_reads.proofs.client.Client.read.Goals as goal

pub invariant_of-self : goal.invariant_of-self
invariant_of-self c =
    let it = c.self.inside in
    let is = c.self.invariant in
    let mode = mode_of it.board.now in
    record {
      valid = is.valid;
      normal_form = is.normal_form;
      form = is.form;
      about = is.about;
      of_board = c.read_again.ensures.seat;
      encloses = encloses_the_program it.normal.now it.program.now mode c.read_again.new.last is.form
          (subst (λ (n : Normal). EnclosesN n mode c.read_again.new.last) is.about
          c.read_again.ensures.encloses);
    }

pub returns-clause-encloses : goal.returns-clause-encloses
returns-clause-encloses c =
    let it = c.self.inside in
    let is = c.self.invariant in
    let mode = mode_of it.board.now in
    subst (λ (w : Watch). Encloses w.program (mode_of w.board) c.read_again.new.last) c.self.view_is
    (encloses_the_program it.normal.now it.program.now mode c.read_again.new.last is.form
    (subst (λ (n : Normal). EnclosesN n mode c.read_again.new.last) is.about
    c.read_again.ensures.encloses))
