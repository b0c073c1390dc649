use Rattle.std.proofs.Common.{ap}
use Rattle.coherence_test.proofs.SoundLemmas.{import_holds, import_sound}
use Rattle.coherence_test.proofs.search.Search.import.Goals as goal

pub add-requires-clause-holds : goal.add-requires-clause-holds
add-requires-clause-holds c values model =
    import_holds c.args.self.now.normal.now c.args.self.now.engine c.args.self.now.disjunctions
    c.args.lits.now values c.requires.sound c.requires.import model

pub returns-clause-sound : goal.returns-clause-sound
returns-clause-sound c =
    let old = c.args.self.now in
    let is = c.in_ok-add.ensures in
    import_sound old.normal.now old.engine c.add.new.self old.disjunctions c.args.lits.now
    c.requires.sound c.requires.import is.same (is.right is.alive) is.alive is.defined
    (ap (λ trail. trail.vars) is.back) is.ok
