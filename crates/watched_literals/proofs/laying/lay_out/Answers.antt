use Rattle.std.proofs.Common.{arith, refl}
use Rattle.std.proofs.lemmas.List.{length-map}
use Rattle.clause_store.specs.Standing.{as_followed}
use Rattle.watched_literals.specs.declared.tables.Tables.{Tables}
use Rattle.watched_literals.proofs.LayingLemmas.{laid_watching}
use Rattle.watched_literals.proofs.laying.lay_out.Goals as goal

pub returns : goal.returns
returns c =
    let laid : Tables = record c.choose_all.new.tables { chains = c.link_all.new.self } in
    record {
      running = record {
        named = c.requires.running.named;
        over = c.requires.running.over;
        of_store = c.requires.running.of_store;
        is_trail = c.requires.running.is_trail;
        watching =
            laid_watching c.args.entries.now c.args.trail.now c.choose_all.new.tables laid
            c.args.next c.choose_all.ensures c.requires.running.is_trail
            c.link_all.ensures refl refl
            (omega (
              arith,
              c.requires.running.watching.reached,
              length-map c.args.trail.now.steps as_followed,
            ));
      };
    }
