use Rattle.std.proofs.Common.{◌+◌, length, ap, arith}
use Rattle.byte_edges.proofs.ReadingLemmas.{came_none, came_on, took_on, came_too_long, came_all}
use Rattle.byte_edges.proofs.ReadingLemmas.{came_to_end}
use Rattle.byte_edges.proofs.reading.read_all.Goals as goal

pub loop-bytes-init : goal.loop-bytes-init
loop-bytes-init g c = record {
  block = omega arith;
  within = omega (arith, ap length c.new-bytes.ensures.items);
  came =
      came_none (g.S.Source.left c.args.source.now) c.new-bytes.result.items
      c.new-bytes.ensures.items;
  count = omega arith;
}

pub loop-bytes-preserved : goal.loop-bytes-preserved
loop-bytes-preserved g c = record {
  block = omega arith;
  within = omega (arith, c.read_some.new.bytes.ok.0);
  came =
      came_on _ (g.S.Source.left c.loop-bytes.source) _ c.in_ok-read_some.field-0
      c.loop-bytes.bytes.items _
      c.loop-bytes.invariant.came c.in_ok-read_some.ensures.came c.in_ok-read_some.ensures.grown;
  count = omega arith;
}

pub returns-in_err-read_some-clause-taken : goal.returns-in_err-read_some-clause-taken
returns-in_err-read_some-clause-taken g c =
    took_on _ (g.S.Source.left c.loop-bytes.source) _ c.loop-bytes.bytes.items _ (c.args.limit + 1)
    c.loop-bytes.invariant.came c.read_some.ensures.taken (omega arith)

pub returns-then-len-limit-clause-taken : goal.returns-then-len-limit-clause-taken
returns-then-len-limit-clause-taken g c =
    took_on _ (g.S.Source.left c.loop-bytes.source) _ c.loop-bytes.bytes.items _ (c.args.limit + 1)
    c.loop-bytes.invariant.came c.read_some.ensures.taken (omega arith)

pub returns-clause-taken : goal.returns-clause-taken
returns-clause-taken g c =
    took_on _ (g.S.Source.left c.loop-bytes.source) _ c.loop-bytes.bytes.items _ (c.args.limit + 1)
    c.loop-bytes.invariant.came c.read_some.ensures.taken (omega arith)

pub returns-then-len-limit-clause-too_long : goal.returns-then-len-limit-clause-too_long
returns-then-len-limit-clause-too_long g c = λ _.
    came_too_long _ (g.S.Source.left c.loop-bytes.source) _ c.in_ok-read_some.field-0
    c.loop-bytes.bytes.items
    c.read_some.new.bytes.items _
    c.loop-bytes.invariant.came c.in_ok-read_some.ensures.came c.in_ok-read_some.ensures.grown
    (omega (arith, c.read_some.new.bytes.ok.0, c.in_ok-read_some.ensures.within))

pub returns-clause-all : goal.returns-clause-all
returns-clause-all g c =
    came_all _ (g.S.Source.left c.loop-bytes.source) (g.S.Source.left c.read_some.new.source)
    c.in_ok-read_some.field-0 c.loop-bytes.bytes.items c.read_some.new.bytes.items
    c.loop-bytes.invariant.came c.in_ok-read_some.ensures.came c.in_ok-read_some.ensures.grown
    (omega arith) (c.in_ok-read_some.ensures.end (omega arith))

pub returns-clause-end : goal.returns-clause-end
returns-clause-end g c =
    came_to_end _ (g.S.Source.left c.loop-bytes.source) (g.S.Source.left c.read_some.new.source)
    c.in_ok-read_some.field-0 c.loop-bytes.bytes.items c.read_some.new.bytes.items
    c.loop-bytes.invariant.came c.in_ok-read_some.ensures.came c.in_ok-read_some.ensures.grown
    (omega arith) (c.in_ok-read_some.ensures.end (omega arith))
