use Rattle.std.proofs.Common.{◌≡◌, ℕ, suc, ◌<◌, ◌+◌, ◌∷◌, [], List, arith, ap, sym, ◌∙◌, subst, refl}
use Rattle.std.specs.Prelude.{None}
use Rattle.index_spaces.specs.Held.{held_at}
use Rattle.word_loads.specs.declared.loads.Load.{Load}
use Rattle.word_steps.specs.Table.{graph_of}
use Rattle.word_loads.proofs.GatherFacts.{found_none}
use Rattle.word_loads.proofs.ReaderFacts.{tried_in, may_still, then, now_more, other_more, takes_some, finds_seen}
use Rattle.word_loads.proofs.taking.take_some_share.Goals as goal

pub loop-tried-init : goal.loop-tried-init
loop-tried-init c = record {
  at = c.requires.at;
  few = omega arith;
  start = omega (arith, c.share_count-readers.ensures, c.requires.readers.0);
  count = omega (arith, c.share_count-readers.ensures, c.requires.readers.0);
  same = refl;
  found = ([], found_none c.args.seat.now.me, λ i low. absurd (omega (arith, low)));
}

pub tried_share-j-requires : goal.tried_share-j-requires
tried_share-j-requires c = (c.loop-tried.invariant.start, c.loop-tried-test.true, omega (arith, c.loop-tried.invariant.count, c.requires.readers.1))

pub take_seen-requires-clause-known : goal.take_seen-requires-clause-known
take_seen-requires-clause-known c =
    let t = tried_in _ c.loop-tried.tried _ c.loop-tried.invariant.start c.loop-tried-test.true in
    (c.requires.known, omega (arith, t.1, c.tried_share-j.ensures, c.loop-tried.invariant.count))

pub take_seen-requires-clause-reads : goal.take_seen-requires-clause-reads
take_seen-requires-clause-reads c =
    let t = tried_in _ c.loop-tried.tried _ c.loop-tried.invariant.start c.loop-tried-test.true in
    omega (arith, t.0, c.tried_share-j.ensures)

pub take_seen-requires-clause-may : goal.take_seen-requires-clause-may
take_seen-requires-clause-may c = let f = c.loop-tried.invariant.found in may_still (graph_of c.args.table.now) c.args.line c.args.c c.args.seat.now.me c.loop-tried.seat.me f.0 f.1 c.requires.may

pub take_seen-requires-clause-new : goal.take_seen-requires-clause-new
take_seen-requires-clause-new c = subst (λ (x : Load). held_at x.held c.args.c ≡ None) (sym c.loop-tried.invariant.same) c.requires.new

pub take_seen-requires-clause-few : goal.take_seen-requires-clause-few
take_seen-requires-clause-few c = subst (λ (x : Load). Rattle.std.proofs.Common.length x.held < 4) (sym c.loop-tried.invariant.same) c.requires.few

pub loop-tried-preserved : goal.loop-tried-preserved
loop-tried-preserved c =
    let g = graph_of c.args.table.now in
    let f = c.loop-tried.invariant.found in
    let b = c.take_seen.ensures.busy c.if-take_seen.false in
    let up : (k : ℕ) → suc k ≡ k + 1 = λ k. omega arith in
    record {
      at = c.take_seen.ensures.at;
      few = omega (arith, c.loop-tried-test.true);
      start = c.loop-tried.invariant.start;
      count = c.loop-tried.invariant.count;
      same = b.1 ∙ c.loop-tried.invariant.same;
      found = (
        then g c.args.line c.args.c c.args.seat.now.me c.loop-tried.seat.me c.take_seen.new.seat.me f.0 f.1 c.tried_share-j.result b.0,
        now_more g c.args.line c.args.c c.args.seat.now.me c.loop-tried.seat.me c.take_seen.new.seat.me f.0 f.1 c.tried_share-j.result b.0,
        (λ i low. other_more g c.args.line c.args.c c.args.seat.now.me c.loop-tried.seat.me c.take_seen.new.seat.me f.0 f.1 c.tried_share-j.result b.0 _ _ c.loop-tried.tried c.tried_share-j.ensures f.2 i (omega (arith, low))),
      );
    }

pub returns-then-take_seen-clause-taken : goal.returns-then-take_seen-clause-taken
returns-then-take_seen-clause-taken c = λ _.
    let g = graph_of c.args.table.now in
    let f = c.loop-tried.invariant.found in
    let t = tried_in _ c.loop-tried.tried _ c.loop-tried.invariant.start c.loop-tried-test.true in
    takes_some g c.args.line c.args.c c.args.seat.now.me c.loop-tried.seat.me c.take_seen.new.seat.me f.0 f.1 c.args.k c.tried_share-j.result c.args.load.now c.loop-tried.load c.take_seen.new.load c.loop-tried.invariant.same
    (omega (arith, t.0, c.tried_share-j.ensures)) (omega (arith, t.1, c.tried_share-j.ensures, c.loop-tried.invariant.count)) (c.take_seen.ensures.taken c.if-take_seen.true)

pub returns-clause-busy : goal.returns-clause-busy
returns-clause-busy c = λ _.
    let f = c.loop-tried.invariant.found in
    finds_seen (graph_of c.args.table.now) c.args.line c.args.c _ _ c.args.seat.now.me c.loop-tried.seat.me c.args.load.now c.loop-tried.load f.0 c.loop-tried.invariant.count c.loop-tried.invariant.start f.1 c.loop-tried.invariant.same
    (λ i low. f.2 i (omega (arith, low, c.loop-tried-test.false, c.loop-tried.invariant.few)))
