use Rattle.std.proofs.Common.{◌<◌, ◌≤◌, length, sym, subst}
use Rattle.std.specs.Prelude.{slice_index, Vec, ℕ}
use Rattle.std.specs.Global.{Global}
use Rattle.section_sweeps.specs.Passing.{HasBit}
use Rattle.section_sweeps.specs.Group.{AreKnownFrom, AreOwn, IsAcquire, IsReleaseOf}
use Rattle.section_sweeps.proofs.Concluding.{are_swept}
use Rattle.section_sweeps.proofs.group.Group.sweep.Goals as goal

pub returns-clause-swept : goal.returns-clause-swept
returns-clause-swept c =
    let g = c.args.graph.now in
    let places = c.args.table.now.places.items in
    let t = c.requires.table in
    let opened = c.in_ok-high.ensures.opened in
    let up = c.sweep_up.ensures in
    let down = c.sweep_down-low.ensures in
    let acquires = c.open.new.self.acquires.items in
    let same = c.open.ensures.acquires in
    are_swept g t.is_graph places t.forward _ c.args.start c.sweep_down-low.result c.in_ok-high.high (record {
      behind_size = up.size;
      acquires_size = down.acquires_size;
      releases_size = down.releases_size;
      few = subst (λ (v : Vec ℕ Global). length v.items ≤ 64) (sym same) c.requires.few;
      known = subst (λ (v : Vec ℕ Global). AreKnownFrom g places v.items c.args.start) (sym same) c.requires.known;
      begins = down.low;
      end = c.in_ok-high.ensures.high.1;
      behind_own = subst (λ (v : Vec ℕ Global). AreOwn (IsAcquire acquires) v.items (length acquires)) (sym up.own) opened.behind_own;
      acquires_own = subst (λ (v : Vec ℕ Global). AreOwn (IsAcquire acquires) v.items (length acquires)) (sym down.acquires_own) opened.acquires_own;
      releases_own = subst (λ (v : Vec ℕ Global). AreOwn (IsReleaseOf g acquires) v.items (length acquires)) (sym down.releases_own) opened.releases_own;
      ends = subst (λ (v : Vec ℕ Global). (i b : ℕ) → HasBit v.items i b → slice_index places i < c.in_ok-high.high) (sym down.releases_own) opened.ends;
      released = c.are_released.ensures c.if-not-are_released.false;
      behind_is = up.is;
      behind_all = up.all;
      behind_within = up.within;
      acquires_is = down.acquires_is;
      releases_is = down.releases_is;
      releases_all = down.releases_all;
      sources = down.sources;
      acquires_within = down.acquires_within;
      releases_within = down.releases_within;
    })
