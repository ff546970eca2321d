use Rattle.std.proofs.Common.{◌≡◌, ◌+◌, ◌-◌, ◌<◌, true, false, length, sym, subst, ◌∙◌, arith}
use Rattle.graph_terms.specs.Graph.{never_comes}
use Rattle.slot_need.specs.High.{IsFlood}
use Rattle.slot_need.proofs.FloodSteps.{done_from, done_none, done_heavier, done_more, done_skip, done_all}
use Rattle.slot_need.proofs.high_numbers.Flood.reach_from_all.Goals as goal

pub loop-line-init : goal.loop-line-init
loop-line-init c = record {
  within = omega arith;
  flood = done_none c.args.graph.now c.args.self.now.marks.by_line.items c.args.self.now.marks.pending.items c.args.self.now.noted.items c.lines-line.result c.lines-line.ensures.number c.requires.flood;
}

pub loop-line-preserved-in-Continue-1 : goal.loop-line-preserved-in-Continue-1
loop-line-preserved-in-Continue-1 c =
    let g = c.args.graph.now in
    let s = c.loop-line.self in
    let n = c.reach.new.self in
    let up : c.loop-line.line ≡ (c.loop-line.line - 1) + 1 = omega arith in
    let below : c.loop-line.line - 1 < length g.lines = omega (arith, c.loop-line.invariant.within) in
    let comes : never_comes g (c.loop-line.line - 1) ≡ false = sym c.never_comes.ensures ∙ c.if-not-never_comes.true in
    let flood = subst (λ k. IsFlood g (done_from g k) s.marks.by_line.items s.marks.pending.items s.noted.items) up c.loop-line.invariant.flood in
    record {
      within = omega (arith, c.loop-line.invariant.within);
      flood = done_more g (c.loop-line.line - 1) n.marks.by_line.items n.marks.pending.items n.noted.items below
          (c.in_ok-reach.ensures (done_from g ((c.loop-line.line - 1) + 1)) flood (λ d h. done_heavier g (c.loop-line.line - 1) d below comes h));
    }

pub loop-line-preserved : goal.loop-line-preserved
loop-line-preserved c =
    let g = c.args.graph.now in
    let s = c.loop-line.self in
    let up : c.loop-line.line ≡ (c.loop-line.line - 1) + 1 = omega arith in
    let never : never_comes g (c.loop-line.line - 1) ≡ true = sym c.never_comes.ensures ∙ c.if-not-never_comes.false in
    record {
      within = omega (arith, c.loop-line.invariant.within);
      flood = done_skip g (c.loop-line.line - 1) s.marks.by_line.items s.marks.pending.items s.noted.items never
          (subst (λ k. IsFlood g (done_from g k) s.marks.by_line.items s.marks.pending.items s.noted.items) up c.loop-line.invariant.flood);
    }

pub returns-clause-high : goal.returns-clause-high
returns-clause-high c =
    let g = c.args.graph.now in
    let s = c.loop-line.self in
    let none : c.loop-line.line ≡ 0 = omega arith in
    done_all c.edges_between_lines.ensures g c.lines-line.ensures.is_graph s.marks.by_line.items s.marks.pending.items s.noted.items
    (subst (λ k. IsFlood g (done_from g k) s.marks.by_line.items s.marks.pending.items s.noted.items) none c.loop-line.invariant.flood)
