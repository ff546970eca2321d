use Rattle.std.proofs.Common.{◌≡◌, ◌+◌, length, sym, subst, ◌∙◌, arith}
use Rattle.slot_need.specs.High.{IsFlood}
use Rattle.slot_need.specs.declared.high_numbers.Flood.{Flood}
use Rattle.slot_need.proofs.FloodSteps.{never_below, never_none, never_heavier, never_more, never_skip, never_done}
use Rattle.slot_need.proofs.high_numbers.Flood.reach_from_unended.Goals as goal
use Rattle.slot_need.proofs.high_numbers.Flood.reach_from_unended.Goals.{then-never_comes+in_ok-reach, else-never_comes}

pub loop-line-init : goal.loop-line-init
loop-line-init c = never_none c.args.graph.now _ _ _ c.requires.flood

pub loop-line-preserved : goal.loop-line-preserved
loop-line-preserved c =
    let g = c.args.graph.now in
    let i = c.loop-line.line in
    elim c.if-never_comes.branch [
      | then-never_comes+in_ok-reach w ↦ subst (λ (s : Flood). IsFlood g (never_below g (i + 1)) s.marks.by_line.items s.marks.pending.items s.noted.items) (sym w.self-is)
          (never_more g i w.reach.new.self.marks.by_line.items w.reach.new.self.marks.pending.items w.reach.new.self.noted.items (sym c.never_comes.ensures ∙ w.if-never_comes.true)
          (w.in_ok-reach.ensures (never_below g i) c.loop-line.invariant (λ d h. never_heavier g i i d (omega arith) h)))
      | else-never_comes w ↦ subst (λ (s : Flood). IsFlood g (never_below g (i + 1)) s.marks.by_line.items s.marks.pending.items s.noted.items) (sym w.self-is)
          (never_skip g i c.loop-line.self.marks.by_line.items c.loop-line.self.marks.pending.items c.loop-line.self.noted.items (sym c.never_comes.ensures ∙ w.if-never_comes.false) c.loop-line.invariant)
    ]

pub returns : goal.returns
returns c =
    let g = c.args.graph.now in
    let s = c.loop-line.self in
    let all : c.loop-line.line ≡ length g.lines = omega arith in
    never_done g s.marks.by_line.items s.marks.pending.items s.noted.items (subst (λ n. IsFlood g (never_below g n) s.marks.by_line.items s.marks.pending.items s.noted.items) all c.loop-line.invariant)
