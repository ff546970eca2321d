use Rattle.std.proofs.Common.{ℕ, length, drop, refl, sym, ap, ◌∙◌, arith}
use Rattle.home_queues.specs.Hints.{HintsValue}
use Rattle.home_queues.specs.declared.tally.PartCounts.{PartCounts}
use Rattle.home_queues.proofs.Closed.{spread_grows, next_dropped, length_last}
use Rattle.home_queues.proofs.closing.spread.Goals as goal

pub loop-part-preserved : goal.loop-part-preserved
loop-part-preserved c =
    let i = c.loop-part.invariant in let a = c.part.inside in let is = c.part.view_is in
    let owners = c.loop-part.owners.items in let counted : PartCounts = record { pushed = a.pushed; taken = a.taken } in
    let first = c.in-Some.ensures.steps.0 in
    let len = length_last c.push_within.new.items.items owners a.own c.push_within.ensures.items in
    record {
      spread = spread_grows c.args.lines (length owners) c.args.parts.items c.loop-part.part-iterator.rest.items c.next.new.self.rest.items owners c.push_within.new.items.items c.loop-part.rows.items c.push_within-in-loop-part.new.items.items
          c.loop-part.counts.items c.push_within-in-loop-part-2.new.items.items a.own a.rights counted a.number a.lines c.in-Some.part
          i.spread refl i.last first
          (ap (λ (h : HintsValue). h.deques) (sym is)) (ap (λ (h : HintsValue). h.number) (sym is)) (ap (λ (h : HintsValue). h.lines) (sym is)) (ap (λ (h : HintsValue). h.pushed) (sym is)) (ap (λ (h : HintsValue). h.taken) (sym is))
          c.part.invariant c.push_within.ensures.items c.push_within-in-loop-part.ensures.items c.push_within-in-loop-part-2.ensures.items;
      last = next_dropped (length owners) c.args.parts.items c.loop-part.part-iterator.rest.items c.next.new.self.rest.items c.in-Some.part i.last first ∙ ap (λ (k : ℕ). drop k c.args.parts.items) (sym len);
      owners_room = omega (arith, i.owners_room, c.push_within.ensures.capacity);
      rows_room = omega (arith, i.rows_room, c.push_within-in-loop-part.ensures.capacity);
      counts_room = omega (arith, i.counts_room, c.push_within-in-loop-part-2.ensures.capacity);
    }
