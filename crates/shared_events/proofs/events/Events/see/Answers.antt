use Rattle.std.proofs.Common.{rules, arith, ap, subst, sym, ◌<◌}
use Rattle.event_table.specs.declared.handle.Shape.{Shape}
use Rattle.shared_events.specs.Seats.{slots_of}
use Rattle.shared_events.proofs.Cuts.{joins, splits, grants}
use Rattle.shared_events.proofs.Steps.{looks}
use Rattle.shared_events.proofs.Growing.{keeps}
use Rattle.shared_events.proofs.See.{sees}
use Rattle.shared_events.proofs.events.Events.see.Goals as goal

pub split_seat-right-requires : goal.split_seat-right-requires
split_seat-right-requires c = let e = c.args.self.now.sized in (search rules, omega (arith, e.1, e.2), splits _ _ _ _ _ (grants _))

pub join_seat-requires : goal.join_seat-requires
join_seat-requires c = let e = c.args.self.now.sized in (search rules, search rules, ap (λ m. m.1) c.split_seat-right.ensures.4, omega (arith, e.1, e.2), joins _ _ _ _ _ (ap (λ m. m.0.caught) c.split_seat-right.ensures.4))

pub load-requires : goal.load-requires
load-requires c = let e = c.args.self.now.sized in let low = c.word_of-at.ensures.slot in
    (search rules, omega (arith, e.1), looks c.args.self.now.table.shared.key _ _ _ _ (subst (λ (x : Shape). c.word_of-at.result < x.slots) (sym e.0) low))

pub split_seat-requires : goal.split_seat-requires
split_seat-requires c = let e = c.args.self.now.sized in (search rules, omega (arith, e.1, e.2), splits _ _ _ _ _ (grants _))

pub returns : goal.returns
returns c =
    let p = c.args.pending.now in
    let low : p.handle.slot < c.args.self.now.shape.slots = subst (λ l. p.handle.slot < slots_of l) c.requires.pending.1 p.pending.2 in
    let s = sees c.args.seat.now.inner.me p.inner.me c.split_seat-right.result.me c.join_seat.new.seat.me c.load.new.seat.me c.split_seat.new.seat.me p.handle c.word_of-at.result c.load.result c.args.seat.now.plain p.pending (c.word_of-at.ensures.same low) c.split_seat-right.ensures.4 c.join_seat.ensures.2 c.load.ensures.2 c.split_seat.ensures.2 in
    record {
      at = search rules;
      pending = search rules;
      handle = search rules;
      grows = search rules;
      kept = keeps c.args.seat.now.inner.me.0 c.split_seat.new.seat.me.0 (search rules);
      found = s.found;
      unknown = s.unknown;
      not_past = s.not_past;
      unleft = s.unleft;
      more_seen = search rules;
      same_known = search rules;
      same_placings = search rules;
      same_left = search rules;
    }
