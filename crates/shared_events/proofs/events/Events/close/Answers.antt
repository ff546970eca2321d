use Rattle.std.proofs.Common.{rules, arith, [], ◌∙◌, sym, ap, subst, length, inl, inr, ⊎_elim}
use Rattle.std.specs.Slots.{slots_items}
use Rattle.event_table.specs.declared.handle.Shape.{Shape}
use Rattle.event_table.specs.EventMap.{EventMap}
use Rattle.event_table.specs.Kept.{map_in}
use Rattle.shared_events.proofs.Cuts.{gathers}
use Rattle.shared_events.proofs.Close.{Closes, closes}
use Rattle.shared_events.proofs.events.Events.close.Goals as goal

pub join_seat-requires : goal.join_seat-requires
join_seat-requires c = let e = c.args.self.sized in (search rules, search rules, search rules, omega (arith, e.1, e.2), gathers _ _ _ _ _ c.args.seat.plain.1 c.args.maker.makes.0.1)

pub of_words-requires : goal.of_words-requires
of_words-requires c = let e = c.args.self.sized in let t = closes c.args.self.table.shared.key c.join_seat.new.seat.id c.args.maker.inner.me.0 c.args.seat.inner.me.0 c.join_seat.new.seat.me.0 (slots_items c.close_with-closed.result.words) (slots_items c.close_with-closed.result.slots) c.args.maker.makes.0.1 c.args.seat.plain.0.1 (ap (λ m. m.0) c.join_seat.ensures.2) c.close_with-closed.ensures.values.2 in
    let u = subst (λ (x : Shape). Closes x (slots_items c.close_with-closed.result.words) (map_in x (slots_items c.close_with-closed.result.words) []) c.args.maker.inner.me.0 c.args.seat.inner.me.0) e.0 t in
    record {
      full = c.close_with-closed.ensures.values.0;
      none = c.close_with-closed.ensures.counts.1 ∙ e.5;
      sized = (e.2, e.4, e.3, e.6);
      whole = c.close_with-closed.ensures.counts.0 ∙ e.1;
      shown = u.shown;
    }

pub returns : goal.returns
returns c = let e = c.args.self.sized in let t = closes c.args.self.table.shared.key c.join_seat.new.seat.id c.args.maker.inner.me.0 c.args.seat.inner.me.0 c.join_seat.new.seat.me.0 (slots_items c.close_with-closed.result.words) (slots_items c.close_with-closed.result.slots) c.args.maker.makes.0.1 c.args.seat.plain.0.1 (ap (λ m. m.0) c.join_seat.ensures.2) c.close_with-closed.ensures.values.2 in
    let words = slots_items c.close_with-closed.result.words in
    let is = c.of_words.ensures.map in
    let here = subst (λ (x : Shape). Closes x words (map_in x words []) c.args.maker.inner.me.0 c.args.seat.inner.me.0) e.0 t in
    let u = subst (λ (m : EventMap). Closes c.args.self.shape words m c.args.maker.inner.me.0 c.args.seat.inner.me.0) (sym is) here in
    record {
      map = (c.of_words.ensures.is_map, ap (λ (m : EventMap). m.caught) is);
      shape = (ap (λ (m : EventMap). length m.slots) is ∙ here.shown.high, ap (λ (m : EventMap). m.waiters) is, ap (λ (m : EventMap). m.last_gen) is);
      made = u.made;
      only = u.only;
      seen = λ h s. record { created = ⊎_elim inl (λ d. inr (u.seen h d)) s.seen };
      known = λ h f k. u.known h f k.known;
      placed = u.placed;
      given = u.given;
      emptied = u.emptied;
      past = u.past;
      left = u.left;
    }
