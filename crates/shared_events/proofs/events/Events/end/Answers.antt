use Rattle.std.proofs.Common.{rules, arith, ◌≡◌, ◌∙◌, ap, sym, subst, [], refl, ◌<◌, ◌≤◌}
use Rattle.std.specs.Prelude.{Contains}
use Rattle.basics.specs.Sums.{total, below}
use Rattle.event_table.specs.declared.handle.Shape.{Shape}
use Rattle.event_table.specs.Words.{Follows}
use Rattle.shared_events.specs.Seats.{slots_of, last_gen_of}
use Rattle.shared_events.proofs.Cuts.{joins, splits, receipts, chases}
use Rattle.shared_events.proofs.Ends.{took, arms, all_ends, receipt_of, catches}
use Rattle.shared_events.proofs.End.{ends}
use Rattle.shared_events.proofs.Takes.{alone, has_key}
use Rattle.shared_events.proofs.Growing.{end_keeps, end_sees}
use Rattle.shared_events.proofs.events.Events.end.Goals as goal

pub join_seat-requires : goal.join_seat-requires
join_seat-requires c = let e = c.args.self.now.sized in (search rules, search rules, search rules, omega (arith, e.1, e.2), joins _ _ _ _ _ c.args.pending.pending.1)

pub mark-requires-clause-made : goal.mark-requires-clause-made
mark-requires-clause-made c = let p = c.args.pending.pending in let x : Shape = c.args.self.now.shape in
    (subst (λ l. c.args.pending.handle.slot < slots_of l) c.requires.pending.1 p.2, subst (λ l. c.args.pending.handle.gen_ ≤ last_gen_of l) c.requires.pending.1 p.3)

pub mark-requires-clause-right : goal.mark-requires-clause-right
mark-requires-clause-right c = (took c.args.seat.now.inner.me c.args.pending.inner.me c.join_seat.new.seat.me c.args.pending.handle c.args.seat.now.plain c.args.pending.pending c.join_seat.ensures.2).0.2

pub swap-found-requires : goal.swap-found-requires
swap-found-requires c = let e = c.args.self.now.sized in let p = c.args.pending.pending in let x : Shape = c.args.self.now.shape in
    let t = took c.args.seat.now.inner.me c.args.pending.inner.me c.join_seat.new.seat.me c.args.pending.handle c.args.seat.now.plain p c.join_seat.ensures.2 in
    let a = arms c.join_seat.new.seat.me c.mark.new.inner.me c.args.pending.handle c.args.fate t.0 t.1 c.mark.ensures.marked in
    let low : c.args.pending.handle.slot < x.slots = subst (λ l. c.args.pending.handle.slot < slots_of l) c.requires.pending.1 p.2 in (
      c.mark.ensures.at ∙ (c.join_seat.ensures.0 ∙ c.requires.at.0),
      omega (arith, e.1, c.word_of-at.ensures.slot),
      ends _ _ _ _ _ _ c.args.pending.handle [] a.rights (sym (c.word_of-at.ensures.same low)) a.caught a.marked (subst (λ (y : Shape). Follows y.last_gen c.args.pending.handle.gen_ c.next_word-next.result) (sym e.0) c.next_word-next.ensures),
    )

pub split_seat-told-requires : goal.split_seat-told-requires
split_seat-told-requires c = let e = c.args.self.now.sized in (c.swap-found.ensures.0 ∙ (c.mark.ensures.at ∙ (c.join_seat.ensures.0 ∙ c.requires.at.0)), omega (arith, e.1, e.2), splits _ _ _ _ _ (receipts _))

pub split_seat-chain-requires : goal.split_seat-chain-requires
split_seat-chain-requires c = let e = c.args.self.now.sized in (c.split_seat-told.ensures.0 ∙ (c.swap-found.ensures.0 ∙ (c.mark.ensures.at ∙ (c.join_seat.ensures.0 ∙ c.requires.at.0))), omega (arith, e.1, e.2), splits _ _ _ _ _ (chases _))

pub overflow_sub-caught : goal.overflow_sub-caught
overflow_sub-caught c = (all_ends c.args.seat.now.inner.me c.args.pending.inner.me _ _ _ c.args.pending.handle c.args.fate c.swap-found.result c.args.self.now.shape c.args.seat.now.plain c.args.pending.pending c.requires.at.1 c.args.self.now.sized.3 c.join_seat.ensures.2 c.mark.ensures.marked c.swap-found.ensures.2).0.some

pub invariant_of-receipt : goal.invariant_of-receipt
invariant_of-receipt c = let e = all_ends c.args.seat.now.inner.me c.args.pending.inner.me _ _ _ c.args.pending.handle c.args.fate c.swap-found.result c.args.self.now.shape c.args.seat.now.plain c.args.pending.pending c.requires.at.1 c.args.self.now.sized.3 c.join_seat.ensures.2 c.mark.ensures.marked c.swap-found.ensures.2 in
    record { receipt = receipt_of c.swap-found.new.seat.me c.split_seat-told.result.me c.args.pending.handle c.args.fate c.mark.new.inner.me.0.known e.0.known c.split_seat-told.ensures.4 }

pub invariant_of-caught : goal.invariant_of-caught
invariant_of-caught c = let e = all_ends c.args.seat.now.inner.me c.args.pending.inner.me _ _ _ c.args.pending.handle c.args.fate c.swap-found.result c.args.self.now.shape c.args.seat.now.plain c.args.pending.pending c.requires.at.1 c.args.self.now.sized.3 c.join_seat.ensures.2 c.mark.ensures.marked c.swap-found.ensures.2 in
    record { caught = catches c.mark.new.inner.me c.swap-found.new.seat.me c.split_seat-told.new.seat.me c.split_seat-chain.result.me c.args.pending.handle c.args.fate c.swap-found.result c.args.self.now.shape e.0 e.1 e.2 c.args.self.now.sized.3 c.split_seat-told.ensures.2 c.split_seat-chain.ensures.4 }

pub returns-clause-known : goal.returns-clause-known
returns-clause-known c = let e = all_ends c.args.seat.now.inner.me c.args.pending.inner.me _ _ _ c.args.pending.handle c.args.fate c.swap-found.result c.args.self.now.shape c.args.seat.now.plain c.args.pending.pending c.requires.at.1 c.args.self.now.sized.3 c.join_seat.ensures.2 c.mark.ensures.marked c.swap-found.ensures.2 in
    record { known = alone _ _ _ _ (ap (λ m. m.0.known) c.split_seat-chain.ensures.2 ∙ (ap (λ m. m.0.known) c.split_seat-told.ensures.2 ∙ e.0.known)) refl }

pub returns-clause-waiters : goal.returns-clause-waiters
returns-clause-waiters c = λ k d. let t = c.swap-found.ensures.2 in let e = all_ends c.args.seat.now.inner.me c.args.pending.inner.me _ _ _ c.args.pending.handle c.args.fate c.swap-found.result c.args.self.now.shape c.args.seat.now.plain c.args.pending.pending c.requires.at.1 c.args.self.now.sized.3 c.join_seat.ensures.2 c.mark.ensures.marked t in
    let placed : c.split_seat-chain.new.seat.me.0.placed ≡ c.mark.new.inner.me.0.placed = ap (λ m. m.0.placed) c.split_seat-chain.ensures.2 ∙ ap (λ m. m.0.placed) c.split_seat-told.ensures.2 ∙ ap (λ m. m.0.placed) t.5 in
    subst (λ l. Contains l k) (sym (ap (λ m. m.0.caught) c.split_seat-chain.ensures.4 ∙ ap (λ m. m.0.caught) c.split_seat-told.ensures.2)) (e.0.chased k (subst (λ l. Contains l (k, c.args.pending.handle)) placed d))

pub returns-clause-once : goal.returns-clause-once
returns-clause-once c = λ f. let e = all_ends c.args.seat.now.inner.me c.args.pending.inner.me _ _ _ c.args.pending.handle c.args.fate c.swap-found.result c.args.self.now.shape c.args.seat.now.plain c.args.pending.pending c.requires.at.1 c.args.self.now.sized.3 c.join_seat.ensures.2 c.mark.ensures.marked c.swap-found.ensures.2 in
    subst (λ l. total f l ≤ below f c.args.self.now.shape.waiters) (sym (ap (λ m. m.0.caught) c.split_seat-chain.ensures.4 ∙ ap (λ m. m.0.caught) c.split_seat-told.ensures.2)) (e.0.once c.args.self.now.shape (has_key _ _ e.2) f)

pub returns-clause-kept : goal.returns-clause-kept
returns-clause-kept c = end_keeps c.args.seat.now.inner.me c.args.pending.inner.me _ _ _ _ _ c.args.fate c.swap-found.result c.join_seat.ensures.2 c.mark.ensures.marked c.swap-found.ensures.2 c.split_seat-told.ensures.2 c.split_seat-chain.ensures.2

pub returns-clause-seen : goal.returns-clause-seen
returns-clause-seen c = end_sees c.args.seat.now.inner.me c.args.pending.inner.me _ _ _ _ _ c.args.pending.handle c.args.fate c.swap-found.result c.args.pending.pending.4 c.join_seat.ensures.2 c.mark.ensures.marked c.swap-found.ensures.2 c.split_seat-told.ensures.2 c.split_seat-chain.ensures.2
