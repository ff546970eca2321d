use Rattle.std.proofs.Common.{arith, sym, subst, ◌<◌, ◌+◌, ◌-◌, ℕ, length}
use Rattle.std.specs.Prelude.{Contains}
use Rattle.std.specs.Slots.{slots_len, slots_items, slots_counts}
use Rattle.event_table.specs.Chains.{chain_in}
use Rattle.event_table.proofs.ChainSteps.{chain_out, chain_first, chain_later, chain_rest, at_default}
use Rattle.event_table.proofs.left.stands.Goals as goal

pub returns-then-next-eq0-clause-no : goal.returns-then-next-eq0-clause-no
returns-then-next-eq0-clause-no c = λ _ d. chain_out _ _ _ _ _ c.if-next-eq0.true (c.loop-left.invariant.back d)

pub returns-then-next-waiter-clause-yes : goal.returns-then-next-waiter-clause-yes
returns-then-next-waiter-clause-yes c = λ _. let i = c.loop-left.invariant in
    i.there (subst (Contains (chain_in c.loop-left.left c.args.shape.now.slots (slots_items c.args.closed.now.words) c.loop-left.next)) c.if-next-waiter.true (chain_first _ _ _ _ (omega (arith, c.loop-left-test.true)) c.if-next-eq0.false))

pub overflow_add-shape : goal.overflow_add-shape
overflow_add-shape c = let i = c.loop-left.invariant in
    let low = i.inside (c.loop-left.next - 1) (chain_first _ _ _ _ (omega (arith, c.loop-left-test.true)) c.if-next-eq0.false) in search (arith, c.requires.small, c.fits-shape, low)

pub get-next-requires : goal.get-next-requires
get-next-requires c = let i = c.loop-left.invariant in
    let low = i.inside (c.loop-left.next - 1) (chain_first _ _ _ _ (omega (arith, c.loop-left-test.true)) c.if-next-eq0.false) in
    let in' : c.args.shape.now.slots + (c.loop-left.next - 1) < slots_len c.args.closed.now.words = omega (arith, c.requires.wide, low) in
    (in', c.requires.full (c.args.shape.now.slots + (c.loop-left.next - 1)) (omega arith) in')

pub loop-left-preserved : goal.loop-left-preserved
loop-left-preserved c = let i = c.loop-left.invariant in
    let low = i.inside (c.loop-left.next - 1) (chain_first _ _ _ _ (omega (arith, c.loop-left-test.true)) c.if-next-eq0.false) in
    let in' : c.args.shape.now.slots + (c.loop-left.next - 1) < length (slots_items c.args.closed.now.words) = omega (arith, c.requires.wide, low, (slots_counts c.args.closed.now.words).0) in
    let same = at_default (slots_items c.args.closed.now.words) (c.args.shape.now.slots + (c.loop-left.next - 1)) c.get-next.result.now in' c.get-next.ensures in
    let some : 0 < c.loop-left.left = omega (arith, c.loop-left-test.true) in
    let move : (j : ℕ) → Contains (chain_in (c.loop-left.left - 1) c.args.shape.now.slots (slots_items c.args.closed.now.words) c.get-next.result.now) j → Contains (chain_in c.loop-left.left c.args.shape.now.slots (slots_items c.args.closed.now.words) c.loop-left.next) j = λ j d.
    chain_later c.loop-left.left c.args.shape.now.slots (slots_items c.args.closed.now.words) c.loop-left.next some c.if-next-eq0.false j (subst (λ x. Contains (chain_in (c.loop-left.left - 1) c.args.shape.now.slots (slots_items c.args.closed.now.words) x) j) same d) in
    record {
      inside = λ j d. i.inside j (move j d);
      there = λ d. i.there (move c.args.waiter d);
      back = λ d. subst (λ x. Contains (chain_in (c.loop-left.left - 1) c.args.shape.now.slots (slots_items c.args.closed.now.words) x) c.args.waiter) (sym same)
          (chain_rest c.loop-left.left c.args.shape.now.slots (slots_items c.args.closed.now.words) c.loop-left.next some c.if-next-eq0.false c.args.waiter c.if-next-waiter.false (i.back d));
    }
