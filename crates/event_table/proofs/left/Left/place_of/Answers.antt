use Rattle.std.proofs.Common.{◌≡◌, ◌∙◌, ◌%◌, ◌<◌, ap, sym, length, arith}
use Rattle.std.specs.Slots.{slots_items}
use mathlib.Core.Logic.{dite}
use native.Mathlib.Decide.{ℕ_discrete}
use Rattle.event_table.specs.EventMap.{IsPlaced}
use Rattle.event_table.specs.declared.handle.Handle.{Handle}
use Rattle.event_table.proofs.ChainSteps.{at_default}
use Rattle.event_table.proofs.LeftChains.{all_waiters, placed_is, placed_odd}
use Rattle.event_table.proofs.left.Left.place_of.Goals.{else-turns-eq1-via-then-turns-eq1+else-stands, else-turns-eq1-via-else-turns-eq1}
use Rattle.event_table.proofs.left.Left.place_of.Goals as goal

pub stands-requires-clause-chain : goal.stands-requires-clause-chain
stands-requires-clause-chain c = let s = c.self.inside in let k = c.self.invariant in
    let in' : c.loop-slot.slot < length (slots_items s.closed.words) = omega (arith, k.shown.wide, c.loop-slot-test.true) in
    let same = at_default (slots_items s.closed.words) c.loop-slot.slot c.get-word.result.now in' c.get-word.ensures in
    all_waiters s.shape (slots_items s.closed.words) c.args.self.now k.sized.2 k.shown c.self.view_is c.loop-slot.slot c.get-word.result.now c.loop-slot-test.true same (ap (λ n. n % 2) (sym c.turns.ensures) ∙ c.if-turns-eq1.true)

pub returns-then-stands-clause-some : goal.returns-then-stands-clause-some
returns-then-stands-clause-some c = let s = c.self.inside in let k = c.self.invariant in
    let in' : c.loop-slot.slot < length (slots_items s.closed.words) = omega (arith, k.shown.wide, c.loop-slot-test.true) in
    let same = at_default (slots_items s.closed.words) c.loop-slot.slot c.get-word.result.now in' c.get-word.ensures in
    placed_is s.shape (slots_items s.closed.words) c.args.self.now k.sized.2 k.shown c.self.view_is c.loop-slot.slot c.get-word.result.now c.loop-slot-test.true same c.args.waiter c.handle_at.result (ap (λ n. n % 2) (sym c.turns.ensures) ∙ c.if-turns-eq1.true) c.handle_at.ensures.0 c.handle_at.ensures.1 (c.stands.ensures.yes c.if-stands.true)

pub loop-slot-preserved : goal.loop-slot-preserved
loop-slot-preserved c = let s = c.self.inside in let k = c.self.invariant in
    let in' : c.loop-slot.slot < length (slots_items s.closed.words) = omega (arith, k.shown.wide, c.loop-slot-test.true) in
    let same = at_default (slots_items s.closed.words) c.loop-slot.slot c.get-word.result.now in' c.get-word.ensures in
    let here : (h : Handle) → h.slot ≡ c.loop-slot.slot → IsPlaced c.args.self.now c.args.waiter h → ⊥ = λ h e p.
    let t = placed_odd s.shape (slots_items s.closed.words) c.args.self.now k.sized.2 k.shown c.self.view_is c.loop-slot.slot c.get-word.result.now c.loop-slot-test.true same c.args.waiter h e p in
    elim c.else-turns-eq1.branch [
      | else-turns-eq1-via-then-turns-eq1+else-stands w ↦ w.stands.ensures.no w.if-stands.false t.1
      | else-turns-eq1-via-else-turns-eq1 w ↦ w.if-turns-eq1.false (ap (λ n. n % 2) c.turns.ensures ∙ t.0)
    ] in
    record {
      within = omega (arith, c.loop-slot-test.true);
      none = λ h l p. dite (ℕ_discrete h.slot c.loop-slot.slot) (λ e. here h e p) (λ n. c.loop-slot.invariant.none h (omega arith) p);
    }
