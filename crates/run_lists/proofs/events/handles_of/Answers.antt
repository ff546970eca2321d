use Rattle.std.proofs.Common.{◌≡◌, ◌≤◌, ◌+◌, ◌++◌, ◌∷◌, [], length, ap, sym, ◌∙◌, arith, length-append, get_or}
use Rattle.run_lists.specs.Events.{issued_handles}
use Rattle.run_lists.proofs.HandleFacts.{zero_state, handles_more, one_handle}
use Rattle.run_lists.proofs.events.handles_of.Goals as goal

pub loop-state-preserved : goal.loop-state-preserved
loop-state-preserved c =
    let old = c.loop-state.handles in
    let new = c.push_handle.new.handles in
    let i = c.loop-state.invariant in
    let s = get_or c.args.lines.now c.loop-state.state-index zero_state in
    record {
      so_far = c.push_handle.ensures.items ∙ (ap (λ hs. hs ++ issued_handles (s ∷ [])) i.so_far ∙ sym (handles_more c.args.lines.now c.loop-state.state-index zero_state c.loop-state-test.true));
      few = (let more : length new.items ≡ length old.items + length (issued_handles (s ∷ [])) = ap length c.push_handle.ensures.items ∙ length-append old.items (issued_handles (s ∷ [])) in let one : length (issued_handles (s ∷ [])) ≤ 1 = one_handle s in omega (arith, more, one, old.ok.0, new.ok.0, i.few));
      room = (let wide = c.push_handle.ensures.room in omega (arith, wide, i.room));
    }
