-- What the states of the lines give: the handles of those that are issued, and which waiters are busy at first.
use Rattle.std.proofs.Common.{◌≡◌, ℕ, zero, suc, ◌+◌, ◌<◌, ◌≤◌, Bool, true, false, List, [], ◌∷◌, ◌++◌, length, replicate, take, refl, sym, ◌∙◌, ap, arith, get_or}
use Rattle.std.specs.Prelude.{Option, Some, None, slice_get}
use Rattle.std.proofs.lemmas.Bool.{true≢false}
use Rattle.std.proofs.lemmas.List.{take_more, length-replicate}
use Rattle.std.proofs.lemmas.List.Elements.{filter_map-append}
use Rattle.std.proofs.lemmas.Option.{none-some, same_Some, slice_get_within}
use Rattle.event_table.specs.declared.handle.Handle.{Handle}
use Rattle.event_table.specs.EventMap.{EventMap, IsFree}
use Rattle.graph_terms.specs.declared.outcome.End.TheVariants.{Done}
use Rattle.run_parts.specs.declared.answers.Stage.TheVariants as stages
use Rattle.run_lists.specs.Events.{AreMarked, handle_of_issued, issued_handles}
use Rattle.run_parts.specs.declared.states.LineState.{LineState}

-- the state that is read past the end
abbrev pub zero_state : LineState
zero_state = record { stage = stages.Unissued; end = Done; handle = record { slot = 0; gen_ = 0 }; time = 0 }

pub handles_more : (lines : List LineState) (k : ℕ) (d : LineState) → k < length lines → issued_handles (take (k + 1) lines) ≡ issued_handles (take k lines) ++ issued_handles (get_or lines k d ∷ [])
handles_more lines k d near = ap issued_handles (take_more lines k d near) ∙ filter_map-append handle_of_issued (take k lines) (get_or lines k d ∷ [])

one_by : (s : LineState) (o : Option Handle) → handle_of_issued s ≡ o → length (issued_handles (s ∷ [])) ≤ 1
one_by s None e = rw e (omega arith)
one_by s (Some h) e = rw e (omega arith)

pub one_handle : (s : LineState) → length (issued_handles (s ∷ [])) ≤ 1
one_handle s = one_by s (handle_of_issued s) refl

false_at : (n k : ℕ) (b : Bool) → slice_get (replicate n false) k ≡ Some b → b ≡ true → ⊥
false_at zero k b h e = none-some b h
false_at (suc n) zero b h e = true≢false (sym e ∙ sym (same_Some false b h))
false_at (suc n) (suc k) b h e = false_at n k b h e

pub marked_free : (m : EventMap) (busy : List Bool) (n : ℕ) → busy ≡ replicate n false → n ≡ m.waiters → ((k : ℕ) → k < m.waiters → IsFree m k) → AreMarked m busy
marked_free m busy n is long free = record {
  each = ap length is ∙ (length-replicate n false ∙ long);
  free = λ k h. free k (let near : k < length busy = slice_get_within busy k false h in let wide : length busy ≡ m.waiters = ap length is ∙ (length-replicate n false ∙ long) in omega (arith, near, wide));
  placed = λ k h. absurd (false_at n k true (ap (λ bs. slice_get bs k) (sym is) ∙ h) refl);
}
