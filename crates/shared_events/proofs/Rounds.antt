-- The Maker goes round the slots.
use Rattle.std.proofs.Common.{◌≡◌, ◌∙◌, ℕ, ◌+◌, ◌-◌, ◌<◌, ◌≤◌, List, [], ◌∷◌, ◌++◌, length, get_or, sym, subst, ap, ⊎_elim, arith, length-append}
use Rattle.std.specs.Prelude.{Contains}
use Rattle.std.proofs.Math.Seq.{get_or-append_seam}
use Rattle.std.proofs.lemmas.List.{get_or_append_left}
use Rattle.std.proofs.lemmas.List.Elements.{Contains-append_cases}
use mathlib.Core.Logic.{dite}
use native.Mathlib.Decide.{ℕ_discrete, dec_le}
use Rattle.event_table.specs.Words.{handle_at}
use Rattle.shared_events.specs.Views.{GoesRound, ComesNext}
use Rattle.event_table.specs.declared.handle.Handle.{Handle}
use Rattle.basics.proofs.ListFacts.{contains_one as Contains-one}

module _ (slots next slot gen : ℕ) (made : List Handle) (o : GoesRound slots next made) (at : next < slots → ComesNext made next slot) (below : (g : ℕ) → g < gen → Contains made (handle_at slot g)) where
  -- before each slot has served
  in_turn : length made < slots → (slot ≡ next) × (gen ≡ 0)
  in_turn l =
      let f = o.first l in
      let same : slot ≡ next = ⊎_elim (λ e. e) (λ t. absurd (let b = f.1 t.0 t.2 in omega (arith, t.1))) (at (omega (arith, f.0))) in
      (same, dite (ℕ_discrete gen 0) (λ e. e) (λ n. absurd (let b = f.1 (handle_at slot 0) (below 0 (omega arith)) in omega arith)))

  size : length (made ++ handle_at slot gen ∷ []) ≡ length made + 1
  size = length-append made (handle_at slot gen ∷ [])

  -- the generation before a later one bounds it
  bounded : 0 < gen → gen + slots ≤ length made + 1
  bounded l =
      let c = below (gen - 1) (omega arith) in
      let all : slots ≤ length made = dite (dec_le slots (length made)) (λ m. m) (λ n. absurd (let t = (in_turn (omega arith)).1 in omega arith)) in
      dite (ℕ_discrete gen 1) (λ e. omega arith) (λ n. let x = o.later c.0 (handle_at slot (gen - 1)) c.1 c.2 (omega arith) in omega (arith, c.1))

  pub one_round_on : GoesRound slots (slot + 1) (made ++ handle_at slot gen ∷ [])
  one_round_on = record {
    first = λ l. let before : length made < slots = omega (arith, size) in let f = o.first before in let t = in_turn before in (
      omega (arith, size, t.0, f.0),
      λ h c. ⊎_elim (λ d. let x = f.1 h d in omega (arith, t.0)) (λ d. subst (λ (x : Handle). x.slot < slot + 1) (Contains-one (handle_at slot gen) h d) (omega arith)) (Contains-append_cases made (handle_at slot gen ∷ []) h c),
    );
    later = λ k h near is pos. dite (ℕ_discrete k (length made))
        (λ e. let same : handle_at slot gen ≡ h = sym (get_or-append_seam made (handle_at slot gen) [] h) ∙ (ap (λ n. get_or (made ++ handle_at slot gen ∷ []) n h) (sym e) ∙ is) in
        let g : gen ≡ h.gen_ = ap (λ (x : Handle). x.gen_) same in omega (arith, bounded (omega arith)))
        (λ n. let low : k < length made = omega (arith, size) in o.later k h low (sym (get_or_append_left made (handle_at slot gen ∷ []) h k low) ∙ is) pos);
  }
