-- Each step keeps the rule of the queue of hints.
use Rattle.std.proofs.Common.{◌≡◌, ◌≢◌, ℕ, zero, suc, ◌<◌, List, [], ◌∷◌, ◌++◌, length, set, sym, refl, ap, ◌∙◌, ⊎_elim, arith, length-set}
use Rattle.std.proofs.lemmas.List.Elements.{All-push, All-head, All-tail, All-nil, All-weaker}
use mathlib.Core.Option.{some, some-ne-none}
use lib.ListN.{get_elem?}
use Rattle.crossbeam_queue.specs.Fifo.{Pushes, Pops, Forks, Learns}
use Rattle.crossbeam_queue.proofs.Lists.{at_set, at_snoc}
use Rattle.basics.specs.Sums.{only}
use Rattle.basics.proofs.Sums.{total-append, total-set}
use Rattle.free_engine.specs.HintLaws.{ListsChangeBySteps}
use Rattle.free_engine.specs.HintRule.{Holds, Saw, times, first_view, idle_view, with_lines, with_put, with_taken}
use Rattle.free_engine.specs.declared.hint_view.HintView.{HintView}

-- how often a number was put in, and taken
abbrev put_of : ℕ → HintView → ℕ
put_of x v = times x v.put

abbrev taken_of : ℕ → HintView → ℕ
taken_of x v = times x v.taken

abbrev Same : ℕ → List HintView → Type 0
Same n views = (p : ℕ) (v : HintView) → get_elem? views p ≡ some v → v.lines ≡ n

same_set : (n p : ℕ) (w : HintView) (views : List HintView) → w.lines ≡ n → Same n views → Same n (set views p w)
same_set n p w views mine others j u e = ⊎_elim (λ (x : (j ≡ p) × (w ≡ u)). ap (λ (y : HintView). y.lines) (sym x.1) ∙ mine)
    (λ (x : (j ≢ p) × (get_elem? views j ≡ some u)). others j u x.1) (at_set views p j w u e)

same_more : (n : ℕ) (w : HintView) (views : List HintView) → w.lines ≡ n → Same n views → Same n (views ++ w ∷ [])
same_more n w views mine others j u e = ⊎_elim (λ x. others j u x) (λ (x : w ≡ u). ap (λ (y : HintView). y.lines) (sym x) ∙ mine) (at_snoc views w u j e)

at_below : (views : List HintView) (j : ℕ) (v : HintView) → get_elem? views j ≡ some v → j < length views
at_below [] j v e = absurd (some-ne-none v (sym e))
at_below (x ∷ xs) zero v e = omega arith
at_below (x ∷ xs) (suc j) v e = omega (arith, at_below xs j v e)

pub begins : Holds [] (first_view ∷ [])
begins = record { lines = 0; below = All-nil (λ x. x < 0); same = same_more 0 first_view [] refl (λ p v e. absurd (some-ne-none v (sym e))); alone = λ _. refl; balanced = λ x. refl }

pub puts : (n pass : ℕ) (v : HintView) (x : ℕ) → x < v.lines → Pushes Holds n pass v x (λ w. w ≡ with_put v x)
puts n pass v x small items views room h at =
    let w : HintView = with_put v x in let known : v.lines ≡ h.lines = h.same pass v at in let new : x < h.lines = omega arith in (
      w,
      record {
        lines = h.lines;
        below = All-push (λ y. y < h.lines) items x h.below new;
        same = same_set h.lines pass w views known h.same;
        alone = λ z. length-set views pass w ∙ h.alone z;
        balanced = λ y.
            let a = total-set (put_of y) views pass v w at in
            let b = total-set (taken_of y) views pass v w at in
            let c = total-append (only y) v.put (x ∷ []) in
            let d = total-append (only y) items (x ∷ []) in
            let e = h.balanced y in omega arith;
      },
      refl,
    )

pub takes : (pass : ℕ) (v : HintView) → Pops Holds pass v (λ x w. (w ≡ with_taken v x) × (x < v.lines))
takes pass v x items views h at =
    let w : HintView = with_taken v x in let known : v.lines ≡ h.lines = h.same pass v at in let first : x < h.lines = All-head (λ y. y < h.lines) x items h.below in (
      w,
      record {
        lines = h.lines;
        below = All-tail (λ y. y < h.lines) x items h.below;
        same = same_set h.lines pass w views known h.same;
        alone = λ z. length-set views pass w ∙ h.alone z;
        balanced = λ y.
            let a = total-set (put_of y) views pass v w at in
            let b = total-set (taken_of y) views pass v w at in
            let c = total-append (only y) v.taken (x ∷ []) in
            let e = h.balanced y in omega arith;
      },
      (refl, omega arith),
    )

pub cuts : (pass : ℕ) (v : HintView) → 0 < v.lines → Forks Holds pass v v (idle_view v.lines)
cuts pass v some_line items views h at =
    let w : HintView = idle_view v.lines in let known : v.lines ≡ h.lines = h.same pass v at in let vs : List HintView = set views pass v in
    record {
      lines = h.lines;
      below = h.below;
      same = same_more h.lines w vs known (same_set h.lines pass v views known h.same);
      alone = λ z. absurd (omega arith);
      balanced = λ y.
          let a = total-set (put_of y) views pass v v at in
          let b = total-set (taken_of y) views pass v v at in
          let c = total-append (put_of y) vs (w ∷ []) in
          let d = total-append (taken_of y) vs (w ∷ []) in
          let e = h.balanced y in omega arith;
    }

pub sets_bound : (pass n : ℕ) → 0 < n → Forks Holds pass first_view (with_lines n first_view) (idle_view n)
sets_bound pass n some_line items views h at =
    let w : HintView = with_lines n first_view in let s : HintView = idle_view n in
    let none : 0 ≡ h.lines = h.same pass first_view at in let one : length views ≡ 1 = h.alone (sym none) in
    let vs : List HintView = set views pass w in let here = at_below views pass first_view at in
    record {
      lines = n;
      below = All-weaker (λ x. x < h.lines) (λ x. x < n) (λ x b. absurd (omega arith)) items h.below;
      same = same_more n s vs refl (λ j u e. ⊎_elim (λ (x : (j ≡ pass) × (w ≡ u)). ap (λ (y : HintView). y.lines) (sym x.1))
          (λ (x : (j ≢ pass) × (get_elem? views j ≡ some u)). let there = at_below views j u x.1 in absurd (x.0 (omega arith))) (at_set views pass j w u e));
      alone = λ z. absurd (omega arith);
      balanced = λ y.
          let a = total-set (put_of y) views pass first_view w at in
          let b = total-set (taken_of y) views pass first_view w at in
          let c = total-append (put_of y) vs (s ∷ []) in
          let d = total-append (taken_of y) vs (s ∷ []) in
          let e = h.balanced y in omega arith;
    }

pub saw : (pass : ℕ) (v : HintView) → Learns Holds pass v (Saw v)
unfolding Saw
saw pass v items views h at = (views, pass, h, at)

pub change_by_steps : ListsChangeBySteps
change_by_steps items views p v w h at k x =
    let a = total-set (put_of x) views p v w at in
    let b = total-set (taken_of x) views p v w at in
    let c = h.balanced x in
    let d = k.balanced x in omega arith
