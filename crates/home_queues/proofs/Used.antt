-- Parts that were used are the same parts.
use Rattle.std.proofs.Common.{◌≡◌, ℕ, ◌<◌, ◌≤◌, List, ◌++◌, length, get_or, take, drop, refl, sym, ap, ◌∙◌, subst, arith, length-append}
use Rattle.std.proofs.lemmas.List.{take-append-le, get_or_append_left, get_or-append_right}
use Rattle.std.proofs.Math.Seq.{take-length}
use mathlib.Core.Logic.{dite}
use native.Mathlib.Decide.{dec_lt}
use Rattle.home_queues.specs.Hints.{Deque, HintsValue, IsSame, AreSame, IsPartAt, IsListOf}
use Rattle.home_queues.specs.HomeLists.{parts_of, used_of}
use Rattle.home_queues.specs.Lending.{with_used}
use Rattle.home_queues.specs.declared.home_list.HomeList.{HomeList}

moved : (n : ℕ) (deques : List Deque) (k : ℕ) (a b : HintsValue) → IsPartAt n deques k a → IsSame a b → IsPartAt n deques k b
moved n deques k a b p s = record { deques_are = s.deques_are ∙ p.deques_are; number = s.number ∙ p.number; lines = s.lines ∙ p.lines }

used_items : (l : HomeList) (ws : List HintsValue) → length ws ≡ length l.parts.items → (with_used l ws).parts.items ≡ ws
used_items l ws e =
    let n : l.parts.len ≡ length ws = omega arith in
    ap (λ k. take k (ws ++ drop (length ws) l.parts.items)) n ∙ (take-append-le (length ws) ws (drop (length ws) l.parts.items) (omega arith) ∙ take-length ws)

-- the list of an object whose parts were used is still its list
pub still_listed : (n : ℕ) (l : HomeList) (ws : List HintsValue) → IsListOf n (parts_of l) → AreSame (used_of l) ws → IsListOf n (parts_of (with_used l ws))
still_listed n l ws h a =
    let items = used_items l ws a.len in
    let at : parts_of (with_used l ws) ≡ ws ++ l.others.items = ap (λ (xs : List HintsValue). xs ++ l.others.items) items in
    subst (IsListOf n) (sym at) (record {
      deques = h.deques;
      eight = omega (arith, a.len, h.eight, length-append ws l.others.items, length-append l.parts.items l.others.items);
      each = λ k d lt. dite (dec_lt k (length ws))
          (λ (below : k < length ws).
          let s = a.each k d (omega (arith, a.len)) in
          let old = h.each k d lt in
          let was = get_or_append_left l.parts.items l.others.items d k (omega (arith, a.len)) in
          let now = get_or_append_left ws l.others.items d k below in
          subst (IsPartAt n h.deques k) (sym now) (moved n h.deques k (get_or l.parts.items k d) (get_or ws k d) (subst (IsPartAt n h.deques k) was old) s))
          (λ (not_below : k < length ws → ⊥).
          let above : length ws ≤ k = omega arith in
          let was = get_or-append_right l.parts.items l.others.items (length ws) k d (sym a.len) above in
          let now = get_or-append_right ws l.others.items (length ws) k d refl above in
          subst (IsPartAt n h.deques k) (was ∙ sym now) (h.each k d lt));
    })
