-- What stealing one number changes.
use Rattle.std.proofs.Common.{◌≡◌, ℕ, ◌+◌, ◌<◌, Option, Some, None, MatchOption, List, [], ◌∷◌, length, get_or, set, sym, ap, ◌∙◌, subst, arith}
use Rattle.std.proofs.Math.Seq.{map-set_same}
use Rattle.crossbeam_deque.specs.Handles.{IsPassOf, stealer_deque, view}
use Rattle.basics.specs.Sums.{total}
use Rattle.home_queues.specs.DequeRule.{with_taken}
use Rattle.home_queues.specs.Parts.{deque_of, deques_of, stolen, IsStealRight}
use Rattle.home_queues.specs.declared.deque_view.DequeView.{DequeView}
use Rattle.home_queues.specs.declared.deque.StealRight.{StealRight}
use Rattle.basics.proofs.Sums.{total-append, total-put}

abbrev pub Took : StealRight → StealRight → Option ℕ → Type 0
Took r s o = MatchOption o (view s.pass ≡ view r.pass) (λ x. (view s.pass ≡ with_taken (view r.pass) (x ∷ [])) × (x < (view r.pass).lines))

pub same_deques : (rs : List StealRight) (k : ℕ) (r s : StealRight) → r ≡ get_or rs k r → s.stealer ≡ r.stealer → deques_of (set rs k s) ≡ deques_of rs
same_deques rs k r s at e = map-set_same deque_of rs k s r (ap (λ t. stealer_deque t) e ∙ ap deque_of at)

pub is_right : (n : ℕ) (r s : StealRight) (o : Option ℕ) → IsStealRight n r → (s.stealer ≡ r.stealer) × IsPassOf (deque_of r) s.pass → Took r s o → IsStealRight n s
is_right n r s None h same t = record {
  at = subst (λ d. IsPassOf d s.pass) (ap (λ t. stealer_deque t) (sym same.0)) same.1;
  share = ap (λ (v : DequeView). v.shares) t ∙ h.share;
  lines = ap (λ (v : DequeView). v.lines) t ∙ h.lines;
  put = ap (λ (v : DequeView). v.put) t ∙ h.put;
}
is_right n r s (Some x) h same t = record {
  at = subst (λ d. IsPassOf d s.pass) (ap (λ t. stealer_deque t) (sym same.0)) same.1;
  share = ap (λ (v : DequeView). v.shares) t.0 ∙ h.share;
  lines = ap (λ (v : DequeView). v.lines) t.0 ∙ h.lines;
  put = ap (λ (v : DequeView). v.put) t.0 ∙ h.put;
}

pub weighs_none : (rs : List StealRight) (k : ℕ) (r s : StealRight) → k < length rs → r ≡ get_or rs k r → Took r s None → (h : ℕ → ℕ) → total (stolen h) (set rs k s) ≡ total (stolen h) rs
weighs_none rs k r s lt at t h =
    let a = total-put (stolen h) rs k s r lt in
    let b : stolen h (get_or rs k r) ≡ stolen h r = ap (stolen h) (sym at) in
    let c : stolen h s ≡ stolen h r = ap (λ (v : DequeView). total h v.taken) t in omega arith

pub weighs_some : (rs : List StealRight) (k : ℕ) (r s : StealRight) (x : ℕ) → k < length rs → r ≡ get_or rs k r → Took r s (Some x) → (h : ℕ → ℕ) → total (stolen h) (set rs k s) ≡ total (stolen h) rs + h x
weighs_some rs k r s x lt at t h =
    let a = total-put (stolen h) rs k s r lt in
    let b : stolen h (get_or rs k r) ≡ stolen h r = ap (stolen h) (sym at) in
    let c : stolen h s ≡ total h (with_taken (view r.pass) (x ∷ [])).taken = ap (λ (v : DequeView). total h v.taken) t.0 in
    let d = total-append h (view r.pass).taken (x ∷ []) in omega arith
