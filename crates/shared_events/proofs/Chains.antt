-- What `next` does with a chain that was caught.
use Rattle.std.proofs.Common.{◌≡◌, ℕ, ◌+◌, ◌≤◌, List, [], ◌∷◌, ◌++◌, sym, refl, ap, ◌∙◌, subst, arith, map, get_or}
use Rattle.std.specs.Prelude.{Contains}
use Rattle.event_table.specs.declared.handle.Handle.{Handle}
use Rattle.event_table.specs.declared.handle.Shape.{Shape}
use Rattle.event_table.specs.Words.{code}
use Rattle.shared_events.specs.Plays.{Sat, but_first, walked, gave, dealt, dealer}
use Rattle.shared_events.specs.Seats.{IsWaiter, IsCaught, waiters_of}
use Rattle.basics.proofs.ListFacts.{contains_here}
use Rattle.shared_events.proofs.Takes.{map_nil}

pub none_caught : (c : List ℕ) → code c ≡ 0 → c ≡ []
none_caught [] e = refl
none_caught (k ∷ ks) e = absurd (omega arith)

pub some_caught : (c : List ℕ) (k : ℕ) → code c ≡ k + 1 → c ≡ k ∷ but_first c
some_caught [] k e = absurd (omega arith)
some_caught (j ∷ ks) k e = let same : j ≡ k = omega arith in λ t. same t ∷ ks

-- the chain's seat m takes the waiter k, as n, and gives it away to q, as n'
pub record Gives (h : Handle) (k r : ℕ) (m n' q : Sat) : Type 0 where
  pub rest : m.0.caught ≡ k ∷ n'.0.caught
  pub given : n'.0.given ≡ m.0.given ++ (k, h) ∷ []
  pub keys : n'.0.keys ≡ m.0.keys
  pub keys' : q.0.keys ≡ m.0.keys
  pub chain : IsCaught n' h r
  pub waiter : IsWaiter q k

pub gives : (h : Handle) (k next r : ℕ) (x : Shape) (m n n' q : Sat) → IsCaught m h next → next ≡ k + 1 → m.0.keys ≡ x ∷ [] → walked m r n → n' ≡ (dealer n.0, n.1) → q ≡ (dealt n.0, []) → Gives h k r m n' q
gives h k next r x m n n' q is one keys t left right =
    let first : m.0.caught ≡ k ∷ but_first m.0.caught = some_caught m.0.caught k (is.1 ∙ one) in
    let at : get_or m.0.caught 0 0 ≡ k = ap (λ l. get_or l 0 0) first in
    let bare = map_nil (λ (p : ℕ × ℕ). p.0) m.0.hand is.0.3 in
    let hand : (gave m.0).hand ≡ (k, code (but_first m.0.caught)) ∷ [] = λ i. (at i, code (but_first m.0.caught)) ∷ bare i in
    let low : r ≤ x.waiters = t.2 x (subst (λ l. Contains l x) (sym keys) (contains_here x [])) in
    let w : waiters_of m.0.keys ≡ x.waiters = ap waiters_of keys in
    let top = is.2 in
    let small = is.3 in
    let left' : n' ≡ (dealer (gave m.0), m.1) = left ∙ ap (λ (y : Sat). (dealer y.0, y.1)) t.1 in
    let right' : q ≡ (dealt (gave m.0), []) = right ∙ ap (λ (y : Sat). (dealt y.0, [])) t.1 in
    let made : Gives h k r m (dealer (gave m.0), m.1) (dealt (gave m.0), []) = record {
      rest = first;
      given = λ i. m.0.given ++ map (λ (y : Handle). (at i, y)) (is.0.4 i);
      keys = refl;
      keys' = refl;
      chain = ((is.0.0, is.0.1, is.0.2, ap (λ (l : List (ℕ × ℕ)). map (λ (p : ℕ × ℕ). p.0) (but_first l)) hand, is.0.4, is.0.5), sym t.0, omega arith, small);
      waiter = ((refl, refl, refl, ap (λ (l : List (ℕ × ℕ)). map (λ (p : ℕ × ℕ). p.0) (Rattle.shared_events.specs.Plays.first_of l)) hand, refl, refl), refl, omega arith, small, (refl, refl, refl, refl), refl, refl, refl);
    } in
    subst (λ (y : Sat). Gives h k r m y q) (sym left') (subst (λ (y : Sat). Gives h k r m (dealer (gave m.0), m.1) y) (sym right') made)
