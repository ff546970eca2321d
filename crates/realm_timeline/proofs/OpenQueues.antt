-- Which lines stand in queues that are not held.
use Rattle.std.proofs.Common.{◌≡◌, ℕ, zero, suc, ◌<◌, true, false, ◌&&◌, ◌||◌, inl, inr, List, [], ◌∷◌, length, refl, sym, ◌∙◌, ap, Equal}
use Rattle.std.specs.Cmp.{nat_cmp_is}
use Rattle.std.specs.Ordering.{is_eq, nat_cmp}
use Rattle.std.proofs.lemmas.Bool.{true≢false, or_cases, or_left, or_right, and_parts, and_from}
use Rattle.realm_timeline.specs.Queue.{QueueValue, queue_at, has_line, is_nil, IsUnheld, is_unheld, is_open}

first_holds : (x : ℕ) (ks : List ℕ) → (k : ℕ) × (has_line (x ∷ ks) k ≡ true)
first_holds x ks = (x, or_left (is_eq (nat_cmp x x)) (has_line ks x) (ap is_eq (sym (nat_cmp_is x x Equal refl))))

none_there : (ks : List ℕ) → is_nil ks ≡ true → (k : ℕ) → has_line ks k ≡ false
none_there [] h k = refl
none_there (x ∷ ks) h k = absurd (true≢false (sym h))

pub unheld_from : (x : QueueValue) → is_unheld x ≡ true → IsUnheld x
unheld_from x h = none_there x.holders h

pub held_from : (x : QueueValue) (k : ℕ) → has_line x.holders k ≡ true → is_unheld x ≡ false
held_from x k h = by x.holders k h
  where
    by : (ks : List ℕ) (k : ℕ) → has_line ks k ≡ true → is_nil ks ≡ false
    by [] k h = absurd (true≢false (sym h))
    by (x ∷ ks) k h = refl

pub unheld_is : (x : QueueValue) → IsUnheld x → is_unheld x ≡ true
unheld_is x none = by x.holders none
  where
    by : (ks : List ℕ) → ((k : ℕ) → has_line ks k ≡ false) → is_nil ks ≡ true
    by [] none = refl
    by (x ∷ ks) none = (let s = first_holds x ks in absurd (true≢false (sym s.1 ∙ none s.0)))

-- a line in a queue that is not held
pub open_at : (queues : List QueueValue) (q i : ℕ) → has_line (queue_at queues q).lines i ≡ true → IsUnheld (queue_at queues q) → is_open queues i ≡ true
open_at [] q i h none = absurd (true≢false (sym h))
open_at (x ∷ xs) zero i h none = or_left (is_unheld x && has_line x.lines i) (is_open xs i) (and_from (is_unheld x) (has_line x.lines i) (unheld_is x none) h)
open_at (x ∷ xs) (suc q) i h none = or_right (is_unheld x && has_line x.lines i) (is_open xs i) (open_at xs q i h none)

pub at_open : (queues : List QueueValue) (i : ℕ) → is_open queues i ≡ true → (q : ℕ) × (has_line (queue_at queues q).lines i ≡ true) × IsUnheld (queue_at queues q)
at_open [] i h = absurd (true≢false (sym h))
at_open (x ∷ xs) i h = elim (or_cases (is_unheld x && has_line x.lines i) (is_open xs i) h) [
  | inl here ↦ (let parts = and_parts (is_unheld x) (has_line x.lines i) here in (0, parts.1, unheld_from x parts.0))
  | inr there ↦ (let r = at_open xs i there in (suc r.0, r.1, r.2))
]
