-- Which acquires, once they hold, keep a line from starting: those that it excludes; and which queues a line holds.
use Rattle.std.proofs.Common.{◌≡◌, ℕ, ◌+◌, ◌*◌, Bool, true, false, not, ◌&&◌, ◌||◌, ◌⊎◌, inl, inr, List, [], ◌∷◌, refl, sym, ◌∙◌, ap, subst, arith, Equal}
use Rattle.std.specs.Prelude.{◌==◌, ◌≢◌, Option, Some, None}
use Rattle.std.specs.Option.{option_map_or}
use Rattle.std.specs.Cmp.{nat_cmp_is}
use Rattle.std.specs.Ordering.{is_eq, nat_cmp}
use Rattle.std.proofs.lemmas.Bool.{true≢false, cases_eq, eq-eqb, ne_eqb, eqb-true, or_cases, or_left, or_right}
use Rattle.graph_terms.specs.declared.verb.Verb.{Verb}
use Rattle.graph_terms.specs.declared.verb.Verb.TheVariants.{Acquire}
use Rattle.graph_terms.specs.Graph.{GraphValue, verb_at, line_passes, is_acquire_of, is_shared}
use Rattle.graph_terms.specs.Reservations.{Acquires, both_shared}
use Rattle.graph_terms.proofs.Public.{acquire_is}
use Rattle.realm_timeline.specs.Plan.{Exclude}
use Rattle.realm_timeline.specs.Queue.{QueueValue, queue_at, has_line, ChangesQueue, WithHolder, WithoutHolder}
use Rattle.realm_timeline.specs.State.{exclusive_queue, shared_queue, verb_queue, queue_of, verb_bars, bars}
use Rattle.realm_timeline.specs.Steps.{Adds, Removes}

-- no line bars queue 0
zero_barred : (v : Verb) → verb_bars 0 v ≡ true → ⊥
zero_barred (Acquire l true) h = let e : 0 ≡ 2 * l + 1 = eqb-true 0 (2 * l + 1) h in absurd (omega arith)
zero_barred (Acquire l false) h = elim (or_cases (0 == 2 * l + 1) (0 == 2 * l + 2) h) [
  | inl a ↦ (let e : 0 ≡ 2 * l + 1 = eqb-true 0 (2 * l + 1) a in absurd (omega arith))
  | inr b ↦ (let e : 0 ≡ 2 * l + 2 = eqb-true 0 (2 * l + 2) b in absurd (omega arith))
]
zero_barred v h = true≢false (sym h)

zero_barred_at : (o : Option Verb) → option_map_or (verb_bars 0) o false ≡ true → ⊥
zero_barred_at None h = true≢false (sym h)
zero_barred_at (Some v) h = zero_barred v h

-- two acquires of one reservation, of which one bars the queue of the other
abbrev SameLock : Option Verb → Option Verb → Type 0
SameLock a b = (l : ℕ) × (option_map_or (is_acquire_of l) a false ≡ true) × (option_map_or (is_acquire_of l) b false ≡ true) × ((option_map_or is_shared a false && option_map_or is_shared b false) ≡ false)

same_lock_of : (m n : ℕ) (s t : Bool) → verb_bars (verb_queue (Acquire m s)) (Acquire n t) ≡ true → SameLock (Some (Acquire m s)) (Some (Acquire n t))
same_lock_of m n true true h = let e : 2 * m + 2 ≡ 2 * n + 1 = eqb-true (2 * m + 2) (2 * n + 1) h in absurd (omega arith)
same_lock_of m n true false h = elim (or_cases (2 * m + 2 == 2 * n + 1) (2 * m + 2 == 2 * n + 2) h) [
  | inl a ↦ (let e : 2 * m + 2 ≡ 2 * n + 1 = eqb-true (2 * m + 2) (2 * n + 1) a in absurd (omega arith))
  | inr b ↦ (let e : 2 * m + 2 ≡ 2 * n + 2 = eqb-true (2 * m + 2) (2 * n + 2) b in (m, eq-eqb m m refl, eq-eqb n m (omega arith), refl))
]
same_lock_of m n false true h = let e : 2 * m + 1 ≡ 2 * n + 1 = eqb-true (2 * m + 1) (2 * n + 1) h in (m, eq-eqb m m refl, eq-eqb n m (omega arith), refl)
same_lock_of m n false false h = elim (or_cases (2 * m + 1 == 2 * n + 1) (2 * m + 1 == 2 * n + 2) h) [
  | inl a ↦ (let e : 2 * m + 1 ≡ 2 * n + 1 = eqb-true (2 * m + 1) (2 * n + 1) a in (m, eq-eqb m m refl, eq-eqb n m (omega arith), refl))
  | inr b ↦ (let e : 2 * m + 1 ≡ 2 * n + 2 = eqb-true (2 * m + 1) (2 * n + 2) b in absurd (omega arith))
]

barred_by : (v : Verb) (m : ℕ) (s : Bool) → verb_bars (verb_queue (Acquire m s)) v ≡ true → SameLock (Some (Acquire m s)) (Some v)
barred_by (Acquire n t) m s h = same_lock_of m n s t h
barred_by v m s h = absurd (true≢false (sym h))

barred_as : (v : Verb) (b : Option Verb) → option_map_or (verb_bars (verb_queue v)) b false ≡ true → SameLock (Some v) b
barred_as (Acquire m s) None h = absurd (true≢false (sym h))
barred_as (Acquire m s) (Some v) h = barred_by v m s h
barred_as v b h = absurd (zero_barred_at b h)

same_lock : (a b : Option Verb) → option_map_or (verb_bars (option_map_or verb_queue a 0)) b false ≡ true → SameLock a b
same_lock None b h = absurd (zero_barred_at b h)
same_lock (Some v) b h = barred_as v b h

pub bars_same : (g : GraphValue) (i k : ℕ) → bars g k (queue_of g i) ≡ true → (l : ℕ) × Acquires g i l × Acquires g k l × (both_shared g i k ≡ false)
bars_same g i k h = same_lock (verb_at g i) (verb_at g k) h

pub bars_other : (g : GraphValue) (i k : ℕ) → i ≢ k → bars g k (queue_of g i) ≡ true → Exclude g i k
bars_other g i k apart h = let s = bars_same g i k h in record { different = apart; apart = s.3; lock = s.0; one = s.1; other = s.2 }

bars_of : (l : ℕ) (s t : Bool) → (s && t) ≡ false → verb_bars (verb_queue (Acquire l s)) (Acquire l t) ≡ true
bars_of l true true h = absurd (true≢false h)
bars_of l true false h = or_right (2 * l + 2 == 2 * l + 1) (2 * l + 2 == 2 * l + 2) (eq-eqb (2 * l + 2) (2 * l + 2) refl)
bars_of l false true h = eq-eqb (2 * l + 1) (2 * l + 1) refl
bars_of l false false h = or_left (2 * l + 1 == 2 * l + 1) (2 * l + 1 == 2 * l + 2) (eq-eqb (2 * l + 1) (2 * l + 1) refl)

pub same_bars : (g : GraphValue) (i k : ℕ) → Exclude g i k → bars g k (queue_of g i) ≡ true
same_bars g i k a =
    let at_i = acquire_is g i a.lock a.one in
    let at_k = acquire_is g k a.lock a.other in
    subst (λ o. option_map_or (verb_bars (option_map_or verb_queue o 0)) (verb_at g k) false ≡ true) (sym at_i)
    (subst (λ o. option_map_or (verb_bars (verb_queue (Acquire a.lock (line_passes is_shared g i)))) o false ≡ true) (sym at_k)
    (bars_of a.lock (line_passes is_shared g i) (line_passes is_shared g k) a.apart))

-- the holders of one queue change, or those of two
bars_at : (g : GraphValue) (k l : ℕ) (s : Bool) → verb_at g k ≡ Some (Acquire l s) → (q : ℕ) → bars g k q ≡ verb_bars q (Acquire l s)
bars_at g k l s at q = ap (λ o. option_map_or (verb_bars q) o false) at

one_added : (a b c : Bool) → b ≡ true → (a || c) ≡ ((a && b) || c)
one_added true true c h = refl
one_added false true c h = refl
one_added a false c h = absurd (true≢false (sym h))

none_added : (a b c : Bool) → b ≡ false → c ≡ ((a && b) || c)
none_added true false c h = refl
none_added false false c h = refl
none_added a true c h = absurd (true≢false h)

added_at : (old new : List QueueValue) (p k : ℕ) → ChangesQueue old new p (WithHolder k) → (q i : ℕ) → has_line (queue_at new q).holders i ≡ (((i == k) && (q == p)) || has_line (queue_at old q).holders i)
added_at old new p k c q i = elim (cases_eq q p) [
  | inl at ↦ subst (λ z. has_line (queue_at new z).holders i ≡ ((i == k) || has_line (queue_at old z).holders i)) (sym at) (c.here.holders i) ∙ one_added (i == k) (q == p) (has_line (queue_at old q).holders i) (eq-eqb q p at)
  | inr apart ↦ ap (λ (z : QueueValue). has_line z.holders i) (c.others q apart) ∙ none_added (i == k) (q == p) (has_line (queue_at old q).holders i) (ne_eqb q p apart)
]

added_lines : (old new : List QueueValue) (p k : ℕ) → ChangesQueue old new p (WithHolder k) → (q : ℕ) → (queue_at new q).lines ≡ (queue_at old q).lines
added_lines old new p k c q = elim (cases_eq q p) [
  | inl at ↦ subst (λ z. (queue_at new z).lines ≡ (queue_at old z).lines) (sym at) c.here.lines
  | inr apart ↦ ap (λ (z : QueueValue). z.lines) (c.others q apart)
]

two_added : (a b c d : Bool) → ((a && c) || ((a && b) || d)) ≡ ((a && (b || c)) || d)
two_added false b c d = refl
two_added true true true d = refl
two_added true true false d = refl
two_added true false true d = refl
two_added true false false d = refl

pub adds_none : (t : ℕ → Bool) (old : List QueueValue) (k : ℕ) → ((q : ℕ) → t q ≡ false) → Adds t old old k
adds_none t old k none = record { lines = λ q. refl; holders = λ q i. none_added (i == k) (t q) (has_line (queue_at old q).holders i) (none q) }

pub adds_one : (old new : List QueueValue) (p k : ℕ) → ChangesQueue old new p (WithHolder k) → Adds (λ q. q == p) old new k
adds_one old new p k c = record { lines = added_lines old new p k c; holders = added_at old new p k c }

pub adds_both : (t u : ℕ → Bool) (old middle new : List QueueValue) (k : ℕ) → Adds t old middle k → Adds u middle new k → Adds (λ q. t q || u q) old new k
adds_both t u old middle new k c d = record {
  lines = λ q. d.lines q ∙ c.lines q;
  holders = λ q i. d.holders q i ∙ (ap (λ b. ((i == k) && u q) || b) (c.holders q i) ∙ two_added (i == k) (t q) (u q) (has_line (queue_at old q).holders i));
}

pub adds_as : (t u : ℕ → Bool) (old new : List QueueValue) (k : ℕ) → ((q : ℕ) → t q ≡ u q) → Adds t old new k → Adds u old new k
adds_as t u old new k same c = record { lines = c.lines; holders = λ q i. c.holders q i ∙ ap (λ b. ((i == k) && b) || has_line (queue_at old q).holders i) (same q) }

pub adds_shared : (g : GraphValue) (old new : List QueueValue) (k l : ℕ) (s : Bool) → verb_at g k ≡ Some (Acquire l s) → s ≡ true → ChangesQueue old new (exclusive_queue l) (WithHolder k) → Adds (bars g k) old new k
adds_shared g old new k l s at is c = adds_as (λ q. q == exclusive_queue l) (bars g k) old new k (λ q. sym (bars_at g k l true (at ∙ ap (λ z. Some (Acquire l z)) is) q)) (adds_one old new (exclusive_queue l) k c)

pub adds_exclusive : (g : GraphValue) (old middle new : List QueueValue) (k l : ℕ) (s : Bool) → verb_at g k ≡ Some (Acquire l s) → s ≡ false → ChangesQueue old middle (exclusive_queue l) (WithHolder k) → ChangesQueue middle new (shared_queue l) (WithHolder k) →
    Adds (bars g k) old new k
adds_exclusive g old middle new k l s at is c d = adds_as (λ q. (q == exclusive_queue l) || (q == shared_queue l)) (bars g k) old new k (λ q. sym (bars_at g k l false (at ∙ ap (λ z. Some (Acquire l z)) is) q))
    (adds_both (λ q. q == exclusive_queue l) (λ q. q == shared_queue l) old middle new k (adds_one old middle (exclusive_queue l) k c) (adds_one middle new (shared_queue l) k d))

one_removed : (a b c : Bool) → b ≡ true → (not a && c) ≡ (not (a && b) && c)
one_removed true true c h = refl
one_removed false true c h = refl
one_removed a false c h = absurd (true≢false (sym h))

none_removed : (a b c : Bool) → b ≡ false → c ≡ (not (a && b) && c)
none_removed true false c h = refl
none_removed false false c h = refl
none_removed a true c h = absurd (true≢false h)

removed_at : (old new : List QueueValue) (p k : ℕ) → ChangesQueue old new p (WithoutHolder k) → (q i : ℕ) → has_line (queue_at new q).holders i ≡ (not ((i == k) && (q == p)) && has_line (queue_at old q).holders i)
removed_at old new p k c q i = elim (cases_eq q p) [
  | inl at ↦ subst (λ z. has_line (queue_at new z).holders i ≡ (not (i == k) && has_line (queue_at old z).holders i)) (sym at) (c.here.holders i) ∙ one_removed (i == k) (q == p) (has_line (queue_at old q).holders i) (eq-eqb q p at)
  | inr apart ↦ ap (λ (z : QueueValue). has_line z.holders i) (c.others q apart) ∙ none_removed (i == k) (q == p) (has_line (queue_at old q).holders i) (ne_eqb q p apart)
]

removed_lines : (old new : List QueueValue) (p k : ℕ) → ChangesQueue old new p (WithoutHolder k) → (q : ℕ) → (queue_at new q).lines ≡ (queue_at old q).lines
removed_lines old new p k c q = elim (cases_eq q p) [
  | inl at ↦ subst (λ z. (queue_at new z).lines ≡ (queue_at old z).lines) (sym at) c.here.lines
  | inr apart ↦ ap (λ (z : QueueValue). z.lines) (c.others q apart)
]

two_removed : (a b c d : Bool) → (not (a && c) && (not (a && b) && d)) ≡ (not (a && (b || c)) && d)
two_removed false b c d = refl
two_removed true true true d = refl
two_removed true true false d = refl
two_removed true false true d = refl
two_removed true false false d = refl

pub removes_none : (t : ℕ → Bool) (old : List QueueValue) (k : ℕ) → ((q : ℕ) → t q ≡ false) → Removes t old old k
removes_none t old k none = record { lines = λ q. refl; holders = λ q i. none_removed (i == k) (t q) (has_line (queue_at old q).holders i) (none q) }

pub removes_one : (old new : List QueueValue) (p k : ℕ) → ChangesQueue old new p (WithoutHolder k) → Removes (λ q. q == p) old new k
removes_one old new p k c = record { lines = removed_lines old new p k c; holders = removed_at old new p k c }

pub removes_both : (t u : ℕ → Bool) (old middle new : List QueueValue) (k : ℕ) → Removes t old middle k → Removes u middle new k → Removes (λ q. t q || u q) old new k
removes_both t u old middle new k c d = record {
  lines = λ q. d.lines q ∙ c.lines q;
  holders = λ q i. d.holders q i ∙ (ap (λ b. not ((i == k) && u q) && b) (c.holders q i) ∙ two_removed (i == k) (t q) (u q) (has_line (queue_at old q).holders i));
}

pub removes_as : (t u : ℕ → Bool) (old new : List QueueValue) (k : ℕ) → ((q : ℕ) → t q ≡ u q) → Removes t old new k → Removes u old new k
removes_as t u old new k same c = record { lines = c.lines; holders = λ q i. c.holders q i ∙ ap (λ b. not ((i == k) && b) && has_line (queue_at old q).holders i) (same q) }

pub removes_shared : (g : GraphValue) (old new : List QueueValue) (k l : ℕ) (s : Bool) → verb_at g k ≡ Some (Acquire l s) → s ≡ true → ChangesQueue old new (exclusive_queue l) (WithoutHolder k) → Removes (bars g k) old new k
removes_shared g old new k l s at is c = removes_as (λ q. q == exclusive_queue l) (bars g k) old new k (λ q. sym (bars_at g k l true (at ∙ ap (λ z. Some (Acquire l z)) is) q)) (removes_one old new (exclusive_queue l) k c)

pub removes_exclusive : (g : GraphValue) (old middle new : List QueueValue) (k l : ℕ) (s : Bool) → verb_at g k ≡ Some (Acquire l s) → s ≡ false → ChangesQueue old middle (exclusive_queue l) (WithoutHolder k) → ChangesQueue middle new (shared_queue l) (WithoutHolder k) →
    Removes (bars g k) old new k
removes_exclusive g old middle new k l s at is c d = removes_as (λ q. (q == exclusive_queue l) || (q == shared_queue l)) (bars g k) old new k (λ q. sym (bars_at g k l false (at ∙ ap (λ z. Some (Acquire l z)) is) q))
    (removes_both (λ q. q == exclusive_queue l) (λ q. q == shared_queue l) old middle new k (removes_one old middle (exclusive_queue l) k c) (removes_one middle new (shared_queue l) k d))

-- a list of holders has one, or none
pub some_holder : (ks : List ℕ) → ((k : ℕ) × (has_line ks k ≡ true)) ⊎ ((k : ℕ) → has_line ks k ≡ false)
some_holder [] = inr (λ k. refl)
some_holder (x ∷ ks) = inl (x, or_left (is_eq (nat_cmp x x)) (has_line ks x) (ap is_eq (sym (nat_cmp_is x x Equal refl))))
