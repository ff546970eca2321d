-- Lines that keep each other from starting, by queues: one has to wait in a queue that the other holds.
use Rattle.std.proofs.Common.{◌≡◌, ℕ, ◌+◌, ◌*◌, ◌<◌, ◌≤◌, Bool, true, false, cond, not, ◌&&◌, ◌||◌, ◌⊎◌, inl, inr, List, [], length, refl, sym, ◌∙◌, ap, subst, arith}
use Rattle.std.specs.Prelude.{◌==◌, Contains, Option, Some, None, map}
use Rattle.std.specs.Option.{option_map_or}
use Rattle.std.specs.List.{list_any}
use Rattle.std.proofs.lemmas.Bool.{true≢false, cases_Bool, eq-eqb, eqb-true, or_cases, or_left, or_right, and_parts, and_from, not-true, not_from_false}
use Rattle.basics.proofs.ListFacts.{some_passes, passes_some}
use Rattle.graph_terms.specs.declared.verb.Access.{Access}
use Rattle.graph_terms.specs.declared.verb.Mode.{Mode}
use Rattle.graph_terms.specs.declared.verb.Mode.TheVariants.{Read}
use Rattle.graph_terms.specs.declared.verb.Verb.{Verb}
use Rattle.graph_terms.specs.declared.verb.Verb.TheVariants.{Acquire}
use Rattle.graph_terms.specs.Graph.{GraphValue, verb_at, locks, is_acquire_of}
use Rattle.graph_terms.specs.Access.{accesses, verb_accesses, in_format, is_read, modes_clash}
use Rattle.graph_terms.specs.Fits.{IsGraph}
use Rattle.graph_terms.specs.Reservations.{Acquires}
use Rattle.graph_terms.proofs.Public.{acquired_lock_known}
use Rattle.realm_timeline.specs.Plan.{Exclude}
use Rattle.realm_timeline.specs.Columns.{Collide}
use Rattle.realm_timeline.specs.State.{exclusive_queue, shared_queue, verb_queue, queue_of, verb_bars, bars, changing_queue, reading_queue, access_queue, access_bars, joins, uses_bar, Hinder}
use Rattle.realm_timeline.proofs.Barring.{bars_other}

-- two uses clash unless both are reads
clash_of : (m n : Mode) → (is_read m && is_read n) ≡ false → modes_clash m n ≡ true
clash_of Read Read h = absurd (true≢false h)
clash_of m n h = refl

reads_of : (m n : Mode) → modes_clash m n ≡ true → (is_read m && is_read n) ≡ false
reads_of Read Read h = absurd (true≢false (sym h))
reads_of Read n h = refl
reads_of m n h = refl

-- the queue in which one use waits is held by another exactly where they are of one column, and not both reads
clashing : (g : GraphValue) (q c d : ℕ) (r s : Bool) → q ≡ cond r (reading_queue g c) (changing_queue g c) → ((q == changing_queue g d) || (not s && (q == reading_queue g d))) ≡ true → (c ≡ d) × ((r && s) ≡ false)
clashing g q c d true true at h = elim (or_cases (q == changing_queue g d) false h) [
  | inl a ↦ (let e : q ≡ 2 * (length (locks g) + d) + 1 = eqb-true q (2 * (length (locks g) + d) + 1) a in let f : q ≡ 2 * (length (locks g) + c) + 2 = at in absurd (omega arith))
  | inr b ↦ absurd (true≢false (sym b))
]
clashing g q c d true false at h = elim (or_cases (q == changing_queue g d) (q == reading_queue g d) h) [
  | inl a ↦ (let e : q ≡ 2 * (length (locks g) + d) + 1 = eqb-true q (2 * (length (locks g) + d) + 1) a in let f : q ≡ 2 * (length (locks g) + c) + 2 = at in absurd (omega arith))
  | inr b ↦ (let e : q ≡ 2 * (length (locks g) + d) + 2 = eqb-true q (2 * (length (locks g) + d) + 2) b in let f : q ≡ 2 * (length (locks g) + c) + 2 = at in (omega arith, refl))
]
clashing g q c d false true at h = elim (or_cases (q == changing_queue g d) false h) [
  | inl a ↦ (let e : q ≡ 2 * (length (locks g) + d) + 1 = eqb-true q (2 * (length (locks g) + d) + 1) a in let f : q ≡ 2 * (length (locks g) + c) + 1 = at in (omega arith, refl))
  | inr b ↦ absurd (true≢false (sym b))
]
clashing g q c d false false at h = elim (or_cases (q == changing_queue g d) (q == reading_queue g d) h) [
  | inl a ↦ (let e : q ≡ 2 * (length (locks g) + d) + 1 = eqb-true q (2 * (length (locks g) + d) + 1) a in let f : q ≡ 2 * (length (locks g) + c) + 1 = at in (omega arith, refl))
  | inr b ↦ (let e : q ≡ 2 * (length (locks g) + d) + 2 = eqb-true q (2 * (length (locks g) + d) + 2) b in let f : q ≡ 2 * (length (locks g) + c) + 1 = at in absurd (omega arith))
]

clashing_bars : (g : GraphValue) (c : ℕ) (r s : Bool) → (r && s) ≡ false → ((cond r (reading_queue g c) (changing_queue g c) == changing_queue g c) || (not s && (cond r (reading_queue g c) (changing_queue g c) == reading_queue g c))) ≡ true
clashing_bars g c true true h = absurd (true≢false h)
clashing_bars g c true false h = or_right (reading_queue g c == changing_queue g c) (reading_queue g c == reading_queue g c) (eq-eqb (reading_queue g c) (reading_queue g c) refl)
clashing_bars g c false s h = or_left (changing_queue g c == changing_queue g c) (not s && (changing_queue g c == reading_queue g c)) (eq-eqb (changing_queue g c) (changing_queue g c) refl)

-- the queues of columns stand behind those of reservations
access_queue_above : (g : GraphValue) (q c : ℕ) (r : Bool) → q ≡ cond r (reading_queue g c) (changing_queue g c) → 2 * length (locks g) < q
access_queue_above g q c true e = let f : q ≡ 2 * (length (locks g) + c) + 2 = e in omega arith
access_queue_above g q c false e = let f : q ≡ 2 * (length (locks g) + c) + 1 = e in omega arith

access_bars_above : (g : GraphValue) (q d : ℕ) (s : Bool) → ((q == changing_queue g d) || (not s && (q == reading_queue g d))) ≡ true → 2 * length (locks g) < q
access_bars_above g q d s h = elim (or_cases (q == changing_queue g d) (not s && (q == reading_queue g d)) h) [
  | inl a ↦ (let e : q ≡ 2 * (length (locks g) + d) + 1 = eqb-true q (2 * (length (locks g) + d) + 1) a in omega arith)
  | inr b ↦ (let e : q ≡ 2 * (length (locks g) + d) + 2 = eqb-true q (2 * (length (locks g) + d) + 2) (and_parts (not s) (q == reading_queue g d) b).1 in omega arith)
]

acquires_from : (g : GraphValue) (k l : ℕ) (s : Bool) → verb_at g k ≡ Some (Acquire l s) → Acquires g k l
acquires_from g k l s at = ap (λ o. option_map_or (is_acquire_of l) o false) at ∙ eq-eqb l l refl

verb_bars_below : (g : GraphValue) → IsGraph g → (k q : ℕ) (o : Option Verb) → verb_at g k ≡ o → option_map_or (verb_bars q) o false ≡ true → q ≤ 2 * length (locks g)
verb_bars_below g graph k q (Some (Acquire l true)) at h =
    let below : l < length (locks g) = acquired_lock_known g graph k l (acquires_from g k l true at) in
    let e : q ≡ 2 * l + 1 = eqb-true q (2 * l + 1) h in omega arith
verb_bars_below g graph k q (Some (Acquire l false)) at h =
    let below : l < length (locks g) = acquired_lock_known g graph k l (acquires_from g k l false at) in
    elim (or_cases (q == exclusive_queue l) (q == shared_queue l) h) [
      | inl a ↦ (let e : q ≡ 2 * l + 1 = eqb-true q (2 * l + 1) a in omega arith)
      | inr b ↦ (let e : q ≡ 2 * l + 2 = eqb-true q (2 * l + 2) b in omega arith)
    ]
verb_bars_below g graph k q o at h = absurd (true≢false (sym h))

verb_queue_below : (g : GraphValue) → IsGraph g → (k : ℕ) (o : Option Verb) → verb_at g k ≡ o → option_map_or verb_queue o 0 ≤ 2 * length (locks g)
verb_queue_below g graph k (Some (Acquire l true)) at = let below : l < length (locks g) = acquired_lock_known g graph k l (acquires_from g k l true at) in omega arith
verb_queue_below g graph k (Some (Acquire l false)) at = let below : l < length (locks g) = acquired_lock_known g graph k l (acquires_from g k l false at) in omega arith
verb_queue_below g graph k o at = omega arith

-- an acquire uses no column
verb_uses_none : (t : Access → Bool) (f : Access → Access) (q : ℕ) (o : Option Verb) → option_map_or (verb_bars q) o false ≡ true → list_any t (map f (option_map_or verb_accesses o [])) ≡ true → ⊥
verb_uses_none t f q (Some (Acquire l true)) h u = true≢false (sym u)
verb_uses_none t f q (Some (Acquire l false)) h u = true≢false (sym u)
verb_uses_none t f q o h u = true≢false (sym h)

module _ (g : GraphValue) (by_columns : Bool) where
  -- where it has to wait, and what it holds, by a column
  pub joined_column : (i q : ℕ) → (by_columns && list_any (λ a. q == access_queue g a) (accesses g i)) ≡ true → (by_columns ≡ true) × ((a : Access) × Contains (accesses g i) a × (q ≡ access_queue g a))
  joined_column i q h =
      let parts = and_parts by_columns (list_any (λ a. q == access_queue g a) (accesses g i)) h in
      let s = some_passes (λ a. q == access_queue g a) (accesses g i) parts.1 in
      (parts.0, (s.0, s.1, eqb-true q (access_queue g s.0) s.2))

  held_column : (k q : ℕ) → uses_bar g by_columns k q ≡ true → (by_columns ≡ true) × ((a : Access) × Contains (accesses g k) a × (access_bars g q a ≡ true))
  held_column k q h =
      let parts = and_parts by_columns (list_any (access_bars g q) (accesses g k)) h in
      (parts.0, some_passes (access_bars g q) (accesses g k) parts.1)

  -- a line may have to wait in the queue of its own reservation
  pub joins_own : (i : ℕ) → joins g by_columns i (queue_of g i) ≡ true
  joins_own i = or_left (queue_of g i == queue_of g i) (by_columns && list_any (λ a. queue_of g i == access_queue g a) (accesses g i)) (eq-eqb (queue_of g i) (queue_of g i) refl)

  -- no queue is held by one line for both
  pub uses_or_bars : (k q : ℕ) → bars g k q ≡ true → uses_bar g by_columns k q ≡ true → ⊥
  uses_or_bars k q b u = verb_uses_none (access_bars g q) (in_format g.format) q (verb_at g k) b (and_parts by_columns (list_any (access_bars g q) (accesses g k)) u).1

  -- the holder of a queue in which a line has to wait keeps that line from starting
  pub bars_hinder : IsGraph g → (i k q : ℕ) → joins g by_columns i q ≡ true → bars g k q ≡ true → bars g k (queue_of g i) ≡ true
  bars_hinder graph i k q j b = elim (or_cases (q == queue_of g i) (by_columns && list_any (λ a. q == access_queue g a) (accesses g i)) j) [
    | inl own ↦ subst (λ z. bars g k z ≡ true) (eqb-true q (queue_of g i) own) b
    | inr column ↦ (
        let a = (joined_column i q column).1 in
        let above : 2 * length (locks g) < q = access_queue_above g q a.0.column (is_read a.0.mode) a.2 in
        let below : q ≤ 2 * length (locks g) = verb_bars_below g graph k q (verb_at g k) refl b in
        absurd (omega arith))
  ]

  pub uses_hinder : IsGraph g → (i k q : ℕ) → (i ≡ k → ⊥) → joins g by_columns i q ≡ true → uses_bar g by_columns k q ≡ true → (by_columns ≡ true) × Collide g i k
  uses_hinder graph i k q apart j u = elim (or_cases (q == queue_of g i) (by_columns && list_any (λ a. q == access_queue g a) (accesses g i)) j) [
    | inl own ↦ (
        let e : q ≡ queue_of g i = eqb-true q (queue_of g i) own in
        let below : queue_of g i ≤ 2 * length (locks g) = verb_queue_below g graph i (verb_at g i) refl in
        let d = (held_column k q u).1 in
        let above : 2 * length (locks g) < q = access_bars_above g q d.0.column (is_read d.0.mode) d.2 in
        absurd (omega arith))
    | inr column ↦ (
        let a = (joined_column i q column).1 in
        let d = (held_column k q u).1 in
        let c = clashing g q a.0.column d.0.column (is_read a.0.mode) (is_read d.0.mode) a.2 d.2 in
        ((held_column k q u).0, record { different = apart; one = a.0; other = d.0; one_in = a.1; other_in = d.1; column = c.0; clash = clash_of a.0.mode d.0.mode c.1 }))
  ]

  -- and where two lines collide, one has to wait in a queue that the other holds
  pub collide_queue : (i k : ℕ) → by_columns ≡ true → Collide g i k → (q : ℕ) × (joins g by_columns i q ≡ true) × (uses_bar g by_columns k q ≡ true)
  collide_queue i k on c = (
    access_queue g c.one,
    or_right (access_queue g c.one == queue_of g i) (by_columns && list_any (λ a. access_queue g c.one == access_queue g a) (accesses g i))
        (and_from by_columns (list_any (λ a. access_queue g c.one == access_queue g a) (accesses g i)) on
        (passes_some (λ a. access_queue g c.one == access_queue g a) (accesses g i) c.one c.one_in (eq-eqb (access_queue g c.one) (access_queue g c.one) refl))),
    and_from by_columns (list_any (access_bars g (access_queue g c.one)) (accesses g k)) on
        (passes_some (access_bars g (access_queue g c.one)) (accesses g k) c.other c.other_in
        (subst (λ z. ((access_queue g c.one == changing_queue g z) || (not (is_read c.other.mode) && (access_queue g c.one == reading_queue g z))) ≡ true) c.column
        (clashing_bars g c.one.column (is_read c.one.mode) (is_read c.other.mode) (reads_of c.one.mode c.other.mode c.clash)))),
  )

-- lines that collide do so either way
and_swapped : (a b : Bool) → (a && b) ≡ false → (b && a) ≡ false
and_swapped true true h = absurd (true≢false h)
and_swapped true false h = refl
and_swapped false true h = refl
and_swapped false false h = refl

pub collide_swapped : (g : GraphValue) (i k : ℕ) → Collide g i k → Collide g k i
collide_swapped g i k c = record {
  different = λ e. c.different (sym e);
  one = c.other;
  other = c.one;
  one_in = c.other_in;
  other_in = c.one_in;
  column = sym c.column;
  clash = clash_of c.other.mode c.one.mode (and_swapped (is_read c.one.mode) (is_read c.other.mode) (reads_of c.one.mode c.other.mode c.clash));
}
