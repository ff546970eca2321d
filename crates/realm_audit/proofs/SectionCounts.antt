-- How many open sections a reservation has.
use Rattle.std.proofs.Common.{◌≡◌, ℕ, zero, suc, ◌+◌, ◌<◌, ◌≤◌, Bool, true, false, not, ◌&&◌, cond, inl, inr, List, length, refl, sym, ◌∙◌, ap, arith}
use Rattle.std.specs.Prelude.{◌==◌, slice_set}
use Rattle.std.proofs.lemmas.List.{get_or-set_same, get_or-set_other}
use Rattle.std.proofs.lemmas.Bool.{cases_order, eq-eqb, and_from, not_from_false}
use Rattle.basics.specs.Lists.{count_below}
use Rattle.basics.proofs.ListFacts.{some_below, count_below-max}
use Rattle.graph_terms.specs.declared.verb.Verb.TheVariants.{Acquire}
use Rattle.graph_terms.specs.Graph.{GraphValue, line_passes, is_acquire_of, is_shared}
use Rattle.graph_terms.specs.Reservations.{Acquires}
use Rattle.graph_terms.proofs.Public.{acquire_is, verb_passes, passes_below}
use Rattle.realm_audit.specs.Prefix.{stands_in, is_exclusive_of, open_count, OpensSection, IsOpenBeside}

-- a number is counted if it passes
abbrev weight : Bool → ℕ
weight b = cond b 1 0

count_same : (p a b : ℕ → Bool) (i : ℕ) → ((k : ℕ) → (k ≡ i → ⊥) → b k ≡ a k) → (n : ℕ) → n ≤ i → count_below (λ k. b k && p k) n ≡ count_below (λ k. a k && p k) n
count_same p a b i same zero h = refl
count_same p a b i same (suc n) h =
    let here : weight (b n && p n) ≡ weight (a n && p n) = ap (λ z. weight (z && p n)) (same n (λ e. omega arith)) in
    let rest : count_below (λ k. b k && p k) n ≡ count_below (λ k. a k && p k) n = count_same p a b i same n (omega arith) in omega arith

-- one number more is counted if it passes the test
count_one : (p a b : ℕ → Bool) (i : ℕ) → a i ≡ false → b i ≡ true → ((k : ℕ) → (k ≡ i → ⊥) → b k ≡ a k) → (n : ℕ) → i < n →
    count_below (λ k. b k && p k) n ≡ weight (p i) + count_below (λ k. a k && p k) n
count_one p a b i shut is same zero h = absurd (omega arith)
count_one p a b i shut is same (suc n) h = elim (cases_order n i) [
  | inl at ↦ (
      let now : weight (b n && p n) ≡ weight (p i) = ap (λ z. weight (b z && p z)) at ∙ ap (λ z. weight (z && p i)) is in
      let before : weight (a n && p n) ≡ 0 = ap (λ z. weight (a z && p z)) at ∙ ap (λ z. weight (z && p i)) shut in
      let rest : count_below (λ k. b k && p k) n ≡ count_below (λ k. a k && p k) n = count_same p a b i same n (omega arith) in omega arith)
  | inr (inl less) ↦ absurd (omega arith)
  | inr (inr more) ↦ (
      let here : weight (b n && p n) ≡ weight (a n && p n) = ap (λ z. weight (z && p n)) (same n (λ e. omega arith)) in
      let rest : count_below (λ k. b k && p k) n ≡ weight (p i) + count_below (λ k. a k && p k) n = count_one p a b i shut is same n more in omega arith)
]

-- the counts of open sections are few
pub count_few : (g : GraphValue) (opened : List Bool) (l : ℕ) → (open_count g (stands_in opened) (is_acquire_of l) ≤ length g.lines) × (open_count g (stands_in opened) (is_exclusive_of l) ≤ length g.lines)
count_few g opened l = (
  count_below-max (λ q. stands_in opened q && line_passes (is_acquire_of l) g q) (length g.lines),
  count_below-max (λ q. stands_in opened q && line_passes (is_exclusive_of l) g q) (length g.lines),
)

module _ (g : GraphValue) (i lock : ℕ) (shared : Bool) (a : Acquires g i lock) (s : line_passes is_shared g i ≡ shared) where
  all_test : (l : ℕ) → line_passes (is_acquire_of l) g i ≡ (lock == l)
  all_test l = verb_passes (is_acquire_of l) g i (Acquire lock (line_passes is_shared g i)) (acquire_is g i lock a)

  exclusive_test : (l : ℕ) → line_passes (is_exclusive_of l) g i ≡ (not shared && (lock == l))
  exclusive_test l = verb_passes (is_exclusive_of l) g i (Acquire lock (line_passes is_shared g i)) (acquire_is g i lock a) ∙ ap (λ z. not z && (lock == l)) s

  -- where the section of acquire i is open, it is counted
  pub all_some : (opened : List Bool) → stands_in opened i ≡ true → 1 ≤ open_count g (stands_in opened) (is_acquire_of lock)
  all_some opened is = some_below (λ q. stands_in opened q && line_passes (is_acquire_of lock) g q) (length g.lines) i (passes_below (is_acquire_of lock) g i a) (and_from (stands_in opened i) (line_passes (is_acquire_of lock) g i) is a)

  pub exclusive_some : (opened : List Bool) → stands_in opened i ≡ true → shared ≡ false → 1 ≤ open_count g (stands_in opened) (is_exclusive_of lock)
  exclusive_some opened is alone =
      let test : line_passes (is_exclusive_of lock) g i ≡ true = exclusive_test lock ∙ and_from (not shared) (lock == lock) (not_from_false shared alone) (eq-eqb lock lock refl) in
      some_below (λ q. stands_in opened q && line_passes (is_exclusive_of lock) g q) (length g.lines) i (passes_below (is_acquire_of lock) g i a) (and_from (stands_in opened i) (line_passes (is_exclusive_of lock) g i) is test)

  module _ (before after : List Bool) (o : OpensSection before after i) where
    counted_as : (t : ℕ → Bool) → count_below (λ k. stands_in after k && t k) (length g.lines) ≡ cond (t i) 1 0 + count_below (λ k. stands_in before k && t k) (length g.lines)
    counted_as t = count_one t (stands_in before) (stands_in after) i o.closed o.opened o.others (length g.lines) (passes_below (is_acquire_of lock) g i a)

    pub all_counted : (l : ℕ) → open_count g (stands_in after) (is_acquire_of l) ≡ cond (lock == l) 1 0 + open_count g (stands_in before) (is_acquire_of l)
    all_counted l = counted_as (line_passes (is_acquire_of l) g) ∙ ap (λ z. cond z 1 0 + open_count g (stands_in before) (is_acquire_of l)) (all_test l)

    pub exclusive_counted : (l : ℕ) → open_count g (stands_in after) (is_exclusive_of l) ≡ cond (not shared && (lock == l)) 1 0 + open_count g (stands_in before) (is_exclusive_of l)
    exclusive_counted l = counted_as (line_passes (is_exclusive_of l) g) ∙ ap (λ z. cond z 1 0 + open_count g (stands_in before) (is_exclusive_of l)) (exclusive_test l)

  -- a section begins
  pub opens_at : (opened : List Bool) → length opened ≡ length g.lines → stands_in opened i ≡ false → OpensSection opened (slice_set opened i true) i
  opens_at opened size shut =
      let below : i < length g.lines = passes_below (is_acquire_of lock) g i a in
      record {
        closed = shut;
        opened = get_or-set_same opened i true false (omega (arith, below, size));
        others = λ p apart. get_or-set_other opened i p true false apart;
      }

  -- and ends
  pub ends_at : (opened : List Bool) → length opened ≡ length g.lines → stands_in opened i ≡ true → OpensSection (slice_set opened i false) opened i
  ends_at opened size is =
      let below : i < length g.lines = passes_below (is_acquire_of lock) g i a in
      record {
        closed = get_or-set_same opened i false false (omega (arith, below, size));
        opened = is;
        others = λ p apart. sym (get_or-set_other opened i p false false apart);
      }

-- an open section that excludes others is counted
apart_from_shared : (x : Bool) → (x && true) ≡ false → x ≡ false
apart_from_shared true h = h
apart_from_shared false h = refl

pub beside_counted : (g : GraphValue) (opened : List Bool) (l q : ℕ) (shared : Bool) → IsOpenBeside g opened l shared q → 1 ≤ open_count g (stands_in opened) (is_acquire_of l)
beside_counted g opened l q shared b = all_some g q l (line_passes is_shared g q) b.acquires refl opened b.is_open

pub beside_shared_counted : (g : GraphValue) (opened : List Bool) (l q : ℕ) → IsOpenBeside g opened l true q → 1 ≤ open_count g (stands_in opened) (is_exclusive_of l)
beside_shared_counted g opened l q b = exclusive_some g q l (line_passes is_shared g q) b.acquires refl opened b.is_open (apart_from_shared (line_passes is_shared g q) b.apart)

-- no section is open
pub none_counted : (p a : ℕ → Bool) → ((k : ℕ) → a k ≡ false) → (n : ℕ) → count_below (λ k. a k && p k) n ≡ 0
none_counted p a none zero = refl
none_counted p a none (suc n) =
    let here : weight (a n && p n) ≡ 0 = ap (λ z. weight (z && p n)) (none n) in
    let rest : count_below (λ k. a k && p k) n ≡ 0 = none_counted p a none n in omega arith
