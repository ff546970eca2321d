-- What is lent, changed at one place, and where the words and slots of shares lie.
use Rattle.std.proofs.Common.{◌≡◌, ℕ, ◌<◌, ◌≤◌, ◌⊎◌, Bool, true, false, inl, inr, refl, ◌∙◌, ap, arith, cond, eq-eqb, ne_eqb}
use Rattle.std.specs.Prelude.{◌==◌}
use Rattle.std.proofs.lemmas.Bool.{cases_eq}
use Rattle.graph_terms.specs.Graph.{GraphValue}
use Rattle.share_words.specs.Shares.{share_count}
use Rattle.word_steps.specs.Layout.{size_of, turn_word, share_word, shares_end, column_slot, share_slot, issue_turn_slot}
use Rattle.word_steps.specs.Rule.{Loans}
use Rattle.share_words.proofs.Public.{words_apart, word_within, slots_apart, slot_within, shares_in_planes}

-- column c in lending d
abbrev pub lent_as : Loans → ℕ → ℕ → Loans
lent_as loans c d = record { lending = λ k. cond (k == c) d (loans.lending k); holder = loans.holder }

pub lent_here : (loans : Loans) (c d : ℕ) → (lent_as loans c d).lending c ≡ d
lent_here loans c d = ap (λ b. cond b d (loans.lending c)) (eq-eqb c c refl)

pub lent_else : (loans : Loans) (c d k : ℕ) → (k ≡ c → ⊥) → (lent_as loans c d).lending k ≡ loans.lending k
lent_else loans c d k n = ap (λ b. cond b d (loans.lending k)) (ne_eqb k c n)

-- share j of column c with this holder
abbrev pub held_as : Loans → ℕ → ℕ → ℕ → Loans
held_as loans c j who = record { lending = loans.lending; holder = λ k n. cond (k == c) (cond (n == j) who (loans.holder k n)) (loans.holder k n) }

pub held_here : (loans : Loans) (c j who : ℕ) → (held_as loans c j who).holder c j ≡ who
held_here loans c j who = ap (λ b. cond b (cond (j == j) who (loans.holder c j)) (loans.holder c j)) (eq-eqb c c refl) ∙ ap (λ b. cond b who (loans.holder c j)) (eq-eqb j j refl)

cond_same : {X : Type 0} (b : Bool) (x : X) → cond b x x ≡ x
cond_same true x = refl
cond_same false x = refl

pub same_share : (k c n j : ℕ) → ((k ≡ c) × (n ≡ j)) ⊎ ((k ≡ c) × (n ≡ j) → ⊥)
same_share k c n j = elim (cases_eq k c) [
  | inl q ↦ elim (cases_eq n j) [ inl r ↦ inl (q, r) | inr m ↦ inr (λ b. m b.1) ]
  | inr m ↦ inr (λ b. m b.0)
]

pub held_else : (loans : Loans) (c j who k n : ℕ) → ((k ≡ c) × (n ≡ j) → ⊥) → (held_as loans c j who).holder k n ≡ loans.holder k n
held_else loans c j who k n ne = elim (cases_eq k c) [
  | inl q ↦ ap (λ b. cond b (cond (n == j) who (loans.holder k n)) (loans.holder k n)) (eq-eqb k c q) ∙ ap (λ b. cond b who (loans.holder k n)) (ne_eqb n j (λ r. ne (q, r)))
  | inr m ↦ ap (λ b. cond b (cond (n == j) who (loans.holder k n)) (loans.holder k n)) (ne_eqb k c m)
]

pub pair_is : {a b x y : ℕ} → a ≡ x → b ≡ y → ◌≡◌ {A = ℕ × ℕ} (a, b) (x, y)
pair_is {a} {b} {x} {y} p q = ap (λ (m : ℕ). (m, b)) p ∙ ap (λ (m : ℕ). (x, m)) q

-- WHERE SHARES LIE
pub share_word_within : (g : GraphValue) (c j : ℕ) → c < (size_of g).cols → j < share_count g c → (turn_word (size_of g) (size_of g).cols ≤ share_word (size_of g) c j) × (share_word (size_of g) c j < shares_end (size_of g))
share_word_within g c j l n =
    let m = shares_in_planes g c l in
    let w = word_within (turn_word (size_of g) (size_of g).cols) (size_of g).cols (size_of g).planes c j l (omega (arith, n, m)) in
    (omega (arith, w.0), w.1)

pub share_slot_in : (g : GraphValue) (c j : ℕ) → c < (size_of g).cols → j < (size_of g).planes → (column_slot (size_of g) (size_of g).cols ≤ share_slot (size_of g) c j) × (share_slot (size_of g) c j < issue_turn_slot (size_of g))
share_slot_in g c j l n = slot_within (column_slot (size_of g) (size_of g).cols) (size_of g).cols (size_of g).planes c j l n

pub in_planes : (g : GraphValue) (c j : ℕ) → c < (size_of g).cols → j < share_count g c → j < (size_of g).planes
in_planes g c j l n = let m = shares_in_planes g c l in omega (arith, n, m)

pub share_slot_within : (g : GraphValue) (c j : ℕ) → c < (size_of g).cols → j < share_count g c → (column_slot (size_of g) (size_of g).cols ≤ share_slot (size_of g) c j) × (share_slot (size_of g) c j < issue_turn_slot (size_of g))
share_slot_within g c j l n = share_slot_in g c j l (in_planes g c j l n)

pub share_word_apart : (g : GraphValue) (c j k n : ℕ) → c < (size_of g).cols → j < share_count g c → k < (size_of g).cols → n < share_count g k → share_word (size_of g) c j ≡ share_word (size_of g) k n → (c ≡ k) × (j ≡ n)
share_word_apart g c j k n l f m h q = words_apart (turn_word (size_of g) (size_of g).cols) (size_of g).cols c k j n l m q

pub share_slot_apart : (g : GraphValue) (c j k n : ℕ) → c < (size_of g).cols → k < (size_of g).cols → share_slot (size_of g) c j ≡ share_slot (size_of g) k n → (c ≡ k) × (j ≡ n)
share_slot_apart g c j k n l m q = slots_apart (column_slot (size_of g) (size_of g).cols) (size_of g).cols c k j n l m q
