-- Blocks of words, of which those with bits are marked.
use Rattle.std.proofs.Common.{◌≡◌, ℕ, ◌/◌, ◌<◌, true, false, inl, inr, List, length, ◌∙◌, ap, arith}
use Rattle.std.specs.Prelude.{slice_index, slice_set}
use Rattle.std.proofs.lemmas.Bool.{cases_eq}
use Rattle.std.proofs.lemmas.List.{length-set, get_or-set_same, get_or-set_other}
use Rattle.race_sweeps.specs.Reach.{IsBounded}
use Rattle.sweep_base.specs.Noted.{is_noted}
use Rattle.race_sweeps.specs.declared.reach.Reach.{Reach}

-- one block more is marked
pub bounded_marked : (n : ℕ) (r after : Reach) (k : ℕ) → IsBounded n r → k < length r.blocks.items → after.words.items ≡ r.words.items → after.blocks.items ≡ slice_set r.blocks.items k true → IsBounded n after
bounded_marked n r after k b small same marks = record {
  size = ap length same ∙ b.size;
  blocks = ap length marks ∙ (length-set r.blocks.items k true ∙ b.blocks);
  marked = λ x. elim (cases_eq (x / 64) k) [
    | inl here ↦ inr (ap (λ bs. is_noted bs (x / 64)) marks ∙ (ap (is_noted (slice_set r.blocks.items k true)) here ∙ get_or-set_same r.blocks.items k true false small))
    | inr apart ↦ elim (b.marked x) [
      | inl none ↦ inl (ap (λ ws. slice_index ws x) same ∙ none)
      | inr was ↦ inr (ap (λ bs. is_noted bs (x / 64)) marks ∙ (get_or-set_other r.blocks.items k (x / 64) true false apart ∙ was))
    ]
  ];
}

-- a word is changed, and its block is marked
pub bounded_added : (n : ℕ) (r after : Reach) (p word : ℕ) → IsBounded n r → p < n → after.words.items ≡ slice_set r.words.items p word → after.blocks.items ≡ slice_set r.blocks.items (p / 64) true → IsBounded n after
bounded_added n r after p word b small set marks = record {
  size = ap length set ∙ (length-set r.words.items p word ∙ b.size);
  blocks = ap length marks ∙ (length-set r.blocks.items (p / 64) true ∙ b.blocks);
  marked = λ x. elim (cases_eq (x / 64) (p / 64)) [
    | inl here ↦ inr (ap (λ bs. is_noted bs (x / 64)) marks ∙ (ap (is_noted (slice_set r.blocks.items (p / 64) true)) here ∙ get_or-set_same r.blocks.items (p / 64) true false (let e = b.blocks in omega (arith, e, small))))
    | inr apart ↦ elim (b.marked x) [
      | inl none ↦ inl (ap (λ ws. slice_index ws x) set ∙ (get_or-set_other r.words.items p x word 0 (λ same. apart (ap (λ z. z / 64) same)) ∙ none))
      | inr was ↦ inr (ap (λ bs. is_noted bs (x / 64)) marks ∙ (get_or-set_other r.blocks.items (p / 64) (x / 64) true false apart ∙ was))
    ]
  ];
}

-- a block without bits is marked no more
pub bounded_cleared : (n : ℕ) (r after : Reach) (words : List ℕ) (k : ℕ) → IsBounded n r → length words ≡ n → ((x : ℕ) → x / 64 ≡ k → slice_index words x ≡ 0) → ((x : ℕ) → slice_index r.words.items x ≡ 0 → slice_index words x ≡ 0) →
    after.words.items ≡ words → after.blocks.items ≡ slice_set r.blocks.items k false → IsBounded n after
bounded_cleared n r after words k b size none kept is marks = record {
  size = ap length is ∙ size;
  blocks = ap length marks ∙ (length-set r.blocks.items k false ∙ b.blocks);
  marked = λ x. elim (cases_eq (x / 64) k) [
    | inl here ↦ inl (ap (λ ws. slice_index ws x) is ∙ none x here)
    | inr apart ↦ elim (b.marked x) [
      | inl zero ↦ inl (ap (λ ws. slice_index ws x) is ∙ kept x zero)
      | inr was ↦ inr (ap (λ bs. is_noted bs (x / 64)) marks ∙ (get_or-set_other r.blocks.items k (x / 64) false false apart ∙ was))
    ]
  ];
}
