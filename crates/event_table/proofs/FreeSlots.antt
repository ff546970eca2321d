-- The list of free slots is filled from the last slot on.
use Rattle.std.proofs.Common.{◌≡◌, ◌≢◌, ℕ, suc, ◌+◌, ◌%◌, ◌<◌, ◌≤◌, List, [], ◌∷◌, ◌++◌, length, get_or, sym, subst, ⊎_elim, arith}
use Rattle.std.specs.Prelude.{Contains}
use Rattle.std.proofs.lemmas.List.Elements.{Contains-append_left, Contains-append_right, Contains-append_cases}
use mathlib.Core.Logic.{dite}
use native.Mathlib.Decide.{ℕ_discrete}
use Rattle.basics.specs.Sums.{total, below}
use Rattle.basics.proofs.Sums.{total-append, total-one, below-one}
use Rattle.basics.proofs.ListFacts.{contains_none, contains_here, contains_one as Contains-one}

-- the free ones of the slots from n on are in the list, each once
pub record Fills (slots : ℕ) (words : List ℕ) (n : ℕ) (items : List ℕ) : Type 0 where
  pub free : (i : ℕ) → Contains items i → (n ≤ i) × (i < slots) × (get_or words i 0 % 4294967296 ≡ 0)
  pub all : (i : ℕ) → n ≤ i → i < slots → get_or words i 0 % 4294967296 ≡ 0 → Contains items i
  pub once : (f : ℕ → ℕ) → total f items + below f n ≤ below f slots

pub fills_none : (slots : ℕ) (words : List ℕ) → Fills slots words slots []
fills_none slots words = record { free = λ i c. absurd (contains_none i c); all = λ i a b e. absurd (omega arith); once = λ f. omega arith }

module _ (slots : ℕ) (words : List ℕ) (n m : ℕ) (items : List ℕ) (is : n ≡ suc m) (low : n ≤ slots) (o : Fills slots words n items) where
  pub fills_more : get_or words m 0 % 4294967296 ≡ 0 → Fills slots words m (items ++ m ∷ [])
  fills_more e = record {
    free = λ i c. ⊎_elim (λ d. let t = o.free i d in (omega (arith, t.0), t.1, t.2)) (λ d. let same = Contains-one m i d in subst (λ j. (m ≤ j) × (j < slots) × (get_or words j 0 % 4294967296 ≡ 0)) same (omega arith, omega arith, e)) (Contains-append_cases items (m ∷ []) i c);
    all = λ i a b f. dite (ℕ_discrete m i) (λ same. subst (Contains (items ++ m ∷ [])) same (Contains-append_right items (m ∷ []) m (contains_here m []))) (λ ne. Contains-append_left items (m ∷ []) i (o.all i (omega arith) b f));
    once = λ f. let before : total f items + below f (suc m) ≤ below f slots = subst (λ k. total f items + below f k ≤ below f slots) is (o.once f) in omega (arith, total-append f items (m ∷ []));
  }

  pub fills_skip : get_or words m 0 % 4294967296 ≢ 0 → Fills slots words m items
  fills_skip ne = record {
    free = λ i c. let t = o.free i c in (omega (arith, t.0), t.1, t.2);
    all = λ i a b f. dite (ℕ_discrete m i) (λ same. absurd (ne (subst (λ j. get_or words j 0 % 4294967296 ≡ 0) (sym same) f))) (λ d. o.all i (omega arith) b f);
    once = λ f. let before : total f items + below f (suc m) ≤ below f slots = subst (λ k. total f items + below f k ≤ below f slots) is (o.once f) in omega arith;
  }

  -- there is room for one more
  pub fills_room : length items < slots
  fills_room = omega (arith, o.once (λ _. 1), total-one items, below-one n, below-one slots)
