-- A graph has one need.
use Rattle.std.proofs.Common.{◌≡◌, ℕ, ◌+◌, ◌<◌, ◌≤◌, inl, inr, List, length, map, refl, sym, ◌∙◌, ap, arith}
use Rattle.std.specs.Prelude.{slice_index}
use Rattle.std.proofs.lemmas.List.FromFn.{fill_by_all}
use Rattle.basics.specs.Lists.{numbers_below}
use Rattle.graph_terms.specs.Graph.{GraphValue}
use Rattle.graph_meaning.specs.Need.{IsHigh, IsNeed, open_at, largest}

high_up : (g : GraphValue) (i h k : ℕ) → IsHigh g i h → IsHigh g i k → h ≤ k
high_up g i h k a b = elim a.attained.2 [
  | inl e ↦ (let m : a.attained.0 < k = b.above a.attained.0 a.attained.1 in omega arith)
  | inr never ↦ (let all : k ≡ length g.lines + 1 = b.above_all a.attained.0 a.attained.1 never.0 in let own : h ≡ length g.lines + 1 = never.1 in omega arith)
]

-- a line has one high number
pub one_high : (g : GraphValue) (i h k : ℕ) → IsHigh g i h → IsHigh g i k → h ≡ k
one_high g i h k a b = let up : h ≤ k = high_up g i h k a b in let down : k ≤ h = high_up g i k h b a in omega arith

same_lists : (xs ys : List ℕ) (n : ℕ) → length xs ≡ n → length ys ≡ n → ((i : ℕ) → i < n → slice_index xs i ≡ slice_index ys i) → xs ≡ ys
same_lists xs ys n a b same = fill_by_all (slice_index ys) xs n 0 a same ∙ sym (fill_by_all (slice_index ys) ys n 0 b (λ k h. refl))

-- a graph has one need
pub one_need : (g : GraphValue) (n m : ℕ) → IsNeed g n → IsNeed g m → n ≡ m
one_need g n m a b =
    let same : a.highs ≡ b.highs = same_lists a.highs b.highs (length g.lines) a.each_line b.each_line (λ i h. one_high g i (slice_index a.highs i) (slice_index b.highs i) (a.high i h) (b.high i h)) in
    a.most ∙ (ap (λ hs. 1 + largest (map (open_at hs) (numbers_below (length g.lines)))) same ∙ sym b.most)
