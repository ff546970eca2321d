-- Lists that are made line by line.
use Rattle.std.proofs.Common.{◌≡◌, ℕ, ◌+◌, List, [], ◌∷◌, ◌++◌, length, map, sym, ◌∙◌, ap, arith}
use Rattle.std.proofs.lemmas.List.FromFn.{map-range_with_len_more}
use Rattle.std.proofs.lemmas.List.{length_push}
use Rattle.basics.specs.Lists.{numbers_below}

-- one line more
pub line_pushed : {X : Type 0} (f : ℕ → X) (k : ℕ) (x : X) (old new : List X) → old ≡ map f (numbers_below k) → x ≡ f k → new ≡ old ++ x ∷ [] → new ≡ map f (numbers_below (k + 1))
line_pushed f k x old new o e w = w ∙ (ap (λ xs. xs ++ x ∷ []) o ∙ (ap (λ y. map f (numbers_below k) ++ y ∷ []) e ∙ sym (map-range_with_len_more f 0 k k (omega arith))))

-- and one item more
pub count_pushed : {X : Type 0} (x : X) (old new : List X) (a b k : ℕ) → a ≡ length old → b ≡ length new → new ≡ old ++ x ∷ [] → a ≡ k → b ≡ k + 1
count_pushed x old new a b k is_old is_new w e = let more : length new ≡ length old + 1 = ap length w ∙ length_push old x in omega arith
