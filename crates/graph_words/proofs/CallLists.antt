-- The words of a call in their parts, as the code has them.
use Rattle.std.proofs.Common.{◌≡◌, ℕ, zero, suc, ◌+◌, ◌-◌, ◌<◌, ◌≤◌, Bool, true, false, cond, List, [], ◌∷◌, length, take, refl, ap, arith, Bor}
use Rattle.std.proofs.lemmas.List.{length-map}
use Rattle.graph_words.specs.Words.{words_of}
use Rattle.graph_words.specs.Calls.{begins_with_digit, value_words, behind_values, behind_accesses}

pub words_long : (ws : List (Bor (List ℕ))) → length (words_of ws) ≡ length ws
words_long ws = length-map ws (λ (w : Bor (List ℕ)). w.now)

-- what is left is no longer
left_by : (b : Bool) (w : List ℕ) (ws : List (List ℕ)) → length (behind_values ws) ≤ length ws → length (cond b (behind_values ws) (w ∷ ws)) ≤ suc (length ws)
left_by true w ws h = omega arith
left_by false w ws h = omega arith

left_short : (ws : List (List ℕ)) → length (behind_values ws) ≤ length ws
left_short [] = omega arith
left_short (w ∷ ws) = left_by (begins_with_digit w) w ws (left_short ws)

pub values_fit : (ws rest : List (Bor (List ℕ))) → words_of rest ≡ behind_values (words_of ws) → length rest ≤ length ws
values_fit ws rest h =
    let short : length (behind_values (words_of ws)) ≤ length (words_of ws) = left_short (words_of ws) in
    let same : length (words_of rest) ≡ length (behind_values (words_of ws)) = ap length h in
    let one : length (words_of rest) ≡ length rest = words_long rest in
    let other : length (words_of ws) ≡ length ws = words_long ws in
    omega arith

-- the values are what stands in front of what is left
cut_by : (b : Bool) (w : Bor (List ℕ)) (ws : List (Bor (List ℕ))) (k : ℕ) → k + length (cond b (behind_values (words_of ws)) (w.now ∷ words_of ws)) ≡ suc (length ws) →
    ((j : ℕ) → j + length (behind_values (words_of ws)) ≡ length ws → words_of (take j ws) ≡ value_words (words_of ws)) →
    words_of (take k (w ∷ ws)) ≡ cond b (w.now ∷ value_words (words_of ws)) []
cut_by false w ws zero h again = refl
cut_by false w ws (suc k) h again = absurd (let e : length (words_of ws) ≡ length ws = words_long ws in omega arith)
cut_by true w ws zero h again = absurd (let e : length (words_of ws) ≡ length ws = words_long ws in let s : length (behind_values (words_of ws)) ≤ length (words_of ws) = left_short (words_of ws) in omega arith)
cut_by true w ws (suc k) h again = ap (λ xs. w.now ∷ xs) (again k (omega arith))

cut_at : (ws : List (Bor (List ℕ))) (k : ℕ) → k + length (behind_values (words_of ws)) ≡ length ws → words_of (take k ws) ≡ value_words (words_of ws)
cut_at [] zero h = refl
cut_at [] (suc k) h = absurd (omega arith)
cut_at (w ∷ ws) k h = cut_by (begins_with_digit w.now) w ws k h (cut_at ws)

pub values_cut : (ws rest : List (Bor (List ℕ))) → words_of rest ≡ behind_values (words_of ws) → words_of (take (length ws - length rest) ws) ≡ value_words (words_of ws)
values_cut ws rest h =
    let fit : length rest ≤ length ws = values_fit ws rest h in
    let same : length (words_of rest) ≡ length (behind_values (words_of ws)) = ap length h in
    let one : length (words_of rest) ≡ length rest = words_long rest in
    cut_at ws (length ws - length rest) (omega arith)

-- fewer than three words begin with no access
pub few_left : (ws : List (List ℕ)) → length ws < 3 → ws ≡ behind_accesses ws
few_left [] h = refl
few_left (a ∷ []) h = refl
few_left (a ∷ b ∷ []) h = refl
few_left (a ∷ b ∷ c ∷ cs) h = absurd (omega arith)
