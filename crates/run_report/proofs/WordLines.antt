-- Lines of words that are written word by word.
use Rattle.std.proofs.Common.{◌≡◌, ℕ, ◌-◌, ◌<◌, ◌≤◌, List, [], ◌∷◌, ◌++◌, length, take, drop, get_or, map, refl, sym, ◌∙◌, ap, append_assoc, take_all, arith}
use Rattle.std.specs.List.{join_with_byte}
use denote.Ref.{Bor}
use Rattle.graph_terms.specs.Spelling.{spelled}

pub one_word : (ws : List (Bor (List ℕ))) (d : Bor (List ℕ)) → 1 ≤ length ws → length ws < 2 → spelled (map (λ w. w.now) ws) ≡ (get_or ws 0 d).now ++ 10 ∷ []
one_word [] d h k = absurd (omega arith)
one_word (w ∷ []) d h k = refl
one_word (w ∷ v ∷ ws) d h k = absurd (omega arith)

more_words : (w v : Bor (List ℕ)) (ws rest : List (Bor (List ℕ))) → rest ≡ v ∷ ws → spelled (map (λ x. x.now) (w ∷ v ∷ ws)) ≡ w.now ++ (32 ∷ [] ++ spelled (map (λ x. x.now) rest))
more_words w v ws rest e = append_assoc w.now (32 ∷ join_with_byte 32 (map (λ x. x.now) (v ∷ ws))) (10 ∷ []) ∙ ap (λ (xs : List (Bor (List ℕ))). w.now ++ (32 ∷ [] ++ spelled (map (λ x. x.now) xs))) (sym e)

pub first_word : (ws : List (Bor (List ℕ))) (d : Bor (List ℕ)) → 2 ≤ length ws →
    spelled (map (λ w. w.now) ws) ≡ (get_or ws 0 d).now ++ (32 ∷ [] ++ spelled (map (λ w. w.now) (take (length ws - 1) (drop 1 ws))))
first_word [] d h = absurd (omega arith)
first_word (w ∷ []) d h = absurd (omega arith)
first_word (w ∷ v ∷ ws) d h = more_words w v ws (take (length (w ∷ v ∷ ws) - 1) (v ∷ ws)) (take_all (length (w ∷ v ∷ ws) - 1) (v ∷ ws) (omega arith))
