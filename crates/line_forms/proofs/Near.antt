-- Words that pass a test, one after the other.
use Rattle.std.proofs.Common.{◌≡◌, ℕ, ◌+◌, ◌<◌, List, [], ◌∷◌, ◌++◌, length, take, sym, ◌∙◌, ap, append_assoc}
use Rattle.std.specs.Prelude.{Bool, true, false, cond}
use Rattle.std.specs.Borrow.{Bor}
use Rattle.std.specs.List.{slice_index_or, filter}
use Rattle.std.proofs.lemmas.List.{take_more, append-nil, map-append}
use Rattle.std.proofs.lemmas.List.Elements.{filter-append}
use Rattle.basics.specs.Words.{contents}

-- a word that passes
pub passes : (p : List ℕ → Bool) (old more : List (Bor (List ℕ))) (x : Bor (List ℕ)) → p x.now ≡ true → more ≡ old ++ x ∷ [] → contents more ≡ contents old ++ filter p (x.now ∷ [])
passes p old more x e pushed = ap contents pushed ∙ (map-append (λ (w : Bor (List ℕ)). w.now) old (x ∷ []) ∙ ap (λ b. contents old ++ cond b (x.now ∷ []) []) (sym e))

-- and one that does not
pub fails : (p : List ℕ → Bool) (old : List (Bor (List ℕ))) (x : Bor (List ℕ)) → p x.now ≡ false → contents old ≡ contents old ++ filter p (x.now ∷ [])
fails p old x e = sym (append-nil (contents old)) ∙ ap (λ b. contents old ++ cond b (x.now ∷ []) []) (sym e)

-- those of one more word
pub filtered_more : (p : List ℕ → Bool) (vs : List (Bor (List ℕ))) (k : ℕ) (d : Bor (List ℕ)) (old mid new : List (List ℕ)) → k < length vs → mid ≡ old ++ filter p (contents (take k vs)) →
    new ≡ mid ++ filter p ((slice_index_or vs k d).now ∷ []) → new ≡ old ++ filter p (contents (take (k + 1) vs))
filtered_more p vs k d old mid new below first second =
    let x = slice_index_or vs k d in
    let front = contents (take k vs) in
    let pushed : filter p (contents (take (k + 1) vs)) ≡ filter p front ++ filter p (x.now ∷ []) =
    ap (λ ws. filter p (contents ws)) (take_more vs k d below) ∙ (ap (filter p) (map-append (λ (w : Bor (List ℕ)). w.now) (take k vs) (x ∷ [])) ∙ filter-append p front (x.now ∷ [])) in
    second ∙ (ap (λ z. z ++ filter p (x.now ∷ [])) first ∙ (append_assoc old (filter p front) (filter p (x.now ∷ [])) ∙ ap (λ z. old ++ z) (sym pushed)))
