-- Bytes that grow part by part.
use Rattle.std.proofs.Common.{◌≡◌, ℕ, ◌+◌, ◌<◌, List, [], ◌∷◌, ◌++◌, length, take, sym, ◌∙◌, ap, append_assoc}
use Rattle.std.specs.Prelude.{Result, Ok, Err, OnOk, flat_map}
use Rattle.std.specs.List.{slice_index_or}
use Rattle.std.proofs.lemmas.List.{take_more, append-nil}
use Rattle.std.proofs.lemmas.Grind.{flat_map-append}

-- one part, and then the rest
pub then_put : (old mid new a b : List ℕ) → mid ≡ old ++ a → new ≡ mid ++ b → new ≡ old ++ (a ++ b)
then_put old mid new a b first second = second ∙ (ap (λ z. z ++ b) first ∙ append_assoc old a b)

pub then_puts : {X E : Type 0} (r : Result X E) (old mid new a b : List ℕ) → mid ≡ old ++ a → OnOk r (new ≡ mid ++ b) → OnOk r (new ≡ old ++ (a ++ b))
then_puts (Ok x) old mid new a b first second = then_put old mid new a b first second
then_puts (Err e) old mid new a b first second = tt

-- the parts of one more of a list
pub each_more : {X : Type 0} (f : X → List ℕ) (xs : List X) (k : ℕ) (d : X) (old mid new : List ℕ) → k < length xs → mid ≡ old ++ flat_map f (take k xs) → new ≡ mid ++ f (slice_index_or xs k d) →
    new ≡ old ++ flat_map f (take (k + 1) xs)
each_more f xs k d old mid new below first second =
    let x = slice_index_or xs k d in
    let pushed : flat_map f (take (k + 1) xs) ≡ flat_map f (take k xs) ++ f x =
    ap (flat_map f) (take_more xs k d below) ∙ (flat_map-append f (take k xs) (x ∷ []) ∙ ap (λ z. flat_map f (take k xs) ++ z) (append-nil (f x))) in
    then_put old mid new (flat_map f (take k xs)) (f x) first second ∙ ap (λ z. old ++ z) (sym pushed)
