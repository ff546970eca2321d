-- Bytes that grow part by part.
use Rattle.std.proofs.Common.{◌≡◌, ℕ, ◌+◌, ◌<◌, List, [], ◌∷◌, ◌++◌, length, take, sym, ◌∙◌, ap, append_assoc}
use Rattle.std.specs.Prelude.{Result, Ok, Err, OnOk, flat_map}
use Rattle.std.specs.Borrow.{Bor}
use Rattle.std.specs.List.{slice_index_or, concat}
use Rattle.std.proofs.lemmas.List.{take_more, append-nil, map-append}
use Rattle.std.proofs.lemmas.List.Folds.{concat-append}
use Rattle.std.proofs.lemmas.Grind.{flat_map-append}
use Rattle.basics.specs.Words.{contents}

-- one part, and then the rest
pub then_put : (old mid new a b : List ℕ) → mid ≡ old ++ a → new ≡ mid ++ b → new ≡ old ++ (a ++ b)
then_put old mid new a b first second = second ∙ (ap (λ z. z ++ b) first ∙ append_assoc old a b)

pub then_puts : {X E : Type 0} (r : Result X E) (old mid new a b : List ℕ) → mid ≡ old ++ a → OnOk r (new ≡ mid ++ b) → OnOk r (new ≡ old ++ (a ++ b))
then_puts (Ok x) old mid new a b first second = then_put old mid new a b first second
then_puts (Err e) old mid new a b first second = tt

-- the parts of one more of a list
pub each_more : {X : Type 0} (f : X → List ℕ) (xs : List X) (k : ℕ) (d : X) (old mid new : List ℕ) → k < length xs → mid ≡ old ++ flat_map f (take k xs) → new ≡ mid ++ f (slice_index_or xs k d) →
    new ≡ old ++ flat_map f (take (k + 1) xs)
each_more f xs k d old mid new below first second =
    let x = slice_index_or xs k d in
    let pushed : flat_map f (take (k + 1) xs) ≡ flat_map f (take k xs) ++ f x =
    ap (flat_map f) (take_more xs k d below) ∙ (flat_map-append f (take k xs) (x ∷ []) ∙ ap (λ z. flat_map f (take k xs) ++ z) (append-nil (f x))) in
    then_put old mid new (flat_map f (take k xs)) (f x) first second ∙ ap (λ z. old ++ z) (sym pushed)

-- those of one more word
pub word_more : (f : List ℕ → List ℕ) (words : List (Bor (List ℕ))) (k : ℕ) (d : Bor (List ℕ)) (old mid new : List ℕ) → k < length words → mid ≡ old ++ flat_map f (contents (take k words)) →
    new ≡ mid ++ f (slice_index_or words k d).now → new ≡ old ++ flat_map f (contents (take (k + 1) words))
word_more f words k d old mid new below first second =
    let x = slice_index_or words k d in
    let front = flat_map f (contents (take k words)) in
    let pushed : flat_map f (contents (take (k + 1) words)) ≡ front ++ f x.now =
    ap (λ ws. flat_map f (contents ws)) (take_more words k d below) ∙ (ap (flat_map f) (map-append (λ (w : Bor (List ℕ)). w.now) (take k words) (x ∷ []))
    ∙ (flat_map-append f (contents (take k words)) (x.now ∷ []) ∙ ap (λ z. front ++ z) (append-nil (f x.now)))) in
    then_put old mid new front (f x.now) first second ∙ ap (λ z. old ++ z) (sym pushed)

-- one more part
pub part_more : (words : List (Bor (List ℕ))) (k : ℕ) (d : Bor (List ℕ)) (old mid new : List ℕ) → k < length words → mid ≡ old ++ concat (contents (take k words)) →
    new ≡ mid ++ (slice_index_or words k d).now → new ≡ old ++ concat (contents (take (k + 1) words))
part_more words k d old mid new below first second =
    let x = slice_index_or words k d in
    let front = concat (contents (take k words)) in
    let pushed : concat (contents (take (k + 1) words)) ≡ front ++ x.now =
    ap (λ ws. concat (contents ws)) (take_more words k d below) ∙ (ap concat (map-append (λ (w : Bor (List ℕ)). w.now) (take k words) (x ∷ []))
    ∙ (concat-append (contents (take k words)) (x.now ∷ []) ∙ ap (λ z. front ++ z) (append-nil x.now))) in
    then_put old mid new front x.now first second ∙ ap (λ z. old ++ z) (sym pushed)
