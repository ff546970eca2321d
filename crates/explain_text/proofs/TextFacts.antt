-- Texts that grow at their end.
use Rattle.std.proofs.Common.{◌≡◌, ℕ, ◌+◌, ◌<◌, List, [], ◌∷◌, ◌++◌, length, take, map, sym, ◌∙◌, ap, append_assoc}
use Rattle.std.specs.Prelude.{Ok, Err, codes, flat_map}
use Rattle.std.specs.Borrow.{Bor}
use Rattle.std.specs.List.{slice_index_or}
use Rattle.std.proofs.lemmas.List.{take_more, append-nil, map-append}
use Rattle.std.proofs.lemmas.Grind.{flat_map-append}
use Rattle.basics.specs.Words.{contents}
use Rattle.explain_text.specs.Unread.{blank_word}
use Rattle.explain_text.specs.Visible.{visible, visible_byte}
use Rattle.explain_text.specs.Laws.{PutSameBytes, PutsSameBytes, PutPartByPart, PutsPartByPart}

-- one part, and then the rest
pub then_put : PutPartByPart
then_put old mid new a b first second = second ∙ (ap (λ z. z ++ b) first ∙ append_assoc old a b)

pub then_puts : {X E : Type 0} → PutsPartByPart X E
then_puts (Ok x) old mid new a b first second = then_put old mid new a b first second
then_puts (Err e) old mid new a b first second = tt

-- the same text by other words
pub puts_as : {X E : Type 0} → PutsSameBytes X E
puts_as (Ok x) old new a b same is = is ∙ ap (λ z. old ++ z) same
puts_as (Err e) old new a b same is = tt

pub put_as : PutSameBytes
put_as old new a b same is = is ∙ ap (λ z. old ++ z) same

-- spaces as wide as one more word
pub blanks_more : (words : List (Bor (List ℕ))) (k : ℕ) (d : Bor (List ℕ)) (old mid wide new : List ℕ) → k < length words → mid ≡ old ++ flat_map blank_word (contents (take k words)) →
    wide ≡ mid ++ map (λ b. 32) (visible (slice_index_or words k d).now) → new ≡ wide ++ codes " " → new ≡ old ++ flat_map blank_word (contents (take (k + 1) words))
blanks_more words k d old mid wide new below first second third =
    let x = slice_index_or words k d in
    let front = flat_map blank_word (contents (take k words)) in
    let pushed : flat_map blank_word (contents (take (k + 1) words)) ≡ front ++ blank_word x.now =
    ap (λ ws. flat_map blank_word (contents ws)) (take_more words k d below) ∙ (ap (flat_map blank_word) (map-append (λ (w : Bor (List ℕ)). w.now) (take k words) (x ∷ []))
    ∙ (flat_map-append blank_word (contents (take k words)) (x.now ∷ []) ∙ ap (λ z. front ++ z) (append-nil (blank_word x.now)))) in
    then_put old mid new front (blank_word x.now) first (then_put mid wide new (map (λ b. 32) (visible x.now)) (codes " ") second third) ∙ ap (λ z. old ++ z) (sym pushed)

-- a byte for one more byte
pub byte_more : (bytes : List ℕ) (byte k : ℕ) (old mid new : List ℕ) → k < length bytes → mid ≡ old ++ map (λ b. byte) (take k bytes) → new ≡ mid ++ byte ∷ [] → new ≡ old ++ map (λ b. byte) (take (k + 1) bytes)
byte_more bytes byte k old mid new below first second =
    then_put old mid new (map (λ b. byte) (take k bytes)) (byte ∷ []) first second
    ∙ ap (λ z. old ++ z) (sym (ap (map (λ b. byte)) (take_more bytes k 0 below) ∙ map-append (λ b. byte) (take k bytes) (slice_index_or bytes k 0 ∷ [])))

-- so for one more byte as it is written
pub below_more : (bytes : List ℕ) (byte k : ℕ) (old mid new : List ℕ) → k < length bytes → mid ≡ old ++ map (λ b. byte) (visible (take k bytes)) → new ≡ mid ++ map (λ b. byte) (visible_byte (slice_index_or bytes k 0)) →
    new ≡ old ++ map (λ b. byte) (visible (take (k + 1) bytes))
below_more bytes byte k old mid new below first second =
    let x = slice_index_or bytes k 0 in
    let pushed : visible (take (k + 1) bytes) ≡ visible (take k bytes) ++ visible_byte x =
    ap visible (take_more bytes k 0 below) ∙ (flat_map-append visible_byte (take k bytes) (x ∷ []) ∙ ap (λ z. visible (take k bytes) ++ z) (append-nil (visible_byte x))) in
    then_put old mid new (map (λ b. byte) (visible (take k bytes))) (map (λ b. byte) (visible_byte x)) first second
    ∙ ap (λ z. old ++ z) (sym (ap (map (λ b. byte)) pushed ∙ map-append (λ b. byte) (visible (take k bytes)) (visible_byte x)))
