-- Lists of words behind references.
use Rattle.std.proofs.Common.{◌≡◌, ℕ, zero, suc, ◌-◌, ◌<◌, ◌≤◌, Bool, true, false, ◌&&◌, ◌||◌, List, [], ◌∷◌, length, take, drop, take_all, get_or, map, refl, ◌∙◌, ap, arith, Bor}
use Rattle.std.specs.Prelude.{bytes_eq, zip}
use Rattle.std.specs.List.{list_all, list_any, starts_with}
use Rattle.std.proofs.lemmas.Bool.{true≢false}
use Rattle.std.proofs.lemmas.List.{length-map}
use Rattle.basics.specs.Words.{contents}
use Rattle.graph_terms.specs.declared.table.Kind.{Kind}
use Rattle.graph_terms.specs.declared.table.Place as table
use Rattle.graph_terms.specs.Table.{kind_places}
use Rattle.graph_words.specs.Draft.{Place, Times, Shared, Placed, is_own_word, takes_own_word, as_place, form_of, same_word, words_in}
use Rattle.graph_words.specs.Words.{words_of}

pub begins_by_zip : (ws fixed : List (Bor (List ℕ))) → length fixed ≤ length ws →
    list_all (λ (p : Bor (List ℕ) × Bor (List ℕ)). bytes_eq p.1.now p.0.now) (zip ws fixed) ≡ starts_with same_word (words_of ws) (words_of fixed)
begins_by_zip [] [] h = refl
begins_by_zip (w ∷ ws) [] h = refl
begins_by_zip [] (f ∷ fs) h = absurd (omega arith)
begins_by_zip (w ∷ ws) (f ∷ fs) h = ap (λ b. bytes_eq f.now w.now && b) (begins_by_zip ws fs (omega arith))

pub begins_too_few : (ws fixed : List (Bor (List ℕ))) → length ws < length fixed → starts_with same_word (words_of ws) (words_of fixed) ≡ false
begins_too_few [] [] h = absurd (omega arith)
begins_too_few (w ∷ ws) [] h = absurd (omega arith)
begins_too_few [] (f ∷ fs) h = refl
begins_too_few (w ∷ ws) (f ∷ fs) h = ap (λ b. bytes_eq f.now w.now && b) (begins_too_few ws fs (omega arith)) ∙ and_no (bytes_eq f.now w.now)
  where
    and_no : (b : Bool) → (b && false) ≡ false
    and_no true = refl
    and_no false = refl

pub map_words : {X : Type 0} (f : List ℕ → X) (ws : List (Bor (List ℕ))) → map f (words_of ws) ≡ map (λ w. f w.now) ws
map_words f [] = refl
map_words f (w ∷ ws) = ap (λ xs. f w.now ∷ xs) (map_words f ws)

pub words_behind : (ws : List (Bor (List ℕ))) (n : ℕ) → n ≤ length ws → words_of (take (length ws - n) (drop n ws)) ≡ drop n (words_of ws)
words_behind [] zero h = refl
words_behind [] (suc n) h = absurd (omega arith)
words_behind (w ∷ ws) zero h = ap words_of (take_all (length (w ∷ ws) - 0) (w ∷ ws) (omega arith))
words_behind (w ∷ ws) (suc n) h = ap (λ m. words_of (take m (drop n ws))) (let e : length (w ∷ ws) - suc n ≡ length ws - n = omega arith in e) ∙ words_behind ws n (omega arith)

-- the places of a kind
pub places_counted : (k : Kind) → length (form_of k).places ≡ length (kind_places k)
places_counted k = length-map (kind_places k) as_place

-- words that are the ones that their places take
pub own_listed : (ps : List table.Place) (ws : List (Bor (List ℕ))) → list_all (λ (p : table.Place × Bor (List ℕ)). is_own_word (as_place p.0) p.1.now) (zip ps ws) ≡ list_all (λ (p : Placed). is_own_word p.0 p.1) (words_in ps (words_of ws))
own_listed [] ws = refl
own_listed (p ∷ ps) [] = refl
own_listed (p ∷ ps) (w ∷ ws) = ap (λ b. is_own_word (as_place p) w.now && b) (own_listed ps ws)

-- places that take any word
own_word : (p : Place) (w : List ℕ) → takes_own_word p ≡ false → is_own_word p w ≡ true
own_word Times w h = absurd (true≢false h)
own_word Shared w h = absurd (true≢false h)
own_word p w h = refl

own_by : (a b c d : Bool) → (a || c) ≡ false → (a ≡ false → b ≡ true) → (c ≡ false → d ≡ true) → (b && d) ≡ true
own_by true b c d h f g = absurd (true≢false h)
own_by false b c d h f g = ap (λ x. x && d) (f refl) ∙ g h

pub own_places : (ps : List Place) (ws : List (List ℕ)) → list_any takes_own_word ps ≡ false → list_all (λ (p : Placed). is_own_word p.0 p.1) (zip ps ws) ≡ true
own_places [] ws h = refl
own_places (p ∷ ps) [] h = refl
own_places (p ∷ ps) (w ∷ ws) h = own_by (takes_own_word p) (is_own_word p w) (list_any takes_own_word ps) _ h (own_word p w) (own_places ps ws)

-- bytes and words by the first of them
pub first_byte : (w : List ℕ) (d : ℕ) → 1 ≤ length w → get_or w 0 d ∷ drop 1 w ≡ w
first_byte [] d h = absurd (omega arith)
first_byte (b ∷ w) d h = refl

pub first_word : (ws : List (Bor (List ℕ))) (d : Bor (List ℕ)) → 1 ≤ length ws → (get_or ws 0 d).now ∷ drop 1 (contents ws) ≡ contents ws
first_word [] d h = absurd (omega arith)
first_word (w ∷ ws) d h = refl

pub two_words : (ws : List (Bor (List ℕ))) (d e : Bor (List ℕ)) → 2 ≤ length ws → (get_or ws 0 d).now ∷ (get_or ws 1 e).now ∷ drop 2 (contents ws) ≡ contents ws
two_words [] d e h = absurd (omega arith)
two_words (w ∷ []) d e h = absurd (omega arith)
two_words (v ∷ w ∷ ws) d e h = refl
