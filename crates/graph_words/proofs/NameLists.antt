-- Loops over words that are to be names, and over names of which none is to stand twice.
use Rattle.std.proofs.Common.{◌≡◌, ℕ, zero, suc, ◌+◌, ◌<◌, Bool, true, false, cond, ◌&&◌, ◌||◌, List, [], ◌∷◌, ◌++◌, length, take, get_or, map, refl, sym, ◌∙◌, ap, arith, Bor}
use Rattle.std.specs.Prelude.{bytes_eq}
use Rattle.std.specs.List.{list_any, list_all}
use Rattle.std.specs.Cmp.Lexicographic.{slice_cmp}
use Rattle.std.specs.Ordering.{nat_cmp, is_eq}
use Rattle.std.proofs.lemmas.Bool.{true≢false}
use Rattle.std.proofs.lemmas.List.{take_more, map-append}
use Rattle.std.proofs.lemmas.List.Folds.{list_any-append}
use Rattle.std.proofs.lemmas.Map.Text.{is_eq-slice_cmp}
use Rattle.graph_terms.specs.Fits.{repeats}
use Rattle.graph_words.proofs.TextLists.{repeats_push}
use Rattle.basics.proofs.TestedLists.{same_bytes, bytes_same, bytes_flip}
use Rattle.graph_words.specs.Words.{words_of}
use Rattle.basics.proofs.Choices.{or_true}
use Rattle.graph_words.specs.Laws.{OneMorePasses, OneFails, OneNumberMore}

pub word_more : (ws : List (Bor (List ℕ))) (i : ℕ) (d : Bor (List ℕ)) → i < length ws → take (i + 1) (words_of ws) ≡ take i (words_of ws) ++ (get_or ws i d).now ∷ []
word_more [] i d h = absurd (omega arith)
word_more (w ∷ ws) zero d h = refl
word_more (w ∷ ws) (suc i) d h = ap (λ n. take n (words_of (w ∷ ws))) (let e : suc i + 1 ≡ suc (i + 1) = omega arith in e) ∙ ap (λ x. w.now ∷ x) (word_more ws i d (omega arith))

pub words_more : (ws : List (Bor (List ℕ))) (i : ℕ) (d : Bor (List ℕ)) (name : List ℕ) (items more : List (List ℕ)) → i < length ws → name ≡ (get_or ws i d).now → items ≡ take i (words_of ws) → more ≡ items ++ name ∷ [] → more ≡ take (i + 1) (words_of ws)
words_more ws i d name items more l e h k = k ∙ (ap (λ x. x ++ name ∷ []) h ∙ (ap (λ y. take i (words_of ws) ++ y ∷ []) e ∙ sym (word_more ws i d l)))

all_by : (t : List ℕ → Bool) (xs ys : List (List ℕ)) (b : Bool) → (b && list_all t xs) ≡ true → (list_all t xs ≡ true → list_all t ys ≡ true) → (b && list_all t ys) ≡ true
all_by t xs ys true h again = again h
all_by t xs ys false h again = absurd (true≢false (sym h))

all_append : (t : List ℕ → Bool) (xs : List (List ℕ)) (y : List ℕ) → list_all t xs ≡ true → t y ≡ true → list_all t (xs ++ y ∷ []) ≡ true
all_append t [] y h k = ap (λ b. b && true) k
all_append t (x ∷ xs) y h k = all_by t xs (xs ++ y ∷ []) (t x) h (λ r. all_append t xs y r k)

-- one word more passes a test
pub passed_more : OneMorePasses
passed_more t ws i d l h k = ap (list_all t) (word_more ws i d l) ∙ all_append t (take i (words_of ws)) (get_or ws i d).now h k

and_false : (b : Bool) → (b && false) ≡ false
and_false true = refl
and_false false = refl

-- one word fails a test
pub failed_at : OneFails
failed_at t [] i d l h = absurd (omega arith)
failed_at t (w ∷ ws) zero d l h = ap (λ b. b && list_all t (words_of ws)) h
failed_at t (w ∷ ws) (suc i) d l h = ap (λ b. t w.now && b) (failed_at t ws i d (omega arith) h) ∙ and_false (t w.now)

-- one number more
pub numbers_more : OneNumberMore
numbers_more f ws i d n items more l e h k = k ∙ (ap (λ x. x ++ n ∷ []) h ∙ (ap (λ y. map f (take i (words_of ws)) ++ y ∷ []) e ∙ (sym (map-append f (take i (words_of ws)) ((get_or ws i d).now ∷ [])) ∙ ap (map f) (sym (word_more ws i d l)))))

listed_at : (xs : List (List ℕ)) (i : ℕ) (d x : List ℕ) → i < length xs → x ≡ get_or xs i d → list_any (bytes_eq x) xs ≡ true
listed_at [] i d x l e = absurd (omega arith)
listed_at (y ∷ ys) zero d x l e = ap (λ b. b || list_any (bytes_eq x) ys) (bytes_same x y e)
listed_at (y ∷ ys) (suc i) d x l e = ap (λ b. bytes_eq x y || b) (listed_at ys i d x (omega arith) e) ∙ or_true (bytes_eq x y)

repeated_by : (y x : List ℕ) (ys : List (List ℕ)) (b c : Bool) → bytes_eq x y ≡ b → list_any (bytes_eq x) ys ≡ true → (b || c) ≡ true → (c ≡ true → repeats bytes_eq ys ≡ true) → (list_any (bytes_eq y) ys || repeats bytes_eq ys) ≡ true
repeated_by y x ys true c e l h again = ap (λ z. list_any (bytes_eq z) ys || repeats bytes_eq ys) (sym (same_bytes x y e)) ∙ ap (λ b. b || repeats bytes_eq ys) l
repeated_by y x ys false c e l h again = ap (λ b. list_any (bytes_eq y) ys || b) (again h) ∙ or_true (list_any (bytes_eq y) ys)

-- a name that stands before its place stands there twice
pub repeated_at : (xs : List (List ℕ)) (i : ℕ) (d x : List ℕ) → i < length xs → x ≡ get_or xs i d → list_any (bytes_eq x) (take i xs) ≡ true → repeats bytes_eq xs ≡ true
repeated_at [] i d x l e h = absurd (omega arith)
repeated_at (y ∷ ys) zero d x l e h = absurd (true≢false (sym h))
repeated_at (y ∷ ys) (suc i) d x l e h = repeated_by y x ys (bytes_eq x y) (list_any (bytes_eq x) (take i ys)) refl (listed_at ys i d x (omega arith) e) h (repeated_at ys i d x (omega arith) e)

pub once_more : (xs : List (List ℕ)) (i : ℕ) (x : List ℕ) → i < length xs → x ≡ get_or xs i x → repeats bytes_eq (take i xs) ≡ false → list_any (bytes_eq x) (take i xs) ≡ false → repeats bytes_eq (take (i + 1) xs) ≡ false
once_more xs i x l e r h = ap (repeats bytes_eq) (take_more xs i x l ∙ ap (λ y. take i xs ++ y ∷ []) (sym e)) ∙ repeats_push (take i xs) x r h

cond_or : (b c d : Bool) → b ≡ c → cond b true d ≡ (d || (c || false))
cond_or true c true e = refl
cond_or true c false e = ap (λ x. x || false) e
cond_or false c true e = refl
cond_or false c false e = ap (λ x. x || false) e

-- the set has one name more
pub kept_more : (xs : List (List ℕ)) (i : ℕ) (x : List ℕ) (had has : List ℕ → Bool) → i < length xs → x ≡ get_or xs i x → ((q : List ℕ) → had q ≡ list_any (bytes_eq q) (take i xs)) →
    ((q : List ℕ) → has q ≡ cond (is_eq (slice_cmp nat_cmp x q)) true (had q)) → (q : List ℕ) → has q ≡ list_any (bytes_eq q) (take (i + 1) xs)
kept_more xs i x had has l e k u q =
    u q ∙ (cond_or (is_eq (slice_cmp nat_cmp x q)) (bytes_eq q x) (had q) (is_eq-slice_cmp x q ∙ bytes_flip x q)
    ∙ (ap (λ b. b || (bytes_eq q x || false)) (k q) ∙ (sym (list_any-append (bytes_eq q) (take i xs) (x ∷ [])) ∙ ap (list_any (bytes_eq q)) (sym (take_more xs i x l ∙ ap (λ y. take i xs ++ y ∷ []) (sym e))))))
