-- Bytes that are copied one by one to the front of others, and the tests by which they are a name.
use Rattle.std.proofs.Common.{◌≡◌, ℕ, zero, suc, ◌+◌, ◌<◌, Bool, true, ◌&&◌, List, [], ◌∷◌, ◌++◌, length, take, drop, slice_set, refl, ◌∙◌, sym, ap, add-one, arith}
use Rattle.std.specs.Prelude.{slice_index_or}
use Rattle.std.specs.List.{list_all}
use Rattle.std.proofs.lemmas.Bool.{false≢true, and_parts}
use Rattle.graph_terms.specs.declared.format.Format.{Format}
use Rattle.graph_terms.specs.declared.format.Format.TheVariants.{One, Two, Three}
use Rattle.graph_terms.specs.Name.{is_name_byte, is_later_byte, is_name_in}
use Rattle.graph_terms.specs.NameParts.{is_later_in, begins_name}

set_next : (xs ys : List ℕ) (i : ℕ) → i < length xs → i < length ys → slice_set (take i xs ++ drop i ys) i (slice_index_or xs i 0) ≡ take (suc i) xs ++ drop (suc i) ys
set_next [] ys i h k = absurd (omega (arith, h))
set_next (x ∷ xs) [] i h k = absurd (omega (arith, k))
set_next (x ∷ xs) (y ∷ ys) zero h k = refl
set_next (x ∷ xs) (y ∷ ys) (suc i) h k = ap (λ zs. x ∷ zs) (set_next xs ys i (omega (arith, h)) (omega (arith, k)))

-- one more byte is copied
pub copied_next : (xs ys copy : List ℕ) (i : ℕ) → i < length xs → i < length ys → copy ≡ take i xs ++ drop i ys →
    slice_set copy i (slice_index_or xs i 0) ≡ take (i + 1) xs ++ drop (i + 1) ys
copied_next xs ys copy i h k e =
    ap (λ zs. slice_set zs i (slice_index_or xs i 0)) e ∙ set_next xs ys i h k ∙ ap (λ n. take n xs ++ drop n ys) (sym (add-one i))

all_next : (p : ℕ → Bool) (xs : List ℕ) (i : ℕ) → i < length xs → list_all p (take i xs) ≡ true → p (slice_index_or xs i 0) ≡ true → list_all p (take (suc i) xs) ≡ true
all_next p [] i h a b = absurd (omega (arith, h))
all_next p (x ∷ xs) zero h a b = ap (λ c. c && true) b
all_next p (x ∷ xs) (suc i) h a b =
    let q = and_parts (p x) (list_all p (take i xs)) a in
    ap (λ c. c && list_all p (take (suc i) xs)) q.0 ∙ all_next p xs i (omega (arith, h)) q.1 b

-- one more byte passes
pub passes_next : (p : ℕ → Bool) (xs : List ℕ) (i : ℕ) → i < length xs → list_all p (take i xs) ≡ true → p (slice_index_or xs i 0) ≡ true → list_all p (take (i + 1) xs) ≡ true
passes_next p xs i h a b = ap (λ n. list_all p (take n xs)) (add-one i) ∙ all_next p xs i h a b

-- bytes that pass the tests of a format are a name of it
pub named_by_parts : (f : Format) (w : List ℕ) → begins_name f w ≡ true → list_all (is_later_in f) w ≡ true → is_name_in f w ≡ true
named_by_parts f [] b p = absurd (false≢true b)
named_by_parts One (c ∷ cs) b p = ap (λ x. x && list_all is_name_byte cs) b ∙ (and_parts (is_name_byte c) (list_all is_name_byte cs) p).1
named_by_parts Two (c ∷ cs) b p = ap (λ x. x && list_all is_name_byte cs) b ∙ (and_parts (is_name_byte c) (list_all is_name_byte cs) p).1
named_by_parts Three (c ∷ cs) b p = ap (λ x. x && list_all is_later_byte cs) b ∙ (and_parts (is_later_byte c) (list_all is_later_byte cs) p).1
