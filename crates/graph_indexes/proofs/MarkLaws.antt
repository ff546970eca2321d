-- Marks of numbers, and what they tell of a list.
use Rattle.std.proofs.Common.{◌≡◌, ◌≢◌, ℕ, zero, suc, ◌<◌, Bool, true, false, ◌||◌, nat_eq, inl, inr, List, [], ◌∷◌, length, get_or, replicate, slice_set, refl, sym, ◌∙◌, ap}
use Rattle.std.specs.Prelude.{◌⊎◌}
use Rattle.std.specs.List.{list_any, slice_index_or}
use Rattle.std.proofs.lemmas.Bool.Decides.{eqb_tells}
use Rattle.std.proofs.lemmas.List.{get_or-set_other}
use Rattle.std.proofs.lemmas.Grind.{get_or-set_at}
use Rattle.graph_terms.specs.Fits.{repeats}
use Rattle.graph_indexes.specs.Repeats.{clashes}

abbrev marked : List Bool → ℕ → Bool
marked marks n = slice_index_or marks n false

-- no number is marked at first
pub unmarked : (n i : ℕ) → slice_index_or (replicate n false) i false ≡ false
unmarked zero i = refl
unmarked (suc n) zero = refl
unmarked (suc n) (suc i) = unmarked n i

none_marked : (marks : List Bool) → ((i : ℕ) → slice_index_or marks i false ≡ false) → (ns : List ℕ) → list_any (marked marks) ns ≡ false
none_marked marks h [] = refl
none_marked marks h (n ∷ ns) = ap (λ b. b || list_any (marked marks) ns) (h n) ∙ none_marked marks h ns

-- without marks only the list itself tells
pub clashes_none : (marks : List Bool) (ns : List ℕ) → ((i : ℕ) → slice_index_or marks i false ≡ false) → clashes marks ns ≡ repeats nat_eq ns
clashes_none marks ns h = ap (λ b. repeats nat_eq ns || b) (none_marked marks h ns) ∙ or_false (repeats nat_eq ns)
  where
    or_false : (b : Bool) → (b || false) ≡ b
    or_false true = refl
    or_false false = refl

set_mark : (marks : List Bool) (n k : ℕ) → n < length marks → marked (slice_set marks n true) k ≡ (nat_eq n k || marked marks k)
set_mark marks n k h = set_by (eqb_tells n k)
  where
    set_by : ((nat_eq n k ≡ true) × (n ≡ k)) ⊎ ((nat_eq n k ≡ false) × (n ≢ k)) → marked (slice_set marks n true) k ≡ (nat_eq n k || marked marks k)
    set_by (inl same) = get_or-set_at marks n k true false (sym same.1) h ∙ sym (ap (λ b. b || marked marks k) same.0)
    set_by (inr other) = get_or-set_other marks n k true false (λ e. other.1 (sym e)) ∙ sym (ap (λ b. b || marked marks k) other.0)

any_set : (marks : List Bool) (n : ℕ) (ns : List ℕ) → n < length marks → list_any (marked (slice_set marks n true)) ns ≡ (list_any (nat_eq n) ns || list_any (marked marks) ns)
any_set marks n [] h = refl
any_set marks n (k ∷ ns) h =
    ap (λ b. b || list_any (marked (slice_set marks n true)) ns) (set_mark marks n k h)
    ∙ (ap (λ b. (nat_eq n k || marked marks k) || b) (any_set marks n ns h) ∙ mixed (nat_eq n k) (marked marks k) (list_any (nat_eq n) ns) (list_any (marked marks) ns))
  where
    mixed : (a b c d : Bool) → ((a || b) || (c || d)) ≡ ((a || c) || (b || d))
    mixed true b c d = refl
    mixed false true true d = refl
    mixed false true false d = refl
    mixed false false c d = refl

-- a number that is marked stands twice
pub again_marked : (marks : List Bool) (n : ℕ) (ns : List ℕ) (b : Bool) → marked marks n ≡ true → (true || b) ≡ clashes marks (n ∷ ns)
again_marked marks n ns b h = sym (ap (λ m. (list_any (nat_eq n) ns || repeats nat_eq ns) || (m || list_any (marked marks) ns)) h ∙ last (list_any (nat_eq n) ns || repeats nat_eq ns))
  where
    last : (a : Bool) → (a || true) ≡ true
    last true = refl
    last false = refl

-- one that is not is marked
pub again_set : (marks : List Bool) (n : ℕ) (ns : List ℕ) → n < length marks → marked marks n ≡ false → (false || clashes (slice_set marks n true) ns) ≡ clashes marks (n ∷ ns)
again_set marks n ns h m =
    ap (λ b. repeats nat_eq ns || b) (any_set marks n ns h)
    ∙ (turned (list_any (nat_eq n) ns) (repeats nat_eq ns) (list_any (marked marks) ns)
    ∙ sym (ap (λ b. (list_any (nat_eq n) ns || repeats nat_eq ns) || (b || list_any (marked marks) ns)) m))
  where
    turned : (a b c : Bool) → (b || (a || c)) ≡ ((a || b) || c)
    turned true true c = refl
    turned true false c = refl
    turned false b c = refl_or b c
      where
        refl_or : (b c : Bool) → (b || (false || c)) ≡ ((false || b) || c)
        refl_or true c = refl
        refl_or false c = refl

-- one that has no mark is looked for
pub again_past : (marks : List Bool) (n : ℕ) (ns : List ℕ) → marked marks n ≡ false → (list_any (nat_eq n) ns || clashes marks ns) ≡ clashes marks (n ∷ ns)
again_past marks n ns m =
    joined (list_any (nat_eq n) ns) (repeats nat_eq ns) (list_any (marked marks) ns)
    ∙ sym (ap (λ b. (list_any (nat_eq n) ns || repeats nat_eq ns) || (b || list_any (marked marks) ns)) m)
  where
    joined : (a b c : Bool) → (a || (b || c)) ≡ ((a || b) || c)
    joined true b c = refl
    joined false b c = refl
