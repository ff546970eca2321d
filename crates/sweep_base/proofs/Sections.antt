-- In which sections lines lie.
use Rattle.std.proofs.Common.{◌≡◌, ℕ, zero, suc, ◌+◌, ◌<◌, ◌≤◌, ◌⊎◌, false, inl, inr, List, [], ◌∷◌, ◌++◌, length, refl, sym, ◌∙◌, ap, subst, arith}
use Rattle.std.specs.Prelude.{◌==◌, Option, Some, None, IfSome, Vec, slice_get, slice_set}
use Rattle.std.specs.Option.{option_map_or}
use Rattle.std.specs.Global.{Global}
use Rattle.std.specs.List.{slice_index_or}
use Rattle.std.proofs.lemmas.Bool.{cases_eq, cases_lt, cases_Bool, eq-eqb, eqb-true, cond-true, cond-false}
use Rattle.std.proofs.lemmas.List.{length-set}
use Rattle.graph_terms.specs.Graph.{GraphValue, is_acquire_of}
use Rattle.graph_meaning.specs.Rules.{Section}
use Rattle.graph_terms.specs.Reservations.{both_shared}
use Rattle.graph_terms.proofs.Public.{passes_below}
use Rattle.std.proofs.lemmas.Option.{none-some, same_Some, slice_get-get_or, slice_get_past, slice_get_within}
use Rattle.sweep_base.specs.declared.line_sections.Held.{Held}
use Rattle.sweep_base.specs.declared.line_sections.Kept.{Kept}
use Rattle.sweep_base.specs.Held.{IsHeld, IsKeeping, LieApart, Exclude, acquire_in, kept_in, list_of}
use Rattle.basics.proofs.ListFacts.{set_get, set_get_other}

-- a list with one more
kept_still : (ks : List Kept) (k : Kept) (l q : ℕ) → kept_in ks l ≡ Some q → kept_in (ks ++ k ∷ []) l ≡ Some q
kept_still [] k l q e = absurd (none-some q e)
kept_still (x ∷ xs) k l q e = elim (cases_Bool (x.lock == l)) [
  | inl here ↦ cond-true (x.lock == l) (Some x.acquire) (kept_in (xs ++ k ∷ []) l) here ∙ (sym (cond-true (x.lock == l) (Some x.acquire) (kept_in xs l) here) ∙ e)
  | inr apart ↦ cond-false (x.lock == l) (Some x.acquire) (kept_in (xs ++ k ∷ []) l) apart ∙ kept_still xs k l q (sym (cond-false (x.lock == l) (Some x.acquire) (kept_in xs l) apart) ∙ e)
]

kept_cases : (ks : List Kept) (k : Kept) (l q : ℕ) → kept_in (ks ++ k ∷ []) l ≡ Some q → (kept_in ks l ≡ Some q) ⊎ ((l ≡ k.lock) × (q ≡ k.acquire))
kept_cases [] k l q e = elim (cases_Bool (k.lock == l)) [
  | inl here ↦ inr (sym (eqb-true k.lock l here), sym (same_Some k.acquire q (sym (cond-true (k.lock == l) (Some k.acquire) None here) ∙ e)))
  | inr apart ↦ absurd (none-some q (sym (cond-false (k.lock == l) (Some k.acquire) None apart) ∙ e))
]
kept_cases (x ∷ xs) k l q e = elim (cases_Bool (x.lock == l)) [
  | inl here ↦ inl (cond-true (x.lock == l) (Some x.acquire) (kept_in xs l) here ∙ (sym (cond-true (x.lock == l) (Some x.acquire) (kept_in (xs ++ k ∷ []) l) here) ∙ e))
  | inr apart ↦ elim (kept_cases xs k l q (sym (cond-false (x.lock == l) (Some x.acquire) (kept_in (xs ++ k ∷ []) l) apart) ∙ e)) [
    | inl old ↦ inl (cond-false (x.lock == l) (Some x.acquire) (kept_in xs l) apart ∙ old)
    | inr new ↦ inr new
  ]
]

kept_there : (ks : List Kept) (k : Kept) → kept_in (ks ++ k ∷ []) k.lock ≡ None → ⊥
kept_there [] k e = none-some k.acquire (sym e ∙ cond-true (k.lock == k.lock) (Some k.acquire) None (eq-eqb k.lock k.lock refl))
kept_there (x ∷ xs) k e = elim (cases_Bool (x.lock == k.lock)) [
  | inl here ↦ none-some x.acquire (sym e ∙ cond-true (x.lock == k.lock) (Some x.acquire) (kept_in (xs ++ k ∷ []) k.lock) here)
  | inr apart ↦ kept_there xs k (sym (cond-false (x.lock == k.lock) (Some x.acquire) (kept_in (xs ++ k ∷ []) k.lock) apart) ∙ e)
]

-- what is kept or not
kept_or_none : (o : Option ℕ) → ((q : ℕ) × (o ≡ Some q)) ⊎ (o ≡ None)
kept_or_none None = inr refl
kept_or_none (Some q) = inl (q, refl)

abbrev items_of : Option (Vec Kept Global) → List Kept
items_of o = option_map_or (λ (v : Vec Kept Global). v.items) o []

-- empty lists
empty_list : (o : Option (Vec Kept Global)) (l : ℕ) → ((v : Vec Kept Global) → o ≡ Some v → v.items ≡ []) → kept_in (items_of o) l ≡ None
empty_list None l each = refl
empty_list (Some v) l each = ap (λ ks. kept_in ks l) (each v refl)

pub none_listed : (h : Held) (l i : ℕ) → ((v : Vec Kept Global) → slice_get h.lines.items i ≡ Some v → v.items ≡ []) → acquire_in h l i ≡ None
none_listed h l i each = empty_list (slice_get h.lines.items i) l each

-- one acquire more is kept for a line
module _ (h after : Held) (l i q : ℕ) (list new : Vec Kept Global) (at : slice_get h.lines.items i ≡ Some list) (pushed : new.items ≡ list.items ++ (record { lock = l; acquire = q }) ∷ []) (is : after.lines.items ≡ slice_set h.lines.items i new) where
  before : list_of h i ≡ list.items
  before = ap items_of at

  here : list_of after i ≡ list.items ++ (record { lock = l; acquire = q }) ∷ []
  here = ap items_of (ap (λ ls. slice_get ls i) is ∙ set_get h.lines.items i new (slice_get_within h.lines.items i list at)) ∙ pushed

  elsewhere : (j : ℕ) → (j ≡ i → ⊥) → list_of after j ≡ list_of h j
  elsewhere j apart = ap items_of (ap (λ ls. slice_get ls j) is ∙ set_get_other h.lines.items i j new apart)

  grown : (k j p : ℕ) → acquire_in h k j ≡ Some p → acquire_in after k j ≡ Some p
  grown k j p e = elim (cases_eq j i) [
    | inr apart ↦ ap (λ ks. kept_in ks k) (elsewhere j apart) ∙ e
    | inl same ↦ ap (acquire_in after k) same ∙ (ap (λ ks. kept_in ks k) here ∙ kept_still list.items (record { lock = l; acquire = q }) k p (ap (λ ks. kept_in ks k) (sym before) ∙ (ap (acquire_in h k) (sym same) ∙ e)))
  ]

  pub keeping : IsKeeping h after l i q
  keeping = record {
    size = ap length is ∙ length-set h.lines.items i new;
    is = λ k j p e. elim (cases_eq j i) [
      | inr apart ↦ inl (ap (λ ks. kept_in ks k) (sym (elsewhere j apart)) ∙ e)
      | inl same ↦ elim (kept_cases list.items (record { lock = l; acquire = q }) k p (ap (λ ks. kept_in ks k) (sym here) ∙ (ap (acquire_in after k) (sym same) ∙ e))) [
        | inl old ↦ inl (ap (acquire_in h k) same ∙ (ap (λ ks. kept_in ks k) before ∙ old))
        | inr new' ↦ inr (new'.0, same, new'.1)
      ]
    ];
    grown = λ k j kept none. elim (kept_or_none (acquire_in h k j)) [
      | inl some ↦ none-some some.0 (sym none ∙ grown k j some.0 some.1)
      | inr gone ↦ kept gone
    ];
    kept = λ none. kept_there list.items (record { lock = l; acquire = q }) (ap (λ ks. kept_in ks l) (sym here) ∙ none);
  }

-- the list of a line, as it is looked up
pub list_found : (h : Held) (i : ℕ) (rows : List (Vec Kept Global)) (v : Vec Kept Global) → rows ≡ h.lines.items → i < length rows → ((d : Vec Kept Global) → v ≡ slice_index_or rows i d) → list_of h i ≡ v.items
list_found h i rows v is small read = ap items_of (ap (λ ls. slice_get ls i) (sym is) ∙ (slice_get-get_or rows i v small ∙ ap Some (sym (read v))))

pub list_missing : (h : Held) (i : ℕ) (rows : List (Vec Kept Global)) → rows ≡ h.lines.items → length rows ≤ i → list_of h i ≡ []
list_missing h i rows is past = ap items_of (ap (λ ls. slice_get ls i) (sym is) ∙ slice_get_past rows i past)

pub first_of : (ks : List Kept) (k : Kept) → 0 < length ks → ((d : Kept) → k ≡ slice_index_or ks 0 d) → kept_in ks k.lock ≡ Some k.acquire
first_of [] k low read = (let none : 0 < 0 = low in absurd (omega arith))
first_of (x ∷ xs) k low read = subst (λ (z : Kept). kept_in (x ∷ xs) z.lock ≡ Some z.acquire) (sym (read x)) (cond-true (x.lock == x.lock) (Some x.acquire) (kept_in xs x.lock) (eq-eqb x.lock x.lock refl))

pub nil_of : (ks : List Kept) → length ks ≡ 0 → ks ≡ []
nil_of [] e = refl
nil_of (x ∷ xs) e = (let some : suc (length xs) ≡ 0 = e in absurd (omega arith))

abbrev pub no_kept : Kept
no_kept = record { lock = 0; acquire = 0 }

-- a reservation of which an acquire is kept stands in the list
pub kept_place : (ks : List Kept) (l q : ℕ) (d : Kept) → kept_in ks l ≡ Some q → (m : ℕ) × (m < length ks) × ((slice_index_or ks m d).lock ≡ l)
kept_place [] l q d e = absurd (none-some q e)
kept_place (x ∷ xs) l q d e = elim (cases_Bool (x.lock == l)) [
  | inl same ↦ (zero, (let low : 0 < suc (length xs) = omega arith in low), eqb-true x.lock l same)
  | inr apart ↦ (let k = kept_place xs l q d (sym (cond-false (x.lock == l) (Some x.acquire) (kept_in xs l) apart) ∙ e) in (suc k.0, (let low : k.0 < length xs = k.1 in let up : suc k.0 < suc (length xs) = omega arith in up), k.2))
]

-- an acquire that is kept is a line, in whose section the line lies
acquire_below : (g : GraphValue) (l i q : ℕ) → Section g l q i → q < length g.lines
acquire_below g l i q s = passes_below (is_acquire_of l) g q s.acquires

pub free_of : (g : GraphValue) (h : Held) → IsHeld g h → (i : ℕ) → i < length g.lines → list_of h i ≡ [] → (l q : ℕ) → Section g l q i → ⊥
free_of g h held i known none l q sec = held.none l i q known (ap (λ ks. kept_in ks l) none) sec

pub section_kept : (g : GraphValue) (h : Held) → IsHeld g h → (l i q : ℕ) → acquire_in h l i ≡ Some q → Section g l q i
section_kept g h held l i q e = held.is l i q e

pub acquire_known : (g : GraphValue) (h : Held) → IsHeld g h → (l i : ℕ) (o : Option ℕ) → o ≡ acquire_in h l i → IfSome o (λ q. q < length g.lines)
acquire_known g h held l i None e = tt
acquire_known g h held l i (Some q) e = acquire_below g l i q (held.is l i q (sym e))

-- lines for which different acquires of one reservation are kept lie apart, where these are not both shared
pub kept_apart : (g : GraphValue) (h : Held) → IsHeld g h → (l i j q k : ℕ) → acquire_in h l i ≡ Some q → acquire_in h l j ≡ Some k → (q ≡ k → ⊥) → both_shared g q k ≡ false → LieApart g i j
kept_apart g h held l i j q k a b apart alone = (l, q, k, apart, alone, held.is l i q a, held.is l j k b)

excluded_apart : (g : GraphValue) (h : Held) → IsHeld g h → (l i j : ℕ) (o p : Option ℕ) → acquire_in h l i ≡ o → acquire_in h l j ≡ p → Exclude g o p → LieApart g i j
excluded_apart g h held l i j (Some q) (Some k) e f d = kept_apart g h held l i j q k e f d.0 d.1
excluded_apart g h held l i j (Some q) None e f d = absurd d
excluded_apart g h held l i j None (Some k) e f d = absurd d
excluded_apart g h held l i j None None e f d = absurd d

-- and so do lines for which acquires are kept that exclude one another
pub lie_apart : (g : GraphValue) (h : Held) → IsHeld g h → (i j : ℕ) → ((l : ℕ) × Exclude g (acquire_in h l i) (acquire_in h l j)) → LieApart g i j
lie_apart g h held i j x = excluded_apart g h held x.0 i j (acquire_in h x.0 i) (acquire_in h x.0 j) refl refl x.1

-- of acquires that exclude one another the first is kept
excluding : (g : GraphValue) (o p : Option ℕ) → Exclude g o p → (q : ℕ) × (o ≡ Some q)
excluding g (Some q) p d = (q, refl)
excluding g None (Some k) d = absurd d
excluding g None None d = absurd d

pub excluding_kept : (g : GraphValue) (h : Held) (l i j : ℕ) → Exclude g (acquire_in h l i) (acquire_in h l j) → (q : ℕ) × (acquire_in h l i ≡ Some q)
excluding_kept g h l i j d = excluding g (acquire_in h l i) (acquire_in h l j) d

-- the acquires of the list of a line do not exclude those of another line
abbrev pub NoneExclude : GraphValue → Held → ℕ → ℕ → List Kept → ℕ → Type 0
NoneExclude g h i j ks n = (m : ℕ) → m < n → Exclude g (acquire_in h (slice_index_or ks m no_kept).lock i) (acquire_in h (slice_index_or ks m no_kept).lock j) → ⊥

pub none_more : (g : GraphValue) (h : Held) (i j : ℕ) (ks : List Kept) (n : ℕ) → NoneExclude g h i j ks n → (Exclude g (acquire_in h (slice_index_or ks n no_kept).lock i) (acquire_in h (slice_index_or ks n no_kept).lock j) → ⊥) → NoneExclude g h i j ks (n + 1)
none_more g h i j ks n before here' m low x = elim (cases_lt m n) [
  | inl less ↦ before m less x
  | inr up ↦ (let same : m ≡ n = omega arith in here' (subst (λ z. Exclude g (acquire_in h (slice_index_or ks z no_kept).lock i) (acquire_in h (slice_index_or ks z no_kept).lock j)) same x))
]

pub none_exclude : (g : GraphValue) (h : Held) (i j n : ℕ) → NoneExclude g h i j (list_of h i) n → length (list_of h i) ≤ n → ((l : ℕ) × Exclude g (acquire_in h l i) (acquire_in h l j)) → ⊥
none_exclude g h i j n none all x =
    let q = excluding_kept g h x.0 i j x.1 in
    let k = kept_place (list_of h i) x.0 q.0 no_kept q.1 in
    none k.0 (let low : k.0 < length (list_of h i) = k.1 in omega arith) (subst (λ z. Exclude g (acquire_in h z i) (acquire_in h z j)) (sym k.2) x.1)
