-- The first spaces of classes.
use Rattle.std.proofs.Common.{◌≡◌, ℕ, ◌+◌, ◌<◌, ◌≤◌, true, false, ◌⊎◌, inl, inr, List, [], ◌∷◌, ◌++◌, length, refl, sym, ◌∙◌, ap, subst, take, get_or, arith}
use Rattle.std.specs.Prelude.{Some, Contains, slice_get}
use Rattle.std.proofs.lemmas.Bool.{cases_lt, cases_eq}
use Rattle.std.proofs.lemmas.Option.{none-some}
use Rattle.std.proofs.lemmas.List.{take_more}
use Rattle.std.proofs.lemmas.List.Elements.{Contains-append_left, Contains-push, Contains-push_cases}
use Rattle.basics.proofs.ListFacts.{contains_none, contains_one, got_contains}
use Rattle.basics.proofs.ListParts.{got_cases}
use Rattle.space_classes.specs.Classes.{label, HasClass, AddsFirst, had, added, AreFirsts}

-- those of the first spaces
pub record AreFirstsTo (labels : List ℕ) (k : ℕ) (firsts : List ℕ) : Type 0 where
  pub known : (a : ℕ) → Contains firsts a → a < length labels
  pub differ : (i j a b : ℕ) → slice_get firsts i ≡ Some a → slice_get firsts j ≡ Some b → label labels a ≡ label labels b → i ≡ j
  pub all : (j : ℕ) → j < k → (a : ℕ) × Contains firsts a × (label labels a ≡ label labels j)

pub no_firsts : (labels : List ℕ) → AreFirstsTo labels 0 []
no_firsts labels = record {
  known = λ a c. absurd (contains_none a c);
  differ = λ i j a b p q e. absurd (none-some a p);
  all = λ j below. absurd (omega (arith, below));
}

none_first : (labels : List ℕ) (k wanted : ℕ) (firsts : List ℕ) → wanted ≡ label labels k → AreFirstsTo labels k firsts → HasClass labels firsts wanted → AreFirstsTo labels (k + 1) firsts
none_first labels k wanted firsts is are h = record {
  known = are.known;
  differ = are.differ;
  all = λ j below. by_place j below (cases_lt j k);
}
  where
    by_place : (j : ℕ) → j < k + 1 → (j < k) ⊎ (k ≤ j) → (a : ℕ) × Contains firsts a × (label labels a ≡ label labels j)
    by_place j below (inl early) = are.all j early
    by_place j below (inr late) =
        let e : k ≡ j = omega (arith, below, late) in
        (h.0, h.1, h.2 ∙ (is ∙ ap (label labels) e))

one_first : (labels : List ℕ) (k wanted : ℕ) (firsts new : List ℕ) → wanted ≡ label labels k → k < length labels → AreFirstsTo labels k firsts → (HasClass labels firsts wanted → ⊥) → new ≡ firsts ++ k ∷ [] → AreFirstsTo labels (k + 1) new
one_first labels k wanted firsts new is known are none put = subst (AreFirstsTo labels (k + 1)) (sym put) (record {
  known = λ a c. elim (Contains-push_cases firsts k a c) [
    | inl early ↦ are.known a early
    | inr same ↦ subst (λ n. n < length labels) same known
  ];
  differ = λ i j a b p q e. by_places i j a b e (got_cases firsts k i a p) (got_cases firsts k j b q);
  all = λ j below. by_place j below (cases_lt j k);
})
  where
    new_label : (a : ℕ) → Contains firsts a → label labels a ≡ label labels k → ⊥
    new_label a c e = none (a, c, e ∙ sym is)

    by_places : (i j a b : ℕ) → label labels a ≡ label labels b → ((i < length firsts) × (slice_get firsts i ≡ Some a)) ⊎ ((i ≡ length firsts) × (k ≡ a)) → ((j < length firsts) × (slice_get firsts j ≡ Some b)) ⊎ ((j ≡ length firsts) × (k ≡ b)) → i ≡ j
    by_places i j a b e (inl p) (inl q) = are.differ i j a b p.1 q.1 e
    by_places i j a b e (inl p) (inr q) = absurd (new_label a (got_contains firsts i a p.1) (e ∙ ap (label labels) (sym q.1)))
    by_places i j a b e (inr p) (inl q) = absurd (new_label b (got_contains firsts j b q.1) (sym e ∙ ap (label labels) (sym p.1)))
    by_places i j a b e (inr p) (inr q) = p.0 ∙ sym q.0

    by_place : (j : ℕ) → j < k + 1 → (j < k) ⊎ (k ≤ j) → (a : ℕ) × Contains (firsts ++ k ∷ []) a × (label labels a ≡ label labels j)
    by_place j below (inl early) = let a = are.all j early in (a.0, Contains-append_left firsts (k ∷ []) a.0 a.1, a.2)
    by_place j below (inr late) = (k, Contains-push firsts k, ap (label labels) (let e : k ≡ j = omega (arith, below, late) in e))

pub adds_first : (labels : List ℕ) (k : ℕ) (firsts new : List ℕ) → k < length labels → AreFirstsTo labels k firsts → AddsFirst labels k firsts new → AreFirstsTo labels (k + 1) new
adds_first labels k firsts new low are (had h e) = subst (AreFirstsTo labels (k + 1)) (sym e) (none_first labels k (label labels k) firsts refl are h)
adds_first labels k firsts new low are (added h e) = one_first labels k (label labels k) firsts new refl low are h e

pub firsts_of_all : (labels : List ℕ) (most k : ℕ) (firsts : List ℕ) → AreFirstsTo labels k firsts → length labels ≤ k → AreFirsts labels most firsts
firsts_of_all labels most k firsts are past = record {
  known = are.known;
  differ = are.differ;
  all = inl (λ j below. are.all j (omega (arith, below, past)));
}

pub firsts_of_many : (labels : List ℕ) (most k : ℕ) (firsts : List ℕ) → AreFirstsTo labels k firsts → most < length firsts → AreFirsts labels most firsts
firsts_of_many labels most k firsts are many = record { known = are.known; differ = are.differ; all = inr many }

-- whether one has a label, place by place
pub no_class : (labels firsts : List ℕ) (wanted k : ℕ) → k < length firsts → ((a : ℕ) → Contains (take k firsts) a → label labels a ≡ wanted → ⊥) → (label labels (get_or firsts k 0) ≡ wanted → ⊥) → (a : ℕ) → Contains (take (k + 1) firsts) a → label labels a ≡ wanted → ⊥
no_class labels firsts wanted k below before other a c e = elim (Contains-push_cases (take k firsts) (get_or firsts k 0) a (subst (λ xs. Contains xs a) (take_more firsts k 0 below) c)) [
  | inl early ↦ before a early e
  | inr same ↦ other (ap (label labels) same ∙ e)
]
