-- Which classes are kept beside one another.
use Rattle.std.proofs.Common.{◌≡◌, ℕ, ◌+◌, ◌<◌, ◌≤◌, ◌⊎◌, true, inl, inr, List, [], ◌∷◌, ◌++◌, length, refl, sym, ◌∙◌, ap, subst, arith}
use Rattle.std.specs.Prelude.{Some, Vec, IsTrue, Contains, slice_get, slice_set}
use Rattle.std.specs.Global.{Global}
use Rattle.std.proofs.lemmas.Bool.{cases_eq, cases_lt, cases_order}
use Rattle.std.proofs.lemmas.Option.{same_Some, slice_get_within, slice_get-get_or}
use Rattle.std.proofs.lemmas.List.{length-set}
use Rattle.std.proofs.lemmas.List.Elements.{Contains-append_left, Contains-push, Contains-push_cases}
use Rattle.std.specs.List.Sorted.{IsPermutation}
use Rattle.std.proofs.lemmas.List.Sorted.{Contains-permutation, IsPermutation-sym}
use Rattle.index_spaces.specs.Space.{has_point}
use Rattle.graph_terms.specs.declared.verb.Access.{Access}
use Rattle.graph_terms.specs.Graph.{GraphValue, space_at}
use Rattle.graph_terms.specs.Access.{AccessesConflict}
use Rattle.basics.proofs.ListFacts.{got_contains, contains_none}
use Rattle.conflict_classes.specs.declared.class_conflicts.Spot.{Spot}
use Rattle.conflict_classes.specs.Classes.{IsNear, AreNear}
use Rattle.conflict_classes.specs.Clash.{Clash}
use Rattle.conflict_classes.specs.Spots.{IsSpot, AreSpots, IsUpTo, AreAscending, IsFar, AreLinked, AreLinkedTo, IsLinkedTo, AreGrown}
use Rattle.graph_meaning.proofs.Public.{conflict_back}
use Rattle.basics.proofs.ListFacts.{set_get, set_get_other}
use Rattle.basics.proofs.ListParts.{got_cases}

-- one class more beside a class
module _ (near : List (Vec ℕ Global)) (c d : ℕ) (v w : Vec ℕ Global) (at : slice_get near c ≡ Some v) (is : w.items ≡ v.items ++ d ∷ []) where
  small : c < length near
  small = slice_get_within near c v at

  pub near_added : IsNear (slice_set near c w) c d
  near_added = (w, set_get near c w small, subst (λ xs. Contains xs d) (sym is) (Contains-push v.items d))

  kept : (a e : ℕ) → IsNear near a e → IsNear (slice_set near c w) a e
  kept a e n = elim (cases_eq a c) [
    | inl same ↦ (
        let old : n.0 ≡ v = same_Some n.0 v (sym n.1 ∙ (ap (slice_get near) same ∙ at)) in
        (w, ap (slice_get (slice_set near c w)) same ∙ set_get near c w small, subst (λ xs. Contains xs e) (sym is) (Contains-append_left v.items (d ∷ []) e (subst (λ (z : Vec ℕ Global). Contains z.items e) old n.2))))
    | inr apart ↦ (n.0, set_get_other near c a w apart ∙ n.1, n.2)
  ]

  pub near_grown : d < length near → AreGrown (length near) near (slice_set near c w)
  near_grown known = record {
    size = length-set near c w;
    kept = kept;
    known = λ all a e n. elim (cases_eq a c) [
      | inl same ↦ (
          let new : n.0 ≡ w = same_Some n.0 w (sym n.1 ∙ (ap (slice_get (slice_set near c w)) same ∙ set_get near c w small)) in
          elim (Contains-push_cases v.items d e (subst (λ xs. Contains xs e) is (subst (λ (z : Vec ℕ Global). Contains z.items e) new n.2))) [
            | inl old ↦ all c e (v, at, old)
            | inr e' ↦ subst (λ z. z < length near) e' known
          ])
      | inr apart ↦ all a e (n.0, sym (set_get_other near c a w apart) ∙ n.1, n.2)
    ];
  }

pub grown_same : (n : ℕ) (near : List (Vec ℕ Global)) → AreGrown n near near
grown_same n near = record { size = refl; kept = λ c d h. h; known = λ all. all }

pub grown_more : (n : ℕ) (a b c : List (Vec ℕ Global)) → AreGrown n a b → AreGrown n b c → AreGrown n a c
grown_more n a b c f g = record { size = g.size ∙ f.size; kept = λ x y h. g.kept x y (f.kept x y h); known = λ all. g.known (f.known all) }

pub linked_kept : (g : GraphValue) (keys : List Access) (n : ℕ) (a b : List (Vec ℕ Global)) (s t : Spot) → AreGrown n a b → AreLinked g keys a s t → AreLinked g keys b s t
linked_kept g keys n a b s t f l x y hx hy c = let k = l x y hx hy c in (f.kept s.class t.class k.0, f.kept t.class s.class k.1)

-- two spots that clash not
pub not_linked : (g : GraphValue) (keys : List Access) (near : List (Vec ℕ Global)) (s t : Spot) (x y : Access) → slice_get keys s.class ≡ Some x → slice_get keys t.class ≡ Some y → (Clash g true x y → ⊥) → AreLinked g keys near s t
not_linked g keys near s t x y hx hy none a b ha hb c = absurd (none (record {
  conflict = subst (λ z. AccessesConflict g z y) (same_Some a x (sym ha ∙ hx)) (subst (λ z. AccessesConflict g a z) (same_Some b y (sym hb ∙ hy)) c);
  counts = refl;
}))

-- what stands behind a spot that is far from another conflicts with it not
pub far_behind : (g : GraphValue) (keys : List Access) (near : List (Vec ℕ Global)) (s u t : Spot) → IsSpot g keys s → IsSpot g keys t → IsUpTo s u → IsUpTo u t → IsFar s u → AreLinked g keys near s t
far_behind g keys near s u t hs ht su ut far a b ka kb c =
    let is : hs.key ≡ a = same_Some hs.key a (sym hs.is_key ∙ ka) in
    let it : ht.key ≡ b = same_Some ht.key b (sym ht.is_key ∙ kb) in
    let column : s.column ≡ t.column = hs.column ∙ (ap (λ (z : Access). z.column) is ∙ (c.column ∙ (ap (λ (z : Access). z.column) (sym it) ∙ sym ht.column))) in
    let p = c.meet.0 in
    let below = hs.span p (subst (λ (z : Access). IsTrue (has_point (space_at g z.space) p)) (sym is) c.meet.1) in
    let above = ht.span p (subst (λ (z : Access). IsTrue (has_point (space_at g z.space) p)) (sym it) c.meet.2) in
    let low : t.first ≤ p = above.0 in
    let high : p ≤ s.last = below.1 in
    elim su [
      | inl before ↦ elim ut [
        | inl then' ↦ absurd (omega arith)
        | inr then' ↦ (let e : u.column ≡ t.column = then'.0 in absurd (omega arith))
      ]
      | inr at ↦ elim ut [
        | inl then' ↦ (let e : s.column ≡ u.column = at.0 in absurd (omega arith))
        | inr then' ↦ (let e : s.last < u.first = far at.0 in let f : u.first ≤ t.first = then'.1 in absurd (omega arith))
      ]
    ]

-- a spot is linked with one more, or with all
pub linked_more : (g : GraphValue) (keys : List Access) (spots : List Spot) (a b : List (Vec ℕ Global)) (n p q : ℕ) (s t : Spot) → slice_get spots p ≡ Some s → slice_get spots q ≡ Some t → AreGrown n a b → IsLinkedTo g keys spots a p q → AreLinked g keys b s t →
    IsLinkedTo g keys spots b p (q + 1)
linked_more g keys spots a b n p q s t hs ht grown before here j x y low high hx hy = elim (cases_lt j q) [
  | inl l ↦ linked_kept g keys n a b x y grown (before j x y low l hx hy)
  | inr up ↦ (
      let e : j ≡ q = omega arith in
      let is : s ≡ x = same_Some s x (sym hs ∙ hx) in
      let it : t ≡ y = same_Some t y (sym ht ∙ (ap (slice_get spots) (sym e) ∙ hy)) in
      subst (λ z. AreLinked g keys b z y) is (subst (λ z. AreLinked g keys b s z) it here))
]

pub linked_far : (g : GraphValue) (keys : List Access) (spots : List Spot) (near : List (Vec ℕ Global)) (n p at : ℕ) (s u : Spot) → AreSpots g keys n spots → AreAscending spots → slice_get spots p ≡ Some s → slice_get spots at ≡ Some u → p ≤ at → IsFar s u →
    IsLinkedTo g keys spots near p at → (q : ℕ) → IsLinkedTo g keys spots near p q
linked_far g keys spots near n p at s u are asc hs hu le far before q j x y low high hx hy = elim (cases_lt j at) [
  | inl l ↦ before j x y low l hx hy
  | inr up ↦ (
      let is : s ≡ x = same_Some s x (sym hs ∙ hx) in
      subst (λ z. AreLinked g keys near z y) is
      (far_behind g keys near s u y (are.each s (got_contains spots p s hs)) (are.each y (got_contains spots j y hy)) (asc p at s u le hs hu) (asc at j u y up hu hy) far))
]

pub linked_end : (g : GraphValue) (keys : List Access) (spots : List Spot) (near : List (Vec ℕ Global)) (p at : ℕ) → length spots ≤ at → IsLinkedTo g keys spots near p at → (q : ℕ) → IsLinkedTo g keys spots near p q
linked_end g keys spots near p at all before q j x y low high hx hy = before j x y low (let b : j < length spots = slice_get_within spots j y hy in omega arith) hx hy

pub linked_next : (g : GraphValue) (keys : List Access) (spots : List Spot) (a b : List (Vec ℕ Global)) (n p : ℕ) → AreGrown n a b → AreLinkedTo g keys spots a p → ((q : ℕ) → IsLinkedTo g keys spots b p q) → AreLinkedTo g keys spots b (p + 1)
linked_next g keys spots a b n p grown before here i j s t low up hs ht = elim (cases_lt i p) [
  | inl l ↦ linked_kept g keys n a b s t grown (before i j s t l up hs ht)
  | inr at ↦ (let e : i ≡ p = omega arith in here (j + 1) j s t (omega arith) (omega arith) (ap (slice_get spots) (sym e) ∙ hs) ht)
]

-- spots in another order
pub spots_moved : (g : GraphValue) (keys : List Access) (n : ℕ) (xs ys : List Spot) → IsPermutation xs ys → AreSpots g keys n xs → AreSpots g keys n ys
spots_moved g keys n xs ys p a = record {
  each = λ s c. a.each s (Contains-permutation ys xs s (IsPermutation-sym xs ys p) c);
  all = λ c h. (let k = a.all c h in (k.0, Contains-permutation xs ys k.0 p k.1, k.2));
}

-- all spots are linked
pub near_all : (g : GraphValue) (keys : List Access) (spots : List Spot) (near : List (Vec ℕ Global)) (p : ℕ) → AreSpots g keys (length keys) spots → length spots ≤ p → length near ≡ length keys → ((c d : ℕ) → IsNear near c d → d < length keys) → AreLinkedTo g keys spots near p → AreNear g keys near
near_all g keys spots near p are all size known linked = record {
  size = size;
  known = known;
  each = λ c d a b ka kb conflict. (
      let s = are.all c (slice_get_within keys c a ka) in
      let t = are.all d (slice_get_within keys d b kb) in
      by c d a b ka kb conflict s.0 s.1 s.2 t.0 t.1 t.2);
}
  where
    at : (s : Spot) (h : Contains spots s) → slice_get spots h.0 ≡ Some s
    at s h = slice_get-get_or spots h.0 s h.1 ∙ ap Some h.2

    by : (c d : ℕ) (a b : Access) → slice_get keys c ≡ Some a → slice_get keys d ≡ Some b → AccessesConflict g a b → (s : Spot) → Contains spots s → s.class ≡ c → (t : Spot) → Contains spots t → t.class ≡ d → (c ≡ d) ⊎ IsNear near c d
    by c d a b ka kb conflict s hs is t ht it = elim (cases_order hs.0 ht.0) [
      | inl same ↦ inl (sym is ∙ (ap (λ (z : Spot). z.class) (same_Some s t (sym (at s hs) ∙ (ap (slice_get spots) same ∙ at t ht))) ∙ it))
      | inr (inl before) ↦ (
          let b' : hs.0 < length spots = hs.1 in
          let l = linked hs.0 ht.0 s t (omega arith) before (at s hs) (at t ht) a b (ap (slice_get keys) is ∙ ka) (ap (slice_get keys) it ∙ kb) conflict in
          inr (subst (λ z. IsNear near z d) is (subst (λ z. IsNear near s.class z) it l.0)))
      | inr (inr after) ↦ (
          let b' : ht.0 < length spots = ht.1 in
          let l = linked ht.0 hs.0 t s (omega arith) after (at t ht) (at s hs) b a (ap (slice_get keys) it ∙ kb) (ap (slice_get keys) is ∙ ka) (conflict_back g a b conflict) in
          inr (subst (λ z. IsNear near z d) is (subst (λ z. IsNear near s.class z) it l.1)))
    ]

-- one empty list more
pub near_none : (lists : List (Vec ℕ Global)) (v : Vec ℕ Global) → v.items ≡ [] → ((c d : ℕ) → IsNear lists c d → ⊥) → (c d : ℕ) → IsNear (lists ++ v ∷ []) c d → ⊥
near_none lists v empty none c d n = elim (got_cases lists v c n.0 n.1) [
  | inl old ↦ none c d (n.0, old.1, n.2)
  | inr new ↦ contains_none d (subst (λ xs. Contains xs d) empty (subst (λ (z : Vec ℕ Global). Contains z.items d) (sym new.1) n.2))
]

-- one more spot
pub spots_more : (g : GraphValue) (keys : List Access) (n : ℕ) (spots : List Spot) (s : Spot) → AreSpots g keys n spots → IsSpot g keys s → s.class ≡ n → AreSpots g keys (n + 1) (spots ++ s ∷ [])
spots_more g keys n spots s are is class = record {
  each = λ t c. elim (Contains-push_cases spots s t c) [ inl old ↦ are.each t old | inr e ↦ subst (λ z. IsSpot g keys z) e is ];
  all = λ c h. elim (cases_lt c n) [
    | inl l ↦ (let k = are.all c l in (k.0, Contains-append_left spots (s ∷ []) k.0 k.1, k.2))
    | inr up ↦ (s, Contains-push spots s, class ∙ (let e : n ≡ c = omega arith in e))
  ];
}
