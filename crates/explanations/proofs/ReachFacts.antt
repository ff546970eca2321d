-- How lines are reached, by what a search that goes onward has left.
use Rattle.std.proofs.Common.{◌≡◌, ℕ, zero, suc, ◌+◌, ◌-◌, ◌<◌, ◌≤◌, inl, inr, Bool, true, false, cond, List, [], ◌∷◌, ◌++◌, length, refl, sym, ◌∙◌, ap, subst, arith}
use Rattle.std.specs.Prelude.{Contains, ◌==◌, Option, Some, None, IsTrue, IsSome, slice_index}
use Rattle.std.proofs.lemmas.Bool.{cases_lt, ne_eqb}
use Rattle.std.proofs.lemmas.List.{length_push}
use Rattle.std.proofs.lemmas.List.Elements.{Contains-append_left, Contains-push, Contains-push_cases}
use Rattle.std.proofs.lemmas.Option.{none-some, same_Some}
use Rattle.graph_terms.specs.declared.verb.Edge.{Edge}
use Rattle.explanations.specs.declared.reaches.Reach.{Reach}
use Rattle.explanations.specs.declared.search.Origin.{Origin}
use Rattle.explanations.specs.declared.search.Way.{Way}
use Rattle.explanations.specs.declared.search.Way.TheVariants.{Onward, Back, Faults}
use Rattle.explanations.specs.Paths.{Leads}
use Rattle.explanations.specs.Reaches.{reach_at, last_edge, IsReached, AreLinked}
use Rattle.explanations.specs.Search.{near_end, far_end, origin_at, reach_of, AreCounts, AreOrigins}
use Rattle.explanations.proofs.Marking.{counted_below}

-- the lines below a number that pass a test, with one more
pub listed_more : (test : ℕ → Bool) (n : ℕ) (xs ys : List ℕ) → ys ≡ xs ++ n ∷ [] → test n ≡ true → ((i : ℕ) → Contains xs i → (i < n) × IsTrue (test i)) → (i : ℕ) → Contains ys i → (i < n + 1) × IsTrue (test i)
listed_more test n xs ys more passes listed i c = elim (Contains-push_cases xs n i (subst (λ zs. Contains zs i) more c)) [
  | inl b ↦ (let k = listed i b in let l : i < n = k.0 in (omega arith, k.1))
  | inr e ↦ (let same : n ≡ i = e in (omega arith, ap test (sym e) ∙ passes))
]

pub all_more : (test : ℕ → Bool) (n : ℕ) (xs ys : List ℕ) → ys ≡ xs ++ n ∷ [] → ((i : ℕ) → i < n → IsTrue (test i) → Contains xs i) → (i : ℕ) → i < n + 1 → IsTrue (test i) → Contains ys i
all_more test n xs ys more all i b t = subst (λ zs. Contains zs i) (sym more) (elim (cases_lt i n) [
  | inl l ↦ Contains-append_left xs (n ∷ []) i (all i l t)
  | inr up ↦ (let e : n ≡ i = omega arith in subst (λ z. Contains (xs ++ n ∷ []) z) e (Contains-push xs n))
])

pub all_skip : (test : ℕ → Bool) (n : ℕ) (xs : List ℕ) → test n ≡ false → ((i : ℕ) → i < n → IsTrue (test i) → Contains xs i) → (i : ℕ) → i < n + 1 → IsTrue (test i) → Contains xs i
all_skip test n xs fails all i b t = elim (cases_lt i n) [
  | inl l ↦ all i l t
  | inr up ↦ absurd (let e : n ≡ i = omega arith in let f : test i ≡ false = ap test (sym e) ∙ fails in cc)
]

-- what a count and an origin make
abbrev made : ℕ → Origin → Reach
made count o = record { start = o.start; steps = count - 1; by = o.by }

reach_of_some_by : (count : ℕ) (o : Origin) (m : Reach) (b : Bool) → (count == 0) ≡ b → cond b None (Some (made count o)) ≡ Some m → (b ≡ false) × (made count o ≡ m)
reach_of_some_by count o m true is e = absurd (none-some m e)
reach_of_some_by count o m false is e = (refl, same_Some (made count o) m e)

not_zero : (n : ℕ) → (n == 0) ≡ false → 0 < n
not_zero zero e = absurd (cc)
not_zero (suc n) e = omega arith

reach_of_some : (count : ℕ) (o : Origin) (m : Reach) → reach_of count o ≡ Some m → (0 < count) × (made count o ≡ m)
reach_of_some count o m e = let r = reach_of_some_by count o m (count == 0) refl e in (not_zero count r.0, r.1)

of_count : (count : ℕ) (o : Origin) → 0 < count → reach_of count o ≡ Some (made count o)
of_count count o h = ap (λ b. cond b None (Some (made count o))) (ne_eqb count 0 (λ e. absurd (omega arith)))

-- edges, with one more at their end
pub leads_push : (all : List Edge) (i k : ℕ) (p : List Edge) (e : Edge) → Leads all i k p → Contains all e → e.from ≡ k → Leads all i e.to (p ++ e ∷ [])
leads_push all i k [] e l c f = (c, f ∙ sym l, refl)
leads_push all i k (x ∷ p) e l c f = (l.0, l.1, leads_push all x.to k p e l.2 c f)

last_push : (p : List Edge) (e : Edge) → last_edge (p ++ e ∷ []) ≡ Some e
last_push [] e = refl
last_push (x ∷ []) e = refl
last_push (x ∷ y ∷ p) e = last_push (y ∷ p) e

-- the line from which edges lead to a line is one too
pub leads_from_line : (all : List Edge) (n : ℕ) → ((e : Edge) → Contains all e → e.from < n) → (k i : ℕ) (q : List Edge) → i < n → Leads all k i q → k < n
leads_from_line all n between k i [] b l = subst (λ z. z < n) (sym l) b
leads_from_line all n between k i (e ∷ q) b l = subst (λ z. z < n) l.1 (between e l.0)

module _ (all : List Edge) (starts counts : List ℕ) (origins : List Origin) (a : AreCounts all (λ e. e.from) (λ e. e.to) (Contains starts) (slice_index counts)) (o : AreOrigins all (λ e. e.from) (λ e. e.to) starts counts origins) where
  -- the edges from the origin
  pub from_origin : (n i : ℕ) → slice_index counts i ≤ n → 0 < slice_index counts i →
      (p : List Edge) × Leads all (origin_at origins i).start i p × (length p + 1 ≡ slice_index counts i) × (last_edge p ≡ (origin_at origins i).by) × Contains starts (origin_at origins i).start
  from_origin zero i few h = absurd (omega arith)
  from_origin (suc n) i few h = elim (o.each i h) [
    | inl own ↦ (
        let one : slice_index counts i ≡ 1 = own.1 in
        let size : length {A = Edge} [] + 1 ≡ slice_index counts i = omega arith in
        let start : (origin_at origins i).start ≡ i = ap (λ (x : Origin). x.start) own.2 in
        let by : last_edge [] ≡ (origin_at origins i).by = sym (ap (λ (x : Origin). x.by) own.2) in
        ([], start, size, by, subst (λ z. Contains starts z) (sym start) own.0))
    | inr f ↦ (
        let more : slice_index counts i ≡ slice_index counts f.0.from + 1 = f.4 in
        let r = from_origin n f.0.from (omega arith) f.3 in
        let start : (origin_at origins i).start ≡ (origin_at origins f.0.from).start = ap (λ (x : Origin). x.start) f.5 in
        let by : (origin_at origins i).by ≡ Some f.0 = ap (λ (x : Origin). x.by) f.5 in
        let rest : length r.0 + 1 ≡ slice_index counts f.0.from = r.2 in
        let one : length (r.0 ++ f.0 ∷ []) ≡ length r.0 + 1 = length_push r.0 f.0 in
        let size : length (r.0 ++ f.0 ∷ []) + 1 ≡ slice_index counts i = omega arith in
        let leads : Leads all (origin_at origins f.0.from).start i (r.0 ++ f.0 ∷ []) = subst (λ z. Leads all (origin_at origins f.0.from).start z (r.0 ++ f.0 ∷ [])) f.2 (leads_push all (origin_at origins f.0.from).start f.0.from r.0 f.0 r.1 f.1 refl) in
        (r.0 ++ f.0 ∷ [], subst (λ z. Leads all z i (r.0 ++ f.0 ∷ [])) (sym start) leads, size, last_push r.0 f.0 ∙ sym by, subst (λ z. Contains starts z) (sym start) r.4))
  ]

  -- and no fewer
  pub counts_along : (j i : ℕ) (q : List Edge) → 0 < slice_index counts j → Leads all j i q → (0 < slice_index counts i) × (slice_index counts i ≤ slice_index counts j + length q)
  counts_along j i [] h l =
      let same : slice_index counts j ≡ slice_index counts i = ap (slice_index counts) l in
      let some : 0 < slice_index counts i = omega arith in
      let few : slice_index counts i ≤ slice_index counts j + length {A = Edge} [] = omega arith in (some, few)
  counts_along j i (e ∷ q) h l =
      let near : slice_index counts e.from ≡ slice_index counts j = ap (slice_index counts) l.1 in
      let k = a.closed e l.0 (let s : 0 < slice_index counts e.from = omega arith in s) in
      let r = counts_along e.to i q k.0 l.2 in
      let one : slice_index counts e.to ≤ slice_index counts e.from + 1 = k.1 in
      let rest : slice_index counts i ≤ slice_index counts e.to + length q = r.1 in
      let few : slice_index counts i ≤ slice_index counts j + length (e ∷ q) = omega arith in (r.0, few)

  module _ (reaches : List (Option Reach)) (each : (i : ℕ) → reach_at reaches i ≡ reach_of (slice_index counts i) (origin_at origins i)) where
    reach_is : (i : ℕ) (m : Reach) → reach_at reaches i ≡ Some m → (0 < slice_index counts i) × (made (slice_index counts i) (origin_at origins i) ≡ m)
    reach_is i m e = reach_of_some (slice_index counts i) (origin_at origins i) m (sym (each i) ∙ e)

    is_reached_at : (i : ℕ) → 0 < slice_index counts i → reach_at reaches i ≡ Some (made (slice_index counts i) (origin_at origins i))
    is_reached_at i h = each i ∙ of_count (slice_index counts i) (origin_at origins i) h

    pub reached_line : (i : ℕ) (m : Reach) → reach_at reaches i ≡ Some m → i < length counts
    reached_line i m e = counted_below counts i (reach_is i m e).0

    pub reached_from : (k i : ℕ) (q : List Edge) → Contains starts k → Leads all k i q → (m : Reach) × (reach_at reaches i ≡ Some m)
    reached_from k i q s l =
        let one : slice_index counts k ≡ 1 = a.starts k s in
        let h = counts_along k i q (let r : 0 < slice_index counts k = omega arith in r) l in (made (slice_index counts i) (origin_at origins i), is_reached_at i h.0)

    -- the answers of the call
    pub are_linked : AreLinked all reaches
    are_linked = record {
      own = λ i m e none. (
          let r = reach_is i m e in
          elim (o.each i r.0) [
            | inl own ↦ (
                let one : slice_index counts i ≡ 1 = own.1 in
                let start : m.start ≡ i = sym (ap (λ (x : Reach). x.start) r.1) ∙ ap (λ (x : Origin). x.start) own.2 in
                let steps : slice_index counts i - 1 ≡ m.steps = ap (λ (x : Reach). x.steps) r.1 in
                let zero_steps : m.steps ≡ 0 = omega arith in (start, zero_steps))
            | inr f ↦ absurd (none-some f.0 (sym none ∙ (sym (ap (λ (x : Reach). x.by) r.1) ∙ ap (λ (x : Origin). x.by) f.5)))
          ]);
      linked = λ i m e is by. (
          let r = reach_is i m is in
          elim (o.each i r.0) [
            | inl own ↦ absurd (none-some e (sym (ap (λ (x : Origin). x.by) own.2) ∙ (ap (λ (x : Reach). x.by) r.1 ∙ by)))
            | inr f ↦ (
                let same : f.0 ≡ e = same_Some f.0 e (sym (ap (λ (x : Origin). x.by) f.5) ∙ (ap (λ (x : Reach). x.by) r.1 ∙ by)) in
                let more : slice_index counts i ≡ slice_index counts f.0.from + 1 = f.4 in
                let some : 0 < slice_index counts f.0.from = f.3 in
                let n = made (slice_index counts f.0.from) (origin_at origins f.0.from) in
                let start : m.start ≡ n.start = sym (ap (λ (x : Reach). x.start) r.1) ∙ ap (λ (x : Origin). x.start) f.5 in
                let is_steps : slice_index counts i - 1 ≡ m.steps = ap (λ (x : Reach). x.steps) r.1 in
                let steps : m.steps ≡ n.steps + 1 = omega arith in
                subst (λ (x : Edge). Contains all x × (x.to ≡ i) × ((n : Reach) × (reach_at reaches x.from ≡ Some n) × (m.start ≡ n.start) × (m.steps ≡ n.steps + 1))) same
                (f.1, f.2, (n, is_reached_at f.0.from f.3, start, steps)))
          ]);
    }

    module _ (n : ℕ) (size : length counts ≡ n) (between : (e : Edge) → Contains all e → e.from < n) (test : ℕ → Bool) (listed : (i : ℕ) → Contains starts i → (i < n) × IsTrue (test i)) (complete : (i : ℕ) → i < n → IsTrue (test i) → Contains starts i) where
      pub each_reached : (i : ℕ) (m : Reach) → reach_at reaches i ≡ Some m → IsReached all (λ k. IsTrue (test k)) i m
      each_reached i m e =
          let r = reach_is i m e in
          let p = from_origin (slice_index counts i) i (omega arith) r.0 in
          let start : (origin_at origins i).start ≡ m.start = ap (λ (x : Reach). x.start) r.1 in
          let by : (origin_at origins i).by ≡ m.by = ap (λ (x : Reach). x.by) r.1 in
          let is_steps : slice_index counts i - 1 ≡ m.steps = ap (λ (x : Reach). x.steps) r.1 in
          let size_p : length p.0 + 1 ≡ slice_index counts i = p.2 in
          let steps : length p.0 ≡ m.steps = omega arith in
          record {
            is_start = subst (λ z. IsTrue (test z)) start (listed (origin_at origins i).start p.4).1;
            path = (p.0, subst (λ z. Leads all z i p.0) start p.1, steps, p.3 ∙ by);
            shortest = λ k q t l. (
                let below : k < n = leads_from_line all n between k i q (subst (λ z. i < z) size (counted_below counts i r.0)) l in
                let one : slice_index counts k ≡ 1 = a.starts k (complete k below t) in
                let h = counts_along k i q (let s : 0 < slice_index counts k = omega arith in s) l in
                let few : slice_index counts i ≤ slice_index counts k + length q = h.1 in omega arith);
          }

-- of a search that goes onward, the ends of edges are as they stand
pub onward_counts : (way : Way) (all : List Edge) (start : ℕ → Type 0) (counts : ℕ → ℕ) → (way ≡ Back → ⊥) → AreCounts all (near_end way) (far_end way) start counts → AreCounts all (λ e. e.from) (λ e. e.to) start counts
onward_counts Onward all start counts not a = a
onward_counts Back all start counts not a = absurd (not refl)
onward_counts Faults all start counts not a = a

pub onward_origins : (way : Way) (all : List Edge) (starts counts : List ℕ) (origins : List Origin) → (way ≡ Back → ⊥) → AreOrigins all (near_end way) (far_end way) starts counts origins → AreOrigins all (λ e. e.from) (λ e. e.to) starts counts origins
onward_origins Onward all starts counts origins not a = a
onward_origins Back all starts counts origins not a = absurd (not refl)
onward_origins Faults all starts counts origins not a = a

-- a line that is reached somehow
pub is_some_at : (o : Option Reach) (m : Reach) → o ≡ Some m → IsSome o
is_some_at None m e = absurd (none-some m e)
is_some_at (Some n) m e = refl

pub some_is : (o : Option Reach) → IsSome o → (m : Reach) × (o ≡ Some m)
some_is None h = absurd (cc)
some_is (Some m) h = (m, refl)

pub is_some : (reaches : List (Option Reach)) (i : ℕ) → ((m : Reach) × (reach_at reaches i ≡ Some m)) → IsSome (reach_at reaches i)
is_some reaches i r = is_some_at (reach_at reaches i) r.0 r.1
