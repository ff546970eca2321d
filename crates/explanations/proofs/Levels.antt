-- A search, level by level.
use Rattle.std.proofs.Common.{◌≡◌, ℕ, ◌+◌, ◌<◌, ◌≤◌, ◌⊎◌, inl, inr, List, [], ◌∷◌, ◌++◌, length, refl, sym, ◌∙◌, subst, arith, take}
use Rattle.std.specs.Prelude.{Contains, ◌==◌, filter, slice_index}
use Rattle.std.specs.List.{slice_index_or}
use Rattle.std.proofs.lemmas.Bool.{cases_lt, eq-eqb, eqb-true}
use Rattle.std.proofs.lemmas.List.{take_more}
use Rattle.std.proofs.lemmas.List.Elements.{Contains-get_or, Contains-append_left, Contains-push, Contains-push_cases}
use Rattle.graph_terms.specs.declared.verb.Edge.{Edge}
use Rattle.graph_terms.specs.Graph.{GraphValue}
use Rattle.graph_terms.specs.Edges.{edges}
use Rattle.graph_terms.specs.Fits.{IsGraph}
use Rattle.graph_meaning.specs.Laws.{EdgesBetweenLines}
use Rattle.explanations.specs.declared.search.Way.{Way}
use Rattle.explanations.specs.declared.search.Way.TheVariants.{Onward, Back, Faults}
use Rattle.basics.proofs.ListFacts.{contains_none, filter_contains, contains_filter}
use Rattle.line_marks.specs.Marking.{IsMarking}
use Rattle.explanations.specs.Search.{near_end, far_end, way_edges, AreCounts, IsFarEnd, IsFarEndOfSome}
use Rattle.graph_terms.specs.declared.outcome.End.{End}
use Rattle.line_marks.proofs.Public.{marks_more}
use Rattle.explanations.proofs.Marking.{no_edge, some_or, counted_below, follow_in, in_follow}

-- the ends of an edge are lines
pub ends_known : EdgesBetweenLines → (g : GraphValue) → IsGraph g → (way : Way) (e : Edge) → Contains (edges g) e → (near_end way e < length g.lines) × (far_end way e < length g.lines)
ends_known between g f Onward e c = between g e f c
ends_known between g f Back e c = let b = between g e f c in (b.1, b.0)
ends_known between g f Faults e c = between g e f c

-- of the edges that a search follows from a line, and of those by which it comes to one
pub on_known : EdgesBetweenLines → (g : GraphValue) → IsGraph g → (way : Way) (line k : ℕ) (es : List Edge) → es ≡ filter (λ e. near_end way e == line) (edges g) → k < length es → far_end way (slice_index_or es k no_edge) < length g.lines
on_known between g f way line k es is below =
    (ends_known between g f way (slice_index_or es k no_edge) (filter_contains (λ (e : Edge). near_end way e == line) (edges g) (slice_index_or es k no_edge) (subst (λ xs. Contains xs (slice_index_or es k no_edge)) is (Contains-get_or es k no_edge below))).0).1

pub back_known : EdgesBetweenLines → (g : GraphValue) → IsGraph g → (way : Way) (line k : ℕ) (es : List Edge) → es ≡ filter (λ e. far_end way e == line) (edges g) → k < length es → near_end way (slice_index_or es k no_edge) < length g.lines
back_known between g f way line k es is below =
    (ends_known between g f way (slice_index_or es k no_edge) (filter_contains (λ (e : Edge). far_end way e == line) (edges g) (slice_index_or es k no_edge) (subst (λ xs. Contains xs (slice_index_or es k no_edge)) is (Contains-get_or es k no_edge below))).0).0

pub nothing_in : (xs : List ℕ) (i : ℕ) → length xs ≡ 0 → Contains xs i → ⊥
nothing_in [] i e c = contains_none i c
nothing_in (x ∷ xs) i e c = absurd (omega arith)

-- a search under way that has followed the edges at all lines of lesser counts than d: the lines of count d are listed
pub record IsSearch (all : List Edge) (near far : Edge → ℕ) (start : ℕ → Type 0) (counts : ℕ → ℕ) (d : ℕ) (level : List ℕ) : Type 0 where
  pub starts : (i : ℕ) → start i → counts i ≡ 1
  pub found : (i : ℕ) → 0 < counts i → (start i × (counts i ≡ 1)) ⊎ ((e : Edge) × Contains all e × (far e ≡ i) × (0 < counts (near e)) × (counts i ≡ counts (near e) + 1))
  pub closed : (e : Edge) → Contains all e → 0 < counts (near e) → counts (near e) < d → (0 < counts (far e)) × (counts (far e) ≤ counts (near e) + 1)
  pub most : (i : ℕ) → counts i ≤ d
  pub last : (i : ℕ) → counts i ≡ d → Contains level i
  pub listed : (i : ℕ) → Contains level i → counts i ≡ d

-- one more line of a level
pub level_more : (way : Way) (ends : List End) (es : List Edge) (count : ℕ) (old before mid between new after level : List ℕ) (k : ℕ) → k < length level → IsMarking (IsFarEndOfSome (way_edges way ends es) (near_end way) (far_end way) (take k level)) count old before mid between →
    IsMarking (IsFarEnd (way_edges way ends (filter (λ e. near_end way e == slice_index level k) es)) (far_end way)) count mid between new after →
    IsMarking (IsFarEndOfSome (way_edges way ends es) (near_end way) (far_end way) (take (k + 1) level)) count old before new after
level_more way ends es count old before mid between new after level k below a b =
    marks_more (IsFarEndOfSome (way_edges way ends es) (near_end way) (far_end way) (take k level)) (IsFarEnd (way_edges way ends (filter (λ e. near_end way e == slice_index level k) es)) (far_end way)) (IsFarEndOfSome (way_edges way ends es) (near_end way) (far_end way) (take (k + 1) level)) count old before mid between new after a b
    (λ i t. (t.0, t.1, subst (λ xs. Contains xs (near_end way t.0)) (sym more) (Contains-append_left (take k level) (slice_index level k ∷ []) (near_end way t.0) t.2), t.3))
    (λ i t. (let g = follow_in way ends (filter (λ e. near_end way e == slice_index level k) es) t.0 t.1 in
    let f = filter_contains (λ (e : Edge). near_end way e == slice_index level k) es t.0 g.0 in
    (t.0, in_follow way ends es t.0 f.0 g.1, subst (λ xs. Contains xs (near_end way t.0)) (sym more) (subst (λ x. Contains (take k level ++ slice_index level k ∷ []) x) (sym (eqb-true (near_end way t.0) (slice_index level k) f.1)) (Contains-push (take k level) (slice_index level k))), t.2)))
    (λ i t. elim (Contains-push_cases (take k level) (slice_index level k) (near_end way t.0) (subst (λ xs. Contains xs (near_end way t.0)) more t.2)) [
      | inl c ↦ inl (t.0, t.1, c, t.3)
      | inr e ↦ (let g = follow_in way ends es t.0 t.1 in inr (t.0, in_follow way ends (filter (λ e. near_end way e == slice_index level k) es) t.0 (contains_filter (λ (x : Edge). near_end way x == slice_index level k) es t.0 g.0 (eq-eqb (near_end way t.0) (slice_index level k) (sym e))) g.1, t.3))
    ])
  where
    more : take (k + 1) level ≡ take k level ++ slice_index level k ∷ []
    more = take_more level k 0 below

module _ (all : List Edge) (near far : Edge → ℕ) where
  module _ (start : ℕ → Type 0) where
    -- the starts are found
    pub search_begins : (old before new level : List ℕ) → ((i : ℕ) → slice_index old i ≡ 0) → length before ≡ 0 → IsMarking start 1 old before new level → IsSearch all near far start (slice_index new) 1 level
    search_begins old before new level none empty m = record {
      starts = λ i s. (m.marks i (none i) (m.covers i s)).0;
      found = λ i h. (let k = m.marks i (none i) h in inl (k.1, k.0));
      closed = λ e c h l. absurd (omega arith);
      most = λ i. elim (some_or (slice_index new i)) [ inl h ↦ (let k : slice_index new i ≡ 1 = (m.marks i (none i) h).0 in omega arith) | inr z ↦ omega arith ];
      last = λ i h. (m.marks i (none i) (omega arith)).2;
      listed = λ i c. elim (m.fresh i c) [ inl b ↦ absurd (nothing_in before i empty b) | inr f ↦ (m.marks i (none i) f.1).0 ];
    }

    -- one more level
    module _ (old before new level after : List ℕ) (d : ℕ) (some : 0 < d) (empty : length before ≡ 0) (s : IsSearch all near far start (slice_index old) d level) (m : IsMarking (IsFarEndOfSome all near far level) (d + 1) old before new after) where
      most_after : (i : ℕ) → slice_index new i ≤ d + 1
      most_after i = elim (some_or (slice_index old i)) [
        | inl h ↦ (let k : slice_index new i ≡ slice_index old i = m.keeps i h in let b : slice_index old i ≤ d = s.most i in omega arith)
        | inr z ↦ elim (some_or (slice_index new i)) [
          | inl h ↦ (let k : slice_index new i ≡ d + 1 = (m.marks i z h).0 in omega arith)
          | inr y ↦ omega arith
        ]
      ]

      found_after : (i : ℕ) → 0 < slice_index new i →
          (start i × (slice_index new i ≡ 1)) ⊎ ((e : Edge) × Contains all e × (far e ≡ i) × (0 < slice_index new (near e)) × (slice_index new i ≡ slice_index new (near e) + 1))
      found_after i h = elim (some_or (slice_index old i)) [
        | inl o ↦ elim (s.found i o) [
          | inl b ↦ inl (b.0, m.keeps i o ∙ b.1)
          | inr f ↦ (
              let same : slice_index new i ≡ slice_index old i = m.keeps i o in
              let p : 0 < slice_index old (near f.0) = f.3 in
              let near_same : slice_index new (near f.0) ≡ slice_index old (near f.0) = m.keeps (near f.0) p in
              let q : slice_index old i ≡ slice_index old (near f.0) + 1 = f.4 in
              let r : 0 < slice_index new (near f.0) = omega arith in
              let t : slice_index new i ≡ slice_index new (near f.0) + 1 = omega arith in
              inr (f.0, f.1, f.2, r, t))
        ]
        | inr z ↦ (
            let k = m.marks i z h in
            let f = k.1 in
            let at : slice_index old (near f.0) ≡ d = s.listed (near f.0) f.2 in
            let near_same : slice_index new (near f.0) ≡ slice_index old (near f.0) = m.keeps (near f.0) (omega arith) in
            let is : slice_index new i ≡ d + 1 = k.0 in
            let r : 0 < slice_index new (near f.0) = omega arith in
            let t : slice_index new i ≡ slice_index new (near f.0) + 1 = omega arith in
            inr (f.0, f.1, f.3, r, t))
      ]

      closed_after : (e : Edge) → Contains all e → 0 < slice_index new (near e) → slice_index new (near e) < d + 1 → (0 < slice_index new (far e)) × (slice_index new (far e) ≤ slice_index new (near e) + 1)
      closed_after e c h l = elim (some_or (slice_index old (near e))) [
        | inl o ↦ (
            let same : slice_index new (near e) ≡ slice_index old (near e) = m.keeps (near e) o in
            elim (cases_lt (slice_index old (near e)) d) [
              | inl below ↦ (
                  let k = s.closed e c o below in
                  let p : 0 < slice_index old (far e) = k.0 in
                  let q : slice_index old (far e) ≤ slice_index old (near e) + 1 = k.1 in
                  let far_same : slice_index new (far e) ≡ slice_index old (far e) = m.keeps (far e) p in
                  let r : 0 < slice_index new (far e) = omega arith in
                  let t : slice_index new (far e) ≤ slice_index new (near e) + 1 = omega arith in
                  (r, t))
              | inr up ↦ (
                  let b : slice_index old (near e) ≤ d = s.most (near e) in
                  let at : slice_index old (near e) ≡ d = omega arith in
                  let most : slice_index new (far e) ≤ d + 1 = most_after (far e) in
                  let t : slice_index new (far e) ≤ slice_index new (near e) + 1 = omega arith in
                  (m.covers (far e) (e, c, s.last (near e) at, refl), t))
            ])
        | inr z ↦ (let k : slice_index new (near e) ≡ d + 1 = (m.marks (near e) z h).0 in absurd (omega arith))
      ]

      pub search_more : IsSearch all near far start (slice_index new) (d + 1) after
      search_more = record {
        starts = λ i h. (let one : slice_index old i ≡ 1 = s.starts i h in m.keeps i (omega arith) ∙ one);
        found = found_after;
        closed = closed_after;
        most = most_after;
        last = λ i h. elim (some_or (slice_index old i)) [
          | inl o ↦ (let k : slice_index new i ≡ slice_index old i = m.keeps i o in let b : slice_index old i ≤ d = s.most i in absurd (omega arith))
          | inr z ↦ (m.marks i z (omega arith)).2
        ];
        listed = λ i c. elim (m.fresh i c) [ inl b ↦ absurd (nothing_in before i empty b) | inr f ↦ (m.marks i f.0 f.1).0 ];
      }

    -- the lines of a level are lines
    pub level_known : (counts : List ℕ) (d : ℕ) (level : List ℕ) → 0 < d → IsSearch all near far start (slice_index counts) d level → (i : ℕ) → Contains level i → i < length counts
    level_known counts d level some s i c = counted_below counts i (let is : slice_index counts i ≡ d = s.listed i c in omega arith)

    -- no line of the last count is left
    pub search_ends : (counts : ℕ → ℕ) (d : ℕ) (level : List ℕ) → length level ≡ 0 → IsSearch all near far start counts d level → AreCounts all near far start counts
    search_ends counts d level empty s = record {
      starts = s.starts;
      found = s.found;
      closed = λ e c h. elim (cases_lt (counts (near e)) d) [
        | inl below ↦ s.closed e c h below
        | inr up ↦ absurd (let b : counts (near e) ≤ d = s.most (near e) in let at : counts (near e) ≡ d = omega arith in nothing_in level (near e) empty (s.last (near e) at))
      ];
    }
