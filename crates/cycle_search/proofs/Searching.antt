-- The search for paths from a line: one more edge, a whole line, and the end.
use Rattle.std.proofs.Common.{◌≡◌, ℕ, ◌+◌, ◌<◌, ◌≤◌, Bool, true, false, cond, not, ◌⊎◌, inl, inr, List, [], ◌∷◌, ◌++◌, length, length-append, take, refl, sym, ◌∙◌, ap, subst, arith}
use Rattle.std.specs.Prelude.{Contains, ◌==◌, ◌↔◌, slice_set, IsTrue}
use Rattle.std.specs.List.{slice_index_or}
use Rattle.std.proofs.lemmas.Bool.{true≢false, cases_eq, cases_lt, cases_Bool, eq-eqb, eqb-true}
use Rattle.std.proofs.lemmas.List.{get_or-set_same, get_or-set_other, get_or_past, take_more, take_all}
use Rattle.std.proofs.lemmas.List.Elements.{Contains-get_or, Contains-push, Contains-push_cases, Contains-append_left, Contains-append_right}
use Rattle.std.proofs.lemmas.List.Sums.{sum_by-set}
use Rattle.graph_terms.specs.declared.verb.Edge.{Edge}
use Rattle.graph_terms.specs.Graph.{GraphValue}
use Rattle.graph_terms.specs.Edges.{edges, edges_out_of}
use Rattle.graph_meaning.specs.Path.{HasPath}
use Rattle.basics.proofs.ListFacts.{contains_none, contains_cases, contains_here, contains_there, filter_contains, contains_filter}
use Rattle.cycle_search.specs.Paths.{EdgesBetween}
use Rattle.cycle_search.specs.Search.{IsSearching, IsMarking, marked_in, unmarked}
use Rattle.cycle_search.proofs.PathRows.{search_begins, search_more, search_is}
use Rattle.cycle_search.proofs.OrderLoops.{no_edge}

-- no edge is passed
pub marking_none : (old : List Bool) (waiting : List ℕ) → IsMarking [] old waiting old waiting
marking_none old waiting = record {
  keeps = λ j h. h;
  marks = λ j h k. absurd (true≢false (sym k ∙ h));
  covers = λ e c. absurd (contains_none e c);
  stays = λ j c. c;
  stacked = λ j c. inl c;
}

module _ (marked after : List Bool) (t : ℕ) (h : t < length marked) (set : after ≡ slice_set marked t true) where
  here : marked_in after t ≡ true
  here = ap (λ xs. marked_in xs t) set ∙ get_or-set_same marked t true false h

  other : (j : ℕ) → (j ≡ t → ⊥) → marked_in after j ≡ marked_in marked j
  other j apart = ap (λ xs. marked_in xs j) set ∙ get_or-set_other marked t j true false apart

  grows : (j : ℕ) → marked_in marked j ≡ true → marked_in after j ≡ true
  grows j m = elim (cases_eq j t) [ inl s ↦ ap (marked_in after) s ∙ here | inr apart ↦ other j apart ∙ m ]

  module _ (passed : List Edge) (e : Edge) (to : e.to ≡ t) (old : List Bool) (waiting stack : List ℕ) (m : IsMarking passed old waiting marked stack) where
    more_by : (b : Bool) → marked_in marked t ≡ b → (pushed : List ℕ) → ((j : ℕ) → Contains stack j → Contains pushed j) → ((j : ℕ) → Contains pushed j → Contains stack j ⊎ (j ≡ t)) → (b ≡ false → Contains pushed t) →
        IsMarking (passed ++ e ∷ []) old waiting after pushed
    more_by b is pushed keep cases new = record {
      keeps = λ j k. grows j (m.keeps j k);
      marks = λ j o k. elim (cases_Bool (marked_in marked j)) [
        | inl was ↦ (let w = m.marks j o was in ((w.0.0, Contains-append_left passed (e ∷ []) w.0.0 w.0.1, w.0.2), keep j w.1))
        | inr fresh ↦ elim (cases_eq j t) [
          | inl s ↦ (
            (e, Contains-append_right passed (e ∷ []) e (contains_here e []), to ∙ sym s),
            subst (λ z. Contains pushed z) (sym s) (new (sym is ∙ (ap (marked_in marked) (sym s) ∙ fresh))),
          )
          | inr apart ↦ absurd (true≢false (sym k ∙ (other j apart ∙ fresh)))
        ]
      ];
      covers = λ x c. elim (Contains-push_cases passed e x c) [
        | inl b ↦ grows x.to (m.covers x b)
        | inr s ↦ subst (λ (z : Edge). marked_in after z.to ≡ true) s (ap (marked_in after) to ∙ here)
      ];
      stays = λ j c. keep j (m.stays j c);
      stacked = λ j c. elim (cases j c) [
        | inl before ↦ elim (m.stacked j before) [ inl w ↦ inl w | inr k ↦ inr (grows j k) ]
        | inr s ↦ inr (ap (marked_in after) s ∙ here)
      ];
    }

    more_cond : (b : Bool) → marked_in marked t ≡ b → IsMarking (passed ++ e ∷ []) old waiting after (cond b stack (stack ++ t ∷ []))
    more_cond true is = more_by true is stack (λ j c. c) (λ j c. inl c) (λ f. absurd (true≢false f))
    more_cond false is = more_by false is (stack ++ t ∷ []) (λ j c. Contains-append_left stack (t ∷ []) j c)
        (λ j c. elim (Contains-push_cases stack t j c) [ inl b ↦ inl b | inr s ↦ inr (sym s) ]) (λ f. Contains-push stack t)

    -- one more edge is passed
    pub marking_more : (pushed : List ℕ) → pushed ≡ cond (marked_in marked t) stack (stack ++ t ∷ []) → IsMarking (passed ++ e ∷ []) old waiting after pushed
    marking_more pushed is = subst (λ s. IsMarking (passed ++ e ∷ []) old waiting after s) (sym is) (more_cond (marked_in marked t) refl)

  one_if : Bool → ℕ
  one_if b = cond (not b) 1 0

  pushed_by : (b : Bool) (stack : List ℕ) → length (cond b stack (stack ++ t ∷ [])) ≡ length stack + one_if b
  unfolding one_if
  pushed_by true stack = omega arith
  pushed_by false stack = length-append stack (t ∷ [])

  fewer : unmarked after + one_if (marked_in marked t) ≡ unmarked marked
  unfolding one_if
  fewer =
      let s : unmarked (slice_set marked t true) + one_if (marked_in marked t) ≡ unmarked marked + 0 = sum_by-set (λ x. cond (not x) 1 0) marked t true false h in
      let a : unmarked after ≡ unmarked (slice_set marked t true) = ap unmarked set in omega arith

  -- what is left to do
  pub work_same : (stack pushed : List ℕ) → pushed ≡ cond (marked_in marked t) stack (stack ++ t ∷ []) → unmarked after + length pushed ≡ unmarked marked + length stack
  work_same stack pushed is =
      let l : length pushed ≡ length stack + one_if (marked_in marked t) = ap length is ∙ pushed_by (marked_in marked t) stack in
      let f : unmarked after + one_if (marked_in marked t) ≡ unmarked marked = fewer in omega arith

-- the edges of a line as the loop goes over them
module _ (g : GraphValue) (between : EdgesBetween g) (x i : ℕ) (out : List Edge) (is : out ≡ edges_out_of g x) (h : i < length out) where
  pub target_below : (slice_index_or out i no_edge).to < length g.lines
  target_below = (between (slice_index_or out i no_edge) (filter_contains (λ (e : Edge). e.from == x) (edges g) (slice_index_or out i no_edge) (subst (λ es. Contains es (slice_index_or out i no_edge)) is (Contains-get_or out i no_edge h))).0).1

pub marking_step : (out : List Edge) (i : ℕ) → i < length out → (marked after old : List Bool) (waiting stack pushed : List ℕ) → (slice_index_or out i no_edge).to < length marked → after ≡ slice_set marked (slice_index_or out i no_edge).to true →
    pushed ≡ cond (marked_in marked (slice_index_or out i no_edge).to) stack (stack ++ (slice_index_or out i no_edge).to ∷ []) → IsMarking (take i out) old waiting marked stack → IsMarking (take (i + 1) out) old waiting after pushed
marking_step out i h marked after old waiting stack pushed below set is m =
    subst (λ p. IsMarking p old waiting after pushed) (sym (take_more out i no_edge h))
    (marking_more marked after (slice_index_or out i no_edge).to below set (take i out) (slice_index_or out i no_edge) refl old waiting stack m pushed is)

pub marking_ends : (out : List Edge) (i : ℕ) (old marked : List Bool) (waiting stack : List ℕ) → length out ≤ i → IsMarking (take i out) old waiting marked stack → IsMarking out old waiting marked stack
marking_ends out i old marked waiting stack h m = subst (λ p. IsMarking p old waiting marked stack) (take_all i out h) m

-- the search begins with the targets of the line's edges
pub search_from : (g : GraphValue) (i : ℕ) (old marked : List Bool) (waiting stack : List ℕ) → ((j : ℕ) → marked_in old j ≡ false) → waiting ≡ [] → IsMarking (edges_out_of g i) old waiting marked stack →
    IsSearching (edges g) i (marked_in marked) stack
search_from g i old marked waiting stack none empty m = search_begins (edges g) i (marked_in marked) stack
    (λ j h. (
    let k = m.marks j (none j) h in
    let f = filter_contains (λ (e : Edge). e.from == i) (edges g) k.0.0 k.0.1 in
    ((k.0.0, f.0, eqb-true k.0.0.from i f.1, k.0.2), k.1)))
    (λ j c. elim (m.stacked j c) [ inl w ↦ absurd (contains_none j (subst (λ s. Contains s j) empty w)) | inr k ↦ k ])
    (λ e c from. m.covers e (contains_filter (λ (e : Edge). e.from == i) (edges g) e c (eq-eqb e.from i from)))

-- a line off the stack, in front or at the end
off_stack : (es : List Edge) (i x : ℕ) (marked : ℕ → Bool) (old rest : List ℕ) → old ≡ rest ++ x ∷ [] → IsSearching es i marked old → IsSearching es i marked (x ∷ rest)
off_stack es i x marked old rest is s = record {
  found = s.found;
  stacked = λ j c. s.stacked j (subst (λ l. Contains l j) (sym is) (elim (contains_cases x rest j c) [ inl e ↦ subst (λ z. Contains (rest ++ x ∷ []) z) e (Contains-push rest x) | inr r ↦ Contains-append_left rest (x ∷ []) j r ]));
  begun = s.begun;
  closed = λ e c h. elim (s.closed e c h) [
    | inl m ↦ inl m
    | inr on ↦ inr (elim (Contains-push_cases rest x e.from (subst (λ l. Contains l e.from) is on)) [ inl r ↦ contains_there x rest e.from r | inr k ↦ subst (λ z. Contains (x ∷ rest) z) k (contains_here x rest) ])
  ];
}

-- its edges are followed
search_on : (g : GraphValue) (i x : ℕ) (old marked : List Bool) (waiting stack : List ℕ) → IsSearching (edges g) i (marked_in old) (x ∷ waiting) → IsMarking (edges_out_of g x) old waiting marked stack →
    IsSearching (edges g) i (marked_in marked) stack
search_on g i x old marked waiting stack s m = search_more (edges g) i x (marked_in old) (marked_in marked) waiting stack s m.keeps
    (λ j o h. (
    let k = m.marks j o h in
    let f = filter_contains (λ (e : Edge). e.from == x) (edges g) k.0.0 k.0.1 in
    ((k.0.0, f.0, eqb-true k.0.0.from x f.1, k.0.2), k.1)))
    (λ e c from. m.covers e (contains_filter (λ (e : Edge). e.from == x) (edges g) e c (eq-eqb e.from x from)))
    m.stays
    (λ j c. elim (m.stacked j c) [ inl w ↦ m.keeps j (s.stacked j (contains_there x waiting j w)) | inr k ↦ k ])

nothing : (xs : List ℕ) → length xs ≡ 0 → xs ≡ []
nothing [] h = refl
nothing (x ∷ xs) h = absurd (omega arith)

-- what the marks say at the end
pub searched : (g : GraphValue) (i : ℕ) (marked : List Bool) (stack : List ℕ) → length stack ≡ 0 → IsSearching (edges g) i (marked_in marked) stack → IsTrue (marked_in marked i) ↔ HasPath g i i
searched g i marked stack empty s = search_is (edges g) i (marked_in marked) (subst (λ l. IsSearching (edges g) i (marked_in marked) l) (nothing stack empty) s) i

-- a marked line is a line
pub marked_below : (marked : List Bool) (j : ℕ) → marked_in marked j ≡ true → j < length marked
marked_below marked j h = elim (cases_lt j (length marked)) [ inl l ↦ l | inr past ↦ absurd (true≢false (sym h ∙ get_or_past marked j false past)) ]

-- as the code has them: a line off the stack
module _ (g : GraphValue) (i x : ℕ) (old : List Bool) (waiting rest : List ℕ) (is : waiting ≡ rest ++ x ∷ []) (s : IsSearching (edges g) i (marked_in old) waiting) where
  pub popped_below : x < length old
  popped_below = marked_below old x (s.stacked x (subst (λ l. Contains l x) (sym is) (Contains-push rest x)))

  pub popped_on : (marked : List Bool) (stack : List ℕ) → IsMarking (edges_out_of g x) old rest marked stack → IsSearching (edges g) i (marked_in marked) stack
  popped_on marked stack m = search_on g i x old marked rest stack (off_stack (edges g) i x (marked_in old) waiting rest is s) m
