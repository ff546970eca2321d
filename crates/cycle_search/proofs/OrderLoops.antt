-- The loops that put the lines into an order: one more line, and one more edge.
use Rattle.std.proofs.Common.{◌≡◌, ℕ, suc, ◌+◌, ◌-◌, ◌<◌, ◌≤◌, Bool, true, false, cond, inl, inr, List, [], ◌∷◌, ◌++◌, length, length-append, drop, refl, sym, ◌∙◌, ap, subst, arith, drop-cons}
use Rattle.std.specs.Prelude.{Contains, slice_index, slice_set, count_by, ◌==◌}
use Rattle.std.specs.List.{slice_index_or}
use Rattle.std.proofs.lemmas.Bool.{cases_lt, eqb-true, eq-eqb, ne_eqb, true≢false}
use Rattle.std.proofs.lemmas.List.{get_or_past, get_or_push, get_or_append_left, get_or-set_same, get_or-set_other, length-set}
use Rattle.std.proofs.lemmas.List.Elements.{Contains-get_or, Contains-push, Contains-push_cases, Contains-append_left}
use Rattle.std.proofs.lemmas.List.Sums.{length-filter}
use Rattle.graph_terms.specs.declared.verb.Edge.{Edge}
use Rattle.graph_terms.specs.declared.verb.EdgeKind.TheVariants.{Passes}
use Rattle.graph_terms.specs.Graph.{GraphValue}
use Rattle.graph_terms.specs.Edges.{edges, edges_into, edges_out_of}
use Rattle.graph_meaning.specs.Rules.{NoCycleAt, Everywhere}
use Rattle.basics.proofs.ListFacts.{contains_none, filter_contains}
use Rattle.graph_meaning.proofs.Public.{path_below}
use Rattle.cycle_search.specs.Paths.{EdgesBetween}
use Rattle.cycle_search.specs.Order.{is_in, IsTaking, IsOrdered, IsCounted, HasRoom}
use Rattle.cycle_search.proofs.PathRows.{listed_no_cycle}
use Rattle.cycle_search.proofs.Sorting.{contains_in, counted_none, sorting_begins, taking_begins, taking_more, taking_lists, rest_waits, room_none, room_push, listed_in_order, place}

-- what is read past the end of a list of edges
abbrev pub no_edge : Edge
no_edge = record { «from» = 0; «to» = 0; «kind» = Passes }

-- no line is counted yet
none_counted : (g : GraphValue) → IsCounted g [] [] 0
none_counted g = record {
  size = refl;
  degrees = λ k h. absurd (omega arith);
  free = λ k c. absurd (contains_none k c);
  all = λ k h z. absurd (omega arith);
  distinct = λ p q a b same. (let none : length {A = ℕ} [] ≡ 0 = refl in absurd (omega arith));
}

pub none_counted_yet : (g : GraphValue) (order left : List ℕ) → order ≡ [] → left ≡ [] → IsCounted g order left 0
none_counted_yet g order left e f = subst (λ o. IsCounted g o left 0) (sym e) (subst (λ l. IsCounted g [] l 0) (sym f) (none_counted g))

pub room_yet : (g : GraphValue) (order : List ℕ) → order ≡ [] → HasRoom g order
room_yet g order e = subst (λ o. HasRoom g o) (sym e) (room_none g)

module _ (g : GraphValue) (order left : List ℕ) (i d : ℕ) (c : IsCounted g order left i) (is : d ≡ length (edges_into g i)) where
  here : slice_index (left ++ d ∷ []) i ≡ d
  here = get_or_push left d 0 i c.size

  other : (k : ℕ) → k < i → slice_index (left ++ d ∷ []) k ≡ slice_index left k
  other k h = let s : length left ≡ i = c.size in get_or_append_left left (d ∷ []) 0 k (omega arith)

  longer : length (left ++ d ∷ []) ≡ i + 1
  longer = let s : length left ≡ i = c.size in let l : length (left ++ d ∷ []) ≡ length left + 1 = length-append left (d ∷ []) in omega arith

  degrees : (k : ℕ) → k < i + 1 → slice_index (left ++ d ∷ []) k ≡ length (edges_into g k)
  degrees k h = elim (cases_lt k i) [
    | inl l ↦ other k l ∙ c.degrees k l
    | inr at ↦ subst (λ z. slice_index (left ++ d ∷ []) z ≡ length (edges_into g z)) (let e : i ≡ k = omega arith in e) (here ∙ is)
  ]

  -- one more line, which waits for nothing
  counted_free : d ≡ 0 → IsCounted g (order ++ i ∷ []) (left ++ d ∷ []) (i + 1)
  counted_free none = record {
    size = longer;
    degrees = degrees;
    free = λ k m. elim (Contains-push_cases order i k m) [
      | inl b ↦ (let f = c.free k b in let low : k < i = f.0 in ((let r : k < i + 1 = omega arith in r), other k f.0 ∙ f.1))
      | inr s ↦ (let r : k < i + 1 = omega arith in r, subst (λ z. slice_index (left ++ d ∷ []) z ≡ 0) s (here ∙ none))
    ];
    all = λ k h z. elim (cases_lt k i) [
      | inl l ↦ Contains-append_left order (i ∷ []) k (c.all k l (sym (other k l) ∙ z))
      | inr at ↦ subst (λ z. Contains (order ++ i ∷ []) z) (let e : i ≡ k = omega arith in e) (Contains-push order i)
    ];
    distinct = λ p q lower upper same. (
        let more : length (order ++ i ∷ []) ≡ length order + 1 = length-append order (i ∷ []) in
        elim (cases_lt q (length order)) [
          | inl b ↦ c.distinct p q lower b (sym (get_or_append_left order (i ∷ []) 0 p (omega arith)) ∙ (same ∙ get_or_append_left order (i ∷ []) 0 q b))
          | inr at ↦ (
              let same' : slice_index order p ≡ i = sym (get_or_append_left order (i ∷ []) 0 p (omega arith)) ∙ (same ∙ get_or_push order i 0 q (omega arith)) in
              let f = c.free (slice_index order p) (Contains-get_or order p 0 (omega arith)) in
              let low : slice_index order p < i = f.0 in absurd (omega arith))
        ]);
  }

  -- one more line, which waits
  counted_waits : (d ≡ 0 → ⊥) → IsCounted g order (left ++ d ∷ []) (i + 1)
  counted_waits some = record {
    size = longer;
    degrees = degrees;
    free = λ k m. (let f = c.free k m in let low : k < i = f.0 in ((let r : k < i + 1 = omega arith in r), other k f.0 ∙ f.1));
    all = λ k h z. elim (cases_lt k i) [
      | inl l ↦ c.all k l (sym (other k l) ∙ z)
      | inr at ↦ (let e : i ≡ k = omega arith in absurd (some (sym here ∙ (ap (slice_index (left ++ d ∷ [])) e ∙ z))))
    ];
    distinct = c.distinct;
  }

  counted_by : (b : Bool) → (d == 0) ≡ b → IsCounted g (cond b (order ++ i ∷ []) order) (left ++ d ∷ []) (i + 1)
  counted_by true e = counted_free (eqb-true d 0 e)
  counted_by false e = counted_waits (λ z. true≢false (sym (eq-eqb d 0 z) ∙ e))

  room_by : (b : Bool) → i < length g.lines → HasRoom g order → HasRoom g (cond b (order ++ i ∷ []) order)
  room_by true h r = room_push g order i r h (λ m. (let low : i < i = (c.free i m).0 in absurd (omega arith)))
  room_by false h r = r

  -- one more line
  pub counted_more : (lines after : List ℕ) → after ≡ left ++ d ∷ [] → lines ≡ cond (d == 0) (order ++ i ∷ []) order → IsCounted g lines after (i + 1)
  counted_more lines after e f = subst (λ l. IsCounted g lines l (i + 1)) (sym e) (subst (λ o. IsCounted g o (left ++ d ∷ []) (i + 1)) (sym f) (counted_by (d == 0) refl))

  pub counted_room : (lines : List ℕ) → lines ≡ cond (d == 0) (order ++ i ∷ []) order → i < length g.lines → HasRoom g order → HasRoom g lines
  counted_room lines f h r = subst (λ o. HasRoom g o) (sym f) (room_by (d == 0) h r)

-- all lines are counted, and none is taken yet
pub counted_all : (g : GraphValue) → EdgesBetween g → (order left : List ℕ) → IsCounted g order left (length g.lines) → IsTaking g order (slice_index left) 0 []
counted_all g between order left c = sorting_begins g order (slice_index left) all_degrees c.free c.all c.distinct
  where
    all_degrees : (i : ℕ) → slice_index left i ≡ count_by (λ (e : Edge). e.to == i) (edges g)
    all_degrees i = elim (cases_lt i (length g.lines)) [
      | inl l ↦ c.degrees i l ∙ length-filter (λ (e : Edge). e.to == i) (edges g)
      | inr past ↦ (let s : length left ≡ length g.lines = c.size in get_or_past left i 0 (omega arith)) ∙ sym (counted_none (λ (e : Edge). e.to == i) (edges g)
          (λ e m. ne_eqb e.to i (λ same. (let b : e.to < length g.lines = (between e m).1 in absurd (omega arith)))))
    ]

-- a line off the order
pub taken_known : (g : GraphValue) (order left : List ℕ) (taken : ℕ) → IsTaking g order (slice_index left) taken [] → taken < length order → slice_index order taken < length g.lines
taken_known g order left taken t h = t.lines (slice_index order taken) (Contains-get_or order taken 0 h)

-- one edge of those out of a line
module _ (g : GraphValue) (between : EdgesBetween g) (order left : List ℕ) (taken x i : ℕ) (out : List Edge) (is : out ≡ edges_out_of g x)
    (t : IsTaking g order (slice_index left) taken (drop i out)) (h : i < length out) (size : length left ≡ length g.lines) where
  split : drop i out ≡ slice_index_or out i no_edge ∷ drop (i + 1) out
  split = let one : suc i ≡ i + 1 = omega arith in drop-cons out i no_edge h ∙ ap (λ k. slice_index_or out i no_edge ∷ drop k out) one

  an_edge : Contains (edges g) (slice_index_or out i no_edge)
  an_edge = (filter_contains (λ (e : Edge). e.from == x) (edges g) (slice_index_or out i no_edge) (subst (λ es. Contains es (slice_index_or out i no_edge)) is (Contains-get_or out i no_edge h))).0

  pub to_below : (slice_index_or out i no_edge).to < length left
  to_below = let b : (slice_index_or out i no_edge).to < length g.lines = (between (slice_index_or out i no_edge) an_edge).1 in omega arith

  now : IsTaking g order (slice_index left) taken (slice_index_or out i no_edge ∷ drop (i + 1) out)
  now = subst (λ es. IsTaking g order (slice_index left) taken es) split t

  pub to_waits : 0 < slice_index left (slice_index_or out i no_edge).to
  to_waits = rest_waits g order (slice_index left) taken (slice_index_or out i no_edge) (drop (i + 1) out) now

  module _ (after : List ℕ) (set : after ≡ slice_set left (slice_index_or out i no_edge).to (slice_index left (slice_index_or out i no_edge).to - 1)) where
    fewer_is : slice_index after (slice_index_or out i no_edge).to ≡ slice_index left (slice_index_or out i no_edge).to - 1
    fewer_is = ap (λ xs. slice_index xs (slice_index_or out i no_edge).to) set ∙ get_or-set_same left (slice_index_or out i no_edge).to (slice_index left (slice_index_or out i no_edge).to - 1) 0 to_below

    fewer : slice_index after (slice_index_or out i no_edge).to + 1 ≡ slice_index left (slice_index_or out i no_edge).to
    fewer = let s : slice_index after (slice_index_or out i no_edge).to ≡ slice_index left (slice_index_or out i no_edge).to - 1 = fewer_is in let w : 0 < slice_index left (slice_index_or out i no_edge).to = to_waits in omega arith

    others : (k : ℕ) → (k ≡ (slice_index_or out i no_edge).to → ⊥) → slice_index after k ≡ slice_index left k
    others k apart = ap (λ xs. slice_index xs k) set ∙ get_or-set_other left (slice_index_or out i no_edge).to k (slice_index left (slice_index_or out i no_edge).to - 1) 0 apart

    pub size_stays : length after ≡ length g.lines
    size_stays = ap length set ∙ (simp length-set size)

    taking_by : (b : Bool) → (slice_index left (slice_index_or out i no_edge).to - 1 == 0) ≡ b → IsTaking g (cond b (order ++ (slice_index_or out i no_edge).to ∷ []) order) (slice_index after) taken (drop (i + 1) out)
    taking_by true e = taking_lists g between order (slice_index left) (slice_index after) taken (slice_index_or out i no_edge) (drop (i + 1) out) an_edge now fewer (fewer_is ∙ eqb-true _ _ e) others
    taking_by false e = taking_more g order (slice_index left) (slice_index after) taken (slice_index_or out i no_edge) (drop (i + 1) out) now fewer (positive (slice_index after (slice_index_or out i no_edge).to) (λ z. true≢false (sym (eq-eqb (slice_index left (slice_index_or out i no_edge).to - 1) 0 (sym fewer_is ∙ z)) ∙ e))) others
      where
        positive : (n : ℕ) → (n ≡ 0 → ⊥) → 0 < n
        positive n f = omega (arith, f)

    listed_room : (b : Bool) → HasRoom g order → HasRoom g (cond b (order ++ (slice_index_or out i no_edge).to ∷ []) order)
    listed_room true r = room_push g order (slice_index_or out i no_edge).to r (let b : (slice_index_or out i no_edge).to < length left = to_below in omega arith)
        (λ m. (let z : slice_index left (slice_index_or out i no_edge).to ≡ 0 = now.waited (slice_index_or out i no_edge).to m in let w : 0 < slice_index left (slice_index_or out i no_edge).to = to_waits in absurd (omega arith)))
    listed_room false r = r

    module _ (lines : List ℕ) (listed : lines ≡ cond (slice_index left (slice_index_or out i no_edge).to - 1 == 0) (order ++ (slice_index_or out i no_edge).to ∷ []) order) where
      pub passed : IsTaking g lines (slice_index after) taken (drop (i + 1) out)
      passed = subst (λ o. IsTaking g o (slice_index after) taken (drop (i + 1) out)) (sym listed) (taking_by (slice_index left (slice_index_or out i no_edge).to - 1 == 0) refl)

      pub room_stays : HasRoom g order → HasRoom g lines
      room_stays r = subst (λ o. HasRoom g o) (sym listed) (listed_room (slice_index left (slice_index_or out i no_edge).to - 1 == 0) r)

-- the next line is taken
pub taken_next : (g : GraphValue) (order left : List ℕ) (taken x : ℕ) → IsTaking g order (slice_index left) taken [] → taken < length order → x ≡ slice_index order taken → IsTaking g order (slice_index left) (taken + 1) (edges_out_of g x)
taken_next g order left taken x t h e = subst (λ z. IsTaking g order (slice_index left) (taken + 1) (edges_out_of g z)) (sym e) (taking_begins g order (slice_index left) taken t h)

-- a line of an order has no path to itself
pub ordered_no_cycle : (g : GraphValue) (order left : List ℕ) → IsOrdered g order left → (i : ℕ) → i < length g.lines → slice_index left i ≡ 0 → NoCycleAt g i
ordered_no_cycle g order left o i h z = listed_no_cycle g (is_in order) (place order) (listed_in_order g order (slice_index left) (length order) o.1) i (contains_in order i (o.1.listed i h z))

-- no line has a path to itself, since none below the count of lines has
pub all_no_cycle : (g : GraphValue) → EdgesBetween g → (n : ℕ) → length g.lines ≤ n → ((k : ℕ) → k < n → NoCycleAt g k) → Everywhere (NoCycleAt g)
all_no_cycle g between n all none i p = let b : i < length g.lines = (path_below (edges g) (length g.lines) between p).0 in none i (omega arith) p
