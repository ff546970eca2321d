-- The graph of a flow keeps its lines, and what leads to them is what they depend on.
use Rattle.std.proofs.Common.{◌≡◌, ℕ, zero, suc, ◌+◌, ◌<◌, Bool, true, false, ◌⊎◌, inl, inr, List, [], ◌∷◌, ◌++◌, length, refl, sym, ◌∙◌, ap, subst, length-append, arith}
use Rattle.std.specs.Prelude.{Contains, Option, Some, None, map, slice_get, slice_index_or, option_map}
use Rattle.std.specs.Option.{option_map_or}
use Rattle.std.proofs.lemmas.Bool.{true≢false, cases_order, eq-eqb, eqb-true}
use Rattle.std.proofs.lemmas.Option.{same_Some, slice_get_within, get_or_from_slice_get}
use Rattle.std.proofs.lemmas.List.Elements.{Contains-append_cases, Contains-append_left, Contains-append_right}
use Rattle.basics.proofs.ListFacts.{contains_cases, contains_none, contains_here, contains_there, contains_map, map_contains, contains_filter}
use Rattle.graph_terms.specs.declared.verb.Edge.{Edge}
use Rattle.graph_terms.specs.declared.verb.EdgeKind.{EdgeKind}
use Rattle.graph_terms.specs.declared.verb.EdgeKind.TheVariants.{Passes, Ignores}
use Rattle.graph_terms.specs.declared.verb.Line.{Line}
use Rattle.graph_terms.specs.declared.verb.Verb.{Verb}
use Rattle.graph_terms.specs.declared.verb.Verb.TheVariants.{Trigger, Cancel, Merge, MergeIgnore, Phase, Arrive, Release, Fill, Copy, Reduce, Task}
use Rattle.graph_terms.specs.Graph.{GraphValue, locks, line_passes, is_acquire_of, is_release_of}
use Rattle.graph_terms.specs.Edges.{edge, on_edges, verb_edges, line_edges, edges_after, edges}
use Rattle.graph_terms.specs.Fits.{IsGraph}
use Rattle.graph_meaning.specs.Path.{Path, last}
use Rattle.graph_terms.specs.Reservations.{Acquires, Releases}
use Rattle.index_spaces.specs.Laws.{PointsAreListed}
use Rattle.graph_terms.proofs.Public.{line_edges_in}
use Rattle.graph_meaning.proofs.Public.{path_append}
use Rattle.flow_order.specs.Flow.{IsFlow, uses_columns}
use Rattle.flow_order.specs.Meaning.{depends}
use Rattle.flow_order.specs.Orders.{is_passing, passing_edges}
use Rattle.flow_order.specs.Written.{orders_alone, Keeps, MeansFlow}
use Rattle.flow_order.specs.Sources.{Feeds, straight, through, SourcesStand}
use Rattle.flow_order.specs.Sections.{Held, AreApart, SectionsStand}
use Rattle.flow_order.specs.Laws.{MeansBySources}
use Rattle.task_flow.specs.Construction.{Made, is_contended, summed_column, needed, place_of, lock_for, place_in, no_line, line_in, made_after, number_from, reservations, graph_of, written}
use Rattle.flow_order.proofs.FlowSide.{depends_below}
use Rattle.flow_order.proofs.Simulation.{alone_uses}
use Rattle.flow_order.proofs.SourceFacts.{sources_of, sources_sound, sources_complete}
use Rattle.task_flow.proofs.Standing.{Leaf, Waits, IsOwn, IsSection, InSection, Standing, new_line, dead, own_uses}
use Rattle.task_flow.proofs.MadeLines.{made_stands}
use Rattle.task_flow.proofs.Rivals.{rivals_contend}
use Rattle.task_flow.proofs.Reservations.{reservations_are}

-- each edge is given by a line
edge_given : (before ls : List Line) (e : Edge) → Contains (edges_after before ls) e → (k : ℕ) × (l : Line) × (b : List Line) × (slice_get ls k ≡ Some l) × (length b ≡ length before + k) × Contains (line_edges b l) e
edge_given before [] e c = absurd (contains_none e c)
edge_given before (l ∷ ls) e c = elim (Contains-append_cases (line_edges before l) (edges_after (before ++ l ∷ []) ls) e c) [
  | inl own ↦ (0, l, before, refl, (let z : length before ≡ length before + 0 = omega arith in z), own)
  | inr rest ↦ (
      let r = edge_given (before ++ l ∷ []) ls e rest in
      let more : length (before ++ l ∷ []) ≡ length before + 1 = length-append before (l ∷ []) in
      let len : length r.2 ≡ length (before ++ l ∷ []) + r.0 = r.4 in
      (suc r.0, r.1, r.2, r.3, (let z : length r.2 ≡ length before + suc r.0 = omega arith in z), r.5))
]

-- a line waits for another, or merges it
abbrev pub Names : Line → ℕ → Type 0
Names l x = Contains l.on x ⊎ ((es : List ℕ) × (l.verb ≡ Merge es) × Contains es x)

-- or its merge ignores the other's fault
abbrev Follows : Line → ℕ → Type 0
Follows l x = Names l x ⊎ ((es : List ℕ) × (l.verb ≡ MergeIgnore es) × Contains es x)

-- a line of a flow gives no edge by its verb
own_gives : (b : List Line) (k : ℕ) (v : Verb) → uses_columns v ≡ true → verb_edges b k v ≡ []
own_gives b k (Fill t s v) h = refl
own_gives b k (Copy x y s) h = refl
own_gives b k (Reduce o x y s) h = refl
own_gives b k (Task kernel) h = refl
own_gives b k v h = absurd (true≢false (sym h))

-- the edges of events that are named
merge_gives : (kind : EdgeKind) (es : List ℕ) (k : ℕ) (e : Edge) → Contains (map (λ x. edge x k kind) es) e → Contains es e.from × (e.to ≡ k)
merge_gives kind es k e c = let x = map_contains (λ x. edge x k kind) es e c in (subst (λ z. Contains es z) (ap (λ (y : Edge). y.from) x.2) x.1, sym (ap (λ (y : Edge). y.to) x.2))

-- what gives edges by its verb, of a verb that only orders
alone_gives : (b : List Line) (k : ℕ) (l : Line) (e : Edge) → orders_alone l.verb ≡ true → (v : Verb) → l.verb ≡ v → Contains (verb_edges b k v) e → Follows l e.from × (e.to ≡ k)
alone_gives b k l e h (Merge es) is c = let r = merge_gives Passes es k e c in (inl (inr (es, is, r.0)), r.1)
alone_gives b k l e h (MergeIgnore es) is c = let r = merge_gives Ignores es k e c in (inr (es, is, r.0), r.1)
alone_gives b k l e h (Trigger u) is c = absurd (true≢false (sym h ∙ ap orders_alone is))
alone_gives b k l e h (Cancel u) is c = absurd (true≢false (sym h ∙ ap orders_alone is))
alone_gives b k l e h (Phase u) is c = absurd (true≢false (sym h ∙ ap orders_alone is))
alone_gives b k l e h (Arrive p v w) is c = absurd (true≢false (sym h ∙ ap orders_alone is))
alone_gives b k l e h v is c = absurd (contains_none e c)

-- the number of a release
release_of : (q k : ℕ) → is_release_of q (Release k) ≡ true → k ≡ q
release_of q k h = eqb-true k q h

-- it acquires nothing and releases nothing
own_holds : (l : ℕ) (v : Verb) → uses_columns v ≡ true → (is_acquire_of l v ≡ false) × (is_release_of l v ≡ false)
own_holds l (Fill t s v) h = (refl, refl)
own_holds l (Copy x y s) h = (refl, refl)
own_holds l (Reduce o x y s) h = (refl, refl)
own_holds l (Task kernel) h = (refl, refl)
own_holds l v h = absurd (true≢false (sym h))

-- the stages of a proof over a flow and what stands of its graph
module _ (f : GraphValue) (commute : Bool) (flow : IsFlow f) (m : Made) (labels : List (List ℕ)) (st : Standing f commute (length f.lines) m labels) where
  abbrev n : ℕ
  n = length f.lines

  abbrev g : GraphValue
  g = graph_of f commute m

  uses : (i : ℕ) → i < n → uses_columns (line_in f i).verb ≡ true
  uses i h = own_uses f commute flow n (omega arith) i h

  line_uses : (k : ℕ) (l : Line) → IsOwn f commute n m labels k l → uses_columns l.verb ≡ true
  line_uses k l o = ap uses_columns o.verb ∙ uses o.line o.below

  -- the line at a place in a section
  same_line : (k q : ℕ) (l x : Line) → slice_get m.lines k ≡ Some l → k ≡ q → slice_get m.lines q ≡ Some x → l ≡ x
  same_line k q l x at is there = same_Some l x (sym at ∙ (ap (slice_get m.lines) is ∙ there))

  section_orders : (k : ℕ) (l : Line) → slice_get m.lines k ≡ Some l → InSection f commute n m labels st.guards k → orders_alone l.verb ≡ true
  section_orders k l at r = elim r.3 [
    | inl a ↦ ap (λ (x : Line). orders_alone x.verb) (same_line k r.1 l _ at a (r.2).acquire)
    | inr (inl b) ↦ ap (λ (x : Line). orders_alone x.verb) (same_line k (r.1 + 2) l _ at b (r.2).merge)
    | inr (inr c) ↦ ap (λ (x : Line). orders_alone x.verb) (same_line k (r.1 + 3) l _ at c (r.2).release)
  ]

  -- a line of the flow, or one that only orders
  line_kind : (k : ℕ) (l : Line) → slice_get m.lines k ≡ Some l → IsOwn f commute n m labels k l ⊎ (orders_alone l.verb ≡ true)
  line_kind k l at = elim (st.each k l at) [
    | inl o ↦ inl o
    | inr (inl o) ↦ inr (ap orders_alone o.verb)
    | inr (inr o) ↦ inr (section_orders k l at o)
  ]

  verb_named : (b : List Line) (k : ℕ) (l : Line) (e : Edge) → slice_get m.lines k ≡ Some l → length b ≡ k → Contains (verb_edges b (length b) l.verb) e → Follows l e.from × (e.to ≡ k)
  verb_named b k l e at len c = elim (line_kind k l at) [
    | inl o ↦ absurd (contains_none e (subst (λ es. Contains es e) (own_gives b (length b) l.verb (line_uses k l o)) c))
    | inr o ↦ (let r = alone_gives b (length b) l e o l.verb refl c in (r.0, r.1 ∙ len))
  ]

  edge_names : (e : Edge) → Contains (edges g) e → (l : Line) × (slice_get m.lines e.to ≡ Some l) × Follows l e.from
  edge_names e c =
      let r = edge_given [] m.lines e c in
      let len : length r.2 ≡ r.0 = (let z : length r.2 ≡ 0 + r.0 = r.4 in omega arith) in
      let one : Follows r.1 e.from × (e.to ≡ r.0) = elim (Contains-append_cases (on_edges r.1.on (length r.2)) (verb_edges r.2 (length r.2) r.1.verb) e r.5) [
        | inl a ↦ (let s = merge_gives Passes r.1.on (length r.2) e a in (inl (inl s.0), s.1 ∙ len))
        | inr b ↦ verb_named r.2 r.0 r.1 e r.3 len b
      ] in
      (r.1, ap (slice_get m.lines) one.1 ∙ r.3, one.0)

  -- an edge that a line gives
  edge_by : (k : ℕ) (l : Line) (x : ℕ) (kind : EdgeKind) → slice_get m.lines k ≡ Some l → ((b : List Line) → length b ≡ k → Contains (line_edges b l) (edge x (length b) kind)) → Contains (edges g) (edge x k kind)
  edge_by k l x kind at given =
      let r = line_edges_in [] m.lines k l at in
      let len : length r.0 ≡ k = (let z : length r.0 ≡ 0 + k = r.1 in omega arith) in
      subst (λ z. Contains (edges g) (edge x z kind)) len (r.2 (edge x (length r.0) kind) (given r.0 len))

  on_edge : (k : ℕ) (l : Line) (x : ℕ) → slice_get m.lines k ≡ Some l → Contains l.on x → Contains (edges g) (edge x k Passes)
  on_edge k l x at on = edge_by k l x Passes at (λ b len. Contains-append_left (on_edges l.on (length b)) (verb_edges b (length b) l.verb) (edge x (length b) Passes) (contains_map (λ y. edge y (length b) Passes) l.on x on))

  names_edge : (k : ℕ) (l : Line) (x : ℕ) → slice_get m.lines k ≡ Some l → Names l x → Contains (passing_edges g) (edge x k Passes)
  names_edge k l x at named = contains_filter (λ (e : Edge). is_passing e.kind) (edges g) (edge x k Passes) (elim named [
    | inl on ↦ on_edge k l x at on
    | inr es ↦ edge_by k l x Passes at (λ b len. Contains-append_right (on_edges l.on (length b)) (verb_edges b (length b) l.verb) (edge x (length b) Passes)
        (subst (λ v. Contains (verb_edges b (length b) v) (edge x (length b) Passes)) (sym es.1) (contains_map (λ y. edge y (length b) Passes) es.0 x es.2)))
  ]) refl

  ignores_edge : (k : ℕ) (l : Line) (x : ℕ) (es : List ℕ) → slice_get m.lines k ≡ Some l → l.verb ≡ MergeIgnore es → Contains es x → Contains (edges g) (edge x k Ignores)
  ignores_edge k l x es at is c = edge_by k l x Ignores at (λ b len. Contains-append_right (on_edges l.on (length b)) (verb_edges b (length b) l.verb) (edge x (length b) Ignores)
      (subst (λ v. Contains (verb_edges b (length b) v) (edge x (length b) Ignores)) (sym is) (contains_map (λ y. edge y (length b) Ignores) es x c)))

  place_is_one : (i j : ℕ) → i < n → j < n → place_in m i ≡ place_in m j → i ≡ j
  place_is_one i j a b same = elim (cases_order i j) [
    | inl e ↦ e
    | inr (inl below) ↦ (let c : place_in m i < place_in m j = st.rises i j below b in absurd (omega arith))
    | inr (inr above) ↦ (let c : place_in m j < place_in m i = st.rises j i above a in absurd (omega arith))
  ]

  -- line j of the flow, and what it waits for
  own_line : (j : ℕ) → j < n → (l : Line) × (slice_get m.lines (place_in m j) ≡ Some l) × (l.verb ≡ (line_in f j).verb) × Waits labels (place_in m j) l.on (λ x. Contains (sources_of f commute j) x)
  own_line j h =
      let o = st.own j h in (
        o.0,
        o.1,
        o.3,
        elim (line_kind (place_in m j) o.0 o.1) [
          | inl r ↦ subst (λ z. Waits labels (place_in m j) o.0.on (λ x. Contains (sources_of f commute z) x)) (place_is_one r.line j r.below h r.place) r.waits
          | inr r ↦ absurd (alone_uses o.0.verb r (ap uses_columns o.3 ∙ uses j h))
        ],
      )

  waits_for : (k : ℕ) (on : List ℕ) (P : ℕ → Type 0) (x y : ℕ) → Waits labels k on P → Contains on x → Leaf labels x y → P y
  waits_for k on P x y w h l = (w.leaves y).1 (x, h, l)

  merge_same : (es ds : List ℕ) → Merge es ≡ Merge ds → es ≡ ds
  merge_same es ds h = cc

  ignore_same : (es ds : List ℕ) → MergeIgnore es ≡ MergeIgnore ds → es ≡ ds
  ignore_same es ds h = cc

  abbrev is_merge : Verb → Bool
  is_merge (Merge es) = true
  is_merge _ = false

  abbrev is_ignore : Verb → Bool
  is_ignore (MergeIgnore es) = true
  is_ignore _ = false

  differ : (t : Verb → Bool) (v w : Verb) → v ≡ w → t v ≡ true → t w ≡ false → ⊥
  differ t v w same passes fails = true≢false (sym passes ∙ (ap t same ∙ fails))

  -- the event of a line that waits for one, and that there is none
  one_event : (on : List ℕ) (x y : ℕ) → Contains on x → on ≡ y ∷ [] → x ≡ y
  one_event on x y c is = elim (contains_cases y [] x (subst (λ z. Contains z x) is c)) [ inl same ↦ sym same | inr none ↦ absurd (contains_none x none) ]

  no_event : (on : List ℕ) (x : ℕ) → Contains on x → on ≡ [] → ⊥
  no_event on x c is = contains_none x (subst (λ z. Contains z x) is c)

  -- a leaf of what a line that only orders follows is a leaf of it
  leaf_on : (k x y : ℕ) (l : Line) → slice_get m.lines k ≡ Some l → orders_alone l.verb ≡ true → Follows l x → Leaf labels x y → Leaf labels k y
  leaf_on k x y l at alone named leaf = elim (st.each k l at) [
    | inl o ↦ absurd (alone_uses l.verb alone (line_uses k l o))
    | inr (inl o) ↦ (o.leaves y).1 (
      x,
      elim named [
        | inl (inl on) ↦ absurd (no_event l.on x on o.on)
        | inl (inr es) ↦ subst (λ z. Contains z x) (merge_same es.0 o.events (sym es.1 ∙ o.verb)) es.2
        | inr es ↦ absurd (differ is_merge (Merge o.events) (MergeIgnore es.0) (sym o.verb ∙ es.1) refl refl)
      ],
      leaf,
    )
    | inr (inr o) ↦ in_section o.1 o.2 o.3
  ]
    where
      in_section : (q : ℕ) → IsSection f commute n m labels q → (k ≡ q) ⊎ ((k ≡ q + 2) ⊎ (k ≡ q + 3)) → Leaf labels k y
      in_section q s (inl a) =
          let is = same_line k q l _ at a s.acquire in
          elim named [
            | inl (inl on) ↦ subst (λ z. Leaf labels z y) (sym a) (waits_for q s.on (Leaf labels q) x y s.waits (subst (λ z. Contains z x) (ap (λ (z : Line). z.on) is) on) leaf)
            | inl (inr es) ↦ absurd (differ is_merge (Merge es.0) _ (sym es.1 ∙ ap (λ (z : Line). z.verb) is) refl refl)
            | inr es ↦ absurd (differ is_ignore (MergeIgnore es.0) _ (sym es.1 ∙ ap (λ (z : Line). z.verb) is) refl refl)
          ]
      in_section q s (inr (inl b)) =
          let is = same_line k (q + 2) l _ at b s.merge in
          elim named [
            | inl (inl on) ↦ absurd (no_event l.on x on (ap (λ (z : Line). z.on) is))
            | inl (inr es) ↦ absurd (differ is_merge (Merge es.0) _ (sym es.1 ∙ ap (λ (z : Line). z.verb) is) refl refl)
            | inr es ↦ (
                let one = subst (λ z. Contains z x) (ignore_same es.0 ((q + 1) ∷ []) (sym es.1 ∙ ap (λ (z : Line). z.verb) is)) es.2 in
                elim (contains_cases (q + 1) [] x one) [
                  | inl same ↦ (
                      let own = (st.own s.line s.below).4 in
                      let label : slice_index_or labels x [] ≡ s.line ∷ [] = ap (λ z. slice_index_or labels z []) (sym same ∙ sym s.place) ∙ own in
                      elim (contains_cases s.line [] y (subst (λ z. Contains z y) label leaf)) [
                        | inl is_line ↦ subst (λ z. Contains z y) (sym (ap (λ z. slice_index_or labels z []) b ∙ s.merge_label)) (subst (λ z. Contains (dead f s.line) z) is_line (contains_here s.line (length f.lines ∷ [])))
                        | inr none ↦ absurd (contains_none y none)
                      ])
                  | inr none ↦ absurd (contains_none x none)
                ])
          ]
      in_section q s (inr (inr d)) =
          let is = same_line k (q + 3) l _ at d s.release in
          elim named [
            | inl (inl on) ↦ (
                let from : x ≡ q + 2 = one_event l.on x (q + 2) on (ap (λ (z : Line). z.on) is) in
                subst (λ z. Contains z y) (sym (ap (λ z. slice_index_or labels z []) d ∙ s.release_label)) (subst (λ z. Contains z y) (ap (λ z. slice_index_or labels z []) from ∙ s.merge_label) leaf))
            | inl (inr es) ↦ absurd (differ is_merge (Merge es.0) _ (sym es.1 ∙ ap (λ (z : Line). z.verb) is) refl refl)
            | inr es ↦ absurd (differ is_ignore (MergeIgnore es.0) _ (sym es.1 ∙ ap (λ (z : Line). z.verb) is) refl refl)
          ]

  -- what feeds line j is one of its sources
  feeds_leaf : {x t : ℕ} → Feeds g x t → (y j : ℕ) → j < n → t ≡ place_in m j → Leaf labels x y → Contains (sources_of f commute j) y
  feeds_leaf (straight e c p q) y j h at leaf =
      let named = edge_names e c in
      let own = own_line j h in
      let same : own.0 ≡ named.0 = same_Some own.0 named.0 (sym own.1 ∙ (ap (slice_get m.lines) (sym (q ∙ at)) ∙ named.1)) in
      let uses_it : uses_columns named.0.verb ≡ true = ap (λ (l : Line). uses_columns l.verb) (sym same) ∙ (ap uses_columns own.2 ∙ uses j h) in
      elim named.2 [
        | inl (inl on) ↦ waits_for (place_in m j) own.0.on (λ x. Contains (sources_of f commute j) x) e.from y own.3 (subst (λ (l : Line). Contains l.on e.from) (sym same) on) (subst (λ z. Leaf labels z y) (sym p) leaf)
        | inl (inr es) ↦ absurd (true≢false (sym uses_it ∙ ap uses_columns es.1))
        | inr es ↦ absurd (true≢false (sym uses_it ∙ ap uses_columns es.1))
      ]
  feeds_leaf (through e c p orders rest) y j h at leaf =
      let named = edge_names e c in
      let alone : orders_alone named.0.verb ≡ true = sym (ap (λ (o : Option Line). option_map_or orders_alone (option_map (λ (l : Line). l.verb) o) false) named.1) ∙ orders in
      feeds_leaf rest y j h at (leaf_on e.to e.from y named.0 named.1 alone named.2 (subst (λ z. Leaf labels z y) (sym p) leaf))

  -- a line of the flow is an event, or has a path to it along which faults pass
  abbrev UpTo : ℕ → ℕ → Type 0
  UpTo y k = (place_in m y ≡ k) ⊎ Path (passing_edges g) (place_in m y) k

  onward : (y x k : ℕ) → UpTo y x → Contains (passing_edges g) (edge x k Passes) → Path (passing_edges g) (place_in m y) k
  onward y x k (inl same) c = last (edge x k Passes) c (sym same) refl
  onward y x k (inr p) c = path_append p (last (edge x k Passes) c refl refl)

  -- what stands in a section behind its line has a leaf that is no line of the flow
  abbrev Lives : ℕ → Type 0
  Lives k = Leaf labels k n → ⊥

  dies : (k q i : ℕ) → k ≡ q → slice_index_or labels q [] ≡ dead f i → Lives k → ⊥
  dies k q i is label lives = lives (subst (λ z. Contains z n) (sym (ap (λ z. slice_index_or labels z []) is ∙ label)) (contains_there i (length f.lines ∷ []) n (contains_here (length f.lines) [])))

  acquire_path : (k y : ℕ) (l : Line) → slice_get m.lines k ≡ Some l → (on : List ℕ) → on ≡ l.on → Waits labels k on (Leaf labels k) → Lives k → Leaf labels k y → ((x : ℕ) → x < k → Lives x → Leaf labels x y → UpTo y x) → UpTo y k
  acquire_path k y l at on is w lives leaf again =
      let r = (w.leaves y).0 leaf in
      inr (onward y r.0 k (again r.0 (w.below r.0 r.1) (λ c. lives ((w.leaves n).1 (r.0, r.1, c))) r.2) (names_edge k l r.0 at (inl (subst (λ z. Contains z r.0) is r.1))))

  leaf_path_at : (k y : ℕ) (l : Line) → slice_get m.lines k ≡ Some l → Lives k → Leaf labels k y → ((x : ℕ) → x < k → Lives x → Leaf labels x y → UpTo y x) → UpTo y k
  leaf_path_at k y l at lives leaf again = elim (st.each k l at) [
    | inl o ↦ elim (contains_cases o.line [] y (subst (λ z. Contains z y) o.label leaf)) [
      | inl same ↦ inl (ap (place_in m) (sym same) ∙ o.place)
      | inr none ↦ absurd (contains_none y none)
    ]
    | inr (inl o) ↦ (let r = (o.leaves y).0 leaf in inr (onward y r.0 k (again r.0 (o.below r.0 r.1) (λ c. lives ((o.leaves n).1 (r.0, r.1, c))) r.2) (names_edge k l r.0 at (inr (o.events, o.verb, r.1)))))
    | inr (inr o) ↦ elim o.3 [
      | inl a ↦ (
          let s = o.2 in
          let is = same_line k o.1 l _ at a s.acquire in
          acquire_path k y l at s.on (sym (ap (λ (z : Line). z.on) is)) (subst (λ z. Waits labels z s.on (Leaf labels z)) (sym a) s.waits) lives leaf again)
      | inr (inl b) ↦ absurd (dies k (o.1 + 2) (o.2).line b (o.2).merge_label lives)
      | inr (inr d) ↦ absurd (dies k (o.1 + 3) (o.2).line d (o.2).release_label lives)
    ]
  ]

  got_line : (xs : List Line) (k : ℕ) → k < length xs → (l : Line) × (slice_get xs k ≡ Some l)
  got_line [] k h = absurd (omega arith)
  got_line (x ∷ xs) zero h = (x, refl)
  got_line (x ∷ xs) (suc k) h = got_line xs k (let b : suc k < suc (length xs) = h in omega arith)

  leaf_path : (bound k y : ℕ) → k < bound → k < length m.lines → Lives k → Leaf labels k y → UpTo y k
  leaf_path zero k y h b lives leaf = absurd (omega arith)
  leaf_path (suc bound) k y h b lives leaf = let l = got_line m.lines k b in leaf_path_at k y l.0 l.1 lives leaf (λ x c lives d. leaf_path bound x y (omega arith) (omega arith) lives d)

  no_source : (j : ℕ) → j < n → Contains (sources_of f commute j) n → ⊥
  no_source j h c = let d : depends f commute n j ≡ true = sources_sound f commute j n c in let b : n < j = depends_below f commute n j d in absurd (omega arith)

  waits_path : (j : ℕ) → j < n → (l : Line) (y : ℕ) → slice_get m.lines (place_in m j) ≡ Some l → Waits labels (place_in m j) l.on (λ x. Contains (sources_of f commute j) x) → Contains (sources_of f commute j) y → Path (passing_edges g) (place_in m y) (place_in m j)
  waits_path j h l y at w c =
      let r = (w.leaves y).0 c in
      let below : place_in m j < length m.lines = slice_get_within m.lines (place_in m j) l at in
      let less : r.0 < place_in m j = w.below r.0 r.1 in
      onward y r.0 (place_in m j) (leaf_path (suc r.0) r.0 y (omega arith) (omega arith) (λ d. no_source j h ((w.leaves n).1 (r.0, r.1, d))) r.2) (names_edge (place_in m j) l r.0 at (inl r.1))

  source_path : (j : ℕ) → j < n → (y : ℕ) → Contains (sources_of f commute j) y → Path (passing_edges g) (place_in m y) (place_in m j)
  source_path j h y c = let o = own_line j h in waits_path j h o.0 y o.1 o.3 c

  sources_stand : SourcesStand f commute g (place_in m)
  sources_stand = record {
    sound = λ i j a b fed. sources_sound f commute j i (feeds_leaf fed i j b refl (subst (λ z. Contains z i) (sym (st.own i a).4) (contains_here i [])));
    complete = λ i j a b d. (
        let r = sources_complete f commute i j d in
        let below : r.0 < j = (let dep : depends f commute r.0 j ≡ true = sources_sound f commute j r.0 r.1 in depends_below f commute r.0 j dep) in
        let p = source_path j b r.0 r.1 in
        elim r.2 [
          | inl same ↦ inl (subst (λ z. Path (passing_edges g) (place_in m z) (place_in m j)) same p)
          | inr chain ↦ inr (r.0, (let z : r.0 < n = omega arith in z), chain, p)
        ]);
  }

  keeps : Keeps f g (place_in m)
  keeps = record {
    format = refl;
    locks = reservations f commute;
    decls = refl;
    only_locks = reservations_are f commute;
    ascends = st.rises;
    line = λ i l at. (
        let h : i < n = slice_get_within f.lines i l at in
        let o = st.own i h in
        let same : line_in f i ≡ l = get_or_from_slice_get f.lines i l no_line at in
        (o.0, o.1, o.2 ∙ ap (λ (x : Line). x.name) same, o.3 ∙ ap (λ (x : Line). x.verb) same));
    others = λ k l at. elim (line_kind k l at) [
      | inl o ↦ inl (o.line, o.below, o.place)
      | inr o ↦ inr o
    ];
  }

  -- a line that passes a test
  passed : (t : Verb → Bool) (k : ℕ) → line_passes t g k ≡ true → (l : Line) × (slice_get m.lines k ≡ Some l) × (t l.verb ≡ true)
  passed t k h = by (slice_get m.lines k) refl h
    where
      by : (o : Option Line) → slice_get m.lines k ≡ o → option_map_or t (option_map (λ (l : Line). l.verb) o) false ≡ true → (l : Line) × (slice_get m.lines k ≡ Some l) × (t l.verb ≡ true)
      by None at x = absurd (true≢false (sym x))
      by (Some l) at x = (l, at, x)

  -- a line that passes a test which lines of a flow and merges fail
  in_section : (t : Verb → Bool) (k : ℕ) → ((v : Verb) → uses_columns v ≡ true → t v ≡ false) → ((es : List ℕ) → t (Merge es) ≡ false) → line_passes t g k ≡ true → (l : Line) × (slice_get m.lines k ≡ Some l) × (t l.verb ≡ true) × InSection f commute n m labels st.guards k
  in_section t k own merge h =
      let r = passed t k h in
      elim (st.each k r.0 r.1) [
        | inl o ↦ absurd (true≢false (sym r.2 ∙ own r.0.verb (line_uses k r.0 o)))
        | inr (inl o) ↦ absurd (true≢false (sym r.2 ∙ (ap t o.verb ∙ merge o.events)))
        | inr (inr o) ↦ (r.0, r.1, r.2, o)
      ]

  held_at : (q : ℕ) → IsSection f commute n m labels q → Held g q
  held_at q s = record {
    verb = (line_in f s.line).verb;
    sum = ap (option_map (λ (l : Line). l.verb)) s.sum;
    uses = uses s.line s.below;
    merge = ap (option_map (λ (l : Line). l.verb)) s.merge;
    last = new_line (m.first + (q + 3)) (Release q) ((q + 2) ∷ []);
    release = s.release;
    releases = refl;
    on = refl;
    to_sum = on_edge (q + 1) _ q s.sum (contains_here q []);
    to_merge = ignores_edge (q + 2) _ (q + 1) ((q + 1) ∷ []) s.merge refl (contains_here (q + 1) []);
    to_release = on_edge (q + 3) _ (q + 2) s.release (contains_here (q + 2) []);
    into_sum = λ e c to. (
        let named = edge_names e c in
        let is = same_line e.to (q + 1) named.0 _ named.1 to s.sum in
        elim named.2 [
          | inl (inl on) ↦ one_event named.0.on e.from q on (ap (λ (z : Line). z.on) is)
          | inl (inr es) ↦ absurd (true≢false (sym (uses s.line s.below) ∙ ap uses_columns (sym (ap (λ (z : Line). z.verb) is) ∙ es.1)))
          | inr es ↦ absurd (true≢false (sym (uses s.line s.below) ∙ ap uses_columns (sym (ap (λ (z : Line). z.verb) is) ∙ es.1)))
        ]);
    into_merge = λ e c to. (
        let named = edge_names e c in
        let is = same_line e.to (q + 2) named.0 _ named.1 to s.merge in
        elim named.2 [
          | inl (inl on) ↦ absurd (no_event named.0.on e.from on (ap (λ (z : Line). z.on) is))
          | inl (inr es) ↦ absurd (differ is_merge (Merge es.0) _ (sym es.1 ∙ ap (λ (z : Line). z.verb) is) refl refl)
          | inr es ↦ (
              let one = subst (λ z. Contains z e.from) (ignore_same es.0 ((q + 1) ∷ []) (sym es.1 ∙ ap (λ (z : Line). z.verb) is)) es.2 in
              elim (contains_cases (q + 1) [] e.from one) [ inl same ↦ sym same | inr none ↦ absurd (contains_none e.from none) ])
        ]);
    into_release = λ e c to. (
        let named = edge_names e c in
        let is = same_line e.to (q + 3) named.0 _ named.1 to s.release in
        elim named.2 [
          | inl (inl on) ↦ one_event named.0.on e.from (q + 2) on (ap (λ (z : Line). z.on) is)
          | inl (inr es) ↦ absurd (differ is_merge (Merge es.0) _ (sym es.1 ∙ ap (λ (z : Line). z.verb) is) refl refl)
          | inr es ↦ absurd (differ is_ignore (MergeIgnore es.0) _ (sym es.1 ∙ ap (λ (z : Line). z.verb) is) refl refl)
        ]);
  }

  acquire_held : (q l : ℕ) → Acquires g q l → Held g q
  acquire_held q l a =
      let r = in_section (is_acquire_of l) q (λ v h. (own_holds l v h).0) (λ es. refl) a in
      let s = (r.3).2 in
      elim (r.3).3 [
        | inl b ↦ subst (Held g) (sym b) (held_at (r.3).1 s)
        | inr (inl b) ↦ absurd (true≢false (sym r.2 ∙ ap (λ (x : Line). is_acquire_of l x.verb) (same_line q ((r.3).1 + 2) r.0 _ r.1 b s.merge)))
        | inr (inr b) ↦ absurd (true≢false (sym r.2 ∙ ap (λ (x : Line). is_acquire_of l x.verb) (same_line q ((r.3).1 + 3) r.0 _ r.1 b s.release)))
      ]

  release_held : (r q : ℕ) → Releases g r q → (r ≡ q + 3) × Held g q
  release_held r q a =
      let x = in_section (is_release_of q) r (λ v h. (own_holds q v h).1) (λ es. refl) a in
      let s = (x.3).2 in
      let p = (x.3).1 in
      elim (x.3).3 [
        | inl b ↦ absurd (true≢false (sym x.2 ∙ ap (λ (z : Line). is_release_of q z.verb) (same_line r (x.3).1 x.0 _ x.1 b s.acquire)))
        | inr (inl b) ↦ absurd (true≢false (sym x.2 ∙ ap (λ (z : Line). is_release_of q z.verb) (same_line r ((x.3).1 + 2) x.0 _ x.1 b s.merge)))
        | inr (inr b) ↦ (
            let same : p ≡ q = release_of q p (sym (ap (λ (z : Line). is_release_of q z.verb) (same_line r (p + 3) x.0 _ x.1 b s.release)) ∙ x.2) in
            (b ∙ ap (λ z. z + 3) same, subst (Held g) same (held_at p s)))
      ]

  acquires_at : (q l i : ℕ) (s : IsSection f commute n m labels q) → lock_for f commute s.line ≡ l → Acquires g q l
  acquires_at q l i s is = ap (λ (o : Option Line). option_map_or (is_acquire_of l) (option_map (λ (l : Line). l.verb) o) false) s.acquire ∙ eq-eqb (lock_for f commute s.line) l is

  -- two contended sums into one column stand apart
  apart : (i j : ℕ) → i < n → j < n → is_contended f commute i ≡ true → is_contended f commute j ≡ true → summed_column f i ≡ summed_column f j → AreApart g (place_in m i) (place_in m j)
  apart i j a b ci cj same =
      let one = st.held i a ci in
      let other = st.held j b cj in
      let lock : lock_for f commute (other.1).line ≡ lock_for f commute i = ap (lock_for f commute) other.2 ∙ ap (λ c. length (locks f) + place_of (needed f commute (length f.lines)) c) (sym same) in
      record {
        lock = lock_for f commute i;
        one = one.0;
        other = other.0;
        one_acquires = acquires_at one.0 (lock_for f commute i) i one.1 (ap (lock_for f commute) one.2);
        other_acquires = acquires_at other.0 (lock_for f commute i) j other.1 lock;
        one_line = ap (place_in m) (sym one.2) ∙ (one.1).place;
        other_line = ap (place_in m) (sym other.2) ∙ (other.1).place;
      }

  sections_stand : PointsAreListed → SectionsStand f commute g (place_in m)
  sections_stand listed = record {
    acquires = acquire_held;
    releases = release_held;
    rivals = λ i j a b below h commutes ca cb sa sb column meet. elim (rivals_contend f commute listed commutes i j a b below h ca cb sa sb column meet) [
      | inl chain ↦ inl chain
      | inr c ↦ inr (apart i j (let z : i < n = omega arith in z) h c.0 c.1 c.2)
    ];
  }

  pub means_by : MeansBySources → PointsAreListed → IsGraph g → MeansFlow f commute g
  means_by law listed fits = law f commute g (place_in m) flow fits keeps sources_stand (sections_stand listed)

-- the graph of a flow means it, where it is a graph
pub written_means : MeansBySources → PointsAreListed → (f : GraphValue) (commute : Bool) → IsFlow f → (g : GraphValue) → g ≡ written f commute → IsGraph g → MeansFlow f commute g
unfolding written
written_means law listed f commute flow g is fits =
    let s = made_stands f commute flow (number_from f) (length f.lines) (omega arith) in
    subst (MeansFlow f commute) (sym is) (means_by f commute flow (made_after f commute (number_from f) (length f.lines)) s.0 s.1 law listed (subst IsGraph is fits))
