-- What stands while the graph of a flow is made: each line is one of the flow, a merge, or in a section beside a line of the flow; and each has leaves, the lines of the flow that lead to it through others alone.
use Rattle.std.proofs.Common.{◌≡◌, ℕ, zero, suc, ◌+◌, ◌-◌, ◌<◌, ◌≤◌, Bool, true, false, ◌⊎◌, inl, inr, List, [], ◌∷◌, ◌++◌, length, map, take, drop, refl, sym, ◌∙◌, ap, subst, length-append, length-drop, arith, lit≤}
use Rattle.std.specs.Prelude.{◌↔◌, Contains, Option, Some, None, option_to_list, find, flat_map, nat_eq, nat_le, slice_get, slice_index_or, bytes_eq}
use Rattle.std.specs.Option.{option_map_or}
use Rattle.std.proofs.lemmas.Bool.{true≢false, leb-true}
use Rattle.std.proofs.lemmas.List.{length-map}
use Rattle.std.proofs.lemmas.List.Elements.{Contains-append_cases, Contains-append_left, Contains-append_right}
use Rattle.std.proofs.lemmas.Option.{same_Some, slice_get_within, slice_get-get_or}
use Rattle.std.proofs.lemmas.Slice.Eq.{bytes_eq-Decides}
use Rattle.basics.proofs.ListFacts.{contains_cases, contains_none, contains_here, contains_there, contains_map, map_contains, find_is}
use Rattle.graph_terms.specs.declared.format.Format.{Format}
use Rattle.graph_terms.specs.declared.format.Format.TheVariants.{One, Two, Three}
use Rattle.graph_terms.specs.Limits.{limits}
use Rattle.graph_terms.specs.declared.verb.Line.{Line}
use Rattle.graph_terms.specs.declared.verb.Verb.{Verb}
use Rattle.graph_terms.specs.declared.verb.Verb.TheVariants.{Merge, MergeIgnore, Acquire, Release}
use Rattle.graph_terms.specs.Graph.{GraphValue}
use Rattle.graph_terms.specs.Fits.{repeats}
use Rattle.flow_order.specs.Flow.{IsFlow, uses_columns}
use Rattle.task_flow.specs.Construction.{Made, is_contended, lock_for, new_name, merge_line, with_merge, merge_by, merge_for, most_merged, event_for, place_in, events_for, most_on, on_by, wait_for, no_line, line_in}
use Rattle.flow_order.specs.SourceParts.{Parts, all_of, with_event}
use Rattle.flow_order.proofs.Lists.{Falls, falls_differ, take_once, drop_once, with_event_once, with_event_cases, old_in, new_in, length_with}
use Rattle.basics.proofs.ListParts.{take_within, drop_within, split_cases, got_left, got_end, at_left, at_end, got_cases}
use Rattle.flow_order.proofs.SourceFacts.{sources_of}
use Rattle.task_flow.proofs.Growth.{some_merged}

-- a line may wait for an event in each format
pub one_on : (fm : Format) → 1 ≤ most_on fm
one_on One = lit≤ tt
one_on Two = lit≤ tt
one_on Three = lit≤ tt

-- a line of the flow leads to line e
abbrev pub Leaf : List (List ℕ) → ℕ → ℕ → Type 0
Leaf labels e x = Contains (slice_index_or labels e []) x

abbrev pub LeafOf : List (List ℕ) → List ℕ → ℕ → Type 0
LeafOf labels es x = (e : ℕ) × Contains es e × Leaf labels e x

-- events below line k, whose leaves are those of a rule
pub record Waits (labels : List (List ℕ)) (k : ℕ) (on : List ℕ) (P : ℕ → Type 0) : Type 0 where
  pub below : (e : ℕ) → Contains on e → e < k
  pub once : repeats nat_eq on ≡ false
  pub leaves : (x : ℕ) → P x ↔ LeafOf labels on x

abbrev is_merge : Verb → Bool
is_merge (Merge es) = true
is_merge _ = false

-- line k is a line of the flow
pub record IsOwn (f : GraphValue) (commute : Bool) (n : ℕ) (m : Made) (labels : List (List ℕ)) (k : ℕ) (l : Line) : Type 0 where
  pub line : ℕ
  pub below : line < n
  pub place : place_in m line ≡ k
  pub name : l.name ≡ (line_in f line).name
  pub verb : l.verb ≡ (line_in f line).verb
  pub label : slice_index_or labels k [] ≡ line ∷ []
  pub waits : Waits labels k l.on (λ x. Contains (sources_of f commute line) x)
  pub few : length l.on ≤ most_on f.format

-- line k is a merge
pub record IsMerge (m : Made) (labels : List (List ℕ)) (k : ℕ) (l : Line) : Type 0 where
  pub events : List ℕ
  pub verb : l.verb ≡ Merge events
  pub on : l.on ≡ []
  pub name : l.name ≡ new_name (m.first + k)
  pub some : 0 < length events
  pub few : length events ≤ most_merged m
  pub once : repeats nat_eq events ≡ false
  pub below : (e : ℕ) → Contains events e → e < k
  pub leaves : (x : ℕ) → Leaf labels k x ↔ LeafOf labels events x
  pub noted : Contains m.merges (events, k)

-- a line that is none of the flow, and one that is
abbrev pub new_line : ℕ → Verb → List ℕ → Line
new_line n v o = record { name = new_name n; verb = v; «on» = o }

abbrev pub flow_line : GraphValue → ℕ → List ℕ → Line
flow_line f i o = record { name = (line_in f i).name; verb = (line_in f i).verb; «on» = o }

-- the leaves of what stands in a section behind its line: that line, and a number that no line of the flow has
abbrev pub dead : GraphValue → ℕ → List ℕ
dead f i = i ∷ length f.lines ∷ []

-- the section from line q on
pub record IsSection (f : GraphValue) (commute : Bool) (n : ℕ) (m : Made) (labels : List (List ℕ)) (q : ℕ) : Type 0 where
  pub line : ℕ
  pub below : line < n
  pub contended : is_contended f commute line ≡ true
  pub on : List ℕ
  pub acquire : slice_get m.lines q ≡ Some (new_line (m.first + q) (Acquire (lock_for f commute line) false) on)
  pub sum : slice_get m.lines (q + 1) ≡ Some (flow_line f line (q ∷ []))
  pub merge : slice_get m.lines (q + 2) ≡ Some (new_line (m.first + (q + 2)) (MergeIgnore ((q + 1) ∷ [])) [])
  pub release : slice_get m.lines (q + 3) ≡ Some (new_line (m.first + (q + 3)) (Release q) ((q + 2) ∷ []))
  pub place : place_in m line ≡ q + 1
  pub waits : Waits labels q on (Leaf labels q)
  pub few : length on ≤ most_on f.format
  pub merge_label : slice_index_or labels (q + 2) [] ≡ dead f line
  pub release_label : slice_index_or labels (q + 3) [] ≡ dead f line

-- line k stands in a section, and is none of the flow
abbrev pub InSection : GraphValue → Bool → ℕ → Made → List (List ℕ) → ℕ → ℕ → Type 0
InSection f commute n m labels guards k = (0 < guards) × (q : ℕ) × IsSection f commute n m labels q × ((k ≡ q) ⊎ ((k ≡ q + 2) ⊎ (k ≡ q + 3)))

abbrev pub Each : GraphValue → Bool → ℕ → Made → List (List ℕ) → ℕ → ℕ → Line → Type 0
Each f commute n m labels guards k l = IsOwn f commute n m labels k l ⊎ (IsMerge m labels k l ⊎ InSection f commute n m labels guards k)

abbrev pub OwnAt : GraphValue → Made → List (List ℕ) → ℕ → Type 0
OwnAt f m labels i = (l : Line) × (slice_get m.lines (place_in m i) ≡ Some l) × (l.name ≡ (line_in f i).name) × (l.verb ≡ (line_in f i).verb) × (slice_index_or labels (place_in m i) [] ≡ i ∷ [])

abbrev pub MergedAt : Made → List ℕ → ℕ → Type 0
MergedAt m es e = (l : Line) × (slice_get m.lines e ≡ Some l) × (l.verb ≡ Merge es)

abbrev pub HeldAt : GraphValue → Bool → ℕ → Made → List (List ℕ) → ℕ → Type 0
HeldAt f commute n m labels i = (q : ℕ) × (s : IsSection f commute n m labels q) × (s.line ≡ i)

pub record Standing (f : GraphValue) (commute : Bool) (n : ℕ) (m : Made) (labels : List (List ℕ)) : Type 0 where
  pub guards : ℕ
  pub format : m.format ≡ f.format
  pub labelled : length labels ≡ length m.lines
  pub places : length m.places ≡ n
  pub tally : length m.lines ≡ n + length m.merges + guards
  pub rises : (i j : ℕ) → i < j → j < n → place_in m i < place_in m j
  pub own : (i : ℕ) → i < n → OwnAt f m labels i
  pub each : (k : ℕ) (l : Line) → slice_get m.lines k ≡ Some l → Each f commute n m labels guards k l
  pub merged : (es : List ℕ) (e : ℕ) → Contains m.merges (es, e) → MergedAt m es e
  pub held : (i : ℕ) → i < n → is_contended f commute i ≡ true → HeldAt f commute n m labels i

-- what stands after more merges
pub record Grown (f : GraphValue) (commute : Bool) (n : ℕ) (m : Made) (labels : List (List ℕ)) (m' : Made) : Type 0 where
  pub labels' : List (List ℕ)
  pub stands : Standing f commute n m' labels'
  pub longer : length m.lines ≤ length m'.lines
  pub places : m'.places ≡ m.places
  pub first : m'.first ≡ m.first
  pub same : (k : ℕ) → k < length m.lines → slice_index_or labels' k [] ≡ slice_index_or labels k []

waits_iff : (labels : List (List ℕ)) (k : ℕ) (on : List ℕ) (P Q : ℕ → Type 0) → ((x : ℕ) → P x ↔ Q x) → Waits labels k on P → Waits labels k on Q
waits_iff labels k on P Q h w = record { below = w.below; once = w.once; leaves = λ x. (λ q. (w.leaves x).0 ((h x).1 q), λ l. (h x).0 ((w.leaves x).1 l)) }

-- labels that agree on the events that are named
pub leaves_same : (labels labels' : List (List ℕ)) (es : List ℕ) → ((e : ℕ) → Contains es e → slice_index_or labels' e [] ≡ slice_index_or labels e []) → (x : ℕ) → LeafOf labels es x ↔ LeafOf labels' es x
leaves_same labels labels' es h x = (λ r. (r.0, r.1, subst (λ z. Contains z x) (sym (h r.0 r.1)) r.2), λ r. (r.0, r.1, subst (λ z. Contains z x) (h r.0 r.1) r.2))

pub waits_same : (labels labels' : List (List ℕ)) (k k' : ℕ) (on : List ℕ) (P : ℕ → Type 0) → k ≤ k' → ((e : ℕ) → e < k → slice_index_or labels' e [] ≡ slice_index_or labels e []) → Waits labels k on P → Waits labels' k' on P
waits_same labels labels' k k' on P b h w =
    let s = leaves_same labels labels' on (λ e c. h e (w.below e c)) in
    record {
      below = λ e c. (let d : e < k = w.below e c in omega arith);
      once = w.once;
      leaves = λ x. (λ p. (s x).0 ((w.leaves x).0 p), λ l. (w.leaves x).1 ((s x).1 l));
    }

pub flat_leaf : (labels : List (List ℕ)) (es : List ℕ) (x : ℕ) → Contains (flat_map (λ e. slice_index_or labels e []) es) x ↔ LeafOf labels es x
flat_leaf labels es x = (to es, λ r. back es r.0 r.1 r.2)
  where
    to : (es : List ℕ) → Contains (flat_map (λ e. slice_index_or labels e []) es) x → LeafOf labels es x
    to [] c = absurd (contains_none x c)
    to (e ∷ es) c = elim (Contains-append_cases (slice_index_or labels e []) (flat_map (λ e. slice_index_or labels e []) es) x c) [
      | inl here ↦ (e, contains_here e es, here)
      | inr there ↦ (let r = to es there in (r.0, contains_there e es r.0 r.1, r.2))
    ]

    back : (es : List ℕ) (e : ℕ) → Contains es e → Leaf labels e x → Contains (flat_map (λ e. slice_index_or labels e []) es) x
    back [] e c l = absurd (contains_none e c)
    back (d ∷ es) e c l = elim (contains_cases d es e c) [
      | inl same ↦ Contains-append_left (slice_index_or labels d []) (flat_map (λ e. slice_index_or labels e []) es) x (subst (λ z. Leaf labels z x) (sym same) l)
      | inr rest ↦ Contains-append_right (slice_index_or labels d []) (flat_map (λ e. slice_index_or labels e []) es) x (back es e rest l)
    ]

merge_same : (es ds : List ℕ) → Merge es ≡ Merge ds → es ≡ ds
merge_same es ds h = cc

abbrev grown_none : (f : GraphValue) (commute : Bool) (n : ℕ) (m : Made) (labels : List (List ℕ)) → Standing f commute n m labels → Grown f commute n m labels m
grown_none f commute n m labels st = record { labels' = labels; stands = st; longer = omega arith; places = refl; first = refl; same = λ k h. refl }

abbrev grown_more : (f : GraphValue) (commute : Bool) (n : ℕ) (m : Made) (labels : List (List ℕ)) (m1 m2 : Made) (g : Grown f commute n m labels m1) → Grown f commute n m1 g.labels' m2 → Grown f commute n m labels m2
grown_more f commute n m labels m1 m2 g h =
    let a : length m.lines ≤ length m1.lines = g.longer in
    let b : length m1.lines ≤ length m2.lines = h.longer in
    record { labels' = h.labels'; stands = h.stands; longer = omega arith; places = h.places ∙ g.places; first = h.first ∙ g.first; same = λ k c. h.same k (omega arith) ∙ g.same k c }

-- what stands stays where more lines are made
pub record Kept (n : ℕ) (m m' : Made) (labels labels' : List (List ℕ)) : Type 0 where
  pub lines : (k : ℕ) (l : Line) → slice_get m.lines k ≡ Some l → slice_get m'.lines k ≡ Some l
  pub marks : (k : ℕ) → k < length m.lines → slice_index_or labels' k [] ≡ slice_index_or labels k []
  pub places : (i : ℕ) → i < n → place_in m' i ≡ place_in m i
  pub first : m'.first ≡ m.first
  pub format : m'.format ≡ m.format
  pub merges : (x : List ℕ × ℕ) → Contains m.merges x → Contains m'.merges x

module _ (f : GraphValue) (commute : Bool) (n n' : ℕ) (more : n ≤ n') (m m' : Made) (labels labels' : List (List ℕ)) (kept : Kept n m m' labels labels') where
  own_stays : (k : ℕ) (l : Line) → k < length m.lines → IsOwn f commute n m labels k l → IsOwn f commute n' m' labels' k l
  own_stays k l h o = record {
    line = o.line;
    below = (let b : o.line < n = o.below in omega arith);
    place = kept.places o.line o.below ∙ o.place;
    name = o.name;
    verb = o.verb;
    label = kept.marks k h ∙ o.label;
    waits = waits_same labels labels' k k l.on _ (omega arith) (λ e c. kept.marks e (omega arith)) o.waits;
    few = o.few;
  }

  merge_stays : (k : ℕ) (l : Line) → k < length m.lines → IsMerge m labels k l → IsMerge m' labels' k l
  merge_stays k l h o =
      let s = leaves_same labels labels' o.events (λ e c. (let b : e < k = o.below e c in kept.marks e (omega arith))) in
      record {
        events = o.events;
        verb = o.verb;
        on = o.on;
        name = o.name ∙ ap (λ z. new_name (z + k)) (sym kept.first);
        some = o.some;
        few = subst (λ fm. length o.events ≤ (limits fm).events) (sym kept.format) o.few;
        once = o.once;
        below = o.below;
        leaves = λ x. (λ c. (s x).0 ((o.leaves x).0 (subst (λ z. Contains z x) (kept.marks k h) c)), λ r. subst (λ z. Contains z x) (sym (kept.marks k h)) ((o.leaves x).1 ((s x).1 r)));
        noted = kept.merges (o.events, k) o.noted;
      }

  pub named_stays : (q k : ℕ) (v : Verb) (o : List ℕ) → slice_get m.lines q ≡ Some (new_line (m.first + k) v o) → slice_get m'.lines q ≡ Some (new_line (m'.first + k) v o)
  named_stays q k v o at = kept.lines q _ at ∙ ap (λ z. Some (new_line (z + k) v o)) (sym kept.first)

  pub waits_stay : (q : ℕ) (on : List ℕ) → q < length m.lines → Waits labels q on (Leaf labels q) → Waits labels' q on (Leaf labels' q)
  waits_stay q on h w =
      let s = leaves_same labels labels' on (λ e c. (let b : e < q = w.below e c in kept.marks e (omega arith))) in
      record {
        below = w.below;
        once = w.once;
        leaves = λ x. (λ c. (s x).0 ((w.leaves x).0 (subst (λ z. Contains z x) (kept.marks q h) c)), λ r. subst (λ z. Contains z x) (sym (kept.marks q h)) ((w.leaves x).1 ((s x).1 r)));
      }

  abbrev pub section_stays : (q : ℕ) → IsSection f commute n m labels q → IsSection f commute n' m' labels' q
  section_stays q s =
      let end : q + 3 < length m.lines = slice_get_within m.lines (q + 3) _ s.release in
      record {
        line = s.line;
        below = (let b : s.line < n = s.below in omega arith);
        contended = s.contended;
        on = s.on;
        acquire = named_stays q q _ s.on s.acquire;
        sum = kept.lines (q + 1) _ s.sum;
        merge = named_stays (q + 2) (q + 2) _ [] s.merge;
        release = named_stays (q + 3) (q + 3) _ ((q + 2) ∷ []) s.release;
        place = kept.places s.line s.below ∙ s.place;
        waits = waits_stay q s.on (omega arith) s.waits;
        few = s.few;
        merge_label = kept.marks (q + 2) (omega arith) ∙ s.merge_label;
        release_label = kept.marks (q + 3) end ∙ s.release_label;
      }

  pub each_stays : (guards guards' : ℕ) → guards ≤ guards' → (k : ℕ) (l : Line) → k < length m.lines → Each f commute n m labels guards k l → Each f commute n' m' labels' guards' k l
  each_stays guards guards' g k l h (inl o) = inl (own_stays k l h o)
  each_stays guards guards' g k l h (inr (inl o)) = inr (inl (merge_stays k l h o))
  each_stays guards guards' g k l h (inr (inr s)) = inr (inr ((let a : 0 < guards = s.0 in omega arith), s.1, section_stays s.1 s.2, s.3))

  pub own_at_stays : (i : ℕ) → i < n → OwnAt f m labels i → OwnAt f m' labels' i
  own_at_stays i h o =
      let b : place_in m i < length m.lines = slice_get_within m.lines (place_in m i) o.0 o.1 in
      let p : place_in m' i ≡ place_in m i = kept.places i h in
      (o.0, ap (slice_get m'.lines) p ∙ kept.lines (place_in m i) o.0 o.1, o.2, o.3, ap (λ z. slice_index_or labels' z []) p ∙ (kept.marks (place_in m i) b ∙ o.4))

  pub merged_stays : (es : List ℕ) (e : ℕ) → MergedAt m es e → MergedAt m' es e
  merged_stays es e r = (r.0, kept.lines e r.0 r.1, r.2)

  pub held_stays : (i : ℕ) → HeldAt f commute n m labels i → HeldAt f commute n' m' labels' i
  held_stays i r = (r.0, section_stays r.0 r.1, r.2)

module _ (f : GraphValue) (commute : Bool) (flow : IsFlow f) (n : ℕ) (within : n ≤ length f.lines) where
  pub own_uses : (i : ℕ) → i < n → uses_columns (line_in f i).verb ≡ true
  own_uses i h = flow.uses i (line_in f i) (slice_get-get_or f.lines i no_line (omega arith))

  -- what stands in a section beside its line is no merge
  no_merge : (m : Made) (labels : List (List ℕ)) (guards k : ℕ) (l : Line) (es : List ℕ) → slice_get m.lines k ≡ Some l → l.verb ≡ Merge es → InSection f commute n m labels guards k → ⊥
  no_merge m labels guards k l es at is r = elim r.3 [
    | inl a ↦ by _ (ap (slice_get m.lines) a ∙ (r.2).acquire) refl
    | inr (inl b) ↦ by _ (ap (slice_get m.lines) b ∙ (r.2).merge) refl
    | inr (inr c) ↦ by _ (ap (slice_get m.lines) c ∙ (r.2).release) refl
  ]
    where
      by : (x : Line) → slice_get m.lines k ≡ Some x → is_merge x.verb ≡ false → ⊥
      by x there fails = true≢false (sym (ap is_merge is) ∙ (ap (λ (z : Line). is_merge z.verb) (same_Some l x (sym at ∙ there)) ∙ fails))

  -- a merge more
  module _ (m : Made) (labels : List (List ℕ)) (st : Standing f commute n m labels) (es : List ℕ) (some : 0 < length es) (few : length es ≤ most_merged m) (once : repeats nat_eq es ≡ false) (below : (e : ℕ) → Contains es e → e < length m.lines) where
    abbrev label : List ℕ
    label = flat_map (λ e. slice_index_or labels e []) es

    abbrev labels_more : List (List ℕ)
    labels_more = labels ++ label ∷ []

    kept : (k : ℕ) → k < length m.lines → slice_index_or labels_more k [] ≡ slice_index_or labels k []
    kept k h = let l : length labels ≡ length m.lines = st.labelled in at_left labels label [] k (omega arith)

    new_label : slice_index_or labels_more (length m.lines) [] ≡ label
    new_label = ap (λ z. slice_index_or labels_more z []) (sym st.labelled) ∙ at_end labels label []

    all_kept : Kept n m (with_merge es m) labels labels_more
    all_kept = record {
      lines = λ k l at. got_left m.lines (merge_line (m.first + length m.lines) es) k (slice_get_within m.lines k l at) ∙ at;
      marks = kept;
      places = λ i h. refl;
      first = refl;
      format = refl;
      merges = λ x c. Contains-append_left m.merges ((es, length m.lines) ∷ []) x c;
    }

    merge_new : IsMerge (with_merge es m) labels_more (length m.lines) (merge_line (m.first + length m.lines) es)
    merge_new =
        let s = leaves_same labels labels_more es (λ e c. kept e (below e c)) in
        record {
          events = es;
          verb = refl;
          on = refl;
          name = refl;
          some = some;
          few = few;
          once = once;
          below = below;
          leaves = λ x. (λ c. (s x).0 ((flat_leaf labels es x).0 (subst (λ z. Contains z x) new_label c)), λ r. subst (λ z. Contains z x) (sym new_label) ((flat_leaf labels es x).1 ((s x).1 r)));
          noted = Contains-append_right m.merges ((es, length m.lines) ∷ []) (es, length m.lines) (contains_here (es, length m.lines) []);
        }

    merge_stands : Standing f commute n (with_merge es m) labels_more
    merge_stands =
        let new : Line = merge_line (m.first + length m.lines) es in
        let count : length (m.lines ++ new ∷ []) ≡ length m.lines + 1 = length-append m.lines (new ∷ []) in
        let marks : length labels_more ≡ length labels + 1 = length-append labels (label ∷ []) in
        let more : length (m.merges ++ (es, length m.lines) ∷ []) ≡ length m.merges + 1 = length-append m.merges ((es, length m.lines) ∷ []) in
        record {
          guards = st.guards;
          format = st.format;
          labelled = marks ∙ (ap (λ z. z + 1) st.labelled ∙ sym count);
          places = st.places;
          tally = (let t : length m.lines ≡ n + length m.merges + st.guards = st.tally in omega arith);
          rises = st.rises;
          own = λ i h. own_at_stays f commute n n (omega arith) m (with_merge es m) labels labels_more all_kept i h (st.own i h);
          each = λ k l at. elim (got_cases m.lines new k l at) [
            | inl old ↦ each_stays f commute n n (omega arith) m (with_merge es m) labels labels_more all_kept st.guards st.guards (omega arith) k l old.0 (st.each k l old.1)
            | inr now ↦ inr (inl (subst (λ z. IsMerge (with_merge es m) labels_more z l) (sym now.0) (subst (λ z. IsMerge (with_merge es m) labels_more (length m.lines) z) now.1 merge_new)))
          ];
          merged = λ ds e c. elim (Contains-append_cases m.merges ((es, length m.lines) ∷ []) (ds, e) c) [
            | inl old ↦ merged_stays f commute n n (omega arith) m (with_merge es m) labels labels_more all_kept ds e (st.merged ds e old)
            | inr now ↦ elim (contains_cases (es, length m.lines) [] (ds, e) now) [
              | inl same ↦ (new, subst (λ z. slice_get (m.lines ++ new ∷ []) z ≡ Some new) (ap (λ (x : List ℕ × ℕ). x.1) same) (got_end m.lines new), ap (λ (x : List ℕ × ℕ). Merge x.0) same)
              | inr none ↦ absurd (contains_none (ds, e) none)
            ]
          ];
          held = λ i h c. held_stays f commute n n (omega arith) m (with_merge es m) labels labels_more all_kept i (st.held i h c);
        }

    abbrev merge_grows : Grown f commute n m labels (with_merge es m)
    merge_grows = record {
      labels' = labels_more;
      stands = merge_stands;
      longer = (let count : length (m.lines ++ merge_line (m.first + length m.lines) es ∷ []) ≡ length m.lines + 1 = length-append m.lines (merge_line (m.first + length m.lines) es ∷ []) in omega arith);
      places = refl;
      first = refl;
      same = kept;
    }

    -- a merge for these events
    abbrev MergeOf : Made × ℕ → Type 0
    MergeOf r = (g : Grown f commute n m labels r.0) × (r.1 < length r.0.lines) × ((x : ℕ) → LeafOf labels es x ↔ Leaf g.labels' r.1 x)

    found_is : (x : List ℕ × ℕ) → Contains m.merges x → x.0 ≡ es → MergeOf (m, x.1)
    found_is x c is =
        let l = st.merged x.0 x.1 c in (
          grown_none f commute n m labels st,
          slice_get_within m.lines x.1 l.0 l.1,
          elim (st.each x.1 l.0 l.1) [
            | inl o ↦ absurd (true≢false (sym (own_uses o.line o.below) ∙ ap uses_columns (sym o.verb ∙ l.2)))
            | inr (inr o) ↦ absurd (no_merge m labels st.guards x.1 l.0 x.0 l.1 l.2 o)
            | inr (inl o) ↦ (let same : o.events ≡ es = merge_same o.events x.0 (sym o.verb ∙ l.2) ∙ is in λ y. (
              λ r. (o.leaves y).1 (subst (λ z. LeafOf labels z y) (sym same) r),
              λ r. subst (λ z. LeafOf labels z y) same ((o.leaves y).0 r),
            ))
          ],
        )

    merge_by_is : (o : Option (List ℕ × ℕ)) → find (λ (x : List ℕ × ℕ). bytes_eq x.0 es) m.merges ≡ o → MergeOf (merge_by o es m)
    merge_by_is (Some x) h = let r = find_is (λ (x : List ℕ × ℕ). bytes_eq x.0 es) m.merges x h in found_is x r.0 ((bytes_eq-Decides x.0 es).0 r.1)
    merge_by_is None h = (
      merge_grows,
      (let count : length (m.lines ++ merge_line (m.first + length m.lines) es ∷ []) ≡ length m.lines + 1 = length-append m.lines (merge_line (m.first + length m.lines) es ∷ []) in omega arith),
      λ x. (λ r. subst (λ z. Contains z x) (sym new_label) ((flat_leaf labels es x).1 r), λ c. (flat_leaf labels es x).0 (subst (λ z. Contains z x) new_label c)),
    )

    pub merge_for_is : MergeOf (merge_for es m)
    merge_for_is = merge_by_is (find (λ (x : List ℕ × ℕ). bytes_eq x.0 es) m.merges) refl

  -- one event for these
  abbrev pub EventOf : Made → List (List ℕ) → List ℕ → Made × Option ℕ → Type 0
  EventOf m labels es r = (g : Grown f commute n m labels r.0) × Waits g.labels' (length r.0.lines) (option_to_list r.1) (λ x. LeafOf labels es x)

  length_take : (k : ℕ) (xs : List ℕ) → length (take k xs) ≤ k
  length_take zero xs = omega arith
  length_take (suc k) [] = omega arith
  length_take (suc k) (x ∷ xs) = let l : length (take k xs) ≤ k = length_take k xs in omega arith

  some_front : (k : ℕ) (e : ℕ) (es : List ℕ) → 0 < k → 0 < length (take k (e ∷ es))
  some_front zero e es h = absurd (omega arith)
  some_front (suc k) e es h = omega arith

  waits_none : (labels : List (List ℕ)) (k : ℕ) → Waits labels k [] (λ x. LeafOf labels [] x)
  waits_none labels k = record { below = λ e c. absurd (contains_none e c); once = refl; leaves = λ x. (λ r. r, λ r. r) }

  pub event_for_is : (fuel : ℕ) (es : List ℕ) (m : Made) (labels : List (List ℕ)) → Standing f commute n m labels → length es ≤ fuel → repeats nat_eq es ≡ false → ((e : ℕ) → Contains es e → e < length m.lines) → EventOf m labels es (event_for fuel es m)
  event_for_is zero [] m labels st h once below = (grown_none f commute n m labels st, waits_none labels (length m.lines))
  event_for_is zero (e ∷ es) m labels st h once below = absurd (let g : suc (length es) ≤ 0 = h in omega arith)
  event_for_is (suc fuel) [] m labels st h once below = (grown_none f commute n m labels st, waits_none labels (length m.lines))
  event_for_is (suc fuel) (e ∷ []) m labels st h once below = (grown_none f commute n m labels st, record { below = below; once = once; leaves = λ x. (λ r. r, λ r. r) })
  event_for_is (suc fuel) (e ∷ d ∷ es) m labels st h once below =
      let all : List ℕ = e ∷ d ∷ es in
      let most : ℕ = most_merged m in
      let two_merged : 2 ≤ most = some_merged m.format in
      let front : List ℕ = take (most_merged m) (e ∷ d ∷ es) in
      let rest : List ℕ = drop (most_merged m) (e ∷ d ∷ es) in
      let one = merge_for_is m labels st front (some_front most e (d ∷ es) (omega arith)) (length_take (most_merged m) (e ∷ d ∷ es)) (take_once (most_merged m) (e ∷ d ∷ es) once) (λ x c. below x (take_within (most_merged m) (e ∷ d ∷ es) x c)) in
      let g = one.0 in
      let made = merge_for front m in
      let longer : length m.lines ≤ length made.0.lines = g.longer in
      let shorter : length rest + 2 ≤ length all = (let l : length rest ≡ length all - most = length-drop most (e ∷ d ∷ es) in let s : length all ≡ suc (suc (length es)) = refl in omega arith) in
      let grow : length (with_event rest made.1) ≤ length rest + 1 = length_with rest made.1 in
      let two = event_for_is fuel (with_event rest made.1) made.0 g.labels' g.stands (let b : length all ≤ suc fuel = h in omega arith) (with_event_once rest made.1 (drop_once (most_merged m) (e ∷ d ∷ es) once)) (λ x c. elim (with_event_cases rest made.1 x c) [
        | inl old ↦ (let b : x < length m.lines = below x (drop_within (most_merged m) (e ∷ d ∷ es) x old) in omega arith)
        | inr new ↦ subst (λ z. z < length made.0.lines) (sym new) one.1
      ]) in
      let kept : (x : ℕ) → Contains rest x → slice_index_or g.labels' x [] ≡ slice_index_or labels x [] = λ x c. g.same x (below x (drop_within (most_merged m) (e ∷ d ∷ es) x c)) in (
        grown_more f commute n m labels made.0 (event_for fuel (with_event rest made.1) made.0).0 g two.0,
        waits_iff (two.0).labels' (length (event_for fuel (with_event rest made.1) made.0).0.lines) (option_to_list (event_for fuel (with_event rest made.1) made.0).1) (λ x. LeafOf g.labels' (with_event rest made.1) x) (λ x. LeafOf labels (e ∷ d ∷ es) x) (λ x. (
          λ r. elim (with_event_cases rest made.1 r.0 r.1) [
            | inl old ↦ (r.0, drop_within (most_merged m) (e ∷ d ∷ es) r.0 old, subst (λ z. Contains z x) (kept r.0 old) r.2)
            | inr new ↦ (let s = (one.2 x).1 (subst (λ z. Leaf g.labels' z x) new r.2) in (s.0, take_within (most_merged m) (e ∷ d ∷ es) s.0 s.1, s.2))
          ],
          λ r. elim (split_cases (most_merged m) (e ∷ d ∷ es) r.0 r.1) [
            | inl a ↦ (made.1, new_in rest made.1, (one.2 x).0 (r.0, a, r.2))
            | inr b ↦ (r.0, old_in rest made.1 r.0 b, subst (λ z. Contains z x) (sym (kept r.0 b)) r.2)
          ],
        )) two.1,
      )

  -- the places of lines of the flow, and what leads to them
  pub place_below : (m : Made) (labels : List (List ℕ)) → Standing f commute n m labels → (i : ℕ) → i < n → place_in m i < length m.lines
  place_below m labels st i h = let o = st.own i h in slice_get_within m.lines (place_in m i) o.0 o.1

  places_leaf : (m : Made) (labels : List (List ℕ)) → Standing f commute n m labels → (p : List ℕ) → ((i : ℕ) → Contains p i → i < n) → (x : ℕ) → LeafOf labels (map (place_in m) p) x ↔ Contains p x
  places_leaf m labels st p within_p x = (
    (λ r. (
        let i = map_contains (place_in m) p r.0 r.1 in
        let is : slice_index_or labels r.0 [] ≡ i.0 ∷ [] = ap (λ z. slice_index_or labels z []) (sym i.2) ∙ (st.own i.0 (within_p i.0 i.1)).4 in
        elim (contains_cases i.0 [] x (subst (λ z. Contains z x) is r.2)) [ inl same ↦ subst (λ z. Contains p z) same i.1 | inr none ↦ absurd (contains_none x none) ])),
    (λ c. (place_in m x, contains_map (place_in m) p x c, subst (λ z. Contains z x) (sym (st.own x (within_p x c)).4) (contains_here x []))),
  )

  places_once : (m : Made) (labels : List (List ℕ)) → Standing f commute n m labels → (p : List ℕ) → Falls p → ((i : ℕ) → Contains p i → i < n) → repeats nat_eq (map (place_in m) p) ≡ false
  places_once m labels st p falls within_p = falls_differ (place_in m) n p st.rises within_p falls

  -- lines of the flow that fall
  pub record IsPart (p : List ℕ) : Type 0 where
    pub falls : Falls p
    pub below : (i : ℕ) → Contains p i → i < n

  part_event : (p : List ℕ) (m : Made) (labels : List (List ℕ)) → Standing f commute n m labels → IsPart p → (let r = event_for (length p) (map (place_in m) p) m in (g : Grown f commute n m labels r.0) × Waits g.labels' (length r.0.lines) (option_to_list r.1) (λ x. Contains p x))
  part_event p m labels st h =
      let size : length (map (place_in m) p) ≡ length p = length-map p (place_in m) in
      let e = event_for_is (length p) (map (place_in m) p) m labels st (omega arith) (places_once m labels st p h.falls h.below) (λ x c. (let i = map_contains (place_in m) p x c in subst (λ z. z < length m.lines) i.2 (place_below m labels st i.0 (h.below i.0 i.1)))) in
      (e.0, waits_iff (e.0).labels' _ _ (λ x. LeafOf labels (map (place_in m) p) x) (λ x. Contains p x) (places_leaf m labels st p h.below) e.1)

  -- events, and what leads to them
  abbrev pub EventsOf : Made → List (List ℕ) → (ℕ → Type 0) → Made × List ℕ → Type 0
  EventsOf m labels P r = (g : Grown f commute n m labels r.0) × (repeats nat_eq r.1 ≡ false) × ((e : ℕ) → Contains r.1 e → e < length r.0.lines) × ((x : ℕ) → LeafOf g.labels' r.1 x ↔ P x)

  -- an event more
  pub record EventMore (es : List ℕ) (labels : List (List ℕ)) (count : ℕ) (o : Option ℕ) (p : List ℕ) : Type 0 where
    pub once : repeats nat_eq (option_map_or (with_event es) o es) ≡ false
    pub below : (e : ℕ) → Contains (option_map_or (with_event es) o es) e → e < count
    pub leaves : (x : ℕ) → LeafOf labels (option_map_or (with_event es) o es) x ↔ (LeafOf labels es x ⊎ Contains p x)

  event_more : (es : List ℕ) (labels : List (List ℕ)) (count : ℕ) (o : Option ℕ) (p : List ℕ) → repeats nat_eq es ≡ false → ((e : ℕ) → Contains es e → e < count) → Waits labels count (option_to_list o) (λ x. Contains p x) → EventMore es labels count o p
  event_more es labels count None p once below w = record {
    once = once;
    below = below;
    leaves = λ x. (λ r. inl r, λ r. elim r [ inl a ↦ a | inr c ↦ (let l = (w.leaves x).0 c in absurd (contains_none l.0 l.1)) ]);
  }
  event_more es labels count (Some e) p once below w = record {
    once = with_event_once es e once;
    below = λ x c. elim (with_event_cases es e x c) [ inl old ↦ below x old | inr new ↦ subst (λ z. z < count) (sym new) (w.below e (contains_here e [])) ];
    leaves = λ x. (
      λ r. elim (with_event_cases es e r.0 r.1) [ inl old ↦ inl (r.0, old, r.2) | inr new ↦ inr ((w.leaves x).1 (e, contains_here e [], subst (λ z. Leaf labels z x) new r.2)) ],
      λ r. elim r [ inl a ↦ (a.0, old_in es e a.0 a.1, a.2) | inr c ↦ (let l = (w.leaves x).0 c in elim (contains_cases e [] l.0 l.1) [ inl same ↦ (e, new_in es e, subst (λ z. Leaf labels z x) (sym same) l.2) | inr none ↦ absurd (contains_none l.0 none) ]) ],
    );
  }

  events_for_is : (es : List ℕ) (ps : List (List ℕ)) (m : Made) (labels : List (List ℕ)) → Standing f commute n m labels → repeats nat_eq es ≡ false → ((e : ℕ) → Contains es e → e < length m.lines) → ((p : List ℕ) → Contains ps p → IsPart p) →
      EventsOf m labels (λ x. LeafOf labels es x ⊎ Contains (flat_map (λ p. p) ps) x) (events_for es ps m)
  events_for_is es [] m labels st once below parts = (grown_none f commute n m labels st, once, below, λ x. (λ r. inl r, λ r. elim r [ inl a ↦ a | inr c ↦ absurd (contains_none x c) ]))
  events_for_is es (p ∷ ps) m labels st once below parts =
      let one = part_event p m labels st (parts p (contains_here p ps)) in
      let made = event_for (length p) (map (place_in m) p) m in
      let g = one.0 in
      let longer : length m.lines ≤ length made.0.lines = g.longer in
      let more = event_more es g.labels' (length made.0.lines) made.1 p once (λ e c. (let b : e < length m.lines = below e c in omega arith)) one.1 in
      let two = events_for_is (option_map_or (with_event es) made.1 es) ps made.0 g.labels' g.stands more.once more.below (λ q c. parts q (contains_there p ps q c)) in
      let s = leaves_same labels g.labels' es (λ e c. g.same e (below e c)) in (
        grown_more f commute n m labels made.0 _ g two.0,
        two.1,
        two.2,
        λ x. (
          λ r. elim ((two.3 x).0 r) [
            | inl a ↦ elim ((more.leaves x).0 a) [ inl b ↦ inl ((s x).1 b) | inr c ↦ inr (Contains-append_left p (flat_map (λ p. p) ps) x c) ]
            | inr c ↦ inr (Contains-append_right p (flat_map (λ p. p) ps) x c)
          ],
          λ r. (two.3 x).1 (elim r [
            | inl a ↦ inl ((more.leaves x).1 (inl ((s x).0 a)))
            | inr c ↦ elim (Contains-append_cases p (flat_map (λ p. p) ps) x c) [ inl own ↦ inl ((more.leaves x).1 (inr own)) | inr rest ↦ inr rest ]
          ]),
        ),
      )

  few_option : (o : Option ℕ) → length (option_to_list o) ≤ 1
  few_option None = omega arith
  few_option (Some e) = omega arith

  -- events behind `on`, not too many, and what leads to them
  abbrev pub OnOf : Made → List (List ℕ) → (ℕ → Type 0) → Made × List ℕ → Type 0
  OnOf m labels P r = (g : Grown f commute n m labels r.0) × Waits g.labels' (length r.0.lines) r.1 P × (length r.1 ≤ most_on f.format)

  on_is : (es : List ℕ) (m : Made) (labels : List (List ℕ)) → Standing f commute n m labels → repeats nat_eq es ≡ false → ((e : ℕ) → Contains es e → e < length m.lines) → (P : ℕ → Type 0) → ((x : ℕ) → LeafOf labels es x ↔ P x) → (b : Bool) → nat_le (length es) (most_on m.format) ≡ b →
      OnOf m labels P (on_by b es m)
  on_is es m labels st once below P leaves true few = (
    grown_none f commute n m labels st,
    record { below = below; once = once; leaves = λ x. ((leaves x).1, (leaves x).0) },
    subst (λ fm. length es ≤ most_on fm) st.format (leb-true (length es) (most_on m.format) few),
  )
  on_is es m labels st once below P leaves false many =
      let two = event_for_is (length es) es m labels st (omega arith) once below in (
        two.0,
        waits_iff (two.0).labels' _ _ (λ x. LeafOf labels es x) P leaves two.1,
        (let a : length (option_to_list (event_for (length es) es m).1) ≤ 1 = few_option (event_for (length es) es m).1 in let b : 1 ≤ most_on f.format = one_on f.format in omega arith),
      )

  -- what a line with these sources waits for
  pub wait_for_is : (p : Parts) (m : Made) (labels : List (List ℕ)) → Standing f commute n m labels → IsPart p.small → ((q : List ℕ) → Contains p.large q → IsPart q) →
      OnOf m labels (λ x. Contains (all_of p) x) (wait_for p m)
  wait_for_is p m labels st small large =
      let one = events_for_is (map (place_in m) p.small) p.large m labels st (places_once m labels st p.small small.falls small.below) (λ x c. (let i = map_contains (place_in m) p.small x c in subst (λ z. z < length m.lines) i.2 (place_below m labels st i.0 (small.below i.0 i.1)))) large in
      let made = events_for (map (place_in m) p.small) p.large m in
      let two = on_is made.1 made.0 (one.0).labels' (one.0).stands one.1 one.2 (λ x. Contains (all_of p) x) (λ x. (
        λ r. elim ((one.3 x).0 r) [
          | inl a ↦ Contains-append_left p.small (flat_map (λ q. q) p.large) x ((places_leaf m labels st p.small small.below x).0 a)
          | inr c ↦ Contains-append_right p.small (flat_map (λ q. q) p.large) x c
        ],
        λ c. (one.3 x).1 (elim (Contains-append_cases p.small (flat_map (λ q. q) p.large) x c) [
          | inl a ↦ inl ((places_leaf m labels st p.small small.below x).1 a)
          | inr b ↦ inr b
        ]),
      )) (nat_le (length made.1) (most_on made.0.format)) refl in (
        grown_more f commute n m labels made.0 _ one.0 two.0,
        two.1,
        two.2,
      )
