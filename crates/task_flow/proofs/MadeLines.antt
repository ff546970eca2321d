-- What stands after each line of a flow.
use Rattle.std.proofs.Common.{◌≡◌, ℕ, zero, suc, ◌+◌, ◌<◌, ◌≤◌, Bool, true, false, cond, not, inl, inr, List, [], ◌∷◌, ◌++◌, length, map, refl, sym, ◌∙◌, ap, subst, length-append, arith}
use Rattle.std.specs.Prelude.{Contains, filter, flat_map, Option, Some, None, slice_get, slice_index_or}
use Rattle.std.specs.List.{list_any}
use Rattle.std.proofs.lemmas.Bool.{true≢false, cases_lt}
use Rattle.std.proofs.lemmas.Option.{none-some, slice_get_within}
use Rattle.basics.proofs.ListFacts.{contains_cases, contains_none, contains_here, filter_contains, map_contains}
use Rattle.graph_terms.specs.declared.verb.Line.{Line}
use Rattle.graph_terms.specs.declared.verb.Verb.TheVariants.{MergeIgnore, Acquire, Release}
use Rattle.graph_terms.specs.Graph.{GraphValue}
use Rattle.graph_terms.specs.Access.{accesses}
use Rattle.flow_order.specs.Flow.{IsFlow}
use Rattle.flow_order.specs.Meaning.{accesses_tie}
use Rattle.task_flow.specs.Construction.{Made, is_contended, lock_for, lock_of, place_in, most_on, wait_for, with_flow_line, in_section, with_line_by, line_in, made_after}
use Rattle.flow_order.specs.SourceParts.{has, is_large, down_from, tied_by, least, parts_of, sources_after}
use Rattle.flow_order.proofs.Lists.{falls_down, falls_filter, falls_least, least_within, down_below}
use Rattle.basics.proofs.ListParts.{got_left, got_end, at_left, at_end, got_cases}
use Rattle.flow_order.proofs.SourceFacts.{sources_of}
use Rattle.task_flow.proofs.Standing.{Leaf, Waits, IsOwn, IsSection, Each, OwnAt, Standing, Kept, one_on, new_line, flow_line, dead, leaves_same, flat_leaf, IsPart, place_below, wait_for_is, waits_same, each_stays, own_at_stays, merged_stays, held_stays}

-- the next line of the flow, at the end
module _ (f : GraphValue) (commute : Bool) (flow : IsFlow f) (n : ℕ) (next : n < length f.lines) (m : Made) (on : List ℕ) (labels : List (List ℕ)) (st : Standing f commute n m labels) (w : Waits labels (length m.lines) on (λ x. Contains (sources_of f commute n) x)) (few : length on ≤ most_on f.format) where
  below_end : (i : ℕ) → i < n → place_in m i < length m.lines
  below_end i h = place_below f commute flow n (omega arith) m labels st i h

  -- wherever it is placed behind what stood
  module _ (made : Made) (labels' : List (List ℕ)) (kept : Kept n m made labels labels') (at : ℕ) (behind : length m.lines ≤ at) (new_place : place_in made n ≡ at) (l : Line) (there : slice_get made.lines at ≡ Some l) (name : l.name ≡ (line_in f n).name) (verb : l.verb ≡ (line_in f n).verb) (label : slice_index_or labels' at [] ≡ n ∷ []) where
    rises : (i j : ℕ) → i < j → j < suc n → place_in made i < place_in made j
    rises i j h g = elim (cases_lt j n) [
      | inl below ↦ (let a : place_in made i ≡ place_in m i = kept.places i (omega arith) in let b : place_in made j ≡ place_in m j = kept.places j below in let c : place_in m i < place_in m j = st.rises i j h below in omega arith)
      | inr above ↦ (
          let same : j ≡ n = omega arith in
          let a : place_in made i ≡ place_in m i = kept.places i (omega arith) in
          let b : place_in made j ≡ at = ap (place_in made) same ∙ new_place in
          let c : place_in m i < length m.lines = below_end i (omega arith) in omega arith)
    ]

    own_at : (i : ℕ) → i < suc n → OwnAt f made labels' i
    own_at i h = elim (cases_lt i n) [
      | inl below ↦ own_at_stays f commute n (suc n) (omega arith) m made labels labels' kept i below (st.own i below)
      | inr above ↦ subst (OwnAt f made labels') (let e : n ≡ i = omega arith in e) (l, ap (slice_get made.lines) new_place ∙ there, name, verb, ap (λ z. slice_index_or labels' z []) new_place ∙ label)
    ]

    new_own : Waits labels' at l.on (λ x. Contains (sources_of f commute n) x) → length l.on ≤ most_on f.format → IsOwn f commute (suc n) made labels' at l
    new_own waits few_on = record { line = n; below = omega arith; place = new_place; name = name; verb = verb; label = label; waits = waits; few = few_on }

  -- by itself
  module _ (free : is_contended f commute n ≡ false) where
    abbrev new : Line
    new = flow_line f n on

    abbrev made : Made
    made = with_flow_line (line_in f n) (m, on)

    abbrev labels_more : List (List ℕ)
    labels_more = labels ++ (n ∷ []) ∷ []

    line_kept : Kept n m made labels labels_more
    line_kept = record {
      lines = λ k l at. got_left m.lines new k (slice_get_within m.lines k l at) ∙ at;
      marks = λ k h. (let l : length labels ≡ length m.lines = st.labelled in at_left labels (n ∷ []) [] k (omega arith));
      places = λ i h. (let l : length m.places ≡ n = st.places in at_left m.places (length m.lines) 0 i (omega arith));
      first = refl;
      format = refl;
      merges = λ x c. c;
    }

    new_place : place_in made n ≡ length m.lines
    new_place = ap (λ z. slice_index_or (m.places ++ length m.lines ∷ []) z 0) (sym st.places) ∙ at_end m.places (length m.lines) 0

    new_label : slice_index_or labels_more (length m.lines) [] ≡ n ∷ []
    new_label = ap (λ z. slice_index_or labels_more z []) (sym st.labelled) ∙ at_end labels (n ∷ []) []

    pub flow_line_stands : Standing f commute (suc n) made labels_more
    flow_line_stands =
        let count : length (m.lines ++ new ∷ []) ≡ length m.lines + 1 = length-append m.lines (new ∷ []) in
        let marks : length labels_more ≡ length labels + 1 = length-append labels ((n ∷ []) ∷ []) in
        let more : length (m.places ++ length m.lines ∷ []) ≡ length m.places + 1 = length-append m.places (length m.lines ∷ []) in
        let own_new : IsOwn f commute (suc n) made labels_more (length m.lines) new = new_own made labels_more line_kept (length m.lines) (omega arith) new_place new (got_end m.lines new) refl refl new_label (waits_same labels labels_more (length m.lines) (length m.lines) on _ (omega arith) line_kept.marks w) few in
        record {
          guards = st.guards;
          format = st.format;
          labelled = marks ∙ (ap (λ z. z + 1) st.labelled ∙ sym count);
          places = (let p : length m.places ≡ n = st.places in omega arith);
          tally = (let t : length m.lines ≡ n + length m.merges + st.guards = st.tally in omega arith);
          rises = rises made labels_more line_kept (length m.lines) (omega arith) new_place new (got_end m.lines new) refl refl new_label;
          own = own_at made labels_more line_kept (length m.lines) (omega arith) new_place new (got_end m.lines new) refl refl new_label;
          each = λ k l at. elim (got_cases m.lines new k l at) [
            | inl old ↦ each_stays f commute n (suc n) (omega arith) m made labels labels_more line_kept st.guards st.guards (omega arith) k l old.0 (st.each k l old.1)
            | inr now ↦ inl (subst (λ z. IsOwn f commute (suc n) made labels_more z l) (sym now.0) (subst (λ z. IsOwn f commute (suc n) made labels_more (length m.lines) z) now.1 own_new))
          ];
          merged = λ es e c. merged_stays f commute n (suc n) (omega arith) m made labels labels_more line_kept es e (st.merged es e c);
          held = λ i h c. elim (cases_lt i n) [
            | inl below ↦ held_stays f commute n (suc n) (omega arith) m made labels labels_more line_kept i (st.held i below c)
            | inr above ↦ absurd (true≢false (sym c ∙ (ap (is_contended f commute) (let e : i ≡ n = omega arith in e) ∙ free)))
          ];
        }

  -- in a section
  module _ (contended : is_contended f commute n ≡ true) where
    abbrev q : ℕ
    q = length m.lines

    abbrev acquire : Line
    acquire = new_line (m.first + length m.lines) (Acquire (lock_for f commute n) false) on

    abbrev lines1 : List Line
    lines1 = m.lines ++ acquire ∷ []

    abbrev sum : Line
    sum = flow_line f n (length m.lines ∷ [])

    abbrev lines2 : List Line
    lines2 = lines1 ++ sum ∷ []

    abbrev merge : Line
    merge = new_line (m.first + length lines2) (MergeIgnore ((length m.lines + 1) ∷ [])) []

    abbrev lines3 : List Line
    lines3 = lines2 ++ merge ∷ []

    abbrev release : Line
    release = new_line (m.first + length lines3) (Release (length m.lines)) ((length m.lines + 2) ∷ [])

    abbrev lines4 : List Line
    lines4 = lines3 ++ release ∷ []

    abbrev held : Made
    held = in_section (lock_for f commute n) (line_in f n) (m, on)

    count1 : length lines1 ≡ length m.lines + 1
    count1 = length-append m.lines (acquire ∷ [])

    count2 : length lines2 ≡ length m.lines + 2
    count2 = let a : length lines2 ≡ length lines1 + 1 = length-append lines1 (sum ∷ []) in let b : length lines1 ≡ length m.lines + 1 = count1 in omega arith

    count3 : length lines3 ≡ length m.lines + 3
    count3 = let a : length lines3 ≡ length lines2 + 1 = length-append lines2 (merge ∷ []) in let b : length lines2 ≡ length m.lines + 2 = count2 in omega arith

    count4 : length lines4 ≡ length m.lines + 4
    count4 = let a : length lines4 ≡ length lines3 + 1 = length-append lines3 (release ∷ []) in let b : length lines3 ≡ length m.lines + 3 = count3 in omega arith

    -- what leads to the acquire, by its events
    abbrev label : List ℕ
    label = flat_map (λ e. slice_index_or labels e []) on

    abbrev marks1 : List (List ℕ)
    marks1 = labels ++ label ∷ []

    abbrev marks2 : List (List ℕ)
    marks2 = marks1 ++ (n ∷ []) ∷ []

    abbrev marks3 : List (List ℕ)
    marks3 = marks2 ++ dead f n ∷ []

    abbrev marks4 : List (List ℕ)
    marks4 = marks3 ++ dead f n ∷ []

    size1 : length marks1 ≡ length m.lines + 1
    size1 = let a : length marks1 ≡ length labels + 1 = length-append labels (label ∷ []) in let b : length labels ≡ length m.lines = st.labelled in omega arith

    size2 : length marks2 ≡ length m.lines + 2
    size2 = let a : length marks2 ≡ length marks1 + 1 = length-append marks1 ((n ∷ []) ∷ []) in let b : length marks1 ≡ length m.lines + 1 = size1 in omega arith

    size3 : length marks3 ≡ length m.lines + 3
    size3 = let a : length marks3 ≡ length marks2 + 1 = length-append marks2 (dead f n ∷ []) in let b : length marks2 ≡ length m.lines + 2 = size2 in omega arith

    -- places in the longer lists
    line_at : (k : ℕ) → k < length m.lines + 3 → slice_get lines4 k ≡ slice_get lines3 k
    line_at k h = let c : length lines3 ≡ length m.lines + 3 = count3 in got_left lines3 release k (omega arith)

    line_at2 : (k : ℕ) → k < length m.lines + 2 → slice_get lines4 k ≡ slice_get lines2 k
    line_at2 k h = let c : length lines2 ≡ length m.lines + 2 = count2 in line_at k (omega arith) ∙ got_left lines2 merge k (omega arith)

    line_at1 : (k : ℕ) → k < length m.lines + 1 → slice_get lines4 k ≡ slice_get lines1 k
    line_at1 k h = let c : length lines1 ≡ length m.lines + 1 = count1 in line_at2 k (omega arith) ∙ got_left lines1 sum k (omega arith)

    mark_at : (k : ℕ) → k < length m.lines + 3 → slice_index_or marks4 k [] ≡ slice_index_or marks3 k []
    mark_at k h = let c : length marks3 ≡ length m.lines + 3 = size3 in at_left marks3 (dead f n) [] k (omega arith)

    mark_at2 : (k : ℕ) → k < length m.lines + 2 → slice_index_or marks4 k [] ≡ slice_index_or marks2 k []
    mark_at2 k h = let c : length marks2 ≡ length m.lines + 2 = size2 in mark_at k (omega arith) ∙ at_left marks2 (dead f n) [] k (omega arith)

    mark_at1 : (k : ℕ) → k < length m.lines + 1 → slice_index_or marks4 k [] ≡ slice_index_or marks1 k []
    mark_at1 k h = let c : length marks1 ≡ length m.lines + 1 = size1 in mark_at2 k (omega arith) ∙ at_left marks1 (n ∷ []) [] k (omega arith)

    held_kept : Kept n m held labels marks4
    held_kept = record {
      lines = λ k l at. (let b : k < length m.lines = slice_get_within m.lines k l at in line_at1 k (omega arith) ∙ (got_left m.lines acquire k b ∙ at));
      marks = λ k h. (let l : length labels ≡ length m.lines = st.labelled in mark_at1 k (omega arith) ∙ at_left labels label [] k (omega arith));
      places = λ i h. (let l : length m.places ≡ n = st.places in at_left m.places (length lines1) 0 i (omega arith));
      first = refl;
      format = refl;
      merges = λ x c. c;
    }

    held_place : place_in held n ≡ length m.lines + 1
    held_place = ap (λ z. slice_index_or (m.places ++ length lines1 ∷ []) z 0) (sym st.places) ∙ (at_end m.places (length lines1) 0 ∙ count1)

    at_acquire : slice_get lines4 (length m.lines) ≡ Some acquire
    at_acquire = line_at1 (length m.lines) (omega arith) ∙ got_end m.lines acquire

    at_sum : slice_get lines4 (length m.lines + 1) ≡ Some sum
    at_sum = line_at2 (length m.lines + 1) (omega arith) ∙ (ap (slice_get lines2) (sym count1) ∙ got_end lines1 sum)

    at_merge : slice_get lines4 (length m.lines + 2) ≡ Some (new_line (m.first + (length m.lines + 2)) (MergeIgnore ((length m.lines + 1) ∷ [])) [])
    at_merge = line_at (length m.lines + 2) (omega arith) ∙ (ap (slice_get lines3) (sym count2) ∙ (got_end lines2 merge ∙ ap (λ z. Some (new_line (m.first + z) (MergeIgnore ((length m.lines + 1) ∷ [])) [])) count2))

    at_release : slice_get lines4 (length m.lines + 3) ≡ Some (new_line (m.first + (length m.lines + 3)) (Release (length m.lines)) ((length m.lines + 2) ∷ []))
    at_release = ap (slice_get lines4) (sym count3) ∙ (got_end lines3 release ∙ ap (λ z. Some (new_line (m.first + z) (Release (length m.lines)) ((length m.lines + 2) ∷ []))) count3)

    mark_acquire : slice_index_or marks4 (length m.lines) [] ≡ label
    mark_acquire = mark_at1 (length m.lines) (omega arith) ∙ (ap (λ z. slice_index_or marks1 z []) (sym st.labelled) ∙ at_end labels label [])

    mark_sum : slice_index_or marks4 (length m.lines + 1) [] ≡ n ∷ []
    mark_sum = mark_at2 (length m.lines + 1) (omega arith) ∙ (ap (λ z. slice_index_or marks2 z []) (sym size1) ∙ at_end marks1 (n ∷ []) [])

    mark_merge : slice_index_or marks4 (length m.lines + 2) [] ≡ dead f n
    mark_merge = mark_at (length m.lines + 2) (omega arith) ∙ (ap (λ z. slice_index_or marks3 z []) (sym size2) ∙ at_end marks2 (dead f n) [])

    mark_release : slice_index_or marks4 (length m.lines + 3) [] ≡ dead f n
    mark_release = ap (λ z. slice_index_or marks4 z []) (sym size3) ∙ at_end marks3 (dead f n) []

    -- the acquire waits for what the line waits for, and the line for the acquire
    acquire_waits : Waits marks4 (length m.lines) on (Leaf marks4 (length m.lines))
    acquire_waits =
        let s = leaves_same labels marks4 on (λ e c. held_kept.marks e (w.below e c)) in
        record {
          below = w.below;
          once = w.once;
          leaves = λ x. (
            λ c. (s x).0 ((flat_leaf labels on x).0 (subst (λ z. Contains z x) mark_acquire c)),
            λ r. subst (λ z. Contains z x) (sym mark_acquire) ((flat_leaf labels on x).1 ((s x).1 r)),
          );
        }

    sum_waits : Waits marks4 (length m.lines + 1) (length m.lines ∷ []) (λ x. Contains (sources_of f commute n) x)
    sum_waits = record {
      below = λ e c. elim (contains_cases (length m.lines) [] e c) [ inl same ↦ (let z : length m.lines ≡ e = same in omega arith) | inr none ↦ absurd (contains_none e none) ];
      once = refl;
      leaves = λ x. (
        λ c. (length m.lines, contains_here (length m.lines) [], subst (λ z. Contains z x) (sym mark_acquire) ((flat_leaf labels on x).1 ((w.leaves x).0 c))),
        λ r. elim (contains_cases (length m.lines) [] r.0 r.1) [
          | inl same ↦ (w.leaves x).1 ((flat_leaf labels on x).0 (subst (λ z. Contains z x) mark_acquire (subst (λ z. Leaf marks4 z x) (sym same) r.2)))
          | inr none ↦ absurd (contains_none r.0 none)
        ],
      );
    }

    abbrev new_section : IsSection f commute (suc n) held marks4 (length m.lines)
    new_section = record {
      line = n;
      below = omega arith;
      contended = contended;
      on = on;
      acquire = at_acquire;
      sum = at_sum;
      merge = at_merge;
      release = at_release;
      place = held_place;
      waits = acquire_waits;
      few = few;
      merge_label = mark_merge;
      release_label = mark_release;
    }

    each_new : (k : ℕ) (l : Line) → slice_get lines4 k ≡ Some l → Each f commute (suc n) held marks4 (st.guards + 3) k l
    each_new k l at = elim (got_cases lines3 release k l at) [
      | inr now ↦ inr (inr ((let z : 0 < st.guards + 3 = omega arith in z), length m.lines, new_section, inr (inr (now.0 ∙ count3))))
      | inl old3 ↦ elim (got_cases lines2 merge k l old3.1) [
        | inr now ↦ inr (inr ((let z : 0 < st.guards + 3 = omega arith in z), length m.lines, new_section, inr (inl (now.0 ∙ count2))))
        | inl old2 ↦ elim (got_cases lines1 sum k l old2.1) [
          | inr now ↦ inl (subst (λ z. IsOwn f commute (suc n) held marks4 z l) (sym (now.0 ∙ count1)) (subst (λ z. IsOwn f commute (suc n) held marks4 (length m.lines + 1) z) now.1
              (new_own held marks4 held_kept (length m.lines + 1) (omega arith) held_place sum at_sum refl refl mark_sum sum_waits (one_on f.format))))
          | inl old1 ↦ elim (got_cases m.lines acquire k l old1.1) [
            | inr now ↦ inr (inr ((let z : 0 < st.guards + 3 = omega arith in z), length m.lines, new_section, inl now.0))
            | inl old ↦ each_stays f commute n (suc n) (omega arith) m held labels marks4 held_kept st.guards (st.guards + 3) (omega arith) k l old.0 (st.each k l old.1)
          ]
        ]
      ]
    ]

    pub section_stands : Standing f commute (suc n) held marks4
    section_stands =
        let more : length (m.places ++ length lines1 ∷ []) ≡ length m.places + 1 = length-append m.places (length lines1 ∷ []) in
        let last : length marks4 ≡ length marks3 + 1 = length-append marks3 (dead f n ∷ []) in
        let s3 : length marks3 ≡ length m.lines + 3 = size3 in
        let c4 : length lines4 ≡ length m.lines + 4 = count4 in
        record {
          guards = st.guards + 3;
          format = st.format;
          labelled = (let z : length marks4 ≡ length lines4 = omega arith in z);
          places = (let p : length m.places ≡ n = st.places in omega arith);
          tally = (let t : length m.lines ≡ n + length m.merges + st.guards = st.tally in let z : length lines4 ≡ suc n + length m.merges + (st.guards + 3) = omega arith in z);
          rises = rises held marks4 held_kept (length m.lines + 1) (omega arith) held_place sum at_sum refl refl mark_sum;
          own = own_at held marks4 held_kept (length m.lines + 1) (omega arith) held_place sum at_sum refl refl mark_sum;
          each = each_new;
          merged = λ es e c. merged_stays f commute n (suc n) (omega arith) m held labels marks4 held_kept es e (st.merged es e c);
          held = λ i h c. elim (cases_lt i n) [
            | inl below ↦ held_stays f commute n (suc n) (omega arith) m held labels marks4 held_kept i (st.held i below c)
            | inr above ↦ (length m.lines, new_section, (let e : n ≡ i = omega arith in e))
          ];
        }

-- the parts of a line fall
module _ (f : GraphValue) (commute : Bool) (flow : IsFlow f) (j : ℕ) (within : j ≤ length f.lines) where
  abbrev table : List (List ℕ)
  table = sources_after f commute j

  abbrev parts : List (List ℕ)
  parts = map (λ b. least table [] (tied_by f commute j b)) (accesses f j)

  least_part : (kept : List ℕ) (t : ℕ → Bool) → IsPart f commute flow j within (least table kept (filter t (down_from j)))
  least_part kept t = record {
    falls = falls_least table kept (filter t (down_from j)) (falls_filter t (down_from j) (falls_down j));
    below = λ i c. down_below j i (filter_contains t (down_from j) i (least_within table kept (filter t (down_from j)) i c)).0;
  }

  pub small_part : IsPart f commute flow j within (parts_of f commute table j).small
  small_part = least_part (flat_map (λ p. p) (filter (is_large f.format) parts)) (λ i. list_any (λ p. has p i) (filter (λ p. not (is_large f.format p)) parts))

  pub large_part : (q : List ℕ) → Contains (parts_of f commute table j).large q → IsPart f commute flow j within q
  large_part q c =
      let b = map_contains (λ b. least table [] (tied_by f commute j b)) (accesses f j) q (filter_contains (is_large f.format) parts q c).0 in
      subst (IsPart f commute flow j within) b.2 (least_part [] (λ i. list_any (λ a. accesses_tie f commute a b.0) (accesses f i)))

-- with the next line
next_stands : (f : GraphValue) (commute : Bool) (flow : IsFlow f) (n : ℕ) (next : n < length f.lines) (r : Made × List ℕ) (labels : List (List ℕ)) → Standing f commute n r.0 labels → Waits labels (length r.0.lines) r.1 (λ x. Contains (sources_of f commute n) x) → length r.1 ≤ most_on f.format → (b : Bool) → is_contended f commute n ≡ b →
    (labels' : List (List ℕ)) × Standing f commute (suc n) (with_line_by (cond b (Some (lock_for f commute n)) None) (line_in f n) r) labels'
next_stands f commute flow n next r labels st w few false e = (labels ++ (n ∷ []) ∷ [], flow_line_stands f commute flow n next r.0 r.1 labels st w few e)
next_stands f commute flow n next r labels st w few true e = (marks4 f commute flow n next r.0 r.1 labels st w few e, section_stands f commute flow n next r.0 r.1 labels st w few e)

first_by : (o : Option ℕ) (l : Line) (r : Made × List ℕ) → (with_line_by o l r).first ≡ r.0.first
first_by None l r = refl
first_by (Some lock) l r = refl

-- after the first n lines
pub made_stands : (f : GraphValue) (commute : Bool) → IsFlow f → (first n : ℕ) → n ≤ length f.lines → (labels : List (List ℕ)) × Standing f commute n (made_after f commute first n) labels × ((made_after f commute first n).first ≡ first)
made_stands f commute flow first zero h = (
  [],
  record {
    guards = 0;
    format = refl;
    labelled = refl;
    places = refl;
    tally = refl;
    rises = λ i j a b. absurd (omega arith);
    own = λ i a. absurd (omega arith);
    each = λ k l at. absurd (none-some l at);
    merged = λ es e c. absurd (contains_none (es, e) c);
    held = λ i a c. absurd (omega arith);
  },
  refl,
)
made_stands f commute flow first (suc n) h =
    let before = made_stands f commute flow first n (omega arith) in
    let p = parts_of f commute (sources_after f commute n) n in
    let r = wait_for p (made_after f commute first n) in
    let w = wait_for_is f commute flow n (omega arith) p (made_after f commute first n) before.0 before.1 (small_part f commute flow n (omega arith)) (large_part f commute flow n (omega arith)) in
    let s = next_stands f commute flow n (omega arith) r (w.0).labels' (w.0).stands w.1 w.2 (is_contended f commute n) refl in
    (s.0, s.1, first_by (lock_of f commute n) (line_in f n) r ∙ ((w.0).first ∙ before.2))

-- it grows line by line
pub wait_grows : (f : GraphValue) (commute : Bool) (flow : IsFlow f) (first n : ℕ) → n < length f.lines → length (made_after f commute first n).lines ≤ length (wait_for (parts_of f commute (sources_after f commute n) n) (made_after f commute first n)).0.lines
wait_grows f commute flow first n h =
    let before = made_stands f commute flow first n (omega arith) in
    (wait_for_is f commute flow n (omega arith) (parts_of f commute (sources_after f commute n) n) (made_after f commute first n) before.0 before.1 (small_part f commute flow n (omega arith)) (large_part f commute flow n (omega arith))).0.longer
