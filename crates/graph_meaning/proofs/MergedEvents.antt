-- A line that waits for events behind `on` does as one that waits for one merge of them.
use Rattle.std.proofs.Common.{◌≡◌, ℕ, zero, suc, ◌+◌, ◌<◌, Bool, true, false, not, cond, ◌&&◌, ◌||◌, inl, inr, List, [], ◌∷◌, ◌++◌, length, map, refl, sym, ◌∙◌, ap, subst, arith, append_assoc, append-nil}
use Rattle.std.specs.Prelude.{nat_lt, Contains, Option, Some, None, ◌==◌, filter, find, option_map, slice_get}
use Rattle.std.specs.Option.{option_map_or}
use Rattle.std.specs.List.{list_all, list_any, range_with_len}
use Rattle.std.proofs.lemmas.Bool.{true≢false, cases_lt, and_parts, not-false, eqb-true, eq-eqb, true_from_ne_false}
use Rattle.std.proofs.lemmas.Option.{same_Some, slice_get_within}
use Rattle.std.proofs.lemmas.List.Elements.{Contains-append_cases, Contains-append_right, filter-append}
use Rattle.std.proofs.lemmas.List.Folds.{list_all-append, list_any-append, list_all-map}
use Rattle.std.proofs.lemmas.List.Sums.{sum_by-append}
use Rattle.graph_terms.specs.declared.verb.Edge.{Edge}
use Rattle.graph_terms.specs.declared.verb.EdgeKind.TheVariants.{Passes, Ignores}
use Rattle.graph_terms.specs.declared.verb.Line.{Line}
use Rattle.graph_terms.specs.declared.verb.Verb.{Verb}
use Rattle.graph_terms.specs.declared.verb.Verb.TheVariants.{User, Trigger, Cancel, Merge, Phase}
use Rattle.graph_terms.specs.declared.outcome.Verdict.TheVariants.{Fine}
use Rattle.graph_terms.specs.Graph.{GraphValue, space_at, barrier_count, arrivals, verb_at, line_passes, is_user, is_phase, is_phase_of, ends_user, arrival_weight, never_comes, never_comes_as}
use Rattle.graph_terms.specs.Edges.{edge, last_place, edges_from_some, on_edges, verb_edges, line_edges, edges_after, edges, edges_into, sources}
use Rattle.graph_terms.specs.Fits.{line_fault, verb_unlike, LinesFit, IsGraph}
use Rattle.graph_terms.proofs.Public.{passes_verb, verb_passes, verb_line, line_edges_in}
use Rattle.graph_terms.proofs.ArriveLaws.{arrive_unlike}
use Rattle.graph_terms.proofs.EdgeFacts.{kind_fits}
use Rattle.graph_terms.proofs.VerbFacts.{verb_edge_to, on_edge_to}
use Rattle.graph_meaning.specs.Effect.{Cells, zero_cells, Effect, effect, verb_verdict, verb_changes}
use Rattle.graph_meaning.specs.Evaluation.{Step, end_in, has_ended, cells_with, cancels, is_cancelled, is_ready, end_by, step_by, step_with, lowest_ready, advance_by_with, advance, steps_after, evaluation}
use Rattle.graph_meaning.specs.Turns.{EndsInOrder, HaveTurns}
use Rattle.graph_meaning.specs.Laws.{with_lines, waiting_for, OnIsAsAMerge}
use Rattle.basics.specs.Lists.{numbers_below}
use Rattle.basics.proofs.ListFacts.{contains_none, got_behind, got_in, find_is, passes_each, fails_some, some_passes, passes_some, filter_contains, contains_filter, contains_map, map_contains}
use Rattle.graph_meaning.proofs.ReadyLine.{from_into}
use Rattle.graph_meaning.proofs.Waiting.{ready_passes, ends_in_order_after}
use Rattle.graph_meaning.proofs.Turns.{turns_after, is_cancelled_agree}

-- the first number that passes is the same where two tests agree on each number below which none passes
find_same : (s t : ℕ → Bool) (lo n : ℕ) (b : Bool) → s lo ≡ b → t lo ≡ b → (b ≡ false → find s (range_with_len (lo + 1) n) ≡ find t (range_with_len (lo + 1) n)) →
    find s (range_with_len lo (suc n)) ≡ find t (range_with_len lo (suc n))
find_same s t lo n true e d again =
    ap (λ b. cond b (Some lo) (find s (range_with_len (lo + 1) n))) e ∙ sym (ap (λ b. cond b (Some lo) (find t (range_with_len (lo + 1) n))) d)
find_same s t lo n false e d again =
    ap (λ b. cond b (Some lo) (find s (range_with_len (lo + 1) n))) e ∙ (again refl ∙ sym (ap (λ b. cond b (Some lo) (find t (range_with_len (lo + 1) n))) d))

none_below : (s : ℕ → Bool) (lo : ℕ) → s lo ≡ false → ((j : ℕ) → j < lo → s j ≡ false) → (j : ℕ) → j < lo + 1 → s j ≡ false
none_below s lo e none j h = elim (cases_lt j lo) [ inl l ↦ none j l | inr up ↦ subst (λ z. s z ≡ false) (let q : lo ≡ j = omega arith in q) e ]

find_agree_from : (s t : ℕ → Bool) → ((k : ℕ) → ((j : ℕ) → j < k → s j ≡ false) → s k ≡ t k) → (lo n : ℕ) → ((j : ℕ) → j < lo → s j ≡ false) → find s (range_with_len lo n) ≡ find t (range_with_len lo n)
find_agree_from s t same lo zero none = refl
find_agree_from s t same lo (suc n) none =
    find_same s t lo n (s lo) refl (sym (same lo none)) (λ e. find_agree_from s t same (lo + 1) n (none_below s lo e none))

agree : (a b : Bool) → (a ≡ true → b ≡ true) → (b ≡ true → a ≡ true) → a ≡ b
agree true b f h = sym (f refl)
agree false true f h = h refl
agree false false f h = refl

or_false : (b : Bool) → (b || false) ≡ b
or_false true = refl
or_false false = refl

and_true : (b : Bool) → (b && true) ≡ b
and_true true = refl
and_true false = refl

-- a test that each element passes
all_pass : (t : ℕ → Bool) (xs : List ℕ) → ((x : ℕ) → Contains xs x → t x ≡ true) → list_all t xs ≡ true
all_pass t xs h = true_from_ne_false (list_all t xs) (λ e. (let f = fails_some t xs e in true≢false (sym (h f.0 f.1) ∙ f.2)))

-- the edges of lines that stand after others come last
pub edges_after_join : (before xs ys : List Line) → edges_after before (xs ++ ys) ≡ edges_after before xs ++ edges_after (before ++ xs) ys
edges_after_join before [] ys = ap (λ b. edges_after b ys) (sym (append-nil before))
edges_after_join before (x ∷ xs) ys =
    ap (λ es. line_edges before x ++ es) (edges_after_join (before ++ x ∷ []) xs ys ∙ ap (λ b. edges_after (before ++ x ∷ []) xs ++ edges_after b ys) (append_assoc before (x ∷ []) xs))
    ∙ sym (append_assoc (line_edges before x) (edges_after (before ++ x ∷ []) xs) (edges_after (before ++ x ∷ xs) ys))

-- THE EDGES INTO A MERGE THAT WAITS FOR NO MORE
module _ (g : GraphValue) (m : ℕ) (merge : Line) (es : List ℕ) (at : slice_get g.lines m ≡ Some merge) (is : merge.verb ≡ Merge es) (alone : merge.on ≡ []) where
  as_it_is : (t : Verb → Bool) → line_passes t g m ≡ t (Merge es)
  as_it_is t = ap (λ (o : Option Line). option_map_or t (option_map (λ (l : Line). l.verb) o) false) at ∙ ap t is

  passes_in : (t : Verb → Bool) (b ls : List Line) → g.lines ≡ b ++ ls → (k : ℕ) → line_passes t (with_lines g b) k ≡ true → line_passes t g k ≡ true
  passes_in t b ls parts k h =
      let v = passes_verb t (with_lines g b) k h in
      let l = verb_line (with_lines g b) k v.0 v.1 in
      let there : slice_get g.lines k ≡ Some l.0 = ap (λ (xs : List Line). slice_get xs k) parts ∙ got_in b ls k l.0 l.1 in
      verb_passes t g k v.0 (ap (option_map (λ (x : Line). x.verb)) there ∙ ap Some l.2) ∙ v.2

  ended_is_user : (h : GraphValue) (u : ℕ) (v : Verb) → ends_user u v ≡ true → verb_unlike h v ≡ false → line_passes is_user h u ≡ true
  ended_is_user h u (Trigger k) e unlike = subst (λ z. line_passes is_user h z ≡ true) (eqb-true k u e) (not-false (line_passes is_user h k) unlike)
  ended_is_user h u (Cancel k) e unlike = subst (λ z. line_passes is_user h z ≡ true) (eqb-true k u e) (not-false (line_passes is_user h k) unlike)
  ended_is_user h u v e unlike = absurd (true≢false (sym e))

  abbrev FromEvent : Edge → Type 0
  FromEvent e = (e.kind ≡ Passes) × Contains es e.from

  own : (b : List Line) (e : Edge) → Contains (verb_edges b (length b) (Merge es)) e → FromEvent e
  own b e c = let k = map_contains (λ x. edge x (length b) Passes) es e c in (sym (ap (λ (x : Edge). x.kind) k.2), subst (λ z. Contains es z) (ap (λ (x : Edge). x.from) k.2) k.1)

  here : (b : List Line) (l : Line) (ls : List Line) → g.lines ≡ b ++ l ∷ ls → m ≡ length b → l ≡ merge
  here b l ls parts e = same_Some l merge (sym (got_behind b l ls) ∙ (ap (λ (xs : List Line). slice_get xs (length b)) (sym parts) ∙ (ap (slice_get g.lines) (sym e) ∙ at)))

  by_line : (b : List Line) (l : Line) (ls : List Line) → g.lines ≡ b ++ l ∷ ls → line_fault (with_lines g b) l ≡ None → (e : Edge) → Contains (line_edges b l) e → e.to ≡ m → FromEvent e
  by_line b l ls parts fits e c to =
      let kind = kind_fits (with_lines g b) l fits in
      elim (Contains-append_cases (on_edges l.on (length b)) (verb_edges b (length b) l.verb) e c) [
        | inl on ↦ (
            let none : l.on ≡ [] = ap (λ (x : Line). x.on) (here b l ls parts (sym to ∙ on_edge_to l.on (length b) e on)) ∙ alone in
            absurd (contains_none e (subst (λ xs. Contains (on_edges xs (length b)) e) none on)))
        | inr verb ↦ elim (verb_edge_to b l.verb e verb) [
          | inl self ↦ own b e (subst (λ v. Contains (verb_edges b (length b) v) e) (ap (λ (x : Line). x.verb) (here b l ls parts (sym to ∙ self.0)) ∙ is) verb)
          | inr (inl ends) ↦ (
              let user : line_passes is_user g e.to ≡ true = passes_in is_user b (l ∷ ls) parts e.to (ended_is_user (with_lines g b) e.to l.verb ends kind.0) in
              absurd (true≢false (sym user ∙ (ap (line_passes is_user g) to ∙ as_it_is is_user))))
          | inr (inr arrives) ↦ (
              let unlike : not (line_passes is_phase (with_lines g b) arrives.0) ≡ false = sym (arrive_unlike (with_lines g b) arrives.0 arrives.1 arrives.2) ∙ (ap (verb_unlike (with_lines g b)) (sym arrives.3) ∙ kind.0) in
              let phase : line_passes is_phase g arrives.0 ≡ true = passes_in is_phase b (l ∷ ls) parts arrives.0 (not-false _ unlike) in
              absurd (true≢false (sym phase ∙ (ap (line_passes is_phase g) (sym arrives.4 ∙ to) ∙ as_it_is is_phase))))
        ]
      ]

  by_lines : (b ls : List Line) → g.lines ≡ b ++ ls → LinesFit g.format g.decls b ls → (e : Edge) → Contains (edges_after b ls) e → e.to ≡ m → FromEvent e
  by_lines b [] parts f e c to = absurd (contains_none e c)
  by_lines b (l ∷ ls) parts f e c to = elim (Contains-append_cases (line_edges b l) (edges_after (b ++ l ∷ []) ls) e c) [
    | inl one ↦ by_line b l ls parts f.1 e one to
    | inr rest ↦ by_lines (b ++ l ∷ []) ls (parts ∙ sym (append_assoc b (l ∷ []) ls)) f.2 e rest to
  ]

  -- each edge into the merge is from one of its events
  from_event : IsGraph g → (e : Edge) → Contains (edges g) e → e.to ≡ m → FromEvent e
  from_event f e c to = by_lines [] g.lines refl f.lines e c to

  -- and there is one from each
  event_edge : (x : ℕ) → Contains es x → Contains (edges g) (edge x m Passes)
  event_edge x c =
      let r = line_edges_in [] g.lines m merge at in
      let len : length r.0 ≡ m = (let z : length r.0 ≡ 0 + m = r.1 in omega arith) in
      let listed : Contains (verb_edges r.0 (length r.0) merge.verb) (edge x (length r.0) Passes) = subst (λ v. Contains (verb_edges r.0 (length r.0) v) (edge x (length r.0) Passes)) (sym is) (contains_map (λ e. edge e (length r.0) Passes) es x c) in
      subst (λ n. Contains (edges g) (edge x n Passes)) len
      (r.2 (edge x (length r.0) Passes) (Contains-append_right (on_edges merge.on (length r.0)) (verb_edges r.0 (length r.0) merge.verb) (edge x (length r.0) Passes) listed))

  module _ (f : IsGraph g) (ss : List Step) where
    -- a merge that has not ended and is not ready has an event that has not ended
    merge_ended : EndsInOrder g ss → is_ready g ss m ≡ false → has_ended ss m ≡ list_all (has_ended ss) es
    merge_ended o left = agree (has_ended ss m) (list_all (has_ended ss) es)
        (λ h. all_pass (has_ended ss) es (λ x c. (o.each m h).2 (edge x m Passes) (event_edge x c) refl))
        (λ h. true_from_ne_false (has_ended ss m) (λ e. true≢false (sym (ready_passes g ss m (record {
          below = slice_get_within g.lines m merge at;
          left = e;
          comes = as_it_is (never_comes_as g m);
          sources = λ x c to. passes_each (has_ended ss) es h x.from (from_event f x c to).1;
        })) ∙ left)))

    cancelled_by_event : is_cancelled g ss m ≡ list_any (λ x. cancels Passes (end_in ss x)) es
    cancelled_by_event = agree (is_cancelled g ss m) (list_any (λ x. cancels Passes (end_in ss x)) es)
        (λ h. (let s = some_passes (λ (e : Edge). cancels e.kind (end_in ss e.from)) (edges_into g m) h in
        let into = filter_contains (λ (e : Edge). e.to == m) (edges g) s.0 s.1 in
        let from = from_event f s.0 into.0 (eqb-true s.0.to m into.1) in
        passes_some (λ x. cancels Passes (end_in ss x)) es s.0.from from.1 (ap (λ k. cancels k (end_in ss s.0.from)) (sym from.0) ∙ s.2)))
        (λ h. (let s = some_passes (λ x. cancels Passes (end_in ss x)) es h in
        passes_some (λ (e : Edge). cancels e.kind (end_in ss e.from)) (edges_into g m) (edge s.0 m Passes) (contains_filter (λ (e : Edge). e.to == m) (edges g) (edge s.0 m Passes) (event_edge s.0 s.1) (eq-eqb m m refl)) s.2))

    step_cancels : (b : Bool) (cells : Cells) → cancels Passes (step_by m b (effect g m cells)).ends ≡ b
    step_cancels true cells = refl
    step_cancels false cells = ap (λ o. cancels Passes (end_by (option_map_or (verb_verdict (space_at g) cells) o Fine))) (ap (option_map (λ (l : Line). l.verb)) at ∙ ap Some is)

    -- where the merge has ended, it cancels what waits for it exactly where one of its events would
    merge_cancels : HaveTurns (effect g) zero_cells g ss → has_ended ss m ≡ true → cancels Passes (end_in ss m) ≡ list_any (λ x. cancels Passes (end_in ss x)) es
    merge_cancels turns h =
        let t = turns m h in
        let same : is_cancelled g t.0 m ≡ is_cancelled g ss m = is_cancelled_agree g t.0 ss m (λ e c to. sym (t.1.sources_same e c to)) in
        ap (cancels Passes) t.1.end_is ∙ (step_cancels (is_cancelled g t.0 m) (cells_with zero_cells t.0) ∙ (same ∙ cancelled_by_event))

-- TWO GRAPHS, IN ONE OF WHICH A LINE WAITS FOR A MERGE OF ITS EVENTS
module _ (base : GraphValue) (before after : List Line) (l merge : Line) (m : ℕ) (f : IsGraph (with_lines base (before ++ l ∷ after))) (at : slice_get before m ≡ Some merge) (is : merge.verb ≡ Merge l.on) (alone : merge.on ≡ []) where
  abbrev many : GraphValue
  many = with_lines base (before ++ l ∷ after)

  abbrev on : List ℕ
  on = m ∷ []

  abbrev one : GraphValue
  one = with_lines base (before ++ waiting_for on l ∷ after)

  -- each line does the same
  same_verb : (k : ℕ) → verb_at one k ≡ verb_at many k
  same_verb k = by before k
    where
      by : (b : List Line) (k : ℕ) → option_map (λ (x : Line). x.verb) (slice_get (b ++ waiting_for on l ∷ after) k) ≡ option_map (λ (x : Line). x.verb) (slice_get (b ++ l ∷ after) k)
      by [] zero = refl
      by [] (suc k) = refl
      by (x ∷ b) zero = refl
      by (x ∷ b) (suc k) = by b k

  same_users : (u : ℕ) → list_any (λ (x : Line). ends_user u x.verb) one.lines ≡ list_any (λ (x : Line). ends_user u x.verb) many.lines
  same_users u = by before
    where
      by : (b : List Line) → list_any (λ (x : Line). ends_user u x.verb) (b ++ waiting_for on l ∷ after) ≡ list_any (λ (x : Line). ends_user u x.verb) (b ++ l ∷ after)
      by [] = refl
      by (x ∷ b) = ap (λ r. ends_user u x.verb || r) (by b)

  same_arrivals : (p : ℕ) → arrivals one p ≡ arrivals many p
  same_arrivals p =
      let w : Line → ℕ = λ x. arrival_weight p x.verb in
      sum_by-append w before (waiting_for on l ∷ after) ∙ sym (sum_by-append w before (l ∷ after))

  same_length : (b more : List Line) → length (b ++ waiting_for on l ∷ more) ≡ length (b ++ l ∷ more)
  same_length [] more = refl
  same_length (x ∷ b) more = ap suc (same_length b more)

  same_last : (t : Verb → Bool) (b more : List Line) (n : ℕ) (found : Option ℕ) → last_place t n (b ++ waiting_for on l ∷ more) found ≡ last_place t n (b ++ l ∷ more) found
  same_last t [] more n found = refl
  same_last t (x ∷ b) more n found = same_last t b more (n + 1) (cond (t x.verb) (Some n) found)

  -- the same lines never come
  same_never : (k : ℕ) → never_comes one k ≡ never_comes many k
  same_never k = ap (λ o. option_map_or (never_comes_as one k) o false) (same_verb k) ∙ as_verb (verb_at many k)
    where
      as_verb : (o : Option Verb) → option_map_or (never_comes_as one k) o false ≡ option_map_or (never_comes_as many k) o false
      as_verb None = refl
      as_verb (Some User) = ap not (same_users k)
      as_verb (Some (Phase b)) = ap (λ n. nat_lt n (barrier_count base b)) (same_arrivals k)
      as_verb (Some v) = refl

  same_effect : (k : ℕ) (cells : Cells) → effect one k cells ≡ effect many k cells
  same_effect k cells = ap as_verb (same_verb k)
    where
      as_verb : Option Verb → Effect
      as_verb o = record { verdict = option_map_or (verb_verdict (space_at base) cells) o Fine; changes = option_map_or (verb_changes (space_at base) cells) o [] }

  -- the later lines give the same edges
  same_verb_edges : (b more : List Line) (n : ℕ) (v : Verb) → verb_edges (b ++ waiting_for on l ∷ more) n v ≡ verb_edges (b ++ l ∷ more) n v
  same_verb_edges b more n (Phase k) = ap (λ o. edges_from_some Ignores o n) (same_last (is_phase_of k) b more 0 None)
  same_verb_edges b more n v = refl

  same_line_edges : (b more : List Line) (x : Line) → line_edges (b ++ waiting_for on l ∷ more) x ≡ line_edges (b ++ l ∷ more) x
  same_line_edges b more x =
      ap (λ n. on_edges x.on n ++ verb_edges (b ++ waiting_for on l ∷ more) n x.verb) (same_length b more)
      ∙ ap (λ es. on_edges x.on (length (b ++ l ∷ more)) ++ es) (same_verb_edges b more (length (b ++ l ∷ more)) x.verb)

  same_edges_after : (b more ls : List Line) → edges_after (b ++ waiting_for on l ∷ more) ls ≡ edges_after (b ++ l ∷ more) ls
  same_edges_after b more [] = refl
  same_edges_after b more (x ∷ ls) =
      ap (λ es. es ++ edges_after ((b ++ waiting_for on l ∷ more) ++ x ∷ []) ls) (same_line_edges b more x)
      ∙ ap (λ es. line_edges (b ++ l ∷ more) x ++ es)
      (ap (λ xs. edges_after xs ls) (append_assoc b (waiting_for on l ∷ more) (x ∷ [])) ∙ (same_edges_after b (more ++ x ∷ []) ls ∙ ap (λ xs. edges_after xs ls) (sym (append_assoc b (l ∷ more) (x ∷ [])))))

  abbrev i : ℕ
  i = length before

  -- the edges above those from the events behind `on`, and those below
  abbrev above : List Edge
  above = edges_after [] before

  abbrev below : List Edge
  below = verb_edges before i l.verb ++ edges_after (before ++ l ∷ []) after

  edges_of : (x : Line) → x.verb ≡ l.verb → edges_after (before ++ x ∷ []) after ≡ edges_after (before ++ l ∷ []) after → edges_after [] (before ++ x ∷ after) ≡ above ++ (on_edges x.on i ++ below)
  edges_of x verb rest =
      edges_after_join [] before (x ∷ after)
      ∙ ap (λ es. above ++ es) (append_assoc (on_edges x.on i) (verb_edges before i x.verb) (edges_after (before ++ x ∷ []) after)
      ∙ ap (λ es. on_edges x.on i ++ es) (ap (λ v. verb_edges before i v ++ edges_after (before ++ x ∷ []) after) verb ∙ ap (λ es. verb_edges before i l.verb ++ es) rest))

  edges_of_many : edges many ≡ above ++ (on_edges l.on i ++ below)
  edges_of_many = edges_of l refl refl

  edges_of_one : edges one ≡ above ++ (on_edges on i ++ below)
  edges_of_one = edges_of (waiting_for on l) refl (same_edges_after before [] after)

  abbrev entering : List Edge → ℕ → List Edge
  entering es k = filter (λ (e : Edge). e.to == k) es

  none_enter : (xs : List ℕ) (k : ℕ) → (i == k) ≡ false → entering (on_edges xs i) k ≡ []
  none_enter [] k ne = refl
  none_enter (x ∷ xs) k ne = ap (λ b. cond b (edge x i Passes ∷ entering (on_edges xs i) k) (entering (on_edges xs i) k)) ne ∙ none_enter xs k ne

  all_enter : (xs : List ℕ) → entering (on_edges xs i) i ≡ on_edges xs i
  all_enter [] = refl
  all_enter (x ∷ xs) = ap (λ b. cond b (edge x i Passes ∷ entering (on_edges xs i) i) (entering (on_edges xs i) i)) (eq-eqb i i refl) ∙ ap (λ es. edge x i Passes ∷ es) (all_enter xs)

  enter_in : (es : List Edge) (xs : List ℕ) → es ≡ above ++ (on_edges xs i ++ below) → (k : ℕ) → entering es k ≡ entering above k ++ (entering (on_edges xs i) k ++ entering below k)
  enter_in es xs are k =
      ap (λ ys. entering ys k) are
      ∙ (filter-append (λ (e : Edge). e.to == k) above (on_edges xs i ++ below)
      ∙ ap (λ ys. entering above k ++ ys) (filter-append (λ (e : Edge). e.to == k) (on_edges xs i) below))

  -- another line is entered by the same edges
  others_same : (k : ℕ) → (i == k) ≡ false → edges_into one k ≡ edges_into many k
  others_same k ne =
      enter_in (edges one) on edges_of_one k
      ∙ (ap (λ ys. entering above k ++ (ys ++ entering below k)) (none_enter on k ne ∙ sym (none_enter l.on k ne)) ∙ sym (enter_in (edges many) l.on edges_of_many k))

  -- the line itself by those from its events, among others
  own_enter : (es : List Edge) (xs : List ℕ) → es ≡ above ++ (on_edges xs i ++ below) → entering es i ≡ entering above i ++ (on_edges xs i ++ entering below i)
  own_enter es xs are = enter_in es xs are i ∙ ap (λ ys. entering above i ++ (ys ++ entering below i)) (all_enter xs)

  any_on : (p : Edge → Bool) (xs : List ℕ) → list_any p (on_edges xs i) ≡ list_any (λ x. p (edge x i Passes)) xs
  any_on p [] = refl
  any_on p (x ∷ xs) = ap (λ b. p (edge x i Passes) || b) (any_on p xs)

  any_own : (p : Edge → Bool) (es : List Edge) (xs : List ℕ) → es ≡ above ++ (on_edges xs i ++ below) →
      list_any p (entering es i) ≡ (list_any p (entering above i) || (list_any (λ x. p (edge x i Passes)) xs || list_any p (entering below i)))
  any_own p es xs are =
      ap (list_any p) (own_enter es xs are)
      ∙ (list_any-append p (entering above i) (on_edges xs i ++ entering below i)
      ∙ ap (λ b. list_any p (entering above i) || b) (list_any-append p (on_edges xs i) (entering below i) ∙ ap (λ b. b || list_any p (entering below i)) (any_on p xs)))

  all_own : (t : ℕ → Bool) (es : List Edge) (xs : List ℕ) → es ≡ above ++ (on_edges xs i ++ below) →
      list_all t (from_into es i) ≡ (list_all (λ (e : Edge). t e.from) (entering above i) && (list_all t xs && list_all (λ (e : Edge). t e.from) (entering below i)))
  all_own t es xs are =
      let u : Edge → Bool = λ e. t e.from in
      list_all-map t (λ (e : Edge). e.from) (entering es i)
      ∙ (ap (list_all u) (own_enter es xs are)
      ∙ (list_all-append u (entering above i) (on_edges xs i ++ entering below i)
      ∙ ap (λ b. list_all u (entering above i) && b) (list_all-append u (on_edges xs i) (entering below i) ∙ ap (λ b. b && list_all u (entering below i)) (list_all-map u (λ x. edge x i Passes) xs))))

  there : slice_get many.lines m ≡ Some merge
  there = got_in before (l ∷ after) m merge at

  module _ (ss : List Step) (ordered : EndsInOrder many ss) (turns : HaveTurns (effect many) zero_cells many ss) where
    -- a line has its sources ended in both, or in none, where no line below it is ready
    same_sources : (k : ℕ) → ((j : ℕ) → j < k → is_ready many ss j ≡ false) → list_all (has_ended ss) (sources one k) ≡ list_all (has_ended ss) (sources many k)
    same_sources k none = by (i == k) refl
      where
        above_ended : Bool
        above_ended = list_all (λ (e : Edge). has_ended ss e.from) (entering above i)

        below_ended : Bool
        below_ended = list_all (λ (e : Edge). has_ended ss e.from) (entering below i)

        by : (b : Bool) → (i == k) ≡ b → list_all (has_ended ss) (sources one k) ≡ list_all (has_ended ss) (sources many k)
        by false e = ap (λ es. list_all (has_ended ss) (map (λ (x : Edge). x.from) es)) (others_same k e)
        by true e =
            let same : i ≡ k = eqb-true i k e in
            let low : m < i = slice_get_within before m merge at in
            let ended : (has_ended ss m && true) ≡ list_all (has_ended ss) l.on = and_true (has_ended ss m) ∙ merge_ended many m merge l.on there is alone f ss ordered (none m (omega arith)) in
            subst (λ z. list_all (has_ended ss) (sources one z) ≡ list_all (has_ended ss) (sources many z)) same
            (all_own (has_ended ss) (edges one) on edges_of_one ∙ (ap (λ b. above_ended && (b && below_ended)) ended ∙ sym (all_own (has_ended ss) (edges many) l.on edges_of_many)))

    same_ready : (k : ℕ) → ((j : ℕ) → j < k → is_ready many ss j ≡ false) → is_ready one ss k ≡ is_ready many ss k
    same_ready k none =
        ap (λ b. not (has_ended ss k) && (not b && list_all (has_ended ss) (sources one k))) (same_never k)
        ∙ ap (λ b. not (has_ended ss k) && (not (never_comes many k) && b)) (same_sources k none)

    same_lowest : lowest_ready one ss ≡ lowest_ready many ss
    same_lowest =
        ap (λ n. find (is_ready one ss) (numbers_below n)) (same_length before after)
        ∙ sym (find_agree_from (is_ready many ss) (is_ready one ss) (λ k none. sym (same_ready k none)) 0 (length many.lines) (λ j low. absurd (omega arith)))

    -- a line that is ready is cancelled in both, or in none
    same_cancelled : (k : ℕ) → is_ready one ss k ≡ true → is_cancelled one ss k ≡ is_cancelled many ss k
    same_cancelled k ready = by (i == k) refl
      where
        stops : Edge → Bool
        stops e = cancels e.kind (end_in ss e.from)

        by : (b : Bool) → (i == k) ≡ b → is_cancelled one ss k ≡ is_cancelled many ss k
        by false e = ap (list_any stops) (others_same k e)
        by true e =
            let same : i ≡ k = eqb-true i k e in
            let first = and_parts (not (has_ended ss k)) (not (never_comes one k) && list_all (has_ended ss) (sources one k)) ready in
            let second = and_parts (not (never_comes one k)) (list_all (has_ended ss) (sources one k)) first.1 in
            let own : list_all (has_ended ss) (sources one i) ≡ true = subst (λ z. list_all (has_ended ss) (sources one z) ≡ true) (sym same) second.1 in
            let parts = and_parts _ _ (sym (all_own (has_ended ss) (edges one) on edges_of_one) ∙ own) in
            let ended : has_ended ss m ≡ true = sym (and_true (has_ended ss m)) ∙ (and_parts _ _ parts.1).0 in
            let cancelled : (cancels Passes (end_in ss m) || false) ≡ list_any (λ x. cancels Passes (end_in ss x)) l.on =
            or_false (cancels Passes (end_in ss m)) ∙ merge_cancels many m merge l.on there is alone f ss turns ended in
            subst (λ z. is_cancelled one ss z ≡ is_cancelled many ss z) same
            (any_own stops (edges one) on edges_of_one ∙ (ap (λ b. list_any stops (entering above i) || (b || list_any stops (entering below i))) cancelled ∙ sym (any_own stops (edges many) l.on edges_of_many)))

    same_step : (k : ℕ) → is_ready one ss k ≡ true → step_with (effect one) zero_cells one ss k ≡ step_with (effect many) zero_cells many ss k
    same_step k ready =
        ap (λ b. step_by k b (effect one k (cells_with zero_cells ss))) (same_cancelled k ready) ∙ ap (step_by k (is_cancelled many ss k)) (same_effect k (cells_with zero_cells ss))

    same_advance : advance one ss ≡ advance many ss
    same_advance = ap (advance_by_with (effect one) zero_cells one ss) same_lowest ∙ by (lowest_ready many ss) refl
      where
        by : (o : Option ℕ) → lowest_ready many ss ≡ o → advance_by_with (effect one) zero_cells one ss o ≡ advance_by_with (effect many) zero_cells many ss o
        by None e = refl
        by (Some k) e = ap (λ s. ss ++ s ∷ []) (same_step k (find_is (is_ready one ss) (numbers_below (length one.lines)) k (same_lowest ∙ e)).1)

  same_steps : (n : ℕ) → steps_after one n ≡ steps_after many n
  same_steps zero = refl
  same_steps (suc n) = ap (advance one) (same_steps n) ∙ same_advance (steps_after many n) (ends_in_order_after (effect many) zero_cells many n) (turns_after many n)

  same_evaluation : evaluation one ≡ evaluation many
  same_evaluation = ap (steps_after one) (same_length before after) ∙ same_steps (length many.lines)

pub on_is_as_a_merge : OnIsAsAMerge
on_is_as_a_merge base before after l merge m f at is alone = same_evaluation base before after l merge m f at is alone
