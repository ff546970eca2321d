-- One line of a flow more, with the merges before it.
use Rattle.std.proofs.Common.{◌≡◌, ℕ, zero, suc, ◌+◌, ◌<◌, ◌≤◌, Bool, true, false, not, ◌&&◌, ◌||◌, inl, inr, List, [], ◌∷◌, ◌++◌, length, take, refl, sym, ◌∙◌, ap, subst, append-nil, length-append, arith}
use Rattle.std.specs.Prelude.{Contains, Option, Some, None, nat_lt, is_some, is_none, slice_get, unwrap_or, find, filter_map}
use Rattle.std.specs.Option.{option_map_or}
use Rattle.std.specs.List.{range_with_len}
use Rattle.std.proofs.lemmas.Bool.{true≢false, cases_Bool, or_left, or_right, and_from, lt-ltb, le-ltb, ltb-true, ltb-false}
use Rattle.std.proofs.lemmas.Option.{get_or_from_slice_get}
use Rattle.std.proofs.lemmas.Slice.Eq.{bytes_eq-Decides}
use Rattle.std.proofs.lemmas.List.Elements.{Contains-append_cases}
use Rattle.task_flow.proofs.Names.{new_differ}
use Rattle.graph_terms.specs.Limits.{limits}
use Rattle.graph_terms.specs.declared.decl.Decl.{Decl}
use Rattle.graph_terms.specs.declared.decl.Decl.TheVariants.{Lock}
use Rattle.graph_terms.specs.declared.format.Format.{Format}
use Rattle.graph_terms.specs.declared.verb.Line.{Line}
use Rattle.graph_terms.specs.Graph.{GraphValue, decl_name, lock_of, locks}
use Rattle.graph_terms.specs.Fits.{is_beyond, is_used}
use Rattle.flow_order.specs.Flow.{IsFlow}
use Rattle.task_flow.specs.Construction.{Made, new_name, is_contended, needed, lock_for, lock_of as lock_wanted, wait_for, with_line_by, no_line, line_in, first_number, number_from, made_after, locks_from, reservations, graph_of, written, wants_many, is_over}
use Rattle.flow_order.specs.SourceParts.{Parts, parts_of, sources_after}
use Rattle.task_flow.specs.Fitting.{lined, with_lines, AreToFit}
use Rattle.task_flow.specs.Making.{made_of, IsPast, IsMaking, AreSections}
use Rattle.task_flow.specs.declared.making.Making.{Making}
use Rattle.task_flow.specs.declared.sections.Sections.{Sections}
use Rattle.task_flow.proofs.NameScan.{is_free}
use Rattle.basics.proofs.Choices.{both_not}
use Rattle.task_flow.proofs.MadeLines.{made_stands, wait_grows}
use Rattle.basics.proofs.ListFacts.{contains_none}
use Rattle.task_flow.proofs.Bounds.{lines_most, locks_most}
use Rattle.task_flow.proofs.Growth.{by_longer, by_format, wait_format}
use Rattle.task_flow.proofs.Reservations.{reservations_are, reservations_some, reservations_none, lock_named, lock_before, locks_more, few_before, lock_below}
use Rattle.task_flow.proofs.Fitting.{used_decl, unused_where, beyond_more, fit_from, past_beyond, fresh_from, number_small}

none_some : (o : Option ℕ) → is_some o ≡ false → is_none o ≡ true
none_some None h = refl
none_some (Some x) h = absurd (true≢false h)

some_none : (o : Option ℕ) → is_some o ≡ true → is_none o ≡ false
some_none None h = absurd (true≢false (sym h))
some_none (Some x) h = refl

no_number_by : (o : Option ℕ) → is_some o ≡ false → None ≡ o
no_number_by None h = refl
no_number_by (Some x) h = absurd (true≢false h)

no_number : (f : GraphValue) → is_some (first_number f) ≡ false → None ≡ first_number f
no_number f h = no_number_by (first_number f) h

some_number_by : (o : Option ℕ) → is_some o ≡ true → Some (option_map_or (λ n. n) o 0) ≡ o
some_number_by None h = absurd (true≢false (sym h))
some_number_by (Some x) h = refl

pub some_number : (f : GraphValue) → is_some (first_number f) ≡ true → Some (number_from f) ≡ first_number f
unfolding number_from
some_number f h = some_number_by (first_number f) h

no_items : {X : Type 0} (xs : List X) → length xs ≡ 0 → xs ≡ []
no_items [] h = refl
no_items (x ∷ xs) h = absurd (let e : suc (length xs) ≡ 0 = h in omega arith)

-- what is made has the format of the flow
made_format : (f : GraphValue) (commute : Bool) (first n : ℕ) → (made_after f commute first n).format ≡ f.format
made_format f commute first zero = refl
made_format f commute first (suc n) =
    let r = wait_for (parts_of f commute (sources_after f commute n) n) (made_after f commute first n) in
    by_format (lock_wanted f commute n) (line_in f n) r ∙ (wait_format (parts_of f commute (sources_after f commute n) n) (made_after f commute first n) ∙ made_format f commute first n)

-- the reservations have the numbers behind those of lines, and there are few
reserved_at : (f : GraphValue) (commute : Bool) → wants_many f commute (length f.lines) ≡ false → (first : ℕ) → first ≡ number_from f → (b : Bool) → is_some (first_number f) ≡ b → (b ≡ true → (k : ℕ) → k < 131072 → is_used f (new_name (first + k)) ≡ false) →
    (d : Decl) → Contains (reservations f commute) d → (k : ℕ) × (k < 1024) × (d ≡ Lock (new_name (first + ((limits f.format).lines + k)))) × (is_used f (new_name (first + ((limits f.format).lines + k))) ≡ false)
reserved_at f commute few first is false none free d c = absurd (contains_none d (subst (λ xs. Contains xs d) (reservations_none f commute (no_number f none)) c))
reserved_at f commute few first is true some free d c =
    let r = lock_named (number_from f + (limits f.format).lines) (needed f commute (length f.lines)) d (subst (λ xs. Contains xs d) (reservations_some f commute (number_from f) (some_number f some)) c) in
    let lines : (limits f.format).lines ≤ 65536 = lines_most f.format in
    let most : (limits f.format).locks ≤ 1024 = locks_most f.format in
    let count : length (locks f) + length (needed f commute (length f.lines)) ≤ (limits f.format).locks = ltb-false (limits f.format).locks (length (locks f) + length (needed f commute (length f.lines))) few in
    let below : r.0 < length (needed f commute (length f.lines)) = r.1 in
    let small : r.0 < 1024 = omega arith in
    let same : (number_from f + (limits f.format).lines) + r.0 ≡ first + ((limits f.format).lines + r.0) = omega arith in
    (r.0, small, r.2 ∙ ap (λ z. Lock (new_name z)) same, free refl ((limits f.format).lines + r.0) (omega arith))

room_at : (f : GraphValue) (commute : Bool) (b : Bool) → is_some (first_number f) ≡ b → (b ≡ false → ⊥) → (i : ℕ) → i < length f.lines → is_contended f commute i ≡ true → lock_for f commute i < length (filter_map lock_of (f.decls ++ reservations f commute))
room_at f commute false none never i h contended = absurd (never refl)
room_at f commute true some never i h contended =
    let below : lock_for f commute i < length (locks f) + length (needed f commute (length f.lines)) = lock_below f commute i h contended in
    let count : length (filter_map lock_of (f.decls ++ locks_from (number_from f + (limits f.format).lines) (needed f commute (length f.lines)))) ≡ length (locks f) + length (needed f commute (length f.lines)) = locks_more f.decls (number_from f + (limits f.format).lines) (needed f commute (length f.lines)) in
    let same : length (filter_map lock_of (f.decls ++ reservations f commute)) ≡ length (filter_map lock_of (f.decls ++ locks_from (number_from f + (limits f.format).lines) (needed f commute (length f.lines)))) = ap (λ xs. length (filter_map lock_of (f.decls ++ xs))) (reservations_some f commute (number_from f) (some_number f some)) in
    omega arith

module _ (f : GraphValue) (commute : Bool) (flow : IsFlow f) (few : wants_many f commute (length f.lines) ≡ false) (n : ℕ) (next : n < length f.lines) (old : Making) (mk : IsMaking f commute n old) (l : Line) (at : slice_get f.lines n ≡ Some l) (p : Parts) (parts : p ≡ parts_of f commute (sources_after f commute n) n) (o : Option ℕ) (lock : o ≡ lock_wanted f commute n) where
  abbrev target : Made
  target = made_after f commute (number_from f) (suc n)

  -- what stands before the line itself
  abbrev waiting : Made × List ℕ
  waiting = wait_for (parts_of f commute (sources_after f commute n) n) (made_after f commute (number_from f) n)

  pub next_is : with_line_by o l (wait_for p (made_of old)) ≡ target
  next_is =
      let line : l ≡ line_in f n = sym (get_or_from_slice_get f.lines n l no_line at) in
      ap (λ x. with_line_by x l (wait_for p (made_of old))) lock ∙ (ap (λ x. with_line_by (lock_wanted f commute n) x (wait_for p (made_of old))) line ∙ (ap (λ q. with_line_by (lock_wanted f commute n) (line_in f n) (wait_for q (made_of old))) parts ∙ ap (λ m. with_line_by (lock_wanted f commute n) (line_in f n) (wait_for (parts_of f commute (sources_after f commute n) n) m)) mk.made))

  -- with few reservations, the line is over where the graph passes a limit with it, or wants names
  over_is : is_over f commute n ≡ (is_beyond (graph_of f commute target) || (is_none (first_number f) && nat_lt (suc n) (length target.lines)))
  unfolding is_over
  over_is = ap (λ b. b || (not (wants_many f commute (length f.lines)) && (is_beyond (graph_of f commute target) || (is_none (first_number f) && nat_lt (suc n) (length target.lines))))) (few_before f commute (suc n) (length f.lines) (omega arith) few)
      ∙ ap (λ b. not b && (is_beyond (graph_of f commute target) || (is_none (first_number f) && nat_lt (suc n) (length target.lines)))) few

  pub past_over : IsPast (with_line_by o l (wait_for p (made_of old))) → is_over f commute n ≡ true
  past_over h = over_is ∙ or_left (is_beyond (graph_of f commute target)) _ (past_beyond f commute target (made_format f commute (number_from f) (suc n)) (subst IsPast next_is h))

  -- what is made, before it is put into the graph
  module _ (m : Making) (made : made_of m ≡ with_line_by o l (wait_for p (made_of old))) (graph : m.graph ≡ old.graph) (named : m.named ≡ old.named) where
    all : made_of m ≡ target
    all = made ∙ next_is

    lines_are : m.graph.lines ++ m.row.items ≡ target.lines
    lines_are = ap (λ (x : Made). x.lines) all

    count : length m.graph.lines + length m.row.items ≡ length target.lines
    count = sym (length-append m.graph.lines m.row.items) ∙ ap length lines_are

    named_is : m.named ≡ is_some (first_number f)
    named_is = named ∙ mk.named

    alone : m.named ≡ false → length m.graph.lines ≡ n
    alone h = ap (λ (g : GraphValue). length g.lines) graph ∙ mk.alone (sym named ∙ h)

    pub alone_over : m.named ≡ false → 1 < length m.row.items → is_over f commute n ≡ true
    alone_over h more =
        let a : length m.graph.lines ≡ n = alone h in
        let c : length m.graph.lines + length m.row.items ≡ length target.lines = count in
        over_is ∙ or_right (is_beyond (graph_of f commute target)) _ (and_from (is_none (first_number f)) _ (none_some (first_number f) (sym named_is ∙ h)) (lt-ltb (suc n) (length target.lines) (omega arith)))

    format_is : m.graph.format ≡ f.format
    format_is = ap (λ (g : GraphValue). g.format) graph ∙ mk.format

    decls_is : m.graph.decls ≡ f.decls ++ reservations f commute
    decls_is = ap (λ (g : GraphValue). g.decls) graph ∙ mk.decls

    whole : with_lines m.graph m.row.items ≡ graph_of f commute target
    whole = ap (λ x. lined x m.graph.decls (m.graph.lines ++ m.row.items)) format_is ∙ (ap (λ x. lined f.format x (m.graph.lines ++ m.row.items)) decls_is ∙ ap (λ x. lined f.format (f.decls ++ reservations f commute) x) lines_are)

    pub beyond_over : is_beyond (with_lines m.graph m.row.items) ≡ true → is_over f commute n ≡ true
    beyond_over h = over_is ∙ or_left (is_beyond (graph_of f commute target)) _ (ap is_beyond (sym whole) ∙ h)

    -- the target has a line more than what stood before, at least
    longer : length (made_of old).lines + 1 ≤ length target.lines
    longer =
        let g : length (made_after f commute (number_from f) n).lines ≤ length waiting.0.lines = wait_grows f commute flow (number_from f) n next in
        let b : length (made_of old).lines ≡ length (made_after f commute (number_from f) n).lines = ap (λ (x : Made). length x.lines) mk.made in
        let t : length waiting.0.lines + 1 ≤ length target.lines = by_longer (lock_wanted f commute n) (line_in f n) waiting in
        omega arith

    old_length : length (made_of old).lines ≡ length old.graph.lines
    old_length = ap length (ap (λ xs. old.graph.lines ++ xs) mk.row ∙ append-nil old.graph.lines)

    -- where no name is left, nothing but the line itself is made
    module _ (single : m.named ≡ false → length m.row.items ≤ 1) where
      pub within_over : is_beyond (with_lines m.graph m.row.items) ≡ false → is_over f commute n ≡ false
      within_over h = over_is ∙ both_not (is_beyond (graph_of f commute target)) _ (ap is_beyond (sym whole) ∙ h) (elim (cases_Bool m.named) [
        | inl some ↦ ap (λ b. b && nat_lt (suc n) (length target.lines)) (some_none (first_number f) (sym named_is ∙ some))
        | inr none ↦ (
            let a : length m.graph.lines ≡ n = alone none in
            let s : length m.row.items ≤ 1 = single none in
            let c : length m.graph.lines + length m.row.items ≡ length target.lines = count in
            ap (λ b. is_none (first_number f) && b) (le-ltb (suc n) (length target.lines) (omega arith)) ∙ and_false (is_none (first_number f)))
      ])
        where
          and_false : (b : Bool) → (b && false) ≡ false
          and_false true = refl
          and_false false = refl

      pub alone_next : m.named ≡ false → length target.lines ≡ n + 1
      alone_next h =
          let a : length m.graph.lines ≡ n = alone h in
          let s : length m.row.items ≤ 1 = single h in
          let c : length m.graph.lines + length m.row.items ≡ length target.lines = count in
          let g : length (made_of old).lines + 1 ≤ length target.lines = longer in
          let b : length (made_of old).lines ≡ length old.graph.lines = old_length in
          let q : length old.graph.lines ≡ n = mk.alone (sym named ∙ h) in
          omega arith

      -- the lines that are made fit, by whether there are names
      to_fit_by : length (made_of m).lines ≤ (limits m.graph.format).lines → (b : Bool) → m.named ≡ b → AreToFit f.format (f.decls ++ reservations f commute) m.graph.lines m.row.items
      unfolding number_from first_number
      to_fit_by few_made b e =
          let st = made_stands f commute flow (number_from f) (suc n) (omega arith) in
          let few_lines : length target.lines ≤ (limits f.format).lines = subst (λ (x : Made). length x.lines ≤ (limits f.format).lines) all (subst (λ fm. length (made_of m).lines ≤ (limits fm).lines) format_is few_made) in
          let most_lines : (limits f.format).lines ≤ 65536 = lines_most f.format in
          let small : number_from f ≤ 100000000000000000 = number_small f (find (is_free f) (range_with_len 6 13)) refl in
          let first : target.first ≡ number_from f = st.2 in
          let free : (m.named ≡ true) → (k : ℕ) → k < 131072 → is_used f (new_name (target.first + k)) ≡ false = λ some k h. ap (λ z. is_used f (new_name (z + k))) first ∙ fresh_from f k h (find (is_free f) (range_with_len 6 13)) refl (sym named_is ∙ some) in
          fit_from f commute flow (suc n) (omega arith) target st.0 st.1 few_lines (omega arith) (reservations f commute) (reservations_are f commute)
          (λ d c. reserved_at f commute few target.first first b (sym named_is ∙ e) (λ some k h. free (e ∙ some) k h) d c)
          (λ some i h contended. room_at f commute b (sym named_is ∙ e) (λ none. (
          let a : length target.lines ≡ n + 1 = alone_next (e ∙ none) in
          let t : length target.lines ≡ suc n + length target.merges + st.1.guards = st.1.tally in
          let z : ⊥ = absurd (omega arith) in z)) i (omega arith) contended)
          (λ k h. elim (cases_Bool m.named) [
            | inl some ↦ inl (free some k (omega arith))
            | inr none ↦ (
                let a : length target.lines ≡ n + 1 = alone_next none in
                let t : length target.lines ≡ suc n + length target.merges + st.1.guards = st.1.tally in
                inr (no_items target.merges (omega arith), (let z : st.1.guards ≡ 0 = omega arith in z)))
          ]) m.graph.lines m.row.items (sym lines_are)

      pub to_fit : length (made_of m).lines ≤ (limits m.graph.format).lines → AreToFit m.graph.format m.graph.decls m.graph.lines m.row.items
      to_fit few_made = subst (λ x. AreToFit x m.graph.decls m.graph.lines m.row.items) (sym format_is) (subst (λ x. AreToFit f.format x m.graph.lines m.row.items) (sym decls_is) (to_fit_by few_made m.named refl))

      -- a line is made at least
      pub row_some : m.row.items ≡ [] → ⊥
      row_some none =
          let c : length m.graph.lines + length m.row.items ≡ length target.lines = count in
          let z : length m.row.items ≡ 0 = ap length none in
          let s : length m.graph.lines ≡ length old.graph.lines = ap (λ (g : GraphValue). length g.lines) graph in
          let g : length (made_of old).lines + 1 ≤ length target.lines = longer in
          let b : length (made_of old).lines ≡ length old.graph.lines = old_length in
          let no : ⊥ = absurd (omega arith) in no

      pub making_next : (new : Making) → new.graph ≡ with_lines m.graph m.row.items → new.row.items ≡ [] → made_of new ≡ made_of m → new.named ≡ m.named → IsMaking f commute (n + 1) new
      making_next new put row same kept =
          let whole_is : new.graph ≡ graph_of f commute target = put ∙ whole in
          let step : suc n ≡ n + 1 = omega arith in
          record {
            format = ap (λ (g : GraphValue). g.format) whole_is;
            decls = ap (λ (g : GraphValue). g.decls) whole_is;
            row = row;
            made = same ∙ (all ∙ ap (λ k. made_after f commute (number_from f) k) step);
            named = kept ∙ named_is;
            alone = λ h. ap (λ (g : GraphValue). length g.lines) whole_is ∙ alone_next (sym kept ∙ h);
          }

pub wants_true : (b : Bool) (k : ℕ) → (not b && nat_lt 1 k) ≡ true → (b ≡ false) × (1 < k)
wants_true true k h = absurd (true≢false (sym h))
wants_true false k h = (refl, ltb-true 1 k h)

pub wants_false : (b : Bool) (k : ℕ) → (not b && nat_lt 1 k) ≡ false → b ≡ false → k ≤ 1
wants_false true k h e = absurd (true≢false e)
wants_false false k h e = ltb-false 1 k h

-- before the first line
unwrapped : (o : Option ℕ) → unwrap_or o 0 ≡ option_map_or (λ n. n) o 0
unwrapped None = refl
unwrapped (Some x) = refl

pub first_small : (f : GraphValue) (o : Option ℕ) → o ≡ first_number f → unwrap_or o 0 ≤ 100000000000000000
unfolding first_number
first_small f o e = subst (λ z. z ≤ 100000000000000000) (sym (ap (λ x. unwrap_or x 0) e ∙ unwrapped (first_number f))) (number_small f (find (is_free f) (range_with_len 6 13)) refl)

pub first_is : (f : GraphValue) (o : Option ℕ) → o ≡ first_number f → unwrap_or o 0 ≡ number_from f
unfolding number_from
first_is f o e = ap (λ x. unwrap_or x 0) e ∙ unwrapped (first_number f)

abbrev made_with : Format → List Line → List ℕ → List (List ℕ × ℕ) → ℕ → Made
made_with fm lines places merges first = record { format = fm; lines = lines; places = places; merges = merges; first = first }

pub making_first : (f : GraphValue) (commute : Bool) (m : Making) → m.graph ≡ lined f.format (f.decls ++ reservations f commute) [] → m.row.items ≡ [] → m.places.items ≡ [] → m.merges ≡ [] → m.first ≡ number_from f → m.named ≡ is_some (first_number f) → IsMaking f commute 0 m
making_first f commute m graph row places merges first named =
    let lines : m.graph.lines ++ m.row.items ≡ [] = ap (λ xs. m.graph.lines ++ xs) row ∙ (append-nil m.graph.lines ∙ ap (λ (g : GraphValue). g.lines) graph) in
    record {
      format = ap (λ (g : GraphValue). g.format) graph;
      decls = ap (λ (g : GraphValue). g.decls) graph;
      row = row;
      made = ap (λ x. made_with x (m.graph.lines ++ m.row.items) m.places.items m.merges m.first) (ap (λ (g : GraphValue). g.format) graph)
          ∙ (ap (λ x. made_with f.format x m.places.items m.merges m.first) lines ∙ (ap (λ x. made_with f.format [] x m.merges m.first) places ∙ (ap (λ x. made_with f.format [] [] x m.first) merges ∙ ap (λ x. made_with f.format [] [] [] x) first)));
      named = named;
      alone = λ h. ap (λ (g : GraphValue). length g.lines) graph;
    }

-- after the last line
pub making_done : (f : GraphValue) (commute : Bool) (n : ℕ) (m : Making) → IsMaking f commute n m → n ≡ length f.lines → m.graph ≡ written f commute
unfolding written
making_done f commute n m k all =
    let lines : m.graph.lines ≡ (made_after f commute (number_from f) (length f.lines)).lines = sym (append-nil m.graph.lines) ∙ (ap (λ xs. m.graph.lines ++ xs) (sym k.row) ∙ (ap (λ (x : Made). x.lines) k.made ∙ ap (λ z. (made_after f commute (number_from f) z).lines) all)) in
    ap (λ x. lined x m.graph.decls m.graph.lines) k.format ∙ (ap (λ x. lined f.format x m.graph.lines) k.decls ∙ ap (λ x. lined f.format (f.decls ++ reservations f commute) x) lines)

pub number_free : (f : GraphValue) → is_some (first_number f) ≡ true → (i : ℕ) → i < 131072 → is_used f (new_name (number_from f + i)) ≡ false
unfolding number_from first_number
number_free f some i h = fresh_from f i h (find (is_free f) (range_with_len 6 13)) refl some

-- the declarations of a flow with its reservations
pub none_declared : (f : GraphValue) (commute : Bool) (g : GraphValue) → g ≡ lined f.format f.decls [] → None ≡ first_number f → g ≡ lined f.format (f.decls ++ reservations f commute) []
none_declared f commute g is none = is ∙ ap (λ xs. lined f.format xs []) (sym (append-nil f.decls) ∙ ap (λ xs. f.decls ++ xs) (sym (reservations_none f commute none)))

pub number_few : (f : GraphValue) (first : ℕ) → Some first ≡ first_number f → first ≤ 100000000000000000
number_few f first is = first_small f (Some first) is

number_is : (f : GraphValue) (first : ℕ) → Some first ≡ first_number f → first ≡ number_from f
number_is f first is = first_is f (Some first) is

module _ (f : GraphValue) (s : Sections) (a : AreSections f s) (g : GraphValue) (is : g ≡ lined f.format f.decls []) (first : ℕ) (numbers : Some first ≡ first_number f) where
  pub locks_declared : lined g.format (g.decls ++ locks_from (first + (limits g.format).lines) s.columns) [] ≡ lined f.format (f.decls ++ reservations f s.commute) []
  locks_declared =
      ap (λ (z : GraphValue). lined z.format (z.decls ++ locks_from (first + (limits z.format).lines) s.columns) []) is
      ∙ (ap (λ xs. lined f.format (f.decls ++ locks_from (first + (limits f.format).lines) xs) []) a.columns ∙ ap (λ xs. lined f.format (f.decls ++ xs) []) (sym (reservations_some f s.commute first numbers)))

  -- the names of reservations are free one after the other
  pub locks_free : (k : ℕ) → k < length s.columns → is_used (lined g.format (g.decls ++ take k (locks_from (first + (limits g.format).lines) s.columns)) []) (new_name (first + (limits g.format).lines + k)) ≡ false
  unfolding first_number
  locks_free k h =
      let free : (i : ℕ) → i < 131072 → is_used f (new_name (number_from f + i)) ≡ false = λ i b. number_free f (ap is_some (sym numbers)) i b in
      let lines : (limits f.format).lines ≤ 65536 = lines_most f.format in
      let most : (limits f.format).locks ≤ 1024 = locks_most f.format in
      let count : length (locks f) + length s.columns ≤ (limits f.format).locks = ltb-false (limits f.format).locks (length (locks f) + length s.columns) (ap (λ xs. nat_lt (limits f.format).locks (length (locks f) + length xs)) a.columns ∙ a.few) in
      let start : first ≡ number_from f = number_is f first numbers in
      let few : first ≤ 100000000000000000 = number_few f first numbers in
      ap (λ (z : GraphValue). is_used (lined z.format (z.decls ++ take k (locks_from (first + (limits z.format).lines) s.columns)) []) (new_name (first + (limits z.format).lines + k))) is
      ∙ unused_where (lined f.format (f.decls ++ take k (locks_from (first + (limits f.format).lines) s.columns)) []) (new_name (first + (limits f.format).lines + k)) (λ d c. elim (Contains-append_cases f.decls (take k (locks_from (first + (limits f.format).lines) s.columns)) d c) [
        | inl own ↦ used_decl f (new_name (first + (limits f.format).lines + k)) (ap (λ z. is_used f (new_name z)) (let e : first + (limits f.format).lines + k ≡ number_from f + ((limits f.format).lines + k) = omega arith in e) ∙ free ((limits f.format).lines + k) (omega arith)) d own
        | inr lock ↦ (
            let r = lock_before (first + (limits f.format).lines) s.columns k d lock in
            let b : r.0 < k = r.1 in
            λ same. true≢false (sym ((bytes_eq-Decides (new_name (first + (limits f.format).lines + k)) (new_name (first + (limits f.format).lines + r.0))).1 (same ∙ ap decl_name r.2)) ∙ new_differ (first + (limits f.format).lines + k) (first + (limits f.format).lines + r.0) (omega arith) (omega arith) (λ e. (let q : first + (limits f.format).lines + k ≡ first + (limits f.format).lines + r.0 = e in let z : ⊥ = absurd (omega arith) in z))))
      ]) (λ l c. absurd (contains_none l c))

  -- where the reservations are too much, any line is
  pub locks_over : 0 < length s.columns → is_beyond (lined g.format (g.decls ++ locks_from (first + (limits g.format).lines) s.columns) []) ≡ true → is_over f s.commute 0 ≡ true
  unfolding is_over
  locks_over some h =
      let over : is_beyond (graph_of f s.commute (made_after f s.commute (number_from f) 1)) ≡ true = beyond_more (lined f.format (f.decls ++ reservations f s.commute) []) (made_after f s.commute (number_from f) 1).lines (ap is_beyond (sym locks_declared) ∙ h) in
      ap (λ b. wants_many f s.commute 1 || (not b && (is_beyond (graph_of f s.commute (made_after f s.commute (number_from f) 1)) || (is_none (first_number f) && nat_lt 1 (length (made_after f s.commute (number_from f) 1).lines))))) a.few
      ∙ or_right (wants_many f s.commute 1) _ (or_left (is_beyond (graph_of f s.commute (made_after f s.commute (number_from f) 1))) _ over)

  pub locks_some : 0 < length s.columns → 0 < length f.lines
  locks_some some = by (length f.lines) a.columns
    where
      by : (n : ℕ) → s.columns ≡ needed f s.commute n → 0 < n
      by zero e = let z : length s.columns ≡ 0 = ap length e in absurd (omega arith)
      by (suc n) e = omega arith
