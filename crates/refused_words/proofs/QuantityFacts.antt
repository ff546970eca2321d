-- A line that Limit refuses brings a quantity above its bound.
use Rattle.std.proofs.Common.{◌≡◌, ℕ, ◌+◌, ◌<◌, Bool, true, false, cond, ◌&&◌, ◌||◌, ◌⊎◌, inl, inr, List, [], ◌∷◌, ◌++◌, length, refl, sym, ◌∙◌, ap, append-nil, append_assoc, arith}
use Rattle.std.specs.Prelude.{Some, is_some, find, filter, filter_map, nat_lt, codes}
use Rattle.std.specs.List.{list_any}
use Rattle.std.proofs.lemmas.Bool.{true≢false, and_parts, or_parts, or_cases, or_right, ltb-true}
use Rattle.graph_terms.specs.declared.limits.TheConstants.{MAX_TEXT, MAX_SPACES, MAX_CALL_ACCESSES}
use Rattle.graph_terms.specs.Limits.{limits}
use Rattle.graph_terms.specs.declared.decl.Decl.{Decl}
use Rattle.graph_terms.specs.declared.decl.Decl.TheVariants.{Space, Inst, Data, Lock, Barrier}
use Rattle.graph_terms.specs.declared.format.Format.{Format}
use Rattle.graph_terms.specs.declared.format.Format.TheVariants.{One, Two, Three}
use Rattle.graph_terms.specs.declared.verb.Line.{Line}
use Rattle.graph_terms.specs.declared.verb.Verb.{Verb}
use Rattle.graph_terms.specs.declared.verb.Verb.TheVariants.{Merge, MergeIgnore, Call}
use Rattle.graph_terms.specs.declared.why.Why.TheVariants as reasons
use Rattle.graph_terms.specs.Edges.{edges}
use Rattle.graph_terms.specs.Fits.{IsGraph, DeclsFit, LinesFit, decl_tests, line_tests, decl_fault, line_fault, is_large, has_many_spaces, is_beyond, merged_events, names_many, accesses_many, is_inst, cell_count, with_decl, with_line}
use Rattle.graph_terms.specs.Graph.{GraphValue, named_spaces, columns_of, data_columns_of, lock_of, barrier_of, locks, barriers}
use Rattle.graph_terms.specs.Spelling.{head}
use Rattle.graph_indexes.specs.declared.counts.Counts.{Counts}
use Rattle.graph_indexes.specs.Counts.{cells_of_decl}
use Rattle.graph_model.proofs.CountLaws.{counts_with_decl}
use Rattle.index_spaces.specs.Space.{space_size}
use Rattle.graph_reader.specs.FirstFault.{words_fault, item_fault}
use Rattle.graph_words.proofs.Public.{each_fails}
use Rattle.refused_words.specs.Limits.{QuantityValue, quantity, is_above, spaces_quantity, spaces_of, column_count, decl_quantities, verb_quantities, on_quantities, event_quantities, line_quantities, item_quantities, limit_in, limit_of}
use Rattle.refused_words.specs.Laws.{is_long_with, is_long_in, is_long_by}
use Rattle.refused_words.proofs.ReasonFacts.{item_told, item_refused}

abbrev of_items : Format → List Decl → List Line → GraphValue
of_items fm ds ls = record { format = fm; decls = ds; lines = ls }

-- a graph is within all bounds
lines_within : (fm : Format) (ds : List Decl) (before ls : List Line) → LinesFit fm ds before ls → is_beyond (of_items fm ds before) ≡ false → is_beyond (of_items fm ds (before ++ ls)) ≡ false
lines_within fm ds before [] f h = ap (λ xs. is_beyond (of_items fm ds xs)) (append-nil before) ∙ h
lines_within fm ds before (l ∷ ls) f h =
    let t = each_fails (line_tests (of_items fm ds before) l) f.1 in
    let now : is_beyond (of_items fm ds (before ++ l ∷ [])) ≡ false = (or_parts (accesses_many l.verb) _ (or_parts (names_many fm l.verb l.on) _ t.1.1.1.1.1.1.1.0).1).1 in
    ap (λ xs. is_beyond (of_items fm ds xs)) (sym (append_assoc before (l ∷ []) ls)) ∙ lines_within fm ds (before ++ l ∷ []) ls f.2 now

decls_within : (fm : Format) (before ds : List Decl) → DeclsFit fm before ds → is_beyond (of_items fm before []) ≡ false → is_beyond (of_items fm (before ++ ds) []) ≡ false
decls_within fm before [] f h = ap (λ xs. is_beyond (of_items fm xs [])) (append-nil before) ∙ h
decls_within fm before (d ∷ ds) f h =
    let t = each_fails (decl_tests (of_items fm before []) d) f.1 in
    let now : is_beyond (of_items fm (before ++ d ∷ []) []) ≡ false = (or_parts (is_large fm d) _ t.1.1.1.1.0).1 in
    ap (λ xs. is_beyond (of_items fm xs [])) (sym (append_assoc before (d ∷ []) ds)) ∙ decls_within fm (before ++ d ∷ []) ds f.2 now

empty_within : (fm : Format) → is_beyond (of_items fm [] []) ≡ false
empty_within One = refl
empty_within Two = refl
empty_within Three = refl

pub graph_within : (g : GraphValue) → IsGraph g → is_beyond g ≡ false
graph_within g f = lines_within g.format g.decls [] g.lines f.lines (decls_within g.format [] g.decls f.decls (empty_within g.format))

-- one that is above is found
found_by : (q : QuantityValue) (qs : List QuantityValue) (b : Bool) → (b || list_any is_above qs) ≡ true → (list_any is_above qs ≡ true → is_some (find is_above qs) ≡ true) → is_some (cond b (Some q) (find is_above qs)) ≡ true
found_by q qs true h again = refl
found_by q qs false h again = again h

pub some_above : (qs : List QuantityValue) → list_any is_above qs ≡ true → is_some (find is_above qs) ≡ true
some_above [] h = absurd (true≢false (sym h))
some_above (q ∷ qs) h = found_by q qs (is_above q) h (some_above qs)

any_last : (qs : List QuantityValue) (q : QuantityValue) → is_above q ≡ true → list_any is_above (qs ++ q ∷ []) ≡ true
any_last [] q h = ap (λ b. b || false) h
any_last (x ∷ qs) q h = ap (λ b. is_above x || b) (any_last qs q h) ∙ or_true (is_above x)
  where
    or_true : (b : Bool) → (b || true) ≡ true
    or_true true = refl
    or_true false = refl

any_before : (qs more : List QuantityValue) → list_any is_above qs ≡ true → list_any is_above (qs ++ more) ≡ true
any_before [] more h = absurd (true≢false (sym h))
any_before (x ∷ qs) more h = elim (or_cases (is_above x) (list_any is_above qs) h) [
  | inl a ↦ ap (λ b. b || list_any is_above (qs ++ more)) a
  | inr r ↦ ap (λ b. is_above x || b) (any_before qs more r) ∙ or_true (is_above x)
]
  where
    or_true : (b : Bool) → (b || true) ≡ true
    or_true true = refl
    or_true false = refl

none_many : (most : ℕ) → nat_lt most 0 ≡ true → ⊥
none_many most h = let b : most < 0 = ltb-true most 0 h in omega arith

many_merged : (format : Format) (v : Verb) → nat_lt (limits format).events (length (merged_events v)) ≡ true → list_any is_above (verb_quantities format v) ≡ true
many_merged format (Merge events) h = ap (λ b. b || false) h
many_merged format (MergeIgnore events) h = ap (λ b. b || false) h
many_merged format v h = absurd (none_many (limits format).events h)

many_accesses : (format : Format) (v : Verb) → accesses_many v ≡ true → list_any is_above (verb_quantities format v) ≡ true
many_accesses format (Call call) h = ap (λ b. b || false) h
many_accesses format v h = absurd (none_many MAX_CALL_ACCESSES h)

many_behind : (format : Format) (on : List ℕ) → nat_lt (limits format).events (length on) ≡ true → list_any is_above (on_quantities format on) ≡ true
many_behind format [] h = absurd (none_many (limits format).events h)
many_behind format (e ∷ es) h = ap (λ b. b || false) h

any_behind : (qs more : List QuantityValue) → list_any is_above more ≡ true → list_any is_above (qs ++ more) ≡ true
any_behind [] more h = h
any_behind (x ∷ qs) more h = or_right (is_above x) _ (any_behind qs more h)

many_events : (format : Format) (l : Line) → names_many format l.verb l.on ≡ true → list_any is_above (event_quantities format l) ≡ true
many_events format l h = elim (or_cases (nat_lt (limits format).events (length (merged_events l.verb))) _ h) [
  | inl a ↦ any_before (verb_quantities format l.verb) (on_quantities format l.on) (many_merged format l.verb a)
  | inr b ↦ any_behind (verb_quantities format l.verb) (on_quantities format l.on) (many_behind format l.on b)
]

-- more spaces than a long text may have are above their bound, or the text is too long
many_above : (f : Format) (n size : ℕ) → (nat_lt MAX_SPACES n && nat_lt MAX_TEXT size) ≡ true → (is_above (spaces_quantity f n) ≡ true) ⊎ (nat_lt (limits f).text size ≡ true)
many_above One n size h = inr (and_parts (nat_lt MAX_SPACES n) (nat_lt MAX_TEXT size) h).1
many_above Two n size h = inr (and_parts (nat_lt MAX_SPACES n) (nat_lt MAX_TEXT size) h).1
many_above Three n size h = inl (and_parts (nat_lt MAX_SPACES n) (nat_lt MAX_TEXT size) h).0

-- which of the quantities is above, where those of the declarations are as before
over : (t p i c m k b n e x w y z : Bool) → (x || (w || (i || (c || (m || (k || (b || (y || z)))))))) ≡ false → (t || (p || (i || (c || (m || (k || (b || (n || e)))))))) ≡ true → (t ≡ true) ⊎ ((p ≡ true) ⊎ ((n ≡ true) ⊎ (e ≡ true)))
over true p i c m k b n e x w y z f h = inl refl
over false true i c m k b n e x w y z f h = inr (inl refl)
over false false i c m k b n e x w y z f h =
    let p = or_parts w _ (or_parts x _ f).1 in
    let q = or_parts i _ p.1 in
    let r = or_parts c _ q.1 in
    let s = or_parts m _ r.1 in
    let u = or_parts k _ s.1 in
    let v = or_parts b _ u.1 in
    inr (inr (or_cases n e (left b _ v.0 (left k _ u.0 (left m _ s.0 (left c _ r.0 (left i _ q.0 h)))))))
  where
    left : (a d : Bool) → a ≡ false → (a || d) ≡ true → d ≡ true
    left true d a h = absurd (true≢false a)
    left false d a h = h

module _ (g : GraphValue) (l : Line) where
  abbrev operations : QuantityValue
  operations = quantity (codes "operations") (length (with_line g l).lines) (limits g.format).lines

  abbrev last : QuantityValue
  last = quantity (codes "edges") (length (edges (with_line g l))) (limits g.format).edges

  -- one of the line is among those of the item
  among_all : list_any is_above (line_quantities (with_line g l) l) ≡ true → is_some (find is_above (item_quantities g (inr l))) ≡ true
  among_all h = some_above (item_quantities g (inr l)) (any_before (line_quantities (with_line g l) l) (spaces_of (with_line g l)) h)

  by_events : names_many g.format l.verb l.on ≡ true → is_some (find is_above (item_quantities g (inr l))) ≡ true
  by_events h = among_all (or_right (is_above operations) _ (any_before (event_quantities g.format l) (last ∷ []) (many_events g.format l h)))

  by_accesses : accesses_many l.verb ≡ true → is_some (find is_above (item_quantities g (inr l))) ≡ true
  by_accesses h = among_all (or_right (is_above operations) _ (any_before (event_quantities g.format l) (last ∷ []) (any_before (verb_quantities g.format l.verb) (on_quantities g.format l.on) (many_accesses g.format l.verb h))))

  by_lines : nat_lt (limits g.format).lines (length (with_line g l).lines) ≡ true → is_some (find is_above (item_quantities g (inr l))) ≡ true
  by_lines h = among_all (ap (λ b. b || list_any is_above (event_quantities g.format l ++ last ∷ [])) h)

  by_edges : nat_lt (limits g.format).edges (length (edges (with_line g l))) ≡ true → is_some (find is_above (item_quantities g (inr l))) ≡ true
  by_edges h = among_all (or_right (is_above operations) _ (any_last (event_quantities g.format l) last h))

  by_spaces : has_many_spaces (with_line g l) ≡ true → (is_some (find is_above (item_quantities g (inr l))) ≡ true) ⊎ (nat_lt (limits g.format).text (length (head (with_line g l))) ≡ true)
  by_spaces h = elim (many_above g.format (length (named_spaces g)) (length (head (with_line g l))) h) [
    | inl a ↦ inl (some_above (item_quantities g (inr l)) (any_last (line_quantities (with_line g l) l) (spaces_quantity g.format (length (named_spaces g))) a))
    | inr t ↦ inr t
  ]

  beyond_line : IsGraph g → is_beyond (with_line g l) ≡ true → (is_some (find is_above (item_quantities g (inr l))) ≡ true) ⊎ (nat_lt (limits g.format).text (length (head (with_line g l))) ≡ true)
  beyond_line f o = elim (over (nat_lt (limits g.format).text (length (head (with_line g l)))) (has_many_spaces (with_line g l)) (nat_lt (limits g.format).insts (length (filter is_inst g.decls))) (nat_lt (limits g.format).columns (column_count g))
      (nat_lt (limits g.format).cells (cell_count g)) (nat_lt (limits g.format).locks (length (locks g))) (nat_lt (limits g.format).barriers (length (barriers g)))
      (nat_lt (limits g.format).lines (length (with_line g l).lines)) (nat_lt (limits g.format).edges (length (edges (with_line g l))))
      (nat_lt (limits g.format).text (length (head g))) (has_many_spaces g) (nat_lt (limits g.format).lines (length g.lines)) (nat_lt (limits g.format).edges (length (edges g))) (graph_within g f) o) [
        | inl t ↦ inr t
        | inr r ↦ elim r [
          | inl p ↦ by_spaces p
          | inr q ↦ elim q [
            | inl n ↦ inl (by_lines n)
            | inr e ↦ inl (by_edges e)
          ]
        ]
      ]

  pub line_quantity : IsGraph g → line_fault g l ≡ Some reasons.Limit → (is_some (find is_above (item_quantities g (inr l))) ≡ true) ⊎ (nat_lt (limits g.format).text (length (head (with_line g l))) ≡ true)
  line_quantity f h = elim (or_cases (names_many g.format l.verb l.on) _ (item_told g reasons.Limit (inr l) h)) [
    | inl m ↦ inl (by_events m)
    | inr later ↦ elim (or_cases (accesses_many l.verb) (is_beyond (with_line g l)) later) [
      | inl a ↦ inl (by_accesses a)
      | inr o ↦ beyond_line f o
    ]
  ]

-- a declaration
-- which of the quantities is above, where those of the lines are as before
over_decl : (t p i c m k b n e : Bool) → n ≡ false → e ≡ false → (t || (p || (i || (c || (m || (k || (b || (n || e)))))))) ≡ true → (t ≡ true) ⊎ ((p ≡ true) ⊎ ((i || (c || (m || (k || b)))) ≡ true))
over_decl true p i c m k b n e x y h = inl refl
over_decl false true i c m k b n e x y h = inr (inl refl)
over_decl false false true c m k b n e x y h = inr (inr refl)
over_decl false false false true m k b n e x y h = inr (inr refl)
over_decl false false false false true k b n e x y h = inr (inr refl)
over_decl false false false false false true b n e x y h = inr (inr refl)
over_decl false false false false false false true n e x y h = inr (inr refl)
over_decl false false false false false false false true e x y h = absurd (true≢false x)
over_decl false false false false false false false false e x y h = absurd (true≢false (sym h ∙ y))

over_space : (i c m k b : Bool) → i ≡ false → c ≡ false → m ≡ false → k ≡ false → b ≡ false → (i || (c || (m || (k || b)))) ≡ true → ⊥
over_space true c m k b p q r s t h = true≢false p
over_space false true m k b p q r s t h = true≢false q
over_space false false true k b p q r s t h = true≢false r
over_space false false false true b p q r s t h = true≢false s
over_space false false false false b p q r s t h = true≢false (sym h ∙ t)

over_inst : (i c m k b : Bool) → k ≡ false → b ≡ false → (i || (c || (m || (k || b)))) ≡ true → (i || (c || (m || false))) ≡ true
over_inst true c m k b s t h = refl
over_inst false true m k b s t h = refl
over_inst false false true k b s t h = refl
over_inst false false false true b s t h = absurd (true≢false s)
over_inst false false false false b s t h = absurd (true≢false (sym h ∙ t))

over_data : (i c m k b : Bool) → i ≡ false → m ≡ false → k ≡ false → b ≡ false → (i || (c || (m || (k || b)))) ≡ true → (c || false) ≡ true
over_data true c m k b p r s t h = absurd (true≢false p)
over_data false true m k b p r s t h = refl
over_data false false true k b p r s t h = absurd (true≢false r)
over_data false false false true b p r s t h = absurd (true≢false s)
over_data false false false false b p r s t h = absurd (true≢false (sym h ∙ t))

over_lock : (i c m k b : Bool) → i ≡ false → c ≡ false → m ≡ false → b ≡ false → (i || (c || (m || (k || b)))) ≡ true → (k || false) ≡ true
over_lock true c m k b p q r t h = absurd (true≢false p)
over_lock false true m k b p q r t h = absurd (true≢false q)
over_lock false false true k b p q r t h = absurd (true≢false r)
over_lock false false false true b p q r t h = refl
over_lock false false false false b p q r t h = absurd (true≢false (sym h ∙ t))

over_barrier : (i c m k b : Bool) → i ≡ false → c ≡ false → m ≡ false → k ≡ false → (i || (c || (m || (k || b)))) ≡ true → (b || false) ≡ true
over_barrier true c m k b p q r s h = absurd (true≢false p)
over_barrier false true m k b p q r s h = absurd (true≢false q)
over_barrier false false true k b p q r s h = absurd (true≢false r)
over_barrier false false false true b p q r s h = absurd (true≢false s)
over_barrier false false false false b p q r s h = ap (λ x. x || false) h

or_none : (a b : Bool) → (a || b) ≡ true → (a || (b || false)) ≡ true
or_none true b h = refl
or_none false b h = ap (λ x. x || false) h

-- a quantity to which nothing is added is within its bound as before
still : (bound a b more : ℕ) → a ≡ b + more → more ≡ 0 → nat_lt bound b ≡ false → nat_lt bound a ≡ false
still bound a b more e none h = ap (nat_lt bound) (let same : a ≡ b = omega arith in same) ∙ h

module _ (g : GraphValue) (f : IsGraph g) where
  within : (nat_lt (limits g.format).insts (length (filter is_inst g.decls)) ≡ false) × ((nat_lt (limits g.format).columns (column_count g) ≡ false) × ((nat_lt (limits g.format).cells (cell_count g) ≡ false)
      × ((nat_lt (limits g.format).locks (length (locks g)) ≡ false) × ((nat_lt (limits g.format).barriers (length (barriers g)) ≡ false) × ((nat_lt (limits g.format).lines (length g.lines) ≡ false) × (nat_lt (limits g.format).edges (length (edges g)) ≡ false))))))
  within =
      let p = or_parts (nat_lt (limits g.format).text (length (head g))) _ (graph_within g f) in
      let o = or_parts (has_many_spaces g) _ p.1 in
      let q = or_parts (nat_lt (limits g.format).insts (length (filter is_inst g.decls))) _ o.1 in
      let r = or_parts (nat_lt (limits g.format).columns (column_count g)) _ q.1 in
      let s = or_parts (nat_lt (limits g.format).cells (cell_count g)) _ r.1 in
      let u = or_parts (nat_lt (limits g.format).locks (length (locks g))) _ s.1 in
      let v = or_parts (nat_lt (limits g.format).barriers (length (barriers g))) _ u.1 in
      let w = or_parts (nat_lt (limits g.format).lines (length g.lines)) _ v.1 in
      (q.0, (r.0, (s.0, (u.0, (v.0, (w.0, w.1))))))

  -- what a declaration leaves as it was
  module _ (d : Decl) where
    abbrev more : GraphValue
    more = with_decl g d

    abbrev above_insts : Bool
    above_insts = nat_lt (limits g.format).insts (length (filter is_inst more.decls))

    abbrev above_columns : Bool
    above_columns = nat_lt (limits g.format).columns (column_count more)

    abbrev above_cells : Bool
    above_cells = nat_lt (limits g.format).cells (cell_count more)

    abbrev above_locks : Bool
    above_locks = nat_lt (limits g.format).locks (length (locks more))

    abbrev above_barriers : Bool
    above_barriers = nat_lt (limits g.format).barriers (length (barriers more))

    insts_still : length (filter is_inst (d ∷ [])) ≡ 0 → nat_lt (limits g.format).insts (length (filter is_inst more.decls)) ≡ false
    insts_still none = still (limits g.format).insts _ _ _ (ap (λ (x : Counts). x.insts) (counts_with_decl g d f)) none within.0

    columns_still : length (columns_of d) + length (data_columns_of d) ≡ 0 → nat_lt (limits g.format).columns (column_count more) ≡ false
    columns_still none = still (limits g.format).columns _ _ _ (ap (λ (x : Counts). x.columns) (counts_with_decl g d f)) none within.1.0

    cells_still : cells_of_decl g d ≡ 0 → nat_lt (limits g.format).cells (cell_count more) ≡ false
    cells_still none = still (limits g.format).cells _ _ _ (ap (λ (x : Counts). x.cells) (counts_with_decl g d f)) none within.1.1.0

    locks_still : length (filter_map lock_of (d ∷ [])) ≡ 0 → nat_lt (limits g.format).locks (length (locks more)) ≡ false
    locks_still none = still (limits g.format).locks _ _ _ (ap (λ (x : Counts). x.locks) (counts_with_decl g d f)) none within.1.1.1.0

    barriers_still : length (filter_map barrier_of (d ∷ [])) ≡ 0 → nat_lt (limits g.format).barriers (length (barriers more)) ≡ false
    barriers_still none = still (limits g.format).barriers _ _ _ (ap (λ (x : Counts). x.barriers) (counts_with_decl g d f)) none within.1.1.1.1.0

    beyond_by : is_beyond more ≡ true → (nat_lt (limits g.format).text (length (head more)) ≡ true) ⊎ ((has_many_spaces more ≡ true) ⊎ ((above_insts || (above_columns || (above_cells || (above_locks || above_barriers)))) ≡ true))
    beyond_by h = over_decl (nat_lt (limits g.format).text (length (head more))) (has_many_spaces more) above_insts above_columns above_cells above_locks above_barriers
        (nat_lt (limits g.format).lines (length g.lines)) (nat_lt (limits g.format).edges (length (edges g))) within.1.1.1.1.1.0 within.1.1.1.1.1.1 h

    -- one of the declaration is among those of the item
    declared : list_any is_above (decl_quantities more d) ≡ true → list_any is_above (item_quantities g (inl d)) ≡ true
    declared h = any_before (decl_quantities more d) (spaces_of more) h

    by_spaces_too : has_many_spaces more ≡ true → (list_any is_above (item_quantities g (inl d)) ≡ true) ⊎ (is_long_with g (inl d) ≡ true)
    by_spaces_too h = elim (many_above g.format (length (named_spaces more)) (length (head more)) h) [
      | inl a ↦ inl (any_last (decl_quantities more d) (spaces_quantity g.format (length (named_spaces more))) a)
      | inr t ↦ inr t
    ]

    -- what is above but for the spaces
    abbrev above_one : Bool
    above_one = above_insts || (above_columns || (above_cells || (above_locks || above_barriers)))

    beyond_with : (above_one ≡ true → list_any is_above (decl_quantities more d) ≡ true) → is_beyond more ≡ true → (list_any is_above (item_quantities g (inl d)) ≡ true) ⊎ (is_long_with g (inl d) ≡ true)
    beyond_with by h = elim (beyond_by h) [
      | inl t ↦ inr t
      | inr r ↦ elim r [
        | inl p ↦ by_spaces_too p
        | inr o ↦ inl (declared (by o))
      ]
    ]

  beyond_above : (d : Decl) → is_beyond (with_decl g d) ≡ true → (list_any is_above (item_quantities g (inl d)) ≡ true) ⊎ (is_long_with g (inl d) ≡ true)
  beyond_above (Space name space) h = beyond_with (Space name space) (λ o.
      absurd (over_space (above_insts (Space name space)) (above_columns (Space name space)) (above_cells (Space name space)) (above_locks (Space name space)) (above_barriers (Space name space)) (insts_still (Space name space) refl) (columns_still (Space name space) refl) (cells_still (Space name space) refl) (locks_still (Space name space) refl) (barriers_still (Space name space) refl) o)) h
  beyond_above (Inst name space fields) h = beyond_with (Inst name space fields) (λ o.
      over_inst (above_insts (Inst name space fields)) (above_columns (Inst name space fields)) (above_cells (Inst name space fields)) (above_locks (Inst name space fields)) (above_barriers (Inst name space fields)) (locks_still (Inst name space fields) refl) (barriers_still (Inst name space fields) refl) o) h
  beyond_above (Data name space fields) h = beyond_with (Data name space fields) (λ o.
      over_data (above_insts (Data name space fields)) (above_columns (Data name space fields)) (above_cells (Data name space fields)) (above_locks (Data name space fields)) (above_barriers (Data name space fields)) (insts_still (Data name space fields) refl) (cells_still (Data name space fields) refl) (locks_still (Data name space fields) refl) (barriers_still (Data name space fields) refl) o) h
  beyond_above (Lock name) h = beyond_with (Lock name) (λ o.
      over_lock (above_insts (Lock name)) (above_columns (Lock name)) (above_cells (Lock name)) (above_locks (Lock name)) (above_barriers (Lock name)) (insts_still (Lock name) refl) (columns_still (Lock name) refl) (cells_still (Lock name) refl) (barriers_still (Lock name) refl) o) h
  beyond_above (Barrier name count op first) h = beyond_with (Barrier name count op first) (λ o.
      over_barrier (above_insts (Barrier name count op first)) (above_columns (Barrier name count op first)) (above_cells (Barrier name count op first)) (above_locks (Barrier name count op first)) (above_barriers (Barrier name count op first)) (insts_still (Barrier name count op first) refl) (columns_still (Barrier name count op first) refl) (cells_still (Barrier name count op first) refl) (locks_still (Barrier name count op first) refl) o) h

  large_above : (d : Decl) → is_large g.format d ≡ true → list_any is_above (decl_quantities (with_decl g d) d) ≡ true
  large_above (Space name space) h = or_none (nat_lt (limits g.format).space.intervals (length space)) (nat_lt (limits g.format).space.points (space_size space)) h
  large_above d h = absurd (true≢false (sym h))

  decl_quantity : (d : Decl) → decl_fault g d ≡ Some reasons.Limit → (is_some (find is_above (item_quantities g (inl d))) ≡ true) ⊎ (is_long_with g (inl d) ≡ true)
  decl_quantity d h = elim (or_cases (is_large g.format d) (is_beyond (with_decl g d)) (item_told g reasons.Limit (inl d) h)) [
    | inl a ↦ inl (some_above (item_quantities g (inl d)) (declared d (large_above d a)))
    | inr b ↦ elim (beyond_above d b) [
      | inl a ↦ inl (some_above (item_quantities g (inl d)) a)
      | inr t ↦ inr t
    ]
  ]

  item_quantity : (i : Decl ⊎ Line) → item_fault g i ≡ Some reasons.Limit → (is_some (find is_above (item_quantities g i)) ≡ true) ⊎ (is_long_with g i ≡ true)
  item_quantity (inl d) h = decl_quantity d h
  item_quantity (inr l) h = line_quantity g l f h

pub limit_quantity : (g : GraphValue) (ws : List (List ℕ)) → IsGraph g → words_fault g ws ≡ Some reasons.Limit → (is_some (limit_of g ws) ≡ true) ⊎ (is_long_by g ws ≡ true)
limit_quantity g ws f h =
    let t = item_refused g reasons.Limit ws (λ e. cc) (λ ps. refl) h in
    elim (item_quantity g f t.spelled.item t.refused) [
      | inl a ↦ inl (ap (λ o. is_some (limit_in g o)) t.is ∙ a)
      | inr b ↦ inr (ap (is_long_in g) t.is ∙ b)
    ]
