-- Reservations that are put into a graph one by one.
use Rattle.std.proofs.Common.{◌≡◌, ℕ, zero, suc, ◌+◌, ◌<◌, ◌≤◌, Bool, true, false, cond, ◌||◌, List, [], ◌∷◌, ◌++◌, length, take, refl, sym, ◌∙◌, ap, subst, append-nil, append_assoc, length-append, arith}
use Rattle.std.specs.Prelude.{Option, Some, None, nat_lt, filter, filter_map, sum_by, is_some, slice_get}
use Rattle.std.specs.Option.{option_map_or}
use Rattle.std.proofs.lemmas.Bool.{true≢false}
use Rattle.std.proofs.lemmas.List.Elements.{filter-append, filter_map-append}
use Rattle.index_spaces.specs.Space.{space_size}
use Rattle.graph_terms.specs.declared.decl.ColumnInfo.{ColumnInfo}
use Rattle.graph_terms.specs.declared.decl.Decl.{Decl}
use Rattle.graph_terms.specs.declared.decl.Decl.TheVariants.{Lock}
use Rattle.graph_terms.specs.declared.format.Format.{Format}
use Rattle.graph_terms.specs.Limits.{limits}
use Rattle.graph_terms.specs.declared.why.Why.{Why}
use Rattle.graph_terms.specs.declared.why.Why.TheVariants as why
use Rattle.graph_terms.specs.Graph.{GraphValue, lock_of, barrier_of, columns, data_columns, locks, barriers, named_spaces}
use Rattle.graph_terms.specs.Fits.{is_used, is_inst, cell_count, with_decl, has_many_spaces, is_beyond, decl_fault}
use Rattle.graph_terms.specs.Spelling.{head, spelled, decl_words}
use Rattle.graph_terms.proofs.Public.{head_with_decl}
use Rattle.task_flow.specs.Fitting.{lined}
use Rattle.task_flow.specs.Construction.{new_name, locks_from}
use Rattle.task_flow.proofs.Fitting.{or_more, lt_more, spaces_more}
use Rattle.task_flow.proofs.Reservations.{locks_length, lock_at, spaces_stay, columns_stay, data_stay}
use Rattle.basics.proofs.ListParts.{take_more, take_whole}

-- a reservation with a name that is free fits, unless the graph passes a limit with it
pub lock_fault : (g : GraphValue) (name : List ℕ) → is_used g name ≡ false → decl_fault g (Lock name) ≡ cond (is_beyond (with_decl g (Lock name))) (Some why.Limit) None
lock_fault g name free = ap (λ b. cond (b || false) (Some why.Twice) (cond (is_beyond (with_decl g (Lock name))) (Some why.Limit) None)) free

same_more : (a b : Bool) → a ≡ b → a ≡ true → b ≡ true
same_more a b e h = sym e ∙ h

-- a graph of declarations that passes a limit still does with reservations more
beyond_lock : (fm : Format) (ds : List Decl) (name : List ℕ) → is_beyond (lined fm ds []) ≡ true → is_beyond (lined fm (ds ++ Lock name ∷ []) []) ≡ true
beyond_lock fm ds name h =
    let g : GraphValue = lined fm ds [] in
    let w : GraphValue = lined fm (ds ++ Lock name ∷ []) [] in
    let spaces : named_spaces w ≡ named_spaces g = spaces_stay ds (Lock name ∷ []) ((name, refl), tt) in
    let cols : columns w ≡ columns g = columns_stay ds (Lock name ∷ []) ((name, refl), tt) in
    let hosted : data_columns w ≡ data_columns g = data_stay ds (Lock name ∷ []) ((name, refl), tt) in
    let insts : filter is_inst (ds ++ Lock name ∷ []) ≡ filter is_inst ds = filter-append is_inst ds (Lock name ∷ []) ∙ append-nil (filter is_inst ds) in
    let walls : barriers w ≡ barriers g = filter_map-append barrier_of ds (Lock name ∷ []) ∙ append-nil (filter_map barrier_of ds) in
    let cells : cell_count w ≡ cell_count g = ap (λ ss. sum_by (λ (c : ColumnInfo). space_size (option_map_or (λ (x : List ℕ × List (ℕ × ℕ)). x.1) (slice_get ss c.space) [])) (columns w)) spaces ∙ ap (λ cs. sum_by (λ (c : ColumnInfo). space_size (option_map_or (λ (x : List ℕ × List (ℕ × ℕ)). x.1) (slice_get (named_spaces g) c.space) [])) cs) cols in
    let text : length (head g) ≤ length (head w) = (
    let is : length (head w) ≡ length (head g ++ spelled (decl_words g (Lock name))) = ap length (head_with_decl g (Lock name) refl) in
    let sum : length (head g ++ spelled (decl_words g (Lock name))) ≡ length (head g) + length (spelled (decl_words g (Lock name))) = length-append (head g) (spelled (decl_words g (Lock name))) in omega arith) in
    let count : length (locks g) ≤ length (locks w) = (
    let is : length (locks w) ≡ length (filter_map lock_of ds ++ name ∷ []) = ap length (filter_map-append lock_of ds (Lock name ∷ [])) in
    let sum : length (filter_map lock_of ds ++ name ∷ []) ≡ length (filter_map lock_of ds) + 1 = length-append (filter_map lock_of ds) (name ∷ []) in omega arith) in
    or_more (nat_lt (limits fm).text (length (head g))) (nat_lt (limits fm).text (length (head w))) _ _ (lt_more (limits fm).text (length (head g)) (length (head w)) text)
    (or_more (has_many_spaces g) (has_many_spaces w) _ _ (spaces_more g w spaces text)
    (or_more (nat_lt (limits fm).insts (length (filter is_inst ds))) (nat_lt (limits fm).insts (length (filter is_inst (ds ++ Lock name ∷ [])))) _ _ (same_more _ _ (ap (λ xs. nat_lt (limits fm).insts (length xs)) (sym insts)))
    (or_more (nat_lt (limits fm).columns (length (columns g) + length (data_columns g))) (nat_lt (limits fm).columns (length (columns w) + length (data_columns w))) _ _ (same_more _ _ (ap (λ k. nat_lt (limits fm).columns k) (ap (λ xs. length xs + length (data_columns g)) (sym cols) ∙ ap (λ xs. length (columns w) + length xs) (sym hosted))))
    (or_more (nat_lt (limits fm).cells (cell_count g)) (nat_lt (limits fm).cells (cell_count w)) _ _ (same_more _ _ (ap (λ k. nat_lt (limits fm).cells k) (sym cells)))
    (or_more (nat_lt (limits fm).locks (length (locks g))) (nat_lt (limits fm).locks (length (locks w))) _ _ (lt_more (limits fm).locks (length (locks g)) (length (locks w)) count)
    (or_more (nat_lt (limits fm).barriers (length (barriers g))) (nat_lt (limits fm).barriers (length (barriers w))) _ _ (same_more _ _ (ap (λ xs. nat_lt (limits fm).barriers (length xs)) (sym walls)))
    (λ x. x))))))) h

beyond_locks : (fm : Format) (n : ℕ) (cs : List ℕ) (ds : List Decl) → is_beyond (lined fm ds []) ≡ true → is_beyond (lined fm (ds ++ locks_from n cs) []) ≡ true
beyond_locks fm n [] ds h = subst (λ xs. is_beyond (lined fm xs []) ≡ true) (sym (append-nil ds)) h
beyond_locks fm n (c ∷ cs) ds h = subst (λ xs. is_beyond (lined fm xs []) ≡ true) (append_assoc ds (Lock (new_name n) ∷ []) (locks_from (suc n) cs)) (beyond_locks fm (suc n) cs (ds ++ Lock (new_name n) ∷ []) (beyond_lock fm ds (new_name n) h))

-- the first reservations, and the others
others : (n : ℕ) (cs : List ℕ) (k : ℕ) → (ds : List ℕ) × (locks_from n cs ≡ take k (locks_from n cs) ++ locks_from (n + k) ds)
others n cs zero = (cs, ap (λ z. locks_from z cs) (let e : n ≡ n + 0 = omega arith in e))
others n [] (suc k) = ([], refl)
others n (c ∷ cs) (suc k) = let r = others (suc n) cs k in (r.0, ap (λ xs. Lock (new_name n) ∷ xs) (r.1 ∙ ap (λ z. take k (locks_from (suc n) cs) ++ locks_from z r.0) (let e : suc n + k ≡ n + suc k = omega arith in e)))

module _ (fm : Format) (ds : List Decl) (n : ℕ) (cs : List ℕ) (k : ℕ) (h : k < length cs) (g : GraphValue) (is : g ≡ lined fm (ds ++ take k (locks_from n cs)) []) (name : List ℕ) (named : name ≡ new_name (n + k)) (free : is_used (lined fm (ds ++ take k (locks_from n cs)) []) (new_name (n + k)) ≡ false) where
  next_decls : (ds ++ take k (locks_from n cs)) ++ Lock name ∷ [] ≡ ds ++ take (k + 1) (locks_from n cs)
  next_decls = ap (λ z. (ds ++ take k (locks_from n cs)) ++ Lock z ∷ []) named ∙ (append_assoc ds (take k (locks_from n cs)) (Lock (new_name (n + k)) ∷ []) ∙ ap (λ xs. ds ++ xs) (sym (take_more (locks_from n cs) k (Lock (new_name (n + k))) (lock_at n cs k h))))

  fault_is : decl_fault g (Lock name) ≡ cond (is_beyond (lined fm (ds ++ take (k + 1) (locks_from n cs)) [])) (Some why.Limit) None
  fault_is =
      ap (λ z. decl_fault z (Lock name)) is ∙ (lock_fault (lined fm (ds ++ take k (locks_from n cs)) []) name (ap (is_used (lined fm (ds ++ take k (locks_from n cs)) [])) named ∙ free)
      ∙ ap (λ xs. cond (is_beyond (lined fm xs [])) (Some why.Limit) None) next_decls)

  -- where it is refused, the graph with all reservations passes a limit
  pub lock_stops : (fault : Option Why) → fault ≡ decl_fault g (Lock name) → is_some fault ≡ true → is_beyond (lined fm (ds ++ locks_from n cs) []) ≡ true
  lock_stops fault f some = by (is_beyond (lined fm (ds ++ take (k + 1) (locks_from n cs)) [])) refl
    where
      by : (b : Bool) → is_beyond (lined fm (ds ++ take (k + 1) (locks_from n cs)) []) ≡ b → is_beyond (lined fm (ds ++ locks_from n cs) []) ≡ true
      by false e = absurd (true≢false (sym some ∙ ap is_some (f ∙ (fault_is ∙ ap (λ x. cond x (Some why.Limit) None) e))))
      by true e =
          let r = others n cs (k + 1) in
          subst (λ xs. is_beyond (lined fm xs []) ≡ true) (append_assoc ds (take (k + 1) (locks_from n cs)) (locks_from (n + (k + 1)) r.0) ∙ ap (λ xs. ds ++ xs) (sym r.1))
          (beyond_locks fm (n + (k + 1)) r.0 (ds ++ take (k + 1) (locks_from n cs)) e)

  none_of : (o : Option Why) → is_some o ≡ false → o ≡ None
  none_of None h = refl
  none_of (Some w) h = absurd (true≢false h)

  pub lock_fits : (fault : Option Why) → fault ≡ decl_fault g (Lock name) → is_some fault ≡ false → decl_fault g (Lock name) ≡ None
  lock_fits fault f none = sym f ∙ none_of fault none

  pub lock_goes : (g' : GraphValue) → g' ≡ with_decl g (Lock name) → g' ≡ lined fm (ds ++ take (k + 1) (locks_from n cs)) []
  lock_goes g' added = added ∙ (ap (λ z. with_decl z (Lock name)) is ∙ ap (λ xs. lined fm xs []) next_decls)

pub locks_whole : (fm : Format) (ds : List Decl) (n : ℕ) (cs : List ℕ) (k : ℕ) (g : GraphValue) → length cs ≤ k → g ≡ lined fm (ds ++ take k (locks_from n cs)) [] → g ≡ lined fm (ds ++ locks_from n cs) []
locks_whole fm ds n cs k g h is = is ∙ ap (λ xs. lined fm (ds ++ xs) []) (take_whole (locks_from n cs) k (let l : length (locks_from n cs) ≡ length cs = locks_length n cs in omega arith))
