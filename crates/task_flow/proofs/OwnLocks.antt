-- A graph has no more reservations than its format allows.
use Rattle.std.proofs.Common.{◌≡◌, ℕ, ◌+◌, ◌≤◌, Bool, false, ◌||◌, List, [], ◌∷◌, ◌++◌, length, refl, sym, subst, append-nil, append_assoc, arith}
use Rattle.std.specs.Prelude.{filter, filter_map, nat_lt}
use Rattle.std.proofs.lemmas.Bool.{or_parts, le-ltb, ltb-false}
use Rattle.graph_terms.specs.declared.decl.Decl.{Decl}
use Rattle.graph_terms.specs.declared.format.Format.{Format}
use Rattle.graph_terms.specs.declared.why.Why.TheVariants as why
use Rattle.graph_terms.specs.Limits.{limits}
use Rattle.graph_terms.specs.Graph.{GraphValue, lock_of, columns, data_columns, locks, barriers}
use Rattle.graph_terms.specs.Edges.{edges}
use Rattle.graph_terms.specs.Spelling.{head}
use Rattle.graph_terms.specs.Fits.{is_inst, cell_count, is_large, has_many_spaces, is_beyond, with_decl, decl_tests, DeclsFit, IsGraph}
use Rattle.graph_terms.proofs.Public.{none_first}
use Rattle.task_flow.specs.Construction.{wants_many}
use Rattle.task_flow.specs.Fitting.{lined}

sixth : (t s i c e k r : Bool) → (t || (s || (i || (c || (e || (k || r)))))) ≡ false → k ≡ false
sixth t s i c e k r h =
    let a = or_parts t (s || (i || (c || (e || (k || r))))) h in
    let b = or_parts s (i || (c || (e || (k || r)))) a.1 in
    let d = or_parts i (c || (e || (k || r))) b.1 in
    let f = or_parts c (e || (k || r)) d.1 in
    let g = or_parts e (k || r) f.1 in
    (or_parts k r g.1).0

locks_within : (g : GraphValue) → is_beyond g ≡ false → length (locks g) ≤ (limits g.format).locks
locks_within g h = ltb-false (limits g.format).locks (length (locks g)) (sixth (nat_lt (limits g.format).text (length (head g))) (has_many_spaces g) (nat_lt (limits g.format).insts (length (filter is_inst g.decls))) (nat_lt (limits g.format).columns (length (columns g) + length (data_columns g)))
    (nat_lt (limits g.format).cells (cell_count g)) (nat_lt (limits g.format).locks (length (locks g)))
    (nat_lt (limits g.format).barriers (length (barriers g)) || (nat_lt (limits g.format).lines (length g.lines) || nat_lt (limits g.format).edges (length (edges g)))) h)

locks_fit : (fm : Format) (before ds : List Decl) → DeclsFit fm before ds → length (filter_map lock_of before) ≤ (limits fm).locks → length (filter_map lock_of (before ++ ds)) ≤ (limits fm).locks
locks_fit fm before [] f h = subst (λ xs. length (filter_map lock_of xs) ≤ (limits fm).locks) (sym (append-nil before)) h
locks_fit fm before (d ∷ ds) f h =
    let g : GraphValue = lined fm before [] in
    let none : (is_large fm d || is_beyond (with_decl g d)) ≡ false = none_first (decl_tests g d) f.1 (is_large fm d || is_beyond (with_decl g d), why.Limit) (4, omega arith, refl) in
    let within : is_beyond (with_decl g d) ≡ false = (or_parts (is_large fm d) (is_beyond (with_decl g d)) none).1 in
    subst (λ xs. length (filter_map lock_of xs) ≤ (limits fm).locks) (append_assoc before (d ∷ []) ds) (locks_fit fm (before ++ d ∷ []) ds f.2 (locks_within (with_decl g d) within))

own_locks : (f : GraphValue) → IsGraph f → length (locks f) ≤ (limits f.format).locks
own_locks f g = locks_fit f.format [] f.decls g.decls (let z : 0 ≤ (limits f.format).locks = omega arith in z)

-- no line needs no reservation more
pub few_first : (f : GraphValue) (commute : Bool) → IsGraph f → wants_many f commute 0 ≡ false
few_first f commute g = le-ltb (limits f.format).locks (length (locks f) + 0) (let h : length (locks f) ≤ (limits f.format).locks = own_locks f g in omega arith)
