-- The edges that a row gives: from last lines to one of its lines, and between its own lines.
use Rattle.std.proofs.Common.{◌≡◌, ℕ, ◌+◌, Bool, true, false, cond, ◌⊎◌, inl, inr, List, [], ◌∷◌, ◌++◌, length, map, refl, sym, ◌∙◌, ap, subst, append-nil, arith}
use Rattle.std.specs.Prelude.{◌==◌, Contains, Option, Some, None}
use Rattle.std.proofs.lemmas.List.Elements.{Contains-append_left, Contains-append_right, Contains-append_cases}
use Rattle.std.proofs.lemmas.Option.{none-some}
use Rattle.index_spaces.specs.declared.Op.TheVariants as op
use Rattle.graph_terms.specs.declared.verb.Edge.{Edge}
use Rattle.graph_terms.specs.declared.verb.EdgeKind.{EdgeKind}
use Rattle.graph_terms.specs.declared.verb.EdgeKind.TheVariants.{Passes, Ignores}
use Rattle.graph_terms.specs.declared.verb.Line.{Line}
use Rattle.graph_terms.specs.declared.verb.Verb.{Verb}
use Rattle.graph_terms.specs.declared.verb.Verb.TheVariants as verb
use Rattle.graph_terms.specs.declared.table.Kernel.TheVariants as kernel
use Rattle.graph_terms.specs.Edges.{edge, on_edges, verb_edges, edges_after}
use Rattle.basics.proofs.ListFacts.{contains_cases, contains_none, contains_map, map_contains}
use Rattle.graph_gen.specs.declared.draw.Row.{Row}
use Rattle.graph_gen.specs.declared.draw.Row.TheVariants.{Fill, Iota, Expect, Settle, Copy, Sum, Event, Section}
use Rattle.graph_gen.specs.declared.draw.Draw.{Draw}
use Rattle.graph_gen.specs.MadeGraph.{last_of, merged, on_lines, made_line, row_lines, total_column}
use Rattle.graph_gen.proofs.AddedLines.{edges_in, edge_new}
use Rattle.graph_gen.proofs.Rows.{one_longer}

-- the last lines that a row waits for, the line that waits, and by which kind of edge
abbrev pub row_sources : Row → Draw → List (Option ℕ) → List ℕ
row_sources Settle d lasts = merged (last_of lasts d.column) None
row_sources Copy d lasts = merged (last_of lasts d.column) (last_of lasts d.other)
row_sources Sum d lasts = merged (last_of lasts d.column) (last_of lasts d.other)
row_sources _ d lasts = on_lines (last_of lasts d.column)

abbrev pub row_waits : Row → ℕ → ℕ
row_waits Event n = n + 1
row_waits _ n = n

abbrev pub row_kind : Row → EdgeKind
row_kind Settle = Ignores
row_kind _ = Passes

-- the edges between the lines of a row
abbrev pub inner_edges : Row → ℕ → List Edge
inner_edges Copy n = edge n (n + 1) Passes ∷ []
inner_edges Sum n = edge n (n + 1) Passes ∷ []
inner_edges Event n = edge (n + 1) n Passes ∷ []
inner_edges Section n = edge n (n + 1) Passes ∷ edge (n + 1) (n + 2) Ignores ∷ edge (n + 2) (n + 3) Passes ∷ []
inner_edges _ n = []

longer_twice : (ls : List Line) (k l : Line) → length ((ls ++ k ∷ []) ++ l ∷ []) ≡ length ls + 2
longer_twice ls k l = let e = one_longer ls k in let f = one_longer (ls ++ k ∷ []) l in omega arith

longer_thrice : (ls : List Line) (j k l : Line) → length (((ls ++ j ∷ []) ++ k ∷ []) ++ l ∷ []) ≡ length ls + 3
longer_thrice ls j k l = let e = longer_twice ls j k in let f = one_longer ((ls ++ j ∷ []) ++ k ∷ []) l in omega arith

one_edges : (ls : List Line) (v : Verb) (o : Option ℕ) → verb_edges ls (length ls) v ≡ [] → edges_after ls (made_line (length ls) v o ∷ []) ≡ map (λ e. edge e (length ls) Passes) (on_lines o) ++ []
one_edges ls v o h =
    ap (λ es. (on_edges (on_lines o) (length ls) ++ es) ++ []) h ∙ ap (λ es. es ++ []) (append-nil (on_edges (on_lines o) (length ls)))

joined_edges : (ls : List Line) (v : Verb) (es : List ℕ) → ((b : List Line) (i : ℕ) → verb_edges b i v ≡ []) →
    edges_after ls (made_line (length ls) (verb.Merge es) None ∷ made_line (length ls + 1) v (Some (length ls)) ∷ []) ≡ map (λ e. edge e (length ls) Passes) es ++ edge (length ls) (length ls + 1) Passes ∷ []
joined_edges ls v es h =
    let m : Line = made_line (length ls) (verb.Merge es) None in
    let b : List Line = ls ++ m ∷ [] in
    let one : edges_after ls (m ∷ made_line (length ls + 1) v (Some (length ls)) ∷ []) ≡ map (λ e. edge e (length ls) Passes) es ++ edge (length ls) (length b) Passes ∷ [] =
    ap (λ xs. map (λ e. edge e (length ls) Passes) es ++ (((edge (length ls) (length b) Passes ∷ []) ++ xs) ++ [])) (h b (length b)) in
    let two : map (λ e. edge e (length ls) Passes) es ++ edge (length ls) (length b) Passes ∷ [] ≡ map (λ e. edge e (length ls) Passes) es ++ edge (length ls) (length ls + 1) Passes ∷ [] =
    ap (λ k. map (λ e. edge e (length ls) Passes) es ++ edge (length ls) k Passes ∷ []) (one_longer ls m) in
    one ∙ two

event_edges : (ls : List Line) (o : Option ℕ) → edges_after ls (made_line (length ls) verb.User None ∷ made_line (length ls + 1) (verb.Trigger (length ls)) o ∷ []) ≡ map (λ e. edge e (length ls + 1) Passes) (on_lines o) ++ edge (length ls + 1) (length ls) Passes ∷ []
event_edges ls o =
    append-nil (on_edges (on_lines o) (length (ls ++ made_line (length ls) verb.User None ∷ [])) ++ edge (length (ls ++ made_line (length ls) verb.User None ∷ [])) (length ls) Passes ∷ [])
    ∙ ap (λ k. on_edges (on_lines o) k ++ edge k (length ls) Passes ∷ []) (one_longer ls (made_line (length ls) verb.User None))

section_edges : (ls : List Line) (d : Draw) (lasts : List (Option ℕ)) → edges_after ls (row_lines Section d lasts (length ls)) ≡ map (λ e. edge e (length ls) Passes) (on_lines (last_of lasts d.column)) ++ inner_edges Section (length ls)
section_edges ls d lasts =
    let n : ℕ = length ls in
    let o : Option ℕ = last_of lasts d.column in
    let a : Line = made_line n (verb.Acquire 0 false) o in
    let s : Line = made_line (n + 1) (verb.Reduce op.Sum d.column total_column 0) (Some n) in
    let m : Line = made_line (n + 2) (verb.MergeIgnore ((n + 1) ∷ [])) None in
    ap (λ es. es ++ edge n (length (ls ++ a ∷ [])) Passes ∷ edge (n + 1) (length ((ls ++ a ∷ []) ++ s ∷ [])) Ignores ∷ edge (n + 2) (length (((ls ++ a ∷ []) ++ s ∷ []) ++ m ∷ [])) Passes ∷ []) (append-nil (on_edges (on_lines o) n))
    ∙ (ap (λ k. map (λ e. edge e n Passes) (on_lines o) ++ edge n k Passes ∷ edge (n + 1) (length ((ls ++ a ∷ []) ++ s ∷ [])) Ignores ∷ edge (n + 2) (length (((ls ++ a ∷ []) ++ s ∷ []) ++ m ∷ [])) Passes ∷ []) (one_longer ls a)
    ∙ (ap (λ k. map (λ e. edge e n Passes) (on_lines o) ++ edge n (n + 1) Passes ∷ edge (n + 1) k Ignores ∷ edge (n + 2) (length (((ls ++ a ∷ []) ++ s ∷ []) ++ m ∷ [])) Passes ∷ []) (longer_twice ls a s)
    ∙ ap (λ k. map (λ e. edge e n Passes) (on_lines o) ++ edge n (n + 1) Passes ∷ edge (n + 1) (n + 2) Ignores ∷ edge (n + 2) k Passes ∷ []) (longer_thrice ls a s m)))

-- the edges of a row
pub row_edges : (row : Row) (d : Draw) (lasts : List (Option ℕ)) (ls : List Line) → edges_after ls (row_lines row d lasts (length ls)) ≡ map (λ e. edge e (row_waits row (length ls)) (row_kind row)) (row_sources row d lasts) ++ inner_edges row (length ls)
row_edges Fill d lasts ls = one_edges ls (verb.Fill d.column 0 d.value) (last_of lasts d.column) refl
row_edges Iota d lasts ls = one_edges ls (verb.Task (kernel.Iota d.column 0 d.value)) (last_of lasts d.column) refl
row_edges Expect d lasts ls = one_edges ls (verb.Task (kernel.Expect d.column 0 0 60000)) (last_of lasts d.column) refl
row_edges Settle d lasts ls = refl
row_edges Copy d lasts ls = joined_edges ls (verb.Copy d.column d.other 0) (merged (last_of lasts d.column) (last_of lasts d.other)) (λ b i. refl)
row_edges Sum d lasts ls = joined_edges ls (verb.Reduce op.Sum d.column d.other 0) (merged (last_of lasts d.column) (last_of lasts d.other)) (λ b i. refl)
row_edges Event d lasts ls = event_edges ls (last_of lasts d.column)
row_edges Section d lasts ls = section_edges ls d lasts

-- the lines that a merge names
merged_is : (o p : Option ℕ) (s : ℕ) → Contains (merged o p) s → (o ≡ Some s) ⊎ (p ≡ Some s)
merged_is None None s c = absurd (contains_none s c)
merged_is None (Some f) s c = elim (contains_cases f [] s c) [ inl e ↦ inr (ap Some e) | inr r ↦ absurd (contains_none s r) ]
merged_is (Some e) None s c = elim (contains_cases e [] s c) [ inl f ↦ inl (ap Some f) | inr r ↦ absurd (contains_none s r) ]
merged_is (Some e) (Some f) s c = chosen (e == f) c
  where
    chosen : (b : Bool) → Contains (cond b (e ∷ []) (e ∷ f ∷ [])) s → (Some e ≡ Some s) ⊎ (Some f ≡ Some s)
    chosen true c = elim (contains_cases e [] s c) [ inl x ↦ inl (ap Some x) | inr r ↦ absurd (contains_none s r) ]
    chosen false c = elim (contains_cases e (f ∷ []) s c) [ inl x ↦ inl (ap Some x) | inr r ↦ elim (contains_cases f [] s r) [ inl x ↦ inr (ap Some x) | inr q ↦ absurd (contains_none s q) ] ]

on_is : (o : Option ℕ) (s : ℕ) → Contains (on_lines o) s → o ≡ Some s
on_is None s c = absurd (contains_none s c)
on_is (Some e) s c = elim (contains_cases e [] s c) [ inl x ↦ ap Some x | inr r ↦ absurd (contains_none s r) ]

-- each line that a row waits for is a last line
pub source_is_last : (row : Row) (d : Draw) (lasts : List (Option ℕ)) (s : ℕ) → Contains (row_sources row d lasts) s → (c : ℕ) × (last_of lasts c ≡ Some s)
source_is_last Settle d lasts s c = elim (merged_is (last_of lasts d.column) None s c) [ inl e ↦ (d.column, e) | inr e ↦ absurd (none-some s e) ]
source_is_last Copy d lasts s c = elim (merged_is (last_of lasts d.column) (last_of lasts d.other) s c) [ inl e ↦ (d.column, e) | inr e ↦ (d.other, e) ]
source_is_last Sum d lasts s c = elim (merged_is (last_of lasts d.column) (last_of lasts d.other) s c) [ inl e ↦ (d.column, e) | inr e ↦ (d.other, e) ]
source_is_last row d lasts s c = (d.column, on_is (last_of lasts d.column) s c)

-- an edge of a row is from a last line, or between its lines
pub row_edge_cases : (row : Row) (d : Draw) (lasts : List (Option ℕ)) (ls : List Line) (e : Edge) → Contains (edges_after ls (row_lines row d lasts (length ls))) e →
    ((c : ℕ) × (last_of lasts c ≡ Some e.from) × (e.to ≡ row_waits row (length ls))) ⊎ Contains (inner_edges row (length ls)) e
row_edge_cases row d lasts ls e c = elim (Contains-append_cases (map (λ s. edge s (row_waits row (length ls)) (row_kind row)) (row_sources row d lasts)) (inner_edges row (length ls)) e (subst (λ es. Contains es e) (row_edges row d lasts ls) c)) [
  | inl a ↦ (let m = map_contains (λ s. edge s (row_waits row (length ls)) (row_kind row)) (row_sources row d lasts) e a in
      let s = source_is_last row d lasts m.0 m.1 in
      inl (s.0, s.1 ∙ ap (λ (x : Edge). Some x.from) m.2, sym (ap (λ (x : Edge). x.to) m.2)))
  | inr b ↦ inr b
]

-- and those are edges
pub waits_edge : (row : Row) (d : Draw) (lasts : List (Option ℕ)) (ls : List Line) (s : ℕ) → Contains (row_sources row d lasts) s → Contains (edges_in (ls ++ row_lines row d lasts (length ls))) (edge s (row_waits row (length ls)) (row_kind row))
waits_edge row d lasts ls s c =
    let kind : EdgeKind = row_kind row in
    edge_new ls (row_lines row d lasts (length ls)) (edge s (row_waits row (length ls)) kind) (subst (λ es. Contains es (edge s (row_waits row (length ls)) kind)) (sym (row_edges row d lasts ls))
    (Contains-append_left (map (λ x. edge x (row_waits row (length ls)) kind) (row_sources row d lasts)) (inner_edges row (length ls)) (edge s (row_waits row (length ls)) kind) (contains_map (λ x. edge x (row_waits row (length ls)) kind) (row_sources row d lasts) s c)))

pub inner_edge : (row : Row) (d : Draw) (lasts : List (Option ℕ)) (ls : List Line) (e : Edge) → Contains (inner_edges row (length ls)) e → Contains (edges_in (ls ++ row_lines row d lasts (length ls))) e
inner_edge row d lasts ls e c =
    edge_new ls (row_lines row d lasts (length ls)) e (subst (λ es. Contains es e) (sym (row_edges row d lasts ls)) (Contains-append_right (map (λ x. edge x (row_waits row (length ls)) (row_kind row)) (row_sources row d lasts)) (inner_edges row (length ls)) e c))
