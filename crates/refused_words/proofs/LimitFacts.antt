-- The quantities of a graph with one more item.
use Rattle.std.proofs.Common.{◌≡◌, ℕ, zero, suc, ◌+◌, ◌-◌, ◌<◌, ◌≤◌, Bool, true, false, cond, List, [], ◌∷◌, ◌++◌, length, map, take, drop, get_or, refl, sym, ◌∙◌, ap, subst, append_assoc, arith, ⊎_elim}
use Rattle.std.specs.Prelude.{Option, Some, None, option_map, filter_map, unwrap_or, find, filter, sum_by, is_some, codes, slice_index_or, ◌==◌, Contains, nat_lt, Vec}
use Rattle.std.specs.Option.{option_map_or}
use Rattle.std.proofs.lemmas.Bool.{cases_lt, eq-eqb, ne_eqb, le-ltb, true≢false}
use Rattle.std.proofs.lemmas.List.{length-append, length-map, length-drop, append-nil, take_more}
use Rattle.std.specs.Global.{Global}
use Rattle.std.proofs.lemmas.Option.{slice_get-get_or, none-some, same_Some}
use Rattle.std.proofs.lemmas.List.Elements.{filter-append, filter_map-append}
use Rattle.std.proofs.lemmas.List.Sums.{sum_by-append, sum_by-cons}
use Rattle.std.proofs.lemmas.List.FromFn.{length-range_with_len}
use Rattle.std.proofs.lemmas.Grind.{flat_map-append}
use Rattle.basics.specs.Sums.{below}
use Rattle.basics.proofs.ListFacts.{contains_here, contains_there}
use Rattle.index_spaces.specs.Space.{space_size, points, interval_points}
use Rattle.graph_terms.specs.Limits.{limits}
use Rattle.graph_terms.specs.declared.decl.ColumnInfo.{ColumnInfo}
use Rattle.graph_terms.specs.declared.decl.Decl.{Decl}
use Rattle.graph_terms.specs.declared.decl.Decl.TheVariants.{Space, Inst, Data, Lock, Barrier}
use Rattle.graph_terms.specs.declared.format.Format.{Format}
use Rattle.graph_terms.specs.declared.format.Format.TheVariants.{Three}
use Rattle.graph_terms.specs.Format.{has_since}
use Rattle.graph_terms.specs.declared.limits.TheConstants.{MAX_CALL_ACCESSES}
use Rattle.graph_terms.specs.declared.table.Kind.{Kind}
use Rattle.graph_terms.specs.declared.table.Kind.TheVariants as kinds
use Rattle.graph_terms.specs.declared.verb.Edge.{Edge}
use Rattle.graph_terms.specs.declared.verb.EdgeKind.{EdgeKind}
use Rattle.graph_terms.specs.declared.verb.EdgeKind.TheVariants as edge_kinds
use Rattle.graph_terms.specs.declared.verb.Line.{Line}
use Rattle.graph_terms.specs.declared.verb.Verb.TheVariants.{Phase, Call}
use Rattle.graph_terms.specs.Graph.{GraphValue, named_spaces, space_of, lock_of, barrier_of, columns_of, data_columns_of, columns, locks, barriers, space_at, column_space, is_phase_of}
use Rattle.graph_terms.specs.Edges.{edges, edges_into, last_place, edges_from_some, on_edges, line_edges, verb_edges}
use Rattle.graph_terms.specs.Fits.{IsGraph, LinesFit, is_inst, cell_count, with_decl, with_line}
use Rattle.graph_terms.specs.Table.{verb_of}
use Rattle.graph_indexes.specs.declared.counts.Counts.{Counts}
use Rattle.graph_terms.proofs.Public.{edges_push}
use Rattle.graph_model.proofs.CountLaws.{counts_with_decl, cells_of_fields}
use Rattle.graph_model.proofs.TableLaws.{limits_line}
use Rattle.graph_words.specs.Draft.{BarrierName, form_of, space_draft, space_with, on_events, merge_draft, call_draft, call_with, access_spelled, line_number, lock_draft, barrier_draft, barrier_with, inst_draft, data_draft, columns_with, op_of, space_number}
use Rattle.graph_reader.proofs.Public.{lock_shape, barrier_shape, inst_shape, data_shape}
use Rattle.basics.proofs.TestedLists.{find_mapped}
use Rattle.graph_reader.specs.Kinds.{kind_draft, kind_verb, kind_on, kind_line}
use Rattle.word_meanings.specs.Telling.{named_number}
use Rattle.graph_reader.specs.Merges.{merge_verb, merge_line}
use Rattle.graph_words.specs.Calls.{CallWords, call_words}
use Rattle.graph_words.specs.Cuts.{Gives}
use Rattle.graph_words.specs.Words.{pieces, count_of, value_of, intervals_of}
use Rattle.index_spaces.specs.declared.Op.{Op}
use Rattle.refused_words.specs.Limits.{QuantityValue, quantity_value, quantity, is_above, spaces_quantity, spaces_of, columns_quantity, column_count, verb_quantities, on_quantities, event_quantities, space_quantities, limit_in, intervals_limit, inst_limit, data_limit, size_limit}
use Rattle.refused_words.specs.Places.{size_of_call, call_size}
use Rattle.refused_words.specs.declared.limits.Quantity.{Quantity}

lines_more : (g : GraphValue) (l : Line) → length (with_line g l).lines ≡ length g.lines + 1
lines_more g l = length-append g.lines (l ∷ [])

edges_more : (g : GraphValue) (l : Line) → length (edges (with_line g l)) ≡ length (edges g) + length (line_edges g.lines l)
edges_more g l = ap length (edges_push g l) ∙ length-append (edges g) (line_edges g.lines l)

-- the spaces of a graph with no more, and with one more declaration
pub no_more : (g : GraphValue) (d : QuantityValue) → d ≡ spaces_quantity g.format (length (named_spaces g) + 0) → d ≡ spaces_quantity g.format (length (named_spaces g))
no_more g d is = is ∙ ap (spaces_quantity g.format) (let same : length (named_spaces g) + 0 ≡ length (named_spaces g) = omega arith in same)

spaces_with : (g : GraphValue) (d : Decl) → length (named_spaces (with_decl g d)) ≡ length (named_spaces g) + length (filter_map space_of (d ∷ []))
spaces_with g d = ap length (filter_map-append space_of g.decls (d ∷ [])) ∙ length-append (filter_map space_of g.decls) (filter_map space_of (d ∷ []))

-- a merge
merge_edges : (g : GraphValue) (ignores : Bool) (name : List ℕ) (es : List (List ℕ)) → length (line_edges g.lines (merge_line g ignores name es)) ≡ length es
merge_edges g true name es = length-map _ _ ∙ length-map es _
merge_edges g false name es = length-map _ _ ∙ length-map es _

abbrev merge_quantities : GraphValue → ℕ → List QuantityValue
merge_quantities g n =
    quantity (codes "operations") (length g.lines + 1) (limits g.format).lines
    ∷ quantity (codes "events of a merge") n (limits g.format).events
    ∷ quantity (codes "edges") (length (edges g) + n) (limits g.format).edges
    ∷ spaces_of g

same_merge : (lines events edges n m k most_lines most most_edges : ℕ) (more : List QuantityValue) → lines ≡ n → events ≡ m → edges ≡ k →
    find is_above (quantity (codes "operations") lines most_lines ∷ quantity (codes "events of a merge") events most ∷ quantity (codes "edges") edges most_edges ∷ more)
    ≡ find is_above (quantity (codes "operations") n most_lines ∷ quantity (codes "events of a merge") m most ∷ quantity (codes "edges") k most_edges ∷ more)
same_merge lines events edges n m k most_lines most most_edges more a b c = cc

merge_some : (g : GraphValue) (name : List ℕ) (ignores : Bool) (es : List (List ℕ)) → 0 < length es → limit_in g (merge_draft g name (merge_verb ignores) es) ≡ find is_above (merge_quantities g (length es))
merge_some g name ignores [] some = absurd (omega arith)
merge_some g name true (e ∷ es) some =
    same_merge _ _ _ _ _ _ (limits g.format).lines (limits g.format).events (limits g.format).edges (spaces_of g) (lines_more g (merge_line g true name (e ∷ es))) (length-map (e ∷ es) _) (edges_more g (merge_line g true name (e ∷ es)) ∙ ap (λ k. length (edges g) + k) (merge_edges g true name (e ∷ es)))
merge_some g name false (e ∷ es) some =
    same_merge _ _ _ _ _ _ (limits g.format).lines (limits g.format).events (limits g.format).edges (spaces_of g) (lines_more g (merge_line g false name (e ∷ es))) (length-map (e ∷ es) _) (edges_more g (merge_line g false name (e ∷ es)) ∙ ap (λ k. length (edges g) + k) (merge_edges g false name (e ∷ es)))

same_four : (a b c d x y z w : QuantityValue) → a ≡ x → b ≡ y → c ≡ z → d ≡ w → find is_above (a ∷ b ∷ c ∷ d ∷ []) ≡ find is_above (x ∷ y ∷ z ∷ w ∷ [])
same_four a b c d x y z w p q r s = cc

pub merge_limit : (g : GraphValue) (name : List ℕ) (ignores : Bool) (ws : List (List ℕ)) (n : ℕ) (a b c d : QuantityValue) → 2 ≤ length ws → n ≡ length ws - 1 → a ≡ quantity (codes "operations") (length g.lines + 1) (limits g.format).lines →
    b ≡ quantity (codes "events of a merge") n (limits g.format).events → c ≡ quantity (codes "edges") (length (edges g) + n) (limits g.format).edges → d ≡ spaces_quantity g.format (length (named_spaces g) + 0) →
    find is_above (a ∷ b ∷ c ∷ d ∷ []) ≡ limit_in g (merge_draft g name (merge_verb ignores) (drop 1 ws))
merge_limit g name ignores ws n a b c d some is first second third fourth =
    let left : length (drop 1 ws) ≡ length ws - 1 = length-drop 1 ws in
    let same : n ≡ length (drop 1 ws) = omega arith in
    same_four _ _ _ _ _ _ _ _ first (second ∙ ap (λ k. quantity (codes "events of a merge") k (limits g.format).events) same) (third ∙ ap (λ k. quantity (codes "edges") (length (edges g) + k) (limits g.format).edges) same) (no_more g d fourth)
    ∙ sym (merge_some g name ignores (drop 1 ws) (omega arith))

pub merge_none : (g : GraphValue) (name : List ℕ) (ignores : Bool) (ws : List (List ℕ)) → length ws < 2 → None ≡ limit_in g (merge_draft g name (merge_verb ignores) (drop 1 ws))
merge_none g name ignores [] few = refl
merge_none g name ignores (a ∷ []) few = refl
merge_none g name ignores (a ∷ b ∷ bs) few = absurd (omega arith)

pub first_of : (qs : List Quantity) → option_map quantity_value (find (λ (q : Quantity). nat_lt q.bound q.value) qs) ≡ find is_above (map quantity_value qs)
first_of qs = sym (find_mapped is_above quantity_value qs)

-- a line of a kind
no_events : (format : Format) (kind : Kind) (ns : List ℕ) → verb_quantities format (verb_of kind ns) ≡ []
no_events format kinds.User ns = refl
no_events format kind ns = refl

pub edge_if : (kind : EdgeKind) (o : Option ℕ) (i : ℕ) → length (edges_from_some kind o i) ≡ cond (is_some o) 1 0
edge_if kind None i = refl
edge_if kind (Some e) i = refl

same_kind : (lines edges n k most_lines most_edges : ℕ) (qs rs more : List QuantityValue) → lines ≡ n → edges ≡ k → qs ≡ rs →
    find is_above ((quantity (codes "operations") lines most_lines ∷ qs ++ quantity (codes "edges") edges most_edges ∷ []) ++ more)
    ≡ find is_above ((quantity (codes "operations") n most_lines ∷ rs ++ quantity (codes "edges") k most_edges ∷ []) ++ more)
same_kind lines edges n k most_lines most_edges qs rs more a b c =
    ap (λ x. find is_above ((quantity (codes "operations") x most_lines ∷ qs ++ quantity (codes "edges") edges most_edges ∷ []) ++ more)) a
    ∙ (ap (λ x. find is_above ((quantity (codes "operations") n most_lines ∷ qs ++ quantity (codes "edges") x most_edges ∷ []) ++ more)) b
    ∙ ap (λ xs. find is_above ((quantity (codes "operations") n most_lines ∷ xs ++ quantity (codes "edges") k most_edges ∷ []) ++ more)) c)

kind_some : (g : GraphValue) (kind : Kind) (name : List ℕ) (ws : List (List ℕ)) (given on : ℕ) → given ≡ length (verb_edges g.lines (length g.lines) (kind_verb g kind ws)) → on ≡ length (on_events g.format (form_of kind) ws) →
    limit_in g (Some (kind_draft g kind name ws))
    ≡ find is_above ((quantity (codes "operations") (length g.lines + 1) (limits g.format).lines ∷ on_quantities g.format (kind_on g kind ws) ++ quantity (codes "edges") (length (edges g) + (given + on)) (limits g.format).edges ∷ []) ++ spaces_of g)
kind_some g kind name ws given on is there =
    let l : Line = kind_line g kind name ws in
    let by_on : length (on_edges l.on (length g.lines)) ≡ on = length-map l.on _ ∙ (length-map (on_events g.format (form_of kind) ws) _ ∙ sym there) in
    let both : length (line_edges g.lines l) ≡ length (on_edges l.on (length g.lines)) + length (verb_edges g.lines (length g.lines) l.verb) = length-append (on_edges l.on (length g.lines)) (verb_edges g.lines (length g.lines) l.verb) in
    let all : length (edges (with_line g l)) ≡ length (edges g) + length (line_edges g.lines l) = edges_more g l in
    let verb : given ≡ length (verb_edges g.lines (length g.lines) l.verb) = is in
    let sum : length (edges (with_line g l)) ≡ length (edges g) + (given + on) = omega arith in
    same_kind _ _ _ _ _ _ (event_quantities g.format l) (on_quantities g.format l.on) (spaces_of g) (lines_more g l) sum (ap (λ qs. qs ++ on_quantities g.format l.on) (no_events g.format kind _))

-- no events are not too many
none_behind : (format : Format) (on : List ℕ) (a b : QuantityValue) (more : List QuantityValue) →
    find is_above (a ∷ quantity (codes "events behind on") (length on) (limits format).events ∷ b ∷ more) ≡ find is_above ((a ∷ on_quantities format on ++ b ∷ []) ++ more)
none_behind format [] a b more =
    ap (λ t. cond (is_above a) (Some a) (cond t (Some (quantity (codes "events behind on") 0 (limits format).events)) (find is_above (b ∷ more)))) (le-ltb (limits format).events 0 (omega arith))
none_behind format (e ∷ es) a b more = refl

pub kind_limit : (g : GraphValue) (kind : Kind) (name : List ℕ) (ws : List (List ℕ)) (given on : ℕ) (a b c d : QuantityValue) → given ≡ length (verb_edges g.lines (length g.lines) (kind_verb g kind ws)) → on ≡ length (on_events g.format (form_of kind) ws) →
    a ≡ quantity (codes "operations") (length g.lines + 1) (limits g.format).lines → b ≡ quantity (codes "events behind on") on (limits g.format).events → c ≡ quantity (codes "edges") (length (edges g) + (given + on)) (limits g.format).edges →
    d ≡ spaces_quantity g.format (length (named_spaces g) + 0) → find is_above (a ∷ b ∷ c ∷ d ∷ []) ≡ limit_in g (Some (kind_draft g kind name ws))
kind_limit g kind name ws given on a b c d is there first second third fourth =
    let count : on ≡ length (kind_on g kind ws) = there ∙ sym (length-map (on_events g.format (form_of kind) ws) _) in
    same_four _ _ _ _ _ _ _ _ first (second ∙ ap (λ n. quantity (codes "events behind on") n (limits g.format).events) count) third (no_more g d fourth)
    ∙ (none_behind g.format (kind_on g kind ws) _ _ _ ∙ sym (kind_some g kind name ws given on is there))

-- a call
abbrev call_line : GraphValue → List ℕ → CallWords → Line
call_line g name c = record { name = name; verb = Call (record { word = c.word; values = map (λ w. unwrap_or (value_of w) 0) c.values; accesses = map (access_spelled g) c.accesses }); on = map (line_number g) c.events }

same_call : (lines used edges n a k most_lines most_edges : ℕ) (qs more : List QuantityValue) → lines ≡ n → used ≡ a → edges ≡ k →
    find is_above ((quantity (codes "operations") lines most_lines ∷ (quantity (codes "accesses of a call") used MAX_CALL_ACCESSES ∷ qs) ++ quantity (codes "edges") edges most_edges ∷ []) ++ more)
    ≡ find is_above ((quantity (codes "operations") n most_lines ∷ (quantity (codes "accesses of a call") a MAX_CALL_ACCESSES ∷ qs) ++ quantity (codes "edges") k most_edges ∷ []) ++ more)
same_call lines used edges n a k most_lines most_edges qs more p q r =
    ap (λ x. find is_above ((quantity (codes "operations") x most_lines ∷ (quantity (codes "accesses of a call") used MAX_CALL_ACCESSES ∷ qs) ++ quantity (codes "edges") edges most_edges ∷ []) ++ more)) p
    ∙ (ap (λ x. find is_above ((quantity (codes "operations") n most_lines ∷ (quantity (codes "accesses of a call") x MAX_CALL_ACCESSES ∷ qs) ++ quantity (codes "edges") edges most_edges ∷ []) ++ more)) q
    ∙ ap (λ x. find is_above ((quantity (codes "operations") n most_lines ∷ (quantity (codes "accesses of a call") a MAX_CALL_ACCESSES ∷ qs) ++ quantity (codes "edges") x most_edges ∷ []) ++ more)) r)

call_given : (g : GraphValue) (name : List ℕ) (c : CallWords) → limit_in g (Some (call_with g name c)) ≡ size_limit g (size_of_call c)
call_given g name c =
    let l : Line = call_line g name c in
    let on : length l.on ≡ length c.events = length-map c.events (line_number g) in
    let used : length (map (access_spelled g) c.accesses) ≡ length c.accesses = length-map c.accesses (access_spelled g) in
    let given : length (line_edges g.lines l) ≡ length l.on + 0 = length-append (on_edges l.on (length g.lines)) [] ∙ ap (λ n. n + 0) (length-map l.on _) in
    let all : length (edges (with_line g l)) ≡ length (edges g) + length (line_edges g.lines l) = edges_more g l in
    let sum : length (edges (with_line g l)) ≡ length (edges g) + length c.events = omega arith in
    same_call _ _ _ _ _ _ (limits g.format).lines (limits g.format).edges (on_quantities g.format l.on) (spaces_of g) (lines_more g l) used sum
    ∙ sym (ap (λ n. find is_above (quantity (codes "operations") (length g.lines + 1) (limits g.format).lines ∷ quantity (codes "accesses of a call") (length c.accesses) MAX_CALL_ACCESSES ∷ quantity (codes "events behind on") n (limits g.format).events ∷ quantity (codes "edges") (length (edges g) + length c.events) (limits g.format).edges ∷ spaces_of g)) (sym on)
    ∙ ap (cond (is_above (quantity (codes "operations") (length g.lines + 1) (limits g.format).lines)) (Some (quantity (codes "operations") (length g.lines + 1) (limits g.format).lines))) (none_behind g.format l.on _ _ (spaces_of g)))

call_by : (g : GraphValue) (name : List ℕ) (b : Bool) (o : Option CallWords) → limit_in g (cond b (option_map (call_with g name) o) None) ≡ option_map_or (size_limit g) (cond b (option_map size_of_call o) None) None
call_by g name false o = refl
call_by g name true None = refl
call_by g name true (Some c) = call_given g name c

pub call_limit : (g : GraphValue) (name : List ℕ) (ws : List (List ℕ)) → limit_in g (call_draft g name (drop 1 ws)) ≡ option_map_or (size_limit g) (call_size g.format ws) None
call_limit g name ws = call_by g name (has_since Three g.format) (call_words (drop 1 ws))

pub phase_verb : (g : GraphValue) (ws : List (List ℕ)) → 0 < length ws → kind_verb g kinds.Phase ws ≡ Phase (named_number g BarrierName (slice_index_or ws 0 []))
phase_verb g [] some = absurd (omega arith)
phase_verb g (w ∷ ws) some = refl

pub phase_gives : (g : GraphValue) (ws : List (List ℕ)) (b : ℕ) (there : Bool) → 0 < length ws → b ≡ named_number g BarrierName (slice_index_or ws 0 []) → there ≡ is_some (last_place (is_phase_of b) 0 g.lines None) →
    cond there 1 0 ≡ length (verb_edges g.lines (length g.lines) (kind_verb g kinds.Phase ws))
phase_gives g ws b there some named is =
    ap (λ t. cond t 1 0) is ∙ (sym (edge_if edge_kinds.Ignores (last_place (is_phase_of b) 0 g.lines None) (length g.lines))
    ∙ (ap (λ n. length (verb_edges g.lines (length g.lines) (Phase n))) named ∙ ap (λ v. length (verb_edges g.lines (length g.lines) v)) (sym (phase_verb g ws some))))

-- sums over the numbers below a bound
below_same : (f h : ℕ → ℕ) → ((i : ℕ) → f i ≡ h i) → (n : ℕ) → below f n ≡ below h n
below_same f h same zero = refl
below_same f h same (suc n) = let a : below f n ≡ below h n = below_same f h same n in let b : f n ≡ h n = same n in omega arith

below_plus : (f h : ℕ → ℕ) (n : ℕ) → below (λ i. f i + h i) n ≡ below f n + below h n
below_plus f h zero = refl
below_plus f h (suc n) = let a : below (λ i. f i + h i) n ≡ below f n + below h n = below_plus f h n in omega arith

below_none : (n : ℕ) → below (λ i. 0) n ≡ 0
below_none zero = refl
below_none (suc n) = let a : below (λ i. 0) n ≡ 0 = below_none n in omega arith

pub below_le : (f : ℕ → ℕ) (m n : ℕ) → m ≤ n → below f m ≤ below f n
below_le f m zero h = let e : m ≡ 0 = omega arith in let same : below f m ≡ below f 0 = ap (below f) e in omega arith
below_le f m (suc n) h = ⊎_elim
    (λ (lt : m < suc n). let a : below f m ≤ below f n = below_le f m n (omega arith) in (let b : below f m ≤ below f (suc n) = omega arith in b))
    (λ (ge : suc n ≤ m). let e : m ≡ suc n = omega arith in let same : below f m ≡ below f (suc n) = ap (below f) e in (let b : below f m ≤ below f (suc n) = omega arith in b))
    (cases_lt m (suc n))

-- one number is hit once
abbrev hits : ℕ → ℕ → ℕ
hits k i = cond (k == i) 1 0

no_hit : (k n : ℕ) → n ≤ k → below (hits k) n ≡ 0
no_hit k zero h = refl
no_hit k (suc n) h =
    let a : below (hits k) n ≡ 0 = no_hit k n (omega arith) in
    let b : hits k n ≡ 0 = ap (λ t. cond t 1 0) (ne_eqb k n (λ e. absurd (omega (arith, e)))) in
    omega arith

one_hit : (k n : ℕ) → k < n → below (hits k) n ≡ 1
one_hit k zero h = absurd (omega arith)
one_hit k (suc n) h = ⊎_elim
    (λ (lt : k < n).
    let a : below (hits k) n ≡ 1 = one_hit k n lt in
    let b : hits k n ≡ 0 = ap (λ t. cond t 1 0) (ne_eqb k n (λ e. absurd (omega (arith, e)))) in
    (let c : below (hits k) (suc n) ≡ 1 = omega arith in c))
    (λ (ge : n ≤ k).
    let a : below (hits k) n ≡ 0 = no_hit k n ge in
    let b : hits k n ≡ 1 = ap (λ t. cond t 1 0) (eq-eqb k n (let e : k ≡ n = omega arith in e)) in
    (let c : below (hits k) (suc n) ≡ 1 = omega arith in c))
    (cases_lt k n)

-- each edge enters one line
abbrev entering : List Edge → ℕ → ℕ
entering es i = length (filter (λ (e : Edge). e.to == i) es)

entering_more : (e : Edge) (es : List Edge) (i : ℕ) → entering (e ∷ es) i ≡ hits e.to i + entering es i
entering_more e es i = by_test (e.to == i)
  where
    by_test : (b : Bool) → length (cond b (e ∷ filter (λ (x : Edge). x.to == i) es) (filter (λ (x : Edge). x.to == i) es)) ≡ cond b 1 0 + entering es i
    by_test true = omega arith
    by_test false = omega arith

all_enter : (n : ℕ) (es : List Edge) → ((e : Edge) → Contains es e → e.to < n) → below (entering es) n ≡ length es
all_enter n [] to = below_none n
all_enter n (e ∷ es) to =
    let split : below (entering (e ∷ es)) n ≡ below (λ i. hits e.to i + entering es i) n = below_same (entering (e ∷ es)) (λ i. hits e.to i + entering es i) (entering_more e es) n in
    let sum : below (λ i. hits e.to i + entering es i) n ≡ below (hits e.to) n + below (entering es) n = below_plus (hits e.to) (entering es) n in
    let first : below (hits e.to) n ≡ 1 = one_hit e.to n (to e (contains_here e es)) in
    let rest : below (entering es) n ≡ length es = all_enter n es (λ x c. to x (contains_there e es x c)) in
    omega arith

abbrev pub entering_line : GraphValue → ℕ → ℕ
entering_line g i = length (edges_into g i)

-- a graph has few edges
abbrev of_lines : Format → List Decl → List Line → GraphValue
of_lines fm ds ls = record { format = fm; decls = ds; lines = ls }

few_with : (fm : Format) (ds : List Decl) (b ls : List Line) → length (edges (of_lines fm ds b)) ≤ 524288 → LinesFit fm ds b ls → length (edges (of_lines fm ds (b ++ ls))) ≤ 524288
few_with fm ds b [] few f = subst (λ xs. length (edges (of_lines fm ds xs)) ≤ 524288) (sym (append-nil b)) few
few_with fm ds b (l ∷ ls) few f = subst (λ xs. length (edges (of_lines fm ds xs)) ≤ 524288) (append_assoc b (l ∷ []) ls) (few_with fm ds (b ++ l ∷ []) ls (limits_line (of_lines fm ds b) l f.1).few_edges f.2)

few_edges : (g : GraphValue) → IsGraph g → length (edges g) ≤ 524288
few_edges g fits = few_with g.format g.decls [] g.lines (omega arith) fits.lines

pub all_edges : (g : GraphValue) → ((e : Edge) → Contains (edges g) e → e.to < length g.lines) → below (entering_line g) (length g.lines) ≡ length (edges g)
all_edges g to = all_enter (length g.lines) (edges g) to

pub edges_so_far : (g : GraphValue) → IsGraph g → ((e : Edge) → Contains (edges g) e → e.to < length g.lines) → (n : ℕ) → n ≤ length g.lines → below (entering_line g) n ≤ 524288
edges_so_far g fits to n h =
    let a : below (entering_line g) n ≤ below (entering_line g) (length g.lines) = below_le (entering_line g) n (length g.lines) h in
    let b : below (entering_line g) (length g.lines) ≡ length (edges g) = all_edges g to in
    let c : length (edges g) ≤ 524288 = few_edges g fits in
    omega arith

-- the sums of loops
abbrev pub column_cells : GraphValue → ColumnInfo → ℕ
column_cells g c = space_size (space_at g c.space)

pub cells_next : (g : GraphValue) (c n size : ℕ) (d : ColumnInfo) → c < length (columns g) → n ≡ sum_by (column_cells g) (take c (columns g)) → size ≡ space_size (column_space g c) → n + size ≡ sum_by (column_cells g) (take (c + 1) (columns g))
cells_next g c n size d below is this =
    let x : ColumnInfo = get_or (columns g) c d in
    let here : space_size (column_space g c) ≡ column_cells g x = ap (λ o. space_size (option_map_or (λ (y : ColumnInfo). space_at g y.space) o [])) (slice_get-get_or (columns g) c d below) in
    let more : sum_by (column_cells g) (take (c + 1) (columns g)) ≡ sum_by (column_cells g) (take c (columns g) ++ x ∷ []) = ap (sum_by (column_cells g)) (take_more (columns g) c d below) in
    let split : sum_by (column_cells g) (take c (columns g) ++ x ∷ []) ≡ sum_by (column_cells g) (take c (columns g)) + sum_by (column_cells g) (x ∷ []) = sum_by-append (column_cells g) (take c (columns g)) (x ∷ []) in
    let one : sum_by (column_cells g) (x ∷ []) ≡ column_cells g x + 0 = sum_by-cons (column_cells g) x [] in
    omega arith

filter_one : (d : Decl) → length (filter is_inst (d ∷ [])) ≡ cond (is_inst d) 1 0
filter_one d = by_test (is_inst d)
  where
    by_test : (b : Bool) → length (cond b (d ∷ []) []) ≡ cond b 1 0
    by_test true = refl
    by_test false = refl

pub insts_next : (ds : List Decl) (k n : ℕ) (d : Decl) → k < length ds → n ≡ length (filter is_inst (take k ds)) → n + cond (is_inst (get_or ds k d)) 1 0 ≡ length (filter is_inst (take (k + 1) ds))
insts_next ds k n d below is =
    let x : Decl = get_or ds k d in
    let more : length (filter is_inst (take (k + 1) ds)) ≡ length (filter is_inst (take k ds ++ x ∷ [])) = ap (λ xs. length (filter is_inst xs)) (take_more ds k d below) in
    let split : length (filter is_inst (take k ds ++ x ∷ [])) ≡ length (filter is_inst (take k ds)) + length (filter is_inst (x ∷ [])) = ap length (filter-append is_inst (take k ds) (x ∷ [])) ∙ length-append (filter is_inst (take k ds)) (filter is_inst (x ∷ [])) in
    let one : length (filter is_inst (x ∷ [])) ≡ cond (is_inst x) 1 0 = filter_one x in
    omega arith

pub points_next : (is : List (ℕ × ℕ)) (k n size : ℕ) (d : ℕ × ℕ) → k < length is → n ≡ space_size (take k is) → size ≡ (get_or is k d).1 + 1 - (get_or is k d).0 → n + size ≡ space_size (take (k + 1) is)
points_next is k n size d below was this =
    let x : ℕ × ℕ = get_or is k d in
    let more : space_size (take (k + 1) is) ≡ space_size (take k is ++ x ∷ []) = ap space_size (take_more is k d below) in
    let split : space_size (take k is ++ x ∷ []) ≡ length (points (take k is)) + length (points (x ∷ [])) = ap length (flat_map-append interval_points (take k is) (x ∷ [])) ∙ length-append (points (take k is)) (points (x ∷ [])) in
    let one : length (points (x ∷ [])) ≡ x.1 + 1 - x.0 = ap length (append-nil (interval_points x)) ∙ length-range_with_len x.0 (x.1 + 1 - x.0) in
    omega arith

-- an instance
same_inst : (insts cols cells i c m most_insts most_columns most_cells n k : ℕ) (f : Format) → insts ≡ i → cols ≡ c → cells ≡ m → n ≡ k →
    find is_above (quantity (codes "instances") insts most_insts ∷ quantity (codes "columns") cols most_columns ∷ quantity (codes "cells") cells most_cells ∷ spaces_quantity f n ∷ [])
    ≡ find is_above (quantity (codes "instances") i most_insts ∷ quantity (codes "columns") c most_columns ∷ quantity (codes "cells") m most_cells ∷ spaces_quantity f k ∷ [])
same_inst insts cols cells i c m most_insts most_columns most_cells n k f a b d e = cc

same_two : (a b x y : QuantityValue) → a ≡ x → b ≡ y → find is_above (a ∷ b ∷ []) ≡ find is_above (x ∷ y ∷ [])
same_two a b x y p q = cc

columns_with_decl : (g : GraphValue) (d : Decl) (n : ℕ) → IsGraph g → length (columns_of d) + length (data_columns_of d) ≡ n → column_count (with_decl g d) ≡ column_count g + n
columns_with_decl g d n fits is = ap (λ (x : Counts). x.columns) (counts_with_decl g d fits) ∙ ap (λ m. column_count g + m) is

pub inst_with_limit : (g : GraphValue) → IsGraph g → (name space word : List ℕ) → limit_in g (Some (columns_with g false name space word)) ≡ inst_limit g (space_number g space) (length (pieces 44 word))
inst_with_limit g fits name space word =
    let d : Decl = Inst name (space_number g space) (pieces 44 word) in
    let counts = counts_with_decl g d fits in
    let fields : length (columns_of d) ≡ length (pieces 44 word) = length-map (pieces 44 word) _ in
    let spaces : length (named_spaces (with_decl g d)) ≡ length (named_spaces g) + 0 = spaces_with g d in
    same_inst _ _ _ _ _ _ _ _ _ _ _ _ (ap (λ (x : Counts). x.insts) counts)
    (columns_with_decl g d (length (pieces 44 word)) fits (let e : length (columns_of d) + 0 ≡ length (pieces 44 word) = omega arith in e))
    (ap (λ (x : Counts). x.cells) counts ∙ ap (λ n. cell_count g + n) (cells_of_fields g name (space_number g space) (pieces 44 word)))
    (let same : length (named_spaces (with_decl g d)) ≡ length (named_spaces g) = omega arith in same)

pub inst_is_limit : (g : GraphValue) → IsGraph g → (ws : List (List ℕ)) (space fields : ℕ) → length ws ≡ 4 → space ≡ space_number g (slice_index_or ws 2 []) → fields ≡ length (pieces 44 (slice_index_or ws 3 [])) →
    inst_limit g space fields ≡ limit_in g (inst_draft g (drop 1 ws))
inst_is_limit g fits ws space fields four named spelled =
    ap (λ n. inst_limit g n fields) named ∙ (ap (inst_limit g (space_number g (slice_index_or ws 2 []))) spelled
    ∙ (sym (inst_with_limit g fits (slice_index_or ws 1 []) (slice_index_or ws 2 []) (slice_index_or ws 3 [])) ∙ ap (limit_in g) (sym (inst_shape g ws four))))

-- data
data_with_limit : (g : GraphValue) → IsGraph g → (name space word : List ℕ) → limit_in g (Some (columns_with g true name space word)) ≡ data_limit g (length (pieces 44 word))
data_with_limit g fits name space word =
    let d : Decl = Data name (space_number g space) (pieces 44 word) in
    let fields : length (data_columns_of d) ≡ length (pieces 44 word) = length-map (pieces 44 word) _ in
    let spaces : length (named_spaces (with_decl g d)) ≡ length (named_spaces g) + 0 = spaces_with g d in
    same_two _ _ _ _ (ap (columns_quantity g.format) (columns_with_decl g d (length (pieces 44 word)) fits (let e : 0 + length (data_columns_of d) ≡ length (pieces 44 word) = omega arith in e)))
    (ap (spaces_quantity g.format) (let same : length (named_spaces (with_decl g d)) ≡ length (named_spaces g) = omega arith in same))

pub data_is_limit : (g : GraphValue) → IsGraph g → (ws : List (List ℕ)) (fields : ℕ) → length ws ≡ 4 → has_since Three g.format ≡ true → fields ≡ length (pieces 44 (slice_index_or ws 3 [])) → data_limit g fields ≡ limit_in g (data_draft g (drop 1 ws))
data_is_limit g fits ws fields four three spelled =
    ap (data_limit g) spelled ∙ (sym (data_with_limit g fits (slice_index_or ws 1 []) (slice_index_or ws 2 []) (slice_index_or ws 3 [])) ∙ ap (limit_in g) (sym (data_shape g ws four three)))

-- a reservation, and a barrier
same_one : (name : List ℕ) (n m bound i k : ℕ) (f : Format) (a d : QuantityValue) → a ≡ quantity name n bound → n ≡ m → d ≡ spaces_quantity f i → i ≡ k → find is_above (a ∷ d ∷ []) ≡ find is_above (quantity name m bound ∷ spaces_quantity f k ∷ [])
same_one name n m bound i k f a d is e last same = cc

pub lock_limit : (g : GraphValue) (ws : List (List ℕ)) (a b : QuantityValue) → length ws ≡ 2 → a ≡ quantity (codes "reservations") (length (locks g) + 1) (limits g.format).locks → b ≡ spaces_quantity g.format (length (named_spaces g) + 0) →
    find is_above (a ∷ b ∷ []) ≡ limit_in g (lock_draft g (drop 1 ws))
lock_limit g ws a b two is last =
    let d : Decl = Lock (slice_index_or ws 1 []) in
    let more : length (locks (with_decl g d)) ≡ length (locks g) + 1 = ap length (filter_map-append lock_of g.decls (d ∷ [])) ∙ length-append (locks g) (filter_map lock_of (d ∷ [])) in
    same_one (codes "reservations") _ _ (limits g.format).locks _ _ g.format a b is (sym more) last (sym (spaces_with g d)) ∙ ap (limit_in g) (sym (lock_shape g ws two))

barrier_by : (g : GraphValue) (ws : List (List ℕ)) (a b : QuantityValue) (o : Option Op) → length ws ≡ 5 → op_of (slice_index_or ws 3 []) ≡ o → is_some o ≡ true → a ≡ quantity (codes "barriers") (length (barriers g) + 1) (limits g.format).barriers →
    b ≡ spaces_quantity g.format (length (named_spaces g) + 0) → find is_above (a ∷ b ∷ []) ≡ limit_in g (barrier_draft g (drop 1 ws))
barrier_by g ws a b None five op there is last = absurd (true≢false (sym there))
barrier_by g ws a b (Some o) five op there is last =
    let d : Decl = Barrier (slice_index_or ws 1 []) (unwrap_or (count_of g.format (slice_index_or ws 2 [])) 0) o (unwrap_or (value_of (slice_index_or ws 4 [])) 0) in
    let more : length (barriers (with_decl g d)) ≡ length (barriers g) + 1 = ap length (filter_map-append barrier_of g.decls (d ∷ [])) ∙ length-append (barriers g) (filter_map barrier_of (d ∷ [])) in
    same_one (codes "barriers") _ _ (limits g.format).barriers _ _ g.format a b is (sym more) last (sym (spaces_with g d))
    ∙ ap (limit_in g) (sym (barrier_shape g ws five ∙ ap (option_map (λ x. barrier_with g.format (slice_index_or ws 1 []) (slice_index_or ws 2 []) x (slice_index_or ws 4 []))) op))

pub barrier_limit : (g : GraphValue) (ws : List (List ℕ)) (a b : QuantityValue) → length ws ≡ 5 → is_some (op_of (slice_index_or ws 3 [])) ≡ true → a ≡ quantity (codes "barriers") (length (barriers g) + 1) (limits g.format).barriers →
    b ≡ spaces_quantity g.format (length (named_spaces g) + 0) → find is_above (a ∷ b ∷ []) ≡ limit_in g (barrier_draft g (drop 1 ws))
barrier_limit g ws a b five there is last = barrier_by g ws a b (op_of (slice_index_or ws 3 [])) five refl there is last

-- the intervals that a word spells, or none
pub given_some : (o : Option (Vec (ℕ × ℕ) Global)) (v : Vec (ℕ × ℕ) Global) (r : Option (List (ℕ × ℕ))) → Gives (λ (x : Vec (ℕ × ℕ) Global). x.items) o r → o ≡ Some v → v.items ≡ unwrap_or r []
given_some None v r gives is = absurd (none-some v is)
given_some (Some x) v r gives is = ap (λ (y : Vec (ℕ × ℕ) Global). y.items) (sym (same_Some x v is)) ∙ ap (λ p. unwrap_or p []) (sym gives)

pub given_none : (o : Option (Vec (ℕ × ℕ) Global)) (r : Option (List (ℕ × ℕ))) → Gives (λ (x : Vec (ℕ × ℕ) Global). x.items) o r → o ≡ None → [] ≡ unwrap_or r []
given_none None r gives is = ap (λ p. unwrap_or p []) (sym gives)
given_none (Some x) r gives is = absurd (none-some x (sym is))

-- a space
space_given : (g : GraphValue) (name word : List ℕ) (is : List (ℕ × ℕ)) → is ≡ unwrap_or (intervals_of word) [] → intervals_limit g is ≡ limit_in g (Some (space_with name word))
space_given g name word is spelled =
    let d : Decl = Space name (unwrap_or (intervals_of word) []) in
    ap (intervals_limit g) spelled ∙ ap (λ n. find is_above (space_quantities g.format (unwrap_or (intervals_of word) []) ++ spaces_quantity g.format n ∷ [])) (sym (spaces_with g d))

pub space_limit : (g : GraphValue) (ws : List (List ℕ)) (is : List (ℕ × ℕ)) → length ws ≡ 3 → is ≡ unwrap_or (intervals_of (slice_index_or ws 2 [])) [] → intervals_limit g is ≡ limit_in g (space_draft g (drop 1 ws))
space_limit g [] is three spelled = absurd (omega (arith, three))
space_limit g (a ∷ []) is three spelled = absurd (omega (arith, three))
space_limit g (a ∷ b ∷ []) is three spelled = absurd (omega (arith, three))
space_limit g (a ∷ b ∷ c ∷ []) is three spelled = space_given g b c is spelled
space_limit g (a ∷ b ∷ c ∷ d ∷ ds) is three spelled = absurd (omega (arith, three))

pub below_next : (f : ℕ → ℕ) (n : ℕ) → below f (n + 1) ≡ below f n + f n
below_next f n = let one : n + 1 ≡ suc n = omega arith in ap (below f) one
