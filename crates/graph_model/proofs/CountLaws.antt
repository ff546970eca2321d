-- The quantities of a graph with one more item.
use Rattle.std.proofs.Common.{◌≡◌, ℕ, zero, suc, ◌+◌, ◌*◌, ◌^◌, ◌<◌, ◌≤◌, true, false, List, [], ◌∷◌, ◌++◌, length, map, refl, sym, ◌∙◌, ap, subst, append-nil, length-append, arith}
use Rattle.std.specs.Prelude.{max, take, Contains, filter, filter_map, flat_map, sum_by, zip, Option, Some, None, option_map, slice_get, slice_index, codes, decimal}
use Rattle.std.specs.Option.{option_map_or}
use Rattle.std.specs.List.{list_any, join_with_byte}
use Rattle.std.proofs.lemmas.Bool.{or_parts, leb-false}
use Rattle.std.proofs.lemmas.Grind.{flat_map-append}
use Rattle.std.proofs.lemmas.List.{take_all}
use Rattle.std.proofs.lemmas.Option.{none-some, same_Some}
use Rattle.std.proofs.lemmas.List.Elements.{filter-append, filter_map-append}
use Rattle.std.proofs.lemmas.List.Sums.{sum_by-append, sum_by-cons}
use Rattle.index_spaces.specs.Space.{space_size, AscendAbove, IsSpace}
use Rattle.graph_terms.specs.declared.format.Format.{Format}
use Rattle.graph_indexes.specs.declared.counts.Counts.{Counts}
use Rattle.graph_terms.specs.declared.decl.Decl.{Decl}
use Rattle.graph_terms.specs.declared.decl.Decl.TheVariants as decl
use Rattle.graph_terms.specs.declared.verb.Access.{Access}
use Rattle.graph_terms.specs.declared.verb.Line.{Line}
use Rattle.graph_terms.specs.declared.verb.Verb.{Verb}
use Rattle.graph_terms.specs.declared.verb.Verb.TheVariants.{Merge, MergeIgnore, Call}
use Rattle.graph_terms.specs.declared.call.CallParts.{CallParts}
use Rattle.graph_terms.specs.Graph.{GraphValue, space_of, columns_of, data_columns_of, lock_of, barrier_of, named_spaces, columns, data_columns, locks, barriers, space_at}
use Rattle.graph_terms.specs.declared.decl.ColumnInfo.{ColumnInfo}
use Rattle.graph_terms.specs.declared.decl.BarrierInfo.{BarrierInfo}
use Rattle.graph_terms.specs.declared.table.Place.{Place}
use Rattle.graph_terms.specs.declared.table.Place.TheVariants.{Lock, Barrier, Space, Column}
use Rattle.graph_terms.specs.Table.{kind_words, verb_kind, verb_parts, verb_places, any_placed, is_row}
use Rattle.graph_terms.specs.Access.{access, accesses_of, verb_accesses, call_accesses}
use Rattle.graph_terms.specs.Edges.{edges, line_edges}
use Rattle.graph_terms.specs.Fits.{is_inst, cell_count, with_decl, with_line, access_unknown, data_unknown, place_unknown, verb_unknown, line_fault, LinesFit, IsGraph}
use Rattle.graph_terms.specs.Spelling.{spelled, space_name, column_name, data_name, mode_word, access_words, call_words, decl_words, place_word, verb_words, on_words, line_words, header, decls_text, lines_text, head, comma_word, interval_word}
use Rattle.graph_indexes.specs.Counts.{words_size, cells_of_decl, counts_of}
use Rattle.graph_terms.proofs.Public.{fits_known, columns_known, decls_text_push, head_with_line, edges_push, part_for_each, verb_is_row, none_placed, column_access, space_access, none_of_accesses, map_placed}
use Rattle.basics.proofs.ListFacts.{contains_here, contains_there}

-- the length of words
pub words_cons : (w : List ℕ) (ws : List (List ℕ)) → words_size (w ∷ ws) ≡ (length w + 1) + words_size ws
words_cons w ws = sum_by-cons (λ (x : List ℕ). length x + 1) w ws

-- the length of words that are joined, with a byte behind
joined_size : (c : ℕ) (w : List ℕ) (ws : List (List ℕ)) → length (join_with_byte c (w ∷ ws)) + 1 ≡ words_size (w ∷ ws)
joined_size c w [] = let e : words_size (w ∷ []) ≡ (length w + 1) + 0 = words_cons w [] in omega arith
joined_size c w (v ∷ ws) =
    let more : length (join_with_byte c (v ∷ ws)) + 1 ≡ words_size (v ∷ ws) = joined_size c v ws in
    let both : length (join_with_byte c (w ∷ v ∷ ws)) ≡ length w + suc (length (join_with_byte c (v ∷ ws))) = length-append w (c ∷ join_with_byte c (v ∷ ws)) in
    let all : words_size (w ∷ v ∷ ws) ≡ (length w + 1) + words_size (v ∷ ws) = words_cons w (v ∷ ws) in
    omega arith

pub spelled_size : (w : List ℕ) (ws : List (List ℕ)) → length (spelled (w ∷ ws)) ≡ words_size (w ∷ ws)
spelled_size w ws =
    let one : length (spelled (w ∷ ws)) ≡ length (join_with_byte 32 (w ∷ ws)) + 1 = length-append (join_with_byte 32 (w ∷ ws)) (10 ∷ []) in
    one ∙ joined_size 32 w ws

pub comma_size : (pieces : List (List ℕ)) → length (comma_word pieces) + 1 ≡ max (words_size pieces) 1
comma_size [] = refl
comma_size (w ∷ ws) =
    let e : length (comma_word (w ∷ ws)) + 1 ≡ words_size (w ∷ ws) = joined_size 44 w ws in
    let f : words_size (w ∷ ws) ≡ (length w + 1) + words_size ws = words_cons w ws in
    omega arith

-- an item of a list is there in a longer one
pub get_before : {X : Type 0} (xs ys : List X) (k : ℕ) → k < length xs → slice_get (xs ++ ys) k ≡ slice_get xs k
get_before [] ys k h = absurd (omega arith)
get_before (x ∷ xs) ys zero h = refl
get_before (x ∷ xs) ys (suc k) h = get_before xs ys k (omega arith)

-- the graph of declarations and more
abbrev of_items : Format → List Decl → List Line → GraphValue
of_items fm ds ls = record { format = fm; decls = ds; lines = ls }

spaces_before : (fm : Format) (ds : List Decl) (d : Decl) (ls : List Line) (s : ℕ) → s < length (filter_map space_of ds) → slice_get (named_spaces (of_items fm (ds ++ d ∷ []) ls)) s ≡ slice_get (named_spaces (of_items fm ds ls)) s
spaces_before fm ds d ls s h = ap (λ xs. slice_get xs s) (filter_map-append space_of ds (d ∷ [])) ∙ get_before (filter_map space_of ds) (filter_map space_of (d ∷ [])) s h

columns_before : (fm : Format) (ds : List Decl) (d : Decl) (ls : List Line) (c : ℕ) → c < length (flat_map columns_of ds) → slice_get (columns (of_items fm (ds ++ d ∷ []) ls)) c ≡ slice_get (columns (of_items fm ds ls)) c
columns_before fm ds d ls c h = ap (λ xs. slice_get xs c) (flat_map-append columns_of ds (d ∷ [])) ∙ get_before (flat_map columns_of ds) (flat_map columns_of (d ∷ [])) c h

data_before : (fm : Format) (ds : List Decl) (d : Decl) (ls : List Line) (c : ℕ) → c < length (flat_map data_columns_of ds) → slice_get (data_columns (of_items fm (ds ++ d ∷ []) ls)) c ≡ slice_get (data_columns (of_items fm ds ls)) c
data_before fm ds d ls c h = ap (λ xs. slice_get xs c) (flat_map-append data_columns_of ds (d ∷ [])) ∙ get_before (flat_map data_columns_of ds) (flat_map data_columns_of (d ∷ [])) c h

locks_before : (fm : Format) (ds : List Decl) (d : Decl) (ls : List Line) (l : ℕ) → l < length (filter_map lock_of ds) → slice_get (locks (of_items fm (ds ++ d ∷ []) ls)) l ≡ slice_get (locks (of_items fm ds ls)) l
locks_before fm ds d ls l h = ap (λ xs. slice_get xs l) (filter_map-append lock_of ds (d ∷ [])) ∙ get_before (filter_map lock_of ds) (filter_map lock_of (d ∷ [])) l h

barriers_before : (fm : Format) (ds : List Decl) (d : Decl) (ls : List Line) (b : ℕ) → b < length (filter_map barrier_of ds) → slice_get (barriers (of_items fm (ds ++ d ∷ []) ls)) b ≡ slice_get (barriers (of_items fm ds ls)) b
barriers_before fm ds d ls b h = ap (λ xs. slice_get xs b) (filter_map-append barrier_of ds (d ∷ [])) ∙ get_before (filter_map barrier_of ds) (filter_map barrier_of (d ∷ [])) b h

-- one more declaration changes no name of what is declared
abbrev NamesKept : GraphValue → GraphValue → Access → Type 0
NamesKept g h a = (column_name h a.column ≡ column_name g a.column) × (space_name h a.space ≡ space_name g a.space)

names_kept : (fm : Format) (ds : List Decl) (d : Decl) (ls : List Line) (a : Access) → access_unknown (of_items fm ds ls) a ≡ false → NamesKept (of_items fm ds ls) (of_items fm (ds ++ d ∷ []) ls) a
names_kept fm ds d ls a h =
    let parts = or_parts _ _ h in (
      ap (λ (o : Option ColumnInfo). option_map_or (λ (x : ColumnInfo). x.inst ++ 46 ∷ x.field) o []) (columns_before fm ds d ls a.column (leb-false (length (flat_map columns_of ds)) a.column parts.0)),
      ap (λ (o : Option (List ℕ × List (ℕ × ℕ))). option_map_or (λ (x : List ℕ × List (ℕ × ℕ)). x.0) o []) (spaces_before fm ds d ls a.space (leb-false (length (filter_map space_of ds)) a.space parts.1)),
    )

-- nor a word in a place of a row whose numbers are known
place_kept : (fm : Format) (ds : List Decl) (d : Decl) (ls : List Line) (ps : List Place) (ns : List ℕ) → is_row ps ≡ true → length ns ≡ length ps →
    any_placed (place_unknown (of_items fm ds ls)) (zip ps ns) ≡ false → list_any (access_unknown (of_items fm ds ls)) (accesses_of ps ns) ≡ false →
    (k : ℕ) (p : Place) (n : ℕ) → slice_get ps k ≡ Some p → slice_get ns k ≡ Some n → place_word (of_items fm (ds ++ d ∷ []) ls) p n ≡ place_word (of_items fm ds ls) p n
place_kept fm ds d ls ps ns r e u h k Lock n at here =
    ap (λ (o : Option (List ℕ)). option_map_or (λ (x : List ℕ). x) o [])
    (locks_before fm ds d ls n (leb-false (length (filter_map lock_of ds)) n (none_placed (place_unknown (of_items fm ds ls)) ps ns u k Lock n at here)))
place_kept fm ds d ls ps ns r e u h k Barrier n at here =
    ap (λ (o : Option BarrierInfo). option_map_or (λ (x : BarrierInfo). x.name) o [])
    (barriers_before fm ds d ls n (leb-false (length (filter_map barrier_of ds)) n (none_placed (place_unknown (of_items fm ds ls)) ps ns u k Barrier n at here)))
place_kept fm ds d ls ps ns r e u h k Space n at here =
    let a = space_access ps ns r e k n at here in
    ap (space_name (of_items fm (ds ++ d ∷ []) ls)) (sym a.2) ∙ ((names_kept fm ds d ls a.0 (none_of_accesses (access_unknown (of_items fm ds ls)) ps ns h a.0 a.1)).1 ∙ ap (space_name (of_items fm ds ls)) a.2)
place_kept fm ds d ls ps ns r e u h k (Column mode over) n at here =
    let a : Access = access n (slice_index ns over) mode in
    (names_kept fm ds d ls a (none_of_accesses (access_unknown (of_items fm ds ls)) ps ns h a (column_access ps ns k mode over n at here))).0
place_kept fm ds d ls ps ns r e u h k p n at here = refl

-- nor the words of an access of a call that is known
access_words_kept : (fm : Format) (ds : List Decl) (d : Decl) (ls : List Line) (a : Access) → data_unknown (of_items fm ds ls) a ≡ false → access_words (of_items fm (ds ++ d ∷ []) ls) a ≡ access_words (of_items fm ds ls) a
access_words_kept fm ds d ls a h =
    let parts = or_parts _ _ h in
    let column : data_name (of_items fm (ds ++ d ∷ []) ls) a.column ≡ data_name (of_items fm ds ls) a.column =
    ap (λ (o : Option ColumnInfo). option_map_or (λ (x : ColumnInfo). x.inst ++ 46 ∷ x.field) o []) (data_before fm ds d ls a.column (leb-false (length (flat_map data_columns_of ds)) a.column parts.0)) in
    let space : space_name (of_items fm (ds ++ d ∷ []) ls) a.space ≡ space_name (of_items fm ds ls) a.space =
    ap (λ (o : Option (List ℕ × List (ℕ × ℕ))). option_map_or (λ (x : List ℕ × List (ℕ × ℕ)). x.0) o []) (spaces_before fm ds d ls a.space (leb-false (length (filter_map space_of ds)) a.space parts.1)) in
    ap (λ w. mode_word a.mode ∷ w ∷ space_name (of_items fm (ds ++ d ∷ []) ls) a.space ∷ []) column ∙ ap (λ w. mode_word a.mode ∷ data_name (of_items fm ds ls) a.column ∷ w ∷ []) space

accesses_words_kept : (fm : Format) (ds : List Decl) (d : Decl) (ls : List Line) (given : List Access) → list_any (data_unknown (of_items fm ds ls)) given ≡ false → flat_map (access_words (of_items fm (ds ++ d ∷ []) ls)) given ≡ flat_map (access_words (of_items fm ds ls)) given
accesses_words_kept fm ds d ls [] h = refl
accesses_words_kept fm ds d ls (a ∷ given) h =
    let parts = or_parts (data_unknown (of_items fm ds ls) a) (list_any (data_unknown (of_items fm ds ls)) given) h in
    ap (λ ws. ws ++ flat_map (access_words (of_items fm (ds ++ d ∷ []) ls)) given) (access_words_kept fm ds d ls a parts.0)
    ∙ ap (λ ws. access_words (of_items fm ds ls) a ++ ws) (accesses_words_kept fm ds d ls given parts.1)

verb_words_kept : (fm : Format) (ds : List Decl) (d : Decl) (ls : List Line) (v : Verb) → verb_unknown (of_items fm ds ls) v ≡ false → list_any (access_unknown (of_items fm ds ls)) (verb_accesses v) ≡ false → list_any (data_unknown (of_items fm ds ls)) (call_accesses v) ≡ false →
    verb_words (of_items fm (ds ++ d ∷ []) ls) v ≡ verb_words (of_items fm ds ls) v
verb_words_kept fm ds d ls (Merge events) u h k = refl
verb_words_kept fm ds d ls (MergeIgnore events) u h k = refl
verb_words_kept fm ds d ls (Call call) u h k = ap (λ ws. codes "call" ∷ call.word ∷ map decimal call.values ++ ws) (accesses_words_kept fm ds d ls call.accesses k)
verb_words_kept fm ds d ls v u h k =
    ap (λ ws. option_map_or kind_words (verb_kind v) [] ++ ws)
    (map_placed (place_word (of_items fm (ds ++ d ∷ []) ls)) (place_word (of_items fm ds ls)) (verb_places v) (verb_parts v)
    (place_kept fm ds d ls (verb_places v) (verb_parts v) (verb_is_row v) (part_for_each v) u h))

line_words_kept : (fm : Format) (ds : List Decl) (d : Decl) (ls : List Line) (l : Line) → line_fault (of_items fm ds ls) l ≡ None → line_words (of_items fm (ds ++ d ∷ []) ls) l ≡ line_words (of_items fm ds ls) l
line_words_kept fm ds d ls l h =
    let known = or_parts _ _ (or_parts _ _ (fits_known (of_items fm ds ls) l h)).1 in
    let accesses = or_parts _ _ known.1 in
    ap (λ ws. l.name ∷ codes "=" ∷ ws ++ on_words (of_items fm ds ls) l.on) (verb_words_kept fm ds d ls l.verb known.0 accesses.0 accesses.1)

lines_text_kept : (fm : Format) (ds : List Decl) (d : Decl) (b ls : List Line) → LinesFit fm ds b ls → lines_text fm (ds ++ d ∷ []) b ls ≡ lines_text fm ds b ls
lines_text_kept fm ds d b [] f = refl
lines_text_kept fm ds d b (l ∷ ls) f =
    ap (λ ws. spelled ws ++ lines_text fm (ds ++ d ∷ []) (b ++ l ∷ []) ls) (line_words_kept fm ds d b l f.1)
    ∙ ap (λ t. spelled (line_words (of_items fm ds b) l) ++ t) (lines_text_kept fm ds d (b ++ l ∷ []) ls f.2)

decl_words_lines : (fm : Format) (ds : List Decl) (ls : List Line) (d : Decl) → decl_words (of_items fm ds []) d ≡ decl_words (of_items fm ds ls) d
decl_words_lines fm ds ls (decl.Space name space) = refl
decl_words_lines fm ds ls d = refl

-- the text has one line more
pub text_with_decl : (g : GraphValue) (d : Decl) → IsGraph g → length (head (with_decl g d)) ≡ length (head g) + length (spelled (decl_words g d))
text_with_decl g d f =
    let a : List ℕ = decls_text g.format [] g.decls in
    let b : List ℕ = lines_text g.format g.decls [] g.lines in
    let w : List ℕ = spelled (decl_words g d) in
    let e : decls_text g.format [] (g.decls ++ d ∷ []) ≡ a ++ w = decls_text_push g.format [] g.decls d ∙ ap (λ ws. a ++ spelled ws) (decl_words_lines g.format g.decls g.lines d) in
    let k : lines_text g.format (g.decls ++ d ∷ []) [] g.lines ≡ b = lines_text_kept g.format g.decls d [] g.lines f.lines in
    let new : length (head (with_decl g d)) ≡ length (header g.format ++ ((a ++ w) ++ b)) = ap (λ x. length (header g.format ++ (x ++ lines_text g.format (g.decls ++ d ∷ []) [] g.lines))) e ∙ ap (λ y. length (header g.format ++ ((a ++ w) ++ y))) k in
    new ∙ lengths (header g.format) a w b
  where
    lengths : (h a w b : List ℕ) → length (h ++ ((a ++ w) ++ b)) ≡ length (h ++ (a ++ b)) + length w
    lengths h a w b =
        let p : length (h ++ ((a ++ w) ++ b)) ≡ length h + length ((a ++ w) ++ b) = length-append h ((a ++ w) ++ b) in
        let q : length ((a ++ w) ++ b) ≡ length (a ++ w) + length b = length-append (a ++ w) b in
        let r : length (a ++ w) ≡ length a + length w = length-append a w in
        let s : length (h ++ (a ++ b)) ≡ length h + length (a ++ b) = length-append h (a ++ b) in
        let t : length (a ++ b) ≡ length a + length b = length-append a b in
        omega arith

sum_same : {X : Type 0} (f h : X → ℕ) (xs : List X) → ((x : X) → Contains xs x → f x ≡ h x) → sum_by f xs ≡ sum_by h xs
sum_same f h [] e = refl
sum_same f h (x ∷ xs) e =
    sum_by-cons f x xs ∙ (ap (λ n. n + sum_by f xs) (e x (contains_here x xs)) ∙ (ap (λ n. h x + n) (sum_same f h xs (λ y c. e y (contains_there x xs y c))) ∙ sym (sum_by-cons h x xs)))

abbrev column_cells : GraphValue → ColumnInfo → ℕ
column_cells g c = space_size (space_at g c.space)

-- the columns of a declaration have the cells that they have before it
decl_cells : (fm : Format) (ds : List Decl) (ls : List Line) (d : Decl) → sum_by (column_cells (of_items fm (ds ++ d ∷ []) ls)) (columns_of d) ≡ cells_of_decl (of_items fm ds ls) d
decl_cells fm ds ls (decl.Space name space) = refl
decl_cells fm ds ls (decl.Inst name space fields) =
    let e : filter_map space_of (ds ++ decl.Inst name space fields ∷ []) ≡ filter_map space_of ds = filter_map-append space_of ds (decl.Inst name space fields ∷ []) ∙ append-nil (filter_map space_of ds) in
    ap (λ xs. sum_by (λ (c : ColumnInfo). space_size (option_map_or (λ (x : List ℕ × List (ℕ × ℕ)). x.1) (slice_get xs c.space) [])) (columns_of (decl.Inst name space fields))) e
decl_cells fm ds ls (decl.Data name space fields) = refl
decl_cells fm ds ls (decl.Lock name) = refl
decl_cells fm ds ls (decl.Barrier name count op first) = refl

pub cells_with_decl : (g : GraphValue) (d : Decl) → IsGraph g → cell_count (with_decl g d) ≡ cell_count g + cells_of_decl g d
cells_with_decl g d f =
    let split : columns (with_decl g d) ≡ columns g ++ columns_of d = flat_map-append columns_of g.decls (d ∷ []) ∙ ap (λ l. columns g ++ l) (append-nil (columns_of d)) in
    let old : sum_by (column_cells (with_decl g d)) (columns g) ≡ cell_count g =
    sum_same (column_cells (with_decl g d)) (column_cells g) (columns g) (λ x c. ap (λ (o : Option (List ℕ × List (ℕ × ℕ))). space_size (option_map_or (λ (x : List ℕ × List (ℕ × ℕ)). x.1) o [])) (spaces_before g.format g.decls d g.lines x.space (columns_known g.format [] g.decls f.decls x c))) in
    let new : sum_by (column_cells (with_decl g d)) (columns_of d) ≡ cells_of_decl g d = decl_cells g.format g.decls g.lines d in
    let both : sum_by (column_cells (with_decl g d)) (columns g ++ columns_of d) ≡ sum_by (column_cells (with_decl g d)) (columns g) + sum_by (column_cells (with_decl g d)) (columns_of d) = sum_by-append (column_cells (with_decl g d)) (columns g) (columns_of d) in
    let all : cell_count (with_decl g d) ≡ sum_by (column_cells (with_decl g d)) (columns g ++ columns_of d) = ap (sum_by (column_cells (with_decl g d))) split in
    omega arith

-- quantities that are the same one by one
abbrev counts : ℕ → ℕ → ℕ → ℕ → ℕ → ℕ → ℕ → ℕ → ℕ → Counts
counts t s i c m l b n e = record { text = t; spaces = s; insts = i; columns = c; cells = m; locks = l; barriers = b; lines = n; edges = e }

more_infos : (f : Decl → List ColumnInfo) (ds : List Decl) (d : Decl) → length (flat_map f (ds ++ d ∷ [])) ≡ length (flat_map f ds) + length (f d)
more_infos f ds d = ap length (flat_map-append f ds (d ∷ []) ∙ ap (λ l. flat_map f ds ++ l) (append-nil (f d))) ∙ length-append (flat_map f ds) (f d)

pub counts_with_decl : (g : GraphValue) (d : Decl) → IsGraph g → counts_of (with_decl g d) ≡
    counts (length (head g) + length (spelled (decl_words g d))) (length (named_spaces g) + length (filter_map space_of (d ∷ []))) (length (filter is_inst g.decls) + length (filter is_inst (d ∷ []))) ((length (columns g) + length (data_columns g)) + (length (columns_of d) + length (data_columns_of d))) (cell_count g + cells_of_decl g d)
    (length (locks g) + length (filter_map lock_of (d ∷ []))) (length (barriers g) + length (filter_map barrier_of (d ∷ []))) (length g.lines) (length (edges g))
counts_with_decl g d f =
    let t : length (head (with_decl g d)) ≡ length (head g) + length (spelled (decl_words g d)) = text_with_decl g d f in
    let s : length (named_spaces (with_decl g d)) ≡ length (named_spaces g) + length (filter_map space_of (d ∷ [])) = ap length (filter_map-append space_of g.decls (d ∷ [])) ∙ length-append (named_spaces g) (filter_map space_of (d ∷ [])) in
    let i : length (filter is_inst (g.decls ++ d ∷ [])) ≡ length (filter is_inst g.decls) + length (filter is_inst (d ∷ [])) = ap length (filter-append is_inst g.decls (d ∷ [])) ∙ length-append (filter is_inst g.decls) (filter is_inst (d ∷ [])) in
    let ci : length (columns (with_decl g d)) ≡ length (columns g) + length (columns_of d) = more_infos columns_of g.decls d in
    let cd : length (data_columns (with_decl g d)) ≡ length (data_columns g) + length (data_columns_of d) = more_infos data_columns_of g.decls d in
    let c : length (columns (with_decl g d)) + length (data_columns (with_decl g d)) ≡ (length (columns g) + length (data_columns g)) + (length (columns_of d) + length (data_columns_of d)) = omega (arith, ci, cd) in
    let m : cell_count (with_decl g d) ≡ cell_count g + cells_of_decl g d = cells_with_decl g d f in
    let l : length (locks (with_decl g d)) ≡ length (locks g) + length (filter_map lock_of (d ∷ [])) = ap length (filter_map-append lock_of g.decls (d ∷ [])) ∙ length-append (locks g) (filter_map lock_of (d ∷ [])) in
    let b : length (barriers (with_decl g d)) ≡ length (barriers g) + length (filter_map barrier_of (d ∷ [])) = ap length (filter_map-append barrier_of g.decls (d ∷ [])) ∙ length-append (barriers g) (filter_map barrier_of (d ∷ [])) in
    cc

pub counts_with_line : (g : GraphValue) (l : Line) → counts_of (with_line g l) ≡
    counts (length (head g) + length (spelled (line_words g l))) (length (named_spaces g)) (length (filter is_inst g.decls)) (length (columns g) + length (data_columns g)) (cell_count g) (length (locks g)) (length (barriers g)) (length g.lines + 1) (length (edges g) + length (line_edges g.lines l))
counts_with_line g l =
    let t : length (head (with_line g l)) ≡ length (head g) + length (spelled (line_words g l)) = ap length (head_with_line g l) ∙ length-append (head g) (spelled (line_words g l)) in
    let n : length (g.lines ++ l ∷ []) ≡ length g.lines + 1 = length-append g.lines (l ∷ []) in
    let e : length (edges (with_line g l)) ≡ length (edges g) + length (line_edges g.lines l) = ap length (edges_push g l) ∙ length-append (edges g) (line_edges g.lines l) in
    cc

pub words_append : (xs ys : List (List ℕ)) → words_size (xs ++ ys) ≡ words_size xs + words_size ys
words_append xs ys = sum_by-append (λ (w : List ℕ). length w + 1) xs ys

-- the words of accesses, one by one
pub sum_flat : {X : Type 0} (f : X → List (List ℕ)) (xs : List X) → words_size (flat_map f xs) ≡ sum_by (λ x. words_size (f x)) xs
sum_flat f [] = refl
sum_flat f (x ∷ xs) = words_append (f x) (flat_map f xs) ∙ (ap (λ n. words_size (f x) + n) (sum_flat f xs) ∙ sym (sum_by-cons (λ x. words_size (f x)) x xs))

pub access_words_size : (g : GraphValue) (a : Access) → words_size (access_words g a) ≡ (length (mode_word a.mode) + 1) + (length (data_name g a.column) + 1) + (length (space_name g a.space) + 1)
access_words_size g a =
    let one : words_size (access_words g a) ≡ (length (mode_word a.mode) + 1) + words_size (data_name g a.column ∷ space_name g a.space ∷ []) = words_cons (mode_word a.mode) (data_name g a.column ∷ space_name g a.space ∷ []) in
    let two : words_size (data_name g a.column ∷ space_name g a.space ∷ []) ≡ (length (data_name g a.column) + 1) + words_size (space_name g a.space ∷ []) = words_cons (data_name g a.column) (space_name g a.space ∷ []) in
    let three : words_size (space_name g a.space ∷ []) ≡ (length (space_name g a.space) + 1) + 0 = words_cons (space_name g a.space) [] in
    omega (arith, one, two, three)

pub call_words_size : (g : GraphValue) (c : CallParts) → words_size (call_words g c) ≡ 5 + (length c.word + 1) + words_size (map decimal c.values) + words_size (flat_map (access_words g) c.accesses)
call_words_size g c =
    let rest : List (List ℕ) = map decimal c.values ++ flat_map (access_words g) c.accesses in
    let one : words_size (call_words g c) ≡ (length (codes "call") + 1) + words_size (c.word ∷ rest) = words_cons (codes "call") (c.word ∷ rest) in
    let two : words_size (c.word ∷ rest) ≡ (length c.word + 1) + words_size rest = words_cons c.word rest in
    let three : words_size rest ≡ words_size (map decimal c.values) + words_size (flat_map (access_words g) c.accesses) = words_append (map decimal c.values) (flat_map (access_words g) c.accesses) in
    let word : length (codes "call") ≡ 4 = refl in
    omega (arith, one, two, three, word)

-- the sums of the loops that measure words
pub sum_words : {X : Type 0} (f : X → List ℕ) (xs : List X) → words_size (map f xs) ≡ sum_by (λ x. length (f x) + 1) xs
sum_words f [] = refl
sum_words f (x ∷ xs) = words_cons (f x) (map f xs) ∙ (ap (λ n. (length (f x) + 1) + n) (sum_words f xs) ∙ sym (sum_by-cons (λ x. length (f x) + 1) x xs))

pub interval_size : (i : ℕ × ℕ) → length (interval_word i) + 1 ≡ (length (decimal i.0) + 1) + (length (decimal i.1) + 1) + 1
interval_size i =
    let e : length (interval_word i) ≡ length (decimal i.0) + suc (suc (length (decimal i.1))) = length-append (decimal i.0) (46 ∷ 46 ∷ decimal i.1) in
    omega arith

-- a space has few intervals
few_above : (low : ℕ) (s : List (ℕ × ℕ)) → AscendAbove low s → 0 < length s → low + 2 * length s ≤ 2 ^ 32 + 1
few_above low [] h k = absurd (omega arith)
few_above low (i ∷ []) h k = let a : low ≤ i.0 = h.0 in let b : i.0 ≤ i.1 = h.1 in let c : i.1 < 2 ^ 32 = h.2 in omega arith
few_above low (i ∷ j ∷ s) h k =
    let a : low ≤ i.0 = h.0 in
    let b : i.0 ≤ i.1 = h.1 in
    let more : (i.1 + 2) + 2 * length (j ∷ s) ≤ 2 ^ 32 + 1 = few_above (i.1 + 2) (j ∷ s) h.3 (omega arith) in
    let n : length (i ∷ j ∷ s) ≡ suc (length (j ∷ s)) = refl in
    omega arith

pub few_intervals : (s : List (ℕ × ℕ)) → IsSpace s → length s < 2 ^ 32
few_intervals s h = let e : 0 + 2 * length s ≤ 2 ^ 32 + 1 = few_above 0 s h.1 h.0 in omega arith

-- the columns of an instance have the points of its space each
pub cells_of_fields : (g : GraphValue) (name : List ℕ) (space : ℕ) (fields : List (List ℕ)) → cells_of_decl g (decl.Inst name space fields) ≡ length fields * space_size (space_at g space)
cells_of_fields g name space [] = let e : 0 ≡ 0 * space_size (space_at g space) = omega arith in e
cells_of_fields g name space (f ∷ fs) =
    sum_by-cons (column_cells g) (record { inst = name; field = f; space = space }) (columns_of (decl.Inst name space fs))
    ∙ (let more : cells_of_decl g (decl.Inst name space fs) ≡ length fs * space_size (space_at g space) = cells_of_fields g name space fs in
    ap (λ n. space_size (space_at g space) + n) more ∙ one_more (length fs) (space_size (space_at g space)))
  where
    one_more : (n m : ℕ) → m + n * m ≡ suc n * m
    one_more n m = grind arith

-- what the loops leave: the sizes of all words
pub measured_names : (xs : List (List ℕ)) (n size r : ℕ) → length xs ≤ n → size ≡ sum_by (λ w. length w + 1) (take n xs) → r ≡ max size 1 → r ≡ length (comma_word xs) + 1
measured_names xs n size r h e m = m ∙ (ap (λ x. max x 1) (e ∙ ap words_size (take_all n xs h)) ∙ sym (comma_size xs))

pub measured_words : {X : Type 0} (f : X → List ℕ) (xs : List X) (n size r : ℕ) → length xs ≤ n → size ≡ sum_by (λ x. length (f x) + 1) (take n xs) → r ≡ max size 1 → r ≡ length (comma_word (map f xs)) + 1
measured_words f xs n size r h e m = m ∙ (ap (λ x. max x 1) (e ∙ (ap (sum_by (λ x. length (f x) + 1)) (take_all n xs h) ∙ sym (sum_words f xs))) ∙ sym (comma_size (map f xs)))

pub line_words_size : (g : GraphValue) (l : Line) → length (spelled (line_words g l)) ≡ (length l.name + 1) + 2 + words_size (verb_words g l.verb) + words_size (on_words g l.on)
line_words_size g l =
    let ws : List (List ℕ) = verb_words g l.verb ++ on_words g l.on in
    let all : length (spelled (line_words g l)) ≡ words_size (l.name ∷ codes "=" ∷ ws) = spelled_size l.name (codes "=" ∷ ws) in
    let one : words_size (l.name ∷ codes "=" ∷ ws) ≡ (length l.name + 1) + words_size (codes "=" ∷ ws) = words_cons l.name (codes "=" ∷ ws) in
    let two : words_size (codes "=" ∷ ws) ≡ (length (codes "=") + 1) + words_size ws = words_cons (codes "=") ws in
    let three : length (codes "=") ≡ 1 = refl in
    let rest : words_size ws ≡ words_size (verb_words g l.verb) + words_size (on_words g l.on) = words_append (verb_words g l.verb) (on_words g l.on) in
    omega arith

-- quantities read, with those of one more item
same_counts : (t t' s s' i i' c c' m m' l l' b b' n n' e e' : ℕ) → t ≡ t' → s ≡ s' → i ≡ i' → c ≡ c' → m ≡ m' → l ≡ l' → b ≡ b' → n ≡ n' → e ≡ e' → counts t s i c m l b n e ≡ counts t' s' i' c' m' l' b' n' e'
same_counts t t' s s' i i' c c' m m' l l' b b' n n' e e' p1 p2 p3 p4 p5 p6 p7 p8 p9 = cc

pub decl_counts_read : (g now : GraphValue) (d : Decl) (c : Counts) (t s i k m l b : ℕ) → g ≡ now → IsGraph g → c ≡ counts_of g →
    t ≡ length (spelled (decl_words now d)) → s ≡ length (filter_map space_of (d ∷ [])) → i ≡ length (filter is_inst (d ∷ [])) → k ≡ length (columns_of d) + length (data_columns_of d) → m ≡ cells_of_decl now d → l ≡ length (filter_map lock_of (d ∷ [])) → b ≡ length (filter_map barrier_of (d ∷ [])) →
    counts (c.text + t) (c.spaces + s) (c.insts + i) (c.columns + k) (c.cells + m) (c.locks + l) (c.barriers + b) c.lines c.edges ≡ counts_of (with_decl now d)
decl_counts_read g now d c t s i k m l b same f e t_is s_is i_is k_is m_is l_is b_is =
    subst (λ (x : GraphValue). t ≡ length (spelled (decl_words x d)) → m ≡ cells_of_decl x d → counts (c.text + t) (c.spaces + s) (c.insts + i) (c.columns + k) (c.cells + m) (c.locks + l) (c.barriers + b) c.lines c.edges ≡ counts_of (with_decl x d)) same
    (λ t_here m_here. same_counts _ _ _ _ _ _ _ _ _ _ _ _ _ _ _ _ _ _
    (sums c.text (length (head g)) t _ (ap (λ (x : Counts). x.text) e) t_here)
    (sums c.spaces (length (named_spaces g)) s _ (ap (λ (x : Counts). x.spaces) e) s_is)
    (sums c.insts (length (filter is_inst g.decls)) i _ (ap (λ (x : Counts). x.insts) e) i_is)
    (sums c.columns (length (columns g) + length (data_columns g)) k _ (ap (λ (x : Counts). x.columns) e) k_is)
    (sums c.cells (cell_count g) m _ (ap (λ (x : Counts). x.cells) e) m_here)
    (sums c.locks (length (locks g)) l _ (ap (λ (x : Counts). x.locks) e) l_is)
    (sums c.barriers (length (barriers g)) b _ (ap (λ (x : Counts). x.barriers) e) b_is)
    (ap (λ (x : Counts). x.lines) e) (ap (λ (x : Counts). x.edges) e)
    ∙ sym (counts_with_decl g d f)) t_is m_is
  where
    sums : (a a' b b' : ℕ) → a ≡ a' → b ≡ b' → a + b ≡ a' + b'
    sums a a' b b' p q = ap (λ x. x + b) p ∙ ap (λ x. a' + x) q

pub line_counts_read : (g now : GraphValue) (l : Line) (c : Counts) (t n : ℕ) → g ≡ now → c ≡ counts_of g → t ≡ length (spelled (line_words now l)) → n ≡ length (line_edges g.lines l) →
    counts (c.text + t) c.spaces c.insts c.columns c.cells c.locks c.barriers (c.lines + 1) (c.edges + n) ≡ counts_of (with_line now l)
line_counts_read g now l c t n same e t_is n_is =
    subst (λ (x : GraphValue). t ≡ length (spelled (line_words x l)) → counts (c.text + t) c.spaces c.insts c.columns c.cells c.locks c.barriers (c.lines + 1) (c.edges + n) ≡ counts_of (with_line x l)) same
    (λ t_here. same_counts _ _ _ _ _ _ _ _ _ _ _ _ _ _ _ _ _ _
    (sums c.text (length (head g)) t _ (ap (λ (x : Counts). x.text) e) t_here)
    (ap (λ (x : Counts). x.spaces) e) (ap (λ (x : Counts). x.insts) e) (ap (λ (x : Counts). x.columns) e) (ap (λ (x : Counts). x.cells) e) (ap (λ (x : Counts). x.locks) e) (ap (λ (x : Counts). x.barriers) e)
    (ap (λ (x : Counts). x.lines + 1) e)
    (sums c.edges (length (edges g)) n _ (ap (λ (x : Counts). x.edges) e) n_is)
    ∙ sym (counts_with_line g l)) t_is
  where
    sums : (a a' b b' : ℕ) → a ≡ a' → b ≡ b' → a + b ≡ a' + b'
    sums a a' b b' p q = ap (λ x. x + b) p ∙ ap (λ x. a' + x) q

-- the word of a column is as long as its two names and the dot
pub dotted : (o : Option ColumnInfo) (inst field : List ℕ) → option_map (λ x. x.inst) o ≡ Some inst → option_map (λ x. x.field) o ≡ Some field → length (option_map_or (λ (x : ColumnInfo). x.inst ++ 46 ∷ x.field) o []) ≡ length inst + (length field + 1)
dotted None inst field e f = absurd (none-some inst e)
dotted (Some x) inst field e f =
    rw (same_Some x.inst inst e, same_Some x.field field f) (let l : length (inst ++ 46 ∷ field) ≡ length inst + length (46 ∷ field) = length-append inst (46 ∷ field) in omega (arith, l))
