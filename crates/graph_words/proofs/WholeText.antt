-- The text of a graph by the names of the whole graph: what a writer puts, line by line.
use Rattle.std.proofs.Common.{◌≡◌, ℕ, zero, suc, ◌<◌, false, List, [], ◌∷◌, ◌++◌, length, map, refl, sym, ◌∙◌, ap, append_assoc, arith}
use Rattle.std.specs.Prelude.{Option, filter_map, flat_map, zip, slice_get, codes, decimal}
use Rattle.std.specs.Option.{option_map_or}
use Rattle.std.specs.List.{AllByRecursion}
use Rattle.std.proofs.lemmas.Bool.{leb-false}
use Rattle.std.proofs.lemmas.List.Elements.{filter_map-append}
use Rattle.graph_terms.specs.declared.format.Format.{Format}
use Rattle.graph_terms.specs.declared.decl.Decl.{Decl}
use Rattle.graph_terms.specs.declared.decl.Decl.TheVariants as decl
use Rattle.graph_terms.specs.declared.verb.Line.{Line}
use Rattle.graph_terms.specs.declared.verb.Verb.{Verb}
use Rattle.graph_terms.specs.declared.verb.Verb.TheVariants.{Merge, MergeIgnore, Call}
use Rattle.graph_terms.specs.declared.verb.Access.{Access}
use Rattle.graph_terms.specs.declared.table.Place.{Place}
use Rattle.graph_terms.specs.declared.table.Place.TheVariants.{User, Phase, Acquire}
use Rattle.graph_terms.specs.Table.{Placed, kind_words, verb_kind, verb_places, verb_parts}
use Rattle.graph_terms.specs.Graph.{GraphValue, space_of, named_spaces}
use Rattle.graph_terms.specs.Spelling.{space_name, line_name, comma_word, spelled, decl_words, place_word, placed_words, access_words, verb_words, on_words, line_words, header, decls_text, lines_text, head}
use Rattle.graph_terms.specs.Fits.{decl_unknown, named_line, named_lines, DeclsFit, LinesFit, IsGraph}
use Rattle.graph_words.specs.Text.{closing, text}
use Rattle.graph_words.proofs.KnownItems.{known_decl_of, known_line_of}

get_left : {X : Type 0} (xs ys : List X) (n : ℕ) → n < length xs → slice_get (xs ++ ys) n ≡ slice_get xs n
get_left [] ys n h = absurd (omega arith)
get_left (x ∷ xs) ys zero h = refl
get_left (x ∷ xs) ys (suc n) h = get_left xs ys n (omega arith)

abbrev pub graph_of : Format → List Decl → List Line → GraphValue
graph_of fm decls lines = record { format = fm; decls = decls; lines = lines }

space_kept : (fm : Format) (ds es : List Decl) (ks ls : List Line) (n : ℕ) → n < length (named_spaces (graph_of fm ds ks)) → space_name (graph_of fm ds ks) n ≡ space_name (graph_of fm (ds ++ es) ls) n
space_kept fm ds es ks ls n h = ap (λ (o : Option (List ℕ × List (ℕ × ℕ))). option_map_or (λ (x : List ℕ × List (ℕ × ℕ)). x.0) o [])
    (sym (ap (λ (xs : List (List ℕ × List (ℕ × ℕ))). slice_get xs n) (filter_map-append space_of ds es) ∙ get_left (filter_map space_of ds) (filter_map space_of es) n h))

-- the words of a declaration stay the same when items follow
pub decl_words_kept : (fm : Format) (ds es : List Decl) (ks ls : List Line) (d : Decl) → decl_unknown (graph_of fm ds ks) d ≡ false → decl_words (graph_of fm ds ks) d ≡ decl_words (graph_of fm (ds ++ es) ls) d
decl_words_kept fm ds es ks ls (decl.Inst name space fields) h = ap (λ x. codes "inst" ∷ name ∷ x ∷ comma_word fields ∷ []) (space_kept fm ds es ks ls space (leb-false (length (named_spaces (graph_of fm ds ks))) space h))
decl_words_kept fm ds es ks ls (decl.Data name space fields) h = ap (λ x. codes "data" ∷ name ∷ x ∷ comma_word fields ∷ []) (space_kept fm ds es ks ls space (leb-false (length (named_spaces (graph_of fm ds ks))) space h))
decl_words_kept fm ds es ks ls (decl.Space name space) h = refl
decl_words_kept fm ds es ks ls (decl.Lock name) h = refl
decl_words_kept fm ds es ks ls (decl.Barrier name count o first) h = refl

line_kept : (fm : Format) (ds : List Decl) (ks ls : List Line) (n : ℕ) → n < length ks → line_name (graph_of fm ds ks) n ≡ line_name (graph_of fm ds (ks ++ ls)) n
line_kept fm ds ks ls n h = ap (λ (o : Option Line). option_map_or (λ (x : Line). x.name) o []) (sym (get_left ks ls n h))

lines_kept : (fm : Format) (ds : List Decl) (ks ls : List Line) (ns : List ℕ) → AllByRecursion (λ i. i < length ks) ns → map (line_name (graph_of fm ds ks)) ns ≡ map (line_name (graph_of fm ds (ks ++ ls))) ns
lines_kept fm ds ks ls [] h = refl
lines_kept fm ds ks ls (n ∷ ns) h = ap (λ x. x ∷ map (line_name (graph_of fm ds ks)) ns) (line_kept fm ds ks ls n h.0) ∙ ap (λ xs. line_name (graph_of fm ds (ks ++ ls)) n ∷ xs) (lines_kept fm ds ks ls ns h.1)

number_kept : (fm : Format) (ds : List Decl) (ks ls : List Line) (ps : List Place) (ns : List ℕ) → AllByRecursion (λ i. i < length ks) (filter_map (λ (p : Placed). named_line p.0 p.1) (zip ps ns)) → placed_words (graph_of fm ds ks) (zip ps ns) ≡ placed_words (graph_of fm ds (ks ++ ls)) (zip ps ns)
number_kept fm ds ks ls [] ns h = refl
number_kept fm ds ks ls (p ∷ ps) [] h = refl
number_kept fm ds ks ls (User ∷ ps) (n ∷ ns) h = ap (λ w. w ∷ placed_words (graph_of fm ds ks) (zip ps ns)) (line_kept fm ds ks ls n h.0) ∙ ap (λ ws. line_name (graph_of fm ds (ks ++ ls)) n ∷ ws) (number_kept fm ds ks ls ps ns h.1)
number_kept fm ds ks ls (Phase ∷ ps) (n ∷ ns) h = ap (λ w. w ∷ placed_words (graph_of fm ds ks) (zip ps ns)) (line_kept fm ds ks ls n h.0) ∙ ap (λ ws. line_name (graph_of fm ds (ks ++ ls)) n ∷ ws) (number_kept fm ds ks ls ps ns h.1)
number_kept fm ds ks ls (Acquire ∷ ps) (n ∷ ns) h = ap (λ w. w ∷ placed_words (graph_of fm ds ks) (zip ps ns)) (line_kept fm ds ks ls n h.0) ∙ ap (λ ws. line_name (graph_of fm ds (ks ++ ls)) n ∷ ws) (number_kept fm ds ks ls ps ns h.1)
number_kept fm ds ks ls (p ∷ ps) (n ∷ ns) h = ap (λ ws. place_word (graph_of fm ds ks) p n ∷ ws) (number_kept fm ds ks ls ps ns h)

accesses_kept : (fm : Format) (ds : List Decl) (ks ls : List Line) (xs : List Access) → flat_map (access_words (graph_of fm ds ks)) xs ≡ flat_map (access_words (graph_of fm ds (ks ++ ls))) xs
accesses_kept fm ds ks ls [] = refl
accesses_kept fm ds ks ls (x ∷ xs) = ap (λ ws. access_words (graph_of fm ds ks) x ++ ws) (accesses_kept fm ds ks ls xs)

verb_kept : (fm : Format) (ds : List Decl) (ks ls : List Line) (v : Verb) → AllByRecursion (λ i. i < length ks) (named_lines v) → verb_words (graph_of fm ds ks) v ≡ verb_words (graph_of fm ds (ks ++ ls)) v
verb_kept fm ds ks ls (Merge events) h = ap (λ xs. codes "merge" ∷ xs) (lines_kept fm ds ks ls events h)
verb_kept fm ds ks ls (MergeIgnore events) h = ap (λ xs. codes "mergei" ∷ xs) (lines_kept fm ds ks ls events h)
verb_kept fm ds ks ls (Call call) h = ap (λ ws. codes "call" ∷ call.word ∷ map decimal call.values ++ ws) (accesses_kept fm ds ks ls call.accesses)
verb_kept fm ds ks ls v h = ap (λ xs. option_map_or kind_words (verb_kind v) [] ++ xs) (number_kept fm ds ks ls (verb_places v) (verb_parts v) h)

on_kept : (fm : Format) (ds : List Decl) (ks ls : List Line) (on : List ℕ) → AllByRecursion (λ i. i < length ks) on → on_words (graph_of fm ds ks) on ≡ on_words (graph_of fm ds (ks ++ ls)) on
on_kept fm ds ks ls [] h = refl
on_kept fm ds ks ls (e ∷ es) h = ap (λ xs. codes "on" ∷ xs) (lines_kept fm ds ks ls (e ∷ es) h)

-- the words of a line stay the same when lines follow
pub line_words_kept : (fm : Format) (ds : List Decl) (ks ls : List Line) (l : Line) → AllByRecursion (λ i. i < length ks) (named_lines l.verb) → AllByRecursion (λ i. i < length ks) l.on → line_words (graph_of fm ds ks) l ≡ line_words (graph_of fm ds (ks ++ ls)) l
line_words_kept fm ds ks ls l h k = ap (λ xs. l.name ∷ codes "=" ∷ xs ++ on_words (graph_of fm ds ks) l.on) (verb_kept fm ds ks ls l.verb h) ∙ ap (λ ys. l.name ∷ codes "=" ∷ verb_words (graph_of fm ds (ks ++ ls)) l.verb ++ ys) (on_kept fm ds ks ls l.on k)

decls_flat : (fm : Format) (all : List Decl) (lines : List Line) (before ds : List Decl) → before ++ ds ≡ all → DeclsFit fm before ds → decls_text fm before ds ≡ flat_map (λ d. spelled (decl_words (graph_of fm all lines) d)) ds
decls_flat fm all lines before [] e f = refl
decls_flat fm all lines before (d ∷ ds) e f =
    let k = known_decl_of (graph_of fm before []) d f.1 in
    let here : decl_words (graph_of fm before []) d ≡ decl_words (graph_of fm all lines) d = decl_words_kept fm before (d ∷ ds) [] lines d k.known ∙ ap (λ xs. decl_words (graph_of fm xs lines) d) e in
    ap (λ ws. spelled ws ++ decls_text fm (before ++ d ∷ []) ds) here ∙ ap (λ xs. spelled (decl_words (graph_of fm all lines) d) ++ xs) (decls_flat fm all lines (before ++ d ∷ []) ds (append_assoc before (d ∷ []) ds ∙ e) f.2)

lines_flat : (fm : Format) (decls : List Decl) (all before ls : List Line) → before ++ ls ≡ all → LinesFit fm decls before ls → lines_text fm decls before ls ≡ flat_map (λ l. spelled (line_words (graph_of fm decls all) l)) ls
lines_flat fm decls all before [] e f = refl
lines_flat fm decls all before (l ∷ ls) e f =
    let k = known_line_of (graph_of fm decls before) l f.0 f.1 in
    let here : line_words (graph_of fm decls before) l ≡ line_words (graph_of fm decls all) l = line_words_kept fm decls before (l ∷ ls) l k.verb.events k.on_below ∙ ap (λ xs. line_words (graph_of fm decls xs) l) e in
    ap (λ ws. spelled ws ++ lines_text fm decls (before ++ l ∷ []) ls) here ∙ ap (λ xs. spelled (line_words (graph_of fm decls all) l) ++ xs) (lines_flat fm decls all (before ++ l ∷ []) ls (append_assoc before (l ∷ []) ls ∙ e) f.2)

-- each item in its spelling after the whole graph
head_flat : (g : GraphValue) → IsGraph g → head g ≡ header g.format ++ (flat_map (λ d. spelled (decl_words g d)) g.decls ++ flat_map (λ l. spelled (line_words g l)) g.lines)
head_flat g h = ap (λ xs. header g.format ++ (xs ++ lines_text g.format g.decls [] g.lines)) (decls_flat g.format g.decls g.lines [] g.decls refl h.decls)
    ∙ ap (λ xs. header g.format ++ (flat_map (λ d. spelled (decl_words g d)) g.decls ++ xs)) (lines_flat g.format g.decls g.lines [] g.lines refl h.lines)

-- the whole text, its first line given
pub text_flat : (g : GraphValue) (first : List ℕ) → IsGraph g → first ≡ header g.format → first ++ (flat_map (λ d. spelled (decl_words g d)) g.decls ++ (flat_map (λ l. spelled (line_words g l)) g.lines ++ closing)) ≡ text g
text_flat g first h e =
    let decls : List ℕ = flat_map (λ d. spelled (decl_words g d)) g.decls in
    let lines : List ℕ = flat_map (λ l. spelled (line_words g l)) g.lines in
    ap (λ x. x ++ (decls ++ (lines ++ closing))) e
    ∙ sym (ap (λ x. x ++ closing) (head_flat g h) ∙ (append_assoc (header g.format) (decls ++ lines) closing ∙ ap (λ x. header g.format ++ x) (append_assoc decls lines closing)))
