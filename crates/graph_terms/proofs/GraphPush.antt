-- A graph with one more item that fits: it is a graph, and its text has one line more.
use Rattle.std.proofs.Common.{◌≡◌, ℕ, ◌+◌, ◌≤◌, List, [], ◌∷◌, ◌++◌, length, sym, ◌∙◌, ap, subst, append_assoc, append-nil, length-append, arith}
use Rattle.std.specs.Prelude.{None, nat_lt, IsTrue}
use Rattle.std.specs.List.{join_with_byte}
use Rattle.std.proofs.lemmas.Bool.{or_parts, ltb-false}
use Rattle.graph_terms.specs.declared.format.Format.{Format}
use Rattle.graph_terms.specs.declared.decl.Decl.{Decl}
use Rattle.graph_terms.specs.declared.verb.Line.{Line}
use Rattle.graph_terms.specs.Graph.{GraphValue}
use Rattle.graph_terms.specs.Name.{is_name_in}
use Rattle.graph_terms.specs.Spelling.{spelled, decl_words, line_words, header, decls_text, lines_text, head, body}
use Rattle.graph_terms.specs.Limits.{limits}
use Rattle.graph_terms.specs.Fits.{is_beyond, with_decl, with_line, decl_fault, line_fault, IsDecl, is_decl_named, IsLine, DeclsFit, LinesFit}
use Rattle.graph_terms.specs.Laws.{FittingDeclarationStays, FittingLineStays, TextOfOneMoreDeclaration, HeadWithDeclaration, HeadWithLine, DeclarationsBelowBytes, ItemsBelowBytes, ShortWithinLimits}

-- a graph and an item that fits after it
pub decls_push : (fm : Format) (b ds : List Decl) (d : Decl) → DeclsFit fm b ds → IsDecl d → IsTrue (is_decl_named fm d) → decl_fault (record { format = fm; decls = b ++ ds; lines = [] }) d ≡ None → DeclsFit fm b (ds ++ d ∷ [])
decls_push fm b [] d f i n h = (i, subst (λ xs. decl_fault (record { format = fm; decls = xs; lines = [] }) d ≡ None) (append-nil b) h, tt, n)
decls_push fm b (e ∷ ds) d f i n h = (f.0, f.1, decls_push fm (b ++ e ∷ []) ds d f.2 i n (subst (λ xs. decl_fault (record { format = fm; decls = xs; lines = [] }) d ≡ None) (sym (append_assoc b (e ∷ []) ds)) h), f.3)

pub lines_push : (fm : Format) (decls : List Decl) (b ls : List Line) (l : Line) → LinesFit fm decls b ls → IsLine l → IsTrue (is_name_in fm l.name) → line_fault (record { format = fm; decls = decls; lines = b ++ ls }) l ≡ None → LinesFit fm decls b (ls ++ l ∷ [])
lines_push fm decls b [] l f i n h = (i, subst (λ xs. line_fault (record { format = fm; decls = decls; lines = xs }) l ≡ None) (append-nil b) h, tt, n)
lines_push fm decls b (k ∷ ls) l f i n h = (f.0, f.1, lines_push fm decls (b ++ k ∷ []) ls l f.2 i n (subst (λ xs. line_fault (record { format = fm; decls = decls; lines = xs }) l ≡ None) (sym (append_assoc b (k ∷ []) ls)) h), f.3)

-- a graph with a declaration that fits, before any line, and one with a line that fits
pub push_decl : FittingDeclarationStays
push_decl g d h i n e f = record {
  decls = decls_push g.format [] g.decls d h.decls i n (subst (λ ls. decl_fault (record { format = g.format; decls = g.decls; lines = ls }) d ≡ None) e f);
  lines = subst (λ ls. LinesFit g.format (g.decls ++ d ∷ []) [] ls) (sym e) tt;
}

pub push_line : FittingLineStays
push_line g l h i n f = record { decls = h.decls; lines = lines_push g.format g.decls [] g.lines l h.lines i n f }

pub decls_text_push : TextOfOneMoreDeclaration
decls_text_push fm b [] d = append-nil (spelled (decl_words (record { format = fm; decls = b; lines = [] }) d)) ∙ ap (λ xs. spelled (decl_words (record { format = fm; decls = xs; lines = [] }) d)) (sym (append-nil b))
decls_text_push fm b (e ∷ ds) d =
    let here : List ℕ = spelled (decl_words (record { format = fm; decls = b; lines = [] }) e) in
    ap (λ xs. here ++ xs) (decls_text_push fm (b ++ e ∷ []) ds d ∙ ap (λ ys. decls_text fm (b ++ e ∷ []) ds ++ spelled (decl_words (record { format = fm; decls = ys; lines = [] }) d)) (append_assoc b (e ∷ []) ds))
    ∙ sym (append_assoc here (decls_text fm (b ++ e ∷ []) ds) (spelled (decl_words (record { format = fm; decls = b ++ e ∷ ds; lines = [] }) d)))

lines_text_push : (fm : Format) (decls : List Decl) (b ls : List Line) (l : Line) → lines_text fm decls b (ls ++ l ∷ []) ≡ lines_text fm decls b ls ++ spelled (line_words (record { format = fm; decls = decls; lines = b ++ ls }) l)
lines_text_push fm decls b [] l = append-nil (spelled (line_words (record { format = fm; decls = decls; lines = b }) l)) ∙ ap (λ xs. spelled (line_words (record { format = fm; decls = decls; lines = xs }) l)) (sym (append-nil b))
lines_text_push fm decls b (k ∷ ls) l =
    let here : List ℕ = spelled (line_words (record { format = fm; decls = decls; lines = b }) k) in
    ap (λ xs. here ++ xs) (lines_text_push fm decls (b ++ k ∷ []) ls l ∙ ap (λ ys. lines_text fm decls (b ++ k ∷ []) ls ++ spelled (line_words (record { format = fm; decls = decls; lines = ys }) l)) (append_assoc b (k ∷ []) ls))
    ∙ sym (append_assoc here (lines_text fm decls (b ++ k ∷ []) ls) (spelled (line_words (record { format = fm; decls = decls; lines = b ++ k ∷ ls }) l)))

body_push_decl : (fm : Format) (decls : List Decl) (lines : List Line) (d : Decl) → lines ≡ [] → body (with_decl (record { format = fm; decls = decls; lines = lines }) d) ≡ body (record { format = fm; decls = decls; lines = lines }) ++ spelled (decl_words (record { format = fm; decls = decls; lines = lines }) d)
body_push_decl fm decls lines d e = subst (λ ls. body (with_decl (record { format = fm; decls = decls; lines = ls }) d) ≡ body (record { format = fm; decls = decls; lines = ls }) ++ spelled (decl_words (record { format = fm; decls = decls; lines = ls }) d)) (sym e)
    (append-nil (decls_text fm [] (decls ++ d ∷ [])) ∙ (decls_text_push fm [] decls d ∙ ap (λ xs. xs ++ spelled (decl_words (record { format = fm; decls = decls; lines = [] }) d)) (sym (append-nil (decls_text fm [] decls)))))

pub body_with_decl : (g : GraphValue) (d : Decl) → g.lines ≡ [] → body (with_decl g d) ≡ body g ++ spelled (decl_words g d)
body_with_decl g d e = body_push_decl g.format g.decls g.lines d e

pub body_with_line : (g : GraphValue) (l : Line) → body (with_line g l) ≡ body g ++ spelled (line_words g l)
body_with_line g l = ap (λ xs. decls_text g.format [] g.decls ++ xs) (lines_text_push g.format g.decls [] g.lines l) ∙ sym (append_assoc (decls_text g.format [] g.decls) (lines_text g.format g.decls [] g.lines) (spelled (line_words g l)))

-- the text so far has one line more
pub head_with_decl : HeadWithDeclaration
head_with_decl g d e = ap (λ xs. header g.format ++ xs) (body_with_decl g d e) ∙ sym (append_assoc (header g.format) (body g) (spelled (decl_words g d)))

pub head_with_line : HeadWithLine
head_with_line g l = ap (λ xs. header g.format ++ xs) (body_with_line g l) ∙ sym (append_assoc (header g.format) (body g) (spelled (line_words g l)))

-- the declarations are fewer than the bytes of the text
pub long_decls : DeclarationsBelowBytes
long_decls fm before [] = omega arith
long_decls fm before (d ∷ ds) =
    let words : List (List ℕ) = decl_words (record { format = fm; decls = before; lines = [] }) d in
    let more : length ds ≤ length (decls_text fm (before ++ d ∷ []) ds) = long_decls fm (before ++ d ∷ []) ds in
    let all : length (decls_text fm before (d ∷ ds)) ≡ length (spelled words) + length (decls_text fm (before ++ d ∷ []) ds) = length-append (spelled words) (decls_text fm (before ++ d ∷ []) ds) in
    let one : length (spelled words) ≡ length (join_with_byte 32 words) + 1 = length-append (join_with_byte 32 words) (10 ∷ []) in
    omega arith

-- a graph has fewer lines than its text has bytes
long_lines : (fm : Format) (decls : List Decl) (before ls : List Line) → length ls ≤ length (lines_text fm decls before ls)
long_lines fm decls before [] = omega arith
long_lines fm decls before (l ∷ ls) =
    let words : List (List ℕ) = line_words (record { format = fm; decls = decls; lines = before }) l in
    let more : length ls ≤ length (lines_text fm decls (before ++ l ∷ []) ls) = long_lines fm decls (before ++ l ∷ []) ls in
    let all : length (lines_text fm decls before (l ∷ ls)) ≡ length (spelled words) + length (lines_text fm decls (before ++ l ∷ []) ls) = length-append (spelled words) (lines_text fm decls (before ++ l ∷ []) ls) in
    let one : length (spelled words) ≡ length (join_with_byte 32 words) + 1 = length-append (join_with_byte 32 words) (10 ∷ []) in
    omega arith

pub long_head : ItemsBelowBytes
long_head g =
    let whole : length (head g) ≡ length (header g.format) + length (body g) = length-append (header g.format) (body g) in
    let both : length (body g) ≡ length (decls_text g.format [] g.decls) + length (lines_text g.format g.decls [] g.lines) = length-append (decls_text g.format [] g.decls) (lines_text g.format g.decls [] g.lines) in
    let decls : length g.decls ≤ length (decls_text g.format [] g.decls) = long_decls g.format [] g.decls in
    let lines : length g.lines ≤ length (lines_text g.format g.decls [] g.lines) = long_lines g.format g.decls [] g.lines in
    omega arith

-- within the limits the text so far is short
pub short_by : ShortWithinLimits
short_by g b h =
    let limit = or_parts b (is_beyond g) h in
    let short = or_parts (nat_lt (limits g.format).text (length (head g))) _ limit.1 in
    ltb-false (limits g.format).text (length (head g)) short.0
