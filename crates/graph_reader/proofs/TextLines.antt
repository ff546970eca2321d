-- Where the lines of a graph stand among the pieces of its text between newlines.
use Rattle.std.proofs.Common.{◌≡◌, ℕ, zero, suc, ◌+◌, ◌-◌, ◌<◌, ◌≤◌, Bool, true, false, cond, not, inl, inr, List, [], ◌∷◌, ◌++◌, length, map, take, refl, sym, ◌∙◌, ap, subst, append_assoc, arith}
use Rattle.std.specs.Prelude.{Some, codes, ◌==◌, slice_get}
use Rattle.std.specs.List.{join_with_byte, onto_first, position_or_len, AllByRecursion}
use Rattle.std.proofs.lemmas.Bool.{true≢false, ne_eqb}
use Rattle.std.proofs.lemmas.Option.{none-some, same_Some}
use Rattle.std.proofs.lemmas.List.{length-map}
use Rattle.std.proofs.lemmas.List.Elements.{All-from_recursion}
use Rattle.std.proofs.lemmas.List.Splits.{slice_split_at}
use Rattle.graph_terms.specs.declared.format.Format.{Format}
use Rattle.graph_terms.specs.declared.format.Format.TheVariants.{One, Two, Three}
use Rattle.graph_terms.specs.declared.decl.Decl.{Decl}
use Rattle.graph_terms.specs.declared.verb.Line.{Line}
use Rattle.graph_terms.specs.declared.why.Why.{Why}
use Rattle.graph_terms.specs.Graph.{GraphValue}
use Rattle.graph_terms.specs.Spelling.{spelled, decl_words, line_words, header, decls_text, lines_text, head}
use Rattle.graph_terms.specs.Fits.{DeclsFit, LinesFit, IsGraph}
use Rattle.graph_comments.specs.Comments.{is_comment}
use Rattle.graph_words.specs.Words.{pieces}
use Rattle.graph_words.specs.Text.{closing, bare_of}
use Rattle.graph_reader.specs.FirstFault.{first_line, line_count, IsRestFault, FirstBareFault, FirstFault}
use Rattle.graph_reader.specs.Laws.{OperationsStand, refused_bare_line, refused_line, LinesStand}
use Rattle.word_meanings.specs.Words.{IsWord}
use Rattle.graph_words.proofs.Public.{known_line_of, line_of_number}
use Rattle.graph_reader.proofs.ReadBack.{ItemFits, reads_back}
use Rattle.graph_reader.proofs.LineSteps.{spelled_rest, graph_push}
use Rattle.word_meanings.proofs.Public.{words_line, words_pieces}
use Rattle.graph_words.proofs.WholeText.{graph_of, line_words_kept}

-- a spelled line is the first piece, without its newline
spelled_pieces : (ws : List (List ℕ)) (rest : List ℕ) → AllByRecursion IsWord ws → pieces 10 (spelled ws ++ rest) ≡ join_with_byte 32 ws ∷ pieces 10 rest
spelled_pieces ws rest h = ap (pieces 10) (spelled_rest ws rest)
    ∙ slice_split_at (λ b. b == 10) (join_with_byte 32 ws) 10 rest (All-from_recursion (λ b. (b == 10) ≡ false) (join_with_byte 32 ws) (words_line ws h)) refl

header_piece : Format → List ℕ
header_piece One = codes "realm 1"
header_piece Two = codes "realm 2"
header_piece Three = codes "realm 3"

header_pieces : (fm : Format) (rest : List ℕ) → pieces 10 (header fm ++ rest) ≡ header_piece fm ∷ pieces 10 rest
unfolding header_piece
header_pieces One rest = refl
header_pieces Two rest = refl
header_pieces Three rest = refl

-- a line of words is no comment
words_plain : (ws : List (List ℕ)) → AllByRecursion IsWord ws → 0 < length ws → is_comment (join_with_byte 32 ws) ≡ false
words_plain [] h l = absurd (omega arith)
words_plain ([] ∷ ws) h l = absurd (true≢false (h.0).some)
words_plain ((b ∷ bs) ∷ []) h l = let k : 44 ≤ b = (h.0).printed.0 in ne_eqb b 35 (λ e. absurd (let n : b ≡ 35 = e in omega arith))
words_plain ((b ∷ bs) ∷ w ∷ ws) h l = let k : 44 ≤ b = (h.0).printed.0 in ne_eqb b 35 (λ e. absurd (let n : b ≡ 35 = e in omega arith))

header_plain : (fm : Format) → is_comment (header_piece fm) ≡ false
unfolding header_piece
header_plain One = refl
header_plain Two = refl
header_plain Three = refl

-- lines of which none is a comment
abbrev pub ArePlain : List (List ℕ) → Type 0
ArePlain ls = AllByRecursion (λ l. is_comment l ≡ false) ls

-- the pieces of declarations, one for each
record DeclPieces (fm : Format) (before ds : List Decl) (rest : List ℕ) : Type 0 where
  front : List (List ℕ)
  many : length front ≡ length ds
  plain : ArePlain front
  split : pieces 10 (decls_text fm before ds ++ rest) ≡ front ++ pieces 10 rest

decls_pieces : (fm : Format) (before ds : List Decl) (rest : List ℕ) → IsGraph (graph_of fm before []) → DeclsFit fm before ds → DeclPieces fm before ds rest
decls_pieces fm before [] rest h f = record { front = []; many = refl; plain = tt; split = refl }
decls_pieces fm before (d ∷ ds) rest h f =
    let g : GraphValue = graph_of fm before [] in
    let fits : ItemFits g (inl d) = record { is_item = (f.0, refl, f.3); no_fault = f.1 } in
    let r = reads_back g h (inl d) fits in
    let two : 2 ≤ length (decl_words g d) = r.two in
    let again = decls_pieces fm (before ++ d ∷ []) ds rest (graph_push g (inl d) h fits) f.2 in
    record {
      front = join_with_byte 32 (decl_words g d) ∷ again.front;
      many = ap suc again.many;
      plain = (words_plain (decl_words g d) r.words (omega arith), again.plain);
      split = ap (pieces 10) (append_assoc (spelled (decl_words g d)) (decls_text fm (before ++ d ∷ []) ds) rest)
          ∙ (spelled_pieces (decl_words g d) (decls_text fm (before ++ d ∷ []) ds ++ rest) r.words ∙ ap (λ xs. join_with_byte 32 (decl_words g d) ∷ xs) again.split);
    }

-- a line without its newline
abbrev pub line_text : GraphValue → Line → List ℕ
line_text g l = join_with_byte 32 (line_words g l)

-- operations by the words that they have behind the whole graph: these are words, and the operations are pieces
record LinePieces (fm : Format) (decls : List Decl) (all before ls : List Line) (rest : List ℕ) : Type 0 where
  words : AllByRecursion (λ l. pieces 32 (line_text (graph_of fm decls all) l) ≡ line_words (graph_of fm decls all) l) ls
  plain : ArePlain (map (line_text (graph_of fm decls all)) ls)
  split : pieces 10 (lines_text fm decls before ls ++ rest) ≡ map (line_text (graph_of fm decls all)) ls ++ pieces 10 rest

lines_pieces : (fm : Format) (decls : List Decl) (all before ls : List Line) (rest : List ℕ) → before ++ ls ≡ all → IsGraph (graph_of fm decls before) → LinesFit fm decls before ls → LinePieces fm decls all before ls rest
lines_pieces fm decls all before [] rest e h f = record { words = tt; plain = tt; split = refl }
lines_pieces fm decls all before (l ∷ ls) rest e h f =
    let g : GraphValue = graph_of fm decls before in
    let fits : ItemFits g (inr l) = record { is_item = (f.0, f.3); no_fault = f.1 } in
    let r = reads_back g h (inr l) fits in
    let two : 2 ≤ length (line_words g l) = r.two in
    let k = known_line_of g l f.0 f.1 in
    let kept : line_words g l ≡ line_words (graph_of fm decls all) l = line_words_kept fm decls before (l ∷ ls) l k.verb.events k.on_below ∙ ap (λ xs. line_words (graph_of fm decls xs) l) e in
    let again = lines_pieces fm decls all (before ++ l ∷ []) ls rest (append_assoc before (l ∷ []) ls ∙ e) (graph_push g (inr l) h fits) f.2 in
    record {
      words = (subst (λ ws. pieces 32 (join_with_byte 32 ws) ≡ ws) kept (words_pieces (line_words g l) r.words (omega arith)), again.words);
      plain = (subst (λ ws. is_comment (join_with_byte 32 ws) ≡ false) kept (words_plain (line_words g l) r.words (omega arith)), again.plain);
      split = ap (pieces 10) (append_assoc (spelled (line_words g l)) (lines_text fm decls (before ++ l ∷ []) ls) rest)
          ∙ (spelled_pieces (line_words g l) (lines_text fm decls (before ++ l ∷ []) ls ++ rest) r.words
          ∙ (ap (λ ws. join_with_byte 32 ws ∷ pieces 10 (lines_text fm decls (before ++ l ∷ []) ls ++ rest)) kept ∙ ap (λ xs. line_text (graph_of fm decls all) l ∷ xs) again.split));
    }

-- the pieces of bytes that begin with the text of a graph: the first line and the declarations, the operations, and the rest
pub record HeadPieces (g : GraphValue) (rest : List ℕ) : Type 0 where
  pub front : List (List ℕ)
  pub many : length front ≡ length g.decls + 1
  pub words : AllByRecursion (λ l. pieces 32 (line_text g l) ≡ line_words g l) g.lines
  pub plain : ArePlain front
  pub plain_lines : ArePlain (map (line_text g) g.lines)
  pub split : pieces 10 (head g ++ rest) ≡ front ++ (map (line_text g) g.lines ++ pieces 10 rest)

pub head_pieces : (g : GraphValue) (rest : List ℕ) → IsGraph g → HeadPieces g rest
head_pieces g rest h =
    let fm : Format = g.format in
    let decls : List ℕ = decls_text fm [] g.decls in
    let lines : List ℕ = lines_text fm g.decls [] g.lines in
    let d = decls_pieces fm [] g.decls (lines ++ rest) (record { decls = tt; lines = tt }) h.decls in
    let l = lines_pieces fm g.decls g.lines [] g.lines rest refl (record { decls = h.decls; lines = tt }) h.lines in
    let n : length d.front ≡ length g.decls = d.many in
    record {
      front = header_piece fm ∷ d.front;
      many = (let m : suc (length d.front) ≡ length g.decls + 1 = omega arith in m);
      words = l.words;
      plain = (header_plain fm, d.plain);
      plain_lines = l.plain;
      split = ap (pieces 10) (append_assoc (header fm) (decls ++ lines) rest ∙ ap (λ x. header fm ++ x) (append_assoc decls lines rest))
          ∙ (header_pieces fm (decls ++ (lines ++ rest))
          ∙ ap (λ xs. header_piece fm ∷ xs) (d.split ∙ ap (λ xs. d.front ++ xs) l.split));
    }

-- the place of an element behind others
get_behind : {X : Type 0} (xs ys : List X) (n k : ℕ) → n ≡ length xs + k → slice_get (xs ++ ys) n ≡ slice_get ys k
get_behind [] ys n k e = ap (slice_get ys) (let j : n ≡ k = omega arith in j)
get_behind (x ∷ xs) ys zero k e = absurd (omega arith)
get_behind (x ∷ xs) ys (suc n) k e = get_behind xs ys n k (omega arith)

get_mapped : {X Y : Type 0} (f : X → Y) (xs : List X) (ys : List Y) (i : ℕ) (x : X) → slice_get xs i ≡ Some x → slice_get (map f xs ++ ys) i ≡ Some (f x)
get_mapped f [] ys i x e = absurd (none-some x e)
get_mapped f (z ∷ xs) ys zero x e = ap (λ y. Some (f y)) (same_Some z x e)
get_mapped f (z ∷ xs) ys (suc i) x e = get_mapped f xs ys i x e

each_at : {X : Type 0} (P : X → Type 0) (xs : List X) (i : ℕ) (x : X) → AllByRecursion P xs → slice_get xs i ≡ Some x → P x
each_at P [] i x h e = absurd (none-some x e)
each_at P (z ∷ xs) zero x h e = subst P (same_Some z x e) h.0
each_at P (z ∷ xs) (suc i) x h e = each_at P xs i x h.1 e

-- the first piece of bytes is their first line
first_by : (b n : ℕ) (bs : List ℕ) (t : Bool) (ps : List (List ℕ)) → slice_get ps 0 ≡ Some (take n bs) → slice_get (cond t ([] ∷ ps) (onto_first b ps)) 0 ≡ Some (take (cond (not t) (1 + n) 0) (b ∷ bs))
first_by b n bs true ps h = refl
first_by b n bs false [] h = absurd (none-some (take n bs) h)
first_by b n bs false (p ∷ ps) h = ap (λ x. Some (b ∷ x)) (same_Some p (take n bs) h) ∙ ap (λ k. Some (take k (b ∷ bs))) (let j : suc n ≡ 1 + n = omega arith in j)

first_piece_is : (bs : List ℕ) → slice_get (pieces 10 bs) 0 ≡ Some (first_line bs)
first_piece_is [] = refl
first_piece_is (b ∷ bs) = first_by b (position_or_len (λ x. x == 10) bs) bs (b == 10) (pieces 10 bs) (first_piece_is bs)

-- an operation stands in bytes that begin, without comments, with the text of its graph
operations_stand : (bytes : List ℕ) (g : GraphValue) (rest : List ℕ) → IsGraph g → bare_of bytes ≡ head g ++ rest → OperationsStand bytes g
operations_stand bytes g rest h e i l at =
    let p = head_pieces g rest h in
    let many : length p.front ≡ length g.decls + 1 = p.many in
    let place : i + length g.decls + 2 - 1 ≡ i + length g.decls + 1 = omega arith in
    record {
      line = sym (line_of_number bytes (i + length g.decls + 2) (omega arith))
          ∙ (ap (λ x. slice_get (pieces 10 x) (i + length g.decls + 2 - 1)) e ∙ (ap (slice_get (pieces 10 (head g ++ rest))) place
          ∙ (ap (λ x. slice_get x (i + length g.decls + 1)) p.split
          ∙ (get_behind p.front (map (line_text g) g.lines ++ pieces 10 rest) (i + length g.decls + 1) i (omega arith) ∙ get_mapped (line_text g) g.lines (pieces 10 rest) i l at))));
      words = each_at (λ x. pieces 32 (line_text g x) ≡ line_words g x) g.lines i l p.words at;
    }

-- what follows the text of a graph stands below its operations
next_stands : (bytes : List ℕ) (g : GraphValue) (rest : List ℕ) (k : ℕ) → IsGraph g → bytes ≡ head g ++ rest → slice_get (pieces 10 bytes) (1 + length g.decls + length g.lines + k) ≡ slice_get (pieces 10 rest) k
next_stands bytes g rest k h e =
    let p = head_pieces g rest h in
    let many : length p.front ≡ length g.decls + 1 = p.many in
    let mapped : length (map (line_text g) g.lines) ≡ length g.lines = length-map g.lines (line_text g) in
    ap (λ x. slice_get (pieces 10 x) (1 + length g.decls + length g.lines + k)) e
    ∙ (ap (λ x. slice_get x (1 + length g.decls + length g.lines + k)) p.split
    ∙ (get_behind p.front (map (line_text g) g.lines ++ pieces 10 rest) (1 + length g.decls + length g.lines + k) (length g.lines + k) (omega arith)
    ∙ get_behind (map (line_text g) g.lines) (pieces 10 rest) (length g.lines + k) k (omega arith)))

closing_pieces : (rest : List ℕ) → pieces 10 (closing ++ rest) ≡ codes "end" ∷ pieces 10 rest
closing_pieces rest = refl

rest_begins : (bytes : List ℕ) (n : ℕ) (w : Why) (f : IsRestFault bytes n w) → bytes ≡ head f.before ++ (closing ++ f.rest)
rest_begins bytes n w f = f.begins ∙ append_assoc (head f.before) closing f.rest

pub refused_stands : (bytes : List ℕ) (n : ℕ) (w : Why) (f : FirstBareFault bytes n w) → slice_get (pieces 10 bytes) (n - 1) ≡ Some (refused_bare_line bytes n w f)
refused_stands bytes n w (inl f) =
    let is : n ≡ 1 = f.first in
    ap (slice_get (pieces 10 bytes)) (let j : n - 1 ≡ 0 = omega arith in j) ∙ first_piece_is bytes
refused_stands bytes n w (inr (inl f)) =
    let g : GraphValue = f.before in
    let is : n ≡ 1 + length g.decls + length g.lines + 1 = f.number_is in
    ap (slice_get (pieces 10 bytes)) (let j : n - 1 ≡ 1 + length g.decls + length g.lines + 0 = omega arith in j) ∙ (next_stands bytes g f.rest 0 f.is_graph f.begins ∙ first_piece_is f.rest)
refused_stands bytes n w (inr (inr f)) =
    let g : GraphValue = f.before in
    let is : n ≡ 1 + length g.decls + length g.lines + 2 = f.number_is in
    ap (slice_get (pieces 10 bytes)) (let j : n - 1 ≡ 1 + length g.decls + length g.lines + 1 = omega arith in j)
    ∙ (next_stands bytes g (closing ++ f.rest) 1 f.is_graph (rest_begins bytes n w f) ∙ (ap (λ x. slice_get x 1) (closing_pieces f.rest) ∙ first_piece_is f.rest))

-- a refused line has a number from 1
pub fault_below : (bytes : List ℕ) (n : ℕ) (w : Why) → FirstBareFault bytes n w → 1 ≤ n
fault_below bytes n w (inl f) = let is : n ≡ 1 = f.first in omega arith
fault_below bytes n w (inr (inl f)) = let is : n ≡ line_count f.before + 1 = f.number_is in omega arith
fault_below bytes n w (inr (inr f)) = let is : n ≡ line_count f.before + 2 = f.number_is in omega arith

-- and so it stands in bytes with comments
refused_in_whole : (bytes : List ℕ) (n : ℕ) (w : Why) (f : FirstFault bytes n w) → slice_get (pieces 10 bytes) (n - 1) ≡ Some (refused_line bytes n w f)
refused_in_whole bytes n w f =
    ap (λ x. slice_get (pieces 10 bytes) (x - 1)) f.2 ∙ (sym (line_of_number bytes f.0 (fault_below (bare_of bytes) f.0 w f.1)) ∙ refused_stands (bare_of bytes) f.0 w f.1)

pub lines_stand : (bytes : List ℕ) → LinesStand bytes
lines_stand bytes = record {
  of_text = λ g t. operations_stand bytes g closing t.is_graph t.is_text;
  above_line = λ n w f. operations_stand bytes f.before f.rest f.is_graph f.begins;
  above_rest = λ n w f. operations_stand bytes f.before (closing ++ f.rest) f.is_graph (rest_begins (bare_of bytes) n w f);
  refused = refused_in_whole bytes;
}
