-- Reading a session's text goes one way: where it stops at two places, they are one.
use Rattle.std.proofs.Common.{◌≡◌, ℕ, ◌+◌, ◌<◌, Bool, true, false, cond, List, [], ◌∷◌, ◌++◌, length, refl, sym, ◌∙◌, ap, subst, arith}
use Rattle.std.specs.Prelude.{Option, Some, None, codes, not, slice_index, nat_lt}
use Rattle.std.specs.List.{list_any, join_with_byte, AllByRecursion}
use Rattle.std.specs.Str.{bytes_eq}
use Rattle.std.proofs.lemmas.Bool.{true≢false, cond-true, cond-false, and_parts, or_from}
use Rattle.std.proofs.lemmas.Option.{none-some}
use Rattle.graph_terms.specs.declared.why.Why.{Why}
use Rattle.graph_terms.specs.declared.why.Why.TheVariants as why
use Rattle.graph_terms.specs.Graph.{GraphValue}
use Rattle.graph_terms.specs.declared.format.Format.{Format}
use Rattle.graph_terms.specs.declared.format.Format.TheVariants.{One}
use Rattle.graph_terms.specs.Spelling.{spelled}
use Rattle.graph_terms.specs.Name.{is_name, is_name_in}
use Rattle.graph_terms.specs.Fits.{first_reason}
use Rattle.graph_words.specs.Words.{pieces}
use Rattle.graph_words.specs.Text.{GraphText}
use Rattle.graph_reader.specs.FirstFault.{has_newline, first_line, or_else, FirstFault}
use Rattle.word_meanings.specs.Words.{is_empty, IsWord}
use Rattle.graph_reader.specs.Reading.{after_line}
use Rattle.graph_reader.proofs.Public.{cut_newline, cut_first, cut_after, spelled_rest}
use Rattle.word_meanings.proofs.Public.{name_is_word, word_by_test, words_line, words_pieces}
use Rattle.graph_reader.proofs.TextTells.{one_reading}
use Rattle.realm_audit.specs.Parts.{newlines, graph_bytes, trace_bytes}
use Rattle.session_text.specs.declared.entry.Link.{Link}
use Rattle.session_text.specs.declared.entry.Entry.{Entry}
use Rattle.session_text.specs.Session.{graph_line, link_text, closing, Part, TheGraph, TheLink, PartStands, PartsStand}
use Rattle.session_text.specs.Fits.{format_of, is_named, is_large, names_op, trigger_reason, with_triggers, graph_reason, with_link, bare_entry}
use Rattle.session_text.specs.FirstFault.{word_at, link_of, last_format, last_reason, words_reason, line_reason, next_reason}
use Rattle.session_text.proofs.Standing.{newlines_line}
use Rattle.session_text.proofs.Parts.{Spot, all_at, after_part, after_parts, PartFits, PartsFit}

-- the names of a graph and of a link that fit
reason_none : (b : Bool) (w : Why) (ts : List (Bool × Why)) → first_reason ((b, w) ∷ ts) ≡ None → (b ≡ false) × (first_reason ts ≡ None)
reason_none true w ts h = absurd (none-some w (sym h))
reason_none false w ts h = (refl, h)

flip : (b : Bool) → not b ≡ false → b ≡ true
flip true h = refl
flip false h = absurd (true≢false h)

pub graph_named : (es : List Entry) (name : List ℕ) → graph_reason es name ≡ None → is_name name ≡ true
graph_named es name h = flip (is_name name) (reason_none (not (is_name name)) why.Name ((list_any (λ (e : Entry). bytes_eq e.name name) es, why.Twice) ∷ (nat_lt 64 (length es + 1), why.Limit) ∷ []) h).0

or_else_first : (a b : Option Why) → or_else a b ≡ None → a ≡ None
or_else_first None b h = refl
or_else_first (Some w) b h = absurd (none-some w (sym h))

link_named : (before : List Entry) (last : Option Entry) (l : Link) → last_reason before last l ≡ None → is_named (last_format last) (format_of before l.graph) l ≡ true
link_named before None l h = by_name (is_named One (format_of before l.graph) l) h
  where
    by_name : (b : Bool) → cond b (Some why.Unknown) (Some why.Name) ≡ None → b ≡ true
    by_name true e = refl
    by_name false e = absurd (none-some why.Name (sym e))
link_named before (Some e) l h =
    let named : Bool = is_named e.graph.format (format_of before l.graph) l in
    flip named (reason_none (not named) why.Name ((not (names_op before l), why.Unknown) ∷ [])
    (or_else_first (first_reason ((not named, why.Name) ∷ (not (names_op before l), why.Unknown) ∷ [])) (or_else (trigger_reason (with_triggers e.graph e.links) l) (cond (is_large (before ++ with_link e l ∷ [])) (Some why.Limit) None)) h)).0

-- the words of such lines
graph_word : IsWord (codes "graph")
graph_word = word_by_test (codes "graph") refl

link_word : IsWord (codes "link")
link_word = word_by_test (codes "link") refl

graph_words : (name : List ℕ) → is_name name ≡ true → AllByRecursion IsWord (codes "graph" ∷ name ∷ [])
graph_words name h = (graph_word, (name_is_word One name h, tt))

abbrev words_of : Link → List (List ℕ)
words_of l = codes "link" ∷ l.line ∷ l.user ∷ l.graph ∷ l.op ∷ []

link_words : (own named : Format) (l : Link) → is_named own named l ≡ true → AllByRecursion IsWord (words_of l)
link_words own named l h =
    let a = and_parts (is_name_in own l.line) _ h in
    let b = and_parts (is_name_in own l.user) _ a.1 in
    let c = and_parts (is_name l.graph) (is_name_in named l.op) b.1 in
    (link_word, (name_is_word own l.line a.0, (name_is_word own l.user b.0, (name_is_word One l.graph c.0, (name_is_word named l.op c.1, tt)))))

-- a line of words, read
pub record ReadsLine (ws : List (List ℕ)) (bytes rest : List ℕ) : Type 0 where
  pub there : has_newline bytes ≡ true
  pub words_are : pieces 32 (first_line bytes) ≡ ws
  pub line_is : first_line bytes ≡ join_with_byte 32 ws
  pub after_is : after_line bytes ≡ rest

reads_at : (ws : List (List ℕ)) (rest : List ℕ) → AllByRecursion IsWord ws → 0 < length ws → ReadsLine ws (join_with_byte 32 ws ++ 10 ∷ rest) rest
reads_at ws rest h n =
    let line : List ℕ = join_with_byte 32 ws in
    let clean = words_line ws h in
    let first : first_line (line ++ 10 ∷ rest) ≡ line = cut_first line rest clean in
    record {
      there = cut_newline line rest;
      words_are = ap (pieces 32) first ∙ words_pieces ws h n;
      line_is = first;
      after_is = cut_after line rest clean;
    }

reads_line : (ws : List (List ℕ)) (rest : List ℕ) → AllByRecursion IsWord ws → 0 < length ws → ReadsLine ws (spelled ws ++ rest) rest
reads_line ws rest h n = subst (λ bs. ReadsLine ws bs rest) (sym (spelled_rest ws rest)) (reads_at ws rest h n)

some_words : (ws : List (List ℕ)) → AllByRecursion IsWord ws → list_any is_empty ws ≡ false
some_words [] h = refl
some_words (w ∷ ws) h = or_from (is_empty w) (list_any is_empty ws) (h.0).some (some_words ws h.1)

-- two lines that begin the same bytes have the same words and the same rest
same_lines : (ws vs : List (List ℕ)) (a b : List ℕ) → AllByRecursion IsWord ws → AllByRecursion IsWord vs → 0 < length ws → 0 < length vs → spelled ws ++ a ≡ spelled vs ++ b → (ws ≡ vs) × (a ≡ b)
same_lines ws vs a b h k n m e =
    let x = reads_line ws a h n in
    let y = reads_line vs b k m in
    (sym x.words_are ∙ (ap (λ bs. pieces 32 (first_line bs)) e ∙ y.words_are), sym x.after_is ∙ (ap after_line e ∙ y.after_is))

-- the line before a graph's text, the line of a link and the closing one are told by their first byte
graph_no_link : (name a : List ℕ) (l : Link) (b : List ℕ) → graph_line name ++ a ≡ link_text l ++ b → ⊥
graph_no_link name a l b e = let n : 103 ≡ 108 = ap (λ (bs : List ℕ). slice_index bs 0) e in omega (arith, n)

pub graph_no_close : (name a b : List ℕ) → graph_line name ++ a ≡ closing ++ b → ⊥
graph_no_close name a b e = let n : 103 ≡ 99 = ap (λ (bs : List ℕ). slice_index bs 0) e in omega (arith, n)

link_no_close : (l : Link) (a b : List ℕ) → link_text l ++ a ≡ closing ++ b → ⊥
link_no_close l a b e = let n : 108 ≡ 99 = ap (λ (bs : List ℕ). slice_index bs 0) e in omega (arith, n)

-- the same name, and the same bytes behind it
pub same_graph_line : (name other a b : List ℕ) → is_name name ≡ true → is_name other ≡ true → graph_line name ++ a ≡ graph_line other ++ b → (name ≡ other) × (a ≡ b)
same_graph_line name other a b h k e =
    let r = same_lines (codes "graph" ∷ name ∷ []) (codes "graph" ∷ other ∷ []) a b (graph_words name h) (graph_words other k) (omega arith) (omega arith) e in
    (ap (λ ws. word_at ws 1) r.0, r.1)

same_link_line : (l k : Link) (a b : List ℕ) → AllByRecursion IsWord (words_of l) → AllByRecursion IsWord (words_of k) → link_text l ++ a ≡ link_text k ++ b → (l ≡ k) × (a ≡ b)
same_link_line l k a b h j e =
    let r = same_lines (words_of l) (words_of k) a b h j (omega arith) (omega arith) e in
    (ap link_of r.0, r.1)

-- the line before a graph's text has one newline
pub newlines_graph : (name behind : List ℕ) → is_name name ≡ true → newlines (graph_line name ++ behind) ≡ newlines behind + 1
newlines_graph name behind h =
    let r = reads_line (codes "graph" ∷ name ∷ []) behind (graph_words name h) (omega arith) in
    newlines_line (graph_line name ++ behind) r.there ∙ ap (λ x. newlines x + 1) r.after_is

-- the same graph behind one line
same_graph : (g h : GraphValue) (a b : List ℕ) → a ≡ b → GraphText (graph_bytes a) g → GraphText (graph_bytes b) h → g ≡ h
same_graph g h a b e x y = (one_reading (graph_bytes b)).one_graph g h (subst (λ z. GraphText (graph_bytes z) g) e x) y

-- the words of a link that fits
fitting_words : (s : Spot) (l : Link) → PartFits s (TheLink l) → AllByRecursion IsWord (words_of l)
fitting_words s l f = link_words (last_format s.last) (format_of s.before l.graph) l (link_named s.before s.last l f)

-- two parts that fit at one place and begin the same bytes are one
same_part : (s : Spot) (p q : Part) (bytes a b : List ℕ) → PartFits s p → PartFits s q → PartStands bytes p a → PartStands bytes q b → (p ≡ q) × (a ≡ b)
same_part s (TheGraph n g) (TheGraph m h) bytes a b x y u v =
    let l = same_graph_line n m u.behind v.behind (graph_named (all_at s) n x.named) (graph_named (all_at s) m y.named) (sym u.begins ∙ v.begins) in
    let r = same_graph g h u.behind v.behind l.1 u.text_is v.text_is in
    (ap (λ k. TheGraph k g) l.0 ∙ ap (λ k. TheGraph m k) r, u.left_is ∙ (ap trace_bytes l.1 ∙ sym v.left_is))
same_part s (TheGraph n g) (TheLink l) bytes a b x y u v = absurd (graph_no_link n u.behind l b (sym u.begins ∙ v))
same_part s (TheLink l) (TheGraph n g) bytes a b x y u v = absurd (graph_no_link n v.behind l a (sym v.begins ∙ u))
same_part s (TheLink l) (TheLink k) bytes a b x y u v =
    let r = same_link_line l k a b (fitting_words s l x) (fitting_words s k y) (sym u ∙ v) in
    (ap (λ z. TheLink z) r.0, r.1)

-- no part that fits there begins the bytes
abbrev pub StopsAt : Spot → List ℕ → Type 0
StopsAt s bytes = (p : Part) (left : List ℕ) → PartFits s p → PartStands bytes p left → ⊥

pub one_stop : (s : Spot) (ps qs : List Part) (bytes a b : List ℕ) → PartsFit s ps → PartsFit s qs → PartsStand bytes ps a → PartsStand bytes qs b → StopsAt (after_parts s ps) a → StopsAt (after_parts s qs) b → (ps ≡ qs) × (a ≡ b)
one_stop s [] [] bytes a b x y u v f g = (refl, sym u ∙ v)
one_stop s [] (q ∷ qs) bytes a b x y u v f g = absurd (f q v.0 y.0 (subst (λ z. PartStands z q v.0) u v.1))
one_stop s (p ∷ ps) [] bytes a b x y u v f g = absurd (g p u.0 x.0 (subst (λ z. PartStands z p u.0) v u.1))
one_stop s (p ∷ ps) (q ∷ qs) bytes a b x y u v f g =
    let r = same_part s p q bytes u.0 v.0 x.0 y.0 u.1 v.1 in
    let fits : PartsFit (after_part s p) qs = subst (λ z. PartsFit (after_part s z) qs) (sym r.0) y.1 in
    let stops : StopsAt (after_parts (after_part s p) qs) b = subst (λ z. StopsAt (after_parts (after_part s z) qs) b) (sym r.0) g in
    let stand : PartsStand u.0 qs b = subst (λ z. PartsStand z qs b) (sym r.1) v.2 in
    let more = one_stop (after_part s p) ps qs u.0 a b x.1 fits u.2 stand f stops in
    (ap (λ z. z ∷ ps) r.0 ∙ ap (λ z. q ∷ z) more.0, more.1)

-- where a closing line stands, reading stops
pub close_stops : (s : Spot) (rest : List ℕ) → StopsAt s (closing ++ rest)
close_stops s rest (TheGraph n g) left f u = graph_no_close n u.behind rest (sym u.begins)
close_stops s rest (TheLink l) left f u = link_no_close l left rest (sym u)

-- a line that fits has no reason
reason_of_line : (s : Spot) (ws : List (List ℕ)) (bytes rest : List ℕ) → ReadsLine ws bytes rest → bytes_eq (join_with_byte 32 ws) (codes "close") ≡ false → next_reason s.before s.last bytes ≡ words_reason s.before s.last ws
reason_of_line s ws bytes rest r n =
    cond-true (has_newline bytes) (line_reason s.before s.last (first_line bytes)) (Some why.Missing) r.there
    ∙ (cond-false (bytes_eq (first_line bytes) (codes "close")) None (words_reason s.before s.last (pieces 32 (first_line bytes))) (ap (λ x. bytes_eq x (codes "close")) r.line_is ∙ n) ∙ ap (words_reason s.before s.last) r.words_are)

pub graph_reason_at : (s : Spot) (name rest : List ℕ) → is_name name ≡ true → next_reason s.before s.last (graph_line name ++ rest) ≡ graph_reason (all_at s) name
graph_reason_at s name rest h =
    let ws : List (List ℕ) = codes "graph" ∷ name ∷ [] in
    reason_of_line s ws (graph_line name ++ rest) rest (reads_line ws rest (graph_words name h) (omega arith)) refl
    ∙ (cond-false (list_any is_empty ws) (Some why.Syntax) _ (some_words ws (graph_words name h)))

link_reason_at : (s : Spot) (l : Link) (rest : List ℕ) → AllByRecursion IsWord (words_of l) → next_reason s.before s.last (link_text l ++ rest) ≡ last_reason s.before s.last l
link_reason_at s l rest h =
    reason_of_line s (words_of l) (link_text l ++ rest) rest (reads_line (words_of l) rest h (omega arith)) refl
    ∙ (cond-false (list_any is_empty (words_of l)) (Some why.Syntax) _ (some_words (words_of l) h))

reason_at : (s : Spot) (p : Part) (bytes left : List ℕ) → PartFits s p → PartStands bytes p left → next_reason s.before s.last bytes ≡ None
reason_at s (TheGraph n g) bytes left f u = ap (next_reason s.before s.last) u.begins ∙ (graph_reason_at s n u.behind (graph_named (all_at s) n f.named) ∙ f.named)
reason_at s (TheLink l) bytes left f u = ap (next_reason s.before s.last) u ∙ (link_reason_at s l left (fitting_words s l f) ∙ f)

pub line_stops : (s : Spot) (bytes : List ℕ) (w : Why) → next_reason s.before s.last bytes ≡ Some w → StopsAt s bytes
line_stops s bytes w h p left f u = none-some w (sym (reason_at s p bytes left f u) ∙ h)

-- a fault within the text of a graph
pub graph_stops : (s : Spot) (name rest : List ℕ) (n : ℕ) (w : Why) → graph_reason (all_at s) name ≡ None → FirstFault (graph_bytes rest) n w → StopsAt s (graph_line name ++ rest)
graph_stops s name rest n w named fault (TheGraph m g) left f u =
    let l = same_graph_line name m rest u.behind (graph_named (all_at s) name named) (graph_named (all_at s) m f.named) u.begins in
    (one_reading (graph_bytes rest)).not_both (g, subst (λ z. GraphText (graph_bytes z) g) (sym l.1) u.text_is) (n, w, fault)
graph_stops s name rest n w named fault (TheLink l) left f u = graph_no_link name rest l left u

pub sum_stops : (s : Spot) (name : List ℕ) (h : GraphValue) (behind : List ℕ) → graph_reason (all_at s) name ≡ None → GraphText (graph_bytes behind) h → is_large (all_at s ++ bare_entry name h ∷ []) ≡ true → StopsAt s (graph_line name ++ behind)
sum_stops s name h behind named text large (TheGraph m g) left f u =
    let l = same_graph_line name m behind u.behind (graph_named (all_at s) name named) (graph_named (all_at s) m f.named) u.begins in
    let r = same_graph h g behind u.behind l.1 text u.text_is in
    true≢false (sym large ∙ (ap (λ k. is_large (all_at s ++ bare_entry k h ∷ [])) l.0 ∙ (ap (λ k. is_large (all_at s ++ bare_entry m k ∷ [])) r ∙ f.short)))
sum_stops s name h behind named text large (TheLink l) left f u = graph_no_link name behind l left u
