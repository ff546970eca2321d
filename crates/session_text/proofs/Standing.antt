-- Parts that stand in bytes one after the other: what stands behind them, and the numbers of lines.
use Rattle.std.proofs.Common.{◌≡◌, ℕ, suc, ◌+◌, ◌≤◌, Bool, true, false, cond, not, take, List, [], ◌∷◌, ◌++◌, length, refl, sym, ◌∙◌, ap, subst, append_assoc, append-nil, length-append, arith}
use Rattle.std.specs.Prelude.{◌==◌}
use Rattle.std.specs.List.{position_or_len}
use Rattle.std.proofs.lemmas.Bool.{or_parts, or_from}
use Rattle.std.proofs.lemmas.List.{take-append-drop, map-append}
use Rattle.std.proofs.lemmas.List.Sums.{sum_by-append, sum_by-cons, count_by-le-length}
use Rattle.std.proofs.lemmas.Grind.{flat_map-append}
use Rattle.graph_terms.specs.Graph.{GraphValue}
use Rattle.graph_reader.specs.FirstFault.{has_newline, first_line, after_line}
use Rattle.graph_reader.proofs.Public.{whole_line}
use Rattle.realm_audit.specs.Parts.{newlines, before_end, graph_bytes, trace_bytes}
use Rattle.session_text.specs.declared.entry.Link.{Link}
use Rattle.session_text.specs.declared.entry.Entry.{Entry}
use Rattle.session_text.specs.Session.{graph_line, link_text, first_text, Part, TheGraph, TheLink, entry_parts, parts_of, PartStands, PartsStand, HeadStands, BeginsAt}
use Rattle.session_text.specs.Fits.{with_link, bare_entry}

-- NEWLINES
abbrev one_if : ℕ → ℕ
one_if b = cond (b == 10) 1 0

pub newlines_append : (xs ys : List ℕ) → newlines (xs ++ ys) ≡ newlines xs + newlines ys
newlines_append xs ys = sum_by-append one_if xs ys

no_newlines : (line : List ℕ) → has_newline line ≡ false → newlines line ≡ 0
no_newlines [] h = refl
no_newlines (b ∷ line) h =
    let p = or_parts (b == 10) (has_newline line) h in
    let more : newlines (b ∷ line) ≡ one_if b + newlines line = sum_by-cons one_if b line in
    let none : one_if b ≡ 0 = ap (λ t. cond t 1 0) p.0 in
    let rest : newlines line ≡ 0 = no_newlines line p.1 in
    omega (arith, more, none, rest)

newline_more : (rest : List ℕ) → newlines (10 ∷ rest) ≡ 1 + newlines rest
newline_more rest = sum_by-cons one_if 10 rest

-- the first line of bytes has no newline
clean_by : (b : ℕ) (bs : List ℕ) → has_newline (first_line bs) ≡ false → (t : Bool) → (b == 10) ≡ t → has_newline (first_line (b ∷ bs)) ≡ false
clean_by b bs h true e = ap (λ t. has_newline (take (cond (not t) (1 + position_or_len (λ x. x == 10) bs) 0) (b ∷ bs))) e
clean_by b bs h false e =
    let one : 1 + position_or_len (λ x. x == 10) bs ≡ suc (position_or_len (λ x. x == 10) bs) = omega arith in
    ap (λ t. has_newline (take (cond (not t) (1 + position_or_len (λ x. x == 10) bs) 0) (b ∷ bs))) e
    ∙ (ap (λ k. has_newline (take k (b ∷ bs))) one ∙ or_from (b == 10) (has_newline (first_line bs)) e h)

first_clean : (bs : List ℕ) → has_newline (first_line bs) ≡ false
first_clean [] = refl
first_clean (b ∷ bs) = clean_by b bs (first_clean bs) (b == 10) refl

-- bytes with a newline are their first line, and one newline more than what follows it
pub newlines_line : (bytes : List ℕ) → has_newline bytes ≡ true → newlines bytes ≡ newlines (after_line bytes) + 1
newlines_line bytes h =
    let split : newlines bytes ≡ newlines (first_line bytes) + newlines (10 ∷ after_line bytes) = ap newlines (whole_line bytes h) ∙ newlines_append (first_line bytes) (10 ∷ after_line bytes) in
    let none : newlines (first_line bytes) ≡ 0 = no_newlines (first_line bytes) (first_clean bytes) in
    let more : newlines (10 ∷ after_line bytes) ≡ 1 + newlines (after_line bytes) = newline_more (after_line bytes) in
    omega arith

-- the two parts behind the line before a graph's text
pub both_parts : (bytes : List ℕ) → bytes ≡ graph_bytes bytes ++ trace_bytes bytes
both_parts bytes = sym (take-append-drop (before_end bytes + 4) bytes)

pub newlines_parts : (bytes : List ℕ) → newlines bytes ≡ newlines (graph_bytes bytes) + newlines (trace_bytes bytes)
newlines_parts bytes = ap newlines (both_parts bytes) ∙ newlines_append (graph_bytes bytes) (trace_bytes bytes)

-- WHAT IS LEFT is the end of the bytes
pub record IsEnd (bytes left : List ℕ) : Type 0 where
  pub front : List ℕ
  pub whole : bytes ≡ front ++ left

end_of_end : (bytes mid left front : List ℕ) → bytes ≡ front ++ mid → IsEnd mid left → IsEnd bytes left
end_of_end bytes mid left front e h = record { «front» = front ++ h.front; whole = e ∙ (ap (λ x. front ++ x) h.whole ∙ sym (append_assoc front h.front left)) }

part_end : (p : Part) (bytes left : List ℕ) → PartStands bytes p left → IsEnd bytes left
part_end (TheGraph name g) bytes left s =
    end_of_end bytes s.behind left (graph_line name) s.begins
    (record { front = graph_bytes s.behind; whole = both_parts s.behind ∙ ap (λ x. graph_bytes s.behind ++ x) (sym s.left_is) })
part_end (TheLink l) bytes left s = record { front = link_text l; whole = s }

parts_end : (ps : List Part) (bytes left : List ℕ) → PartsStand bytes ps left → IsEnd bytes left
parts_end [] bytes left s = record { front = []; whole = s }
parts_end (p ∷ ps) bytes left s = let one = part_end p bytes s.0 s.1 in end_of_end bytes s.0 left one.front one.whole (parts_end ps s.0 left s.2)

pub head_end : (bytes left : List ℕ) (es : List Entry) → HeadStands bytes es left → IsEnd bytes left
head_end bytes left es h = end_of_end bytes h.behind left first_text h.begins (parts_end (parts_of es) h.behind left h.parts)

-- so its number is not above the bytes
pub few_before : (bytes left : List ℕ) (number : ℕ) → IsEnd bytes left → BeginsAt bytes left number → number + length left ≤ length bytes + 1
few_before bytes left number h at =
    let lines : newlines bytes ≡ newlines h.front + newlines left = ap newlines h.whole ∙ newlines_append h.front left in
    let size : length bytes ≡ length h.front + length left = ap length h.whole ∙ length-append h.front left in
    let few : newlines h.front ≤ length h.front = count_by-le-length (λ b. b == 10) h.front in
    let is : number + newlines left ≡ newlines bytes + 1 = at in
    omega arith

-- PARTS BEHIND PARTS
parts_more : (ps qs : List Part) (bytes mid left : List ℕ) → PartsStand bytes ps mid → PartsStand mid qs left → PartsStand bytes (ps ++ qs) left
parts_more [] qs bytes mid left s t = subst (λ x. PartsStand x qs left) (sym s) t
parts_more (p ∷ ps) qs bytes mid left s t = (s.0, s.1, parts_more ps qs s.0 mid left s.2 t)

pub head_more : (bytes mid left : List ℕ) (es fs : List Entry) (p : Part) → HeadStands bytes es mid → parts_of fs ≡ parts_of es ++ p ∷ [] → PartStands mid p left → HeadStands bytes fs left
head_more bytes mid left es fs p h e s = record {
  behind = h.behind;
  begins = h.begins;
  parts = subst (λ ps. PartsStand h.behind ps left) (sym e) (parts_more (parts_of es) (p ∷ []) h.behind mid left h.parts (left, s, refl));
}

-- the same with what is left by another name
pub head_at : (bytes left other : List ℕ) (es : List Entry) → left ≡ other → HeadStands bytes es left → HeadStands bytes es other
head_at bytes left other es e h = subst (HeadStands bytes es) e h

parts_push : (es : List Entry) (e : Entry) → parts_of (es ++ e ∷ []) ≡ parts_of es ++ entry_parts e
parts_push es e = flat_map-append entry_parts es (e ∷ []) ∙ ap (λ x. parts_of es ++ x) (append-nil (entry_parts e))

-- one graph more, and one link more
pub graph_more : (es : List Entry) (name : List ℕ) (g : GraphValue) → parts_of (es ++ bare_entry name g ∷ []) ≡ parts_of es ++ TheGraph name g ∷ []
graph_more es name g = parts_push es (bare_entry name g)

pub link_more : (before : List Entry) (e : Entry) (l : Link) → parts_of (before ++ with_link e l ∷ []) ≡ parts_of (before ++ e ∷ []) ++ TheLink l ∷ []
link_more before e l =
    parts_push before (with_link e l)
    ∙ (ap (λ x. parts_of before ++ (TheGraph e.name e.graph ∷ x)) (map-append TheLink e.links (l ∷ []))
    ∙ (sym (append_assoc (parts_of before) (entry_parts e) (TheLink l ∷ [])) ∙ ap (λ x. x ++ TheLink l ∷ []) (sym (parts_push before e))))
