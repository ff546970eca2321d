-- What a line that was read adds to the graphs so far, and what is said of one that is refused.
use Rattle.std.proofs.Common.{◌≡◌, ℕ, ◌+◌, ◌<◌, ◌≤◌, Bool, true, false, cond, not, ◌&&◌, ◌||◌, inl, inr, List, [], ◌∷◌, ◌++◌, length, map, refl, sym, ◌∙◌, ap, subst, append_assoc, append-nil, arith}
use Rattle.std.specs.Prelude.{◌≢◌, ◌==◌, Option, Some, None, Result, Ok, Err, OnOk, IfOk, IfErr, IfSome, IsTrue, nat_lt, codes}
use Rattle.std.specs.List.{list_any, join_with_byte}
use Rattle.std.specs.Option.{option_map_or}
use Rattle.std.specs.Result.{result_and}
use Rattle.std.specs.Str.{bytes_eq}
use Rattle.std.proofs.lemmas.Bool.{cond-true, cond-false, and_parts, or_parts, or_from, or_left, lt-ltb, le-ltb, ltb-true, ltb-false, eqb-true}
use Rattle.std.proofs.lemmas.Option.{none-some}
use Rattle.std.proofs.lemmas.List.{map-append}
use Rattle.std.proofs.lemmas.List.Folds.{list_any-append}
use Rattle.graph_terms.specs.declared.why.Why.{Why}
use Rattle.graph_terms.specs.declared.why.Why.TheVariants as why
use Rattle.graph_terms.specs.declared.format.Format.{Format}
use Rattle.graph_terms.specs.declared.format.Format.TheVariants.{One}
use Rattle.graph_terms.specs.Name.{is_name_in}
use Rattle.graph_terms.specs.Graph.{GraphValue}
use Rattle.graph_terms.specs.Spelling.{spelled}
use Rattle.graph_terms.specs.Fits.{IsGraph, cell_count}
use Rattle.graph_words.specs.Words.{pieces}
use Rattle.graph_words.specs.Text.{text, GraphText}
use Rattle.graph_reader.specs.FirstFault.{has_newline, first_line, or_else}
use Rattle.word_meanings.specs.Words.{is_empty}
use Rattle.graph_reader.specs.Reading.{after_line}
use Rattle.graph_words.specs.Cuts.{IsCut}
use Rattle.graph_reader.specs.declared.ReadRefusal.{ReadRefusal}
use Rattle.graph_reader.specs.declared.ReadRefusal.TheVariants as refusals
use Rattle.basics.proofs.TestedLists.{same_bytes}
use Rattle.graph_reader.proofs.Public.{whole_line}
use Rattle.word_meanings.proofs.Public.{joined_pieces}
use Rattle.graph_reader.proofs.TextTells.{one_reading}
use Rattle.realm_audit.specs.Parts.{newlines, graph_bytes, trace_bytes}
use Rattle.session_text.specs.declared.entry.Link.{Link}
use Rattle.session_text.specs.declared.entry.Entry.{Entry}
use Rattle.session_text.specs.declared.so_far.Last.{Last}
use Rattle.session_text.specs.declared.so_far.SoFar.{SoFar}
use Rattle.session_text.specs.Session.{graph_line, link_text, closing, TheGraph, TheLink, GraphStands, HeadStands, BeginsAt}
use Rattle.session_text.specs.Fits.{with_trigger, with_triggers, trigger_reason, all_lines, all_cells, is_above, is_large, graph_reason, link_reason, with_link, bare_entry, names_op, format_of, is_named, AreEntries, SessionText}
use Rattle.session_text.specs.FirstFault.{word_at, is_graph_line, is_link_line, link_of, with_last, last_format, last_reason, words_reason, line_reason, next_reason, SessionFault, IsRefusal}
use Rattle.session_text.specs.SoFar.{last_entry, entries_in, judged_of, with_judged, IsJudged, IsSoFar, HasRead, IsLineAt, IsRefusedBehind, added_reason, LinkAdded, GraphAdded, bare_last, AllowsLink, LastAdded}
use Rattle.session_text.proofs.Entries.{link_fits, push_entry, last_fits, bare_fits, triggers_push, lines_push, cells_push, lines_link, cells_link}
use Rattle.session_text.proofs.Standing.{newlines_append, newlines_line, newlines_parts, few_before, head_end, head_more, head_at, graph_more, link_more}
use Rattle.session_text.proofs.Stops.{graph_named, newlines_graph}

-- a line that is refused by its words
pub refused_line : (bytes rest : List ℕ) (s : SoFar) (ws : List (List ℕ)) (after : List ℕ) (number : ℕ) (w : Why) → HasRead bytes s rest number → IsLineAt rest ws after → words_reason s.before.items (last_entry s.last) ws ≡ Some w → SessionFault bytes number w
refused_line bytes rest s ws after number w r l h =
    let before : List Entry = s.before.items in
    let last : Option Entry = last_entry s.last in
    let by_words : next_reason before last rest ≡ words_reason before last (pieces 32 (first_line rest)) = cond-true (has_newline rest) (line_reason before last (first_line rest)) (Some why.Missing) l.there
    ∙ cond-false (bytes_eq (first_line rest) (codes "close")) None (words_reason before last (pieces 32 (first_line rest))) l.no_close in
    inr (inl (record {
      before = before;
      last = last;
      rest = rest;
      first = r.is_so_far.first;
      are_entries = r.is_so_far.entries;
      begins = r.begins;
      number_is = r.number_is;
      refused = by_words ∙ (ap (words_reason before last) l.words_are ∙ h);
    }))

-- no newline is left
pub missing_line : (bytes rest : List ℕ) (s : SoFar) (number : ℕ) → HasRead bytes s rest number → has_newline rest ≡ false → SessionFault bytes number why.Missing
missing_line bytes rest s number r h = inr (inl (record {
  before = s.before.items;
  last = last_entry s.last;
  rest = rest;
  first = r.is_so_far.first;
  are_entries = r.is_so_far.entries;
  begins = r.begins;
  number_is = r.number_is;
  refused = cond-false (has_newline rest) (line_reason s.before.items (last_entry s.last) (first_line rest)) (Some why.Missing) h;
}))

-- the reasons of words, by what they are
pub empty_word : (before : List Entry) (last : Option Entry) (ws : List (List ℕ)) → list_any is_empty ws ≡ true → words_reason before last ws ≡ Some why.Syntax
empty_word before last ws h = cond-true (list_any is_empty ws) (Some why.Syntax) _ h

pub by_graph_line : (before : List Entry) (last : Option Entry) (ws : List (List ℕ)) → list_any is_empty ws ≡ false → is_graph_line ws ≡ true → words_reason before last ws ≡ graph_reason (with_last before last) (word_at ws 1)
by_graph_line before last ws h g = cond-false (list_any is_empty ws) (Some why.Syntax) _ h ∙ cond-true (is_graph_line ws) (graph_reason (with_last before last) (word_at ws 1)) _ g

pub by_link_line : (before : List Entry) (last : Option Entry) (ws : List (List ℕ)) → list_any is_empty ws ≡ false → is_graph_line ws ≡ false → is_link_line ws ≡ true → words_reason before last ws ≡ last_reason before last (link_of ws)
by_link_line before last ws h g k =
    cond-false (list_any is_empty ws) (Some why.Syntax) _ h ∙ (cond-false (is_graph_line ws) (graph_reason (with_last before last) (word_at ws 1)) _ g ∙ cond-true (is_link_line ws) (last_reason before last (link_of ws)) (Some why.Syntax) k)

pub no_form : (before : List Entry) (last : Option Entry) (ws : List (List ℕ)) → list_any is_empty ws ≡ false → is_graph_line ws ≡ false → is_link_line ws ≡ false → words_reason before last ws ≡ Some why.Syntax
no_form before last ws h g k =
    cond-false (list_any is_empty ws) (Some why.Syntax) _ h ∙ (cond-false (is_graph_line ws) (graph_reason (with_last before last) (word_at ws 1)) _ g ∙ cond-false (is_link_line ws) (last_reason before last (link_of ws)) (Some why.Syntax) k)

-- a line of five words is no line of two
pub link_no_graph : (ws : List (List ℕ)) → is_link_line ws ≡ true → is_graph_line ws ≡ false
link_no_graph ws h =
    let five : length ws ≡ 5 = eqb-true (length ws) 5 (and_parts (length ws == 5) (bytes_eq (word_at ws 0) (codes "link")) h).0 in
    ap (λ n. n == 2 && bytes_eq (word_at ws 0) (codes "graph")) five

-- words of such lines, spelled
graph_words : (ws : List (List ℕ)) → length ws ≡ 2 → word_at ws 0 ≡ codes "graph" → ws ≡ codes "graph" ∷ word_at ws 1 ∷ []
graph_words [] n e = absurd (omega arith)
graph_words (a ∷ []) n e = absurd (omega arith)
graph_words (a ∷ b ∷ []) n e = ap (λ x. x ∷ b ∷ []) e
graph_words (a ∷ b ∷ x ∷ ws) n e = absurd (omega arith)

link_words : (ws : List (List ℕ)) → length ws ≡ 5 → word_at ws 0 ≡ codes "link" → ws ≡ codes "link" ∷ word_at ws 1 ∷ word_at ws 2 ∷ word_at ws 3 ∷ word_at ws 4 ∷ []
link_words [] n e = absurd (omega arith)
link_words (a ∷ []) n e = absurd (omega arith)
link_words (a ∷ b ∷ []) n e = absurd (omega arith)
link_words (a ∷ b ∷ c ∷ []) n e = absurd (omega arith)
link_words (a ∷ b ∷ c ∷ d ∷ []) n e = absurd (omega arith)
link_words (a ∷ b ∷ c ∷ d ∷ f ∷ []) n e = ap (λ x. x ∷ b ∷ c ∷ d ∷ f ∷ []) e
link_words (a ∷ b ∷ c ∷ d ∷ f ∷ x ∷ ws) n e = absurd (omega arith)

-- a line is its words
line_spelled : (rest : List ℕ) (ws : List (List ℕ)) (after : List ℕ) → IsLineAt rest ws after → rest ≡ spelled ws ++ after
line_spelled rest ws after l =
    whole_line rest l.there
    ∙ (ap (λ x. x ++ 10 ∷ after_line rest) (sym (joined_pieces 32 (first_line rest)) ∙ ap (join_with_byte 32) l.words_are)
    ∙ (ap (λ x. join_with_byte 32 ws ++ 10 ∷ x) l.after_is ∙ sym (append_assoc (join_with_byte 32 ws) (10 ∷ []) after)))

pub graph_spelled : (rest : List ℕ) (ws : List (List ℕ)) (after : List ℕ) → IsLineAt rest ws after → is_graph_line ws ≡ true → rest ≡ graph_line (word_at ws 1) ++ after
graph_spelled rest ws after l h =
    let p = and_parts (length ws == 2) (bytes_eq (word_at ws 0) (codes "graph")) h in
    line_spelled rest ws after l ∙ ap (λ x. spelled x ++ after) (graph_words ws (eqb-true (length ws) 2 p.0) (same_bytes (word_at ws 0) (codes "graph") p.1))

pub link_spelled : (rest : List ℕ) (ws : List (List ℕ)) (after : List ℕ) → IsLineAt rest ws after → is_link_line ws ≡ true → rest ≡ link_text (link_of ws) ++ after
link_spelled rest ws after l h =
    let p = and_parts (length ws == 5) (bytes_eq (word_at ws 0) (codes "link")) h in
    line_spelled rest ws after l ∙ ap (λ x. spelled x ++ after) (link_words ws (eqb-true (length ws) 5 p.0) (same_bytes (word_at ws 0) (codes "link") p.1))

-- the graphs so far, by the last
pub entries_are : (s : SoFar) (l : Last) → s.last ≡ Some l → entries_in s ≡ s.before.items ++ l.entry ∷ []
entries_are s l e = ap (λ o. with_last s.before.items (last_entry o)) e

-- the reasons of a link are none
or_else_none : (a b : Option Why) → or_else a b ≡ None → (a ≡ None) × (b ≡ None)
or_else_none None b h = (refl, h)
or_else_none (Some w) b h = absurd (none-some w (sym h))

cond_none : (b : Bool) (w : Why) → cond b (Some w) None ≡ None → b ≡ false
cond_none true w h = absurd (none-some w (sym h))
cond_none false w h = refl

pub link_short : (before : List Entry) (e : Entry) (l : Link) → link_reason before e l ≡ None → is_large (before ++ with_link e l ∷ []) ≡ false
link_short before e l h = cond_none (is_large (before ++ with_link e l ∷ [])) why.Limit (or_else_none _ _ (or_else_none _ _ h).1).1

-- a link was added to the graphs so far
pub so_far_link : (old new : SoFar) (l : Link) → IsSoFar old → LinkAdded old l new → last_reason old.before.items (last_entry old.last) l ≡ None → IsSoFar new
so_far_link old new l r a h =
    let before : List Entry = old.before.items in
    let e : Entry = a.last_old.entry in
    let was : entries_in old ≡ before ++ e ∷ [] = entries_are old a.last_old a.was in
    let is : entries_in new ≡ before ++ with_link e l ∷ [] = entries_are new a.last_new a.is ∙ (ap (λ x. x ++ a.last_new.entry ∷ []) a.before ∙ ap (λ x. before ++ x ∷ []) a.adds.entry) in
    let reason : link_reason before e l ≡ None = ap (λ o. last_reason before (last_entry o) l) (sym a.was) ∙ h in
    let fits = last_fits before e (subst AreEntries was r.entries) in
    let judged : a.last_old.judged ≡ with_triggers e.graph e.links = subst IsJudged a.was r.judged in
    record {
      first = λ none. absurd (none-some a.last_new.entry (sym none ∙ ap last_entry a.is));
      entries = subst AreEntries (sym is) (push_entry before (with_link e l) fits.0 (link_fits before e l fits.1 reason));
      judged_before = a.judged ∙ (r.judged_before ∙ ap (map judged_of) (sym a.before));
      judged = subst IsJudged (sym a.is) (a.adds.judged ∙ (ap (λ g. with_trigger g l) judged ∙ (sym (triggers_push e.graph e.links l) ∙ ap (λ (x : Entry). with_triggers x.graph x.links) (sym a.adds.entry))));
      lines = a.lines ∙ (ap (λ n. n + 1) (r.lines ∙ ap all_lines was) ∙ (sym (lines_link before e l) ∙ ap all_lines (sym is)));
      cells = a.cells ∙ (r.cells ∙ (ap all_cells was ∙ (sym (cells_link before e l) ∙ ap all_cells (sym is))));
      short = ap is_large is ∙ link_short before e l reason;
    }

pub link_taken : (bytes rest : List ℕ) (old new : SoFar) (ws : List (List ℕ)) (after : List ℕ) (number : ℕ) → HasRead bytes old rest number → IsLineAt rest ws after → is_link_line ws ≡ true →
    LinkAdded old (link_of ws) new → last_reason old.before.items (last_entry old.last) (link_of ws) ≡ None → HasRead bytes new after (number + 1)
link_taken bytes rest old new ws after number r at k a h =
    let l : Link = link_of ws in
    let before : List Entry = old.before.items in
    let e : Entry = a.last_old.entry in
    let was : entries_in old ≡ before ++ e ∷ [] = entries_are old a.last_old a.was in
    let is : entries_in new ≡ before ++ with_link e l ∷ [] = entries_are new a.last_new a.is ∙ (ap (λ x. x ++ a.last_new.entry ∷ []) a.before ∙ ap (λ x. before ++ x ∷ []) a.adds.entry) in
    let lines : newlines rest ≡ newlines after + 1 = newlines_line rest at.there ∙ ap (λ x. newlines x + 1) at.after_is in
    record {
      is_so_far = so_far_link old new l r.is_so_far a h;
      begins = subst (λ es. HeadStands bytes es after) (sym is)
          (head_more bytes rest after (before ++ e ∷ []) (before ++ with_link e l ∷ []) (TheLink l) (subst (λ es. HeadStands bytes es rest) was r.begins) (link_more before e l) (link_spelled rest ws after at k));
      number_is = (let n : number + newlines rest ≡ newlines bytes + 1 = r.number_is in omega arith);
    }

-- the graphs so far with their links as triggers, by those before the last
judged_with : (before : List Entry) (judged : List GraphValue) (last : Option Last) → judged ≡ map judged_of before → IsJudged last → with_judged judged last ≡ map judged_of (with_last before (last_entry last))
judged_with before judged None h j = h
judged_with before judged (Some l) h j = ap (λ gs. gs ++ l.judged ∷ []) h ∙ (ap (λ g. map judged_of before ++ g ∷ []) j ∙ sym (map-append judged_of before (l.entry ∷ [])))

-- a graph was added to those so far
pub so_far_graph : (old new : SoFar) (name : List ℕ) (g : GraphValue) (lines cells : ℕ) → IsSoFar old → graph_reason (entries_in old) name ≡ None → IsGraph g →
    GraphAdded old (record { entry = bare_entry name g; judged = g }) lines cells new → lines ≡ old.lines + length g.lines → cells ≡ old.cells + cell_count g → is_above lines cells ≡ false → IsSoFar new
so_far_graph old new name g lines cells r named graph a ls cs short =
    let es : List Entry = entries_in old in
    let e : Entry = bare_entry name g in
    let is : entries_in new ≡ es ++ e ∷ [] = entries_are new (record { entry = e; judged = g }) a.is ∙ ap (λ x. x ++ e ∷ []) a.before in
    let all : lines ≡ all_lines (es ++ e ∷ []) = (let p : all_lines (es ++ e ∷ []) ≡ all_lines es + (length g.lines + 0) = lines_push es e in let q : old.lines ≡ all_lines es = r.lines in omega arith) in
    let every : cells ≡ all_cells (es ++ e ∷ []) = cs ∙ (ap (λ n. n + cell_count g) r.cells ∙ sym (cells_push es e)) in
    let few : is_large (es ++ e ∷ []) ≡ false = ap (λ n. is_above n (all_cells (es ++ e ∷ []))) (sym all) ∙ (ap (λ n. is_above lines n) (sym every) ∙ short) in
    record {
      first = λ none. absurd (none-some e (sym none ∙ ap last_entry a.is));
      entries = subst AreEntries (sym is) (push_entry es e r.entries (bare_fits es name g named graph few));
      judged = subst IsJudged (sym a.is) refl;
      judged_before = a.judged ∙ (judged_with old.before.items old.judged.items old.last r.judged_before r.judged ∙ ap (map judged_of) (sym a.before));
      lines = a.lines_are ∙ (all ∙ ap all_lines (sym is));
      cells = a.cells_are ∙ (every ∙ ap all_cells (sym is));
      short = ap is_large is ∙ few;
    }

-- the text of a graph stands behind a line of its name
pub graph_stands : (behind left name : List ℕ) (g : GraphValue) → GraphText (graph_bytes behind) g → left ≡ trace_bytes behind → GraphStands (graph_line name ++ behind) name g left
graph_stands behind left name g t e = record { «behind» = behind; begins = refl; text_is = t; left_is = e }

pub graph_taken : (bytes behind left : List ℕ) (old new : SoFar) (name : List ℕ) (g : GraphValue) (number next : ℕ) → HasRead bytes old (graph_line name ++ behind) number → graph_reason (entries_in old) name ≡ None → GraphText (graph_bytes behind) g → left ≡ trace_bytes behind →
    IsSoFar new → entries_in new ≡ entries_in old ++ bare_entry name g ∷ [] → next ≡ number + newlines (graph_bytes behind) + 1 → HasRead bytes new left next
graph_taken bytes behind left old new name g number next r named t after is_new is after_end =
    let es : List Entry = entries_in old in
    let line : newlines (graph_line name ++ behind) ≡ newlines behind + 1 = newlines_graph name behind (graph_named es name named) in
    let parts : newlines behind ≡ newlines (graph_bytes behind) + newlines left = newlines_parts behind ∙ ap (λ x. newlines (graph_bytes behind) + newlines x) (sym after) in
    record {
      is_so_far = is_new;
      begins = subst (λ fs. HeadStands bytes fs left) (sym is)
          (head_more bytes (graph_line name ++ behind) left es (es ++ bare_entry name g ∷ []) (TheGraph name g) r.begins (graph_more es name g) (graph_stands behind left name g t after));
      number_is = (let n : number + newlines (graph_line name ++ behind) ≡ newlines bytes + 1 = r.number_is in omega arith);
    }

-- the text of a graph was read twice
pub read_twice : (bytes name : List ℕ) (g judged : GraphValue) (links : List Link) → GraphText bytes g → GraphText bytes judged → links ≡ [] → (record { entry = record { name = name; graph = g; links = links }; judged = judged }) ≡ bare_last name g
read_twice bytes name g judged links t s none =
    ap (λ (x : List Link). record { entry = record { name = name; graph = g; links = x }; judged = judged }) none ∙ ap (λ (x : GraphValue). record { entry = bare_entry name g; judged = x }) ((one_reading bytes).one_graph judged g s t)

-- a graph that was read was put to those so far
pub graph_read : (bytes behind left : List ℕ) (old new : SoFar) (last : Last) (lines cells number next : ℕ) → HasRead bytes old (graph_line last.entry.name ++ behind) number → graph_reason (entries_in old) last.entry.name ≡ None →
    GraphText (graph_bytes behind) last.entry.graph → last ≡ bare_last last.entry.name last.entry.graph → GraphAdded old last lines cells new →
    lines ≡ old.lines + length last.entry.graph.lines → cells ≡ old.cells + cell_count last.entry.graph → is_above lines cells ≡ false → left ≡ trace_bytes behind → next ≡ number + newlines (graph_bytes behind) + 1 → HasRead bytes new left next
graph_read bytes behind left old new last lines cells number next r named t bare a ls cs few after after_end =
    let name : List ℕ = last.entry.name in
    let g : GraphValue = last.entry.graph in
    let added : GraphAdded old (bare_last name g) lines cells new = subst (λ (x : Last). GraphAdded old x lines cells new) bare a in
    let is : entries_in new ≡ entries_in old ++ bare_entry name g ∷ [] = entries_are new (bare_last name g) added.is ∙ ap (λ x. x ++ bare_entry name g ∷ []) added.before in
    graph_taken bytes behind left old new name g number next r named t after (so_far_graph old new name g lines cells r.is_so_far named t.is_graph added ls cs few) is after_end

-- a line of a graph's text is refused
pub refused_inside : (bytes behind : List ℕ) (old : SoFar) (name : List ℕ) (number : ℕ) (e : ReadRefusal) → HasRead bytes old (graph_line name ++ behind) number → graph_reason (entries_in old) name ≡ None → IsRefusedBehind (graph_bytes behind) number e → IsRefusal bytes e
refused_inside bytes behind old name number (refusals.Line n w) r named h = inr (inr (inl (record {
  before = entries_in old;
  name = name;
  rest = behind;
  are_entries = r.is_so_far.entries;
  named = named;
  begins = r.begins;
  above = number;
  above_is = r.number_is;
  inside = h.0;
  fault = h.1;
  number_is = h.2;
})))
refused_inside bytes behind old name number refusals.NoMemory r named h = tt

-- a sum is passed with the last line of a graph's text
pub refused_sum : (bytes behind : List ℕ) (old : SoFar) (name : List ℕ) (g : GraphValue) (lines cells number at : ℕ) → HasRead bytes old (graph_line name ++ behind) number → graph_reason (entries_in old) name ≡ None → GraphText (graph_bytes behind) g →
    lines ≡ old.lines + length g.lines → cells ≡ old.cells + cell_count g → is_above lines cells ≡ true → at ≡ number + newlines (graph_bytes behind) → SessionFault bytes at why.Limit
refused_sum bytes behind old name g lines cells number at r named t ls cs above at_end =
    let es : List Entry = entries_in old in
    let e : Entry = bare_entry name g in
    let all : lines ≡ all_lines (es ++ e ∷ []) = (let p : all_lines (es ++ e ∷ []) ≡ all_lines es + (length g.lines + 0) = lines_push es e in let q : old.lines ≡ all_lines es = r.is_so_far.lines in omega arith) in
    let every : cells ≡ all_cells (es ++ e ∷ []) = cs ∙ (ap (λ n. n + cell_count g) r.is_so_far.cells ∙ sym (cells_push es e)) in
    let line : newlines (graph_line name ++ behind) ≡ newlines behind + 1 = newlines_graph name behind (graph_named es name named) in
    let parts : newlines behind ≡ newlines (graph_bytes behind) + newlines (trace_bytes behind) = newlines_parts behind in
    inr (inr (inr (inl (record {
      before = es;
      name = name;
      graph = g;
      from = graph_line name ++ behind;
      rest = trace_bytes behind;
      are_entries = r.is_so_far.entries;
      named = named;
      begins = r.begins;
      stands = graph_stands behind (trace_bytes behind) name g t refl;
      passed = ap (λ n. is_above n (all_cells (es ++ e ∷ []))) (sym all) ∙ (ap (λ n. is_above lines n) (sym every) ∙ above);
      number_is = (let n : number + newlines (graph_line name ++ behind) ≡ newlines bytes + 1 = r.number_is in omega arith);
      reason_is = refl;
    }))))

-- no line has a number above the bytes
pub few_lines : (bytes rest : List ℕ) (s : SoFar) (number : ℕ) → HasRead bytes s rest number → number + length rest ≤ length bytes + 1
few_lines bytes rest s number r = few_before bytes rest number (head_end bytes rest (entries_in s) r.begins) r.number_is

-- the closing line
close_is : (rest : List ℕ) → has_newline rest ≡ true → bytes_eq (first_line rest) (codes "close") ≡ true → rest ≡ closing ++ after_line rest
close_is rest there h = whole_line rest there ∙ ap (λ x. x ++ 10 ∷ after_line rest) (same_bytes (first_line rest) (codes "close") h)

pub closed : (bytes rest : List ℕ) (s : SoFar) (number : ℕ) → HasRead bytes s rest number → has_newline rest ≡ true → bytes_eq (first_line rest) (codes "close") ≡ true → HeadStands bytes (entries_in s) (closing ++ after_line rest)
closed bytes rest s number r there h = head_at bytes rest (closing ++ after_line rest) (entries_in s) (close_is rest there h) r.begins

pub read_all : (bytes rest : List ℕ) (s : SoFar) (es : List Entry) (number : ℕ) → HasRead bytes s rest number → length bytes ≤ 1048576 → has_newline rest ≡ true → bytes_eq (first_line rest) (codes "close") ≡ true → after_line rest ≡ [] → es ≡ entries_in s → SessionText bytes es
read_all bytes rest s es number r short there h none e = record {
  is_text = subst (λ fs. HeadStands bytes fs closing) (sym e) (head_at bytes (closing ++ after_line rest) closing (entries_in s) (ap (λ x. closing ++ x) none ∙ append-nil closing) (closed bytes rest s number r there h));
  short = short;
  are_entries = subst AreEntries (sym e) r.is_so_far.entries;
}

pub refused_rest : (bytes rest : List ℕ) (s : SoFar) (number : ℕ) → HasRead bytes s rest number → has_newline rest ≡ true → bytes_eq (first_line rest) (codes "close") ≡ true → after_line rest ≢ [] → SessionFault bytes (number + 1) why.Rest
refused_rest bytes rest s number r there h some =
    let lines : newlines rest ≡ newlines (after_line rest) + 1 = newlines_line rest there in
    inr (inr (inr (inr (record {
      before = entries_in s;
      rest = after_line rest;
      are_entries = r.is_so_far.entries;
      begins = closed bytes rest s number r there h;
      follows = some;
      number_is = (let n : number + newlines rest ≡ newlines bytes + 1 = r.number_is in omega arith);
      reason_is = refl;
    }))))

-- a refusal of a line
pub is_refusal : (bytes : List ℕ) (e : ReadRefusal) (n : ℕ) (w : Why) → e ≡ refusals.Line n w → SessionFault bytes n w → IsRefusal bytes e
is_refusal bytes e n w is f = subst (IsRefusal bytes) (sym is) f

-- the bytes up to the line before a graph's text
spelled_at : (rest name : List ℕ) (ws : List (List ℕ)) (after : List ℕ) → IsLineAt rest ws after → is_graph_line ws ≡ true → name ≡ word_at ws 1 → rest ≡ graph_line name ++ after
spelled_at rest name ws after l h e = graph_spelled rest ws after l h ∙ ap (λ x. graph_line x ++ after) (sym e)

pub at_graph : (bytes rest name : List ℕ) (s : SoFar) (ws : List (List ℕ)) (after : List ℕ) (number : ℕ) → HasRead bytes s rest number → IsLineAt rest ws after → is_graph_line ws ≡ true → name ≡ word_at ws 1 → HasRead bytes s (graph_line name ++ after) number
at_graph bytes rest name s ws after number r l h e = record {
  is_so_far = r.is_so_far;
  begins = subst (HeadStands bytes (entries_in s)) (spelled_at rest name ws after l h e) r.begins;
  number_is = subst (λ x. BeginsAt bytes x number) (spelled_at rest name ws after l h e) r.number_is;
}

-- the reasons of a link, by what was kept
large_after : (lines cells : ℕ) (b : Bool) → nat_lt lines 8191 ≡ b → nat_lt 4194304 cells ≡ false → is_above (lines + 1) cells ≡ not b
large_after lines cells true e h = let l : lines < 8191 = ltb-true lines 8191 e in or_from (nat_lt 8191 (lines + 1)) (nat_lt 4194304 cells) (le-ltb 8191 (lines + 1) (omega arith)) h
large_after lines cells false e h = let l : 8191 ≤ lines = ltb-false lines 8191 e in or_left (nat_lt 8191 (lines + 1)) (nat_lt 4194304 cells) (lt-ltb 8191 (lines + 1) (omega arith))

flipped : (b : Bool) → cond (not b) (Some why.Limit) None ≡ cond b None (Some why.Limit)
flipped true = refl
flipped false = refl

pub added_is : (old : SoFar) (last : Last) (l : Link) (b : Bool) → IsSoFar old → old.last ≡ Some last → is_named last.entry.graph.format (format_of old.before.items l.graph) l ≡ true → names_op old.before.items l ≡ true → nat_lt old.lines 8191 ≡ b → last_reason old.before.items (last_entry old.last) l ≡ added_reason last l b
added_is old last l b r is named names room =
    let before : List Entry = old.before.items in
    let e : Entry = last.entry in
    let was : entries_in old ≡ before ++ e ∷ [] = entries_are old last is in
    let judged : last.judged ≡ with_triggers e.graph e.links = subst IsJudged is r.judged in
    let lines : all_lines (before ++ with_link e l ∷ []) ≡ old.lines + 1 = lines_link before e l ∙ (ap (λ x. all_lines x + 1) (sym was) ∙ ap (λ n. n + 1) (sym r.lines)) in
    let cells : all_cells (before ++ with_link e l ∷ []) ≡ all_cells (entries_in old) = cells_link before e l ∙ ap all_cells (sym was) in
    let few : nat_lt 4194304 (all_cells (entries_in old)) ≡ false = (or_parts (nat_lt 8191 (all_lines (entries_in old))) (nat_lt 4194304 (all_cells (entries_in old))) r.short).1 in
    let large : is_large (before ++ with_link e l ∷ []) ≡ not b = ap (λ n. is_above n (all_cells (before ++ with_link e l ∷ []))) lines ∙ (ap (λ n. is_above (old.lines + 1) n) cells ∙ large_after old.lines (all_cells (entries_in old)) b room few) in
    ap (λ o. last_reason before (last_entry o) l) is
    ∙ (ap (λ t. or_else (cond (not t) (Some why.Name) (cond (not (names_op before l)) (Some why.Unknown) None)) (or_else (trigger_reason (with_triggers e.graph e.links) l) (cond (is_large (before ++ with_link e l ∷ [])) (Some why.Limit) None))) named
    ∙ (ap (λ t. or_else (cond (not t) (Some why.Unknown) None) (or_else (trigger_reason (with_triggers e.graph e.links) l) (cond (is_large (before ++ with_link e l ∷ [])) (Some why.Limit) None))) names
    ∙ (ap (λ t. or_else (trigger_reason (with_triggers e.graph e.links) l) (cond t (Some why.Limit) None)) large
    ∙ (ap (λ o. or_else (trigger_reason (with_triggers e.graph e.links) l) o) (flipped b) ∙ ap (λ g. or_else (trigger_reason g l) (cond b None (Some why.Limit))) (sym judged)))))

-- no link fits where no graph was read, and none whose words are no names or whose operation is not there
pub no_name : (before : List Entry) (last : Option Entry) (l : Link) → is_named (last_format last) (format_of before l.graph) l ≡ false → last_reason before last l ≡ Some why.Name
no_name before None l h = cond-false (is_named One (format_of before l.graph) l) (Some why.Unknown) (Some why.Name) h
no_name before (Some e) l h = ap (λ t. or_else (cond (not t) (Some why.Name) (cond (not (names_op before l)) (Some why.Unknown) None)) (or_else (trigger_reason (with_triggers e.graph e.links) l) (cond (is_large (before ++ with_link e l ∷ [])) (Some why.Limit) None))) h

pub no_op : (before : List Entry) (last : Option Entry) (l : Link) → is_named (last_format last) (format_of before l.graph) l ≡ true → names_op before l ≡ false → last_reason before last l ≡ Some why.Unknown
no_op before None l h n = cond-true (is_named One (format_of before l.graph) l) (Some why.Unknown) (Some why.Name) h
no_op before (Some e) l h n =
    ap (λ t. or_else (cond (not t) (Some why.Name) (cond (not (names_op before l)) (Some why.Unknown) None)) (or_else (trigger_reason (with_triggers e.graph e.links) l) (cond (is_large (before ++ with_link e l ∷ [])) (Some why.Limit) None))) h
    ∙ ap (λ t. or_else (cond (not t) (Some why.Unknown) None) (or_else (trigger_reason (with_triggers e.graph e.links) l) (cond (is_large (before ++ with_link e l ∷ [])) (Some why.Limit) None))) n

pub no_last : (before : List Entry) (l : Link) → is_named One (format_of before l.graph) l ≡ true → last_reason before None l ≡ Some why.Unknown
no_last before l h = cond-true (is_named One (format_of before l.graph) l) (Some why.Unknown) (Some why.Name) h

-- the names of a link whose format is told by the last graph, as it is kept with its links as triggers
triggers_format : (g : GraphValue) (ls : List Link) → (with_triggers g ls).format ≡ g.format
triggers_format g [] = refl
triggers_format g (l ∷ ls) = triggers_format (with_trigger g l) ls

pub judged_format : (s : SoFar) (last : Last) → IsSoFar s → s.last ≡ Some last → last.judged.format ≡ last_format (last_entry s.last)
judged_format s last r is =
    let judged : last.judged ≡ with_triggers last.entry.graph last.entry.links = subst IsJudged is r.judged in
    ap (λ (g : GraphValue). g.format) judged ∙ (triggers_format last.entry.graph last.entry.links ∙ ap (λ o. last_format (last_entry o)) (sym is))

-- the names of a link by the formats that were looked up
pub named_is : (own named : Format) (s : SoFar) (before : List Entry) (word : List ℕ) (l : Link) → before ≡ s.before.items → word ≡ l.graph → own ≡ last_format (last_entry s.last) → named ≡ format_of before word →
    is_named own named l ≡ is_named (last_format (last_entry s.last)) (format_of s.before.items l.graph) l
named_is own named s before word l b w o n =
    ap (λ f. is_named f named l) o ∙ ap (λ f. is_named (last_format (last_entry s.last)) f l) (n ∙ (ap (λ es. format_of es word) b ∙ ap (format_of s.before.items) w))

pub may_name : (s : SoFar) (last : Option Last) (l : Link) → IsSoFar s → s.last ≡ last → is_named (last_format (last_entry s.last)) (format_of s.before.items l.graph) l ≡ true → IfSome last (λ x. IsTrue (is_name_in x.judged.format l.line))
may_name s None l r is h = tt
may_name s (Some last) l r is h = subst (λ f. is_name_in f l.line ≡ true) (sym (judged_format s last r is)) (and_parts (is_name_in (last_format (last_entry s.last)) l.line) _ h).0

-- so few links that one more is counted
pub few_links : (old : SoFar) (last : Last) → IsSoFar old → old.last ≡ Some last → length last.entry.links < 4294967295
few_links old last r is =
    let was : entries_in old ≡ old.before.items ++ last.entry ∷ [] = entries_are old last is in
    let all : all_lines (entries_in old) ≡ all_lines old.before.items + (length last.entry.graph.lines + length last.entry.links) = ap all_lines was ∙ lines_push old.before.items last.entry in
    let few : all_lines (entries_in old) ≤ 8191 = ltb-false 8191 (all_lines (entries_in old)) (or_parts (nat_lt 8191 (all_lines (entries_in old))) (nat_lt 4194304 (all_cells (entries_in old))) r.short).0 in
    omega arith

-- the line that was cut off, and its words
pub line_at : (rest line after : List ℕ) (ws : List (List ℕ)) → IsCut 10 rest line after → bytes_eq line (codes "close") ≡ false → ws ≡ pieces 32 line → IsLineAt rest ws after
line_at rest line after ws d h e = record {
  there = d.there;
  no_close = ap (λ x. bytes_eq x (codes "close")) (sym d.front_is) ∙ h;
  words_are = ap (pieces 32) (sym d.front_is) ∙ sym e;
  after_is = sym d.back_is;
}

-- the name of the last graph, where no other has it
pub named_last : (s : SoFar) (last : Last) (name : List ℕ) → s.last ≡ Some last → list_any (λ (e : Entry). bytes_eq e.name name) s.before.items ≡ false → list_any (λ (e : Entry). bytes_eq e.name name) (entries_in s) ≡ bytes_eq last.entry.name name
named_last s last name is none =
    ap (list_any (λ (e : Entry). bytes_eq e.name name)) (entries_are s last is)
    ∙ (list_any-append (λ (e : Entry). bytes_eq e.name name) s.before.items (last.entry ∷ [])
    ∙ (ap (λ b. b || (bytes_eq last.entry.name name || false)) none ∙ or_false (bytes_eq last.entry.name name)))
  where
    or_false : (b : Bool) → (b || false) ≡ b
    or_false true = refl
    or_false false = refl

-- behind the first line
pub begin_read : (bytes rest : List ℕ) (s : SoFar) → entries_in s ≡ [] → IsSoFar s → bytes ≡ codes "realm-session 1\n" ++ rest → HasRead bytes s rest 2
begin_read bytes rest s none is e =
    let lines : newlines bytes ≡ 1 + newlines rest = ap newlines e ∙ newlines_append (codes "realm-session 1\n") rest in
    record {
      is_so_far = is;
      begins = subst (λ es. HeadStands bytes es rest) (sym none) (record { behind = rest; begins = e; parts = refl });
      number_is = omega arith;
    }

pub few_cells : (s : SoFar) → IsSoFar s → s.cells ≤ 4194304
few_cells s r =
    let few : all_cells (entries_in s) ≤ 4194304 = ltb-false 4194304 (all_cells (entries_in s)) (or_parts (nat_lt 8191 (all_lines (entries_in s))) (nat_lt 4194304 (all_cells (entries_in s))) r.short).1 in
    let e : s.cells ≡ all_cells (entries_in s) = r.cells in
    omega arith

-- a link can be counted in the last graph
pub may_link : (old : SoFar) (last : Option Last) → IsSoFar old → old.last ≡ last → AllowsLink last
may_link old None r is = tt
may_link old (Some last) r is = few_links old last r is

at_last : (old : SoFar) (last : Option Last) (l : Link) → old.last ≡ last → is_named (last_format (last_entry old.last)) (format_of old.before.items l.graph) l ≡ true → is_named (last_format (last_entry last)) (format_of old.before.items l.graph) l ≡ true
at_last old last l is named = subst (λ o. is_named (last_format (last_entry o)) (format_of old.before.items l.graph) l ≡ true) is named

-- the reasons of a link after whatever graph is the last
pub added_to : (old : SoFar) (last : Option Last) (l : Link) (b : Bool) → IsSoFar old → old.last ≡ last → is_named (last_format (last_entry old.last)) (format_of old.before.items l.graph) l ≡ true → names_op old.before.items l ≡ true → nat_lt old.lines 8191 ≡ b → last_reason old.before.items (last_entry old.last) l ≡ option_map_or (λ (x : Last). added_reason x l b) last (Some why.Unknown)
added_to old None l b r is named names room = ap (λ o. last_reason old.before.items (last_entry o) l) is ∙ no_last old.before.items l (at_last old None l is named)
added_to old (Some last) l b r is named names room = added_is old last l b r is (at_last old (Some last) l is named) names room

-- a link was put to the last graph
pub link_put : (old new : SoFar) (last : Option Last) (l : Link) (b : Bool) → old.last ≡ last → LastAdded last l b new.last → option_map_or (λ (x : Last). added_reason x l b) last (Some why.Unknown) ≡ None
    → new.before.items ≡ old.before.items → new.judged.items ≡ old.judged.items → new.lines ≡ old.lines + 1 → new.cells ≡ old.cells → LinkAdded old l new
link_put old new None l b is a none before judged lines cells = absurd (none-some why.Unknown (sym none))
link_put old new (Some last) l b is a none before judged lines cells =
    let p = a none in
    record { last_old = last; last_new = p.0; was = is; is = p.1; adds = p.2; before = before; judged = judged; lines = lines; cells = cells }

-- the graphs are those of the text where it was read to its end
pub text_of_both : {A V : Type 0} (bytes : List ℕ) (s : SoFar) (r : Result A ReadRefusal) (e : Result V ReadRefusal) (items : V → List Entry) → OnOk r (SessionText bytes (entries_in s)) → IfOk e (λ v. items v ≡ entries_in s)
    → IfOk (result_and r e) (λ v. SessionText bytes (items v))
text_of_both bytes s (Ok x) (Ok v) items text all = subst (SessionText bytes) (sym all) text
text_of_both bytes s (Ok x) (Err w) items text all = tt
text_of_both bytes s (Err w) e items text all = tt

pub refusal_of_both : {A V : Type 0} (bytes : List ℕ) (r : Result A ReadRefusal) (e : Result V ReadRefusal) → IfErr r (IsRefusal bytes) → IfErr e (λ w. w ≡ refusals.NoMemory) → IfErr (result_and r e) (IsRefusal bytes)
refusal_of_both bytes (Ok x) (Ok v) refused wants = tt
refusal_of_both bytes (Ok x) (Err w) refused wants = subst (IsRefusal bytes) (sym wants) tt
refusal_of_both bytes (Err w) e refused wants = refused
