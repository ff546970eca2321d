-- Graphs and links that are put at the end: they fit, and what their lines and their cells are.
use Rattle.std.proofs.Common.{◌≡◌, ℕ, ◌+◌, false, List, [], ◌∷◌, ◌++◌, length, refl, sym, ◌∙◌, subst, append_assoc, append-nil, length-append, arith}
use Rattle.std.specs.Prelude.{None}
use Rattle.std.proofs.lemmas.List.Sums.{sum_by_push}
use Rattle.graph_terms.specs.Graph.{GraphValue}
use Rattle.graph_terms.specs.Fits.{IsGraph, cell_count}
use Rattle.session_text.specs.declared.entry.Link.{Link}
use Rattle.session_text.specs.declared.entry.Entry.{Entry}
use Rattle.session_text.specs.Fits.{with_trigger, with_triggers, entry_lines, all_lines, all_cells, is_large, graph_reason, link_reason, with_link, bare_entry, LinksFit, EntryFits, EntriesFit, AreEntries}

-- an entry with these links behind its own
abbrev pub with_links : Entry → List Link → Entry
with_links e ls = record { name = e.name; graph = e.graph; links = e.links ++ ls }

links_push : (before : List Entry) (e : Entry) (ls : List Link) (l : Link) → LinksFit before e ls → link_reason before (with_links e ls) l ≡ None → LinksFit before e (ls ++ l ∷ [])
links_push before e [] l h f = (subst (λ (ks : List Link). link_reason before (record { name = e.name; graph = e.graph; links = ks }) l ≡ None) (append-nil e.links) f, tt)
links_push before e (k ∷ ls) l h f =
    (h.0, links_push before (with_link e k) ls l h.1 (subst (λ (ks : List Link). link_reason before (record { name = e.name; graph = e.graph; links = ks }) l ≡ None) (sym (append_assoc e.links (k ∷ []) ls)) f))

-- a link that fits after a graph which fits
pub link_fits : (before : List Entry) (e : Entry) (l : Link) → EntryFits before e → link_reason before e l ≡ None → EntryFits before (with_link e l)
link_fits before e l f h = record { named = f.named; is_graph = f.is_graph; short = f.short; links = links_push before (bare_entry e.name e.graph) e.links l f.links h }

-- a graph that fits after others
entries_push : (before es : List Entry) (e : Entry) → EntriesFit before es → EntryFits (before ++ es) e → EntriesFit before (es ++ e ∷ [])
entries_push before [] e h f = (subst (λ (x : List Entry). EntryFits x e) (append-nil before) f, tt)
entries_push before (d ∷ es) e h f = (h.0, entries_push (before ++ d ∷ []) es e h.1 (subst (λ (x : List Entry). EntryFits x e) (sym (append_assoc before (d ∷ []) es)) f))

pub push_entry : (es : List Entry) (e : Entry) → AreEntries es → EntryFits es e → AreEntries (es ++ e ∷ [])
push_entry es e h f = entries_push [] es e h f

-- the last of graphs that fit, and those before it
entries_last : (front before : List Entry) (e : Entry) → EntriesFit front (before ++ e ∷ []) → EntriesFit front before × EntryFits (front ++ before) e
entries_last front [] e h = (tt, subst (λ (x : List Entry). EntryFits x e) (sym (append-nil front)) h.0)
entries_last front (d ∷ es) e h =
    let r = entries_last (front ++ d ∷ []) es e h.1 in
    ((h.0, r.0), subst (λ (x : List Entry). EntryFits x e) (append_assoc front (d ∷ []) es) r.1)

pub last_fits : (before : List Entry) (e : Entry) → AreEntries (before ++ e ∷ []) → AreEntries before × EntryFits before e
last_fits before e h = entries_last [] before e h

pub bare_fits : (es : List Entry) (name : List ℕ) (g : GraphValue) → graph_reason es name ≡ None → IsGraph g → is_large (es ++ bare_entry name g ∷ []) ≡ false → EntryFits es (bare_entry name g)
bare_fits es name g n f s = record { named = n; is_graph = f; short = s; links = tt }

-- one trigger more
pub triggers_push : (g : GraphValue) (ls : List Link) (l : Link) → with_triggers g (ls ++ l ∷ []) ≡ with_trigger (with_triggers g ls) l
triggers_push g [] l = refl
triggers_push g (k ∷ ls) l = triggers_push (with_trigger g k) ls l

-- one graph more: lines and cells
pub lines_push : (es : List Entry) (e : Entry) → all_lines (es ++ e ∷ []) ≡ all_lines es + entry_lines e
lines_push es e = sum_by_push entry_lines es e

pub cells_push : (es : List Entry) (e : Entry) → all_cells (es ++ e ∷ []) ≡ all_cells es + cell_count e.graph
cells_push es e = sum_by_push (λ (x : Entry). cell_count x.graph) es e

-- one link more
pub lines_link : (before : List Entry) (e : Entry) (l : Link) → all_lines (before ++ with_link e l ∷ []) ≡ all_lines (before ++ e ∷ []) + 1
lines_link before e l =
    let a : all_lines (before ++ with_link e l ∷ []) ≡ all_lines before + entry_lines (with_link e l) = lines_push before (with_link e l) in
    let b : all_lines (before ++ e ∷ []) ≡ all_lines before + entry_lines e = lines_push before e in
    let n : length (e.links ++ l ∷ []) ≡ length e.links + 1 = length-append e.links (l ∷ []) in
    omega arith

pub cells_link : (before : List Entry) (e : Entry) (l : Link) → all_cells (before ++ with_link e l ∷ []) ≡ all_cells (before ++ e ∷ [])
cells_link before e l = cells_push before (with_link e l) ∙ sym (cells_push before e)
