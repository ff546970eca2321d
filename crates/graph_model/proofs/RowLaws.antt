-- The edges and the rows of a graph with one more line.
use Rattle.std.proofs.Common.{◌≡◌, ℕ, ◌+◌, ◌*◌, zero-add, ◌<◌, ◌≤◌, Bool, true, false, cond, ◌||◌, List, [], ◌∷◌, ◌++◌, length, refl, sym, ◌∙◌, ap, subst, length-append, arith, get_or}
use Rattle.std.specs.Prelude.{◌==◌, Contains, filter, None, nat_lt}
use Rattle.std.proofs.lemmas.Bool.{or_parts, ltb-false}
use Rattle.std.proofs.lemmas.Option.{slice_get-get_or}
use Rattle.std.specs.List.{list_any}
use Rattle.std.proofs.lemmas.List.Elements.{filter-append, Contains-append_left}
use Rattle.std.proofs.lemmas.List.Folds.{list_any-append}
use Rattle.std.proofs.lemmas.List.Sums.{sum_by-append, sum_by-le}
use Rattle.graph_terms.specs.declared.format.Format.{Format}
use Rattle.graph_terms.specs.declared.format.Format.TheVariants.{One}
use Rattle.graph_terms.specs.declared.decl.Decl.{Decl}
use Rattle.graph_indexes.specs.declared.mark.Mark.{Mark}
use Rattle.graph_indexes.specs.declared.side.Side.TheVariants.{From, To}
use Rattle.graph_terms.specs.declared.verb.Edge.{Edge}
use Rattle.graph_terms.specs.declared.verb.Line.{Line}
use Rattle.graph_terms.specs.declared.verb.Verb.{Verb}
use Rattle.graph_terms.specs.declared.verb.Verb.TheVariants.{Trigger, Cancel, Arrive, Release}
use Rattle.graph_terms.specs.Graph.{GraphValue, ends_user, is_release_of, arrival_weight, arrivals}
use Rattle.graph_terms.specs.Edges.{line_edges, edges, edges_into, edges_out_of}
use Rattle.graph_terms.specs.Fits.{named_lines, most_weight, verb_misnumbered, line_tests, line_fault, with_decl, with_line, IsGraph}
use Rattle.graph_indexes.specs.Rows.{RowsValue, NamesBelow, EndsBelow, mark_after, mark_of, AddsRow, AreRowsOf}
use Rattle.graph_terms.specs.declared.why.Why.TheVariants as why
use Rattle.graph_terms.proofs.Public.{none_first, named_below, line_ends, fit_at, edges_push, arrive_names}
use Rattle.basics.proofs.ListFacts.{contains_here}

into_push : (g : GraphValue) (l : Line) (i : ℕ) → edges_into (with_line g l) i ≡ edges_into g i ++ filter (λ e. e.to == i) (line_edges g.lines l)
into_push g l i = ap (filter (λ (e : Edge). e.to == i)) (edges_push g l) ∙ filter-append (λ (e : Edge). e.to == i) (edges g) (line_edges g.lines l)

from_push : (g : GraphValue) (l : Line) (i : ℕ) → edges_out_of (with_line g l) i ≡ edges_out_of g i ++ filter (λ e. e.from == i) (line_edges g.lines l)
from_push g l i = ap (filter (λ (e : Edge). e.from == i)) (edges_push g l) ∙ filter-append (λ (e : Edge). e.from == i) (edges g) (line_edges g.lines l)

any_push : (t : Line → Bool) (ls : List Line) (l : Line) → list_any t (ls ++ l ∷ []) ≡ (list_any t ls || t l)
any_push t ls l = list_any-append t ls (l ∷ []) ∙ ap (λ b. list_any t ls || b) (last (t l))
  where
    last : (b : Bool) → (b || false) ≡ b
    last true = refl
    last false = refl

abbrev mark_value : ℕ → Bool → Bool → Mark
mark_value n e r = record { arrivals = n; ended = e; released = r }

same_mark : (n n' : ℕ) (e e' r r' : Bool) → n ≡ n' → e ≡ e' → r ≡ r' → mark_value n e r ≡ mark_value n' e' r'
same_mark n n' e e' r r' p q s = ap (λ x. mark_value x e r) p ∙ (ap (λ x. mark_value n' x r) q ∙ ap (λ x. mark_value n' e' x) s)

mark_push : (g : GraphValue) (l : Line) (i : ℕ) → mark_of (with_line g l) i ≡ mark_after (mark_of g i) i l.verb
mark_push g l i = same_mark _ _ _ _ _ _
    (sum_by-append (λ (x : Line). arrival_weight i x.verb) g.lines (l ∷ []) ∙ ap (λ n. arrivals g i + n) (zero-add (arrival_weight i l.verb)))
    (any_push (λ (x : Line). ends_user i x.verb) g.lines l)
    (any_push (λ (x : Line). is_release_of i x.verb) g.lines l)

-- the rows of a graph with one more line
pub rows_push : (g : GraphValue) (l : Line) (old new : RowsValue) → AreRowsOf g old → AddsRow old new l.verb (line_edges g.lines l) → AreRowsOf (with_line g l) new
rows_push g l old new a h =
    let more : length (g.lines ++ l ∷ []) ≡ length g.lines + 1 = length-append g.lines (l ∷ []) in
    record {
      into_count = h.into_count ∙ (ap (λ n. n + 1) a.into_count ∙ sym more);
      from_count = h.from_count ∙ (ap (λ n. n + 1) a.from_count ∙ sym more);
      mark_count = h.mark_count ∙ (ap (λ n. n + 1) a.mark_count ∙ sym more);
      into = λ i. h.into i ∙ (ap (λ es. es ++ filter (λ (e : Edge). e.to == i) (line_edges g.lines l)) (a.into i) ∙ sym (into_push g l i));
      from = λ i. h.from i ∙ (ap (λ es. es ++ filter (λ (e : Edge). e.from == i) (line_edges g.lines l)) (a.from i) ∙ sym (from_push g l i));
      mark = λ i. h.mark i ∙ (ap (λ m. mark_after m i l.verb) (a.mark i) ∙ sym (mark_push g l i));
    }

-- one more declaration changes no row
pub rows_decl : (g : GraphValue) (d : Decl) (rows : RowsValue) → AreRowsOf g rows → AreRowsOf (with_decl g d) rows
rows_decl g d rows a = record { into_count = a.into_count; from_count = a.from_count; mark_count = a.mark_count; into = a.into; from = a.from; mark = a.mark }

-- what the rows ask of a line that fits
pub from_below : (g : GraphValue) (l : Line) → line_fault g l ≡ None → EndsBelow From (line_edges g.lines l) (length g.lines + 1)
from_below g l h = record { below = λ e c. (let b : e.from ≤ length g.lines = (line_ends g.format g.decls g.lines l h e c).0 in omega arith) }

pub to_below : (g : GraphValue) (l : Line) → line_fault g l ≡ None → EndsBelow To (line_edges g.lines l) (length g.lines + 1)
to_below g l h = record { below = λ e c. (let b : e.to ≤ length g.lines = (line_ends g.format g.decls g.lines l h e c).1 in omega arith) }

names_below_by : (v : Verb) (n : ℕ) → ((k : ℕ) → Contains (named_lines v) k → k < n) → NamesBelow n v
names_below_by (Trigger u) n h = h u (contains_here u [])
names_below_by (Cancel u) n h = h u (contains_here u [])
names_below_by (Arrive p v w) n h = h p (subst (λ ks. Contains ks p) (sym (arrive_names p v w)) (contains_here p []))
names_below_by (Release q) n h = h q (contains_here q [])
names_below_by v n h = tt

pub names_below : (g : GraphValue) (l : Line) → line_fault g l ≡ None → NamesBelow (length g.lines) l.verb
names_below g l h = names_below_by l.verb (length g.lines) (λ k c. named_below g l h k (Contains-append_left (named_lines l.verb) l.on k c))

all_or_none : (b : Bool) (w : ℕ) → w ≤ 65536 → cond b w 0 ≤ 65536
all_or_none true w h = h
all_or_none false w h = omega arith

most_few : (f : Format) → most_weight f ≤ 65536
most_few One = omega arith
most_few f = omega arith

-- an arrival that fits counts for no more than a barrier may ask for
weight_few : (f : Format) (p : ℕ) (v : Verb) → verb_misnumbered f v ≡ false → arrival_weight p v ≤ 65536
weight_few f p (Arrive q v w) h =
    let most : w ≤ most_weight f = ltb-false (most_weight f) w (or_parts (nat_lt w 1) (nat_lt (most_weight f) w) h).1 in
    let few : most_weight f ≤ 65536 = most_few f in
    all_or_none (q == p) w (omega arith)
weight_few f p v h = omega arith

pub line_weight_few : (g : GraphValue) (l : Line) (p : ℕ) → line_fault g l ≡ None → arrival_weight p l.verb ≤ 65536
line_weight_few g l p h = weight_few g.format p l.verb (none_first (line_tests g l) h (verb_misnumbered g.format l.verb, why.Number) (3, omega arith, refl))

-- what the arrivals at a line count for is bounded
pub few_arrivals : (g : GraphValue) → IsGraph g → (p : ℕ) → arrivals g p ≤ length g.lines * 65536
few_arrivals g f p = sum_by-le (λ (l : Line). arrival_weight p l.verb) 65536 g.lines (λ k d below.
    let fit = fit_at g.format g.decls [] g.lines f.lines k (get_or g.lines k d) (slice_get-get_or g.lines k d below) in
    line_weight_few (record { format = g.format; decls = g.decls; lines = fit.0 }) (get_or g.lines k d) p fit.1)
