-- The order of the evaluation lists the lines that end, each once and after its sources.
use Rattle.std.proofs.Common.{◌≡◌, ℕ, zero, suc, ◌<◌, true, inl, inr, List, [], ◌∷◌, length, map, refl, sym, ◌∙◌, ap, subst, arith}
use Rattle.std.specs.Prelude.{Contains, Some, IsTrue, ◌==◌, slice_get, ◌↔◌}
use Rattle.std.proofs.lemmas.Bool.{true≢false, eq-eqb, eqb-true, true_from_ne_false}
use Rattle.std.proofs.lemmas.Option.{none-some, same_Some}
use Rattle.graph_terms.specs.declared.verb.Edge.{Edge}
use Rattle.graph_terms.specs.Graph.{GraphValue}
use Rattle.graph_terms.specs.Edges.{edges}
use Rattle.graph_meaning.specs.Effect.{Cells, zero_cells, Effects, effect}
use Rattle.graph_meaning.specs.Evaluation.{Step, has_ended, end_with, eval_end, is_ended, evaluation_with, order_with, order}
use Rattle.basics.proofs.ListFacts.{got_contains, got_in, got_behind, contains_none, contains_cases, some_passes, passes_some, map_contains, contains_map}
use Rattle.graph_meaning.proofs.Waiting.{end_in_left, end_in_ended, steps_end_with}
use Rattle.graph_meaning.proofs.Turns.{turns_with}
use Rattle.graph_meaning.proofs.Confluence.{Fresh, steps_fresh, order_round}
use Rattle.graph_meaning.specs.Laws.{OrderListsEnded, OrderListsEndedWith}
use Rattle.graph_meaning.specs.Trace.{StandsBefore}

-- the lines of steps
abbrev lines_of : List Step → List ℕ
lines_of ss = map (λ (s : Step). s.line) ss

listed_ended : (ss : List Step) (i : ℕ) → Contains (lines_of ss) i → has_ended ss i ≡ true
listed_ended ss i c = let m = map_contains (λ (s : Step). s.line) ss i c in passes_some (λ (s : Step). s.line == i) ss m.0 m.1 (eq-eqb m.0.line i m.2)

ended_listed : (ss : List Step) (i : ℕ) → has_ended ss i ≡ true → Contains (lines_of ss) i
ended_listed ss i h = let s = some_passes (λ (s : Step). s.line == i) ss h in subst (λ k. Contains (lines_of ss) k) (eqb-true s.0.line i s.2) (contains_map (λ (s : Step). s.line) ss s.0 s.1)

pub listed_iff_ended_with : (does : Effects) (first : Cells) (g : GraphValue) (i : ℕ) → Contains (order_with does first g) i ↔ IsTrue (is_ended (end_with does first g i))
listed_iff_ended_with does first g i = (
  λ c. end_in_ended (evaluation_with does first g) i (steps_end_with does first g (length g.lines)) (listed_ended (evaluation_with does first g) i c),
  λ h. ended_listed (evaluation_with does first g) i (true_from_ne_false (has_ended (evaluation_with does first g) i) (λ f. true≢false (sym h ∙ ap is_ended (end_in_left (evaluation_with does first g) i f)))),
)

-- a listed item has a place
listed_is_got : (xs : List ℕ) (i : ℕ) → Contains xs i → (k : ℕ) × (k < length xs) × (slice_get xs k ≡ Some i)
listed_is_got [] i c = absurd (contains_none i c)
listed_is_got (x ∷ xs) i c = elim (contains_cases x xs i c) [
  | inl e ↦ (0, omega arith, ap Some e)
  | inr r ↦ (let g = listed_is_got xs i r in (suc g.0, (let h : g.0 < length xs = g.1 in omega arith), g.2))
]

once_in : (ss : List Step) → Fresh ss → (k m i : ℕ) → slice_get (lines_of ss) k ≡ Some i → slice_get (lines_of ss) m ≡ Some i → k ≡ m
once_in [] f k m i hk hm = absurd (none-some i hk)
once_in (s ∷ ss) f zero zero i hk hm = refl
once_in (s ∷ ss) f zero (suc m) i hk hm = absurd (true≢false (sym (listed_ended ss i (got_contains (lines_of ss) m i hm)) ∙ (ap (has_ended ss) (sym (same_Some s.line i hk)) ∙ f.0)))
once_in (s ∷ ss) f (suc k) zero i hk hm = absurd (true≢false (sym (listed_ended ss i (got_contains (lines_of ss) k i hk)) ∙ (ap (has_ended ss) (sym (same_Some s.line i hm)) ∙ f.0)))
once_in (s ∷ ss) f (suc k) (suc m) i hk hm = ap suc (once_in ss f.1 k m i hk hm)

-- each source of a line stands before it
pub source_before : (does : Effects) (first : Cells) (g : GraphValue) (e : Edge) → Contains (edges g) e → Contains (order_with does first g) e.to → StandsBefore (order_with does first g) e.from e.to
source_before does first g e c to =
    let t = turns_with does first g (length g.lines) e.to (listed_ended (evaluation_with does first g) e.to to) in
    let there : Contains (lines_of t.0) e.from = ended_listed t.0 e.from (t.1.ready.sources e c refl) in
    let k = listed_is_got (lines_of t.0) e.from there in
    subst (λ xs. StandsBefore xs e.from e.to) (sym (order_round does first g e.to t.0 t.1))
    (k.0, length (lines_of t.0), got_in (lines_of t.0) (e.to ∷ lines_of t.1.after) k.0 e.from k.2, got_behind (lines_of t.0) e.to (lines_of t.1.after), k.1)

pub order_lists_ended_with : OrderListsEndedWith
order_lists_ended_with does first g = record {
  ended = listed_iff_ended_with does first g;
  once = once_in (evaluation_with does first g) (steps_fresh does first g (length g.lines));
  sources = λ e c to. source_before does first g e c to;
}

-- the same with the effects of the graph's verbs, and cells of 0
pub listed_iff_ended : (g : GraphValue) (i : ℕ) → Contains (order g) i ↔ IsTrue (is_ended (eval_end g i))
listed_iff_ended g i = listed_iff_ended_with (effect g) zero_cells g i

pub order_lists_ended : OrderListsEnded
order_lists_ended g = order_lists_ended_with (effect g) zero_cells g
