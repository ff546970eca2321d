-- How many lines each graph has after one graph more was recorded.
use Rattle.std.proofs.Common.{◌≡◌, ℕ, zero, suc, ◌+◌, ◌≤◌, List, [], ◌∷◌, ◌++◌, length, map, sym, refl, ap, ◌∙◌, subst, arith, Result, Ok, Err}
use Rattle.std.specs.Prelude.{slice_index_or, IfOk, OnOk, OnErr}
use Rattle.std.proofs.lemmas.List.{length-append, length-map}
use Rattle.graph_terms.specs.declared.outcome.End.{End}
use Rattle.realm_session.specs.declared.line.Line.{Line}
use Rattle.realm_session.specs.declared.refusal.RecordRefusal.{RecordRefusal}
use Rattle.realm_session.specs.Recorded.{RecordedGraphs, Adds, graph_at, end_in}

last_graph : (gs : List (List Line)) (new : List Line) → slice_index_or (gs ++ new ∷ []) (length gs) [] ≡ new
last_graph [] new = refl
last_graph (y ∷ gs) new = last_graph gs new

no_shorter : (gs : List (List Line)) (new : List Line) (k : ℕ) → length (slice_index_or gs k []) ≤ length (slice_index_or (gs ++ new ∷ []) k [])
no_shorter [] new k = omega arith
no_shorter (y ∷ gs) new zero = omega arith
no_shorter (y ∷ gs) new (suc k) = no_shorter gs new k

module _ (r after : RecordedGraphs) (ends : List End) where
  lines_here : Adds r after ends → length ends ≤ length (graph_at after (length r.graphs))
  lines_here a =
      let here : graph_at after (length r.graphs) ≡ a.lines = ap (λ gs. slice_index_or gs (length r.graphs) []) a.added ∙ last_graph r.graphs a.lines in
      let ended : length a.lines ≡ length ends = sym (length-map a.lines end_in) ∙ ap length a.ended in
      omega (arith, ap length here, ended)

  pub lines_of_number : (result : Result ℕ RecordRefusal) → IfOk result (λ g. g ≡ length r.graphs) → OnOk result (Adds r after ends) → IfOk result (λ g. length ends ≤ length (graph_at after g))
  lines_of_number (Ok g) number a = subst (λ i. length ends ≤ length (graph_at after i)) (sym number) (lines_here a)
  lines_of_number (Err e) number a = tt

  pub lines_kept : (result : Result ℕ RecordRefusal) → OnOk result (Adds r after ends) → OnErr result (after ≡ r) → (g : ℕ) → length (graph_at r g) ≤ length (graph_at after g)
  lines_kept (Ok n) a same g = subst (λ gs. length (graph_at r g) ≤ length (slice_index_or gs g [])) (sym a.added) (no_shorter r.graphs a.lines g)
  lines_kept (Err e) a same g = omega (arith, ap (λ (o : RecordedGraphs). length (graph_at o g)) same)

  pub one_more : (result : Result ℕ RecordRefusal) → OnOk result (Adds r after ends) → OnErr result (after ≡ r) → length after.graphs ≤ length r.graphs + 1
  one_more (Ok n) a same = omega (arith, ap length a.added, length-append r.graphs (a.lines ∷ []))
  one_more (Err e) a same = omega (arith, ap (λ (o : RecordedGraphs). length o.graphs) same)
