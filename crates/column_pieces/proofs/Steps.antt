-- The evaluation of the graph of pieces takes the steps of the graph, with changes of pieces in place of changes of columns.
use Rattle.std.proofs.Common.{◌≡◌, ℕ, zero, suc, Bool, true, false, cond, not, ◌&&◌, ◌||◌, List, [], ◌∷◌, ◌++◌, length, map, refl, sym, ◌∙◌, ap, subst}
use Rattle.std.specs.Prelude.{Option, Some, None, Contains, option_map, find, filter, flat_map, ◌==◌}
use Rattle.std.specs.Option.{option_map_or}
use Rattle.std.specs.List.{list_any, list_all}
use Rattle.std.proofs.lemmas.List.{map-append}
use Rattle.basics.specs.Lists.{numbers_below}
use Rattle.basics.proofs.ListFacts.{contains_map}
use Rattle.graph_terms.specs.declared.outcome.Verdict.{Verdict}
use Rattle.graph_terms.specs.declared.outcome.Verdict.TheVariants.{Fine, Fault}
use Rattle.graph_terms.specs.declared.outcome.End.{End}
use Rattle.graph_terms.specs.declared.verb.Access.{Access}
use Rattle.graph_terms.specs.declared.verb.Edge.{Edge}
use Rattle.graph_terms.specs.declared.verb.Verb.{Verb}
use Rattle.graph_terms.specs.Graph.{GraphValue, verb_at, never_comes, space_at}
use Rattle.graph_terms.specs.Edges.{edges_into, sources}
use Rattle.graph_terms.specs.Access.{accesses, in_format, verb_accesses}
use Rattle.graph_meaning.specs.Effect.{Cells, zero_cells, CellChange, cells_after, Effect, effect, verb_changes, verb_verdict}
use Rattle.graph_meaning.specs.Evaluation.{Step, end_in, has_ended, cells_of, is_ready, cancels, is_cancelled, end_by, made_by, step_by, step_of, lowest_ready, advance_by, advance, steps_after, evaluation, eval_end}
use Rattle.graph_meaning.proofs.Public.{accesses_are_among_all}
use Rattle.column_pieces.specs.Cut.{Cut, verb_on, IsCut}
use Rattle.column_pieces.proofs.Effects.{SameSpaces, pulled, moved, pulled_after, Within, changes_on, verdict_alike_on}
use Rattle.column_pieces.proofs.Lines.{same_edges, same_number, same_never, verb_is}

module _ (g h : GraphValue) (cut : Cut) (c : IsCut g h cut) where
  -- a change of the piece that has the cell, and a step of such changes
  abbrev pub of_piece : CellChange → CellChange
  of_piece = moved cut.piece cut.column c.cell

  abbrev pub of_column : Cells → Cells
  of_column = pulled cut.piece cut.column c.cell

  abbrev pub on_pieces : Step → Step
  on_pieces s = record { line = s.line; ends = s.ends; changes = map of_piece s.changes }

  -- what is told of steps without their changes
  pub has_on : (ss : List Step) (i : ℕ) → has_ended (map on_pieces ss) i ≡ has_ended ss i
  has_on [] i = refl
  has_on (s ∷ ss) i = ap (λ b. (s.line == i) || b) (has_on ss i)

  pub end_on : (ss : List Step) (i : ℕ) → end_in (map on_pieces ss) i ≡ end_in ss i
  end_on [] i = refl
  end_on (s ∷ ss) i = ap (cond (s.line == i) s.ends) (end_on ss i)

  cancelled_on : (ss : List Step) (i : ℕ) → is_cancelled h (map on_pieces ss) i ≡ is_cancelled g ss i
  cancelled_on ss i =
      ap (λ (es : List Edge). list_any (λ (e : Edge). cancels e.kind (end_in (map on_pieces ss) e.from)) (filter (λ (e : Edge). e.to == i) es)) (same_edges g h cut c)
      ∙ ap (λ (f : ℕ → End). list_any (λ (e : Edge). cancels e.kind (f e.from)) (edges_into g i)) (λ j k. end_on ss k j)

  ready_on : (ss : List Step) (i : ℕ) → is_ready h (map on_pieces ss) i ≡ is_ready g ss i
  ready_on ss i =
      ap (λ (f : ℕ → Bool). not (f i) && (not (never_comes h i) && list_all f (sources h i))) (λ j k. has_on ss k j)
      ∙ (ap (λ b. not (has_ended ss i) && (not b && list_all (has_ended ss) (sources h i))) (same_never g h cut c i)
      ∙ ap (λ (es : List Edge). not (has_ended ss i) && (not (never_comes g i) && list_all (has_ended ss) (map (λ (e : Edge). e.from) (filter (λ (e : Edge). e.to == i) es)))) (same_edges g h cut c))

  lowest_on : (ss : List Step) → lowest_ready h (map on_pieces ss) ≡ lowest_ready g ss
  lowest_on ss =
      ap (λ n. find (is_ready h (map on_pieces ss)) (numbers_below n)) (same_number g h cut c)
      ∙ ap (λ (t : ℕ → Bool). find t (numbers_below (length g.lines))) (λ j k. ready_on ss k j)

  -- the cells
  flat_on : (ss : List Step) → flat_map (λ (s : Step). s.changes) (map on_pieces ss) ≡ map of_piece (flat_map (λ (s : Step). s.changes) ss)
  flat_on [] = refl
  flat_on (s ∷ ss) = ap (λ ys. map of_piece s.changes ++ ys) (flat_on ss) ∙ sym (map-append of_piece s.changes (flat_map (λ (s : Step). s.changes) ss))

  pub cells_on : (ss : List Step) → of_column (cells_of (map on_pieces ss)) ≡ cells_of ss
  cells_on ss =
      ap (λ xs. of_column (cells_after zero_cells xs)) (flat_on ss)
      ∙ pulled_after cut.piece cut.column c.cell zero_cells (flat_map (λ (s : Step). s.changes) ss)

  -- the effect of a line
  listed : (i : ℕ) (o : Option Verb) → verb_at g i ≡ o → (a : Access) → Contains (option_map_or verb_accesses o []) a → Contains (accesses g i) (in_format g.format a)
  listed i o e a k = contains_map (in_format g.format) (option_map_or verb_accesses (verb_at g i) []) a (subst (λ x. Contains (option_map_or verb_accesses x []) a) (sym e) k)

  spaces_alike : (i : ℕ) (o : Option Verb) → verb_at g i ≡ o → SameSpaces (space_at h) (space_at g) (option_map_or verb_accesses o [])
  spaces_alike i o e a k = c.spaces i (in_format g.format a) (accesses_are_among_all g i (in_format g.format a) (listed i o e a k))

  within : (i : ℕ) (o : Option Verb) → verb_at g i ≡ o → Within cut.piece cut.column c.cell (cut.named i) (c.use_of i) (space_at h) (space_at g) (option_map_or verb_accesses o [])
  within i o e a p k has = c.within i (in_format g.format a) p (listed i o e a k) has

  changes_by : (i : ℕ) (cells : Cells) (o : Option Verb) → verb_at g i ≡ o →
      option_map_or (verb_changes (space_at h) cells) (option_map (verb_on (cut.named i)) o) [] ≡ map of_piece (option_map_or (verb_changes (space_at g) (of_column cells)) o [])
  changes_by i cells None e = refl
  changes_by i cells (Some v) e = changes_on cut.piece cut.column c.cell (cut.named i) (c.use_of i) (space_at h) (space_at g) cells v (spaces_alike i (Some v) e) (within i (Some v) e)

  verdict_by : (i : ℕ) (cells : Cells) (o : Option Verb) → verb_at g i ≡ o →
      option_map_or (verb_verdict (space_at h) cells) (option_map (verb_on (cut.named i)) o) Fine ≡ option_map_or (verb_verdict (space_at g) (of_column cells)) o Fine
  verdict_by i cells None e = refl
  verdict_by i cells (Some v) e = verdict_alike_on cut.piece cut.column c.cell (cut.named i) (c.use_of i) (space_at h) (space_at g) cells v (spaces_alike i (Some v) e) (within i (Some v) e)

  same_changes : (i : ℕ) (cells : Cells) → (effect h i cells).changes ≡ map of_piece (effect g i (of_column cells)).changes
  same_changes i cells = ap (λ o. option_map_or (verb_changes (space_at h) cells) o []) (verb_is g h cut c i) ∙ changes_by i cells (verb_at g i) refl

  same_verdict : (i : ℕ) (cells : Cells) → (effect h i cells).verdict ≡ (effect g i (of_column cells)).verdict
  same_verdict i cells = ap (λ o. option_map_or (verb_verdict (space_at h) cells) o Fine) (verb_is g h cut c i) ∙ verdict_by i cells (verb_at g i) refl

  -- a step
  made_on : (v : Verdict) (xs : List CellChange) → made_by v (map of_piece xs) ≡ map of_piece (made_by v xs)
  made_on Fine xs = refl
  made_on Fault xs = refl

  abbrev stepped : ℕ → End → List CellChange → Step
  stepped i x xs = record { line = i; ends = x; changes = xs }

  same_step : (i : ℕ) {x y : End} {xs ys : List CellChange} → x ≡ y → xs ≡ ys → stepped i x xs ≡ stepped i y ys
  same_step i p q = cc

  step_by_on : (i : ℕ) (b : Bool) (e f : Effect) → f.verdict ≡ e.verdict → f.changes ≡ map of_piece e.changes → step_by i b f ≡ on_pieces (step_by i b e)
  step_by_on i true e f v xs = refl
  step_by_on i false e f v xs = same_step i (ap end_by v) (ap (λ w. made_by w f.changes) v ∙ (ap (made_by e.verdict) xs ∙ made_on e.verdict e.changes))

  step_on : (ss : List Step) (i : ℕ) → step_of h (map on_pieces ss) i ≡ on_pieces (step_of g ss i)
  step_on ss i =
      step_by_on i (is_cancelled h (map on_pieces ss) i) (effect g i (of_column (cells_of (map on_pieces ss)))) (effect h i (cells_of (map on_pieces ss)))
      (same_verdict i (cells_of (map on_pieces ss))) (same_changes i (cells_of (map on_pieces ss)))
      ∙ (ap (λ b. on_pieces (step_by i b (effect g i (of_column (cells_of (map on_pieces ss)))))) (cancelled_on ss i)
      ∙ ap (λ cells. on_pieces (step_by i (is_cancelled g ss i) (effect g i cells))) (cells_on ss))

  advance_by_on : (ss : List Step) (o : Option ℕ) → advance_by h (map on_pieces ss) o ≡ map on_pieces (advance_by g ss o)
  advance_by_on ss None = refl
  advance_by_on ss (Some i) = ap (λ s. map on_pieces ss ++ s ∷ []) (step_on ss i) ∙ sym (map-append on_pieces ss (step_of g ss i ∷ []))

  steps_on : (n : ℕ) → steps_after h n ≡ map on_pieces (steps_after g n)
  steps_on zero = refl
  steps_on (suc n) =
      ap (advance h) (steps_on n)
      ∙ (ap (advance_by h (map on_pieces (steps_after g n))) (lowest_on (steps_after g n))
      ∙ advance_by_on (steps_after g n) (lowest_ready g (steps_after g n)))

  pub evaluation_on : evaluation h ≡ map on_pieces (evaluation g)
  evaluation_on = ap (steps_after h) (same_number g h cut c) ∙ steps_on (length g.lines)

  pub same_end : (i : ℕ) → eval_end h i ≡ eval_end g i
  same_end i = ap (λ ss. end_in ss i) evaluation_on ∙ end_on (evaluation g) i
