-- The outcome of the graph of pieces, put together.
use Rattle.std.proofs.Common.{◌≡◌, ℕ, zero, suc, ◌+◌, ◌<◌, ◌≤◌, Bool, true, false, inl, inr, List, [], ◌∷◌, ◌++◌, length, map, refl, sym, ◌∙◌, ap, subst, arith}
use Rattle.std.specs.Prelude.{Option, Some, None, Contains, option_map, slice_get, flat_map}
use Rattle.std.specs.Option.{option_map_or}
use Rattle.std.specs.List.{slice_index_or}
use Rattle.std.proofs.lemmas.Bool.{cases_lt, and_parts, eqb-true, false_from_ne_true}
use Rattle.std.proofs.lemmas.Option.{slice_get-get_or, slice_get_past}
use Rattle.std.proofs.lemmas.List.{get_or-map}
use Rattle.std.proofs.lemmas.List.Elements.{Contains-append_cases}
use Rattle.std.proofs.lemmas.List.FromFn.{get_or-map-range_with_len, length-map-range_with_len}
use Rattle.std.proofs.lemmas.Grind.{flat_map-append}
use Rattle.basics.specs.Lists.{numbers_below}
use Rattle.basics.proofs.ListFacts.{contains_none}
use Rattle.index_spaces.specs.Space.{has_point, points, rank, IsSpace}
use Rattle.index_spaces.specs.Column.{ColumnValue, cell_of}
use Rattle.index_spaces.proofs.Public.{point_of_rank}
use Rattle.graph_terms.specs.declared.outcome.Answer.{Answer}
use Rattle.graph_terms.specs.declared.outcome.End.{End}
use Rattle.graph_terms.specs.declared.outcome.End.TheVariants.{Done}
use Rattle.graph_terms.specs.declared.outcome.Outcome.{Outcome}
use Rattle.graph_terms.specs.declared.outcome.Verdict.{Verdict}
use Rattle.graph_terms.specs.declared.outcome.Verdict.TheVariants.{Fine, Fault}
use Rattle.graph_terms.specs.declared.verb.Verb.{Verb}
use Rattle.graph_terms.specs.declared.verb.Verb.TheVariants.{Phase}
use Rattle.graph_terms.specs.declared.decl.ColumnInfo.{ColumnInfo}
use Rattle.graph_terms.specs.Fits.{IsGraph}
use Rattle.graph_terms.specs.Graph.{GraphValue, verb_at, columns, column_space, space_at}
use Rattle.graph_terms.proofs.Public.{space_is, column_space_known}
use Rattle.graph_meaning.specs.Effect.{Cells, zero_cells, CellChange, Effect, effect, touches}
use Rattle.graph_meaning.specs.Evaluation.{Step, cells_of, made_by, step_by, step_of, is_cancelled, lowest_ready, advance_by, steps_after, evaluation, eval_end, column_of, answer_of, phase_value_by, phase_value, outcome}
use Rattle.graph_meaning.specs.Laws.{ChangesWithinAccesses}
use Rattle.graph_meaning.proofs.Public.{accesses_fit, cells_after_untouched}
use Rattle.column_pieces.specs.Cut.{Cut, verb_on, IsCut}
use Rattle.column_pieces.specs.Joined.{joined_cell, joined_column, joined}
use Rattle.column_pieces.specs.Laws.{OutcomeOfPieces}
use Rattle.column_pieces.proofs.Lines.{same_number, verb_is, same_values}
use Rattle.column_pieces.proofs.Steps.{cells_on, evaluation_on, same_end}

-- CHANGES ARE OF COLUMNS OF THE GRAPH
module _ (h : GraphValue) (fits : IsGraph h) (kept : ChangesWithinAccesses) where
  abbrev OfColumns : List CellChange → Type 0
  OfColumns xs = (x : CellChange) → Contains xs x → x.column < length (columns h)

  of_effect : (i : ℕ) (cells : Cells) → OfColumns (effect h i cells).changes
  of_effect i cells x k =
      let w = kept h i cells x k in
      let f = accesses_fit h i w.access fits w.listed in
      subst (λ n. n < length (columns h)) w.column f.column

  of_made : (v : Verdict) (xs : List CellChange) → OfColumns xs → OfColumns (made_by v xs)
  of_made Fine xs all = all
  of_made Fault xs all = λ x k. absurd (contains_none x k)

  of_step : (i : ℕ) (b : Bool) (e : Effect) → OfColumns e.changes → OfColumns (step_by i b e).changes
  of_step i true e all = λ x k. absurd (contains_none x k)
  of_step i false e all = of_made e.verdict e.changes all

  of_advance : (ss : List Step) (o : Option ℕ) → OfColumns (flat_map (λ (s : Step). s.changes) ss) → OfColumns (flat_map (λ (s : Step). s.changes) (advance_by h ss o))
  of_advance ss None all = all
  of_advance ss (Some i) all = λ x k.
      let split : Contains (flat_map (λ (s : Step). s.changes) ss ++ flat_map (λ (s : Step). s.changes) (step_of h ss i ∷ [])) x = subst (λ xs. Contains xs x) (flat_map-append (λ (s : Step). s.changes) ss (step_of h ss i ∷ [])) k in
      elim (Contains-append_cases _ _ x split) [
        | inl before ↦ all x before
        | inr last ↦ elim (Contains-append_cases (step_of h ss i).changes [] x last) [
          | inl here ↦ of_step i (is_cancelled h ss i) (effect h i (cells_of ss)) (of_effect i (cells_of ss)) x here
          | inr none ↦ absurd (contains_none x none)
        ]
      ]

  of_steps : (n : ℕ) → OfColumns (flat_map (λ (s : Step). s.changes) (steps_after h n))
  of_steps zero = λ x k. absurd (contains_none x k)
  of_steps (suc n) = of_advance (steps_after h n) (lowest_ready h (steps_after h n)) (of_steps n)

  -- so the cells of no column stay 0
  left_zero : (c p : ℕ) → length (columns h) ≤ c → cells_of (evaluation h) c p ≡ 0
  left_zero c p past = cells_after_untouched zero_cells (flat_map (λ (s : Step). s.changes) (evaluation h)) c p (λ x k. false_from_ne_true (touches c p x) (λ t.
      let same : c ≡ x.column = eqb-true c x.column (and_parts _ _ t).0 in
      let below : x.column < length (columns h) = of_steps (length h.lines) x k in
      omega arith))

  space_of_column : (c : ℕ) → c < length (columns h) → IsSpace (column_space h c)
  space_of_column c below =
      let none : ColumnInfo = record { inst = []; field = []; space = 0 } in
      let x = slice_index_or (columns h) c none in
      let at : slice_get (columns h) c ≡ Some x = slice_get-get_or (columns h) c none below in
      let same : space_at h x.space ≡ column_space h c = sym (ap (λ (o : Option ColumnInfo). option_map_or (λ (y : ColumnInfo). space_at h y.space) o []) at) in
      subst IsSpace same (space_is h fits x.space (column_space_known h fits c x at))

-- the cell at a point of a column, as the column of a graph has it
cell_at : (g : GraphValue) (cells : Cells) (c p : ℕ) → IsSpace (column_space g c) → has_point (column_space g c) p ≡ true → cell_of (column_of g cells c) p ≡ cells c p
cell_at g cells c p space has =
    let r = point_of_rank (column_space g c) p space has in
    get_or-map (cells c) (points (column_space g c)) (rank (column_space g c) p) 0 0 r.0 ∙ ap (cells c) r.1

column_got : (g : GraphValue) (cells : Cells) (m k : ℕ) → k < m → slice_get (map (column_of g cells) (numbers_below m)) k ≡ Some (column_of g cells k)
column_got g cells m k below =
    let all = map (column_of g cells) (numbers_below m) in
    let none : ColumnValue = record { space = []; cells = [] } in
    let long : length all ≡ m = length-map-range_with_len (column_of g cells) 0 m in
    slice_get-get_or all k none (subst (λ n. k < n) (sym long) below)
    ∙ ap (λ x. Some x) (get_or-map-range_with_len (column_of g cells) 0 m k k none below (let e : 0 + k ≡ k = omega arith in e))

column_past : (g : GraphValue) (cells : Cells) (m k : ℕ) → m ≤ k → slice_get (map (column_of g cells) (numbers_below m)) k ≡ None
column_past g cells m k past =
    let all = map (column_of g cells) (numbers_below m) in
    slice_get_past all k (subst (λ n. n ≤ k) (sym (length-map-range_with_len (column_of g cells) 0 m)) past)

-- THE OUTCOME
module _ (g h : GraphValue) (cut : Cut) (fits : IsGraph h) (c : IsCut g h cut) (kept : ChangesWithinAccesses) where
  at_piece : (x p : ℕ) → joined_cell (map (column_of h (cells_of (evaluation h))) (numbers_below (length (columns h)))) cut x p ≡ cells_of (evaluation h) (cut.piece x p) p
  at_piece x p = elim (cases_lt (cut.piece x p) (length (columns h))) [
    | inl below ↦
        ap (λ o. option_map_or (λ (y : ColumnValue). cell_of y p) o 0) (column_got h (cells_of (evaluation h)) (length (columns h)) (cut.piece x p) below)
        ∙ cell_at h (cells_of (evaluation h)) (cut.piece x p) p (space_of_column h fits kept (cut.piece x p) below) (c.has x p below)
    | inr past ↦
        ap (λ o. option_map_or (λ (y : ColumnValue). cell_of y p) o 0) (column_past h (cells_of (evaluation h)) (length (columns h)) (cut.piece x p) past)
        ∙ sym (left_zero h fits kept (cut.piece x p) p past)
  ]

  same_cells : (x p : ℕ) → cells_of (evaluation h) (cut.piece x p) p ≡ cells_of (evaluation g) x p
  same_cells x p = ap (λ ss. cells_of ss (cut.piece x p) p) (evaluation_on g h cut c) ∙ ap (λ (f : Cells). f x p) (cells_on g h cut c (evaluation g))

  abbrev given : List (ℕ × ℕ) → List ℕ → ColumnValue
  given s cells = record { space = s; «cells» = cells }

  same_column : (x : ℕ) → joined_column g cut (map (column_of h (cells_of (evaluation h))) (numbers_below (length (columns h)))) x ≡ column_of g (cells_of (evaluation g)) x
  same_column x = ap (λ (f : ℕ → ℕ). given (column_space g x) (map f (points (column_space g x)))) (λ i p. (at_piece x p ∙ same_cells x p) i)

  phase_by : (p : ℕ) (e : End) (r : ℕ → ℕ) (o : Option Verb) → phase_value_by h p e (option_map (verb_on r) o) ≡ phase_value_by g p e o
  phase_by p Done r (Some (Phase b)) = ap (λ v. Some v) (same_values g h cut c p b)
  phase_by p Done r None = refl
  phase_by p Done r (Some v) = refl
  phase_by p e r o = refl

  same_phase : (p : ℕ) → phase_value h p ≡ phase_value g p
  same_phase p =
      ap (phase_value_by h p (eval_end h p)) (verb_is g h cut c p)
      ∙ (phase_by p (eval_end h p) (cut.named p) (verb_at g p)
      ∙ ap (λ e. phase_value_by g p e (verb_at g p)) (same_end g h cut c p))

  abbrev given_all : List End → List Answer → List (Option ℕ) → List ColumnValue → List ℕ → Outcome
  given_all e a p cols t = record { ends = e; answers = a; phases = p; columns = cols; trace = t }

  same_all : (e e' : List End) (a a' : List Answer) (p p' : List (Option ℕ)) (x x' : List ColumnValue) (t : List ℕ) → e ≡ e' → a ≡ a' → p ≡ p' → x ≡ x' → given_all e a p x t ≡ given_all e' a' p' x' t
  same_all e e' a a' p p' x x' t q r s u = cc

  put_together : (trace : List ℕ) → joined g cut (outcome h trace) ≡ outcome g trace
  put_together trace = same_all _ _ _ _ _ _ _ _ trace
      (ap (λ n. map (eval_end h) (numbers_below n)) (same_number g h cut c) ∙ ap (λ (f : ℕ → End). map f (numbers_below (length g.lines))) (λ i k. same_end g h cut c k i))
      (ap (λ n. map (λ i. answer_of (eval_end h i)) (numbers_below n)) (same_number g h cut c) ∙ ap (λ (f : ℕ → End). map (λ i. answer_of (f i)) (numbers_below (length g.lines))) (λ i k. same_end g h cut c k i))
      (ap (λ n. map (phase_value h) (numbers_below n)) (same_number g h cut c) ∙ ap (λ (f : ℕ → Option ℕ). map f (numbers_below (length g.lines))) (λ i k. same_phase k i))
      (ap (λ (f : ℕ → ColumnValue). map f (numbers_below (length (columns g)))) (λ i k. same_column k i))

pub outcome_of_pieces : ChangesWithinAccesses → OutcomeOfPieces
outcome_of_pieces kept g h cut trace fits c = put_together g h cut fits c kept trace
