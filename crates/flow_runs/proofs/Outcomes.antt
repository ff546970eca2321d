-- The outcome of a graph that means a flow.
use Rattle.std.proofs.Common.{◌≡◌, ◌⊎◌, inl, inr, ℕ, zero, suc, ◌+◌, ◌<◌, Bool, List, [], ◌∷◌, ◌++◌, length, refl, sym, ◌∙◌, ap, subst, append-nil, arith}
use Rattle.std.specs.Prelude.{map, filter_map, flat_map, Some, slice_get}
use Rattle.std.specs.Option.{option_map_or}
use Rattle.std.specs.List.{AllByRecursion, range_with_len}
use Rattle.std.proofs.lemmas.Option.{slice_get_within, get_or_from_slice_get}
use Rattle.std.proofs.lemmas.List.FromFn.{length-map-range_with_len, get_or-map-range_with_len}
use Rattle.std.proofs.lemmas.List.Concat.{flat_map-append}
use Rattle.std.proofs.lemmas.List.Elements.{filter_map-append}
use Rattle.basics.specs.Lists.{numbers_below}
use Rattle.index_spaces.specs.Space.{points}
use Rattle.realm_io.specs.SinkState.{SinkState}
use Rattle.graph_terms.specs.declared.decl.Decl.{Decl}
use Rattle.graph_terms.specs.declared.format.Format.{Format}
use Rattle.graph_terms.specs.Graph.{GraphValue, written_in, space_of, columns_of, named_spaces, columns, column_space}
use Rattle.graph_meaning.specs.Evaluation.{order, outcome, column_of, evaluation, cells_of, eval_end}
use Rattle.graph_reader.specs.Laws.{OneReading}
use Rattle.command_line.specs.declared.request.Action.TheVariants.{Run, Eval}
use Rattle.command_line.specs.declared.request.Request.{Request}
use Rattle.flow_order.specs.Laws.{FlowInEachFormat}
use Rattle.flow_order.specs.Meaning.{flow_cells}
use Rattle.task_flow.specs.Construction.{written}
use Rattle.flow_order.specs.Written.{IsLock, Keeps, MeansFlow}
use Rattle.flow_top.specs.Answer.{IsFlowAnswer}
use Rattle.program_io.specs.Delivered.{Delivered}
use Rattle.graph_answers.specs.Answer.{report_with, IsDone, Says}
use Rattle.flow_runs.specs.Ran.{IsFlowOutcome, RanFlow}

-- an element stands at each place
got : {X : Type 0} (xs : List X) (i : ℕ) → i < length xs → (x : X) × (slice_get xs i ≡ Some x)
got [] i h = absurd (omega arith)
got (x ∷ xs) zero h = (x, refl)
got (x ∷ xs) (suc i) h = got xs i (omega arith)

no_spaces : (ds : List Decl) → AllByRecursion IsLock ds → filter_map space_of ds ≡ []
no_spaces [] h = refl
no_spaces (d ∷ ds) h = subst (λ x. filter_map space_of (x ∷ ds) ≡ []) (sym h.0.1) (no_spaces ds h.1)

no_columns : (ds : List Decl) → AllByRecursion IsLock ds → flat_map columns_of ds ≡ []
no_columns [] h = refl
no_columns (d ∷ ds) h = subst (λ x. flat_map columns_of (x ∷ ds) ≡ []) (sym h.0.1) (no_columns ds h.1)

spaces_same : (f g : GraphValue) (place : ℕ → ℕ) → Keeps f g place → named_spaces g ≡ named_spaces f
spaces_same f g place k = ap (filter_map space_of) k.decls
    ∙ (filter_map-append space_of f.decls k.locks ∙ (ap (λ x. named_spaces f ++ x) (no_spaces k.locks k.only_locks) ∙ append-nil (named_spaces f)))

columns_same : (f g : GraphValue) (place : ℕ → ℕ) → Keeps f g place → columns g ≡ columns f
columns_same f g place k = ap (flat_map columns_of) k.decls
    ∙ (flat_map-append columns_of f.decls k.locks ∙ (ap (λ x. columns f ++ x) (no_columns k.locks k.only_locks) ∙ append-nil (columns f)))

column_space_same : (f g : GraphValue) (place : ℕ → ℕ) → Keeps f g place → (c : ℕ) → column_space g c ≡ column_space f c
column_space_same f g place k c =
    ap (λ cs. option_map_or (λ x. option_map_or (λ y. y.1) (slice_get (named_spaces g) x.space) []) (slice_get cs c) []) (columns_same f g place k)
    ∙ ap (λ ss. option_map_or (λ x. option_map_or (λ y. y.1) (slice_get ss x.space) []) (slice_get (columns f) c) []) (spaces_same f g place k)

map_same : {X Y : Type 0} (a b : X → Y) (xs : List X) → ((x : X) → a x ≡ b x) → map a xs ≡ map b xs
map_same a b [] h = refl
map_same a b (x ∷ xs) h = ap (λ y. y ∷ map a xs) (h x) ∙ ap (λ ys. b x ∷ ys) (map_same a b xs h)

column_same : (f : GraphValue) (commute : Bool) (g : GraphValue) (m : MeansFlow f commute g) (c : ℕ) → column_of g (cells_of (evaluation g)) c ≡ column_of f (flow_cells f commute) c
column_same f commute g m c =
    ap (λ s. record { space = s; cells = map (cells_of (evaluation g) c) (points s) }) (column_space_same f g m.place m.keeps c)
    ∙ ap (λ cs. record { space = column_space f c; cells = cs }) (map_same (cells_of (evaluation g) c) (flow_cells f commute c) (points (column_space f c)) (m.cells c))

-- the value at a place of a list of values at numbers
get_at : {X : Type 0} (h : ℕ → X) (n i : ℕ) → i < n → slice_get (map h (range_with_len 0 n)) i ≡ Some (h i)
get_at h n i b = (let l : i < length (map h (range_with_len 0 n)) = subst (λ m. i < m) (sym (length-map-range_with_len h 0 n)) b in let x = got (map h (range_with_len 0 n)) i l in
    let e : 0 + i ≡ i = omega arith in
    x.1 ∙ ap Some (sym (get_or_from_slice_get (map h (range_with_len 0 n)) i x.0 (h i) x.1) ∙ get_or-map-range_with_len h 0 n i i (h i) b e))

place_within : (f g : GraphValue) (place : ℕ → ℕ) → Keeps f g place → (i : ℕ) → i < length f.lines → place i < length g.lines
place_within f g place k i h = (let l = got f.lines i h in let m = k.line i l.0 l.1 in slice_get_within g.lines (place i) m.0 m.1)

-- the cells of a flow in another format are those of the flow
column_as_read : FlowInEachFormat → (fm : Format) (f : GraphValue) (commute : Bool) (c : ℕ) → column_of (written_in fm f) (flow_cells (written_in fm f) commute) c ≡ column_of f (flow_cells f commute) c
column_as_read law fm f commute c = ap (λ cs. record { space = column_space f c; cells = cs }) (map_same (flow_cells (written_in fm f) commute c) (flow_cells f commute c) (points (column_space f c)) (λ p. (law fm f commute).1 c p))

pub is_outcome : FlowInEachFormat → (fm : Format) (f : GraphValue) (commute : Bool) (g : GraphValue) → MeansFlow (written_in fm f) commute g → IsFlowOutcome f commute g (outcome g (order g))
is_outcome law fm f commute g m =
    let h : GraphValue = written_in fm f in
    record {
      place = m.place;
      keeps = subst (λ x. Keeps (written_in x f) g m.place) (sym m.keeps.format) m.keeps;
      ends = λ i b. get_at (eval_end g) (length g.lines) (m.place i) (place_within h g m.place m.keeps i b) ∙ ap Some (m.ends i b ∙ (law fm f commute).0 i);
      columns_are = map_same (column_of g (cells_of (evaluation g))) (column_of f (flow_cells f commute)) (numbers_below (length (columns g))) (λ c. column_same h commute g m c ∙ column_as_read law fm f commute c)
          ∙ ap (λ cs. map (column_of f (flow_cells f commute)) (numbers_below (length cs))) (columns_same h g m.place m.keeps);
    }

-- what `run` and `eval` say of an accepted graph is its report with some trace
reported : (request : Request) (g : GraphValue) (need : ℕ) (out : List ℕ) → (request.action ≡ Run) ⊎ (request.action ≡ Eval) → Says request.action request g need out →
    (trace : List ℕ) × (out ≡ report_with request.trace g trace)
reported request g need out (inl e) s = (let r = subst (λ a. Says a request g need out) e s in (r.0, r.2))
reported request g need out (inr e) s = (order g, subst (λ a. Says a request g need out) e s)

pub ran : ((bs : List ℕ) → OneReading bs) → FlowInEachFormat → (bytes : List ℕ) (commute : Bool) (format : Format) (text : List ℕ) → IsFlowAnswer bytes commute format text → (request : Request) → (request.action ≡ Run) ⊎ (request.action ≡ Eval) →
    (old new : SinkState) → IsDone request text old new → RanFlow bytes commute text request.trace old new
ran reads law bytes commute format text a request act old new d =
    let same = (reads text).one_graph (written (written_in format a.flow) commute) d.graph a.out_is d.text in
    let r = reported request d.graph d.need d.out act d.says in
    record {
      flow = a.flow;
      is_text = a.is_text;
      graph = d.graph;
      graph_text = d.text;
      is_outcome = is_outcome law format a.flow commute d.graph (subst (λ (w : GraphValue). MeansFlow (written_in format a.flow) commute w) same a.means);
      trace = r.0;
      delivered = subst (Delivered old new) r.1 d.delivered;
    }
