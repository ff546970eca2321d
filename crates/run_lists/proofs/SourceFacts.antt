-- What the edges into a line say of it, read one after another.
use Rattle.std.proofs.Common.{◌≡◌, ℕ, ◌+◌, ◌<◌, ◌≤◌, Bool, true, false, cond, ◌⊎◌, inl, inr, List, [], ◌∷◌, ◌++◌, length, map, take, refl, sym, ◌∙◌, ap, subst, arith, get_or}
use Rattle.std.specs.Prelude.{◌==◌, nat_lt, Option, Some, None, Contains, MatchOption}
use Rattle.std.proofs.lemmas.Bool.{true≢false, ltb-true, ltb-false, eqb-true, eq-eqb}
use Rattle.std.proofs.lemmas.List.{take_more, take_all, get_or-map}
use Rattle.std.proofs.lemmas.List.Elements.{Contains-append_left, Contains-append_right, Contains-append_cases, Contains-get_or}
use Rattle.graph_terms.specs.declared.verb.Edge.{Edge}
use Rattle.graph_terms.specs.declared.verb.EdgeKind.TheVariants.{Passes}
use Rattle.graph_terms.specs.Graph.{GraphValue}
use Rattle.graph_terms.specs.Edges.{edges, edges_into}
use Rattle.graph_meaning.specs.Evaluation.{cancels}
use Rattle.graph_terms.specs.Fits.{IsGraph}
use Rattle.graph_meaning.specs.Laws.{EdgesBetweenLines}
use Rattle.basics.proofs.ListFacts.{contains_cases, contains_here, contains_none, filter_contains, contains_filter}
use Rattle.run_state.specs.Run.{LineStage, Unissued, stage_at, end_so_far, ended}
use Rattle.run_parts.specs.LineEvents.{WaitsFor}
use Rattle.run_lists.specs.Stages.{shown_stage}
use Rattle.run_lists.specs.Sources.{lesser, HasSources, IsLeastLeft}
use Rattle.run_parts.specs.declared.progress.Progress.{Progress}

abbrev pub no_edge : Edge
no_edge = record { from = 0; to = 0; kind = Passes }

-- an edge that is read
pub edge_there : (g : GraphValue) (line k : ℕ) (es : List Edge) (d : Edge) → es ≡ edges_into g line → k < length es → Contains (edges_into g line) (get_or es k d)
edge_there g line k es d e h = subst (λ xs. Contains xs (get_or es k d)) e (Contains-get_or es k d h)

pub source_known : EdgesBetweenLines → (g : GraphValue) → IsGraph g → (line k : ℕ) (es : List Edge) (d : Edge) → es ≡ edges_into g line → k < length es → (get_or es k d).from < length g.lines
source_known fit g is line k es d e h = (fit g (get_or es k d) is (filter_contains (λ (x : Edge). x.to == line) (edges g) (get_or es k d) (edge_there g line k es d e h)).0).0

-- the stage that is read
pub stage_read : (stages : List Progress) (j : ℕ) (d : Progress) → j < length stages → shown_stage (get_or stages j d) ≡ stage_at (map shown_stage stages) j
stage_read stages j d h = sym (get_or-map shown_stage stages j d Unissued h)

-- THE LEAST SOURCE LEFT, of some edges
abbrev pub LeastOf : List LineStage → List Edge → Option ℕ → Type 0
LeastOf stages es None = (e : Edge) → Contains es e → ended stages e.from ≡ true
LeastOf stages es (Some m) = ((e : Edge) × Contains es e × (e.from ≡ m)) × (ended stages m ≡ false) × ((e : Edge) → Contains es e → ended stages e.from ≡ false → m ≤ e.from)

last_is : (es : List Edge) (x e : Edge) → Contains (es ++ x ∷ []) e → Contains es e ⊎ (x ≡ e)
last_is es x e c = elim (Contains-append_cases es (x ∷ []) e c) [
  | inl l ↦ inl l
  | inr r ↦ (elim (contains_cases x [] e r) [ inl s ↦ inr s | inr n ↦ absurd (contains_none e n) ])
]

least_skip : (stages : List LineStage) (es : List Edge) (x : Edge) (o : Option ℕ) → ended stages x.from ≡ true → LeastOf stages es o → LeastOf stages (es ++ x ∷ []) o
least_skip stages es x None h s = λ e c. elim (last_is es x e c) [ inl l ↦ s e l | inr r ↦ ap (λ (y : Edge). ended stages y.from) (sym r) ∙ h ]
least_skip stages es x (Some m) h s = (
  (s.0.0, Contains-append_left es (x ∷ []) s.0.0 s.0.1, s.0.2),
  s.1,
  λ e c left. (elim (last_is es x e c) [ inl l ↦ s.2 e l left | inr r ↦ absurd (true≢false (sym h ∙ (ap (λ (y : Edge). ended stages y.from) r ∙ left))) ]),
)

lesser_by : (stages : List LineStage) (es : List Edge) (x : Edge) (m : ℕ) (b : Bool) → nat_lt m x.from ≡ b → ended stages x.from ≡ false → LeastOf stages es (Some m) → LeastOf stages (es ++ x ∷ []) (Some (cond b m x.from))
lesser_by stages es x m true less h s = (
  (s.0.0, Contains-append_left es (x ∷ []) s.0.0 s.0.1, s.0.2),
  s.1,
  λ e c left. (elim (last_is es x e c) [
    | inl l ↦ s.2 e l left
    | inr r ↦ (let a : m < x.from = ltb-true m x.from less in let b : x.from ≡ e.from = ap (λ (y : Edge). y.from) r in let z : m ≤ e.from = omega arith in z)
  ]),
)
lesser_by stages es x m false less h s = (
  (x, Contains-append_right es (x ∷ []) x (contains_here x []), refl),
  h,
  λ e c left. (elim (last_is es x e c) [
    | inl l ↦ (let a : x.from ≤ m = ltb-false m x.from less in let b : m ≤ e.from = s.2 e l left in let z : x.from ≤ e.from = omega arith in z)
    | inr r ↦ (let b : x.from ≡ e.from = ap (λ (y : Edge). y.from) r in let z : x.from ≤ e.from = omega arith in z)
  ]),
)

least_with : (stages : List LineStage) (es : List Edge) (x : Edge) (o : Option ℕ) → ended stages x.from ≡ false → LeastOf stages es o → LeastOf stages (es ++ x ∷ []) (Some (lesser o x.from))
least_with stages es x None h s = (
  (x, Contains-append_right es (x ∷ []) x (contains_here x []), refl),
  h,
  λ e c left. (elim (last_is es x e c) [
    | inl l ↦ absurd (true≢false (sym (s e l) ∙ left))
    | inr r ↦ (let b : x.from ≡ e.from = ap (λ (y : Edge). y.from) r in let z : x.from ≤ e.from = omega arith in z)
  ]),
)
least_with stages es x (Some m) h s = lesser_by stages es x m (nat_lt m x.from) refl h s

-- one edge more
pub least_passed : (stages : List LineStage) (es : List Edge) (k : ℕ) (d : Edge) (o : Option ℕ) → k < length es → ended stages (get_or es k d).from ≡ true → LeastOf stages (take k es) o → LeastOf stages (take (k + 1) es) o
least_passed stages es k d o b h s = subst (λ xs. LeastOf stages xs o) (sym (take_more es k d b)) (least_skip stages (take k es) (get_or es k d) o h s)

pub least_found : (stages : List LineStage) (es : List Edge) (k : ℕ) (d : Edge) (o : Option ℕ) → k < length es → ended stages (get_or es k d).from ≡ false → LeastOf stages (take k es) o → LeastOf stages (take (k + 1) es) (Some (lesser o (get_or es k d).from))
least_found stages es k d o b h s = subst (λ xs. LeastOf stages xs (Some (lesser o (get_or es k d).from))) (sym (take_more es k d b)) (least_with stages (take k es) (get_or es k d) o h s)

-- all edges into the line
into_of : (g : GraphValue) (line j : ℕ) → WaitsFor g line j → (e : Edge) × Contains (edges_into g line) e × (e.from ≡ j)
into_of g line j w = (w.0, contains_filter (λ (x : Edge). x.to == line) (edges g) w.0 w.1 (eq-eqb w.0.to line w.3), w.2)

waits_by : (g : GraphValue) (line : ℕ) (e : Edge) → Contains (edges_into g line) e → WaitsFor g line e.from
waits_by g line e c = let f = filter_contains (λ (x : Edge). x.to == line) (edges g) e c in (e, f.0, refl, eqb-true e.to line f.1)

least_all : (g : GraphValue) (stages : List LineStage) (line : ℕ) (o : Option ℕ) → LeastOf stages (edges_into g line) o → MatchOption o (HasSources g stages line) (IsLeastLeft g stages line)
least_all g stages line None s = λ j w. (let e = into_of g line j w in ap (ended stages) (sym e.2) ∙ s e.0 e.1)
least_all g stages line (Some m) s = record {
  waits = subst (WaitsFor g line) s.0.2 (waits_by g line s.0.0 s.0.1);
  left = s.1;
  least = λ k w left. (let e = into_of g line k w in subst (λ n. m ≤ n) e.2 (s.2 e.0 e.1 (ap (ended stages) e.2 ∙ left)));
}

pub least_is : (g : GraphValue) (stages : List LineStage) (line k : ℕ) (es : List Edge) (o : Option ℕ) → es ≡ edges_into g line → length es ≤ k → LeastOf stages (take k es) o → MatchOption o (HasSources g stages line) (IsLeastLeft g stages line)
least_is g stages line k es o e all s = least_all g stages line o (subst (λ xs. LeastOf stages xs o) (take_all k es all ∙ e) s)

-- WHETHER AN EDGE CANCELS
abbrev pub cancels_by : List LineStage → Edge → Bool
cancels_by stages e = cancels e.kind (end_so_far (stage_at stages e.from))
