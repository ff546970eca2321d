-- The marks of a flood, line by line.
use Rattle.std.proofs.Common.{◌≡◌, ℕ, ◌+◌, ◌<◌, inl, inr, List, [], ◌∷◌, ◌++◌, length, refl, sym, ◌∙◌, ap, subst, arith, take}
use Rattle.std.specs.Prelude.{Contains, ◌==◌, Some, Vec, slice_get}
use Rattle.std.specs.Global.{Global}
use Rattle.std.specs.List.{slice_index_or}
use Rattle.std.proofs.lemmas.Option.{same_Some}
use Rattle.std.proofs.lemmas.List.{take_more}
use Rattle.std.proofs.lemmas.List.Elements.{Contains-append_left, Contains-push, Contains-push_cases, Contains-get_or}
use Rattle.graph_terms.specs.declared.verb.Edge.{Edge}
use Rattle.graph_terms.specs.declared.verb.EdgeKind.TheVariants.{Passes}
use Rattle.graph_terms.specs.Graph.{GraphValue, is_acquire_of}
use Rattle.graph_terms.specs.Edges.{edges, edges_out_of}
use Rattle.graph_terms.specs.Reservations.{Acquires}
use Rattle.basics.proofs.ListFacts.{filter_contains}
use Rattle.line_marks.specs.Marking.{IsMarking}
use Rattle.line_marks.proofs.Public.{marks_as, marks_more}
use Rattle.slot_need.specs.High.{AreAcquires, IsTarget}
use Rattle.graph_meaning.specs.Laws.{EdgesBetweenLines}
use Rattle.graph_terms.specs.Fits.{IsGraph}
use Rattle.graph_terms.proofs.Public.{passes_below}

abbrev pub no_edge : Edge
no_edge = record { «from» = 0; «to» = 0; «kind» = Passes }

pub targets_more : (mark : ℕ) (old waiting mid between new stack : List ℕ) (es : List Edge) (k : ℕ) → k < length es → IsMarking (IsTarget (take k es)) mark old waiting mid between →
    IsMarking (λ i. i ≡ (slice_index_or es k no_edge).to) mark mid between new stack → IsMarking (IsTarget (take (k + 1) es)) mark old waiting new stack
targets_more mark old waiting mid between new stack es k below a b = marks_more (IsTarget (take k es)) (λ i. i ≡ (slice_index_or es k no_edge).to) (IsTarget (take (k + 1) es)) mark old waiting mid between new stack a b
    (λ i t. (t.0, subst (λ xs. Contains xs t.0) (sym more) (Contains-append_left (take k es) (slice_index_or es k no_edge ∷ []) t.0 t.1), t.2))
    (λ i e. (slice_index_or es k no_edge, subst (λ xs. Contains xs (slice_index_or es k no_edge)) (sym more) (Contains-push (take k es) (slice_index_or es k no_edge)), sym e))
    (λ i t. elim (Contains-push_cases (take k es) (slice_index_or es k no_edge) t.0 (subst (λ xs. Contains xs t.0) more t.1)) [
      | inl c ↦ inl (t.0, c, t.2)
      | inr e ↦ inr (sym t.2 ∙ ap (λ (x : Edge). x.to) (sym e))
    ])
  where
    more : take (k + 1) es ≡ take k es ++ slice_index_or es k no_edge ∷ []
    more = take_more es k no_edge below

-- of a list of the acquires of a reservation
pub acquires_marked : (g : GraphValue) (lists : List (Vec ℕ Global)) (l : ℕ) (v : Vec ℕ Global) → AreAcquires g lists (length g.lines) → slice_get lists l ≡ Some v → (mark : ℕ) (old waiting new stack : List ℕ) →
    IsMarking (Contains v.items) mark old waiting new stack → IsMarking (λ i. Acquires g i l) mark old waiting new stack
acquires_marked g lists l v are at mark old waiting new stack a = marks_as (Contains v.items) (λ i. Acquires g i l) mark old waiting new stack (λ i c. are.is l i (v, at, c))
    (λ i t. (let c = are.all l i (passes_below (is_acquire_of l) g i t) t in subst (λ (z : Vec ℕ Global). Contains z.items i) (same_Some c.0 v (sym c.1 ∙ at)) c.2)) a

pub acquires_known : (g : GraphValue) (lists : List (Vec ℕ Global)) (l : ℕ) (v : Vec ℕ Global) → AreAcquires g lists (length g.lines) → slice_get lists l ≡ Some v → (i : ℕ) → Contains v.items i → i < length g.lines
acquires_known g lists l v are at i c = passes_below (is_acquire_of l) g i (are.is l i (v, at, c))

-- the target of an edge out of a line is a line
pub target_known : EdgesBetweenLines → (g : GraphValue) → IsGraph g → (x k : ℕ) (es : List Edge) → es ≡ edges_out_of g x → k < length es → (slice_index_or es k no_edge).to < length g.lines
target_known between g f x k es is below =
    let c : Contains (edges_out_of g x) (slice_index_or es k no_edge) = subst (λ xs. Contains xs (slice_index_or es k no_edge)) is (Contains-get_or es k no_edge below) in
    (between g (slice_index_or es k no_edge) f (filter_contains (λ (e : Edge). e.from == x) (edges g) (slice_index_or es k no_edge) c).0).1

pub nil_of : (xs : List ℕ) → length xs ≡ 0 → xs ≡ []
nil_of [] e = refl
nil_of (x ∷ xs) e = absurd (omega arith)
