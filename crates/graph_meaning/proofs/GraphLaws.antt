-- The laws of graphs whose items fit.
use Rattle.std.proofs.Common.{◌≡◌, ℕ, ◌<◌, Bool, true, false, inl, inr, List, [], length, refl, sym, ◌∙◌, ap, subst, arith, get_or}
use Rattle.std.specs.Prelude.{◌≢◌, IsTrue, AllPairs, Option, Some, None, nat_lt}
use Rattle.std.specs.Option.{option_map_or}
use Rattle.std.proofs.lemmas.Bool.{ltb-true, ltb-false}
use Rattle.std.proofs.lemmas.List.{length-map, get_or-map}
use Rattle.std.proofs.lemmas.List.Kept.{AllPairs-from_increasing}
use Rattle.std.proofs.lemmas.Option.{slice_get_past}
use Rattle.index_spaces.specs.Laws.{PointsAscend}
use Rattle.index_spaces.specs.Space.{points}
use Rattle.graph_terms.specs.declared.verb.Verb.{Verb}
use Rattle.graph_terms.specs.declared.verb.Verb.TheVariants.{Fill, Copy, Reduce, Task}
use Rattle.graph_terms.specs.Graph.{GraphValue, named_spaces, space_at, never_comes, verb_at}
use Rattle.graph_terms.specs.declared.verb.Access.{Access}
use Rattle.graph_terms.specs.Access.{kernel_accesses}
use Rattle.graph_terms.specs.Edges.{edges}
use Rattle.graph_meaning.specs.Rules.{Accepted}
use Rattle.graph_meaning.specs.Effect.{Cells, zero_cells, Change, CellChange, cells_after, Effects, effect, changes_at, changes_of, seen, kernel_value, target, verb_changes}
use Rattle.graph_meaning.specs.Evaluation.{Step, is_ended, end_with, is_cancelled, step_by, evaluation_with, changes_with, cells_with, cells_of_lines_with}
use Rattle.graph_terms.specs.Fits.{IsGraph}
use Rattle.graph_meaning.specs.Laws.{PathsCompose, EdgesBetweenLines, ChangesWithinAccesses, ReadyWhereUnreached, WaitsWhereReached, WaitsWhereReachedWith, CancelledWhereUnbroken, CancelledWhereUnbrokenWith, ChangesNameEachCellOnce, IsReadyAmongWith, cells_put_with, cells_put, KeepsToAccesses, VerbsKeepToAccesses, put_with, step_on_with, DoesAsEvaluatedWith, OrderIrrelevant, OrderIrrelevantWith}
use Rattle.graph_meaning.proofs.PathLaws.{path_append}
use Rattle.graph_meaning.proofs.ReadyLine.{ready_or_never}
use Rattle.graph_meaning.proofs.Waiting.{waits_if_reached_with, reached_if_waits_with}
use Rattle.graph_meaning.proofs.Cancelled.{has_ended_of, cancelled_if_unbroken_with, unbroken_if_cancelled_with}
use Rattle.graph_meaning.proofs.Changes.{cells_after_at}
use Rattle.graph_meaning.proofs.Turns.{turns_with, is_cancelled_agree}
use Rattle.graph_meaning.specs.Turns.{IsTurn}
use Rattle.graph_meaning.proofs.Confluence as confluence
use Rattle.graph_terms.proofs.Public.{edges_in_range, space_is}

pub paths_compose : PathsCompose
paths_compose g i k j p q = path_append p q

pub edges_between_lines : EdgesBetweenLines
edges_between_lines g e f c = edges_in_range g f e c

pub ready_where_unreached : ReadyWhereUnreached
ready_where_unreached g ended i f acyclic below left unreached =
    elim (ready_or_never (edges g) (length g.lines) (never_comes g) ended (λ e c. (edges_in_range g f e c).0) acyclic i below left) [
      | inl r ↦ (r.0, record { below = r.1.below; left = r.1.left; comes = r.1.comes; sources = r.1.sources }, r.2)
      | inr n ↦ absurd (unreached n)
    ]

pub waits_where_reached_with : WaitsWhereReachedWith
waits_where_reached_with does first g i f acyclic h = (reached_if_waits_with does first g (λ e c. (edges_in_range g f e c).0) acyclic i h, waits_if_reached_with does first g i)

pub waits_where_reached : WaitsWhereReached
waits_where_reached g = waits_where_reached_with (effect g) zero_cells g

pub cancelled_where_unbroken_with : CancelledWhereUnbrokenWith
cancelled_where_unbroken_with does first g i = (unbroken_if_cancelled_with does first g i, λ u. cancelled_if_unbroken_with does first u)

pub cancelled_where_unbroken : CancelledWhereUnbroken
cancelled_where_unbroken g = cancelled_where_unbroken_with (effect g) zero_cells g

pub verbs_keep_to_accesses : VerbsKeepToAccesses
verbs_keep_to_accesses g = confluence.verbs_keep g

pub changes_within_accesses : ChangesWithinAccesses
changes_within_accesses g = confluence.line_within g

-- changes of one column at points that ascend are of different cells
abbrev Once : List CellChange → Type 0
Once xs = AllPairs (λ (x y : CellChange). x.column ≡ y.column → x.point ≢ y.point) xs

no_changes : Once []
no_changes = λ i j d below within. absurd (omega arith)

changes_once : (f : ℕ → Change) (c : ℕ) (ps : List ℕ) → AllPairs (λ x y. x < y) ps → Once (changes_at f c ps)
changes_once f c ps h = λ i j d below within same e.
    let count : length (changes_at f c ps) ≡ length ps = length-map ps (λ p. record { column = c; point = p; change = f p }) in
    let one : get_or (changes_at f c ps) i d ≡ record { column = c; point = get_or ps i 0; change = f (get_or ps i 0) } = get_or-map (λ p. record { column = c; point = p; change = f p }) ps i 0 d (omega arith) in
    let two : get_or (changes_at f c ps) j d ≡ record { column = c; point = get_or ps j 0; change = f (get_or ps j 0) } = get_or-map (λ p. record { column = c; point = p; change = f p }) ps j 0 d (omega arith) in
    let less : get_or ps i 0 < get_or ps j 0 = h i j 0 below (omega arith) in
    let alike : get_or ps i 0 ≡ get_or ps j 0 = sym (ap (λ (x : CellChange). x.point) one) ∙ (e ∙ ap (λ (x : CellChange). x.point) two) in
    absurd (omega arith)

-- the points of each space ascend
ascend_by : PointsAscend → (g : GraphValue) → IsGraph g → (s : ℕ) (b : Bool) → nat_lt s (length (named_spaces g)) ≡ b → AllPairs (λ x y. x < y) (points (space_at g s))
ascend_by l g f s true e = AllPairs-from_increasing (points (space_at g s)) (l (space_at g s) (space_is g f s (ltb-true s (length (named_spaces g)) e)))
ascend_by l g f s false e =
    subst (λ (x : List (ℕ × ℕ)). AllPairs (λ x y. x < y) (points x)) (sym (ap (λ (o : Option (List ℕ × List (ℕ × ℕ))). option_map_or (λ (x : List ℕ × List (ℕ × ℕ)). x.1) o []) (slice_get_past (named_spaces g) s (ltb-false s (length (named_spaces g)) e))))
    (λ i j d below within. absurd (omega arith))

abbrev Ascends : (ℕ → List (ℕ × ℕ)) → Type 0
Ascends space = (s : ℕ) → AllPairs (λ x y. x < y) (points (space s))

once_of : (space : ℕ → List (ℕ × ℕ)) (f : ℕ → ℕ) → Ascends space → (o : Option Access) → Once (option_map_or (changes_of space f) o [])
once_of space f h None = no_changes
once_of space f h (Some a) = changes_once _ a.column (points (space a.space)) (h a.space)

verb_once : (space : ℕ → List (ℕ × ℕ)) (cells : Cells) → Ascends space → (v : Verb) → Once (verb_changes space cells v)
verb_once space cells h (Fill t s v) = changes_once _ t (points (space s)) (h s)
verb_once space cells h (Copy a b s) = changes_once _ b (points (space s)) (h s)
verb_once space cells h (Reduce o a b s) = changes_once _ b (points (space s)) (h s)
verb_once space cells h (Task k) = once_of space (kernel_value space (seen space (kernel_accesses k) cells) k) h (target (kernel_accesses k))
verb_once space cells h v = no_changes

once_at : (space : ℕ → List (ℕ × ℕ)) (cells : Cells) → Ascends space → (o : Option Verb) → Once (option_map_or (verb_changes space cells) o [])
once_at space cells h None = no_changes
once_at space cells h (Some v) = verb_once space cells h v

pub changes_name_each_cell_once : PointsAscend → ChangesNameEachCellOnce
changes_name_each_cell_once l g i cells f = once_at (space_at g) cells (λ s. ascend_by l g f s _ refl) (verb_at g i)

as_evaluated : (does : Effects) (first : Cells) (g : GraphValue) (i : ℕ) (ended : ℕ → Bool) (put : ℕ → ℕ → Bool) → Accepted g → KeepsToAccesses g does →
    (before : List Step) → IsTurn does first g (evaluation_with does first g) i before → IsReadyAmongWith does first g i ended put →
    (cells : Cells) → does i cells ≡ does i (cells_put_with does first g put) → DoesAsEvaluatedWith does first g i cells
as_evaluated does first g i ended put accepted keeps before turn r cells agree =
    let same : does i cells ≡ does i (cells_with first before) =
    agree ∙ confluence.same_effect_with does first g accepted keeps i before turn ended put r in
    let cancelled : is_cancelled g (evaluation_with does first g) i ≡ is_cancelled g before i = is_cancelled_agree g (evaluation_with does first g) before i turn.sources_same in
    let step : step_on_with does first g i cells ≡ step_by i (is_cancelled g before i) (does i (cells_with first before)) =
    ap (λ b. step_by i b (does i cells)) cancelled ∙ ap (step_by i (is_cancelled g before i)) same in
    record {
      ends = ap (λ (s : Step). s.ends) step ∙ sym turn.end_is;
      changes = ap (λ (s : Step). s.changes) step ∙ sym turn.changes_are;
    }

-- the same where what the line does rests on what two states have in common
abbrev DoesSo : Effects → Cells → GraphValue → ℕ → (ℕ → ℕ → Bool) → Type 0
DoesSo does first g i put =
    ((cells : Cells) → does i cells ≡ does i (cells_put_with does first g put) → DoesAsEvaluatedWith does first g i cells)
    × ((c p : ℕ) → cells_after (cells_put_with does first g put) (changes_with does first g i) c p ≡ cells_put_with does first g (put_with i put) c p)

does_so : (does : Effects) (first : Cells) (g : GraphValue) (i : ℕ) (ended : ℕ → Bool) (put : ℕ → ℕ → Bool) → Accepted g → KeepsToAccesses g does →
    IsTrue (is_ended (end_with does first g i)) → IsReadyAmongWith does first g i ended put → DoesSo does first g i put
does_so does first g i ended put accepted keeps h r =
    let t = turns_with does first g (length g.lines) i (has_ended_of does first g i h) in (
      as_evaluated does first g i ended put accepted keeps t.0 t.1 r,
      λ c p. cells_after_at (cells_put_with does first g put) (cells_of_lines_with does first g (put c)) (changes_with does first g i) c p refl ∙ confluence.same_cells does first g accepted keeps i t.0 t.1 ended put r c p,
    )

pub order_is_irrelevant_with : OrderIrrelevantWith
order_is_irrelevant_with does first g i ended put accepted keeps h r =
    let d = does_so does first g i ended put accepted keeps h r in
    (λ cells agree. d.0 cells (keeps.agrees i cells (cells_put_with does first g put) agree), d.1)

pub order_is_irrelevant : OrderIrrelevant
order_is_irrelevant g i ended put f accepted h r =
    let d = does_so (effect g) zero_cells g i ended put accepted (verbs_keep_to_accesses g) h r in
    (λ cells agree. d.0 cells (confluence.verbs_agree g i cells (cells_put g put) agree), d.1)
