-- The loops of a simulation: one more edge, and one more processor.
use Rattle.std.proofs.Common.{◌≡◌, ℕ, zero, suc, ◌+◌, ◌<◌, ◌≤◌, List, [], ◌∷◌, length, drop, sym, ◌∙◌, ap, subst, arith, drop-cons}
use Rattle.std.specs.Prelude.{Option, Some, None, slice_index}
use Rattle.std.specs.List.{slice_index_or}
use Rattle.std.proofs.lemmas.List.{drop_all}
use Rattle.std.proofs.lemmas.Option.{none-some}
use Rattle.graph_terms.specs.declared.verb.Edge.{Edge}
use Rattle.graph_terms.specs.declared.verb.EdgeKind.TheVariants.{Passes as KindPasses}
use Rattle.graph_terms.specs.Graph.{GraphValue}
use Rattle.realm_timeline.specs.State.{State, runs_at, IsConsistent}
use Rattle.realm_timeline.specs.Steps.{CountsDown}
use Rattle.realm_timeline.proofs.SlotFacts.{slot_below}
use Rattle.realm_timeline.proofs.ConsistentCounts.{count_down_consistent, edge_waits, within}

-- what is read past the end of a list of edges
abbrev pub no_edge : Edge
no_edge = record { «from» = 0; «to» = 0; kind = KindPasses }

-- the line that was read from a processor
pub runs_read : (running : List (Option ℕ)) (q k : ℕ) (o : Option ℕ) → o ≡ slice_index_or running q o → q < length running → o ≡ Some k → runs_at running q ≡ Some k
runs_read [] q k o e h s = absurd (omega arith)
runs_read (x ∷ xs) zero k o e h s = sym e ∙ s
runs_read (x ∷ xs) (suc q) k o e h s = runs_read xs q k o e (omega arith) s

pub idle_read : (running : List (Option ℕ)) (q : ℕ) (o : Option ℕ) → o ≡ slice_index_or running q o → q < length running → o ≡ None → runs_at running q ≡ None
idle_read [] q o e h s = absurd (omega arith)
idle_read (x ∷ xs) zero o e h s = sym e ∙ s
idle_read (x ∷ xs) (suc q) o e h s = idle_read xs q o e (omega arith) s

-- a line that runs is one of the graph
pub running_below : (g : GraphValue) (p : ℕ) (s : State) (rest : List Edge) (q line : ℕ) → IsConsistent g p s rest → runs_at s.running q ≡ Some line → line < length g.lines
running_below g p s rest q line k runs =
    let x = (k.runs q line runs).1 in
    let b : line < length s.slots = slot_below s.slots line x.0 x.1 in
    let c : length s.slots ≡ length g.lines = k.slot_count in
    omega arith

pub processor_below : (running : List (Option ℕ)) (q line : ℕ) → runs_at running q ≡ Some line → q < length running
processor_below running q line runs = within running q None (λ e. none-some line (sym e ∙ runs))

split : (out : List Edge) (i : ℕ) → i < length out → drop i out ≡ slice_index_or out i no_edge ∷ drop (i + 1) out
split out i h = let one : suc i ≡ i + 1 = omega arith in drop-cons out i no_edge h ∙ ap (λ k. slice_index_or out i no_edge ∷ drop k out) one

-- the next edge of a list that is left
pub next_waits : (g : GraphValue) (p : ℕ) (s : State) (out : List Edge) (i : ℕ) → IsConsistent g p s (drop i out) → i < length out → 0 < slice_index s.left (slice_index_or out i no_edge).to
next_waits g p s out i k h = edge_waits g p s (slice_index_or out i no_edge) (drop (i + 1) out) (subst (IsConsistent g p s) (split out i h) k)

pub next_below : (g : GraphValue) (p : ℕ) (s : State) (out : List Edge) (i : ℕ) → IsConsistent g p s (drop i out) → i < length out → (slice_index_or out i no_edge).to < length g.lines
next_below g p s out i k h =
    let w : 0 < slice_index s.left (slice_index_or out i no_edge).to = next_waits g p s out i k h in
    let b : (slice_index_or out i no_edge).to < length s.left = within s.left (slice_index_or out i no_edge).to 0 (λ z. (let z' : slice_index s.left (slice_index_or out i no_edge).to ≡ 0 = z in absurd (omega arith))) in
    let c : length s.left ≡ length g.lines = k.left_count in
    omega arith

pub next_counted : (g : GraphValue) (p : ℕ) (s new : State) (out : List Edge) (i : ℕ) → IsConsistent g p s (drop i out) → i < length out → CountsDown g s new (slice_index_or out i no_edge).to → IsConsistent g p new (drop (i + 1) out)
next_counted g p s new out i k h st = count_down_consistent g p s new (slice_index_or out i no_edge) (drop (i + 1) out) (subst (IsConsistent g p s) (split out i h) k) st

pub all_counted : (g : GraphValue) (p : ℕ) (s : State) (out : List Edge) (i : ℕ) → IsConsistent g p s (drop i out) → length out ≤ i → IsConsistent g p s []
all_counted g p s out i k h = subst (IsConsistent g p s) (drop_all i out h) k
