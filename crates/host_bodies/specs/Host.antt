-- A host that performs the lines of a graph on memory of its own: it takes lines, changes memory and puts lines back, in any order and any number at once.
use Rattle.std.specs.Prelude.{◌≡◌, ℕ, ◌<◌, ◌==◌, Bool, true, false, cond, not, ◌&&◌, length, Contains}
use Rattle.std.specs.List.{list_any}
use Rattle.index_spaces.specs.Space.{has_point}
use Rattle.graph_terms.specs.declared.outcome.End.{End}
use Rattle.graph_terms.specs.declared.outcome.End.TheVariants.{Cancelled, Waiting}
use Rattle.graph_terms.specs.declared.verb.Access.{Access}
use Rattle.graph_terms.specs.declared.verb.Edge.{Edge}
use Rattle.graph_terms.specs.Graph.{GraphValue, space_at, never_comes}
use Rattle.graph_terms.specs.Access.{all_accesses, is_read, is_reduction}
use Rattle.graph_terms.specs.Edges.{edges, edges_into}
use Rattle.graph_meaning.specs.Effect.{Cells, Effects, cells_after}
use Rattle.graph_meaning.specs.Evaluation.{Step, cancels, is_ended, step_by}

-- a run by a host: how each line has ended (one that has not waits), which lines are out, the memory, and what each of these found there when it was taken
pub record HostRun : Type 0 where
  pub ends : ℕ → End
  pub out : ℕ → Bool
  pub memory : Cells
  pub found : ℕ → Cells

-- whether a line has ended
abbrev pub over : HostRun → ℕ → Bool
over h k = is_ended (h.ends k)

-- a run begins with any memory
abbrev pub begun : Cells → HostRun
begun first = record { ends = λ k. Waiting; out = λ k. false; memory = first; found = λ k. first }

-- whether an access is of the cell of column c at point p
abbrev pub covers : GraphValue → ℕ → ℕ → Access → Bool
covers g c p a = (a.column == c) && has_point (space_at g a.space) p

-- whether line k has an access of that cell, and one that does more than read it
abbrev pub uses : GraphValue → ℕ → ℕ → ℕ → Bool
uses g k c p = list_any (covers g c p) (all_accesses g k)

abbrev pub may_change : GraphValue → ℕ → ℕ → ℕ → Bool
may_change g k c p = list_any (λ a. not (is_read a.mode) && covers g c p a) (all_accesses g k)

-- whether line k has a reduction into that cell
abbrev pub reduces : GraphValue → ℕ → ℕ → ℕ → Bool
reduces g k c p = list_any (λ a. is_reduction a.mode && covers g c p a) (all_accesses g k)

-- line i is due: it comes, it is not out and has not ended, and its sources have
pub record IsDue (g : GraphValue) (h : HostRun) (i : ℕ) : Type 0 where
  pub below : i < length g.lines
  pub comes : never_comes g i ≡ false
  pub here : h.out i ≡ false
  pub left : over h i ≡ false
  pub ready : (e : Edge) → Contains (edges g) e → e.to ≡ i → over h e.from ≡ true

-- whether the ends of its sources cancel line i
abbrev pub cancelled_in : GraphValue → HostRun → ℕ → Bool
cancelled_in g h i = list_any (λ (e : Edge). cancels e.kind (h.ends e.from)) (edges_into g i)

-- line i may be taken: it is due and not cancelled, and no line that is out reduces into a cell into which it reduces
pub record MayTake (g : GraphValue) (h : HostRun) (i : ℕ) : Type 0 where
  pub due : IsDue g h i
  pub runs : cancelled_in g h i ≡ false
  pub alone : (j c p : ℕ) → h.out j ≡ true → reduces g i c p ≡ true → reduces g j c p ≡ false

-- line i is taken, and finds the memory as it is
abbrev pub taken : HostRun → ℕ → HostRun
taken h i = record {
  ends = h.ends;
  out = λ k. cond (k == i) true (h.out k);
  memory = h.memory;
  found = λ k. cond (k == i) h.memory (h.found k);
}

-- no cells differ but those that line i may change
abbrev pub ChangesOwn : GraphValue → ℕ → Cells → Cells → Type 0
ChangesOwn g i old new = (c p : ℕ) → may_change g i c p ≡ false → new c p ≡ old c p

-- the memory changes
abbrev pub with_memory : HostRun → Cells → HostRun
with_memory h memory = record { ends = h.ends; out = h.out; memory = memory; found = h.found }

-- what line i does by what it found
abbrev pub done_by : Effects → HostRun → ℕ → Step
done_by does h i = step_by i false (does i (h.found i))

-- the cells that line i may change hold what it left there, and where it faults they are as it found them
abbrev pub HasDone : GraphValue → Effects → HostRun → ℕ → Type 0
HasDone g does h i = (c p : ℕ) → may_change g i c p ≡ true → h.memory c p ≡ cells_after (h.found i) (done_by does h i).changes c p

-- line i has ended so, and is out no more
abbrev pub put_back : HostRun → ℕ → End → HostRun
put_back h i x = record { ends = λ k. cond (k == i) x (h.ends k); out = λ k. cond (k == i) false (h.out k); memory = h.memory; found = h.found }

-- a run of lines that do so from this memory: lines are taken, those that are out change the memory in any number of steps and are put back, and lines end that are cancelled
pub data IsHostRun (g : GraphValue) (does : Effects) (first : Cells) : HostRun → Type 0 where
  begins : {n : HostRun} → n ≡ begun first → IsHostRun g does first n
  takes : {n : HostRun} → (h : HostRun) → (i : ℕ) → IsHostRun g does first h → MayTake g h i → n ≡ taken h i → IsHostRun g does first n
  changes : {n : HostRun} → (h : HostRun) → (i : ℕ) → (memory : Cells) → IsHostRun g does first h →
      h.out i ≡ true → ChangesOwn g i h.memory memory → n ≡ with_memory h memory → IsHostRun g does first n
  puts : {n : HostRun} → (h : HostRun) → (i : ℕ) → IsHostRun g does first h →
      h.out i ≡ true → HasDone g does h i → n ≡ put_back h i (done_by does h i).ends → IsHostRun g does first n
  passes : {n : HostRun} → (h : HostRun) → (i : ℕ) → IsHostRun g does first h →
      IsDue g h i → cancelled_in g h i ≡ true → n ≡ put_back h i Cancelled → IsHostRun g does first n
