-- The effects that a run may be of, and those of a graph's verbs where a host says of calls that they faulted.
use Rattle.std.specs.Prelude.{◌≡◌, ℕ, Bool, cond, ◌&&◌, [], Contains}
use Rattle.graph_terms.specs.declared.outcome.Verdict.TheVariants.{Fine, Fault}
use Rattle.graph_terms.specs.Access.{accesses}
use Rattle.graph_terms.specs.Graph.{GraphValue, space_at, is_call, line_passes}
use Rattle.graph_terms.specs.Reservations.{Acquires}
use Rattle.graph_meaning.specs.Effect.{Cells, CellChange, Effect, Effects, effect}
use Rattle.graph_meaning.specs.Laws.{IsWithinAccess, AgreeWhereUsed}

-- effects that keep to the columns of a graph's lines: each change of a line lies within one of its accesses of columns and is of its mode, what
-- a line does rests on no cells but those that it reads there, or writes other than by reductions, and an acquire is fine
pub record KeepsToColumns (g : GraphValue) (does : Effects) : Type 0 where
  pub within : (i : ℕ) (cells : Cells) (x : CellChange) → Contains (does i cells).changes x → IsWithinAccess (space_at g) (accesses g i) x
  pub agrees : (i : ℕ) (cells others : Cells) → AgreeWhereUsed g i cells others → does i cells ≡ does i others
  pub acquires : (q l : ℕ) (cells : Cells) → Acquires g q l → (does q cells).verdict ≡ Fine

-- what a call does of which the host says that it faulted
abbrev pub faulted : Effect
faulted = record { verdict = Fault; changes = [] }

-- the effects of the graph's verbs, but that these calls fault
abbrev pub effect_by : (ℕ → Bool) → GraphValue → Effects
effect_by faults g i cells = cond (faults i && line_passes is_call g i) faulted (effect g i cells)
