-- What a run by one thread keeps, of the core and of the memory of the host.
use Rattle.std.specs.Prelude.{◌≡◌, ℕ, ◌+◌, ◌-◌, ◌≤◌, ◌⊎◌, Bool, true, false, length}
use Rattle.graph_terms.specs.declared.outcome.End.{End}
use Rattle.graph_terms.specs.declared.outcome.End.TheVariants.{Cancelled}
use Rattle.graph_terms.specs.Graph.{GraphValue, is_call, line_passes}
use Rattle.graph_meaning.specs.Effect.{Cells, Effects, cells_after}
use Rattle.graph_meaning.specs.Evaluation.{is_ended, end_by, made_by}
use Rattle.graph_meaning.specs.Laws.{KeepsToAccesses}
use Rattle.run_state.specs.Run.{Ended, stage_at, end_so_far}
use Rattle.run_core.specs.Core.{CoreValue}
use Rattle.run_core.specs.Works.{WorkValue, FinishedValue}
use Rattle.run_core.specs.Finishing.{NothingOut}
use Rattle.host_bodies.specs.Host.{HostRun, IsHostRun}
use Rattle.call_bodies.specs.Bodies.{host_does, verdict_where}

-- a core of a host, of which no line is out
pub record HostCore (c : CoreValue) : Type 0 where
  pub hosted : c.hosted ≡ true
  pub nothing_out : NothingOut c

-- how much is left: a line counts until it is issued, and until it has ended
abbrev pub left : CoreValue → ℕ
left c = (length c.graph.lines - length c.handles) + (length c.graph.lines - c.run.clock)

-- what is told of the lines that have ended: they have an end, and those that are no calls faulted where these do
pub record Told (c : CoreValue) (faults : ℕ → Bool) : Type 0 where
  pub sure : (k : ℕ) (x : End) → stage_at c.run.stages k ≡ Ended x → is_ended x ≡ true
  pub others : (k : ℕ) (x : End) → stage_at c.run.stages k ≡ Ended x → line_passes is_call c.graph k ≡ false → (x ≡ Cancelled) ⊎ (x ≡ end_by (verdict_where (faults k)))

-- a run by a host stands as the core does, with this memory
pub record Mirrors (h : HostRun) (c : CoreValue) (memory : Cells) : Type 0 where
  pub ends : (k : ℕ) → h.ends k ≡ end_so_far (stage_at c.run.stages k)
  pub out : (k : ℕ) → h.out k ≡ false
  pub memory_is : (n p : ℕ) → h.memory n p ≡ memory n p

-- there is such a run, from this memory, by lines that do so
abbrev pub Follows : GraphValue → Effects → Cells → CoreValue → Cells → Type 0
Follows g bodies first c memory = (faults : ℕ → Bool) → Told c faults → (h : HostRun) × IsHostRun g (host_does g bodies faults) first h × Mirrors h c memory

-- from one core and memory to another by bodies that do the same, of whichever graph
pub record GoesOn (old : CoreValue) (old_memory : Cells) (old_does : GraphValue → Effects) (new : CoreValue) (new_memory : Cells) (new_does : GraphValue → Effects) : Type 0 where
  pub graph : new.graph ≡ old.graph
  pub host : HostCore new
  pub does : new_does ≡ old_does
  pub less : left new ≤ left old
  pub follows : (first : Cells) → KeepsToAccesses old.graph (old_does old.graph) → Follows old.graph (old_does old.graph) first old old_memory → Follows old.graph (old_does old.graph) first new new_memory

-- a line was performed: the body of a call that is not cancelled was run on the memory and told its verdict, and nothing else changed this
pub record HasRun (g : GraphValue) (w : WorkValue) (old : Cells) (does : Effects) (f : FinishedValue) (new : Cells) : Type 0 where
  pub called : w.is_cancelled ≡ false → line_passes is_call g w.line ≡ true →
      (f.ends ≡ end_by (does w.line old).verdict) × ((c p : ℕ) → new c p ≡ cells_after old (made_by (does w.line old).verdict (does w.line old).changes) c p)
  pub cancelled : w.is_cancelled ≡ true → (c p : ℕ) → new c p ≡ old c p
  pub other : line_passes is_call g w.line ≡ false → (c p : ℕ) → new c p ≡ old c p
