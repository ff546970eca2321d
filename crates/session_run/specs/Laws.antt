-- The law of runs of sessions: the graphs and the slots leave one answer.
use Rattle.std.specs.Prelude.{◌≡◌, ◌≢◌, ℕ, List, [], ◌∷◌, ◌++◌}
use Rattle.session_run.specs.declared.session.RunFault.{RunFault}
use Rattle.session_run.specs.declared.session.RunFault.TheVariants.{Slots, NoMemory}
use Rattle.session_run.specs.Linked.{LinkedGraph}
use Rattle.session_run.specs.Session.{CanRun, Stops}

pub record OneEnd (slots : ℕ) (gs : List LinkedGraph) : Type 0 where
  pub not_both : (f : RunFault) → f ≢ NoMemory → CanRun slots gs → Stops slots gs f → ⊥
  -- the first graph that is refused is one
  pub one_graph : (e f : RunFault) → e ≢ NoMemory → f ≢ NoMemory → (s : Stops slots gs e) (t : Stops slots gs f) → (s.before ≡ t.before) × (s.graph ≡ t.graph)
  -- it is not both refused by a rule and short of slots, and the slots that are needed are one number
  pub one_kind : (e : RunFault) (n : ℕ) → e ≢ NoMemory → Stops slots gs e → Stops slots gs (Slots n) → e ≡ Slots n
  -- where all can run, each can behind those before it
  pub each_runs : (before behind : List LinkedGraph) (x : LinkedGraph) → gs ≡ before ++ x ∷ behind → CanRun slots gs → CanRun slots (before ++ x ∷ [])
  -- and the one that is refused is the first that cannot
  pub first_is : (f : RunFault) → f ≢ NoMemory → (s : Stops slots gs f) → (before behind : List LinkedGraph) (x : LinkedGraph) → gs ≡ before ++ x ∷ behind → CanRun slots before → (CanRun slots (before ++ x ∷ []) → ⊥) → (s.before ≡ before) × (s.graph ≡ x)
