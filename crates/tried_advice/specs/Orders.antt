-- What a form has to do to be advised.
use Rattle.std.specs.Prelude.{ℕ, List, Contains}
use Rattle.graph_terms.specs.Graph.{GraphValue}
use Rattle.graph_terms.specs.Fits.{IsGraph}
use Rattle.graph_meaning.specs.Path.{HasPath}
use Rattle.graph_meaning.specs.Rules.{Everywhere, EverywhereTwice, NoCycleAt, ReleasedAt, SectionAt, DescendsAt, ReleaseFaultAt, RaceAt}
use Rattle.tried_advice.specs.declared.form.Form.{Form}
use Rattle.tried_advice.specs.Forms.{applied}

-- all rules hold but that of races
pub record HoldsButRaces (g : GraphValue) : Type 0 where
  pub acyclic : Everywhere (NoCycleAt g)
  pub released : Everywhere (ReleasedAt g)
  pub sections : EverywhereTwice (SectionAt g)
  pub descends : EverywhereTwice (DescendsAt g)
  pub release_faults : Everywhere (ReleaseFaultAt g)

-- each of these rules that holds of one graph holds of another
pub record KeepsRules (g h : GraphValue) : Type 0 where
  pub acyclic : Everywhere (NoCycleAt g) → Everywhere (NoCycleAt h)
  pub released : Everywhere (ReleasedAt g) → Everywhere (ReleasedAt h)
  pub sections : EverywhereTwice (SectionAt g) → EverywhereTwice (SectionAt h)
  pub descends : EverywhereTwice (DescendsAt g) → EverywhereTwice (DescendsAt h)
  pub release_faults : Everywhere (ReleaseFaultAt g) → Everywhere (ReleaseFaultAt h)

-- where a form is followed, the graph is one, a path leads from line i to line j, which race no more, and no rule breaks that held
pub record Orders (g : GraphValue) (i j : ℕ) (form : Form) : Type 0 where
  pub fits : IsGraph (applied g form)
  pub path : HasPath (applied g form) i j
  pub no_race : RaceAt (applied g form) i j
  pub keeps : KeepsRules g (applied g form)

-- none of some forms does so
abbrev pub NoneOrders : GraphValue → ℕ → ℕ → List Form → Type 0
NoneOrders g i j forms = (form : Form) → Contains forms form → Orders g i j form → ⊥
