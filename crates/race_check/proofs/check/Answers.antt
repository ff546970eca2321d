-- An accepted graph is refused for want of memory alone.
use Rattle.std.proofs.Common.{◌≡◌, refl}
use Rattle.graph_terms.specs.Graph.{GraphValue}
use Rattle.graph_meaning.specs.Rules.{Accepted}
use Rattle.race_check.specs.Refusal.{IsRefusal}
use Rattle.race_check.specs.declared.checked.CheckRefusal.{CheckRefusal}
use Rattle.race_check.specs.declared.checked.CheckRefusal.TheVariants.{Cycle, Unreleased, Section, Descends, ReleaseFault, Race, NoMemory}
use Rattle.race_check.proofs.check.Goals as goal

no_refusal : (g : GraphValue) (why : CheckRefusal) → Accepted g → IsRefusal g why → why ≡ NoMemory
no_refusal g (Cycle i) a r = absurd (r.here (a.acyclic i))
no_refusal g (Unreleased i) a r = absurd (r.1.here (a.released i))
no_refusal g (Section i j) a r = absurd (r.2.here (a.sections i j))
no_refusal g (Descends i j) a r = absurd (r.3.here (a.descends i j))
no_refusal g (ReleaseFault i) a r = absurd (r.4.here (a.release_faults i))
no_refusal g (Race i j) a r = absurd (r.5.here (a.races i j))
no_refusal g NoMemory a r = refl

pub returns-in-Err-clause-complete : goal.returns-in-Err-clause-complete
returns-in-Err-clause-complete c accepted = no_refusal c.args.graph c.in-Err.why accepted c.in-Err.ensures.refused
