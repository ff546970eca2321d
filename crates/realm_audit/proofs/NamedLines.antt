-- The numbers of a refusal are a place of the trace and a line of the graph.
use Rattle.std.proofs.Common.{ℕ, ◌<◌, List, length, subst}
use Rattle.std.proofs.lemmas.Option.{slice_get_within}
use Rattle.graph_terms.specs.Graph.{GraphValue}
use Rattle.graph_terms.specs.Fits.{IsGraph}
use Rattle.graph_meaning.specs.Laws.{EdgesBetweenLines}
use Rattle.realm_audit.specs.declared.refusal.AuditRefusal.{AuditRefusal}
use Rattle.realm_audit.specs.declared.refusal.AuditRefusal.TheVariants.{Repeat, Waits, Source, Overlap, Missing, NoMemory}
use Rattle.realm_audit.specs.Reading.{AreLines}
use Rattle.realm_audit.specs.Lawful.{IsRefusal, NamesLines}
use Rattle.realm_audit.proofs.EndFacts.{ended_below, source_edge}

pub refusal_names : EdgesBetweenLines → (g : GraphValue) → IsGraph g → (trace : List ℕ) → AreLines g trace → (why : AuditRefusal) → IsRefusal g trace why → NamesLines g trace why
refusal_names law g fits trace are (Repeat k) r = let at = r.1 in slice_get_within trace k at.0 at.1
refusal_names law g fits trace are (Waits k) r = let at = r.2 in slice_get_within trace k at.0 at.1
refusal_names law g fits trace are (Source k j) r =
    let at = (r.3).here in
    let e = source_edge g at.0 j at.2 in
    (slice_get_within trace k at.0 at.1, subst (λ n. n < length g.lines) e.2 (law g e.0 fits e.1).0)
refusal_names law g fits trace are (Overlap k q) r =
    let at = (r.4).here in
    let earlier = at.3.0 in
    (slice_get_within trace k at.0 at.1, are earlier.0 q earlier.2)
refusal_names law g fits trace are (Missing j) r = ended_below g j (r.1).here.0
refusal_names law g fits trace are NoMemory r = tt
