-- What an explanation names.
use Rattle.std.proofs.Common.{ℕ, ◌<◌, inl, inr, List, [], ◌∷◌, length, sym, subst, arith}
use Rattle.std.specs.Prelude.{Contains, Option, Some, None, IsTrue, IfSome, MatchOption, Vec}
use Rattle.std.specs.Global.{Global}
use Rattle.basics.proofs.ListFacts.{contains_none, contains_cases}
use Rattle.graph_terms.specs.declared.verb.Edge.{Edge}
use Rattle.graph_terms.specs.Graph.{GraphValue, line_passes, is_phase, never_comes}
use Rattle.graph_terms.specs.Edges.{edges}
use Rattle.graph_terms.specs.Fits.{IsGraph}
use Rattle.graph_meaning.specs.Laws.{EdgesBetweenLines}
use Rattle.graph_meaning.specs.LineLaws.{AllAccessesFit}
use Rattle.graph_meaning.specs.Path.{HasPath}
use Rattle.graph_terms.proofs.Public.{acquired_lock_known}
use Rattle.race_check.specs.declared.checked.CheckRefusal.{CheckRefusal}
use Rattle.race_check.specs.declared.checked.CheckRefusal.TheVariants as refusal
use Rattle.race_check.specs.Refusal.{NamesLines}
use Rattle.race_check.specs.Topmost.{IsTopmostRace}
use Rattle.explanations.specs.Paths.{Leads, IsShortest}
use Rattle.explanations.specs.Meetings.{IsNearestCommon}
use Rattle.explanations.specs.declared.meetings.Meeting.{Meeting}
use Rattle.explain_graph.specs.declared.explanation.Explanation.{Explanation}
use Rattle.explain_graph.specs.declared.explanation.Explanation.TheVariants.{Cycle, Unreleased, Section as OutsideSection, Descends, ReleaseFault, Race}
use Rattle.explain_graph.specs.declared.reasons.OtherRace.{OtherRace}
use Rattle.explain_graph.specs.Explanation.{IsExplanation, IsOtherRace, AreEdges, NamesMeeting, NamesRace, NamesItems}

pub leads_edges : (all : List Edge) (i j : ℕ) (p : List Edge) → Leads all i j p → (e : Edge) → Contains p e → Contains all e
leads_edges all i j [] l e c = absurd (contains_none e c)
leads_edges all i j (x ∷ p) l e c = elim (contains_cases x p e c) [ inl s ↦ subst (λ z. Contains all z) s l.0 | inr r ↦ leads_edges all x.to j p l.2 e r ]

pub path_edges_of : (g : GraphValue) (i j : ℕ) (p : List Edge) → IsShortest g i j p → AreEdges g p
path_edges_of g i j p s = leads_edges (edges g) i j p s.path.leads

path_line : (g : GraphValue) → EdgesBetweenLines → IsGraph g → (k i : ℕ) (p : List Edge) → IsShortest g k i p → k < length g.lines
path_line g between graph k i [] s = let some : 0 < length {A = Edge} [] = s.path.some in absurd (omega arith)
path_line g between graph k i (e ∷ p) s = subst (λ z. z < length g.lines) s.path.leads.1 (between g e graph s.path.leads.0).0

meeting_names : (g : GraphValue) → EdgesBetweenLines → IsGraph g → (i j : ℕ) (o : Option Meeting) → MatchOption o ((k : ℕ) → HasPath g k i → HasPath g k j → ⊥) (IsNearestCommon g i j) → IfSome o (NamesMeeting g)
meeting_names g between graph i j None m = tt
meeting_names g between graph i j (Some x) m = (path_line g between graph x.line i x.to_first.items m.to_first, path_edges_of g x.line i x.to_first.items m.to_first, path_edges_of g x.line j x.to_second.items m.to_second)

entered_names : (g : GraphValue) (i j : ℕ) (P : Type 0) (Q : Vec Edge Global → Type 0) (o : Option (Vec Edge Global)) → MatchOption o P (λ p. IsShortest g i j p.items × Q p) → IfSome o (λ p. AreEdges g p.items)
entered_names g i j P Q None m = tt
entered_names g i j P Q (Some p) m = path_edges_of g i j p.items m.0

topmost_names : (g : GraphValue) → AllAccessesFit → IsGraph g → (i j : ℕ) (o : Option OtherRace) → MatchOption o (IsTopmostRace g i j) (IsOtherRace g i j) → IfSome o (NamesRace g)
topmost_names g fit graph i j None m = tt
topmost_names g fit graph i j (Some r) m = (m.first_known, m.second_known, (fit g r.first r.shared.one graph m.shared.shared.0).column)

pub named : (g : GraphValue) → EdgesBetweenLines → AllAccessesFit → IsGraph g → (why : CheckRefusal) (x : Explanation) → NamesLines g why → IsExplanation g why x → NamesItems g x
named g between fit graph (refusal.Cycle i) (Cycle r) l x = (subst (λ z. z < length g.lines) (sym x.line) l, path_edges_of g i i r.cycle.items x.cycle)
named g between fit graph (refusal.Unreleased i) (Unreleased r) l x = (subst (λ z. z < length g.lines) (sym x.acquire) l, acquired_lock_known g graph i r.lock x.lock)
named g between fit graph (refusal.Section i j) (OutsideSection r) l x = (
  subst (λ z. z < length g.lines) (sym x.release) l.0,
  subst (λ z. z < length g.lines) (sym x.line) l.1,
  path_edges_of g j i r.path.items x.path,
  entered_names g r.acquire j (HasPath g r.acquire j → ⊥) (λ p. IsTrue (line_passes is_phase g j) × IsTrue (never_comes g j)) r.entered (regroup r.entered x.entered),
)
  where
    regroup : (o : Option (Vec Edge Global)) → MatchOption o (HasPath g r.acquire j → ⊥) (λ p. IsShortest g r.acquire j p.items × IsTrue (line_passes is_phase g j) × IsTrue (never_comes g j)) →
        MatchOption o (HasPath g r.acquire j → ⊥) (λ p. IsShortest g r.acquire j p.items × (IsTrue (line_passes is_phase g j) × IsTrue (never_comes g j)))
    regroup None m = m
    regroup (Some p) m = (m.0, (m.1, m.2))
named g between fit graph (refusal.Descends i j) (Descends r) l x = (
  subst (λ z. z < length g.lines) (sym x.outer) l.0,
  subst (λ z. z < length g.lines) (sym x.inner) l.1,
  acquired_lock_known g graph i r.outer_lock x.outer_lock,
  acquired_lock_known g graph j r.inner_lock x.inner_lock,
  path_edges_of g i j r.entered.items x.entered,
  path_edges_of g j r.release r.left.items x.left,
)
named g between fit graph (refusal.ReleaseFault i) (ReleaseFault r) l x = subst (λ z. z < length g.lines) (sym x.release) l
named g between fit graph (refusal.Race i j) (Race r) l x = (
  subst (λ z. z < length g.lines) (sym x.first) l.0,
  subst (λ z. z < length g.lines) (sym x.second) l.1,
  (fit g i r.race.shared.one graph x.shared.shared.0).column,
  meeting_names g between graph i j r.race.meeting x.meeting,
  topmost_names g fit graph i j r.topmost x.topmost,
)
named g between fit graph why x l h = absurd h
