-- What each explanation says of a graph.
use Rattle.std.specs.Prelude.{◌≡◌, ◌≢◌, ℕ, ◌+◌, ◌<◌, ◌≤◌, not, [], length, Contains, IsTrue, Some, None, MatchOption, IfSome, List, slice_get, find}
use Rattle.graph_terms.specs.declared.verb.Line.{Line}
use Rattle.graph_terms.specs.declared.verb.Edge.{Edge}
use Rattle.graph_terms.specs.Edges.{edges}
use Rattle.explanations.specs.declared.meetings.Meeting.{Meeting}
use Rattle.graph_terms.specs.Graph.{GraphValue, locks, columns, data_columns, line_passes, is_phase, is_merge_ignore, never_comes}
use Rattle.graph_meaning.specs.Path.{HasPath}
use Rattle.graph_terms.specs.Reservations.{Acquires, Releases}
use Rattle.graph_meaning.specs.Rules.{Section, Exempt, modes_commute}
use Rattle.race_check.specs.declared.checked.CheckRefusal.{CheckRefusal}
use Rattle.race_check.specs.declared.checked.CheckRefusal.TheVariants as refusal
use Rattle.race_check.specs.Topmost.{IsTopmostRace}
use Rattle.explanations.specs.Paths.{IsShortest}
use Rattle.explanations.specs.Shared.{AreUses, IsLeastShared}
use Rattle.explanations.specs.Meetings.{IsNearestCommon}
use Rattle.tried_advice.specs.Forms.{tried_forms}
use Rattle.tried_advice.specs.Orders.{Orders, NoneOrders}
use Rattle.explain_graph.specs.declared.reasons.CycleReason.{CycleReason}
use Rattle.explain_graph.specs.declared.reasons.UnreleasedReason.{UnreleasedReason}
use Rattle.explain_graph.specs.declared.reasons.SectionReason.{SectionReason}
use Rattle.explain_graph.specs.declared.reasons.DescendsReason.{DescendsReason}
use Rattle.explain_graph.specs.declared.reasons.ReleaseReason.{ReleaseReason}
use Rattle.explain_graph.specs.declared.reasons.ConflictReason.{ConflictReason}
use Rattle.explain_graph.specs.declared.reasons.OtherRace.{OtherRace}
use Rattle.explain_graph.specs.declared.explanation.Explanation.{Explanation}
use Rattle.explain_graph.specs.declared.explanation.Explanation.TheVariants.{Cycle, Unreleased, Section as OutsideSection, Descends, ReleaseFault, Race}

-- a shortest cycle through line i
pub record IsCycleReason (g : GraphValue) (i : ℕ) (r : CycleReason) : Type 0 where
  pub line : r.line ≡ i
  pub cycle : IsShortest g i i r.cycle.items

-- line i acquires the reservation, and no line releases it, or the one that does does not wait for it
pub record IsUnreleasedReason (g : GraphValue) (i : ℕ) (r : UnreleasedReason) : Type 0 where
  pub acquire : r.acquire ≡ i
  pub lock : Acquires g i r.lock
  pub release : MatchOption r.release ((k : ℕ) → Releases g k i → ⊥) (λ k. Releases g k i × (HasPath g i k → ⊥))

-- line i releases the acquire, and waits for line j, which neither is that nor comes before it, and does not come after it either or is a phase that never comes
pub record IsSectionReason (g : GraphValue) (i j : ℕ) (r : SectionReason) : Type 0 where
  pub release : r.release ≡ i
  pub line : r.line ≡ j
  pub releases : Releases g i r.acquire
  pub path : IsShortest g j i r.path.items
  pub differ : j ≢ r.acquire
  pub not_before : HasPath g j r.acquire → ⊥
  pub entered : MatchOption r.entered (HasPath g r.acquire j → ⊥) (λ p. IsShortest g r.acquire j p.items × IsTrue (line_passes is_phase g j) × IsTrue (never_comes g j))

-- line j lies in the section of line i, and the reservation that it acquires is not declared below that of line i
pub record IsDescendsReason (g : GraphValue) (i j : ℕ) (r : DescendsReason) : Type 0 where
  pub outer : r.outer ≡ i
  pub inner : r.inner ≡ j
  pub outer_lock : Acquires g i r.outer_lock
  pub inner_lock : Acquires g j r.inner_lock
  pub not_below : r.inner_lock ≤ r.outer_lock
  pub release : Releases g r.release i
  pub entered : IsShortest g i j r.entered.items
  pub left : IsShortest g j r.release r.left.items

-- line i releases the acquire, and there is no event behind its `on`, or this is the first of them that is no merge that ignores faults
pub record IsReleaseReason (g : GraphValue) (i : ℕ) (r : ReleaseReason) : Type 0 where
  pub release : r.release ≡ i
  pub releases : Releases g i r.acquire
  pub line : Line
  pub at : slice_get g.lines i ≡ Some line
  pub on : r.on ≡ find (λ m. not (line_passes is_merge_ignore g m)) line.on
  pub bare : r.on ≡ None → line.on ≡ []

-- the acquires in whose sections a line lies
pub record AreSectionsOf (g : GraphValue) (i : ℕ) (acquires : List ℕ) : Type 0 where
  pub sound : (q : ℕ) → Contains acquires q → (l : ℕ) × Section g l q i
  pub complete : (l q : ℕ) → Section g l q i → Contains acquires q

-- the race whose later line stands first, which is not that of lines i and j, and where its lines meet
pub record IsOtherRace (g : GraphValue) (i j : ℕ) (r : OtherRace) : Type 0 where
  pub first_known : r.first < length g.lines
  pub second_known : r.second < length g.lines
  pub topmost : IsTopmostRace g r.first r.second
  pub another : r.first ≡ i → r.second ≡ j → ⊥
  pub shared : IsLeastShared g (AreUses g r.first r.second) r.shared

-- where lines i and j meet, that neither waits for the other, which line both wait for, whether what they do there may come in either order, the sections in which they lie, which do not set them apart, and what orders them and breaks no rule, or that nothing does which was tried; and the race whose later line stands first, unless it is this one
pub record IsConflictReason (g : GraphValue) (i j : ℕ) (r : ConflictReason) : Type 0 where
  pub first : r.first ≡ i
  pub second : r.second ≡ j
  pub shared : IsLeastShared g (AreUses g i j) r.race.shared
  pub forward : HasPath g i j → ⊥
  pub backward : HasPath g j i → ⊥
  pub meeting : MatchOption r.race.meeting ((k : ℕ) → HasPath g k i → HasPath g k j → ⊥) (IsNearestCommon g i j)
  pub commutes : r.commutes ≡ modes_commute r.race.shared.one.mode r.race.shared.other.mode
  pub first_sections : AreSectionsOf g i r.sections.first.items
  pub second_sections : AreSectionsOf g j r.sections.second.items
  pub not_exempt : Exempt g i j → ⊥
  pub advice : MatchOption r.advice (NoneOrders g i j (tried_forms g i j r.sections.first.items r.sections.second.items)) (Orders g i j)
  pub topmost : MatchOption r.topmost (IsTopmostRace g i j) (IsOtherRace g i j)

-- an explanation of just this refusal
abbrev pub IsExplanation : GraphValue → CheckRefusal → Explanation → Type 0
IsExplanation g (refusal.Cycle i) (Cycle r) = IsCycleReason g i r
IsExplanation g (refusal.Unreleased i) (Unreleased r) = IsUnreleasedReason g i r
IsExplanation g (refusal.Section i j) (OutsideSection r) = IsSectionReason g i j r
IsExplanation g (refusal.Descends i j) (Descends r) = IsDescendsReason g i j r
IsExplanation g (refusal.ReleaseFault i) (ReleaseFault r) = IsReleaseReason g i r
IsExplanation g (refusal.Race i j) (Race r) = IsConflictReason g i j r
IsExplanation g why r = ⊥

-- edges of a graph
abbrev pub AreEdges : GraphValue → List Edge → Type 0
AreEdges g es = (e : Edge) → Contains es e → Contains (edges g) e

abbrev pub NamesMeeting : GraphValue → Meeting → Type 0
NamesMeeting g m = (m.line < length g.lines) × AreEdges g m.to_first.items × AreEdges g m.to_second.items

abbrev pub NamesRace : GraphValue → OtherRace → Type 0
NamesRace g r = (r.first < length g.lines) × (r.second < length g.lines) × (r.shared.one.column < length (columns g) + length (data_columns g))

-- the numbers of an explanation are those of lines, reservations and columns, and its edges are edges of the graph
abbrev pub NamesItems : GraphValue → Explanation → Type 0
NamesItems g (Cycle r) = (r.line < length g.lines) × AreEdges g r.cycle.items
NamesItems g (Unreleased r) = (r.acquire < length g.lines) × (r.lock < length (locks g))
NamesItems g (OutsideSection r) = (r.release < length g.lines) × (r.line < length g.lines) × AreEdges g r.path.items × IfSome r.entered (λ p. AreEdges g p.items)
NamesItems g (Descends r) = (r.outer < length g.lines) × (r.inner < length g.lines) × (r.outer_lock < length (locks g)) × (r.inner_lock < length (locks g)) × AreEdges g r.entered.items × AreEdges g r.left.items
NamesItems g (ReleaseFault r) = r.release < length g.lines
NamesItems g (Race r) = (r.first < length g.lines) × (r.second < length g.lines) × (r.race.shared.one.column < length (columns g) + length (data_columns g)) × IfSome r.race.meeting (NamesMeeting g) × IfSome r.topmost (NamesRace g)
