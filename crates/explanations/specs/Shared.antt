-- Points at which two lines use one column, not both only to read.
use Rattle.std.specs.Prelude.{◌≡◌, ℕ, ◌<◌, ◌≤◌, ◌⊎◌, Bool, cond, nat_lt, ◌==◌, ◌&&◌, ◌||◌, Contains, IsTrue, Option, Some, None, MatchOption}
use Rattle.index_spaces.specs.Space.{has_point}
use Rattle.graph_terms.specs.declared.verb.Access.{Access}
use Rattle.graph_terms.specs.Graph.{GraphValue, space_at}
use Rattle.graph_terms.specs.Access.{all_accesses, modes_clash}
use Rattle.explanations.specs.declared.races.SharedPoint.{SharedPoint}

-- two uses of one column, each over a space that has the point, in modes that clash
pub record MeetAt (g : GraphValue) (a b : Access) (p : ℕ) : Type 0 where
  pub column : a.column ≡ b.column
  pub one_point : IsTrue (has_point (space_at g a.space) p)
  pub other_point : IsTrue (has_point (space_at g b.space) p)
  pub clash : IsTrue (modes_clash a.mode b.mode)

-- a use by line i and one by line j
abbrev pub AreUses : GraphValue → ℕ → ℕ → Access → Access → Type 0
AreUses g i j a b = Contains (all_accesses g i) a × Contains (all_accesses g j) b

-- of these pairs of uses these two meet at the point, and no two meet in a lesser column or, in this column, at a lesser point
pub record IsLeastShared (g : GraphValue) (among : Access → Access → Type 0) (s : SharedPoint) : Type 0 where
  pub shared : among s.one s.other
  pub meet : MeetAt g s.one s.other s.point
  pub least : (a b : Access) (p : ℕ) → among a b → MeetAt g a b p → (s.one.column < a.column) ⊎ ((s.one.column ≡ a.column) × (s.point ≤ p))

-- the same, or none of these pairs meets at any point
abbrev pub IsLeastAmong : GraphValue → (Access → Access → Type 0) → Option SharedPoint → Type 0
IsLeastAmong g among found = MatchOption found ((a b : Access) (p : ℕ) → among a b → MeetAt g a b p → ⊥) (IsLeastShared g among)

-- the one of the lesser column, and of one column the one of the lesser point
abbrev pub is_before : SharedPoint → SharedPoint → Bool
is_before s t = nat_lt s.one.column t.one.column || ((s.one.column == t.one.column) && nat_lt s.point t.point)

abbrev pub lesser_of : Option SharedPoint → Option SharedPoint → Option SharedPoint
lesser_of None found = found
lesser_of (Some s) None = Some s
lesser_of (Some s) (Some t) = cond (is_before t s) (Some t) (Some s)
