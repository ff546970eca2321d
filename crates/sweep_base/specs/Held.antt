-- In which sections the lines lie, by one acquire for each reservation.
use Rattle.std.specs.Prelude.{◌≡◌, ◌≢◌, ◌==◌, ℕ, ◌<◌, ◌⊎◌, false, cond, List, [], ◌∷◌, length, Option, Some, None, Vec, slice_get}
use Rattle.std.specs.Global.{Global}
use Rattle.std.specs.Option.{option_map_or}
use Rattle.graph_terms.specs.Graph.{GraphValue}
use Rattle.graph_meaning.specs.Rules.{Section}
use Rattle.graph_terms.specs.Reservations.{both_shared}
use Rattle.sweep_base.specs.declared.line_sections.Held.{Held}
use Rattle.sweep_base.specs.declared.line_sections.Kept.{Kept}

-- the first acquire of reservation l in a list
abbrev pub kept_in : List Kept → ℕ → Option ℕ
kept_in [] l = None
kept_in (k ∷ ks) l = cond (k.lock == l) (Some k.acquire) (kept_in ks l)

-- the list of line i
abbrev pub list_of : Held → ℕ → List Kept
list_of h i = option_map_or (λ (v : Vec Kept Global). v.items) (slice_get h.lines.items i) []

-- the acquire that is kept for reservation l and line i
abbrev pub acquire_in : Held → ℕ → ℕ → Option ℕ
acquire_in h l i = kept_in (list_of h i) l

-- where an acquire is kept the line lies in its section, and where none is kept it lies in no section of the reservation
pub record IsHeld (g : GraphValue) (h : Held) : Type 0 where
  pub is : (l i q : ℕ) → acquire_in h l i ≡ Some q → Section g l q i
  pub none : (l i q : ℕ) → i < length g.lines → acquire_in h l i ≡ None → Section g l q i → ⊥

-- acquire q of reservation l is kept for line i besides, and what was kept is kept still
pub record IsKeeping (old new : Held) (l i q : ℕ) : Type 0 where
  pub size : length new.lines.items ≡ length old.lines.items
  pub is : (k j p : ℕ) → acquire_in new k j ≡ Some p → (acquire_in old k j ≡ Some p) ⊎ ((k ≡ l) × (j ≡ i) × (p ≡ q))
  pub grown : (k j : ℕ) → (acquire_in old k j ≡ None → ⊥) → acquire_in new k j ≡ None → ⊥
  pub kept : acquire_in new l i ≡ None → ⊥

-- two lines lie in sections of two different acquires of one reservation, not both shared
abbrev pub LieApart : GraphValue → ℕ → ℕ → Type 0
LieApart g i j = (l : ℕ) × (q : ℕ) × (k : ℕ) × (q ≢ k) × (both_shared g q k ≡ false) × Section g l q i × Section g l k j

-- two acquires are both there, they differ, and they are not both shared
abbrev pub Exclude : GraphValue → Option ℕ → Option ℕ → Type 0
Exclude g (Some q) (Some k) = (q ≢ k) × (both_shared g q k ≡ false)
Exclude g (Some q) None = ⊥
Exclude g None (Some k) = ⊥
Exclude g None None = ⊥
