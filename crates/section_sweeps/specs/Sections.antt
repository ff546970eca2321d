-- The rules of reservations, and in which sections the lines lie.
use Rattle.std.specs.Prelude.{◌≡◌, ℕ, length, Some, None}
use Rattle.graph_terms.specs.Graph.{GraphValue}
use Rattle.graph_meaning.specs.Rules.{Everywhere, EverywhereTwice, ReleasedAt, SectionAt, DescendsAt, Section}
use Rattle.graph_terms.specs.Reservations.{Releases}
use Rattle.sweep_base.specs.declared.line_sections.Held.{Held}
use Rattle.sweep_base.specs.Held.{IsHeld, acquire_in}

-- the rules of sections hold, and this is where the lines lie
pub record AreSections (g : GraphValue) (h : Held) : Type 0 where
  pub released : Everywhere (ReleasedAt g)
  pub sections : EverywhereTwice (SectionAt g)
  pub descends : EverywhereTwice (DescendsAt g)
  pub held : IsHeld g h

-- an acquire of reservation l is kept for line i
abbrev pub IsKept : Held → ℕ → ℕ → Type 0
IsKept h l i = acquire_in h l i ≡ None → ⊥

-- there is a list for each line, and what is kept is so
pub record AreHeldSoFar (g : GraphValue) (h : Held) : Type 0 where
  pub size : length h.lines.items ≡ length g.lines
  pub is : (l i q : ℕ) → acquire_in h l i ≡ Some q → Section g l q i

-- what was kept is kept still
abbrev pub IsGrown : Held → Held → Type 0
IsGrown old new = (l i : ℕ) → IsKept old l i → IsKept new l i

-- the rules hold of the sections of one acquire, and each line in one is kept
pub record IsSectionKept (g : GraphValue) (h : Held) (q : ℕ) : Type 0 where
  pub released : ReleasedAt g q
  pub sections : (r j : ℕ) → Releases g r q → SectionAt g r j
  pub descends : (j : ℕ) → DescendsAt g q j
  pub kept : (l i : ℕ) → Section g l q i → IsKept h l i
