-- A step of the pass over intervals.
use Rattle.std.specs.Prelude.{◌≡◌, ◌≢◌, ℕ, ◌<◌, ◌≤◌, ◌⊎◌, ◌==◌, Bool, true, cond, List, length}
use Rattle.space_classes.specs.declared.classes.Span.{Span}
use Rattle.space_classes.specs.Classes.{label}

-- the class of space k is put into that of space o; where no interval of k was seen, k alone
pub record Joins (seen : Bool) (k o : ℕ) (old new : List ℕ) : Type 0 where
  pub count : length new ≡ length old
  pub same : label new k ≡ label new o
  -- spaces of one class stay so
  pub kept : (i j : ℕ) → i < length old → j < length old → (seen ≡ true) ⊎ ((i ≢ k) × (j ≢ k)) → label old i ≡ label old j → label new i ≡ label new j
  -- a space stays in its class, or goes with k
  pub moved : (i : ℕ) → i < length old → (label new i ≡ label old i) ⊎ ((label new i ≡ label old o) × (label old i ≡ label old k))

-- it is, where interval x has a point in common with the furthest one before
pub data Meets (seen : Bool) (x far : Span) (old new : List ℕ) : Type 0 where
  joins : x.first ≤ far.last → Joins seen x.owner far.owner old new → Meets seen x far old new
  apart : far.last < x.first → new ≡ old → Meets seen x far old new

-- that of two intervals which reaches further stands at r
pub data IsFurther (x far : Span) (n f r : ℕ) : Type 0 where
  here : far.last < x.last → r ≡ n → IsFurther x far n f r
  there : x.last ≤ far.last → r ≡ f → IsFurther x far n f r

-- one label stands in place of another
pub record IsRelabelled (from to : ℕ) (old new : List ℕ) : Type 0 where
  pub count : length new ≡ length old
  pub each : (i : ℕ) → i < length old → label new i ≡ cond (label old i == from) to (label old i)
