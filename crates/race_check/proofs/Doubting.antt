-- The rules of sections at lines that are not doubted.
use Rattle.std.proofs.Common.{◌≡◌, ℕ, ◌+◌, ◌<◌, ◌≤◌, Bool, false, List, length, arith}
use Rattle.graph_terms.specs.Graph.{GraphValue}
use Rattle.graph_terms.specs.Fits.{IsGraph}
use Rattle.graph_terms.specs.Reservations.{Releases}
use Rattle.graph_meaning.specs.Rules.{ReleasedAt, SectionAt, DescendsAt}
use Rattle.sweep_base.specs.Noted.{is_noted}
use Rattle.section_sweeps.specs.Found.{AreDoubted}
use Rattle.sweep_base.specs.BlockRules.{HoldsIn}
use Rattle.race_check.proofs.RuleFacts.{acquire_below, released_acquire, releases_known}

module _ (g : GraphValue) (doubted : List Bool) (sound : AreDoubted g doubted) (first end : ℕ) where
  pub released_sure : ((i : ℕ) → first ≤ i → i < end → is_noted doubted i ≡ false) → (i : ℕ) → first ≤ i → i < end → ReleasedAt g i
  released_sure none i begins ends l a = (sound i l a (none i begins ends)).released l a

  pub descends_sure : ((b : ℕ) → b < 64 → first + b < length g.lines → first + b < end) → ((i : ℕ) → first ≤ i → i < end → is_noted doubted i ≡ false) → HoldsIn (DescendsAt g) first (length g.lines)
  descends_sure within none b m few low l k sec a =
      (sound (first + b) l sec.acquires (none (first + b) (omega arith) (within b few (acquire_below g (first + b) l sec.acquires)))).descends m l k sec a

  pub sections_sure : IsGraph g → ((b : ℕ) → b < 64 → first + b < length g.lines → first + b < end) → ((r q : ℕ) → first ≤ r → r < end → Releases g r q → is_noted doubted q ≡ false) → HoldsIn (SectionAt g) first (length g.lines)
  sections_sure fits within none b m few low q rel path =
      let a = released_acquire g fits (first + b) q rel in
      (sound q a.0 a.1 (none (first + b) q (omega arith) (within b few (releases_known g q (first + b) rel)) rel)).sections (first + b) m rel q rel path
