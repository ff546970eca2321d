-- The lines in the sections of a block of acquires, and outside of those of a block of releases.
use Rattle.std.specs.Prelude.{◌≡◌, ℕ, ◌+◌, ◌<◌, ◌↔◌, true, false, IsTrue}
use Rattle.graph_terms.specs.Graph.{GraphValue, line_passes, is_phase, never_comes}
use Rattle.graph_meaning.specs.Path.{HasPath}
use Rattle.graph_terms.specs.Reservations.{Releases}
use Rattle.graph_meaning.specs.Rules.{SectionAt}
use Rattle.sweep_base.specs.Bits.{bit_in}
use Rattle.section_sweeps.specs.PassedBlocks.{ArePassedOn, ArePassedBack, IsRelease}
use Rattle.race_check.specs.declared.inside.Inside.{Inside}
use Rattle.race_check.specs.declared.sections.Sides.{Sides}

-- line i lies on a path from line q to its release
pub record IsBetween (g : GraphValue) (q i : ℕ) : Type 0 where
  pub entered : HasPath g q i
  pub release : ℕ
  pub releases : Releases g release q
  pub left : HasPath g i release

-- the paths from the 64 lines from `first` on, and to their releases
pub record IsInside (g : GraphValue) (first : ℕ) (s : Inside) : Type 0 where
  pub behind_is : ArePassedOn g (λ q i. q ≡ i) first s.behind
  pub releases_is : ArePassedBack g (λ q r. Releases g r q) first s.to_releases

-- the bits of a word tell on which such paths line i lies
abbrev pub AreBetween : GraphValue → ℕ → ℕ → ℕ → Type 0
AreBetween g first i word = (b : ℕ) → b < 64 → (bit_in word b ≡ true) ↔ IsBetween g (first + b) i

-- the paths to the releases among the 64 lines from `first` on, and to and from their acquires
pub record AreSides (g : GraphValue) (first : ℕ) (s : Sides) : Type 0 where
  pub releases_is : ArePassedBack g (IsRelease g) first s.to_releases
  pub acquires_is : ArePassedBack g (λ r q. Releases g r q) first s.to_acquires
  pub behind_is : ArePassedOn g (λ r q. Releases g r q) first s.behind

-- a line is no phase that never comes
abbrev pub MayCome : GraphValue → ℕ → Type 0
MayCome g i = IsTrue (line_passes is_phase g i) → IsTrue (never_comes g i) → ⊥

-- the bits of a word tell at which of them the rule of sections fails with line j
pub record AreOutside (g : GraphValue) (first j word : ℕ) : Type 0 where
  pub fails : (b : ℕ) → b < 64 → bit_in word b ≡ true → SectionAt g (first + b) j → ⊥
  pub holds : (b : ℕ) → b < 64 → bit_in word b ≡ false → SectionAt g (first + b) j
