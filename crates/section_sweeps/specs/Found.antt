-- What is found of the sections of a graph: where the lines lie, or which acquires may break a rule.
use Rattle.std.specs.Prelude.{◌≡◌, ℕ, ◌<◌, Bool, false, List, length, slice_index}
use Rattle.graph_terms.specs.Graph.{GraphValue}
use Rattle.graph_terms.specs.Reservations.{Acquires, Releases}
use Rattle.graph_meaning.specs.Rules.{ReleasedAt, SectionAt, DescendsAt, Section}
use Rattle.sweep_base.specs.Noted.{is_noted}
use Rattle.section_sweeps.specs.declared.found_sections.Found.{Found}
use Rattle.section_sweeps.specs.declared.found_sections.Sections.{Sections}
use Rattle.section_sweeps.specs.declared.found_sections.Sections.TheVariants.{Kept, Doubted}
use Rattle.section_sweeps.specs.Sections.{AreSections, AreHeldSoFar, IsKept}

-- the rules of sections hold of an acquire
pub record IsSound (g : GraphValue) (q : ℕ) : Type 0 where
  pub released : ReleasedAt g q
  pub sections : (r j : ℕ) → Releases g r q → SectionAt g r j
  pub descends : (j : ℕ) → DescendsAt g q j

-- they hold of each acquire that is not doubted
abbrev pub AreDoubted : GraphValue → List Bool → Type 0
AreDoubted g doubted = (q l : ℕ) → Acquires g q l → is_noted doubted q ≡ false → IsSound g q

abbrev pub AreSectionsFound : GraphValue → Sections → Type 0
AreSectionsFound g (Kept held) = AreSections g held
AreSectionsFound g (Doubted doubted) = (length doubted.items ≡ length g.lines) × AreDoubted g doubted.items

-- the rules hold of the acquires before place m that are not doubted, and where none is doubted their sections are kept
pub record AreFound (g : GraphValue) (places : List ℕ) (f : Found) (m : ℕ) : Type 0 where
  pub size : length f.doubted.items ≡ length g.lines
  pub held : AreHeldSoFar g f.held
  pub sound : (q l : ℕ) → Acquires g q l → slice_index places q < m → is_noted f.doubted.items q ≡ false → IsSound g q
  pub kept : f.is_doubted ≡ false → (q l i : ℕ) → slice_index places q < m → Section g l q i → IsKept f.held l i
  pub sure : f.is_doubted ≡ false → (q : ℕ) → is_noted f.doubted.items q ≡ false
