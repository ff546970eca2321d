-- The rules of sections at one line, by its words.
use Rattle.std.proofs.Common.{◌≡◌, ℕ, ◌<◌, ◌^◌, true, inl, inr, List, sym, ◌∙◌, ap}
use Rattle.std.specs.Prelude.{slice_index}
use Rattle.std.specs.Int.{bit_not}
use Rattle.std.specs.Int.RustNames.{bit_or}
use lib.Bits.{bit_and}
use mir.Syntax.{w64}
use Rattle.std.proofs.lemmas.Bool.{cases_Bool, and_from, and_parts, not_from_false}
use Rattle.std.proofs.lemmas.Nat.{or_lt}
use Rattle.graph_terms.specs.Graph.{GraphValue}
use Rattle.graph_terms.specs.Reservations.{Acquires}
use Rattle.graph_meaning.specs.Rules.{Section}
use Rattle.sweep_base.specs.Bits.{bit_in}
use Rattle.sweep_base.specs.declared.line_sections.Held.{Held}
use Rattle.sweep_base.proofs.Public.{bit_in-and, bit_in-not}
use Rattle.sweep_base.proofs.Public.{none_left}
use Rattle.section_sweeps.specs.declared.group.Group.{Group}
use Rattle.section_sweeps.specs.Passing.{HasBit, HasEither}
use Rattle.section_sweeps.specs.Group.{IsSwept, IsPassed, IsPlacedAt, IsNoDeadPhase}
use Rattle.section_sweeps.specs.Sections.{IsGrown}
use Rattle.section_sweeps.proofs.PassingSteps.{or_split}

-- a bit of a word stands in the other, where none is left of the first without the second
pub none_outside : (x y b : ℕ) → y < 2 ^ 64 → b < 64 → bit_and x (bit_not w64 y) ≡ 0 → bit_in x b ≡ true → bit_in y b ≡ true
none_outside x y b fits low none set = elim (cases_Bool (bit_in y b)) [
  | inl yes' ↦ yes'
  | inr no' ↦ absurd (none_left (bit_and x (bit_not w64 y)) b none (bit_in-and x (bit_not w64 y) b ∙ and_from (bit_in x b) (bit_in (bit_not w64 y) b) set (bit_in-not y b fits low ∙ not_from_false (bit_in y b) no')))
]

pub placed_by : (g : GraphValue) (s : Group) (i to_release to_acquire entered : ℕ) → to_release ≡ slice_index s.to_releases.passed.items i → to_acquire < 2 ^ 64 → entered < 2 ^ 64 →
    ((b : ℕ) → bit_in to_acquire b ≡ true → HasEither s.to_acquires.own.items s.to_acquires.passed.items i b) → ((b : ℕ) → bit_in entered b ≡ true → HasBit s.behind.passed.items i b × IsNoDeadPhase g i) →
    bit_and to_release (bit_not w64 (bit_or to_acquire entered)) ≡ 0 → (b : ℕ) → b < 64 → HasBit s.to_releases.passed.items i b → IsPlacedAt g s i b
placed_by g s i to_release to_acquire entered is fits_a fits_e a e none b low set =
    elim (or_split to_acquire entered b (none_outside to_release (bit_or to_acquire entered) b (or_lt 64 to_acquire entered fits_a fits_e) low none (ap (λ z. bit_in z b) is ∙ set))) [
      | inl before ↦ inl (a b before)
      | inr behind ↦ inr (e b behind)
    ]

-- the bits of a line in a section
pub inside_parts : (x y b : ℕ) → bit_in (bit_and x y) b ≡ true → (bit_in x b ≡ true) × (bit_in y b ≡ true)
inside_parts x y b h = and_parts (bit_in x b) (bit_in y b) (sym (bit_in-and x y b) ∙ h)

pub inside_from : (x y b : ℕ) → bit_in x b ≡ true → bit_in y b ≡ true → bit_in (bit_and x y) b ≡ true
inside_from x y b h k = bit_in-and x y b ∙ and_from (bit_in x b) (bit_in y b) h k

-- tell of its section
pub inside_section : (g : GraphValue) (places : List ℕ) (s : Group) (low high : ℕ) → IsSwept g places s low high → (i b l : ℕ) → HasBit s.behind.passed.items i b → HasBit s.to_releases.passed.items i b → Acquires g (slice_index s.acquires.items b) l → Section g l (slice_index s.acquires.items b) i
inside_section g places s low high w i b l begun ended a =
    let r = w.releases_is i b ended in
    record { acquires = a; entered = (w.behind_is i b begun).1; release = r.0; releases = r.1; left = r.2 }

-- a line that passed passes still
pub passed_grown : (g : GraphValue) (s : Group) (old new : Held) (i : ℕ) → IsGrown old new → IsPassed g s old i → IsPassed g s new i
passed_grown g s old new i grown p = record {
  placed = p.placed;
  descends = p.descends;
  kept = λ b l begun ended a. grown l i (p.kept b l begun ended a);
}
