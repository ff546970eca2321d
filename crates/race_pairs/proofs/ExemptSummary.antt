-- Whether two lines lie in sections of two different acquires of one reservation, not both shared, from one acquire for each line and reservation.
use Rattle.std.proofs.Common.{◌≡◌, ℕ, ◌<◌, arith, false, inl, inr, length, refl, sym, ◌∙◌, subst}
use Rattle.std.specs.Prelude.{Option, Some, None}
use Rattle.graph_terms.specs.Graph.{GraphValue}
use Rattle.graph_meaning.specs.Path.{HasPath}
use Rattle.graph_meaning.specs.Rules.{Section, SectionAt, DescendsAt, EverywhereTwice}
use Rattle.graph_terms.specs.Reservations.{both_shared}
use Rattle.graph_meaning.proofs.Public.{path_append}
use Rattle.sweep_base.specs.declared.line_sections.Held.{Held}
use Rattle.sweep_base.specs.Held.{Exclude, IsHeld, acquire_in}
use Rattle.race_pairs.specs.Summaries.{AreAlone, ApartIn}

-- where the rules of sections hold, a line lies in one section of a reservation: of two acquires that it would lie in sections of, one would lie in the other's section
pub sections_alone : (g : GraphValue) → EverywhereTwice (SectionAt g) → EverywhereTwice (DescendsAt g) → AreAlone g
sections_alone g sections descends l q k i s t = elim (sections s.release k q s.releases (path_append t.entered s.left)) [
  | inl same ↦ sym same
  | inr (inl before) ↦ absurd (climbs k q t s before)
  | inr (inr behind) ↦ absurd (climbs q k s t behind.0)
]
  where
    climbs : (a b : ℕ) → Section g l a i → Section g l b i → HasPath g a b → ⊥
    climbs a b u v path = let low : l < l = descends a b l l (record { acquires = u.acquires; entered = path; release = u.release; releases = u.releases; left = path_append v.entered u.left }) v.acquires in absurd (omega arith)

pub apart_is : (g : GraphValue) (l i j : ℕ) (one two : Option ℕ) → ((q : ℕ) → one ≡ Some q → Section g l q i) → ((k : ℕ) → two ≡ Some k → Section g l k j) → Exclude g one two → ApartIn g l i j
apart_is g l i j (Some q) (Some k) s t d = (q, k, d.0, d.1, s q refl, t k refl)
apart_is g l i j (Some q) None s t d = absurd d
apart_is g l i j None (Some k) s t d = absurd d
apart_is g l i j None None s t d = absurd d

pub apart_found : (g : GraphValue) → AreAlone g → (l i j : ℕ) (one two : Option ℕ) → ((q : ℕ) → one ≡ Some q → Section g l q i) → (one ≡ None → (q : ℕ) → Section g l q i → ⊥) →
    ((k : ℕ) → two ≡ Some k → Section g l k j) → (two ≡ None → (k : ℕ) → Section g l k j → ⊥) → ApartIn g l i j → Exclude g one two
apart_found g alone l i j None two s sn t tn a = absurd (sn refl a.0 a.4)
apart_found g alone l i j (Some c) None s sn t tn a = absurd (tn refl a.1 a.5)
apart_found g alone l i j (Some c) (Some d) s sn t tn a =
    let one : a.0 ≡ c = alone l a.0 c i a.4 (s c refl) in
    let two : a.1 ≡ d = alone l a.1 d j a.5 (t d refl) in (
      (λ e. a.2 (one ∙ (e ∙ sym two))),
      subst (λ z. both_shared g z d ≡ false) one (subst (λ z. both_shared g a.0 z ≡ false) two a.3),
    )

-- by what is kept
pub apart_by : (g : GraphValue) (h : Held) → IsHeld g h → (l i j : ℕ) → Exclude g (acquire_in h l i) (acquire_in h l j) → ApartIn g l i j
apart_by g h held l i j x = apart_is g l i j (acquire_in h l i) (acquire_in h l j) (held.is l i) (held.is l j) x

pub by_apart : (g : GraphValue) → AreAlone g → (h : Held) → IsHeld g h → (l i j : ℕ) → i < length g.lines → j < length g.lines → ApartIn g l i j → Exclude g (acquire_in h l i) (acquire_in h l j)
by_apart g alone h held l i j hi hj a = apart_found g alone l i j (acquire_in h l i) (acquire_in h l j) (held.is l i) (λ e q s. held.none l i q hi e s) (held.is l j) (λ e q s. held.none l j q hj e s) a
