-- The lines in the sections of a block of acquires, and outside of those of a block of releases.
use Rattle.std.proofs.Common.{◌≡◌, ℕ, ◌+◌, ◌<◌, ◌≤◌, ◌^◌, true, false, not, ◌⊎◌, inl, inr, length, refl, sym, ◌∙◌, ap, subst, arith}
use Rattle.std.specs.Prelude.{slice_index}
use Rattle.std.specs.Int.{bit_not}
use Rattle.std.specs.Int.RustNames.{bit_or}
use lib.Bits.{bit_and}
use mir.Syntax.{w64}
use Rattle.std.proofs.lemmas.Bool.{true≢false, cases_Bool, and_parts, and_from, or_cases, not-true}
use Rattle.std.proofs.lemmas.Option.{same_Some}
use Rattle.graph_terms.specs.Graph.{GraphValue}
use Rattle.graph_terms.specs.Edges.{edges}
use Rattle.graph_meaning.specs.Path.{HasPath}
use Rattle.graph_terms.specs.Reservations.{Acquires, Releases}
use Rattle.graph_meaning.specs.Rules.{Section, SectionAt, DescendsAt}
use Rattle.graph_meaning.proofs.Public.{path_below}
use Rattle.sweep_base.specs.Bits.{bit_in}
use Rattle.sweep_base.proofs.Public.{bit_in-and, bit_in-or, bit_in-not, or_old, or_new, none_left}
use Rattle.section_sweeps.specs.Passing.{HasBit, HasEither, bits_at}
use Rattle.cycle_search.specs.Paths.{EdgesBetween}
use Rattle.sweep_base.specs.BlockRules.{IsLowest, NoneLow}
use Rattle.race_check.specs.Inside.{IsBetween, IsInside, AreBetween, AreSides, AreOutside, MayCome}
use Rattle.race_check.specs.declared.inside.Inside.{Inside}
use Rattle.race_check.specs.declared.sections.Sides.{Sides}
use Rattle.race_check.proofs.Held.{lock_is}
use Rattle.section_sweeps.proofs.Public.{releases_acquire}

from_known : (g : GraphValue) → EdgesBetween g → (i j : ℕ) → HasPath g i j → i < length g.lines
from_known g between i j p = (path_below (edges g) (length g.lines) between p).0

pub to_known : (g : GraphValue) → EdgesBetween g → (i j : ℕ) → HasPath g i j → j < length g.lines
to_known g between i j p = (path_below (edges g) (length g.lines) between p).1

-- the sections of a block of acquires
pub are_between : (g : GraphValue) → EdgesBetween g → (first i x y : ℕ) (s : Inside) → IsInside g first s → x ≡ slice_index s.behind.passed.items i → y ≡ slice_index s.to_releases.passed.items i → AreBetween g first i (bit_and x y)
are_between g between first i x y s is at_x at_y b few = (
  (λ set. (
      let both = and_parts (bit_in x b) (bit_in y b) (sym (bit_in-and x y b) ∙ set) in
      let e = is.behind_is.is i b (ap (λ z. bit_in z b) (sym at_x) ∙ both.0) in
      let r = is.releases_is.is i b (ap (λ z. bit_in z b) (sym at_y) ∙ both.1) in
      record { entered = subst (λ z. HasPath g z i) (sym e.1) e.2; release = r.0; releases = r.1; left = r.2 })),
  (λ w. (
      let low = from_known g between (first + b) i w.entered in
      bit_in-and x y b ∙ and_from (bit_in x b) (bit_in y b)
      (ap (λ z. bit_in z b) at_x ∙ is.behind_is.all i b (first + b) few low refl w.entered)
      (ap (λ z. bit_in z b) at_y ∙ is.releases_is.all i b w.release few low w.releases w.left))),
)

pub between_of : (g : GraphValue) (l q i : ℕ) → Section g l q i → IsBetween g q i
between_of g l q i s = record { entered = s.entered; release = s.release; releases = s.releases; left = s.left }

pub section_of : (g : GraphValue) (l q i : ℕ) → Acquires g q l → IsBetween g q i → Section g l q i
section_of g l q i a w = record { acquires = a; entered = w.entered; release = w.release; releases = w.releases; left = w.left }

-- where a line lies in no section of an acquire, it climbs none
pub descends_out : (g : GraphValue) (first b i word : ℕ) → b < 64 → AreBetween g first i word → bit_in word b ≡ false → DescendsAt g (first + b) i
descends_out g first b i word few are unset l k s a = absurd (true≢false (sym ((are b few).1 (between_of g l (first + b) i s)) ∙ unset))

pub descends_none : (g : GraphValue) (first b i word : ℕ) → b < 64 → AreBetween g first i word → word ≡ 0 → DescendsAt g (first + b) i
descends_none g first b i word few are none l k s a = absurd (none_left word b none ((are b few).1 (between_of g l (first + b) i s)))

pub between_known : (g : GraphValue) → EdgesBetween g → (q i : ℕ) → IsBetween g q i → q < length g.lines
between_known g between q i w = from_known g between q i w.entered

one_lock : (g : GraphValue) (q l k : ℕ) → Acquires g q l → Acquires g q k → l ≡ k
one_lock g q l k a b = same_Some l k (sym (lock_is g q l a) ∙ lock_is g q k b)

pub descends_below : (g : GraphValue) (q i k m : ℕ) → Acquires g q m → Acquires g i k → m < k → DescendsAt g q i
descends_below g q i k m a b below l n s d =
    let x : l ≡ m = one_lock g q l m s.acquires a in
    let y : n ≡ k = one_lock g i n k d b in
    omega arith

pub climbs_at : (g : GraphValue) (q i k l : ℕ) → IsBetween g q i → Acquires g i k → Acquires g q l → k ≤ l → DescendsAt g q i → ⊥
climbs_at g q i k l w a b up rule = let low : l < k = rule l k (section_of g l q i b w) a in absurd (omega arith)

-- the releases of a block that a line lies outside of
one_acquire : (g : GraphValue) (r q k : ℕ) → Releases g r q → Releases g r k → q ≡ k
one_acquire g r q k a b = same_Some q k (sym (releases_acquire g r q a) ∙ releases_acquire g r k b)

module _ (g : GraphValue) (between : EdgesBetween g) (first j : ℕ) (s : Sides) (is : AreSides g first s) where
  releasing : (b : ℕ) → HasBit s.to_releases.passed.items j b → (q : ℕ) × Releases g (first + b) q × HasPath g j (first + b)
  releasing b h = let r = is.releases_is.is j b h in (r.1.1.0, r.1.1.1, subst (λ z. HasPath g j z) (sym r.1.0) r.2)

  to_acquire : (b q : ℕ) → b < 64 → first + b < length g.lines → Releases g (first + b) q → (j ≡ q) ⊎ HasPath g j q → HasEither s.to_acquires.own.items s.to_acquires.passed.items j b
  to_acquire b q few low rel (inl e) = or_old (slice_index s.to_acquires.own.items j) (slice_index s.to_acquires.passed.items j) b (is.acquires_is.own_all j b few low (subst (λ z. Releases g (first + b) z) (sym e) rel))
  to_acquire b q few low rel (inr p) = or_new (slice_index s.to_acquires.own.items j) (slice_index s.to_acquires.passed.items j) b (is.acquires_is.all j b q few low rel p)

  from_acquire : (b q : ℕ) → Releases g (first + b) q → HasEither s.to_acquires.own.items s.to_acquires.passed.items j b → (j ≡ q) ⊎ HasPath g j q
  from_acquire b q rel h = elim (or_cases (bit_in (slice_index s.to_acquires.own.items j) b) (bit_in (slice_index s.to_acquires.passed.items j) b) (sym (bit_in-or (slice_index s.to_acquires.own.items j) (slice_index s.to_acquires.passed.items j) b) ∙ h)) [
    | inl own ↦ inl (one_acquire g (first + b) j q (is.acquires_is.own_is j b own) rel)
    | inr passed ↦ (let t = is.acquires_is.is j b passed in inr (subst (λ z. HasPath g j z) (one_acquire g (first + b) t.0 q t.1 rel) t.2))
  ]

  -- by a word of the releases, one of the acquires, and one of those behind which the line may stand
  pub are_outside : (r x y : ℕ) → x < 2 ^ 64 → y < 2 ^ 64 → bit_or x y < 2 ^ 64 → r ≡ slice_index s.to_releases.passed.items j → x ≡ bits_at s.to_acquires.own.items s.to_acquires.passed.items j →
      ((b : ℕ) → bit_in y b ≡ true → HasBit s.behind.passed.items j b × MayCome g j) →
      ((b : ℕ) → HasBit s.behind.passed.items j b → MayCome g j → bit_in y b ≡ true) → AreOutside g first j (bit_and r (bit_not w64 (bit_or x y)))
  are_outside r x y fits_x fits_y fits at_r at_x y_is y_all = record {
    fails = λ b few set rule. (
        let both = and_parts (bit_in r b) (bit_in (bit_not w64 (bit_or x y)) b) (sym (bit_in-and r (bit_not w64 (bit_or x y)) b) ∙ set) in
        let gone : bit_in (bit_or x y) b ≡ false = not-true (bit_in (bit_or x y) b) (sym (bit_in-not (bit_or x y) b fits few) ∙ both.1) in
        let rel = releasing b (ap (λ z. bit_in z b) (sym at_r) ∙ both.0) in
        let low = to_known g between j (first + b) rel.2 in
        elim (rule rel.0 rel.1 rel.2) [
          | inl e ↦ true≢false (sym (or_old x y b (ap (λ z. bit_in z b) at_x ∙ to_acquire b rel.0 few low rel.1 (inl e))) ∙ gone)
          | inr (inl p) ↦ true≢false (sym (or_old x y b (ap (λ z. bit_in z b) at_x ∙ to_acquire b rel.0 few low rel.1 (inr p))) ∙ gone)
          | inr (inr p) ↦ true≢false (sym (or_new x y b (y_all b (is.behind_is.all j b rel.0 few low rel.1 p.0) p.1)) ∙ gone)
        ]);
    holds = λ b few unset q rel path. (
        let low = to_known g between j (first + b) path in
        let one : bit_in r b ≡ true = ap (λ z. bit_in z b) at_r ∙ is.releases_is.all j b (first + b) few low (refl, (q, rel)) path in
        let some : bit_in (bit_or x y) b ≡ true = allowed b few one unset in
        elim (or_cases (bit_in x b) (bit_in y b) (sym (bit_in-or x y b) ∙ some)) [
          | inl old ↦ elim (from_acquire b q rel (ap (λ z. bit_in z b) (sym at_x) ∙ old)) [ inl e ↦ inl e | inr p ↦ inr (inl p) ]
          | inr new ↦ (
              let h = y_is b new in
              let t = is.behind_is.is j b h.0 in
              inr (inr (subst (λ z. HasPath g z j) (one_acquire g (first + b) t.0 q t.1 rel) t.2, h.1)))
        ]);
  }
    where
      allowed : (b : ℕ) → b < 64 → bit_in r b ≡ true → bit_in (bit_and r (bit_not w64 (bit_or x y))) b ≡ false → bit_in (bit_or x y) b ≡ true
      allowed b few one unset = elim (cases_Bool (bit_in (bit_or x y) b)) [
        | inl yes' ↦ yes'
        | inr no' ↦ absurd (true≢false (sym (bit_in-and r (bit_not w64 (bit_or x y)) b ∙ and_from (bit_in r b) (bit_in (bit_not w64 (bit_or x y)) b) one (bit_in-not (bit_or x y) b fits few ∙ ap not no')) ∙ unset))
      ]

-- the lowest bit of such a word
pub lowest_fails : (g : GraphValue) (first limit j bit word : ℕ) → limit ≤ 64 → AreOutside g first j word → (bit < limit) × (bit_in word bit ≡ true) × ((k : ℕ) → k < bit → bit_in word k ≡ false) → IsLowest (SectionAt g) first limit j bit
lowest_fails g first limit j bit word few is low = record {
  below = low.0;
  here = is.fails bit (omega (arith, low.0)) low.1;
  before = λ k h. is.holds k (omega (arith, low.0)) (low.2 k h);
}

pub lowest_holds : (g : GraphValue) (first limit j word : ℕ) → limit ≤ 64 → AreOutside g first j word → ((b : ℕ) → b < limit → bit_in word b ≡ false) → NoneLow (SectionAt g) first limit j
lowest_holds g first limit j word few is none b h = is.holds b (omega arith) (none b h)
