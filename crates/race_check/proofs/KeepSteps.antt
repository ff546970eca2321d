-- In which sections the lines lie, a block of acquires at a time.
use Rattle.std.proofs.Common.{◌≡◌, ℕ, ◌+◌, ◌-◌, ◌<◌, ◌≤◌, true, inl, inr, List, length, sym, ◌∙◌, subst, arith}
use Rattle.std.specs.Prelude.{slice_index}
use Rattle.std.proofs.lemmas.Bool.{cases_lt}
use Rattle.graph_terms.specs.Graph.{GraphValue, is_acquire_of}
use Rattle.graph_terms.specs.Reservations.{Acquires}
use Rattle.graph_meaning.specs.Rules.{Section}
use Rattle.graph_terms.proofs.Public.{passes_below}
use Rattle.sweep_base.specs.Bits.{bit_in}
use Rattle.sweep_base.specs.declared.line_sections.Held.{Held}
use Rattle.sweep_base.specs.Held.{IsHeld}
use Rattle.section_sweeps.specs.Sections.{AreHeldSoFar, IsGrown, IsKept}
use Rattle.race_check.specs.Inside.{AreBetween, IsBetween}
use Rattle.race_check.proofs.Insides.{between_of, section_of}

-- all acquires have been kept
pub held_by : (g : GraphValue) (h : Held) → AreHeldSoFar g h → ((q l i : ℕ) → Section g l q i → IsKept h l i) → IsHeld g h
held_by g h so kept = record { is = so.is; none = λ l i q known e sec. kept q l i sec e }

-- those below a number
pub kept_all : (g : GraphValue) (h : Held) (first : ℕ) → length g.lines ≤ first → ((q l i : ℕ) → q < first → Section g l q i → IsKept h l i) → (q l i : ℕ) → Section g l q i → IsKept h l i
kept_all g h first all kept q l i sec = kept q l i (let b : q < length g.lines = passes_below (is_acquire_of l) g q sec.acquires in omega arith) sec

pub kept_more : (g : GraphValue) (old new : Held) (first : ℕ) → IsGrown old new → ((q l i : ℕ) → first ≤ q → q < first + 64 → Section g l q i → IsKept new l i) → ((q l i : ℕ) → q < first → Section g l q i → IsKept old l i) → (q l i : ℕ) → q < first + 64 → Section g l q i → IsKept new l i
kept_more g old new first grown here before q l i low sec = elim (cases_lt q first) [
  | inl less ↦ grown l i (before q l i less sec)
  | inr up ↦ here q l i up low sec
]

-- the acquires of a block, at one line
pub sections_of_word : (g : GraphValue) (first i word : ℕ) (acquires : List ℕ) → length acquires ≤ 64 → ((b : ℕ) → b < length acquires → slice_index acquires b ≡ first + b) → AreBetween g first i word →
    (b l : ℕ) → b < length acquires → bit_in word b ≡ true → Acquires g (slice_index acquires b) l → Section g l (slice_index acquires b) i
sections_of_word g first i word acquires few each are b l low set a =
    subst (λ z. Section g l z i) (sym (each b low)) (section_of g l (first + b) i (subst (λ z. Acquires g z l) (each b low) a) ((are b (omega arith)).0 set))

pub kept_here : (g : GraphValue) (old new : Held) (first end i word : ℕ) (acquires : List ℕ) → length acquires ≡ end - first → ((b : ℕ) → b < length acquires → slice_index acquires b ≡ first + b) → ((b : ℕ) → b < 64 → first + b < length g.lines → first + b < end) → AreBetween g first i word → IsGrown old new →
    ((b l : ℕ) → b < length acquires → bit_in word b ≡ true → Acquires g (slice_index acquires b) l → IsKept new l i) →
    ((q l k : ℕ) → first ≤ q → q < first + 64 → k < i → Section g l q k → IsKept old l k) → (q l k : ℕ) → first ≤ q → q < first + 64 → k < i + 1 → Section g l q k → IsKept new l k
kept_here g old new first end i word acquires size each within are grown kept before q l k from to low sec = elim (cases_lt k i) [
  | inl less ↦ grown l k (before q l k from to less sec)
  | inr up ↦ (
      let same : i ≡ k = omega arith in
      let here : Section g l q i = subst (Section g l q) (sym same) sec in
      let at : first + (q - first) ≡ q = omega arith in
      let known : q < length g.lines = passes_below (is_acquire_of l) g q sec.acquires in
      let few : q - first < 64 = omega arith in
      let inside : first + (q - first) < end = within (q - first) few (omega arith) in
      let low' : q - first < length acquires = omega arith in
      let bit : bit_in word (q - first) ≡ true = (are (q - first) few).1 (subst (λ z. IsBetween g z i) (sym at) (between_of g l q i here)) in
      subst (IsKept new l) same (kept (q - first) l low' bit (subst (λ z. Acquires g z l) (sym (each (q - first) low' ∙ at)) sec.acquires)))
]
