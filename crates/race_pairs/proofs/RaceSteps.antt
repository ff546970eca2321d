-- Races, suspect by suspect.
use Rattle.std.proofs.Common.{◌≡◌, ℕ, ◌+◌, ◌<◌, ◌^◌, Bool, true, false, not, inl, inr, length, refl, sym, ◌∙◌, ap, subst, arith}
use Rattle.std.specs.Prelude.{◌≢◌, Contains, ◌↔◌, IsTrue, slice_index}
use Rattle.std.specs.Int.{bit_at, bit_not}
use Rattle.std.specs.Int.RustNames.{bit_or}
use lib.Bits.{bit_and}
use mir.Syntax.{w64}
use Rattle.std.proofs.lemmas.Bool.{true≢false, cases_Bool, and_parts, and_from, ne_eqb, or_cases, not-true}
use Rattle.std.proofs.lemmas.Nat.Bits.{bit_at-zero}
use Rattle.graph_terms.specs.declared.verb.Access.{Access}
use Rattle.graph_terms.specs.Graph.{GraphValue}
use Rattle.graph_terms.specs.Edges.{edges}
use Rattle.graph_terms.specs.Access.{all_accesses, AccessesConflict, Conflict}
use Rattle.graph_meaning.specs.Path.{HasPath}
use Rattle.graph_meaning.specs.Rules.{Exempt, modes_commute}
use Rattle.graph_meaning.proofs.Public.{path_below}
use Rattle.conflict_classes.specs.Clash.{LinesClash}
use Rattle.sweep_base.specs.Bits.{bit_in}
use Rattle.conflict_classes.specs.Settled.{IsSettled}
use Rattle.sweep_base.proofs.Public.{bit_in-and, bit_in-or, bit_in-not, or_old, or_new}
use Rattle.cycle_search.specs.Paths.{EdgesBetween}
use Rattle.race_pairs.specs.Races.{IsRivals, IsSuspects}
use Rattle.race_pairs.specs.Summaries.{ApartIn}
use Rattle.race_pairs.specs.declared.rivals.Rivals.{Rivals}

clash_conflicts : (g : GraphValue) (i j : ℕ) (commuting : Bool) → i ≢ j → LinesClash g commuting i j → Conflict g i j
clash_conflicts g i j commuting apart c = record { different = apart; one = c.0; other = c.2.0; one_in = c.1; other_in = c.2.1; conflict = c.2.2.conflict }

-- lines that do not clash
pub no_clash_settled : (g : GraphValue) (i j : ℕ) → (LinesClash g true i j → ⊥) → IsSettled g i j
no_clash_settled g i j no' c = absurd (no' (c.one, c.one_in, (c.other, c.other_in, record { conflict = c.conflict; counts = refl })))

exempt_of : (g : GraphValue) (i j : ℕ) (commuting : Bool) → (HasPath g i j → ⊥) → (HasPath g j i → ⊥) → i ≢ j → LinesClash g commuting i j → IsSettled g i j → Exempt g i j
exempt_of g i j commuting forward backward apart clash settled = elim (settled (clash_conflicts g i j commuting apart clash)) [
  | inl p ↦ absurd (forward p)
  | inr r ↦ elim r [ inl p ↦ absurd (backward p) | inr x ↦ x ]
]

-- lines that clash by uses that don't commute
pub clash_settles_not : (g : GraphValue) (i j : ℕ) → (HasPath g i j → ⊥) → (HasPath g j i → ⊥) → i ≢ j → LinesClash g false i j → IsSettled g i j → ⊥
clash_settles_not g i j forward backward apart clash settled =
    let x = exempt_of g i j false forward backward apart clash settled in
    true≢false (sym clash.2.2.counts ∙ ap not (x.commute clash.0 clash.2.0 clash.1 clash.2.1 clash.2.2.conflict))

pub settled_by_sections : (g : GraphValue) (i j : ℕ) (b : Bool) → (HasPath g i j → ⊥) → (HasPath g j i → ⊥) → i ≢ j → LinesClash g true i j → (LinesClash g false i j → ⊥) → (IsTrue b ↔ ((l : ℕ) × ApartIn g l i j)) → IsTrue b ↔ IsSettled g i j
settled_by_sections g i j b forward backward different clash soft apart = (
  (λ h c. inr (inr (let a = apart.0 h in record {
    commute = λ x y hx hy conflict. commutes x y hx hy conflict;
    lock = a.0;
    one = a.1.0;
    other = a.1.1;
    different = a.1.2;
    apart = a.1.3;
    one_section = a.1.4;
    other_section = a.1.5;
  }))),
  (λ settled. (let x = exempt_of g i j true forward backward different clash settled in apart.1 (x.lock, (x.one, x.other, x.different, x.apart, x.one_section, x.other_section)))),
)
  where
    commutes : (x y : Access) → Contains (all_accesses g i) x → Contains (all_accesses g j) y → AccessesConflict g x y → modes_commute x.mode y.mode ≡ true
    commutes x y hx hy conflict = elim (cases_Bool (modes_commute x.mode y.mode)) [
      | inl both ↦ both
      | inr no' ↦ absurd (soft (x, hx, (y, hy, record { conflict = conflict; counts = ap not no' })))
    ]

-- a word of 0 has no bits
pub no_bit : (word b : ℕ) → word ≡ 0 → bit_in word b ≡ false
no_bit word b none = ap (λ z. bit_in z b) none ∙ ne_eqb (bit_at 0 b) 1 (λ one. (let z : bit_at 0 b ≡ 0 = bit_at-zero b in absurd (omega arith)))

-- the suspects by a word of those that are asked, and two of those that are settled by a path
pub are_suspects : (g : GraphValue) → EdgesBetween g → (r : Rivals) → IsRivals g r → (j asked x y : ℕ) → j < length g.lines → bit_or x y < 2 ^ 64 → x ≡ slice_index r.behind.passed.items j → y ≡ slice_index r.before.passed.items j →
    ((b : ℕ) → b < 64 → Conflict g (r.first + b) j → bit_in asked b ≡ true) → IsSuspects g r.first j (bit_and asked (bit_not w64 (bit_or x y)))
are_suspects g between r is j asked x y known fits at_x at_y all = record {
  forward = λ b few set path. (
      let low = (path_below (edges g) (length g.lines) between path).0 in
      true≢false (sym (or_old x y b (ap (λ z. bit_in z b) at_x ∙ is.behind_is.all j b (r.first + b) few low refl path)) ∙ gone b few set));
  backward = λ b few set path. (
      let low = (path_below (edges g) (length g.lines) between path).1 in
      true≢false (sym (or_new x y b (ap (λ z. bit_in z b) at_y ∙ is.before_is.all j b (r.first + b) few low refl path)) ∙ gone b few set));
  free = λ b few unset c. elim (cases_Bool (bit_in (bit_or x y) b)) [
    | inl some ↦ elim (or_cases (bit_in x b) (bit_in y b) (sym (bit_in-or x y b) ∙ some)) [
      | inl f ↦ (let p = is.behind_is.is j b (ap (λ z. bit_in z b) (sym at_x) ∙ f) in inl (subst (λ z. HasPath g z j) (sym p.1) p.2))
      | inr f ↦ (let p = is.before_is.is j b (ap (λ z. bit_in z b) (sym at_y) ∙ f) in inr (inl (subst (λ z. HasPath g j z) (sym p.1) p.2)))
    ]
    | inr none ↦ absurd (true≢false (sym (bit_in-and asked (bit_not w64 (bit_or x y)) b ∙ and_from (bit_in asked b) (bit_in (bit_not w64 (bit_or x y)) b) (all b few c) (bit_in-not (bit_or x y) b fits few ∙ ap not none)) ∙ unset))
  ];
}
  where
    gone : (b : ℕ) → b < 64 → bit_in (bit_and asked (bit_not w64 (bit_or x y))) b ≡ true → bit_in (bit_or x y) b ≡ false
    gone b few set = not-true (bit_in (bit_or x y) b) (sym (bit_in-not (bit_or x y) b fits few) ∙ (and_parts (bit_in asked b) (bit_in (bit_not w64 (bit_or x y)) b) (sym (bit_in-and asked (bit_not w64 (bit_or x y)) b) ∙ set)).1)
