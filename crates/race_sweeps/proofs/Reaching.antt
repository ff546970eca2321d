-- What is reached, edge by edge.
use Rattle.std.proofs.Common.{◌≡◌, ℕ, ◌+◌, ◌<◌, true, inl, inr, List, length, sym, ◌∙◌, ap, subst, arith}
use Rattle.std.specs.Prelude.{Contains, slice_index, slice_set}
use Rattle.std.specs.List.{slice_index_or}
use Rattle.std.specs.Int.RustNames.{bit_or}
use Rattle.std.proofs.lemmas.Bool.{cases_eq, or_cases, true≢false, ne_eqb}
use Rattle.std.proofs.lemmas.Nat.Bits.{bit_at-zero}
use Rattle.std.proofs.lemmas.List.{length-set, get_or-set_same, get_or-set_other, get_or_read}
use Rattle.graph_terms.specs.declared.verb.Edge.{Edge}
use Rattle.graph_terms.specs.Graph.{GraphValue}
use Rattle.graph_terms.specs.Edges.{edges}
use Rattle.graph_meaning.specs.Path.{HasPath, last, first}
use Rattle.sweep_base.specs.Bits.{bit_in}
use Rattle.race_sweeps.specs.Reach.{AreReachedOrSelf, IsReach}
use Rattle.sweep_base.proofs.Public.{bit_in-or}

-- the source of an edge reaches what its target reaches, and its target
module _ (g : GraphValue) (lines words : List ℕ) (x p line word : ℕ) (at : slice_index lines x ≡ line) (e : Edge) (known : Contains (edges g) e) (to : e.to ≡ line) (source : slice_index lines p ≡ e.from) (small : p < length words) where
  pub reach_more : (n : ℕ) → IsReach g lines n words → AreReachedOrSelf g lines n x word → IsReach g lines n (slice_set words p (bit_or (slice_index words p) word))
  reach_more n r s = record {
    size = length-set words p (bit_or (slice_index words p) word) ∙ r.size;
    reached = λ y b low set. elim (cases_eq y p) [
      | inr apart ↦ r.reached y b low (ap (λ z. bit_in z b) (sym (get_or-set_other words p y (bit_or (slice_index words p) word) 0 apart)) ∙ set)
      | inl same ↦ (
          let here : slice_index (slice_set words p (bit_or (slice_index words p) word)) y ≡ bit_or (slice_index words p) word = ap (slice_index (slice_set words p (bit_or (slice_index words p) word))) same ∙ get_or-set_same words p (bit_or (slice_index words p) word) 0 small in
          let bit : bit_in (bit_or (slice_index words p) word) b ≡ true = ap (λ z. bit_in z b) (sym here) ∙ set in
          elim (or_cases (bit_in (slice_index words p) b) (bit_in word b) (sym (bit_in-or (slice_index words p) word b) ∙ bit)) [
            | inl before ↦ r.reached y b low (ap (λ z. bit_in (slice_index words z) b) same ∙ before)
            | inr new ↦ (
                let k = s b low new in
                let begins : e.from ≡ slice_index lines y = sym source ∙ ap (slice_index lines) (sym same) in (
                  k.0,
                  elim k.1 [
                    | inl self ↦ last e known begins (to ∙ (sym at ∙ ap (slice_index lines) (sym self)))
                    | inr path ↦ first e known begins (subst (λ z. HasPath g z (slice_index lines (n + b))) (at ∙ sym to) path)
                  ],
                ))
          ])
    ];
  }

-- no line is reached
pub reach_none : (g : GraphValue) (lines words : List ℕ) (n : ℕ) → length words ≡ length lines → ((x : ℕ) → slice_index words x ≡ 0) → IsReach g lines n words
reach_none g lines words n size none = record {
  size = size;
  reached = λ x b low set. absurd (true≢false (sym set ∙ (ap (λ z. bit_in z b) (none x) ∙ ne_eqb _ 1 (λ one. (let z = bit_at-zero b in absurd (omega (arith, z, one)))))));
}

-- the word of a place, and its own bit
pub reach_self : (g : GraphValue) (lines words : List ℕ) (n x old own : ℕ) → IsReach g lines n words → x < length words → old ≡ slice_index_or words x old → ((b : ℕ) → b < 64 → bit_in own b ≡ true → n + b ≡ x) → AreReachedOrSelf g lines n x (bit_or old own)
reach_self g lines words n x old own r small read is b low set =
    let was : old ≡ slice_index words x = get_or_read words x old small read 0 in
    elim (or_cases (bit_in old b) (bit_in own b) (sym (bit_in-or old own b) ∙ set)) [
      | inl before ↦ (let k = r.reached x b low (ap (λ z. bit_in z b) (sym was) ∙ before) in (k.0, inr k.1))
      | inr self ↦ (let e : n + b ≡ x = is b low self in let s : length words ≡ length lines = r.size in (omega arith, inl e))
    ]
