-- The columns, as they leave their homes and come back.
use Rattle.std.proofs.Common.{◌≡◌, ◌≢◌, ℕ, ◌+◌, ◌<◌, List, length, sym, ◌∙◌, ap, subst, arith, inl, inr}
use Rattle.std.specs.Prelude.{Option, Some, None, slice_get, slice_index_or, slice_set}
use Rattle.std.proofs.lemmas.Bool.{cases_eq}
use Rattle.std.proofs.lemmas.List.{length-set, get_or-set_other}
use Rattle.std.proofs.lemmas.List.FromFn.{get_or-map-range_with_len, length-map-range_with_len}
use Rattle.basics.proofs.ListFacts.{set_get, set_get_other}
use Rattle.index_spaces.specs.Column.{ColumnValue}
use Rattle.graph_terms.specs.Graph.{GraphValue, columns}
use Rattle.graph_meaning.specs.Effect.{zero_cells}
use Rattle.graph_meaning.specs.Evaluation.{column_of}
use Rattle.line_effects.specs.Homes.{all_home}
use Rattle.word_parts.specs.Preparing.{AreOut, AreOutBelow}

pub none_out : (g : GraphValue) (homes : List (Option ColumnValue)) → homes ≡ all_home g zero_cells → AreOutBelow g 0 homes
none_out g homes e = record {
  each_home = ap (λ hs. length hs) e ∙ length-map-range_with_len (λ c. Some (column_of g zero_cells c)) 0 (length (columns g));
  out = λ c low. absurd (omega (arith, low));
  home = λ c low near. ap (λ hs. slice_index_or hs c None) e ∙ get_or-map-range_with_len (λ c. Some (column_of g zero_cells c)) 0 (length (columns g)) c c None near (omega arith);
}

pub one_out : (g : GraphValue) (homes homes' : List (Option ColumnValue)) (k : ℕ) → k < length (columns g) → homes' ≡ slice_set homes k None → AreOutBelow g k homes → AreOutBelow g (k + 1) homes'
one_out g homes homes' k near e o = record {
  each_home = ap (λ hs. length hs) e ∙ (length-set homes k None ∙ o.each_home);
  out = λ c low. elim (cases_eq c k) [
    | inl same ↦ ap (λ hs. slice_get hs c) e ∙ (ap (slice_get (slice_set homes k None)) same ∙ set_get homes k None (subst (λ n. k < n) (sym o.each_home) near))
    | inr other ↦ ap (λ hs. slice_get hs c) e ∙ (set_get_other homes k c None other ∙ o.out c (omega (arith, low, other)))
  ];
  home = λ c high inside. (let other : c ≢ k = λ same. omega (arith, same, high) in
      ap (λ hs. slice_index_or hs c None) e ∙ (get_or-set_other homes k c None None other ∙ o.home c (omega (arith, high)) inside));
}

pub all_out : (g : GraphValue) (homes : List (Option ColumnValue)) (n : ℕ) → n ≡ length (columns g) → AreOutBelow g n homes → AreOut g homes
all_out g homes n e o = record { each_home = o.each_home; out = λ c near. o.out c (subst (λ m. c < m) (sym e) near) }
