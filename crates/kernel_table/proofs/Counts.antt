-- Counts at the points of a space.
use Rattle.std.proofs.Common.{◌≡◌, ◌≢◌, ℕ, ◌+◌, ◌%◌, ◌^◌, ◌<◌, ◌==◌, Bool, true, false, cond, List, length, get_or, set, refl, sym, ap, ◌∙◌, inl, inr, arith}
use Rattle.std.proofs.lemmas.Bool.{cases_eq, eq-eqb, ne_eqb, cond-true, cond-false, false≢true}
use Rattle.index_spaces.specs.Space.{has_point, rank, point_at, space_size, IsSpace, IsWithin}
use Rattle.index_spaces.specs.Column.{ColumnValue, cell_of}
use Rattle.index_spaces.specs.Run.{WritesPoints}
use Rattle.index_spaces.specs.Laws.{CellsAreWritten, PointOfRank, RankOfPoint}
use Rattle.graph_meaning.specs.Effect.{wrapped}
use Rattle.kernel_table.specs.Kernels.{column_over}
use Rattle.kernel_table.proofs.Runs.{wrapped_twice}

wrapped_same : (n : ℕ) → n < 2 ^ 64 → n ≡ wrapped (n + 0)
wrapped_same n h = omega arith

-- nothing is counted
pub none_counted : (over bins : List (ℕ × ℕ)) (cells : List ℕ) → ((i : ℕ) → get_or cells i 0 < 2 ^ 64) →
    WritesPoints (column_over over cells) (column_over over cells) bins (λ q. wrapped (cell_of (column_over over cells) q + 0))
none_counted over bins cells fits = record {
  space = refl;
  inside = λ q h. wrapped_same (cell_of (column_over over cells) q) (fits (rank over q));
  outside = λ q h n. refl;
}

-- one number is counted at the point whose rank it is
pub counted_one : CellsAreWritten → PointOfRank → RankOfPoint → (over bins : List (ℕ × ℕ)) (cells : List ℕ) (number place : ℕ) → IsSpace over → IsSpace bins → IsWithin bins over → length cells ≡ space_size over →
    0 < space_size bins → place ≡ rank over (point_at bins (number % space_size bins)) →
    WritesPoints (column_over over cells) (column_over over (set cells place ((get_or cells place 0 + 1) % 2 ^ 64))) bins
    (λ q. cond (number % space_size bins == rank bins q) (wrapped (cell_of (column_over over cells) q + 1)) (cell_of (column_over over cells) q))
counted_one written of_rank of_point over bins cells number place a b within full some e =
    let r = number % space_size bins in
    let short : r < space_size bins = omega arith in
    let p = point_at bins r in
    let at = of_point bins r b short in
    let c = column_over over cells in
    let value = (get_or cells (rank over p) 0 + 1) % 2 ^ 64 in
    rw e (record {
      space = refl;
      inside = λ q h. written c p q value a full (within p at.0) (within q h) ∙ elim (cases_eq q p) [
        | inl same ↦ (
            let rank_is : r ≡ rank bins q = sym at.1 ∙ ap (rank bins) (sym same) in
            cond-true (q == p) value (cell_of c q) (eq-eqb q p same)
            ∙ ap (λ x. wrapped (cell_of c x + 1)) (sym same)
            ∙ sym (cond-true (r == rank bins q) (wrapped (cell_of c q + 1)) (cell_of c q) (eq-eqb r (rank bins q) rank_is))
            )
        | inr other ↦ (
            let apart : r ≢ rank bins q = λ f. other (sym (of_rank bins q b h).1 ∙ ap (point_at bins) (sym f)) in
            cond-false (q == p) value (cell_of c q) (ne_eqb q p other)
            ∙ sym (cond-false (r == rank bins q) (wrapped (cell_of c q + 1)) (cell_of c q) (ne_eqb r (rank bins q) apart))
            )
      ];
      outside = λ q h n.
          let other : q ≢ p = λ f. false≢true (sym n ∙ ap (has_point bins) f ∙ at.0) in
          written c p q value a full (within p at.0) h ∙ cond-false (q == p) value (cell_of c q) (ne_eqb q p other);
    })

-- a count of numbers, and one number more
one_more : (b : Bool) (x m l : ℕ) → m + cond b 1 0 ≡ l → cond b (wrapped (wrapped (x + m) + 1)) (wrapped (x + m)) ≡ wrapped (x + l)
one_more true x m l e = wrapped_twice (x + m) 1 ∙ ap wrapped (let s : x + m + 1 ≡ x + l = omega arith in s)
one_more false x m l e = ap wrapped (let s : x + m ≡ x + l = omega arith in s)

pub counted_once : (a b c : ColumnValue) (bins : List (ℕ × ℕ)) (m l : ℕ → ℕ) (hit : ℕ → Bool) → WritesPoints a b bins (λ q. wrapped (cell_of a q + m q)) →
    WritesPoints b c bins (λ q. cond (hit q) (wrapped (cell_of b q + 1)) (cell_of b q)) → ((q : ℕ) → m q + cond (hit q) 1 0 ≡ l q) → WritesPoints a c bins (λ q. wrapped (cell_of a q + l q))
counted_once a b c bins m l hit one other sum = record {
  space = other.space ∙ one.space;
  inside = λ q h.
      other.inside q h ∙ ap (λ x. cond (hit q) (wrapped (x + 1)) x) (one.inside q h) ∙ one_more (hit q) (cell_of a q) (m q) (l q) (sum q);
  outside = λ q h none. other.outside q (ap (λ s. has_point s q) one.space ∙ h) none ∙ one.outside q h none;
}

-- two counts, one after the other
pub counted_again : (a b c : ColumnValue) (bins : List (ℕ × ℕ)) (m n l : ℕ → ℕ) → WritesPoints a b bins (λ q. wrapped (cell_of a q + m q)) → WritesPoints b c bins (λ q. wrapped (cell_of b q + n q)) →
    ((q : ℕ) → m q + n q ≡ l q) → WritesPoints a c bins (λ q. wrapped (cell_of a q + l q))
counted_again a b c bins m n l one other sum = record {
  space = other.space ∙ one.space;
  inside = λ q h.
      let both : (cell_of a q + m q) + n q ≡ cell_of a q + l q = (let s = sum q in omega (arith, s)) in
      other.inside q h ∙ ap (λ x. wrapped (x + n q)) (one.inside q h) ∙ wrapped_twice (cell_of a q + m q) (n q) ∙ ap wrapped both;
  outside = λ q h none. other.outside q (ap (λ s. has_point s q) one.space ∙ h) none ∙ one.outside q h none;
}
