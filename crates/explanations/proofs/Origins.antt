-- Where the ways to lines begin, as lines are found one by one.
use Rattle.std.proofs.Common.{◌≡◌, ℕ, ◌+◌, ◌<◌, inl, inr, List, length, sym, ◌∙◌, ap, subst, arith}
use Rattle.std.specs.Prelude.{Contains, Some, slice_index, slice_set}
use Rattle.std.proofs.lemmas.Bool.{cases_eq}
use Rattle.std.proofs.lemmas.List.{length-set, get_or-set_same, get_or-set_other}
use Rattle.graph_terms.specs.declared.verb.Edge.{Edge}
use Rattle.explanations.specs.declared.search.Origin.{Origin}
use Rattle.explanations.specs.Search.{no_origin, origin_at, IsOrigin, AreOrigins}

module _ (all : List Edge) (near far : Edge → ℕ) (starts : List ℕ) where
  -- nothing is found
  pub origins_none : (counts : List ℕ) (origins : List Origin) → length origins ≡ length counts → ((i : ℕ) → slice_index counts i ≡ 0) → AreOrigins all near far starts counts origins
  origins_none counts origins size none = record { size = size; each = λ i h. absurd (let z : slice_index counts i ≡ 0 = none i in omega arith) }

  -- what is said of a line stays where the lines found before stay
  origin_kept : (counts more : List ℕ) (origins longer : List Origin) → ((j : ℕ) → 0 < slice_index counts j → (slice_index more j ≡ slice_index counts j) × (origin_at longer j ≡ origin_at origins j)) →
      (i count : ℕ) (o : Origin) → IsOrigin all near far starts counts origins i count o → IsOrigin all near far starts more longer i count o
  origin_kept counts more origins longer keeps i count o is = elim is [
    | inl own ↦ inl own
    | inr f ↦ (
        let p : 0 < slice_index counts (near f.0) = f.3 in
        let k = keeps (near f.0) p in
        let same : slice_index more (near f.0) ≡ slice_index counts (near f.0) = k.0 in
        let q : count ≡ slice_index counts (near f.0) + 1 = f.4 in
        let some : 0 < slice_index more (near f.0) = omega arith in
        let next : count ≡ slice_index more (near f.0) + 1 = omega arith in
        let origin : o ≡ record { start = (origin_at longer (near f.0)).start; by = Some f.0 } = f.5 ∙ ap (λ (x : Origin). let made : Origin = record { start = x.start; by = Some f.0 } in made) (sym k.1) in
        inr (f.0, f.1, f.2, some, next, origin))
  ]

  -- one more line is found
  pub origins_set : (counts : List ℕ) (origins : List Origin) (line count : ℕ) (o : Origin) → line < length counts → slice_index counts line ≡ 0 →
      IsOrigin all near far starts counts origins line count o → AreOrigins all near far starts counts origins → AreOrigins all near far starts (slice_set counts line count) (slice_set origins line o)
  origins_set counts origins line count o below none is a = record {
    size = length-set origins line o ∙ (a.size ∙ sym (length-set counts line count));
    each = λ i h. elim (cases_eq i line) [
      | inl same ↦ subst (λ x. IsOrigin all near far starts (slice_set counts line count) (slice_set origins line o) x (slice_index (slice_set counts line count) x) (origin_at (slice_set origins line o) x)) (sym same) here
      | inr apart ↦ (
          let c : slice_index (slice_set counts line count) i ≡ slice_index counts i = get_or-set_other counts line i count 0 apart in
          let at : origin_at (slice_set origins line o) i ≡ origin_at origins i = get_or-set_other origins line i o no_origin apart in
          let some : 0 < slice_index counts i = omega arith in
          subst (λ z. IsOrigin all near far starts (slice_set counts line count) (slice_set origins line o) i z (origin_at (slice_set origins line o) i)) (sym c)
          (subst (λ z. IsOrigin all near far starts (slice_set counts line count) (slice_set origins line o) i (slice_index counts i) z) (sym at)
          (origin_kept counts (slice_set counts line count) origins (slice_set origins line o) keeps i (slice_index counts i) (origin_at origins i) (a.each i some))))
    ];
  }
    where
      keeps : (j : ℕ) → 0 < slice_index counts j → (slice_index (slice_set counts line count) j ≡ slice_index counts j) × (origin_at (slice_set origins line o) j ≡ origin_at origins j)
      keeps j h = elim (cases_eq j line) [
        | inl same ↦ absurd (let z : slice_index counts j ≡ 0 = ap (slice_index counts) same ∙ none in omega arith)
        | inr apart ↦ (get_or-set_other counts line j count 0 apart, get_or-set_other origins line j o no_origin apart)
      ]

      within : line < length origins
      within = subst (λ n. line < n) (sym a.size) below

      here : IsOrigin all near far starts (slice_set counts line count) (slice_set origins line o) line (slice_index (slice_set counts line count) line) (origin_at (slice_set origins line o) line)
      here =
          subst (λ z. IsOrigin all near far starts (slice_set counts line count) (slice_set origins line o) line z (origin_at (slice_set origins line o) line)) (sym (get_or-set_same counts line count 0 below))
          (subst (λ z. IsOrigin all near far starts (slice_set counts line count) (slice_set origins line o) line count z) (sym (get_or-set_same origins line o no_origin within))
          (origin_kept counts (slice_set counts line count) origins (slice_set origins line o) keeps line count o is))

  -- by an edge
  pub origin_found : (counts : List ℕ) (origins : List Origin) (i line count : ℕ) (x : Edge) (o : Origin) → Contains all x → near x ≡ line → i ≡ far x → 0 < slice_index counts line → count ≡ slice_index counts line + 1 →
      origin_at origins line ≡ o → IsOrigin all near far starts counts origins i count (record { start = o.start; by = Some x })
  origin_found counts origins i line count x o c n f some next read =
      let same : slice_index counts (near x) ≡ slice_index counts line = ap (slice_index counts) n in
      let here : 0 < slice_index counts (near x) = omega arith in
      let more : count ≡ slice_index counts (near x) + 1 = omega arith in
      let origin : origin_at origins (near x) ≡ o = ap (origin_at origins) n ∙ read in
      inr (x, c, sym f, here, more, ap (λ (z : Origin). let made : Origin = record { start = z.start; by = Some x } in made) (sym origin))
