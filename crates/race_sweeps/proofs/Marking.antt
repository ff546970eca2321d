-- Marks, one more at a time.
use Rattle.std.proofs.Common.{◌≡◌, ℕ, ◌<◌, ◌≤◌, true, inl, inr, List, [], ◌∷◌, ◌++◌, length, refl, sym, ◌∙◌, ap, subst, arith}
use Rattle.std.specs.Prelude.{Contains, Some, slice_get, slice_set}
use Rattle.std.specs.List.{slice_index_or}
use Rattle.std.proofs.lemmas.Bool.{cases_eq}
use Rattle.std.proofs.lemmas.Option.{slice_get_within, get_or_from_slice_get}
use Rattle.std.proofs.lemmas.List.{length-set, get_or-set_same, get_or-set_other}
use Rattle.std.proofs.lemmas.List.Elements.{Contains-push, Contains-push_cases, Contains-append_left}
use Rattle.race_sweeps.specs.declared.marks.Mark.{Mark}
use Rattle.sweep_base.specs.Bits.{bit_in}
use Rattle.race_sweeps.specs.Marks.{IsMarked, AreMarksBelow}
use Rattle.race_sweeps.proofs.Lists.{set_cases}

-- a mark is joined with another of its class
module _ (xs : List Mark) (s : ℕ) (m j : Mark) (at : slice_get xs s ≡ Some m) (class : j.class ≡ m.class) where
  here : Contains (slice_set xs s j) j
  here = (s, (let b : s < length xs = slice_get_within xs s m at in let e : length (slice_set xs s j) ≡ length xs = length-set xs s j in omega arith), get_or-set_same xs s j j (slice_get_within xs s m at))

  pub joined_kept : ((b : ℕ) → bit_in m.word b ≡ true → bit_in j.word b ≡ true) → j.floor ≤ m.floor → (c b x : ℕ) → IsMarked xs c b x → IsMarked (slice_set xs s j) c b x
  joined_kept bits floor c b x i = elim (cases_eq i.kept.0 s) [
    | inl same ↦ (
        let is : m ≡ i.mark = sym (get_or_from_slice_get xs s m i.mark at) ∙ (ap (λ k. slice_index_or xs k i.mark) (sym same) ∙ i.kept.2) in
        let low : i.mark.floor ≤ x = i.floor in
        let lower : j.floor ≤ i.mark.floor = subst (λ (n : Mark). j.floor ≤ n.floor) is floor in
        record {
          mark = j;
          kept = here;
          class = class ∙ (ap (λ (n : Mark). n.class) is ∙ i.class);
          bit = bits b (ap (λ (n : Mark). bit_in n.word b) is ∙ i.bit);
          floor = omega arith;
        })
    | inr apart ↦ record {
      mark = i.mark;
      kept = (i.kept.0, (let b : i.kept.0 < length xs = i.kept.1 in let e : length (slice_set xs s j) ≡ length xs = length-set xs s j in omega arith), get_or-set_other xs s i.kept.0 j i.mark apart ∙ i.kept.2);
      class = i.class;
      bit = i.bit;
      floor = i.floor;
    }
  ]

  pub joined_marked : (word floor : ℕ) → ((b : ℕ) → bit_in word b ≡ true → bit_in j.word b ≡ true) → j.floor ≤ floor → (c : ℕ) → m.class ≡ c → (b x : ℕ) → bit_in word b ≡ true → floor ≤ x → IsMarked (slice_set xs s j) c b x
  joined_marked word floor bits low c is b x set above = record { mark = j; kept = here; class = class ∙ is; bit = bits b set; floor = omega arith }

  pub joined_below : (n : ℕ) → m.class < n → AreMarksBelow xs n → AreMarksBelow (slice_set xs s j) n
  joined_below n small all k c = elim (set_cases xs s j k c) [ inl o ↦ all k o | inr e ↦ subst (λ (z : Mark). z.class < n) e (subst (λ z. z < n) (sym class) small) ]

-- a mark is added
module _ (xs : List Mark) (m : Mark) where
  pub added_kept : (c b x : ℕ) → IsMarked xs c b x → IsMarked (xs ++ m ∷ []) c b x
  added_kept c b x i = record { mark = i.mark; kept = Contains-append_left xs (m ∷ []) i.mark i.kept; class = i.class; bit = i.bit; floor = i.floor }

  pub added_marked : (b x : ℕ) → bit_in m.word b ≡ true → m.floor ≤ x → IsMarked (xs ++ m ∷ []) m.class b x
  added_marked b x set above = record { mark = m; kept = Contains-push xs m; class = refl; bit = set; floor = above }

  pub added_below : (n : ℕ) → m.class < n → AreMarksBelow xs n → AreMarksBelow (xs ++ m ∷ []) n
  added_below n small all k c = elim (Contains-push_cases xs m k c) [ inl o ↦ all k o | inr e ↦ subst (λ (z : Mark). z.class < n) e small ]
