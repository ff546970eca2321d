-- The lines of a list get their bits.
use Rattle.std.proofs.Common.{◌≡◌, ℕ, ◌+◌, ◌*◌, ◌%◌, ◌^◌, ◌<◌, ◌≤◌, inl, inr, List, length, sym, ◌∙◌, ap, subst, arith}
use Rattle.std.specs.Prelude.{Option, None, Vec, slice_index, slice_set}
use Rattle.std.specs.Global.{Global}
use Rattle.std.specs.List.{slice_index_or}
use Rattle.std.specs.Int.RustNames.{bit_or}
use Rattle.std.proofs.lemmas.Bool.{cases_eq}
use Rattle.std.proofs.lemmas.List.{length-set}
use Rattle.std.proofs.lemmas.Option.{none-some, same_Some}
use Rattle.graph_terms.specs.Graph.{GraphValue}
use Rattle.section_sweeps.specs.declared.blocks.Marked.{Marked}
use Rattle.section_sweeps.specs.Blocks.{IsLineOf, IsMarked}
use Rattle.section_sweeps.specs.Group.{AreOwn}
use Rattle.section_sweeps.specs.Passing.{HasBit, HaveNone, IsSized}
use Rattle.section_sweeps.proofs.Grouping.{own_none, own_more, ends_more}
use Rattle.section_sweeps.proofs.PassingSteps.{given_cases}

-- none has one yet
pub marked_none : (g : GraphValue) (places : List ℕ) (of : List (Option ℕ)) (s : Marked) → IsSized (length g.lines) s.bits → HaveNone s.bits.own.items → HaveNone s.bits.passed.items → s.high ≤ length g.lines → IsMarked g places of s 0
marked_none g places of s size own none within = record {
  size = size;
  own = own_none (IsLineOf of) s.bits.own.items own;
  none = none;
  begins = λ i b h. absurd (own i b h);
  ends = λ i b h. absurd (own i b h);
  within = within;
}

-- a line that isn't there
pub marked_skip : (g : GraphValue) (places : List ℕ) (of : List (Option ℕ)) (s : Marked) (m : ℕ) → slice_index_or of m None ≡ None → IsMarked g places of s m → IsMarked g places of s (m + 1)
marked_skip g places of s m gone w = record {
  size = w.size;
  own = record {
    is = λ i b h. (let k = w.own.is i b h in (omega (arith, k.0), k.1));
    all = λ i b h at. elim (cases_eq b m) [
      | inl same ↦ absurd (none-some i (sym gone ∙ (ap (λ z. slice_index_or of z None) (sym same) ∙ at)))
      | inr apart ↦ w.own.all i b (omega (arith, apart)) at
    ];
  };
  none = w.none;
  begins = w.begins;
  ends = w.ends;
  within = w.within;
}

-- the next line
pub marked_more : (g : GraphValue) (places : List ℕ) (of : List (Option ℕ)) (s t : Marked) (m i : ℕ) → m < 64 → i < length g.lines → IsLineOf of m i →
    t.bits.own.items ≡ slice_set s.bits.own.items i (bit_or (slice_index s.bits.own.items i) (1 * 2 ^ m % 2 ^ 64)) → t.bits.passed ≡ s.bits.passed →
    t.low ≤ s.low → t.low ≤ slice_index places i → s.high ≤ t.high → slice_index places i < t.high → t.high ≤ length g.lines → IsMarked g places of s m → IsMarked g places of t (m + 1)
marked_more g places of s t m i few low at set kept down low_at up high_at within w =
    let own : List ℕ = s.bits.own.items in
    let small : i < length own = omega (arith, low, w.size.own) in
    record {
      size = record { own = ap length set ∙ (length-set own i (bit_or (slice_index own i) (1 * 2 ^ m % 2 ^ 64)) ∙ w.size.own); passed = ap (λ (v : Vec ℕ Global). length v.items) kept ∙ w.size.passed };
      own = subst (λ xs. AreOwn (IsLineOf of) xs (m + 1)) (sym set) (own_more (IsLineOf of) own m i small few at (λ k h. same_Some k i (sym h ∙ at)) w.own);
      none = subst (λ (v : Vec ℕ Global). HaveNone v.items) (sym kept) w.none;
      begins = λ k b h. elim (given_cases own i m k b small few (subst (λ xs. HasBit xs k b) set h)) [
        | inl old ↦ (let l = w.begins k b old in omega (arith, l, down))
        | inr new ↦ subst (λ z. t.low ≤ slice_index places z) (sym new.0) low_at
      ];
      ends = λ k b h. ends_more places own m i s.high t.high small few up high_at w.ends k b (subst (λ xs. HasBit xs k b) set h);
      within = within;
    }
