-- What a marking leaves, line by line.
use Rattle.std.proofs.Common.{◌≡◌, ℕ, zero, suc, ◌+◌, ◌<◌, ◌≤◌, Bool, true, false, cond, ◌⊎◌, inl, inr, List, [], ◌∷◌, ◌++◌, length, refl, sym, ◌∙◌, ap, subst, arith, take}
use Rattle.std.specs.Prelude.{Contains, ◌==◌, slice_index, slice_set}
use Rattle.std.proofs.lemmas.Bool.{cases_eq, eq-eqb, ne_eqb, true≢false}
use Rattle.std.proofs.lemmas.List.{length-set, length-append, get_or-set_same, get_or-set_other, take_more}
use Rattle.std.proofs.lemmas.List.Elements.{Contains-append_left, Contains-push, Contains-push_cases}
use Rattle.std.proofs.lemmas.List.Sums.{sum_by-set, count_by-le-length}
use Rattle.line_marks.specs.Marking.{unmarked, IsMarking}

some_or : (n : ℕ) → (0 < n) ⊎ (n ≡ 0)
some_or zero = inr refl
some_or (suc n) = inl (omega arith)

no_one : (b : Bool) → b ≡ false → cond {A = ℕ} b 1 0 ≡ 0
no_one true e = absurd (true≢false e)
no_one false e = refl

one : (b : Bool) → b ≡ true → cond {A = ℕ} b 1 0 ≡ 1
one true e = refl
one false e = absurd (true≢false (sym e))

-- how many are unmarked after one more is marked
unmarked_set : (xs : List ℕ) (i y : ℕ) → i < length xs → slice_index xs i ≡ 0 → 0 < y → unmarked (slice_set xs i y) + 1 ≡ unmarked xs
unmarked_set xs i y h z s =
    let swap : unmarked (slice_set xs i y) + cond (slice_index xs i == 0) 1 0 ≡ unmarked xs + cond (y == 0) 1 0 = sum_by-set (λ m. cond (m == 0) 1 0) xs i y 0 h in
    omega (arith, one (slice_index xs i == 0) (eq-eqb (slice_index xs i) 0 z), no_one (y == 0) (ne_eqb y 0 (λ e. absurd (omega arith))))

pub unmarked_most : (xs : List ℕ) → unmarked xs ≤ length xs
unmarked_most xs = count_by-le-length (λ m. m == 0) xs

-- no line
pub marks_none : (targets : ℕ → Type 0) (mark : ℕ) (old before : List ℕ) → ((i : ℕ) → targets i → ⊥) → IsMarking targets mark old before old before
marks_none targets mark old before none = record {
  size = refl;
  keeps = λ i h. refl;
  marks = λ i z h. absurd (omega arith);
  covers = λ i t. absurd (none i t);
  stays = λ i c. c;
  fresh = λ i c. inl c;
  work = refl;
}

-- a line that was found before
pub marks_found : (mark : ℕ) (old before : List ℕ) (line : ℕ) → 0 < slice_index old line → IsMarking (λ i. i ≡ line) mark old before old before
marks_found mark old before line some = record {
  size = refl;
  keeps = λ i h. refl;
  marks = λ i z h. absurd (omega arith);
  covers = λ i e. subst (λ x. 0 < slice_index old x) (sym e) some;
  stays = λ i c. c;
  fresh = λ i c. inl c;
  work = refl;
}

-- a line that was not
pub marks_one : (mark : ℕ) (old before : List ℕ) (line : ℕ) → line < length old → slice_index old line ≡ 0 → 0 < mark → IsMarking (λ i. i ≡ line) mark old before (slice_set old line mark) (before ++ line ∷ [])
marks_one mark old before line below none some =
    let here : slice_index (slice_set old line mark) line ≡ mark = get_or-set_same old line mark 0 below in
    record {
      size = length-set old line mark;
      keeps = λ i h. get_or-set_other old line i mark 0 (λ e. (let z : slice_index old i ≡ 0 = ap (slice_index old) e ∙ none in absurd (omega arith)));
      marks = λ i z h. elim (cases_eq i line) [
        | inl same ↦ (ap (slice_index (slice_set old line mark)) same ∙ here, same, subst (λ x. Contains (before ++ line ∷ []) x) (sym same) (Contains-push before line))
        | inr apart ↦ (let k : slice_index (slice_set old line mark) i ≡ slice_index old i = get_or-set_other old line i mark 0 apart in absurd (omega arith))
      ];
      covers = λ i e. (let k : slice_index (slice_set old line mark) i ≡ mark = ap (slice_index (slice_set old line mark)) e ∙ here in omega arith);
      stays = λ i c. Contains-append_left before (line ∷ []) i c;
      fresh = λ i c. elim (Contains-push_cases before line i c) [
        | inl w ↦ inl w
        | inr e ↦ inr (ap (slice_index old) (sym e) ∙ none, (let k : slice_index (slice_set old line mark) i ≡ mark = ap (slice_index (slice_set old line mark)) (sym e) ∙ here in let r : 0 < slice_index (slice_set old line mark) i = omega arith in r))
      ];
      work = (let one : length (before ++ line ∷ []) ≡ length before + 1 = length-append before (line ∷ []) in let less : unmarked (slice_set old line mark) + 1 ≡ unmarked old = unmarked_set old line mark below none some in omega arith);
    }

-- some lines and then others
pub marks_more : (S T U : ℕ → Type 0) (mark : ℕ) (old before mid between new pending : List ℕ) → IsMarking S mark old before mid between → IsMarking T mark mid between new pending →
    ((i : ℕ) → S i → U i) → ((i : ℕ) → T i → U i) → ((i : ℕ) → U i → S i ⊎ T i) → IsMarking U mark old before new pending
marks_more S T U mark old before mid between new pending a b left right split = record {
  size = b.size ∙ a.size;
  keeps = λ i h. (let k : slice_index mid i ≡ slice_index old i = a.keeps i h in b.keeps i (omega arith) ∙ k);
  marks = λ i z h. elim (some_or (slice_index mid i)) [
    | inl some ↦ (let k = a.marks i z some in (b.keeps i some ∙ k.0, left i k.1, b.stays i k.2))
    | inr none ↦ (let k = b.marks i none h in (k.0, right i k.1, k.2))
  ];
  covers = λ i u. elim (split i u) [
    | inl s ↦ (let k : 0 < slice_index mid i = a.covers i s in let e : slice_index new i ≡ slice_index mid i = b.keeps i k in omega arith)
    | inr t ↦ b.covers i t
  ];
  stays = λ i c. b.stays i (a.stays i c);
  fresh = λ i c. elim (b.fresh i c) [
    | inl w ↦ elim (a.fresh i w) [
      | inl v ↦ inl v
      | inr f ↦ inr (f.0, (let k : 0 < slice_index mid i = f.1 in let e : slice_index new i ≡ slice_index mid i = b.keeps i k in let r : 0 < slice_index new i = omega arith in r))
    ]
    | inr f ↦ elim (some_or (slice_index old i)) [
      | inl some ↦ (let k : slice_index mid i ≡ slice_index old i = a.keeps i some in let z : slice_index mid i ≡ 0 = f.0 in absurd (omega arith))
      | inr none ↦ inr (none, f.1)
    ]
  ];
  work = b.work ∙ a.work;
}

-- one more line of a list
pub lines_more : (mark : ℕ) (old before mid between new pending lines : List ℕ) (k : ℕ) → k < length lines → IsMarking (Contains (take k lines)) mark old before mid between →
    IsMarking (λ i. i ≡ slice_index lines k) mark mid between new pending → IsMarking (Contains (take (k + 1) lines)) mark old before new pending
lines_more mark old before mid between new pending lines k below a b = marks_more (Contains (take k lines)) (λ i. i ≡ slice_index lines k) (Contains (take (k + 1) lines)) mark old before mid between new pending a b
    (λ i c. subst (λ xs. Contains xs i) (sym more) (Contains-append_left (take k lines) (slice_index lines k ∷ []) i c))
    (λ i e. subst (λ xs. Contains xs i) (sym more) (subst (λ x. Contains (take k lines ++ slice_index lines k ∷ []) x) (sym e) (Contains-push (take k lines) (slice_index lines k))))
    (λ i c. elim (Contains-push_cases (take k lines) (slice_index lines k) i (subst (λ xs. Contains xs i) more c)) [ inl l ↦ inl l | inr e ↦ inr (sym e) ])
  where
    more : take (k + 1) lines ≡ take k lines ++ slice_index lines k ∷ []
    more = take_more lines k 0 below

-- the same of other words for these lines
pub marks_as : (S T : ℕ → Type 0) (mark : ℕ) (old before new pending : List ℕ) → ((i : ℕ) → S i → T i) → ((i : ℕ) → T i → S i) → IsMarking S mark old before new pending → IsMarking T mark old before new pending
marks_as S T mark old before new pending into back m = record {
  size = m.size;
  keeps = m.keeps;
  marks = λ i z h. (let k = m.marks i z h in (k.0, into i k.1, k.2));
  covers = λ i t. m.covers i (back i t);
  stays = m.stays;
  fresh = m.fresh;
  work = m.work;
}
