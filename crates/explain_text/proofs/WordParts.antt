-- What is told around a word of a line has the word.
use Rattle.std.proofs.Common.{◌≡◌, ℕ, zero, suc, ◌+◌, ◌-◌, ◌<◌, ◌≤◌, Bool, true, false, inl, inr, List, [], ◌∷◌, ◌++◌, length, length-append, length-drop, length-take-le, take, drop, drop-drop, get_or, refl, sym, ◌∙◌, ap, subst, arith}
use Rattle.std.specs.Prelude.{nat_lt, codes}
use Rattle.std.specs.List.{join_with_byte}
use Rattle.std.specs.Str.{bytes_eq}
use Rattle.std.proofs.lemmas.Bool.{true≢false, cases_lt, cond-true, cond-false, lt-ltb, le-ltb}
use Rattle.std.proofs.lemmas.List.Splits.{join_with_byte-slice_split}
use Rattle.std.proofs.lemmas.Slice.Eq.{bytes_eq-Decides}
use Rattle.graph_words.specs.Words.{pieces}
use Rattle.explain_text.specs.Shown.{shown, place_of, shown_behind, shown_at, shown_for, HasPart, TellsWord}
use Rattle.explain_text.specs.Laws.{StandsAt, FirstStands, StandsBehind}
use Rattle.explain_text.proofs.WordPlaces.{joined_more}

take_front : (x y : List ℕ) → take (length x) (x ++ y) ≡ x
take_front [] y = refl
take_front (b ∷ x) y = ap (λ z. b ∷ z) (take_front x y)

drop_behind : (x : List ℕ) (c p : ℕ) (l : List ℕ) → drop (suc (length x + p)) (x ++ c ∷ l) ≡ drop p l
drop_behind [] c p l = ap (λ n. drop n l) (let e : 0 + p ≡ p = omega arith in e)
drop_behind (b ∷ x) c p l = ap (λ n. drop n (x ++ c ∷ l)) (let e : suc (length x) + p ≡ suc (length x + p) = omega arith in e) ∙ drop_behind x c p l

stands_front : (w y : List ℕ) → StandsAt w 0 (w ++ y)
stands_front w y = record { within = (let e = length-append w y in omega (arith, e)); is = take_front w y }

pub stands_behind : StandsBehind
stands_behind x c w p l s = record {
  within = (let e = length-append x (c ∷ l) in let h : p + length w ≤ length l = s.within in omega (arith, e, h));
  is = ap (take (length w)) (drop_behind x c p l) ∙ s.is;
}

-- a word of a list, and of the list with another one before it
abbrev Stands : List ℕ → ℕ → List (List ℕ) → Type 0
Stands w n ws = (q : ℕ) × (place_of w n ws ≡ n + q) × StandsAt w q (join_with_byte 32 ws)

pub first_stands : FirstStands
first_stands w [] = record { within = omega arith; is = take_all_of w }
  where
    take_all_of : (x : List ℕ) → take (length x) x ≡ x
    take_all_of [] = refl
    take_all_of (b ∷ x) = ap (λ z. b ∷ z) (take_all_of x)
first_stands w (x ∷ ws) = stands_front w (32 ∷ join_with_byte 32 (x ∷ ws))

word_step : (w x : List ℕ) (ws : List (List ℕ)) (n i : ℕ) → ((j : ℕ) → j < length ws → get_or ws j w ≡ w → Stands w (n + length x + 1) ws) → i < length (x ∷ ws) → get_or (x ∷ ws) i w ≡ w → Stands w n (x ∷ ws)
word_step w x ws n i further low is = by_test (bytes_eq x w) refl
  where
    rest : (bytes_eq x w ≡ false) → (i : ℕ) → i < length (x ∷ ws) → get_or (x ∷ ws) i w ≡ w → Stands w (n + length x + 1) ws × (0 < length ws)
    rest no' zero low is = absurd (true≢false (sym ((bytes_eq-Decides x w).1 is) ∙ no'))
    rest no' (suc j) low is = (further j (let l : suc j < length (x ∷ ws) = low in omega arith) is, (let l : suc j < length (x ∷ ws) = low in omega arith))

    by_test : (b : Bool) → bytes_eq x w ≡ b → Stands w n (x ∷ ws)
    by_test true e = (
      0,
      cond-true (bytes_eq x w) n (place_of w (n + length x + 1) ws) e ∙ (let z : n ≡ n + 0 = omega arith in z),
      subst (λ z. StandsAt w 0 (join_with_byte 32 (z ∷ ws))) (sym ((bytes_eq-Decides x w).0 e)) (first_stands w ws),
    )
    by_test false e =
        let r = rest e i low is in
        let q = r.0.0 in (
          suc (length x + q),
          cond-false (bytes_eq x w) n (place_of w (n + length x + 1) ws) e ∙ (r.0.1 ∙ (let z : n + length x + 1 + q ≡ n + suc (length x + q) = omega arith in z)),
          subst (StandsAt w (suc (length x + q))) (sym (joined_more 32 x ws r.1)) (stands_behind x 32 w q (join_with_byte 32 ws) r.0.2),
        )

word_stands : (w : List ℕ) (ws : List (List ℕ)) (n i : ℕ) → i < length ws → get_or ws i w ≡ w → Stands w n ws
word_stands w [] n i low is = absurd (omega (arith, low))
word_stands w (x ∷ ws) n i low is = word_step w x ws n i (λ j l e. word_stands w ws (n + length x + 1) j l e) low is

-- what stands in a front of bytes
take_of_front : (a n : ℕ) (l z : List ℕ) → a ≤ n → n ≤ length l → take a (take n l ++ z) ≡ take a l
take_of_front zero n l z few within = refl
take_of_front (suc a) zero l z few within = absurd (omega (arith, few))
take_of_front (suc a) (suc n) [] z few within = absurd (omega (arith, within))
take_of_front (suc a) (suc n) (b ∷ l) z few within = ap (λ t. b ∷ t) (take_of_front a n l z (omega (arith, few)) (omega (arith, within)))

part_of_front : (p a n : ℕ) (l z : List ℕ) → p + a ≤ n → n ≤ length l → take a (drop p (take n l ++ z)) ≡ take a (drop p l)
part_of_front zero a n l z few within = take_of_front a n l z (omega (arith, few)) within
part_of_front (suc p) a zero l z few within = absurd (omega (arith, few))
part_of_front (suc p) a (suc n) [] z few within = absurd (omega (arith, within))
part_of_front (suc p) a (suc n) (b ∷ l) z few within = part_of_front p a n l z (omega (arith, few)) (omega (arith, within))

-- bytes and as many of them as a number allows
length_front : (n : ℕ) (l : List ℕ) → n ≤ length l → length (take n l) ≡ n
length_front n l within = length-take-le n l within

module _ (w l : List ℕ) where
  -- of a long line the front is told
  shown_long : 200 < length l → shown l ≡ take 198 l ++ codes ".."
  shown_long long = cond-true (nat_lt 200 (length l)) (take 198 l ++ codes "..") l (lt-ltb 200 (length l) long)

  shown_few : 200 < length l → length (shown l) ≤ 200
  shown_few long = (
      let e = ap length (shown_long long) ∙ length-append (take 198 l) (codes "..") in
      let f = length_front 198 l (omega (arith, long)) in omega (arith, e, f))

  front_has : (p : ℕ) → 200 < length l → p + length w ≤ 198 → StandsAt w p l → HasPart (shown l) w
  front_has p long near s = (p, subst (λ z. take (length w) (drop p z) ≡ w) (sym (shown_long long)) (part_of_front p (length w) 198 l (codes "..") near (omega (arith, long)) ∙ s.is))

-- what is told from a place of a long line on
behind_long : (r : List ℕ) → 198 < length r → shown_behind r ≡ codes ".." ++ (take 196 r ++ codes "..")
behind_long r long = ap (λ z. codes ".." ++ z) (cond-true (nat_lt 198 (length r)) (take 196 r ++ codes "..") r (lt-ltb 198 (length r) long))

behind_short : (r : List ℕ) → length r ≤ 198 → shown_behind r ≡ codes ".." ++ r
behind_short r short = ap (λ z. codes ".." ++ z) (cond-false (nat_lt 198 (length r)) (take 196 r ++ codes "..") r (le-ltb 198 (length r) short))

behind_few : (r : List ℕ) → length (shown_behind r) ≤ 200
behind_few r = elim (cases_lt 198 (length r)) [
  | inl long ↦ (
      let e = ap length (behind_long r long) ∙ length-append (codes "..") (take 196 r ++ codes "..") in
      let f = length-append (take 196 r) (codes "..") in
      let h = length-take-le 196 r (omega (arith, long)) in omega (arith, e, f, h))
  | inr short ↦ (let e = ap length (behind_short r short) ∙ length-append (codes "..") r in omega (arith, e, short))
]

behind_has : (w : List ℕ) (q : ℕ) (r : List ℕ) → q + length w ≤ 196 → StandsAt w q r → HasPart (shown_behind r) w
behind_has w q r near s = elim (cases_lt 198 (length r)) [
  | inl long ↦ (suc (suc q), subst (λ z. take (length w) (drop (suc (suc q)) z) ≡ w) (sym (behind_long r long)) (part_of_front q (length w) 196 r (codes "..") near (omega (arith, long)) ∙ s.is))
  | inr short ↦ (suc (suc q), subst (λ z. take (length w) (drop (suc (suc q)) z) ≡ w) (sym (behind_short r short)) s.is)
]

-- bytes before a word are left out
stands_dropped : (w : List ℕ) (p b : ℕ) (l : List ℕ) → b ≤ p → StandsAt w p l → StandsAt w (p - b) (drop b l)
stands_dropped w p b l low s = record {
  within = (let e = length-drop b l in let h : p + length w ≤ length l = s.within in omega (arith, e, h, low));
  is = ap (take (length w)) (drop-drop (p - b) b l ∙ ap (λ n. drop n l) (let e : b + (p - b) ≡ p = omega (arith, low) in e)) ∙ s.is;
}

-- the part around a place
at_few : (p : ℕ) (l : List ℕ) → 200 < length l → length (shown_at p l) ≤ 200
at_few p l long = elim (cases_lt p 100) [
  | inl near ↦ subst (λ z. length z ≤ 200) (sym (cond-true (nat_lt p 100) (shown l) (shown_behind (drop (p - 32) l)) (lt-ltb p 100 near))) (shown_few [] l long)
  | inr far ↦ subst (λ z. length z ≤ 200) (sym (cond-false (nat_lt p 100) (shown l) (shown_behind (drop (p - 32) l)) (le-ltb p 100 far))) (behind_few (drop (p - 32) l))
]

at_has : (w : List ℕ) (p : ℕ) (l : List ℕ) → 200 < length l → length w ≤ 98 → StandsAt w p l → HasPart (shown_at p l) w
at_has w p l long short s = elim (cases_lt p 100) [
  | inl near ↦ subst (λ z. HasPart z w) (sym (cond-true (nat_lt p 100) (shown l) (shown_behind (drop (p - 32) l)) (lt-ltb p 100 near))) (front_has w l p long (omega (arith, near, short)) s)
  | inr far ↦ subst (λ z. HasPart z w) (sym (cond-false (nat_lt p 100) (shown l) (shown_behind (drop (p - 32) l)) (le-ltb p 100 far)))
      (behind_has w (p - (p - 32)) (drop (p - 32) l) (omega (arith, far, short)) (stands_dropped w p (p - 32) l (omega arith) s))
]

for_long : (w l : List ℕ) → 200 < length l → shown_for w l ≡ shown_at (place_of w 0 (pieces 32 l)) l
for_long w l long = cond-true (nat_lt 200 (length l)) (shown_at (place_of w 0 (pieces 32 l)) l) l (lt-ltb 200 (length l) long)

for_short : (w l : List ℕ) → length l ≤ 200 → shown_for w l ≡ l
for_short w l short = cond-false (nat_lt 200 (length l)) (shown_at (place_of w 0 (pieces 32 l)) l) l (le-ltb 200 (length l) short)

pub tells_word : (w l : List ℕ) → TellsWord w l
tells_word w l = record {
  few = elim (cases_lt 200 (length l)) [
    | inl long ↦ subst (λ z. length z ≤ 200) (sym (for_long w l long)) (at_few (place_of w 0 (pieces 32 l)) l long)
    | inr short ↦ subst (λ z. length z ≤ 200) (sym (for_short w l short)) short
  ];
  told = λ in' fits. (
      let st = word_stands w (pieces 32 l) 0 in'.0 in'.1 in'.2 in
      let at : StandsAt w st.0 l = subst (StandsAt w st.0) (join_with_byte-slice_split 32 l) st.2 in
      let place : place_of w 0 (pieces 32 l) ≡ st.0 = st.1 ∙ omega arith in
      elim (cases_lt 200 (length l)) [
        | inl long ↦ subst (λ z. HasPart z w) (sym (for_long w l long)) (at_has w (place_of w 0 (pieces 32 l)) l long fits (subst (λ p. StandsAt w p l) (sym place) at))
        | inr short ↦ subst (λ z. HasPart z w) (sym (for_short w l short)) (st.0, at.is)
      ]);
}
