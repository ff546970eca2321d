-- The order of names by the number of their first bytes, and short names that have one number.
use Rattle.std.proofs.Common.{◌≡◌, ℕ, zero, suc, ◌+◌, ◌-◌, ◌*◌, ◌<◌, ◌≤◌, true, ◌&&◌, ◌||◌, List, [], ◌∷◌, ◌++◌, length, replicate, get_or, Less, Equal, Greater, refl, sym, ap, ◌∙◌, inl, inr, arith}
use Rattle.std.specs.Prelude.{nat_le, ◌==◌}
use Rattle.std.specs.Ordering.{nat_cmp, ordering_then}
use Rattle.std.specs.Cmp.Lexicographic.{slice_cmp}
use Rattle.std.specs.Cmp.{nat_cmp_is}
use Rattle.std.specs.Char.{is_ascii_lowercase, is_ascii_uppercase, is_ascii_digit}
use Rattle.std.specs.List.{list_all, AllByRecursion}
use Rattle.std.proofs.Math.Nat.{mul-le-mul_right}
use Rattle.std.specs.Str.{bytes_eq}
use Rattle.std.proofs.lemmas.Bool.{cases_lt, and_parts, leb-true, le-leb, or_cases, eqb-true}
use Rattle.std.proofs.lemmas.Slice.Eq.{bytes_eq-Decides}
use Rattle.graph_terms.specs.declared.format.Format.TheVariants.{Three}
use Rattle.graph_terms.specs.Name.{is_first_byte, is_later_byte, is_name_in, padded}
use Rattle.graph_terms.specs.NameLaws.{front_number}

-- what the first k bytes come to, the first of them the highest digit
abbrev pub worth : ℕ → ℕ
worth zero = 1
worth (suc k) = 256 * worth k

abbrev pub value : ℕ → List ℕ → ℕ
value zero bytes = 0
value (suc k) [] = 0
value (suc k) (b ∷ bs) = b * worth k + value k bs

abbrev pub Bytes : List ℕ → Type 0
Bytes bs = AllByRecursion (λ b. b < 256) bs

positive : (k : ℕ) → 1 ≤ worth k
positive zero = omega arith
positive (suc k) = let p = positive k in omega (arith, p)

nothing : (k : ℕ) → value k [] ≡ 0
nothing zero = refl
nothing (suc k) = refl

below : (k : ℕ) (bs : List ℕ) → Bytes bs → value k bs < worth k
below zero bs h = omega arith
below (suc k) [] h = let p = positive k in omega (arith, p)
below (suc k) (b ∷ bs) h =
    let rest = below k bs h.1 in
    let digit : b * worth k ≤ 255 * worth k = mul-le-mul_right (worth k) (omega (arith, h.0)) in
    omega (arith, rest, digit)

-- a greater first byte makes a greater number
first_decides : (k x y : ℕ) (xs ys : List ℕ) → Bytes xs → Bytes ys → x < y → x * worth k + value k xs < y * worth k + value k ys
first_decides k x y xs ys h i l =
    let low = below k xs h in
    let digit : (x + 1) * worth k ≤ y * worth k = mul-le-mul_right (worth k) (omega (arith, l)) in
    omega (arith, low, digit)

pub less : (k : ℕ) (xs ys : List ℕ) → Bytes xs → Bytes ys → value k xs < value k ys → slice_cmp nat_cmp xs ys ≡ Less
less zero xs ys h i l = absurd (omega (arith, l))
less (suc k) [] [] h i l = absurd (omega (arith, l))
less (suc k) [] (y ∷ ys) h i l = refl
less (suc k) (x ∷ xs) [] h i l = absurd (omega (arith, l))
less (suc k) (x ∷ xs) (y ∷ ys) h i l = elim (cases_lt x y) [
  | inl a ↦ ap (λ o. ordering_then o (slice_cmp nat_cmp xs ys)) (sym (nat_cmp_is x y Less a))
  | inr a ↦ elim (cases_lt y x) [
    | inl b ↦ (let more = first_decides k y x ys xs i.1 h.1 b in absurd (omega (arith, l, more)))
    | inr b ↦ (
        let same : x ≡ y = omega (arith, a, b) in
        let digit : x * worth k ≡ y * worth k = ap (λ n. n * worth k) same in
        ap (λ o. ordering_then o (slice_cmp nat_cmp xs ys)) (sym (nat_cmp_is x y Equal same)) ∙ less k xs ys h.1 i.1 (omega (arith, l, digit))
        )
  ]
]

pub greater : (k : ℕ) (xs ys : List ℕ) → Bytes xs → Bytes ys → value k ys < value k xs → slice_cmp nat_cmp xs ys ≡ Greater
greater zero xs ys h i l = absurd (omega (arith, l))
greater (suc k) [] [] h i l = absurd (omega (arith, l))
greater (suc k) (x ∷ xs) [] h i l = refl
greater (suc k) [] (y ∷ ys) h i l = absurd (omega (arith, l))
greater (suc k) (x ∷ xs) (y ∷ ys) h i l = elim (cases_lt y x) [
  | inl a ↦ ap (λ o. ordering_then o (slice_cmp nat_cmp xs ys)) (sym (nat_cmp_is x y Greater a))
  | inr a ↦ elim (cases_lt x y) [
    | inl b ↦ (let more = first_decides k x y xs ys h.1 i.1 b in absurd (omega (arith, l, more)))
    | inr b ↦ (
        let same : x ≡ y = omega (arith, a, b) in
        let digit : x * worth k ≡ y * worth k = ap (λ n. n * worth k) same in
        ap (λ o. ordering_then o (slice_cmp nat_cmp xs ys)) (sym (nat_cmp_is x y Equal same)) ∙ greater k xs ys h.1 i.1 (omega (arith, l, digit))
        )
  ]
]

-- the number of the first eight bytes
eight : (bs : List ℕ) → value 8 bs ≡ front_number bs
eight [] = refl
eight (a ∷ []) = omega arith
eight (a ∷ b ∷ []) = omega arith
eight (a ∷ b ∷ c ∷ []) = omega arith
eight (a ∷ b ∷ c ∷ d ∷ []) = omega arith
eight (a ∷ b ∷ c ∷ d ∷ e ∷ []) = omega arith
eight (a ∷ b ∷ c ∷ d ∷ e ∷ f ∷ []) = omega arith
eight (a ∷ b ∷ c ∷ d ∷ e ∷ f ∷ g ∷ []) = omega arith
eight (a ∷ b ∷ c ∷ d ∷ e ∷ f ∷ g ∷ h ∷ bs) = omega arith

-- zeros behind the bytes change nothing
zeros : (n i : ℕ) → get_or {A = ℕ} (replicate n 0) i 0 ≡ 0
zeros zero i = refl
zeros (suc n) zero = refl
zeros (suc n) (suc i) = zeros n i

with_zeros : (bs : List ℕ) (n i : ℕ) → get_or (bs ++ replicate n 0) i 0 ≡ get_or bs i 0
with_zeros [] n i = zeros n i
with_zeros (b ∷ bs) n zero = refl
with_zeros (b ∷ bs) n (suc i) = with_zeros bs n i

pub front_of_padded : (d : List ℕ) → front_number (padded d) ≡ front_number d
front_of_padded d =
    let n = 63 - length d in
    let a = with_zeros d n 0 in
    let b = with_zeros d n 1 in
    let c = with_zeros d n 2 in
    let e = with_zeros d n 3 in
    let f = with_zeros d n 4 in
    let g = with_zeros d n 5 in
    let h = with_zeros d n 6 in
    let i = with_zeros d n 7 in
    omega (arith, a, b, c, e, f, g, h, i)

-- the bytes of a name
first_small : (b : ℕ) → is_first_byte b ≡ true → b < 256
first_small b h = elim (or_cases (is_ascii_lowercase b) (is_ascii_uppercase b || b == 95) h) [
  | inl l ↦ (let p = and_parts (nat_le 97 b) (nat_le b 122) l in let q = leb-true b 122 p.1 in omega (arith, q))
  | inr m ↦ elim (or_cases (is_ascii_uppercase b) (b == 95) m) [
    | inl l ↦ (let p = and_parts (nat_le 65 b) (nat_le b 90) l in let q = leb-true b 90 p.1 in omega (arith, q))
    | inr e ↦ (let q = eqb-true b 95 e in omega (arith, q))
  ]
]

later_small : (b : ℕ) → is_later_byte b ≡ true → b < 256
later_small b h = elim (or_cases (is_first_byte b) (is_ascii_digit b) h) [
  | inl l ↦ first_small b l
  | inr l ↦ (let p = and_parts (nat_le 48 b) (nat_le b 57) l in let q = leb-true b 57 p.1 in omega (arith, q))
]

name_bytes : (bs : List ℕ) → list_all is_later_byte bs ≡ true → Bytes bs
name_bytes [] h = tt
name_bytes (b ∷ bs) h = let p = and_parts (is_later_byte b) (list_all is_later_byte bs) h in (later_small b p.0, name_bytes bs p.1)

bytes_of : (d : List ℕ) → is_name_in Three d ≡ true → Bytes d
bytes_of [] h = tt
bytes_of (b ∷ bs) h =
    let p = and_parts (nat_le (length (b ∷ bs)) 63 && is_first_byte b) (list_all is_later_byte bs) h in
    let q = and_parts (nat_le (length (b ∷ bs)) 63) (is_first_byte b) p.0 in
    (first_small b q.1, name_bytes bs p.1)

-- names whose first bytes come to different numbers are ordered as these
pub ordered_by_front : (xs ys : List ℕ) → is_name_in Three xs ≡ true → is_name_in Three ys ≡ true → (f g : ℕ) → f ≡ front_number xs → g ≡ front_number ys → (f ≡ g → ⊥) → nat_cmp f g ≡ slice_cmp nat_cmp xs ys
ordered_by_front xs ys h i f g e j n =
    let one : f ≡ value 8 xs = e ∙ sym (eight xs) in
    let other : g ≡ value 8 ys = j ∙ sym (eight ys) in
    elim (cases_lt f g) [
      | inl a ↦ sym (nat_cmp_is f g Less a) ∙ sym (less 8 xs ys (bytes_of xs h) (bytes_of ys i) (omega (arith, a, one, other)))
      | inr a ↦ (
          let b : g < f = omega (arith, a, n) in
          sym (nat_cmp_is f g Greater b) ∙ sym (greater 8 xs ys (bytes_of xs h) (bytes_of ys i) (omega (arith, b, one, other)))
          )
    ]

-- bytes that come to one number are the same ones, where there are no more than its digits and as many on both sides
same_value : (k : ℕ) (xs ys : List ℕ) → Bytes xs → Bytes ys → length xs ≡ length ys → length xs ≤ k → value k xs ≡ value k ys → xs ≡ ys
same_value k [] [] h i l s v = refl
same_value k [] (y ∷ ys) h i l s v = absurd (omega (arith, l))
same_value k (x ∷ xs) [] h i l s v = absurd (omega (arith, l))
same_value zero (x ∷ xs) (y ∷ ys) h i l s v = absurd (omega (arith, s))
same_value (suc k) (x ∷ xs) (y ∷ ys) h i l s v = elim (cases_lt x y) [
  | inl a ↦ (let more = first_decides k x y xs ys h.1 i.1 a in absurd (omega (arith, v, more)))
  | inr a ↦ elim (cases_lt y x) [
    | inl b ↦ (let more = first_decides k y x ys xs i.1 h.1 b in absurd (omega (arith, v, more)))
    | inr b ↦ (
        let same : x ≡ y = omega (arith, a, b) in
        let digit : x * worth k ≡ y * worth k = ap (λ n. n * worth k) same in
        ap (λ n. n ∷ xs) same ∙ ap (λ r. y ∷ r) (same_value k xs ys h.1 i.1 (omega (arith, l)) (omega (arith, s)) (omega (arith, v, digit)))
        )
  ]
]

-- names of at most eight bytes with one number of their first bytes, and as many bytes, are one name
pub short_same : (xs ys : List ℕ) → is_name_in Three xs ≡ true → is_name_in Three ys ≡ true → (m n f g : ℕ) → m ≡ length xs → n ≡ length ys →
    f ≡ front_number xs → g ≡ front_number ys → f ≡ g → m ≡ n → m ≤ 8 → nat_le m 8 ≡ bytes_eq xs ys
short_same xs ys h i m n f g a b e j p q s =
    let one : f ≡ value 8 xs = e ∙ sym (eight xs) in
    let other : g ≡ value 8 ys = j ∙ sym (eight ys) in
    le-leb m 8 s
    ∙ sym ((bytes_eq-Decides xs ys).1 (same_value 8 xs ys (bytes_of xs h) (bytes_of ys i) (omega (arith, a, b, q)) (omega (arith, a, s)) (omega (arith, one, other, p))))
