-- How many digits numbers have.
use Rattle.std.proofs.Common.{◌≡◌, ℕ, ◌+◌, ◌/◌, ◌%◌, ◌^◌, ◌<◌, ◌≤◌, [], ◌∷◌, length, decimal, ap, ◌∙◌, length-append, arith}
use Rattle.std.proofs.lemmas.Fmt.{decimal_step, decimal_digit}

pub one_digit : (n : ℕ) → n < 10 → length (decimal n) ≡ 1
one_digit n h = ap length (decimal_digit n h)

pub digit_more : (n : ℕ) → 10 ≤ n → n < 2 ^ 64 → length (decimal n) ≡ length (decimal (n / 10)) + 1
digit_more n h s = ap length (decimal_step n h s) ∙ length-append (decimal (n / 10)) ((48 + n % 10) ∷ [])

pub two_digits : (n : ℕ) → 10 ≤ n → n < 100 → length (decimal n) ≡ 2
two_digits n h s =
    let more = digit_more n h (omega (arith, s)) in
    let one = one_digit (n / 10) (omega (arith, s)) in
    omega (arith, more, one)

pub three_digits : (n : ℕ) → 100 ≤ n → n < 1000 → length (decimal n) ≡ 3
three_digits n h s =
    let more = digit_more n (omega (arith, h)) (omega (arith, s)) in
    let two = two_digits (n / 10) (omega (arith, h)) (omega (arith, s)) in
    omega (arith, more, two)

pub four_digits : (n : ℕ) → 1000 ≤ n → n < 10000 → length (decimal n) ≡ 4
four_digits n h s =
    let more = digit_more n (omega (arith, h)) (omega (arith, s)) in
    let three = three_digits (n / 10) (omega (arith, h)) (omega (arith, s)) in
    omega (arith, more, three)

pub four_digits_more : (n : ℕ) → 10000 ≤ n → n < 2 ^ 64 → length (decimal n) ≡ length (decimal (n / 10 / 10 / 10 / 10)) + 4
four_digits_more n h s =
    let a = digit_more n (omega (arith, h)) s in
    let b = digit_more (n / 10) (omega (arith, h)) (omega (arith, s)) in
    let c = digit_more (n / 10 / 10) (omega (arith, h)) (omega (arith, s)) in
    let d = digit_more (n / 10 / 10 / 10) (omega (arith, h)) (omega (arith, s)) in
    omega (arith, a, b, c, d)
