-- Words as they are spelled: their bytes, and what is read back of numbers, counts, intervals, fields and columns.
use Rattle.std.proofs.Common.{◌≡◌, ℕ, ◌+◌, ◌^◌, ◌<◌, ◌≤◌, Bool, true, false, not, ◌&&◌, List, [], ◌∷◌, ◌++◌, length, map, refl, sym, ◌∙◌, ap, subst, inl, inr, arith}
use Rattle.std.specs.Prelude.{Option, Some, None, ◌==◌, nat_le, nat_lt, decimal, All}
use Rattle.std.specs.List.{join_with_byte, AllByRecursion, list_all}
use Rattle.std.specs.Str.{all_ascii_digits}
use Rattle.std.specs.Char.{is_ascii_digit, is_ascii_lowercase, is_ascii_uppercase}
use Rattle.std.specs.Str.Parse.{digits_value}
use Rattle.std.proofs.lemmas.Bool.{true≢false, ne_eqb, not-true, and_parts, and_from, or_cases, le-leb, leb-true, eqb-true, cond-true, lt-ltb, ltb-true}
use Rattle.std.proofs.lemmas.Option.{cond_some, none-some, same_Some}
use Rattle.std.proofs.lemmas.Fmt.{decimal_nonempty, digits_decimal}
use Rattle.std.proofs.lemmas.List.Elements.{All-from_recursion}
use Rattle.std.proofs.lemmas.Str.Parse.{IsNumeralModel, numerals_by_value, tells_all_ascii_digits}
use Rattle.std.proofs.lemmas.List.Splits.{join_with_byte-slice_split}
use Rattle.graph_terms.specs.declared.format.Format.{Format}
use Rattle.graph_terms.specs.declared.format.Format.TheVariants.{One, Two, Three}
use Rattle.graph_terms.specs.Limits.{limits}
use Rattle.graph_terms.proofs.Public.{most_limits}
use Rattle.graph_terms.specs.Name.{is_name, is_name_byte, is_first_byte, is_later_byte, is_long_name, is_name_in}
use Rattle.graph_terms.specs.Spelling.{interval_word}
use Rattle.graph_words.specs.Words.{pieces, value_of, above, count_of, weight_of, both_numbers, interval_of, with_interval, all_intervals, ascend_from}
use Rattle.basics.specs.Numbers.{is_misspelled, number_up_to}
use Rattle.word_meanings.specs.Words.{is_empty, AtLeast, IsWord, IsInterval}
use Rattle.word_meanings.proofs.WordLaws.{number_up_to-decimal, number_up_to-spelled, pieces-join}
use Rattle.basics.proofs.TestedLists.{each_append, each_weaker, each_map}
use Rattle.word_meanings.specs.Laws.{NamesAreWords, PiecesJoinAgain, WordsByTest, EachIsName, JoinedWordsAreOne, WordsHaveNoNewline, WordsCutAgain, FieldsReadBack, NumbersHaveDigits, ValuesReadBack, IntervalsReadBack, IntervalsAreWords, IntervalsSpellBack, SpacesAscend, AscendingAreSpaces, SpacesAreBounded}

own : IsNumeralModel (λ ds. all_ascii_digits ds ≡ true) (digits_value 10)
own = numerals_by_value (λ ds. all_ascii_digits ds ≡ true) tells_all_ascii_digits

pub at_least_less : (m n : ℕ) → m ≤ n → (w : List ℕ) → AtLeast n w → AtLeast m w
at_least_less m n h w a = each_weaker (λ b. n ≤ b) (λ b. m ≤ b) (λ b l. omega arith) w a

pub without_byte : (c m : ℕ) → c < m → (w : List ℕ) → AtLeast m w → AllByRecursion (λ b. (b == c) ≡ false) w
without_byte c m h w a = each_weaker (λ b. m ≤ b) (λ b. (b == c) ≡ false) (λ b l. ne_eqb b c (λ e. (omega arith))) w a

-- names
name_byte : (c : ℕ) → is_name_byte c ≡ true → 48 ≤ c
name_byte c h = elim (or_cases (is_ascii_lowercase c) _ h) [
  | inl l ↦ (let k : 97 ≤ c = leb-true 97 c (and_parts (nat_le 97 c) (nat_le c 122) l).0 in omega arith)
  | inr r ↦ elim (or_cases (is_ascii_digit c) (c == 95) r) [
    | inl d ↦ leb-true 48 c (and_parts (nat_le 48 c) (nat_le c 57) d).0
    | inr u ↦ (let k : c ≡ 95 = eqb-true c 95 u in omega arith)
  ]
]

first_byte : (c : ℕ) → is_first_byte c ≡ true → 48 ≤ c
first_byte c h = elim (or_cases (is_ascii_lowercase c) _ h) [
  | inl l ↦ (let k : 97 ≤ c = leb-true 97 c (and_parts (nat_le 97 c) (nat_le c 122) l).0 in omega arith)
  | inr r ↦ elim (or_cases (is_ascii_uppercase c) (c == 95) r) [
    | inl d ↦ (let k : 65 ≤ c = leb-true 65 c (and_parts (nat_le 65 c) (nat_le c 90) d).0 in omega arith)
    | inr u ↦ (let k : c ≡ 95 = eqb-true c 95 u in omega arith)
  ]
]

later_byte : (c : ℕ) → is_later_byte c ≡ true → 48 ≤ c
later_byte c h = elim (or_cases (is_first_byte c) (is_ascii_digit c) h) [
  | inl f ↦ first_byte c f
  | inr d ↦ leb-true 48 c (and_parts (nat_le 48 c) (nat_le c 57) d).0
]

bytes_at_least : (t : ℕ → Bool) → ((c : ℕ) → t c ≡ true → 48 ≤ c) → (cs : List ℕ) → list_all t cs ≡ true → AtLeast 48 cs
bytes_at_least t k [] h = tt
bytes_at_least t k (c ∷ cs) h = let p = and_parts (t c) (list_all t cs) h in (k c p.0, bytes_at_least t k cs p.1)

short_name : (w : List ℕ) → is_name w ≡ true → AtLeast 48 w × (is_empty w ≡ false)
short_name [] h = absurd (true≢false (sym h))
short_name (c ∷ cs) h =
    let p = and_parts (nat_le (length (c ∷ cs)) 31 && is_ascii_lowercase c) (list_all is_name_byte cs) h in
    let q = and_parts (nat_le (length (c ∷ cs)) 31) (is_ascii_lowercase c) p.0 in
    let k : 97 ≤ c = leb-true 97 c (and_parts (nat_le 97 c) (nat_le c 122) q.1).0 in
    ((omega arith, bytes_at_least is_name_byte name_byte cs p.1), refl)

long_name : (w : List ℕ) → is_long_name w ≡ true → AtLeast 48 w × (is_empty w ≡ false)
long_name [] h = absurd (true≢false (sym h))
long_name (c ∷ cs) h =
    let p = and_parts (nat_le (length (c ∷ cs)) 63 && is_first_byte c) (list_all is_later_byte cs) h in
    let q = and_parts (nat_le (length (c ∷ cs)) 63) (is_first_byte c) p.0 in
    ((first_byte c q.1, bytes_at_least is_later_byte later_byte cs p.1), refl)

-- the bytes of a name of each format
name_bytes : (fm : Format) (w : List ℕ) → is_name_in fm w ≡ true → AtLeast 48 w × (is_empty w ≡ false)
name_bytes One w h = short_name w h
name_bytes Two w h = short_name w h
name_bytes Three w h = long_name w h

pub name_at_least : (fm : Format) (w : List ℕ) → is_name_in fm w ≡ true → AtLeast 48 w
name_at_least fm w h = (name_bytes fm w h).0

pub name_is_word : NamesAreWords
name_is_word fm w h = record { some = (name_bytes fm w h).1; printed = at_least_less 44 48 (omega arith) w (name_at_least fm w h) }

-- numbers
digits_bytes : (ds : List ℕ) → all_ascii_digits ds ≡ true → AtLeast 48 ds
digits_bytes [] h = tt
digits_bytes (c ∷ cs) h = let p = and_parts (is_ascii_digit c) (all_ascii_digits cs) h in (leb-true 48 c (and_parts (nat_le 48 c) (nat_le c 57) p.0).0, digits_bytes cs p.1)

pub decimal_at_least : (n : ℕ) → n < 2 ^ 64 → AtLeast 48 (decimal n)
decimal_at_least n h = digits_bytes (decimal n) (digits_decimal own n h)

longer : (w : List ℕ) → 0 < length w → is_empty w ≡ false
longer [] h = absurd (omega arith)
longer (b ∷ bs) h = refl

pub decimal_digits : NumbersHaveDigits
decimal_digits n h = (decimal_nonempty n h, digits_decimal own n h)

pub decimal_is_word : (n : ℕ) → n < 2 ^ 64 → IsWord (decimal n)
decimal_is_word n h = record { some = longer (decimal n) (decimal_nonempty n h); printed = at_least_less 44 48 (omega arith) (decimal n) (decimal_at_least n h) }

pub value_of-decimal : ValuesReadBack
value_of-decimal n h = number_up_to-decimal 18446744073709551615 n h (omega arith)

pub number_within : (most n : ℕ) (w : List ℕ) → number_up_to most w ≡ Some n → n ≤ most
number_within most n w h =
    let c = cond_some (all_ascii_digits w && (not (is_misspelled w) && nat_le (digits_value 10 w) most)) (digits_value 10 w) n h in
    let p = and_parts (all_ascii_digits w) _ c.0 in
    let q = and_parts (not (is_misspelled w)) (nat_le (digits_value 10 w) most) p.1 in
    let l : digits_value 10 w ≤ most = leb-true (digits_value 10 w) most q.1 in
    subst (λ x. x ≤ most) c.1 l

pub value_of-spelled : (n : ℕ) (w : List ℕ) → value_of w ≡ Some n → (w ≡ decimal n) × (n < 2 ^ 64)
value_of-spelled n w h = (number_up_to-spelled 18446744073709551615 n w (omega arith) h, (let l : n ≤ 18446744073709551615 = number_within 18446744073709551615 n w h in omega arith))

-- numbers above another, up to the most arrivals that a phase of a format counts
abbrev counted_above : Format → ℕ → List ℕ → Option ℕ
counted_above fm low w = above low (number_up_to (limits fm).count w)

pub few_counted : (fm : Format) → (limits fm).count ≤ 65536
few_counted fm = (most_limits fm).count

above-decimal : (fm : Format) (low n : ℕ) → low < n → n ≤ (limits fm).count → counted_above fm low (decimal n) ≡ Some n
above-decimal fm low n some few =
    let most = few_counted fm in
    ap (above low) (number_up_to-decimal (limits fm).count n (omega (arith, few, most)) few) ∙ cond-true (nat_lt low n) (Some n) None (lt-ltb low n some)

above_is : (low : ℕ) (o : Option ℕ) (n : ℕ) → above low o ≡ Some n → (o ≡ Some n) × (low < n)
above_is low None n h = absurd (none-some n h)
above_is low (Some m) n h = let c = cond_some (nat_lt low m) m n h in (ap Some c.1, subst (λ x. low < x) c.1 (ltb-true low m c.0))

above-spelled : (fm : Format) (low n : ℕ) (w : List ℕ) → counted_above fm low w ≡ Some n → (w ≡ decimal n) × (low < n) × (n ≤ (limits fm).count)
above-spelled fm low n w h =
    let most = few_counted fm in
    let p = above_is low (number_up_to (limits fm).count w) n h in
    (number_up_to-spelled (limits fm).count n w (omega (arith, most)) p.0, p.1, number_within (limits fm).count n w p.0)

pub count_of-decimal : (fm : Format) (n : ℕ) → 0 < n → n ≤ (limits fm).count → count_of fm (decimal n) ≡ Some n
count_of-decimal fm n some few = above-decimal fm 0 n some few

pub count_of-spelled : (fm : Format) (n : ℕ) (w : List ℕ) → count_of fm w ≡ Some n → (w ≡ decimal n) × (0 < n) × (n ≤ (limits fm).count)
count_of-spelled fm n w h = above-spelled fm 0 n w h

pub weight_of-decimal : (fm : Format) (n : ℕ) → 1 < n → n ≤ (limits fm).count → weight_of fm (decimal n) ≡ Some n
weight_of-decimal fm n some few = above-decimal fm 1 n some few

pub weight_of-spelled : (fm : Format) (n : ℕ) (w : List ℕ) → weight_of fm w ≡ Some n → (w ≡ decimal n) × (1 < n) × (n ≤ (limits fm).count)
weight_of-spelled fm n w h = above-spelled fm 1 n w h

-- pieces of joined words
pub pieces_joined : (c m : ℕ) → c < m → (w : List ℕ) (ws : List (List ℕ)) → AllByRecursion (AtLeast m) (w ∷ ws) → pieces c (join_with_byte c (w ∷ ws)) ≡ w ∷ ws
pieces_joined c m h w ws a = pieces-join c w ws (each_weaker (AtLeast m) (λ x. All (λ b. (b == c) ≡ false) x) (λ x l. All-from_recursion (λ b. (b == c) ≡ false) x (without_byte c m h x l)) (w ∷ ws) a)

pub joined_pieces : PiecesJoinAgain
joined_pieces c w = join_with_byte-slice_split c w

pub joined_at_least : (c m : ℕ) → m ≤ c → (ws : List (List ℕ)) → AllByRecursion (AtLeast m) ws → AtLeast m (join_with_byte c ws)
joined_at_least c m h [] a = tt
joined_at_least c m h (w ∷ []) a = a.0
joined_at_least c m h (w ∷ v ∷ ws) a = each_append (λ b. m ≤ b) w (c ∷ join_with_byte c (v ∷ ws)) a.0 (h, joined_at_least c m h (v ∷ ws) a.1)

some_left : (a b : List ℕ) → is_empty a ≡ false → is_empty (a ++ b) ≡ false
some_left [] b h = absurd (true≢false h)
some_left (x ∷ xs) b h = refl

joined_some : (c : ℕ) (ws : List (List ℕ)) → 0 < length ws → AllByRecursion (λ w. is_empty w ≡ false) ws → is_empty (join_with_byte c ws) ≡ false
joined_some c [] h a = absurd (omega arith)
joined_some c (w ∷ []) h a = a.0
joined_some c (w ∷ v ∷ ws) h a = some_left w (c ∷ join_with_byte c (v ∷ ws)) a.0

pub joined_is_word : JoinedWordsAreOne
joined_is_word c ws m h a = record {
  some = joined_some c ws h (each_weaker IsWord (λ w. is_empty w ≡ false) (λ w i. i.some) ws a);
  printed = joined_at_least c 44 m ws (each_weaker IsWord (AtLeast 44) (λ w i. i.printed) ws a);
}

-- the line of words
pub words_line : WordsHaveNoNewline
words_line ws h = without_byte 10 32 (omega arith) (join_with_byte 32 ws) (joined_at_least 32 32 (omega arith) ws (each_weaker IsWord (AtLeast 32) (λ w i. at_least_less 32 44 (omega arith) w i.printed) ws h))

pub words_pieces : WordsCutAgain
words_pieces [] h l = absurd (omega arith)
words_pieces (w ∷ ws) h l = pieces_joined 32 44 (omega arith) w ws (each_weaker IsWord (AtLeast 44) (λ x i. i.printed) (w ∷ ws) h)

-- words by a test
word_bytes : (w : List ℕ) → list_all (nat_le 44) w ≡ true → AtLeast 44 w
word_bytes [] h = tt
word_bytes (b ∷ bs) h = let p = and_parts (nat_le 44 b) (list_all (nat_le 44) bs) h in (leb-true 44 b p.0, word_bytes bs p.1)

pub word_by_test : WordsByTest
word_by_test w h = let p = and_parts (not (is_empty w)) (list_all (nat_le 44) w) h in record { some = not-true (is_empty w) p.0; printed = word_bytes w p.1 }

-- intervals
interval_pieces : (i : ℕ × ℕ) → IsInterval i → pieces 46 (interval_word i) ≡ decimal i.0 ∷ [] ∷ decimal i.1 ∷ []
interval_pieces i h =
    let lo : i.0 < 2 ^ 32 = h.0 in let hi : i.1 < 2 ^ 32 = h.1 in
    pieces_joined 46 48 (omega arith) (decimal i.0) ([] ∷ decimal i.1 ∷ []) (decimal_at_least i.0 (omega arith), (tt, (decimal_at_least i.1 (omega arith), tt)))

interval_read : (i : ℕ × ℕ) → IsInterval i → interval_of (pieces 46 (interval_word i)) ≡ Some i
interval_read i h =
    let lo : i.0 < 2 ^ 32 = h.0 in let hi : i.1 < 2 ^ 32 = h.1 in
    ap interval_of (interval_pieces i h)
    ∙ (ap (λ o. both_numbers o (number_up_to 4294967295 (decimal i.1))) (number_up_to-decimal 4294967295 i.0 (omega arith) (omega arith))
    ∙ ap (λ o. both_numbers (Some i.0) o) (number_up_to-decimal 4294967295 i.1 (omega arith) (omega arith)))

all_read : (is : List (ℕ × ℕ)) → AllByRecursion IsInterval is → all_intervals (map interval_word is) ≡ Some is
all_read [] h = refl
all_read (i ∷ is) h = ap (λ o. with_interval o (all_intervals (map interval_word is))) (interval_read i h.0) ∙ ap (λ o. with_interval (Some i) o) (all_read is h.1)

pub interval_at_least : (i : ℕ × ℕ) → IsInterval i → AtLeast 46 (interval_word i)
interval_at_least i h =
    let lo : i.0 < 2 ^ 32 = h.0 in let hi : i.1 < 2 ^ 32 = h.1 in
    each_append (λ b. 46 ≤ b) (decimal i.0) (46 ∷ 46 ∷ decimal i.1) (at_least_less 46 48 (omega arith) (decimal i.0) (decimal_at_least i.0 (omega arith)))
    (omega arith, (omega arith, at_least_less 46 48 (omega arith) (decimal i.1) (decimal_at_least i.1 (omega arith))))

interval_is_word : (i : ℕ × ℕ) → IsInterval i → IsWord (interval_word i)
interval_is_word i h =
    let lo : i.0 < 2 ^ 32 = h.0 in
    record { some = some_left (decimal i.0) (46 ∷ 46 ∷ decimal i.1) (longer (decimal i.0) (decimal_nonempty i.0 (omega arith))); printed = at_least_less 44 46 (omega arith) (interval_word i) (interval_at_least i h) }

pub intervals_of-word : IntervalsReadBack
intervals_of-word [] l h = absurd (omega arith)
intervals_of-word (i ∷ is) l h =
    ap all_intervals (pieces_joined 44 46 (omega arith) (interval_word i) (map interval_word is) (each_map (AtLeast 46) interval_word (i ∷ is) (each_weaker IsInterval (λ x. AtLeast 46 (interval_word x)) interval_at_least (i ∷ is) h)))
    ∙ all_read (i ∷ is) h

pub intervals_is_word : IntervalsAreWords
intervals_is_word is l h = joined_is_word 44 (map interval_word is) (omega arith) (mapped is l) (each_map IsWord interval_word is (each_weaker IsInterval (λ x. IsWord (interval_word x)) interval_is_word is h))
  where
    mapped : (is : List (ℕ × ℕ)) → 0 < length is → 0 < length (map interval_word is)
    mapped [] l = l
    mapped (i ∷ is) l = omega arith

both_is : (a b : Option ℕ) (i : ℕ × ℕ) → both_numbers a b ≡ Some i → (a ≡ Some i.0) × (b ≡ Some i.1)
both_is (Some lo) (Some hi) i h = let e : (lo, hi) ≡ i = same_Some (lo, hi) i h in (ap (λ (x : ℕ × ℕ). Some x.0) e, ap (λ (x : ℕ × ℕ). Some x.1) e)
both_is (Some lo) None i h = absurd (none-some i h)
both_is None b i h = absurd (none-some i h)

three_same : (a b c d : List ℕ) → a ≡ b → c ≡ d → ◌≡◌ {A = List (List ℕ)} (a ∷ [] ∷ c ∷ []) (b ∷ [] ∷ d ∷ [])
three_same a b c d e f = ap (λ x. x ∷ [] ∷ c ∷ []) e ∙ ap (λ y. b ∷ [] ∷ y ∷ []) f

interval_from : (ps : List (List ℕ)) (i : ℕ × ℕ) → interval_of ps ≡ Some i → (ps ≡ decimal i.0 ∷ [] ∷ decimal i.1 ∷ []) × IsInterval i
interval_from (lo ∷ [] ∷ hi ∷ []) i h =
    let b = both_is (number_up_to 4294967295 lo) (number_up_to 4294967295 hi) i h in
    let l : i.0 ≤ 4294967295 = number_within 4294967295 i.0 lo b.0 in
    let r : i.1 ≤ 4294967295 = number_within 4294967295 i.1 hi b.1 in
    (three_same lo (decimal i.0) hi (decimal i.1) (number_up_to-spelled 4294967295 i.0 lo (omega arith) b.0) (number_up_to-spelled 4294967295 i.1 hi (omega arith) b.1), (omega arith, omega arith))
interval_from [] i h = absurd (none-some i h)
interval_from (a ∷ []) i h = absurd (none-some i h)
interval_from (a ∷ [] ∷ []) i h = absurd (none-some i h)
interval_from (a ∷ (x ∷ xs) ∷ []) i h = absurd (none-some i h)
interval_from (a ∷ (x ∷ xs) ∷ c ∷ cs) i h = absurd (none-some i h)
interval_from (a ∷ [] ∷ c ∷ d ∷ ds) i h = absurd (none-some i h)

interval_spelled : (w : List ℕ) (i : ℕ × ℕ) → interval_of (pieces 46 w) ≡ Some i → (w ≡ interval_word i) × IsInterval i
interval_spelled w i h = let f = interval_from (pieces 46 w) i h in (sym (joined_pieces 46 w) ∙ ap (join_with_byte 46) f.0, f.1)

with_is : (o : Option (ℕ × ℕ)) (r : Option (List (ℕ × ℕ))) (is : List (ℕ × ℕ)) → with_interval o r ≡ Some is → (j : ℕ × ℕ) × (js : List (ℕ × ℕ)) × (o ≡ Some j) × (r ≡ Some js) × (j ∷ js ≡ is)
with_is (Some j) (Some js) is h = (j, js, refl, refl, same_Some (j ∷ js) is h)
with_is (Some j) None is h = absurd (none-some is h)
with_is None r is h = absurd (none-some is h)

all_spelled : (ws : List (List ℕ)) (is : List (ℕ × ℕ)) → all_intervals ws ≡ Some is → (ws ≡ map interval_word is) × AllByRecursion IsInterval is
all_spelled [] is h = let e : [] ≡ is = same_Some [] is h in (ap (map interval_word) e, subst (AllByRecursion IsInterval) e tt)
all_spelled (w ∷ ws) is h =
    let p = with_is (interval_of (pieces 46 w)) (all_intervals ws) is h in
    let here = interval_spelled w p.0 p.2 in
    let rest = all_spelled ws p.1 p.3 in
    (ap (λ x. x ∷ ws) here.0 ∙ (ap (λ x. interval_word p.0 ∷ x) rest.0 ∙ ap (map interval_word) p.4), subst (AllByRecursion IsInterval) p.4 (here.1, rest.1))

pub intervals_of-spelled : IntervalsSpellBack
intervals_of-spelled w is h = let a = all_spelled (pieces 44 w) is h in (sym (joined_pieces 44 w) ∙ ap (join_with_byte 44) a.0, a.1)

-- intervals that ascend
pub ascends : SpacesAscend
ascends low [] h = refl
ascends low (i ∷ is) h = and_from (nat_le low i.0) (nat_le i.0 i.1 && ascend_from (i.1 + 2) is) (le-leb low i.0 h.0)
    (and_from (nat_le i.0 i.1) (ascend_from (i.1 + 2) is) (le-leb i.0 i.1 h.1) (ascends (i.1 + 2) is h.3))

pub ascends_from : AscendingAreSpaces
ascends_from low [] a h = tt
ascends_from low (i ∷ is) a h =
    let p = and_parts (nat_le low i.0) (nat_le i.0 i.1 && ascend_from (i.1 + 2) is) h in
    let q = and_parts (nat_le i.0 i.1) (ascend_from (i.1 + 2) is) p.1 in
    (leb-true low i.0 p.0, leb-true i.0 i.1 q.0, a.0.1, ascends_from (i.1 + 2) is a.1 q.1)

pub intervals_bounded : SpacesAreBounded
intervals_bounded low [] h = tt
intervals_bounded low (i ∷ is) h = let a : i.0 ≤ i.1 = h.1 in let b : i.1 < 2 ^ 32 = h.2 in ((omega arith, b), intervals_bounded (i.1 + 2) is h.3)

-- columns, and the fields of an instance
pub column_pieces : (fm : Format) (inst field : List ℕ) → is_name_in fm inst ≡ true → is_name_in fm field ≡ true → pieces 46 (inst ++ 46 ∷ field) ≡ inst ∷ field ∷ []
column_pieces fm inst field h k = pieces_joined 46 48 (omega arith) inst (field ∷ []) (name_at_least fm inst h, (name_at_least fm field k, tt))

pub names_each : EachIsName
names_each fm [] h = tt
names_each fm (w ∷ ws) h = let p = and_parts (is_name_in fm w) (list_all (is_name_in fm) ws) h in (p.0, names_each fm ws p.1)

pub field_pieces : FieldsReadBack
field_pieces fm [] l h = absurd (omega arith)
field_pieces fm (f ∷ fs) l h = pieces_joined 44 48 (omega arith) f fs (each_weaker (λ w. is_name_in fm w ≡ true) (AtLeast 48) (name_at_least fm) (f ∷ fs) (names_each fm (f ∷ fs) h))
