-- The words of a call by their numbers, and the places in which they stand.
use Rattle.std.proofs.Common.{◌≡◌, ℕ, zero, suc, ◌+◌, ◌-◌, ◌*◌, ◌<◌, ◌≤◌, Bool, true, false, cond, inl, inr, List, [], ◌∷◌, length, take, drop, get_or, Bor, refl, sym, ◌∙◌, ap, subst, arith}
use Rattle.std.specs.Prelude.{Option, Some, None, is_some, option_map, slice_get, codes, nat_le, nat_lt, ◌==◌}
use Rattle.std.specs.Option.{option_map_or}
use Rattle.std.specs.Str.{bytes_eq}
use Rattle.std.proofs.lemmas.Bool.{true≢false, cond-true, cond-false, ne_eqb, lt-ltb, le-ltb}
use Rattle.std.proofs.lemmas.Option.{none-some, same_Some}
use Rattle.std.proofs.lemmas.List.{length-drop, length-take-le}
use Rattle.basics.specs.Words.{contents}
use Rattle.basics.proofs.Choices.{chosen}
use Rattle.basics.proofs.TestedLists.{within}
use Rattle.graph_terms.specs.declared.format.Format.{Format}
use Rattle.graph_terms.specs.declared.format.Format.TheVariants.{Three}
use Rattle.graph_terms.specs.declared.limits.TheConstants.{MAX_CALL_VALUES}
use Rattle.graph_terms.specs.declared.verb.Mode.{Mode}
use Rattle.graph_terms.specs.Format.{has_since}
use Rattle.graph_words.specs.Calls.{AccessWords, CallWords, begins_with_digit, value_words, behind_values, mode_of, access_words, behind_accesses, events_behind, call_words}
use Rattle.graph_words.specs.Draft.{CallName, DataColumn, SpaceName, Value, EventName}
use Rattle.graph_reader.specs.Reading.{is_operation}
use Rattle.graph_reader.proofs.CallFaults.{three_first}
use Rattle.refused_words.specs.declared.places.CallSize.{CallSize}
use Rattle.refused_words.specs.Places.{is_merge, is_call, size_of_call, call_size, access_place, part_place, call_place, place_at}
use Rattle.refused_words.proofs.PlaceFacts.{at, place_of_operation, verb_at, at_behind, below_behind}

-- the number of a word behind so many accesses, each of three words
abbrev pub after : ℕ → ℕ → ℕ
after zero i = i
after (suc n) i = suc (suc (suc (after n i)))

pub after_sum : (n i : ℕ) → after n i ≡ after n 0 + i
after_sum zero i = omega arith
after_sum (suc n) i = let e : after n i ≡ after n 0 + i = after_sum n i in omega arith

pub after_later : (i j : ℕ) → i < j → after i 1 < after j 1
after_later zero zero l = absurd (omega arith)
after_later zero (suc j) l = omega arith
after_later (suc i) zero l = absurd (omega arith)
after_later (suc i) (suc j) l = let b : after i 1 < after j 1 = after_later i j (omega arith) in omega arith

-- the places of the words behind the values
column_here : (n j : ℕ) → j < n → access_place n (after j 1) ≡ Some DataColumn
column_here zero j l = absurd (omega arith)
column_here (suc n) zero l = refl
column_here (suc n) (suc j) l = column_here n j (omega arith)

space_here : (n j : ℕ) → j < n → access_place n (after j 2) ≡ Some SpaceName
space_here zero j l = absurd (omega arith)
space_here (suc n) zero l = refl
space_here (suc n) (suc j) l = space_here n j (omega arith)

event_here : (n i : ℕ) → access_place n (after n (suc i)) ≡ Some EventName
event_here zero i = refl
event_here (suc n) i = event_here n i

fixed_here : (n j : ℕ) → j ≤ n → access_place n (after j 0) ≡ None
fixed_here zero zero l = refl
fixed_here zero (suc j) l = absurd (omega arith)
fixed_here (suc n) zero l = refl
fixed_here (suc n) (suc j) l = fixed_here n j (omega arith)

-- the same by the numbers of the access and of the word in it
after_is : (n i : ℕ) → n * 3 + i ≡ after n i
after_is zero i = omega arith
after_is (suc n) i = let e : n * 3 + i ≡ after n i = after_is n i in omega arith

pub column_part : (n k q : ℕ) → k ≡ q * 3 + 1 → q < n → access_place n k ≡ Some DataColumn
column_part n k q e l = ap (access_place n) (e ∙ after_is q 1) ∙ column_here n q l

pub space_part : (n k q : ℕ) → k ≡ q * 3 + 2 → q < n → access_place n k ≡ Some SpaceName
space_part n k q e l = ap (access_place n) (e ∙ after_is q 2) ∙ space_here n q l

pub fixed_part : (n k q : ℕ) → k ≡ q * 3 + 0 → q ≤ n → access_place n k ≡ None
fixed_part n k q e l = ap (access_place n) (e ∙ after_is q 0) ∙ fixed_here n q l

pub event_part : (n k : ℕ) → n * 3 < k → access_place n k ≡ Some EventName
event_part n k l = ap (access_place n) ((let e : k ≡ n * 3 + suc (k - (n * 3 + 1)) = omega arith in e) ∙ after_is n (suc (k - (n * 3 + 1)))) ∙ event_here n (k - (n * 3 + 1))

-- the places of the words of a call
part_value : (size : CallSize) (k i : ℕ) → k ≡ i + 2 → i < size.values → part_place size k ≡ Some Value
part_value size k i e l =
    cond-false (k == 0) _ _ (ne_eqb k 0 (λ z. absurd (omega (arith, z, e))))
    ∙ (cond-false (k == 1) _ _ (ne_eqb k 1 (λ z. absurd (omega (arith, z, e)))) ∙ cond-true (nat_lt k (size.values + 2)) _ _ (lt-ltb k (size.values + 2) (omega arith)))

part_behind : (size : CallSize) (k i : ℕ) → k ≡ i + (size.values + 2) → part_place size k ≡ access_place size.accesses i
part_behind size k i e =
    cond-false (k == 0) _ _ (ne_eqb k 0 (λ z. absurd (omega (arith, z, e))))
    ∙ (cond-false (k == 1) _ _ (ne_eqb k 1 (λ z. absurd (omega (arith, z, e))))
    ∙ (cond-false (nat_lt k (size.values + 2)) _ _ (le-ltb k (size.values + 2) (omega arith)) ∙ ap (access_place size.accesses) (let m : k - (size.values + 2) ≡ i = omega arith in m)))

-- the values that words begin with
value_by : (b : Bool) (w : List ℕ) (ws : List (List ℕ)) (i : ℕ) → i < length (cond b (w ∷ value_words ws) []) → ((j : ℕ) → j < length (value_words ws) → (j < length ws) × (at ws j ≡ at (value_words ws) j)) →
    (i < suc (length ws)) × (at (w ∷ ws) i ≡ at (cond b (w ∷ value_words ws) []) i)
value_by false w ws i l again = absurd (omega arith)
value_by true w ws zero l again = (omega arith, refl)
value_by true w ws (suc i) l again = let r = again i (omega arith) in ((let b : i < length ws = r.0 in omega arith), r.1)

value_there : (ws : List (List ℕ)) (i : ℕ) → i < length (value_words ws) → (i < length ws) × (at ws i ≡ at (value_words ws) i)
value_there [] i l = absurd (omega arith)
value_there (w ∷ ws) i l = value_by (begins_with_digit w) w ws i l (value_there ws)

left_by : (b : Bool) (w : List ℕ) (ws : List (List ℕ)) → behind_values ws ≡ drop (length (value_words ws)) ws → cond b (behind_values ws) (w ∷ ws) ≡ drop (length (cond b (w ∷ value_words ws) [])) (w ∷ ws)
left_by true w ws again = again
left_by false w ws again = refl

values_left : (ws : List (List ℕ)) → behind_values ws ≡ drop (length (value_words ws)) ws
values_left [] = refl
values_left (w ∷ ws) = left_by (begins_with_digit w) w ws (values_left ws)

-- the access of number j that words begin with
pub record HasAccess (ws : List (List ℕ)) (j : ℕ) (x : AccessWords) : Type 0 where
  pub below : after j 2 < length ws
  pub mode : mode_of (at ws (after j 0)) ≡ Some x.mode
  pub column : at ws (after j 1) ≡ x.column
  pub space : at ws (after j 2) ≡ x.space

abbrev with_mode : List ℕ → List ℕ → List (List ℕ) → Mode → List AccessWords
with_mode c s ws m = record { mode = m; column = c; space = s } ∷ access_words ws

access_by : (m c s : List ℕ) (ws : List (List ℕ)) (o : Option Mode) (j : ℕ) (x : AccessWords) → mode_of m ≡ o → slice_get (option_map_or (with_mode c s ws) o []) j ≡ Some x →
    ((i : ℕ) (y : AccessWords) → slice_get (access_words ws) i ≡ Some y → HasAccess ws i y) → HasAccess (m ∷ c ∷ s ∷ ws) j x
access_by m c s ws None j x e h again = absurd (none-some x h)
access_by m c s ws (Some mode) zero x e h again =
    let same = same_Some _ x h in
    record { below = omega arith; mode = e ∙ ap (λ (y : AccessWords). Some y.mode) same; column = ap (λ (y : AccessWords). y.column) same; space = ap (λ (y : AccessWords). y.space) same }
access_by m c s ws (Some mode) (suc j) x e h again =
    let r = again j x h in
    record { below = (let b : after j 2 < length ws = r.below in omega arith); mode = r.mode; column = r.column; space = r.space }

access_there : (ws : List (List ℕ)) (j : ℕ) (x : AccessWords) → slice_get (access_words ws) j ≡ Some x → HasAccess ws j x
access_there [] j x h = absurd (none-some x h)
access_there (m ∷ []) j x h = absurd (none-some x h)
access_there (m ∷ c ∷ []) j x h = absurd (none-some x h)
access_there (m ∷ c ∷ s ∷ ws) j x h = access_by m c s ws (mode_of m) j x refl h (access_there ws)

rest_by : (m c s : List ℕ) (ws : List (List ℕ)) (o : Option Mode) → behind_accesses ws ≡ drop (after (length (access_words ws)) 0) ws →
    cond (is_some o) (behind_accesses ws) (m ∷ c ∷ s ∷ ws) ≡ drop (after (length (option_map_or (with_mode c s ws) o [])) 0) (m ∷ c ∷ s ∷ ws)
rest_by m c s ws None again = refl
rest_by m c s ws (Some mode) again = again

accesses_left : (ws : List (List ℕ)) → behind_accesses ws ≡ drop (after (length (access_words ws)) 0) ws
accesses_left [] = refl
accesses_left (m ∷ []) = refl
accesses_left (m ∷ c ∷ []) = refl
accesses_left (m ∷ c ∷ s ∷ ws) = rest_by m c s ws (mode_of m) (accesses_left ws)

-- one access more, where a mode stands first
pub one_more : (m c s : List ℕ) (ws : List (List ℕ)) → is_some (mode_of m) ≡ true → length (access_words (m ∷ c ∷ s ∷ ws)) ≡ length (access_words ws) + 1
one_more m c s ws h = by_mode (mode_of m) h
  where
    by_mode : (o : Option Mode) → is_some o ≡ true → length (option_map_or (with_mode c s ws) o []) ≡ length (access_words ws) + 1
    by_mode None h = absurd (true≢false (sym h))
    by_mode (Some mode) h = omega arith

pub no_more : (m c s : List ℕ) (ws : List (List ℕ)) → is_some (mode_of m) ≡ false → length (access_words (m ∷ c ∷ s ∷ ws)) ≡ 0
no_more m c s ws h = by_mode (mode_of m) h
  where
    by_mode : (o : Option Mode) → is_some o ≡ false → length (option_map_or (with_mode c s ws) o []) ≡ 0
    by_mode None h = refl
    by_mode (Some mode) h = absurd (true≢false h)

-- the loop that counts the accesses
module _ (ws : List (Bor (List ℕ))) (d : Bor (List ℕ)) (long : 3 ≤ length ws) where
  abbrev others : List (Bor (List ℕ))
  others = take (length ws - 3) (drop 3 ws)

  pub count_next : (n all : ℕ) → is_some (mode_of (get_or ws 0 d).now) ≡ true → n + length (access_words (contents ws)) ≡ all → n + 1 + length (access_words (contents others)) ≡ all
  count_next n all h e =
      let here : length (access_words (contents ws)) ≡ length (access_words (contents others)) + 1 = ap (λ xs. length (access_words xs)) (three_first ws d d d long) ∙ one_more (get_or ws 0 d).now (get_or ws 1 d).now (get_or ws 2 d).now (contents others) h in
      omega arith

  pub count_ends : (n all : ℕ) → is_some (mode_of (get_or ws 0 d).now) ≡ false → n + length (access_words (contents ws)) ≡ all → n ≡ all
  count_ends n all h e =
      let here : length (access_words (contents ws)) ≡ 0 = ap (λ xs. length (access_words xs)) (three_first ws d d d long) ∙ no_more (get_or ws 0 d).now (get_or ws 1 d).now (get_or ws 2 d).now (contents others) h in
      omega arith

  pub few_next : (n most : ℕ) → n + length ws ≤ most → n + 1 + length others ≤ most
  few_next n most h =
      let left : length (drop 3 ws) ≡ length ws - 3 = length-drop 3 ws in
      let all : length others ≡ length ws - 3 = length-take-le (length ws - 3) (drop 3 ws) (omega arith) in
      omega arith

-- the events behind `on`
event_there : (ws es : List (List ℕ)) → events_behind ws ≡ Some es → (i : ℕ) → i < length es → (suc i < length ws) × (at ws (suc i) ≡ at es i)
event_there [] es h i l = absurd (let e : [] ≡ es = same_Some [] es h in let n : 0 ≡ length es = ap length e in omega arith)
event_there (w ∷ []) es h i l = absurd (none-some es h)
event_there (w ∷ e ∷ more) es h i l = elim (chosen (bytes_eq w (codes "on")) (Some (e ∷ more)) None (Some es) h) [
  | inl a ↦ (let same = same_Some (e ∷ more) es a.1 in ((let n : length (e ∷ more) ≡ length es = ap length same in omega arith), ap (λ xs. at xs i) same))
  | inr b ↦ absurd (none-some es b.1)
]

-- the words behind the one that says that a line is a call, in their parts
pub record IsParted (ws : List (List ℕ)) (c : CallWords) : Type 0 where
  pub some : 0 < length ws
  pub word : at ws 0 ≡ c.word
  pub value : (i : ℕ) → i < length c.values → (suc i < length ws) × (at ws (suc i) ≡ at c.values i)
  pub access : (j : ℕ) (x : AccessWords) → slice_get c.accesses j ≡ Some x → HasAccess (drop (suc (length c.values)) ws) j x
  pub event : (i : ℕ) → i < length c.events → (after (length c.accesses) (suc i) < length (drop (suc (length c.values)) ws)) × (at (drop (suc (length c.values)) ws) (after (length c.accesses) (suc i)) ≡ at c.events i)

abbrev with_events : List ℕ → List (List ℕ) → List (List ℕ) → CallWords
with_events w ws es = record { word = w; values = value_words ws; accesses = access_words (behind_values ws); events = es }

-- a word behind the accesses stands behind all that is in front of them
behind_all : (ws : List (List ℕ)) (n i k : ℕ) → k ≡ after n i → i < length (drop (after n 0) ws) → (k < length ws) × (at ws k ≡ at (drop (after n 0) ws) i)
behind_all ws n i k e l =
    let sum : k ≡ after n 0 + i = e ∙ after_sum n i in
    (below_behind ws (after n 0) i k sum l, sym (at_behind ws (after n 0) i k sum))

parted_with : (w : List ℕ) (ws es : List (List ℕ)) → events_behind (behind_accesses (behind_values ws)) ≡ Some es → IsParted (w ∷ ws) (with_events w ws es)
parted_with w ws es h = record {
  some = omega arith;
  word = refl;
  value = λ i l. (let r = value_there ws i l in ((let b : i < length ws = r.0 in omega arith), r.1));
  access = λ j x e. (let r = access_there (behind_values ws) j x e in subst (λ xs. HasAccess xs j x) (values_left ws) r);
  event = λ i l. (
      let r = event_there (drop (after (length (access_words (behind_values ws))) 0) (behind_values ws)) es (ap events_behind (sym (accesses_left (behind_values ws))) ∙ h) i l in
      let b = behind_all (behind_values ws) (length (access_words (behind_values ws))) (suc i) (after (length (access_words (behind_values ws))) (suc i)) refl r.0 in
      subst (λ xs. (after (length (access_words (behind_values ws))) (suc i) < length xs) × (at xs (after (length (access_words (behind_values ws))) (suc i)) ≡ at es i)) (values_left ws) (b.0, b.1 ∙ r.1)
      );
}

parted_by : (w : List ℕ) (ws : List (List ℕ)) (o : Option (List (List ℕ))) (c : CallWords) → events_behind (behind_accesses (behind_values ws)) ≡ o → option_map (with_events w ws) o ≡ Some c → IsParted (w ∷ ws) c
parted_by w ws None c e h = absurd (none-some c h)
parted_by w ws (Some es) c e h = subst (IsParted (w ∷ ws)) (same_Some (with_events w ws es) c h) (parted_with w ws es e)

pub parts_are : (ws : List (List ℕ)) (c : CallWords) → call_words ws ≡ Some c → IsParted ws c
parts_are [] c h = absurd (none-some c h)
parts_are (w ∷ ws) c h = elim (chosen (nat_le (length (value_words ws)) MAX_CALL_VALUES) (option_map (with_events w ws) (events_behind (behind_accesses (behind_values ws)))) None (Some c) h) [
  | inl a ↦ parted_by w ws (events_behind (behind_accesses (behind_values ws))) c refl a.1
  | inr b ↦ absurd (none-some c b.1)
]

-- the words of a line that is a call
module _ (fm : Format) (ws : List (List ℕ)) (operation : is_operation ws ≡ true) (other : is_merge (drop 2 ws) ≡ false) (called : is_call (drop 2 ws) ≡ true) (three : has_since Three fm ≡ true) (c : CallWords) (parts : call_words (drop 1 (drop 2 ws)) ≡ Some c) where
  abbrev rest : List (List ℕ)
  rest = drop 1 (drop 2 ws)

  parted_rest : IsParted rest c
  parted_rest = parts_are rest c parts

  size_is : call_size fm (drop 2 ws) ≡ Some (size_of_call c)
  size_is = cond-true (has_since Three fm) (option_map size_of_call (call_words rest)) None three ∙ ap (option_map size_of_call) parts

  -- a word behind the one that says that it is a call
  rest_at : (i n : ℕ) → n ≡ i + 3 → at rest i ≡ at ws n
  rest_at i n e = at_behind (drop 2 ws) 1 i (i + 1) (omega arith) ∙ at_behind ws 2 (i + 1) n (omega arith)

  rest_below : (i n : ℕ) → n ≡ i + 3 → i < length rest → n < length ws
  rest_below i n e l = below_behind ws 2 (i + 1) n (omega arith) (below_behind (drop 2 ws) 1 i (i + 1) (omega arith) l)

  part_at : (i n : ℕ) → n ≡ i + 3 → n < length ws → place_at fm ws n ≡ part_place (size_of_call c) (i + 1)
  part_at i n e l =
      place_of_operation fm ws n l operation
      ∙ (verb_at fm ws n (i + 1) (omega arith)
      ∙ (cond-false (is_merge (drop 2 ws)) _ _ other ∙ (cond-true (is_call (drop 2 ws)) _ _ called ∙ ap (λ o. call_place o (i + 1)) size_is)))

  -- one behind the values
  later_at : (i n : ℕ) → n ≡ i + (length c.values + 4) → at (drop (suc (length c.values)) rest) i ≡ at ws n
  later_at i n e = at_behind rest (suc (length c.values)) i (i + (length c.values + 1)) (omega arith) ∙ rest_at (i + (length c.values + 1)) n (omega arith)

  later_below : (i n : ℕ) → n ≡ i + (length c.values + 4) → i < length (drop (suc (length c.values)) rest) → n < length ws
  later_below i n e l = rest_below (i + (length c.values + 1)) n (omega arith) (below_behind rest (suc (length c.values)) i (i + (length c.values + 1)) (omega arith) l)

  later_place : (i n : ℕ) → n ≡ i + (length c.values + 4) → n < length ws → place_at fm ws n ≡ access_place (length c.accesses) i
  later_place i n e l = part_at (i + (length c.values + 1)) n (omega arith) l ∙ part_behind (size_of_call c) (i + (length c.values + 1) + 1) i (omega arith)

  pub word_stands : (3 < length ws) × (place_at fm ws 3 ≡ Some CallName) × (at ws 3 ≡ c.word)
  word_stands = let l = rest_below 0 3 refl parted_rest.some in (l, part_at 0 3 refl l, sym (rest_at 0 3 refl) ∙ parted_rest.word)

  pub value_stands : (i : ℕ) → i < length c.values → (i + 4 < length ws) × (place_at fm ws (i + 4) ≡ Some Value) × (at ws (i + 4) ≡ at c.values i)
  value_stands i l =
      let r = parted_rest.value i l in
      let below = rest_below (suc i) (i + 4) (omega arith) r.0 in
      (below, part_at (suc i) (i + 4) (omega arith) below ∙ part_value (size_of_call c) (suc i + 1) i (omega arith) l, sym (rest_at (suc i) (i + 4) (omega arith)) ∙ r.1)

  pub event_stands : (i : ℕ) → i < length c.events → (n : ℕ) → n ≡ after (length c.accesses) (suc i) + (length c.values + 4) → (n < length ws) × (place_at fm ws n ≡ Some EventName) × (at ws n ≡ at c.events i)
  event_stands i l n e =
      let r = parted_rest.event i l in
      let below = later_below (after (length c.accesses) (suc i)) n e r.0 in
      (below, later_place (after (length c.accesses) (suc i)) n e below ∙ event_here (length c.accesses) i, sym (later_at (after (length c.accesses) (suc i)) n e) ∙ r.1)

  -- the words of an access, of which the column has number n
  pub record AccessStands (x : AccessWords) (n : ℕ) : Type 0 where
    pub below : n + 1 < length ws
    pub mode : mode_of (at ws (n - 1)) ≡ Some x.mode
    pub column : at ws n ≡ x.column
    pub column_place : place_at fm ws n ≡ Some DataColumn
    pub space : at ws (n + 1) ≡ x.space
    pub space_place : place_at fm ws (n + 1) ≡ Some SpaceName

  pub access_stands : (j : ℕ) (x : AccessWords) → slice_get c.accesses j ≡ Some x → (n : ℕ) → n ≡ after j 1 + (length c.values + 4) → AccessStands x n
  access_stands j x e n is =
      let r = parted_rest.access j x e in
      let inside : j < length c.accesses = within c.accesses j x e in
      let first : after j 1 ≡ after j 0 + 1 = after_sum j 1 in
      let second : after j 2 ≡ after j 0 + 2 = after_sum j 2 in
      let more : n + 1 ≡ after j 2 + (length c.values + 4) = omega arith in
      let less : n - 1 ≡ after j 0 + (length c.values + 4) = omega arith in
      let last : n + 1 < length ws = later_below (after j 2) (n + 1) more r.below in
      record {
        below = last;
        mode = ap mode_of (sym (later_at (after j 0) (n - 1) less)) ∙ r.mode;
        column = sym (later_at (after j 1) n is) ∙ r.column;
        column_place = later_place (after j 1) n is (omega arith) ∙ column_here (length c.accesses) j inside;
        space = sym (later_at (after j 2) (n + 1) more) ∙ r.space;
        space_place = later_place (after j 2) (n + 1) more last ∙ space_here (length c.accesses) j inside;
      }
