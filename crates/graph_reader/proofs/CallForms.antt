-- The words of a call: their parts in order, and that they are read back.
use Rattle.std.proofs.Common.{◌≡◌, ℕ, ◌^◌, ◌<◌, Bool, true, false, cond, inl, inr, List, [], ◌∷◌, ◌++◌, length, map, refl, sym, ◌∙◌, ap, append_assoc, arith}
use Rattle.std.specs.Prelude.{Option, Some, None, is_some, option_map, flat_map, bytes_eq, codes, decimal, unwrap_or, nat_le, nat_lt}
use Rattle.std.specs.Option.{option_map_or}
use Rattle.std.specs.List.{AllByRecursion}
use Rattle.std.specs.Str.{all_ascii_digits}
use Rattle.std.proofs.lemmas.Bool.{true≢false, and_parts, cond-true, le-leb, ltb-false}
use Rattle.std.proofs.lemmas.List.{length-map}
use Rattle.std.proofs.lemmas.Option.{none-some, same_Some}
use Rattle.graph_terms.specs.declared.format.Format.{Format}
use Rattle.graph_terms.specs.declared.format.Format.TheVariants.{One, Two, Three}
use Rattle.graph_terms.specs.Format.{has_since}
use Rattle.graph_terms.specs.declared.limits.TheConstants.{MAX_CALL_VALUES}
use Rattle.graph_terms.specs.declared.verb.Access.{Access}
use Rattle.graph_terms.specs.declared.verb.Mode.{Mode}
use Rattle.graph_terms.specs.declared.verb.Mode.TheVariants as modes
use Rattle.graph_terms.specs.Graph.{GraphValue}
use Rattle.graph_terms.specs.Spelling.{space_name, data_name, line_name, mode_word, on_words}
use Rattle.graph_terms.specs.Spelling as spelling
use Rattle.graph_words.specs.Words.{value_of}
use Rattle.graph_words.specs.Calls.{AccessWords, CallWords, begins_with_digit, value_words, behind_values, mode_of, access_words, behind_accesses, events_behind, parted, call_words}
use Rattle.graph_words.specs.Draft.{Placed, DataColumn, SpaceName, Value, values_placed, accesses_placed, access_spelled, space_number}
use Rattle.graph_words.specs.Known.{IsKnownData}
use Rattle.basics.proofs.TestedLists.{same_bytes}
use Rattle.basics.proofs.Choices.{chosen}
use Rattle.word_meanings.specs.Words.{IsWord}
use Rattle.word_meanings.proofs.Public.{decimal_digits, value_of-decimal, place_reads, place_spelled, word_by_test}
use Rattle.word_meanings.specs.Names.{IsNamed}
use Rattle.graph_reader.proofs.Drafts.{EachFine, event_words, column_words}

-- words that go on with no value
pub record NoValue (ws : List (List ℕ)) : Type 0 where
  pub none : value_words ws ≡ []
  pub same : behind_values ws ≡ ws

-- values that are written stand in front of other words
digit_first : (b : ℕ) (bs : List ℕ) → all_ascii_digits (b ∷ bs) ≡ true → begins_with_digit (b ∷ bs) ≡ true
digit_first b bs h = (and_parts (begins_with_digit (b ∷ bs)) (all_ascii_digits bs) h).0

digits_first : (w : List ℕ) → 0 < length w → all_ascii_digits w ≡ true → begins_with_digit w ≡ true
digits_first [] l h = absurd (omega arith)
digits_first (b ∷ bs) l h = digit_first b bs h

value_begins : (n : ℕ) → n < 2 ^ 64 → begins_with_digit (decimal n) ≡ true
value_begins n h = let d = decimal_digits n h in digits_first (decimal n) d.0 d.1

pub values_read : (vs : List ℕ) (ws : List (List ℕ)) → AllByRecursion (λ n. n < 2 ^ 64) vs → NoValue ws → (value_words (map decimal vs ++ ws) ≡ map decimal vs) × (behind_values (map decimal vs ++ ws) ≡ ws)
values_read [] ws h k = (k.none, k.same)
values_read (v ∷ vs) ws h k =
    let again = values_read vs ws h.1 k in
    let first : begins_with_digit (decimal v) ≡ true = value_begins v h.0 in (
      cond-true (begins_with_digit (decimal v)) (decimal v ∷ value_words (map decimal vs ++ ws)) [] first ∙ ap (λ xs. decimal v ∷ xs) again.0,
      cond-true (begins_with_digit (decimal v)) (behind_values (map decimal vs ++ ws)) (decimal v ∷ map decimal vs ++ ws) first ∙ again.1,
    )

-- the words of accesses that are written
abbrev pub written : GraphValue → Access → AccessWords
written g a = record { mode = a.mode; column = data_name g a.column; space = space_name g a.space }

abbrev access_texts : GraphValue → List Access → List (List ℕ)
access_texts g xs = flat_map (spelling.access_words g) xs

mode_read : (m : Mode) → mode_of (mode_word m) ≡ Some m
mode_read modes.Read = refl
mode_read modes.Write = refl
mode_read modes.Sum = refl
mode_read modes.Least = refl
mode_read modes.Most = refl

mode_is_word : (m : Mode) → IsWord (mode_word m)
mode_is_word modes.Read = word_by_test (codes "read") refl
mode_is_word modes.Write = word_by_test (codes "write") refl
mode_is_word modes.Sum = word_by_test (codes "sum") refl
mode_is_word modes.Least = word_by_test (codes "min") refl
mode_is_word modes.Most = word_by_test (codes "max") refl

no_digit_mode : (m : Mode) (ws : List (List ℕ)) → NoValue (mode_word m ∷ ws)
no_digit_mode modes.Read ws = record { none = refl; same = refl }
no_digit_mode modes.Write ws = record { none = refl; same = refl }
no_digit_mode modes.Sum ws = record { none = refl; same = refl }
no_digit_mode modes.Least ws = record { none = refl; same = refl }
no_digit_mode modes.Most ws = record { none = refl; same = refl }

no_digit_on : (g : GraphValue) (on : List ℕ) → NoValue (on_words g on)
no_digit_on g [] = record { none = refl; same = refl }
no_digit_on g (e ∷ es) = record { none = refl; same = refl }

no_digit_there : (g : GraphValue) (xs : List Access) (on : List ℕ) → NoValue (access_texts g xs ++ on_words g on)
no_digit_there g [] on = no_digit_on g on
no_digit_there g (x ∷ xs) on = no_digit_mode x.mode (data_name g x.column ∷ space_name g x.space ∷ access_texts g xs ++ on_words g on)

no_access_on : (g : GraphValue) (on : List ℕ) → (access_words (on_words g on) ≡ []) × (behind_accesses (on_words g on) ≡ on_words g on)
no_access_on g [] = (refl, refl)
no_access_on g (e ∷ []) = (refl, refl)
no_access_on g (e ∷ f ∷ es) = (refl, refl)

events_read_behind : (g : GraphValue) (on : List ℕ) → events_behind (on_words g on) ≡ Some (map (line_name g) on)
events_read_behind g [] = refl
events_read_behind g (e ∷ es) = refl

accesses_read : (g : GraphValue) (xs : List Access) (on : List ℕ) → (access_words (access_texts g xs ++ on_words g on) ≡ map (written g) xs) × (behind_accesses (access_texts g xs ++ on_words g on) ≡ on_words g on)
accesses_read g [] on = no_access_on g on
accesses_read g (x ∷ xs) on =
    let again = accesses_read g xs on in
    let more : List (List ℕ) = access_texts g xs ++ on_words g on in
    let one : Mode → AccessWords = λ m. record { mode = m; column = data_name g x.column; space = space_name g x.space } in (
      ap (λ o. option_map_or (λ m. one m ∷ access_words more) o []) (mode_read x.mode) ∙ ap (λ ys. written g x ∷ ys) again.0,
      ap (λ (o : Option Mode). cond (is_some o) (behind_accesses more) (mode_word x.mode ∷ data_name g x.column ∷ space_name g x.space ∷ more)) (mode_read x.mode) ∙ again.1,
    )

-- the parts of the words that are written
abbrev pub written_parts : GraphValue → List ℕ → List ℕ → List Access → List ℕ → CallWords
written_parts g w vs xs on = record { word = w; values = map decimal vs; accesses = map (written g) xs; events = map (line_name g) on }

abbrev make_parts : List ℕ → List (List ℕ) → List AccessWords → List (List ℕ) → CallWords
make_parts w values accesses events = record { word = w; «values» = values; «accesses» = accesses; «events» = events }

pub call_read : (g : GraphValue) (w : List ℕ) (vs : List ℕ) (xs : List Access) (on : List ℕ) → AllByRecursion (λ n. n < 2 ^ 64) vs → nat_lt MAX_CALL_VALUES (length vs) ≡ false →
    call_words (w ∷ (map decimal vs ++ flat_map (spelling.access_words g) xs) ++ on_words g on) ≡ Some (written_parts g w vs xs on)
call_read g w vs xs on h few =
    let more : List (List ℕ) = access_texts g xs ++ on_words g on in
    let v = values_read vs more h (no_digit_there g xs on) in
    let a = accesses_read g xs on in
    let count : nat_le (length (map decimal vs)) MAX_CALL_VALUES ≡ true = ap (λ n. nat_le n MAX_CALL_VALUES) (length-map vs decimal) ∙ le-leb (length vs) MAX_CALL_VALUES (ltb-false MAX_CALL_VALUES (length vs) few) in
    ap (λ ws. call_words (w ∷ ws)) (append_assoc (map decimal vs) (access_texts g xs) (on_words g on))
    ∙ (ap (λ ws. parted w ws (behind_values (map decimal vs ++ more))) v.0
    ∙ (ap (λ ws. parted w (map decimal vs) ws) v.1
    ∙ (cond-true (nat_le (length (map decimal vs)) MAX_CALL_VALUES) (option_map (λ es. make_parts w (map decimal vs) (access_words more) es) (events_behind (behind_accesses more))) None count
    ∙ (ap (λ ws. option_map (λ es. make_parts w (map decimal vs) (access_words more) es) (events_behind ws)) a.1
    ∙ (ap (option_map (λ es. make_parts w (map decimal vs) (access_words more) es)) (events_read_behind g on)
    ∙ ap (λ ys. Some (make_parts w (map decimal vs) ys (map (line_name g) on))) a.0)))))

-- what is written is read back as it was
pub values_back : (vs : List ℕ) → AllByRecursion (λ n. n < 2 ^ 64) vs → map (λ w. unwrap_or (value_of w) 0) (map decimal vs) ≡ vs
values_back [] h = refl
values_back (v ∷ vs) h = ap (λ o. unwrap_or o 0 ∷ map (λ w. unwrap_or (value_of w) 0) (map decimal vs)) (value_of-decimal v h.0) ∙ ap (λ xs. v ∷ xs) (values_back vs h.1)

abbrev make_access : ℕ → ℕ → Mode → Access
make_access c s m = record { column = c; space = s; mode = m }

pub accesses_back : (g : GraphValue) → IsNamed g → (xs : List Access) → AllByRecursion (IsKnownData g) xs → map (access_spelled g) (map (written g) xs) ≡ xs
accesses_back g n [] h = refl
accesses_back g n (x ∷ xs) h =
    let c = place_reads g n DataColumn x.column h.0.0 in
    let s = place_reads g n SpaceName x.space h.0.1 in
    ap (λ k. make_access k (space_number g (space_name g x.space)) x.mode ∷ map (access_spelled g) (map (written g) xs)) c.number_is
    ∙ (ap (λ k. make_access x.column k x.mode ∷ map (access_spelled g) (map (written g) xs)) s.number_is ∙ ap (λ ys. x ∷ ys) (accesses_back g n xs h.1))

-- and no reason refuses it
pub values_fine : (g : GraphValue) → IsNamed g → (vs : List ℕ) → AllByRecursion (λ n. n < 2 ^ 64) vs → EachFine g (values_placed (map decimal vs))
values_fine g n [] h = tt
values_fine g n (v ∷ vs) h = ((place_reads g n Value v h.0).fine, values_fine g n vs h.1)

pub accesses_fine : (g : GraphValue) → IsNamed g → (xs : List Access) → AllByRecursion (IsKnownData g) xs → EachFine g (accesses_placed (map (written g) xs))
accesses_fine g n [] h = tt
accesses_fine g n (x ∷ xs) h = ((place_reads g n DataColumn x.column h.0.0).fine, ((place_reads g n SpaceName x.space h.0.1).fine, accesses_fine g n xs h.1))

pub values_are_words : (g : GraphValue) → IsNamed g → (vs : List ℕ) → AllByRecursion (λ n. n < 2 ^ 64) vs → AllByRecursion IsWord (map decimal vs)
values_are_words g n [] h = tt
values_are_words g n (v ∷ vs) h = ((place_reads g n Value v h.0).word, values_are_words g n vs h.1)

pub accesses_are_words : (g : GraphValue) → IsNamed g → (xs : List Access) → AllByRecursion (IsKnownData g) xs → AllByRecursion IsWord (flat_map (spelling.access_words g) xs)
accesses_are_words g n [] h = tt
accesses_are_words g n (x ∷ xs) h = (mode_is_word x.mode, ((place_reads g n DataColumn x.column h.0.0).word, ((place_reads g n SpaceName x.space h.0.1).word, accesses_are_words g n xs h.1)))

-- no value and no access is an event, or a column with cells
pub values_no_events : (ws : List (List ℕ)) (ps : List Placed) → (event_words (values_placed ws ++ ps) ≡ event_words ps) × (column_words (values_placed ws ++ ps) ≡ column_words ps)
values_no_events [] ps = (refl, refl)
values_no_events (w ∷ ws) ps = values_no_events ws ps

pub accesses_no_events : (xs : List AccessWords) (ps : List Placed) → (event_words (accesses_placed xs ++ ps) ≡ event_words ps) × (column_words (accesses_placed xs ++ ps) ≡ column_words ps)
accesses_no_events [] ps = (refl, refl)
accesses_no_events (x ∷ xs) ps = accesses_no_events xs ps

pub format_three : (fm : Format) → has_since Three fm ≡ true → fm ≡ Three
format_three One h = absurd (true≢false (sym h))
format_three Two h = absurd (true≢false (sym h))
format_three Three h = refl

-- the words of a call are those of its parts
abbrev pub part_words : AccessWords → List (List ℕ)
part_words a = mode_word a.mode ∷ a.column ∷ a.space ∷ []

abbrev pub on_parts : List (List ℕ) → List (List ℕ)
on_parts [] = []
on_parts (e ∷ es) = codes "on" ∷ e ∷ es

values_cut : (ws : List (List ℕ)) → ws ≡ value_words ws ++ behind_values ws
values_cut [] = refl
values_cut (w ∷ ws) = by (begins_with_digit w) (values_cut ws)
  where
    by : (b : Bool) → ws ≡ value_words ws ++ behind_values ws → w ∷ ws ≡ cond b (w ∷ value_words ws) [] ++ cond b (behind_values ws) (w ∷ ws)
    by true h = ap (λ xs. w ∷ xs) h
    by false h = refl

mode_spelled : (w : List ℕ) (m : Mode) → mode_of w ≡ Some m → w ≡ mode_word m
mode_spelled w m e = elim (chosen (bytes_eq w (codes "read")) _ _ (Some m) e) [
  | inl s ↦ same_bytes w (codes "read") s.0 ∙ ap mode_word (same_Some modes.Read m s.1)
  | inr a ↦ elim (chosen (bytes_eq w (codes "write")) _ _ (Some m) a.1) [
    | inl s ↦ same_bytes w (codes "write") s.0 ∙ ap mode_word (same_Some modes.Write m s.1)
    | inr b ↦ elim (chosen (bytes_eq w (codes "sum")) _ _ (Some m) b.1) [
      | inl s ↦ same_bytes w (codes "sum") s.0 ∙ ap mode_word (same_Some modes.Sum m s.1)
      | inr c ↦ elim (chosen (bytes_eq w (codes "min")) _ _ (Some m) c.1) [
        | inl s ↦ same_bytes w (codes "min") s.0 ∙ ap mode_word (same_Some modes.Least m s.1)
        | inr d ↦ elim (chosen (bytes_eq w (codes "max")) _ _ (Some m) d.1) [
          | inl s ↦ same_bytes w (codes "max") s.0 ∙ ap mode_word (same_Some modes.Most m s.1)
          | inr f ↦ absurd (none-some m f.1)
        ]
      ]
    ]
  ]
]

accesses_cut : (ws : List (List ℕ)) → ws ≡ flat_map part_words (access_words ws) ++ behind_accesses ws
accesses_cut [] = refl
accesses_cut (a ∷ []) = refl
accesses_cut (a ∷ b ∷ []) = refl
accesses_cut (a ∷ b ∷ c ∷ ws) = by (mode_of a) refl (accesses_cut ws)
  where
    make : Mode → AccessWords
    make m = record { mode = m; column = b; space = c }

    by : (o : Option Mode) → mode_of a ≡ o → ws ≡ flat_map part_words (access_words ws) ++ behind_accesses ws →
        a ∷ b ∷ c ∷ ws ≡ flat_map part_words (option_map_or (λ m. make m ∷ access_words ws) o []) ++ cond (is_some o) (behind_accesses ws) (a ∷ b ∷ c ∷ ws)
    by None e h = refl
    by (Some m) e h = ap (λ x. x ∷ b ∷ c ∷ ws) (mode_spelled a m e) ∙ ap (λ xs. mode_word m ∷ b ∷ c ∷ xs) h

events_cut : (ws es : List (List ℕ)) → events_behind ws ≡ Some es → ws ≡ on_parts es
events_cut [] es h = ap on_parts (same_Some [] es h)
events_cut (w ∷ []) es h = absurd (none-some es h)
events_cut (w ∷ x ∷ xs) es h = elim (chosen (bytes_eq w (codes "on")) (Some (x ∷ xs)) None (Some es) h) [
  | inl s ↦ ap (λ v. v ∷ x ∷ xs) (same_bytes w (codes "on") s.0) ∙ ap on_parts (same_Some (x ∷ xs) es s.1)
  | inr s ↦ absurd (none-some es s.1)
]

mapped_back : {X Y : Type 0} (f : X → Y) (o : Option X) (y : Y) → option_map f o ≡ Some y → (x : X) × (o ≡ Some x) × (f x ≡ y)
mapped_back f None y e = absurd (none-some y e)
mapped_back f (Some x) y e = (x, refl, same_Some (f x) y e)

pub call_cut : (ws : List (List ℕ)) (c : CallWords) → call_words ws ≡ Some c → ws ≡ c.word ∷ (c.values ++ flat_map part_words c.accesses) ++ on_parts c.events
call_cut [] c h = absurd (none-some c h)
call_cut (w ∷ ws) c h = elim (chosen (nat_le (length (value_words ws)) MAX_CALL_VALUES) (option_map (λ es. make_parts w (value_words ws) (access_words (behind_values ws)) es) (events_behind (behind_accesses (behind_values ws)))) None (Some c) h) [
  | inr s ↦ absurd (none-some c s.1)
  | inl s ↦ (
      let m = mapped_back (λ es. make_parts w (value_words ws) (access_words (behind_values ws)) es) (events_behind (behind_accesses (behind_values ws))) c s.1 in
      let es : List (List ℕ) = m.0 in
      let rest : List (List ℕ) = behind_values ws in
      ap (λ xs. w ∷ xs) (values_cut ws
      ∙ (ap (λ xs. value_words ws ++ xs) (accesses_cut rest)
      ∙ (sym (append_assoc (value_words ws) (flat_map part_words (access_words rest)) (behind_accesses rest))
      ∙ ap (λ xs. (value_words ws ++ flat_map part_words (access_words rest)) ++ xs) (events_cut (behind_accesses rest) es m.1))))
      ∙ ap (λ (p : CallWords). p.word ∷ (p.values ++ flat_map part_words p.accesses) ++ on_parts p.events) m.2)
]

-- words that no reason refuses are spelled as what they stand for
pub values_spelled : (g : GraphValue) (ws : List (List ℕ)) → EachFine g (values_placed ws) → (map decimal (map (λ w. unwrap_or (value_of w) 0) ws) ≡ ws) × AllByRecursion (λ n. n < 2 ^ 64) (map (λ w. unwrap_or (value_of w) 0) ws)
values_spelled g [] f = (refl, tt)
values_spelled g (w ∷ ws) f =
    let s = place_spelled g Value w tt refl f.0 in
    let again = values_spelled g ws f.1 in
    (ap (λ x. x ∷ map decimal (map (λ w. unwrap_or (value_of w) 0) ws)) s.word_is ∙ ap (λ xs. w ∷ xs) again.0, (s.bounded, again.1))

pub accesses_spelled : (g : GraphValue) (xs : List AccessWords) → EachFine g (accesses_placed xs) → flat_map (spelling.access_words g) (map (access_spelled g) xs) ≡ flat_map part_words xs
accesses_spelled g [] f = refl
accesses_spelled g (x ∷ xs) f =
    let c = place_spelled g DataColumn x.column tt refl f.0 in
    let s = place_spelled g SpaceName x.space tt refl f.1.0 in
    let more : List (List ℕ) = flat_map (spelling.access_words g) (map (access_spelled g) xs) in
    ap (λ w. mode_word x.mode ∷ w ∷ space_name g (space_number g x.space) ∷ more) c.word_is
    ∙ (ap (λ w. mode_word x.mode ∷ x.column ∷ w ∷ more) s.word_is ∙ ap (λ ys. mode_word x.mode ∷ x.column ∷ x.space ∷ ys) (accesses_spelled g xs f.1.1))
