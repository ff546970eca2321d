-- A word in its place: what a number is spelled as there, that it is read back, and that only it is.
use Rattle.std.proofs.Common.{◌≡◌, ℕ, ◌^◌, ◌<◌, ◌≤◌, Bool, true, false, not, ◌&&◌, ◌||◌, List, [], ◌∷◌, ◌++◌, length, refl, sym, ◌∙◌, ap, subst, arith}
use Rattle.std.specs.Prelude.{Option, Some, None, is_some, position, bytes_eq, slice_get, unwrap_or, option_map, decimal, codes}
use Rattle.std.specs.Option.{option_map_or}
use Rattle.std.specs.List.{list_any, join_with_byte}
use Rattle.std.proofs.lemmas.Bool.{true≢false, or_parts, or_from, and_left, and_right, and_parts, and_from, not_from_true, not-false}
use Rattle.graph_terms.specs.declared.verb.Line.{Line}
use Rattle.graph_terms.specs.declared.verb.Verb.{Verb}
use Rattle.graph_terms.specs.Name.{is_name_in}
use Rattle.graph_terms.specs.declared.decl.ColumnInfo.{ColumnInfo}
use Rattle.graph_terms.specs.declared.decl.BarrierInfo.{BarrierInfo}
use Rattle.graph_terms.specs.Graph.{GraphValue, named_spaces, columns, data_columns, locks, barriers, line_passes, is_user, is_phase, is_acquire, is_release_of, ends_user}
use Rattle.graph_terms.specs.Spelling.{space_name, lock_name, barrier_name, line_name, column_name, data_name}
use Rattle.graph_terms.specs.Fits.{repeats, is_used}
use Rattle.graph_terms.specs.Limits.{limits}
use Rattle.graph_words.specs.Words.{pieces, is_two_names, is_column, value_of, count_of, weight_of, first_piece}
use Rattle.graph_words.specs.Draft.{NewName, SpaceName, LockName, BarrierName, UserName, PhaseName, AcquireName, EventName, CallName, Column, DataColumn, Fields, Value, Times, Weight, Shared, Count, Intervals, line_number, column_number_of, data_number_of, number_in_place}
use Rattle.word_meanings.specs.WordFaults.{is_inst_name, has_column, is_data_name, has_data_column, lacks_field, is_line_name}
use Rattle.graph_words.proofs.Public.{found_of}
use Rattle.basics.proofs.TestedLists.{same_bytes, bytes_same, found_is, bytes_flip}
use Rattle.basics.proofs.ListParts.{any_found}
use Rattle.word_meanings.proofs.WordFacts.{name_is_word, decimal_is_word, value_of-decimal, value_of-spelled, few_counted, count_of-decimal, count_of-spelled, weight_of-decimal, weight_of-spelled, column_pieces, joined_pieces, joined_is_word}
use Rattle.word_meanings.specs.Lookups.{kept_columns, column_place}
use Rattle.word_meanings.specs.Places.{FitsPlace, IsFine, Reads, IsSpelled}
use Rattle.word_meanings.specs.Telling.{place_of_column}
use Rattle.word_meanings.proofs.Owners.{owns_columns, one_owner}
use Rattle.word_meanings.proofs.GraphNames.{KnownAs, IsColumnAt, same_column, read_name, spelled_name, listed_name, spaces_apart, locks_apart, barriers_apart, lines_apart, columns_apart, known_space, known_lock, known_barrier, known_line, known_line_at, known_column}
use Rattle.word_meanings.specs.Names.{IsNamed}
use Rattle.word_meanings.specs.Laws.{PlacesReadBack, PlacesSpellBack, LineNamesSpellBack}

-- tests that agree
any_agree : {X : Type 0} (t s : X → Bool) → ((x : X) → t x ≡ s x) → (xs : List X) → list_any t xs ≡ list_any s xs
any_agree t s h [] = refl
any_agree t s h (x ∷ xs) = ap (λ b. b || list_any t xs) (h x) ∙ ap (λ b. s x || b) (any_agree t s h xs)

repeats_agree : {X : Type 0} (t s : X → X → Bool) → ((x y : X) → t x y ≡ s x y) → (xs : List X) → repeats t xs ≡ repeats s xs
repeats_agree t s h [] = refl
repeats_agree t s h (x ∷ xs) = ap (λ b. b || repeats t xs) (any_agree (t x) (s x) (h x) xs) ∙ ap (λ b. list_any (s x) xs || b) (repeats_agree t s h xs)

-- a line that passes is there
pub line_there : (test : Verb → Bool) (g : GraphValue) (n : ℕ) → line_passes test g n ≡ true → (x : Line) × (slice_get g.lines n ≡ Some x)
line_there test g n h = by (slice_get g.lines n) refl h
  where
    by : (o : Option Line) → slice_get g.lines n ≡ o → option_map_or test (option_map (λ (l : Line). l.verb) o) false ≡ true → (x : Line) × (slice_get g.lines n ≡ Some x)
    by None e h = absurd (true≢false (sym h))
    by (Some x) e h = (x, e)

-- the word of a line
pub record IsLineWord (g : GraphValue) (n : ℕ) (w : List ℕ) : Type 0 where
  pub named : is_name_in g.format w ≡ true
  pub used : is_used g w ≡ true
  pub listed : is_line_name g w ≡ true
  pub number_is : line_number g w ≡ n

line_word_of : (g : GraphValue) → IsNamed g → (n : ℕ) (x : Line) → slice_get g.lines n ≡ Some x → IsLineWord g n x.name
line_word_of g h n x e = let k = known_line_at g h n x e in
    record { named = k.0; used = k.1; listed = listed_name (λ (l : Line). l.name) g.lines n x e; number_is = read_name (λ (l : Line). l.name) g.lines n x (lines_apart g h) e }

pub line_word : (g : GraphValue) → IsNamed g → (n : ℕ) (x : Line) → slice_get g.lines n ≡ Some x → IsLineWord g n (line_name g n)
line_word g h n x e = subst (IsLineWord g n) (sym (ap (λ (o : Option Line). option_map_or (λ (y : Line). y.name) o []) e)) (line_word_of g h n x e)

pub event_word_at : (g : GraphValue) → IsNamed g → (n : ℕ) → n < length g.lines → IsLineWord g n (line_name g n)
event_word_at g h n l = let k = known_line g h n l in line_word g h n k.0 k.1

not_and : (a b : Bool) → a ≡ true → b ≡ true → not (a && b) ≡ false
not_and a b h k = not_from_true (a && b) (and_from a b h k)

user_reads : (g : GraphValue) (n : ℕ) (w : List ℕ) → IsLineWord g n w → FitsPlace g UserName n → Reads g UserName n w
user_reads g n w k f = record {
  fine = record {
    named = not_from_true (is_name_in g.format w) k.named;
    once = and_right (is_line_name g w) _ (ap (λ m. list_any (λ (l : Line). ends_user m l.verb) g.lines) k.number_is ∙ f.1);
    known = not_from_true (is_used g w) k.used;
    alike = not_and (is_line_name g w) (line_passes is_user g (line_number g w)) k.listed (ap (line_passes is_user g) k.number_is ∙ f.0);
    numbered = refl;
    ordered = refl;
  };
  number_is = k.number_is;
  word = name_is_word g.format w k.named;
}

phase_reads : (g : GraphValue) (n : ℕ) (w : List ℕ) → IsLineWord g n w → FitsPlace g PhaseName n → Reads g PhaseName n w
phase_reads g n w k f = record {
  fine = record {
    named = not_from_true (is_name_in g.format w) k.named;
    once = refl;
    known = not_from_true (is_used g w) k.used;
    alike = not_and (is_line_name g w) (line_passes is_phase g (line_number g w)) k.listed (ap (line_passes is_phase g) k.number_is ∙ f);
    numbered = refl;
    ordered = refl;
  };
  number_is = k.number_is;
  word = name_is_word g.format w k.named;
}

acquire_reads : (g : GraphValue) (n : ℕ) (w : List ℕ) → IsLineWord g n w → FitsPlace g AcquireName n → Reads g AcquireName n w
acquire_reads g n w k f = record {
  fine = record {
    named = not_from_true (is_name_in g.format w) k.named;
    once = and_right (is_line_name g w) _ (ap (λ m. list_any (λ (l : Line). is_release_of m l.verb) g.lines) k.number_is ∙ f.1);
    known = not_from_true (is_used g w) k.used;
    alike = not_and (is_line_name g w) (line_passes is_acquire g (line_number g w)) k.listed (ap (line_passes is_acquire g) k.number_is ∙ f.0);
    numbered = refl;
    ordered = refl;
  };
  number_is = k.number_is;
  word = name_is_word g.format w k.named;
}

pub event_reads : (g : GraphValue) (n : ℕ) (w : List ℕ) → IsLineWord g n w → Reads g EventName n w
event_reads g n w k = record {
  fine = record {
    named = not_from_true (is_name_in g.format w) k.named;
    once = refl;
    known = not_from_true (is_used g w) k.used;
    alike = not_from_true (is_line_name g w) k.listed;
    numbered = refl;
    ordered = refl;
  };
  number_is = k.number_is;
  word = name_is_word g.format w k.named;
}

space_reads : (g : GraphValue) → IsNamed g → (n : ℕ) → KnownAs g (λ (x : List ℕ × List (ℕ × ℕ)). x.0) (named_spaces g) n → Reads g SpaceName n (space_name g n)
space_reads g h n k = subst (Reads g SpaceName n) (sym (ap (λ (o : Option (List ℕ × List (ℕ × ℕ))). option_map_or (λ (x : List ℕ × List (ℕ × ℕ)). x.0) o []) k.1)) (record {
  fine = record {
    named = not_from_true (is_name_in g.format k.0.0) k.2;
    once = refl;
    known = not_from_true (is_used g k.0.0) k.3;
    alike = not_from_true (list_any (λ (x : List ℕ × List (ℕ × ℕ)). bytes_eq x.0 k.0.0) (named_spaces g)) (listed_name (λ (x : List ℕ × List (ℕ × ℕ)). x.0) (named_spaces g) n k.0 k.1);
    numbered = refl;
    ordered = refl;
  };
  number_is = read_name (λ (x : List ℕ × List (ℕ × ℕ)). x.0) (named_spaces g) n k.0 (spaces_apart g h) k.1;
  word = name_is_word g.format k.0.0 k.2;
})

barrier_reads : (g : GraphValue) → IsNamed g → (n : ℕ) → KnownAs g (λ (x : BarrierInfo). x.name) (barriers g) n → Reads g BarrierName n (barrier_name g n)
barrier_reads g h n k = subst (Reads g BarrierName n) (sym (ap (λ (o : Option BarrierInfo). option_map_or (λ (x : BarrierInfo). x.name) o []) k.1)) (record {
  fine = record {
    named = not_from_true (is_name_in g.format k.0.name) k.2;
    once = refl;
    known = not_from_true (is_used g k.0.name) k.3;
    alike = not_from_true (list_any (λ (x : BarrierInfo). bytes_eq x.name k.0.name) (barriers g)) (listed_name (λ (x : BarrierInfo). x.name) (barriers g) n k.0 k.1);
    numbered = refl;
    ordered = refl;
  };
  number_is = read_name (λ (x : BarrierInfo). x.name) (barriers g) n k.0 (barriers_apart g h) k.1;
  word = name_is_word g.format k.0.name k.2;
})

lock_reads : (g : GraphValue) → IsNamed g → (n : ℕ) → KnownAs g (λ (x : List ℕ). x) (locks g) n → Reads g LockName n (lock_name g n)
lock_reads g h n k = subst (Reads g LockName n) (sym (ap (λ (o : Option (List ℕ)). option_map_or (λ (x : List ℕ). x) o []) k.1)) (record {
  fine = record {
    named = not_from_true (is_name_in g.format k.0) k.2;
    once = refl;
    known = not_from_true (is_used g k.0) k.3;
    alike = not_from_true (list_any (bytes_eq k.0) (locks g)) (any_found (bytes_eq k.0) (locks g) n k.0 k.1 (bytes_same k.0 k.0 refl));
    numbered = refl;
    ordered = refl;
  };
  number_is = found_of (λ a b. bytes_eq b a) (locks g) n k.0 (repeats_agree (λ a b. bytes_eq b a) bytes_eq (λ a b. bytes_flip b a) (locks g) ∙ locks_apart g h) k.1 (bytes_same k.0 k.0 refl);
  word = name_is_word g.format k.0 k.2;
})

-- a column of these pieces
abbrev pub keeps_column : Bool → GraphValue → List (List ℕ) → Bool
keeps_column false g ps = has_column g ps
keeps_column true g ps = has_data_column g ps

pub keeps_by : (g : GraphValue) (hosted : Bool) (a b : List ℕ) → list_any (λ (y : ColumnInfo). bytes_eq y.inst a && bytes_eq y.field b) (kept_columns hosted g) ≡ true → keeps_column hosted g (a ∷ b ∷ []) ≡ true
keeps_by g false a b h = h
keeps_by g true a b h = h

pub column_parts : (g : GraphValue) (hosted : Bool) (n : ℕ) (x : ColumnInfo) → IsColumnAt g hosted n x → (owns_columns hosted g x.inst ≡ true) × (keeps_column hosted g (x.inst ∷ x.field ∷ []) ≡ true)
column_parts g hosted n x k = (
  listed_name (λ (y : ColumnInfo). y.inst) (kept_columns hosted g) n x k.at,
  keeps_by g hosted x.inst x.field (any_found (λ (y : ColumnInfo). bytes_eq y.inst x.inst && bytes_eq y.field x.field) (kept_columns hosted g) n x k.at (and_from (bytes_eq x.inst x.inst) (bytes_eq x.field x.field) (bytes_same x.inst x.inst refl) (bytes_same x.field x.field refl))),
)

-- what is asked of the pieces of a column's word
pub record FinePieces (g : GraphValue) (hosted : Bool) (ps : List (List ℕ)) : Type 0 where
  pub named : is_two_names g.format ps ≡ true
  pub used : is_used g (first_piece ps) ≡ true
  pub own : owns_columns hosted g (first_piece ps) ≡ true
  pub other : owns_columns (not hosted) g (first_piece ps) ≡ false
  pub there : keeps_column hosted g ps ≡ true

none_lack : (a b c d : Bool) → b ≡ true → c ≡ false → ((a && not b) || (c && d)) ≡ false
none_lack a b c d h k = or_from (a && not b) (c && d) (and_right a (not b) (not_from_true b h)) (and_left c d k)

none_lack_too : (a b c d : Bool) → a ≡ false → d ≡ true → ((a && b) || (c && not d)) ≡ false
none_lack_too a b c d h k = or_from (a && b) (c && not d) (and_left a b h) (and_right c (not d) (not_from_true d k))

pub column_fine : (g : GraphValue) (hosted : Bool) (w : List ℕ) → FinePieces g hosted (pieces 46 w) → IsFine g (place_of_column hosted) w
column_fine g false w k = record {
  named = not_from_true (is_column g.format w) k.named;
  once = refl;
  known = or_from (not (is_used g (first_piece (pieces 46 w)))) (lacks_field g (pieces 46 w)) (not_from_true (is_used g (first_piece (pieces 46 w))) k.used)
      (none_lack (is_inst_name g (first_piece (pieces 46 w))) (has_column g (pieces 46 w)) (is_data_name g (first_piece (pieces 46 w))) (not (has_data_column g (pieces 46 w))) k.there k.other);
  alike = not_from_true (is_inst_name g (first_piece (pieces 46 w))) k.own;
  numbered = refl;
  ordered = refl;
}
column_fine g true w k = record {
  named = not_from_true (is_column g.format w) k.named;
  once = refl;
  known = or_from (not (is_used g (first_piece (pieces 46 w)))) (lacks_field g (pieces 46 w)) (not_from_true (is_used g (first_piece (pieces 46 w))) k.used)
      (none_lack_too (is_inst_name g (first_piece (pieces 46 w))) (not (has_column g (pieces 46 w))) (is_data_name g (first_piece (pieces 46 w))) (has_data_column g (pieces 46 w)) k.other k.there);
  alike = not_from_true (is_data_name g (first_piece (pieces 46 w))) k.own;
  numbered = refl;
  ordered = refl;
}

-- the number of a column by its pieces
abbrev pub column_number : GraphValue → Bool → List (List ℕ) → ℕ
column_number g false ps = column_number_of g ps
column_number g true ps = data_number_of g ps

pub column_number_is : (g : GraphValue) (hosted : Bool) (ps : List (List ℕ)) → column_number g hosted ps ≡ unwrap_or (column_place g hosted ps) 0
column_number_is g false (p ∷ q ∷ []) = refl
column_number_is g true (p ∷ q ∷ []) = refl
column_number_is g false ps = refl
column_number_is g true ps = refl

number_of_pieces : (g : GraphValue) (hosted : Bool) (w : List ℕ) (n : ℕ) → unwrap_or (column_place g hosted (pieces 46 w)) 0 ≡ n → number_in_place g (place_of_column hosted) w ≡ n
number_of_pieces g false w n h = column_number_is g false (pieces 46 w) ∙ h
number_of_pieces g true w n h = column_number_is g true (pieces 46 w) ∙ h

column_reads_at : (g : GraphValue) → IsNamed g → (hosted : Bool) (n : ℕ) (x : ColumnInfo) → IsColumnAt g hosted n x → Reads g (place_of_column hosted) n (x.inst ++ 46 ∷ x.field)
column_reads_at g h hosted n x k =
    let e : pieces 46 (x.inst ++ 46 ∷ x.field) ≡ x.inst ∷ x.field ∷ [] = column_pieces g.format x.inst x.field k.inst k.field in
    let c = column_parts g hosted n x k in
    let same = and_from (bytes_eq x.inst x.inst) (bytes_eq x.field x.field) (bytes_same x.inst x.inst refl) (bytes_same x.field x.field refl) in
    record {
      fine = column_fine g hosted (x.inst ++ 46 ∷ x.field) (subst (FinePieces g hosted) (sym e)
          (record { named = and_from (is_name_in g.format x.inst) (is_name_in g.format x.field) k.inst k.field; used = k.used; own = c.0; other = one_owner g h hosted x.inst c.0; there = c.1 }));
      number_is = number_of_pieces g hosted (x.inst ++ 46 ∷ x.field) n (ap (λ ps. unwrap_or (column_place g hosted ps) 0) e ∙ found_of same_column (kept_columns hosted g) n x (columns_apart g h hosted) k.at same);
      word = joined_is_word 46 (x.inst ∷ x.field ∷ []) (omega arith) (omega arith) (name_is_word g.format x.inst k.inst, (name_is_word g.format x.field k.field, tt));
    }

column_reads : (g : GraphValue) → IsNamed g → (n : ℕ) → n < length (columns g) → Reads g Column n (column_name g n)
column_reads g h n l = let k = known_column g h false n l in
    subst (Reads g Column n) (sym (ap (λ (o : Option ColumnInfo). option_map_or (λ (x : ColumnInfo). x.inst ++ 46 ∷ x.field) o []) k.1.at)) (column_reads_at g h false n k.0 k.1)

data_reads : (g : GraphValue) → IsNamed g → (n : ℕ) → n < length (data_columns g) → Reads g DataColumn n (data_name g n)
data_reads g h n l = let k = known_column g h true n l in
    subst (Reads g DataColumn n) (sym (ap (λ (o : Option ColumnInfo). option_map_or (λ (x : ColumnInfo). x.inst ++ 46 ∷ x.field) o []) k.1.at)) (column_reads_at g h true n k.0 k.1)

value_reads : (g : GraphValue) (n : ℕ) → n < 2 ^ 64 → Reads g Value n (decimal n)
value_reads g n h = record {
  fine = record { named = refl; once = refl; known = refl; alike = refl; numbered = ap (λ (o : Option ℕ). not (is_some o)) (value_of-decimal n h); ordered = refl };
  number_is = ap (λ o. unwrap_or o 0) (value_of-decimal n h);
  word = decimal_is_word n h;
}

count_reads : (g : GraphValue) (n : ℕ) → 0 < n → n ≤ (limits g.format).count → Reads g Count n (decimal n)
count_reads g n h k = record {
  fine = record { named = refl; once = refl; known = refl; alike = refl; numbered = ap (λ (o : Option ℕ). not (is_some o)) (count_of-decimal g.format n h k); ordered = refl };
  number_is = ap (λ o. unwrap_or o 0) (count_of-decimal g.format n h k);
  word = decimal_is_word n (let most = few_counted g.format in omega (arith, k, most));
}

times_reads : (g : GraphValue) (n : ℕ) → n ≡ 0 → Reads g Times n (codes "times")
times_reads g n h = record {
  fine = record { named = refl; once = refl; known = refl; alike = refl; numbered = refl; ordered = refl };
  number_is = sym h;
  word = record { some = refl; printed = (omega arith, (omega arith, (omega arith, (omega arith, (omega arith, tt))))) };
}

shared_reads : (g : GraphValue) (n : ℕ) → n ≡ 0 → Reads g Shared n (codes "shared")
shared_reads g n h = record {
  fine = record { named = refl; once = refl; known = refl; alike = refl; numbered = refl; ordered = refl };
  number_is = sym h;
  word = record { some = refl; printed = (omega arith, (omega arith, (omega arith, (omega arith, (omega arith, (omega arith, tt)))))) };
}

weight_reads : (g : GraphValue) (n : ℕ) → 1 < n → n ≤ (limits g.format).count → Reads g Weight n (decimal n)
weight_reads g n h k = record {
  fine = record { named = refl; once = refl; known = refl; alike = refl; numbered = ap (λ (o : Option ℕ). not (is_some o)) (weight_of-decimal g.format n h k); ordered = refl };
  number_is = ap (λ o. unwrap_or o 0) (weight_of-decimal g.format n h k);
  word = decimal_is_word n (let most = few_counted g.format in omega (arith, k, most));
}

-- a number that fits its place is read back from its spelling, and no reason refuses that
pub place_reads : PlacesReadBack
place_reads g h SpaceName n f = space_reads g h n (known_space g h n f)
place_reads g h LockName n f = lock_reads g h n (known_lock g h n f)
place_reads g h BarrierName n f = barrier_reads g h n (known_barrier g h n f)
place_reads g h UserName n f = let t = line_there is_user g n f.0 in user_reads g n (line_name g n) (line_word g h n t.0 t.1) f
place_reads g h PhaseName n f = let t = line_there is_phase g n f in phase_reads g n (line_name g n) (line_word g h n t.0 t.1) f
place_reads g h AcquireName n f = let t = line_there is_acquire g n f.0 in acquire_reads g n (line_name g n) (line_word g h n t.0 t.1) f
place_reads g h EventName n f = event_reads g n (line_name g n) (event_word_at g h n f)
place_reads g h Column n f = column_reads g h n f
place_reads g h DataColumn n f = data_reads g h n f
place_reads g h CallName n f = absurd f
place_reads g h Value n f = value_reads g n f
place_reads g h Times n f = times_reads g n f
place_reads g h Shared n f = shared_reads g n f
place_reads g h Weight n f = weight_reads g n f.0 f.1
place_reads g h Count n f = count_reads g n f.0 f.1
place_reads g h NewName n f = absurd f
place_reads g h Fields n f = absurd f
place_reads g h Intervals n f = absurd f

named_as : {X : Type 0} (key : X → List ℕ) (xs : List X) (w : List ℕ) → list_any (λ y. bytes_eq (key y) w) xs ≡ true → option_map_or key (slice_get xs (unwrap_or (position (λ y. bytes_eq (key y) w) xs) 0)) [] ≡ w
named_as key xs w h = let s = spelled_name key xs w h in ap (λ o. option_map_or key o []) s.1 ∙ s.2

lock_as : (xs : List (List ℕ)) (w : List ℕ) → list_any (bytes_eq w) xs ≡ true → option_map_or (λ (x : List ℕ). x) (slice_get xs (unwrap_or (position (bytes_eq w) xs) 0)) [] ≡ w
lock_as xs w h = let f = found_is (bytes_eq w) xs h in ap (λ (o : Option (List ℕ)). option_map_or (λ (x : List ℕ). x) o []) f.1 ∙ sym (same_bytes w f.0 f.2)

pub line_as : LineNamesSpellBack
line_as g w h = named_as (λ (x : Line). x.name) g.lines w h

both_listed : (a b : Bool) → not (a && b) ≡ false → a ≡ true
both_listed a b h = (and_parts a b (not-false (a && b) h)).0

keeps_back : (g : GraphValue) (hosted : Bool) (a b : List ℕ) → keeps_column hosted g (a ∷ b ∷ []) ≡ true → list_any (λ (y : ColumnInfo). bytes_eq y.inst a && bytes_eq y.field b) (kept_columns hosted g) ≡ true
keeps_back g false a b h = h
keeps_back g true a b h = h

column_by : (g : GraphValue) (hosted : Bool) (ps : List (List ℕ)) → is_two_names g.format ps ≡ true → keeps_column hosted g ps ≡ true →
    option_map_or (λ (x : ColumnInfo). x.inst ++ 46 ∷ x.field) (slice_get (kept_columns hosted g) (unwrap_or (column_place g hosted ps) 0)) [] ≡ join_with_byte 46 ps
column_by g hosted (inst ∷ field ∷ []) h k =
    let f = found_is (λ (y : ColumnInfo). bytes_eq y.inst inst && bytes_eq y.field field) (kept_columns hosted g) (keeps_back g hosted inst field k) in
    let p = and_parts (bytes_eq f.0.inst inst) (bytes_eq f.0.field field) f.2 in
    ap (λ (o : Option ColumnInfo). option_map_or (λ (x : ColumnInfo). x.inst ++ 46 ∷ x.field) o []) f.1
    ∙ (ap (λ i. i ++ 46 ∷ f.0.field) (same_bytes f.0.inst inst p.0) ∙ ap (λ e. inst ++ 46 ∷ e) (same_bytes f.0.field field p.1))
column_by g hosted [] h k = absurd (true≢false (sym h))
column_by g hosted (a ∷ []) h k = absurd (true≢false (sym h))
column_by g hosted (a ∷ b ∷ c ∷ cs) h k = absurd (true≢false (sym h))

false_side : (a b : Bool) → a ≡ true → (a && not b) ≡ false → b ≡ true
false_side true b e h = not-false b h
false_side false b e h = absurd (true≢false (sym e))

-- a column's word names one of its kind
keeps_fine : (g : GraphValue) (hosted : Bool) (w : List ℕ) → IsFine g (place_of_column hosted) w → (is_two_names g.format (pieces 46 w) ≡ true) × (keeps_column hosted g (pieces 46 w) ≡ true)
keeps_fine g false w f =
    let inst : is_inst_name g (first_piece (pieces 46 w)) ≡ true = not-false (is_inst_name g (first_piece (pieces 46 w))) f.alike in
    let u = or_parts (not (is_used g (first_piece (pieces 46 w)))) (lacks_field g (pieces 46 w)) f.known in
    let v = or_parts (is_inst_name g (first_piece (pieces 46 w)) && not (has_column g (pieces 46 w))) (is_data_name g (first_piece (pieces 46 w)) && not (has_data_column g (pieces 46 w))) u.1 in
    (not-false (is_column g.format w) f.named, false_side (is_inst_name g (first_piece (pieces 46 w))) (has_column g (pieces 46 w)) inst v.0)
keeps_fine g true w f =
    let data_named : is_data_name g (first_piece (pieces 46 w)) ≡ true = not-false (is_data_name g (first_piece (pieces 46 w))) f.alike in
    let u = or_parts (not (is_used g (first_piece (pieces 46 w)))) (lacks_field g (pieces 46 w)) f.known in
    let v = or_parts (is_inst_name g (first_piece (pieces 46 w)) && not (has_column g (pieces 46 w))) (is_data_name g (first_piece (pieces 46 w)) && not (has_data_column g (pieces 46 w))) u.1 in
    (not-false (is_column g.format w) f.named, false_side (is_data_name g (first_piece (pieces 46 w))) (has_data_column g (pieces 46 w)) data_named v.1)

column_spelled : (g : GraphValue) (w : List ℕ) → IsFine g Column w → column_name g (column_number_of g (pieces 46 w)) ≡ w
column_spelled g w f = let k = keeps_fine g false w f in
    ap (column_name g) (column_number_is g false (pieces 46 w)) ∙ (column_by g false (pieces 46 w) k.0 k.1 ∙ joined_pieces 46 w)

data_spelled : (g : GraphValue) (w : List ℕ) → IsFine g DataColumn w → data_name g (data_number_of g (pieces 46 w)) ≡ w
data_spelled g w f = let k = keeps_fine g true w f in
    ap (data_name g) (column_number_is g true (pieces 46 w)) ∙ (column_by g true (pieces 46 w) k.0 k.1 ∙ joined_pieces 46 w)

is_there : (o : Option ℕ) → not (is_some o) ≡ false → (n : ℕ) × (o ≡ Some n)
is_there None h = absurd (true≢false h)
is_there (Some n) h = (n, refl)

value_spelled : (g : GraphValue) (w : List ℕ) → IsFine g Value w → IsSpelled g Value w
value_spelled g w f =
    let n = is_there (value_of w) f.numbered in
    let s = value_of-spelled n.0 w n.1 in
    let e : number_in_place g Value w ≡ n.0 = ap (λ o. unwrap_or o 0) n.1 in
    record { word_is = ap decimal e ∙ sym s.0; bounded = subst (λ k. k < 2 ^ 64) (sym e) s.1 }

count_spelled : (g : GraphValue) (w : List ℕ) → IsFine g Count w → IsSpelled g Count w
count_spelled g w f =
    let n = is_there (count_of g.format w) f.numbered in
    let s = count_of-spelled g.format n.0 w n.1 in
    let e : number_in_place g Count w ≡ n.0 = ap (λ o. unwrap_or o 0) n.1 in
    record { word_is = ap decimal e ∙ sym s.0; bounded = subst (λ k. (0 < k) × (k ≤ 65536)) (sym e) (s.1, (let most = few_counted g.format in omega (arith, s.2, most))) }

weight_spelled : (g : GraphValue) (w : List ℕ) → IsFine g Weight w → IsSpelled g Weight w
weight_spelled g w f =
    let n = is_there (weight_of g.format w) f.numbered in
    let s = weight_of-spelled g.format n.0 w n.1 in
    let e : number_in_place g Weight w ≡ n.0 = ap (λ o. unwrap_or o 0) n.1 in
    record { word_is = ap decimal e ∙ sym s.0; bounded = subst (λ k. (1 < k) × (k ≤ 65536)) (sym e) (s.1, (let most = few_counted g.format in omega (arith, s.2, most))) }

-- a word that no reason refuses in its place is the spelling of its number
pub place_spelled : PlacesSpellBack
place_spelled g SpaceName w n o f = record { word_is = named_as (λ (x : List ℕ × List (ℕ × ℕ)). x.0) (named_spaces g) w (not-false (list_any (λ (x : List ℕ × List (ℕ × ℕ)). bytes_eq x.0 w) (named_spaces g)) f.alike); bounded = tt }
place_spelled g LockName w n o f = record { word_is = lock_as (locks g) w (not-false (list_any (bytes_eq w) (locks g)) f.alike); bounded = tt }
place_spelled g BarrierName w n o f = record { word_is = named_as (λ (x : BarrierInfo). x.name) (barriers g) w (not-false (list_any (λ (x : BarrierInfo). bytes_eq x.name w) (barriers g)) f.alike); bounded = tt }
place_spelled g UserName w n o f = record { word_is = line_as g w (both_listed (is_line_name g w) (line_passes is_user g (line_number g w)) f.alike); bounded = tt }
place_spelled g PhaseName w n o f = record { word_is = line_as g w (both_listed (is_line_name g w) (line_passes is_phase g (line_number g w)) f.alike); bounded = tt }
place_spelled g AcquireName w n o f = record { word_is = line_as g w (both_listed (is_line_name g w) (line_passes is_acquire g (line_number g w)) f.alike); bounded = tt }
place_spelled g EventName w n o f = record { word_is = line_as g w (not-false (is_line_name g w) f.alike); bounded = tt }
place_spelled g Column w n o f = record { word_is = column_spelled g w f; bounded = tt }
place_spelled g DataColumn w n o f = record { word_is = data_spelled g w f; bounded = tt }
place_spelled g CallName w n o f = absurd n
place_spelled g Value w n o f = value_spelled g w f
place_spelled g Times w n o f = record { word_is = sym (same_bytes w (codes "times") o); bounded = tt }
place_spelled g Shared w n o f = record { word_is = sym (same_bytes w (codes "shared") o); bounded = tt }
place_spelled g Weight w n o f = weight_spelled g w f
place_spelled g Count w n o f = count_spelled g w f
place_spelled g NewName w n o f = absurd n
place_spelled g Fields w n o f = absurd n
place_spelled g Intervals w n o f = absurd n
