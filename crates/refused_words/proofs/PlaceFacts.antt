-- The words of a line in their places, by their numbers.
use Rattle.std.proofs.Common.{◌≡◌, ℕ, ◌+◌, ◌-◌, ◌<◌, ◌≤◌, true, false, inl, inr, ◌&&◌, ◌||◌, List, [], length, drop, sym, ◌∙◌, ap, arith}
use Rattle.std.specs.Prelude.{Some, None, ◌==◌, option_map, slice_get, slice_index_or, find, nat_lt}
use Rattle.std.specs.Option.{option_map_or}
use Rattle.std.proofs.lemmas.Bool.{true≢false, cases_lt, cond-true, cond-false, lt-ltb, le-ltb, ne_eqb, and_from}
use Rattle.std.proofs.lemmas.List.{length-drop, get_or-drop}
use Rattle.graph_terms.specs.declared.format.Format.{Format}
use Rattle.graph_terms.specs.declared.table.Kind.{Kind}
use Rattle.graph_terms.specs.declared.table.TheConstants.{KINDS}
use Rattle.graph_terms.specs.Table.{kind_places, kind_words}
use Rattle.graph_words.specs.Draft.{EventName, as_place, form_of, has_on, is_of_form}
use Rattle.graph_reader.specs.Reading.{is_operation}
use Rattle.refused_words.specs.Meets.{is_data_column}
use Rattle.refused_words.specs.Places.{decl_place, is_merge, is_call, behind_kind, kind_place, verb_place, operation_place, place_at}

abbrev pub at : List (List ℕ) → ℕ → List ℕ
at ws k = slice_index_or ws k []

pub place_of_operation : (fm : Format) (ws : List (List ℕ)) (k : ℕ) → k < length ws → is_operation ws ≡ true → place_at fm ws k ≡ operation_place fm ws k
unfolding place_at
place_of_operation fm ws k l h = cond-true (nat_lt k (length ws)) _ None (lt-ltb k (length ws) l) ∙ cond-true (is_operation ws) _ _ h

pub place_of_decl : (fm : Format) (ws : List (List ℕ)) (k : ℕ) → k < length ws → is_operation ws ≡ false → place_at fm ws k ≡ decl_place fm (at ws 0) k
unfolding place_at
place_of_decl fm ws k l h = cond-true (nat_lt k (length ws)) _ None (lt-ltb k (length ws) l) ∙ cond-false (is_operation ws) _ _ h

-- behind the sign
pub verb_at : (fm : Format) (ws : List (List ℕ)) (n k : ℕ) → n ≡ k + 2 → operation_place fm ws n ≡ verb_place fm (drop 2 ws) k
verb_at fm ws n k e =
    cond-false (n == 0) _ _ (ne_eqb n 0 (λ z. absurd (omega (arith, z, e))))
    ∙ (cond-false (n == 1) _ _ (ne_eqb n 1 (λ z. absurd (omega (arith, z, e)))) ∙ ap (verb_place fm (drop 2 ws)) (let m : n - 2 ≡ k = omega arith in m))

-- words behind the sign that are neither those of a merge nor of a call
pub record IsPlain (ws : List (List ℕ)) : Type 0 where
  pub merge : is_merge ws ≡ false
  pub call : is_call ws ≡ false

-- of a line of a kind
module _ (fm : Format) (kind : Kind) (ws : List (List ℕ)) (other : IsPlain ws) (found : find (λ k. is_of_form fm ws (form_of k)) KINDS ≡ Some kind) (long : length (kind_words kind) ≤ length ws) where
  abbrev rest : List (List ℕ)
  rest = drop (length (kind_words kind)) ws

  pub kind_at : (n i : ℕ) → n ≡ i + length (kind_words kind) → verb_place fm ws n ≡ behind_kind fm kind rest i
  kind_at n i e =
      cond-false (is_merge ws) _ _ other.merge
      ∙ (cond-false (is_call ws) _ _ other.call
      ∙ (ap (λ o. option_map_or (λ k. kind_place fm k ws n) o None) found
      ∙ (cond-false (nat_lt n (length (kind_words kind)) || nat_lt (length ws) (length (kind_words kind))) None _ (ap (λ b. b || nat_lt (length ws) (length (kind_words kind))) (le-ltb n (length (kind_words kind)) (let b : length (kind_words kind) ≤ n = omega arith in b)) ∙ le-ltb (length ws) (length (kind_words kind)) long)
      ∙ ap (behind_kind fm kind rest) (let m : n - length (kind_words kind) ≡ i = omega arith in m))))

  pub column_at : (n i : ℕ) → n ≡ i + length (kind_words kind) → i < length (kind_places kind) → verb_place fm ws n ≡ option_map as_place (slice_get (kind_places kind) i)
  column_at n i e below = kind_at n i e ∙ cond-true (nat_lt i (length (kind_places kind))) _ _ (lt-ltb i (length (kind_places kind)) below)

  pub on_at : (n i : ℕ) → n ≡ i + length (kind_words kind) → length (kind_places kind) < i → has_on fm (form_of kind) rest ≡ true → verb_place fm ws n ≡ Some EventName
  on_at n i e past on =
      kind_at n i e
      ∙ (cond-false (nat_lt i (length (kind_places kind))) _ _ (le-ltb i (length (kind_places kind)) (let b : length (kind_places kind) ≤ i = omega arith in b))
      ∙ cond-true (nat_lt (length (kind_places kind)) i && has_on fm (form_of kind) rest) _ _ (and_from (nat_lt (length (kind_places kind)) i) _ (lt-ltb (length (kind_places kind)) i past) on))

pub merge_at : (fm : Format) (ws : List (List ℕ)) (n : ℕ) → is_merge ws ≡ true → verb_place fm ws (n + 1) ≡ Some EventName
merge_at fm ws n h = cond-true (is_merge ws) _ _ h ∙ cond-false (n + 1 == 0) _ _ (ne_eqb (n + 1) 0 (λ z. absurd (omega (arith, z))))

-- a word behind others
pub at_behind : (ws : List (List ℕ)) (m i n : ℕ) → n ≡ m + i → at (drop m ws) i ≡ at ws n
at_behind ws m i n e = get_or-drop m ws i [] ∙ ap (at ws) (sym e)

pub below_behind : (ws : List (List ℕ)) (m i n : ℕ) → n ≡ m + i → i < length (drop m ws) → n < length ws
below_behind ws m i n e l = let s : length (drop m ws) ≡ length ws - m = length-drop m ws in omega arith

-- a word that stands in a place is there
pub data_column_below : (fm : Format) (ws : List (List ℕ)) (k : ℕ) → is_data_column (place_at fm ws k) ≡ true → k < length ws
unfolding place_at
data_column_below fm ws k h = elim (cases_lt k (length ws)) [
  | inl l ↦ l
  | inr past ↦ absurd (true≢false (sym h ∙ ap is_data_column (cond-false (nat_lt k (length ws)) _ None (le-ltb k (length ws) past))))
]
