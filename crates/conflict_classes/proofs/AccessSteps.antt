-- The accesses of a line, one after the other.
use Rattle.std.proofs.Common.{◌≡◌, ℕ, ◌+◌, ◌<◌, ◌≤◌, inl, inr, List, [], length, sym, ◌∙◌, ap, subst, arith, zero, suc, ◌∷◌}
use Rattle.std.specs.Prelude.{Some, None, Contains, map, option_map, slice_get}
use Rattle.std.specs.Option.{option_map_or}
use Rattle.std.specs.List.{slice_index_or}
use Rattle.std.proofs.lemmas.Bool.{cases_lt}
use Rattle.std.proofs.lemmas.Option.{none-some, same_Some, slice_get_within, get_or_from_slice_get, slice_get-get_or}
use Rattle.std.proofs.lemmas.List.Elements.{Contains-append_cases}
use Rattle.graph_terms.specs.declared.verb.Access.{Access}
use Rattle.graph_terms.specs.declared.verb.Mode.TheVariants.{Read}
use Rattle.graph_terms.specs.declared.verb.Line.{Line}
use Rattle.graph_terms.specs.declared.verb.Verb.{Verb}
use Rattle.graph_terms.specs.Graph.{GraphValue, verb_at}
use Rattle.graph_terms.specs.Access.{accesses, all_accesses, behind_columns, call_accesses, verb_accesses, in_format}
use Rattle.graph_terms.specs.Fits.{IsGraph}
use Rattle.basics.proofs.ListFacts.{contains_none, map_contains}
use Rattle.graph_meaning.proofs.Public.{all_accesses_are_few}

-- a line has at most eight accesses
pub few_accesses : (g : GraphValue) → IsGraph g → (i : ℕ) → length (all_accesses g i) ≤ 8
few_accesses g fits i = all_accesses_are_few g i fits

-- an access that was read is one of the line
pub access_read : (xs : List Access) (k : ℕ) (a : Access) → slice_get xs k ≡ Some a → Contains xs a
access_read xs k a e = (k, slice_get_within xs k a e, get_or_from_slice_get xs k a a e)

access_line : (of : Verb → List Access) (ls : List Line) (i : ℕ) (a : Access) → Contains (option_map_or of (option_map (λ (l : Line). l.verb) (slice_get ls i)) []) a → i < length ls
access_line of [] i a c = absurd (contains_none a c)
access_line of (l ∷ ls) zero a c = omega arith
access_line of (l ∷ ls) (suc i) a c = let b : i < length ls = access_line of ls i a c in omega arith

-- a line that has an access is there
pub access_there : (g : GraphValue) (i : ℕ) (a : Access) → Contains (all_accesses g i) a → i < length g.lines
access_there g i a c = elim (Contains-append_cases (accesses g i) (map (behind_columns g) (option_map_or call_accesses (verb_at g i) [])) a c) [
  | inl own ↦ (let m = map_contains (in_format g.format) (option_map_or verb_accesses (verb_at g i) []) a own in access_line verb_accesses g.lines i m.0 m.1)
  | inr behind ↦ (let m = map_contains (behind_columns g) (option_map_or call_accesses (verb_at g i) []) a behind in access_line call_accesses g.lines i m.0 m.1)
]

-- none of the first k accesses is such
abbrev pub NoneAmong : (Access → Type 0) → List Access → ℕ → Type 0
NoneAmong P xs k = (m : ℕ) (a : Access) → m < k → slice_get xs m ≡ Some a → P a → ⊥

pub none_more : (P : Access → Type 0) (xs : List Access) (k : ℕ) (a : Access) → slice_get xs k ≡ Some a → (P a → ⊥) → NoneAmong P xs k → NoneAmong P xs (k + 1)
none_more P xs k a at fails none m b h e p = elim (cases_lt m k) [
  | inl l ↦ none m b l e p
  | inr up ↦ (let same : m ≡ k = omega arith in fails (subst P (same_Some b a (sym e ∙ (ap (slice_get xs) same ∙ at))) p))
]

pub none_done : (P : Access → Type 0) (xs : List Access) (k : ℕ) → length xs ≤ k → NoneAmong P xs k → (a : Access) → Contains xs a → P a → ⊥
none_done P xs k few none a c p = let b : c.0 < length xs = c.1 in none c.0 a (omega arith) (slice_get-get_or xs c.0 a c.1 ∙ ap Some c.2) p

pub none_left : (P : Access → Type 0) (xs : List Access) (k : ℕ) → slice_get xs k ≡ None → NoneAmong P xs k → (a : Access) → Contains xs a → P a → ⊥
none_left P xs k gone none a c p = none_done P xs k few none a c p
  where
    few : length xs ≤ k
    few = elim (cases_lt k (length xs)) [ inl l ↦ absurd (none-some (slice_index_or xs k a) (sym gone ∙ slice_get-get_or xs k a l)) | inr le ↦ le ]

pub no_more : (g : GraphValue) (i k : ℕ) → slice_get (all_accesses g i) k ≡ None → length (all_accesses g i) ≤ k
no_more g i k gone = elim (cases_lt k (length (all_accesses g i))) [ inl l ↦ absurd (absent (all_accesses g i) k l gone) | inr le ↦ le ]
  where
    absent : (xs : List Access) (k : ℕ) → k < length xs → slice_get xs k ≡ None → ⊥
    absent [] k l e = absurd (omega arith)
    absent (y ∷ ys) zero l e = none-some y (sym e)
    absent (y ∷ ys) (suc k) l e = absent ys k (omega arith) e

-- an access that is read past the end of a list
abbrev pub no_access : Access
no_access = record { column = 0; space = 0; mode = Read }
