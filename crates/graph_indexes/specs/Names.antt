-- Names in chains of slots.
use Rattle.std.specs.Prelude.{◌≡◌, ℕ, zero, suc, ◌+◌, ◌*◌, ◌/◌, ◌%◌, ◌^◌, ◌<◌, ◌⊎◌, false, cond, List, [], length, Option, Some, None, fold, drop, slice_get, MatchOption}
use Rattle.std.specs.Cmp.Lexicographic.{slice_cmp}
use Rattle.std.specs.Ordering.{nat_cmp, is_eq}
use Rattle.std.specs.Map.{lookup}
use Rattle.std.specs.Str.{bytes_eq}
use Rattle.graph_terms.specs.declared.found.Found.{Found}
use Rattle.graph_indexes.specs.declared.chains.Entry.{Entry}
use Rattle.graph_indexes.specs.declared.chains.Seat.{Seat}
use Rattle.graph_indexes.specs.declared.chains.Seat.TheVariants.{Own, Free, Full}
use Rattle.graph_indexes.specs.declared.chains.TheConstants.{STEPS}
use Rattle.graph_terms.specs.NameLaws.{front_number}
use Rattle.graph_terms.specs.Graph.{GraphValue}
use Rattle.graph_terms.specs.Fits.{is_used}
use Rattle.graph_terms.specs.Names.{StandsFor}

-- the hash of a name: the number of its first eight bytes, and each further byte, mixed by multiplication modulo 2^64
abbrev pub mixed : ℕ → ℕ → ℕ
mixed hash digit = ((hash + digit) % 2 ^ 64) * 11400714819323198485 % 2 ^ 64

unfoldable pub hash_of : List ℕ → ℕ
hash_of name = fold mixed (mixed 0 (front_number name)) (drop 8 name)

-- the slot of a name, by the highest bits of its hash
unfoldable pub slot_of : ℕ → List ℕ → ℕ
slot_of slots name = ((hash_of name / 2 ^ 32) * slots % 2 ^ 64) / 2 ^ 32

-- how many slots there are, for each the number of the first entry of its chain, and the entries
pub record ChainsValue : Type 0 where
  pub size : ℕ
  pub slots : List (Option ℕ)
  pub entries : List Entry

-- where a name is in a chain, of which so many entries are looked at: the number of its own entry; or the chain ends before, or goes on
abbrev pub seat_by : List ℕ → ℕ → (Option ℕ → Seat) → Option Entry → Seat
seat_by name n behind None = Free
seat_by name n behind (Some e) = cond (bytes_eq e.name name) (Own n) (behind e.next)

abbrev pub seat_in : List Entry → List ℕ → ℕ → Option ℕ → Seat
seat_in entries name zero link = Full
seat_in entries name (suc k) None = Free
seat_in entries name (suc k) (Some n) = seat_by name n (seat_in entries name k) (slice_get entries n)

-- where a name is, by the number of the first entry of its chain: nowhere with a place, where there is no slot
abbrev pub seat_from : List Entry → List ℕ → Option (Option ℕ) → Seat
seat_from entries name None = Full
seat_from entries name (Some first) = seat_in entries name STEPS first

-- where a name is
abbrev pub seat_of : ChainsValue → List ℕ → Seat
seat_of chains name = seat_from chains.entries name (slice_get chains.slots (slot_of chains.size name))

-- what a name stands for in an ordered map
abbrev pub mapped : List (List ℕ × Found) → List ℕ → Option Found
mapped others name = lookup (λ k. is_eq (slice_cmp nat_cmp name k)) others

-- what the entry of a number tells
abbrev pub told_by : Option Entry → Option Found
told_by None = None
told_by (Some e) = e.found

-- the number behind the entry of a number in its chain
abbrev pub next_by : Option Entry → Option ℕ
next_by None = None
next_by (Some e) = e.next

-- what a name stands for, by where it is: nothing is told where no entry has it
abbrev pub told_at : List Entry → Seat → Option (Option Found)
told_at entries (Own n) = Some (told_by (slice_get entries n))
told_at entries Free = None
told_at entries Full = None

abbrev pub told : ChainsValue → List ℕ → Option (Option Found)
told chains name = told_at chains.entries (seat_of chains name)

-- one name more, with what it stands for in other chains
pub record Copies (from old new : ChainsValue) (name : List ℕ) : Type 0 where
  pub found : Option Found
  pub has : told from name ≡ Some found
  pub puts : (q : List ℕ) → told new q ≡ cond (bytes_eq name q) (Some found) (told old q)

-- the names in chains, and those that found no place there
pub record NamesValue : Type 0 where
  pub chains : ChainsValue
  pub others : List (List ℕ × Found)

-- what a name stands for, by what the chains tell
abbrev pub told_or : Option (Option Found) → Option Found → Option Found
told_or (Some found) other = found
told_or None other = other

-- what a name stands for
abbrev pub named : NamesValue → List ℕ → Option Found
named names name = told_or (told names.chains name) (mapped names.others name)

-- a number in a chain is that of an entry
abbrev pub IsWithin : List Entry → Option ℕ → Type 0
IsWithin entries link = (n : ℕ) → link ≡ Some n → n < length entries

-- the numbers in chains are those of entries
pub record AreChains (chains : ChainsValue) : Type 0 where
  pub within : (slot : ℕ) (first : Option ℕ) → slice_get chains.slots slot ≡ Some first → IsWithin chains.entries first
  pub linked : (k : ℕ) (e : Entry) → slice_get chains.entries k ≡ Some e → IsWithin chains.entries e.next

-- names are those of a graph
pub record AreNamesOf (g : GraphValue) (names : NamesValue) : Type 0 where
  pub each : (name : List ℕ) → MatchOption (named names name) (is_used g name ≡ false) (StandsFor g name)
