-- The names that lines of a text give, and which lines the words of a line name.
use Rattle.std.specs.Prelude.{◌≡◌, ℕ, zero, suc, is_some, ◌+◌, ◌-◌, ◌||◌, Bool, false, cond, List, [], ◌∷◌, ◌++◌, map, take, drop, slice_get, codes, decimal, ◌<◌, IfSome, Option, Some, None}
use Rattle.std.specs.Borrow.{Bor}
use Rattle.std.specs.Option.{option_map_or}
use Rattle.std.specs.List.{slice_index_or, list_any}
use Rattle.std.specs.Str.{bytes_eq}
use Rattle.graph_terms.specs.declared.format.Format.{Format}
use Rattle.graph_words.specs.Words.{pieces, first_piece}
use Rattle.graph_words.specs.Draft.{Place, NewName, SpaceName, LockName, BarrierName, UserName, PhaseName, AcquireName, EventName, Column, DataColumn}
use Rattle.refused_words.specs.Places.{place_at}
use Rattle.explain_text.specs.Shown.{shown, shown_for, more_text}
use Rattle.told_names.specs.declared.naming.NamedWord.{NamedWord}

-- the words with which a declaration begins
abbrev pub declares : List ℕ → Bool
declares w = bytes_eq w (codes "space") || (bytes_eq w (codes "inst") || (bytes_eq w (codes "data") || (bytes_eq w (codes "lock") || bytes_eq w (codes "barrier"))))

-- the name that a line gives: that of an operation stands before the sign, that of a declaration behind its word
abbrev pub given_by : List ℕ → List ℕ → List ℕ
given_by first second = cond (bytes_eq second (codes "=")) first (cond (declares first) second [])

abbrev pub given_name : List (List ℕ) → List ℕ
given_name (first ∷ second ∷ rest) = given_by first second
given_name _ = []

-- the names that lines give, one for each line
abbrev pub given_names : List (List ℕ) → List (List ℕ)
given_names ls = map (λ l. given_name (pieces 32 l)) ls

-- the first place at which a name stands among some, where the first of them has number n
abbrev pub first_place : List ℕ → ℕ → List (List ℕ) → Option ℕ
first_place w n [] = None
first_place w n (x ∷ xs) = cond (bytes_eq x w) (Some n) (first_place w (n + 1) xs)

-- two borrowed names are the same
abbrev pub is_same_name : Bor (List ℕ) → Bor (List ℕ) → Bool
is_same_name a b = bytes_eq a.now b.now

-- a word, and by the names that lines give, the topmost line above line `number` that gives it, and the topmost line below that does
pub record IsNamedWord (names : List (List ℕ)) (number : ℕ) (x : NamedWord) : Type 0 where
  pub above : x.above ≡ first_place x.word.now 0 (take (number - 1) names)
  pub below : x.below ≡ first_place x.word.now number (drop number names)

-- the name that a word stands for in its place, but for that of a new name; the word of a call is none of the graph's
abbrev pub name_in : Place → List ℕ → Option (List ℕ)
name_in SpaceName w = Some w
name_in LockName w = Some w
name_in BarrierName w = Some w
name_in UserName w = Some w
name_in PhaseName w = Some w
name_in AcquireName w = Some w
name_in EventName w = Some w
name_in Column w = Some (first_piece (pieces 46 w))
name_in DataColumn w = Some (first_piece (pieces 46 w))
name_in _ w = None

-- a new name is told where a line above gives it too
abbrev pub told_new : List (List ℕ) → ℕ → List ℕ → Option (List ℕ)
told_new names number w = cond (is_some (first_place w 0 (take (number - 1) names))) (Some w) None

abbrev pub told_in : List (List ℕ) → ℕ → Option Place → List ℕ → Option (List ℕ)
told_in names number None w = None
told_in names number (Some NewName) w = told_new names number w
told_in names number (Some p) w = name_in p w

-- the name that is told of word k of line `number`
abbrev pub told_word : Format → List (List ℕ) → ℕ → List (List ℕ) → ℕ → Option (List ℕ)
told_word format names number ws k = told_in names number (place_at format ws k) (slice_index_or ws k [])

-- the name of this number is this one
abbrev pub is_name_at : List (List ℕ) → ℕ → List ℕ → Bool
is_name_at ws i w = option_map_or (bytes_eq w) (slice_get ws i) false

-- one more name, where it is not there
abbrev pub with_name : List (List ℕ) → List ℕ → List (List ℕ)
with_name ws w = cond (list_any (bytes_eq w) ws) ws (ws ++ w ∷ [])

abbrev pub with_told : List (List ℕ) → Option (List ℕ) → List (List ℕ)
with_told ws None = ws
with_told ws (Some w) = with_name ws w

-- the names that are told of the first n words, each once, in the order in which they come first
abbrev pub once_words : (ℕ → Option (List ℕ)) → ℕ → List (List ℕ)
once_words f zero = []
once_words f (suc n) = with_told (once_words f n) (f n)

-- the third word of a line: of an instance or of data its space
abbrev pub third_of : List (List ℕ) → List ℕ
third_of (first ∷ second ∷ third ∷ rest) = third
third_of _ = []

-- that of the topmost line above line `number` that gives a name
abbrev pub third_at : List (List ℕ) → Option ℕ → List ℕ
third_at ls None = []
third_at ls (Some k) = third_of (pieces 32 (slice_index_or ls k []))

abbrev pub over_word : List (List ℕ) → List (List ℕ) → ℕ → List ℕ → List ℕ
over_word ls names number owner = third_at ls (first_place owner 0 (take (number - 1) names))

-- the space over which the instance of a column is declared, or the data
abbrev pub space_in : List (List ℕ) → List (List ℕ) → ℕ → Option Place → List ℕ → Option (List ℕ)
space_in ls names number (Some Column) w = Some (over_word ls names number (first_piece (pieces 46 w)))
space_in ls names number (Some DataColumn) w = Some (over_word ls names number (first_piece (pieces 46 w)))
space_in ls names number _ w = None

abbrev pub space_word : Format → List (List ℕ) → List (List ℕ) → ℕ → List (List ℕ) → ℕ → Option (List ℕ)
space_word format ls names number ws k = space_in ls names number (place_at format ws k) (slice_index_or ws k [])

-- these are lines of the text
pub record IsInside (n : ℕ) (x : NamedWord) : Type 0 where
  pub above : IfSome x.above (λ k. k < n)
  pub below : IfSome x.below (λ k. k < n)

-- what is told of a word: the line above that gives it, or that none does, and the line below, where one does
abbrev pub place_text : List (List ℕ) → List ℕ → ℕ → List ℕ
place_text ls w k = decimal (k + 1) ++ (codes ": " ++ (shown_for w (slice_index_or ls k []) ++ codes "\n"))

abbrev pub below_text : List (List ℕ) → List ℕ → Option ℕ → List ℕ
below_text ls w None = codes "no line above gives " ++ (shown w ++ codes "\n")
below_text ls w (Some k) = codes "no line above gives " ++ (shown w ++ (codes ", but line " ++ place_text ls w k))

abbrev pub named_by : List (List ℕ) → List ℕ → Option ℕ → Option ℕ → List ℕ
named_by ls w (Some k) below = shown w ++ (codes " is given by line " ++ place_text ls w k)
named_by ls w None below = below_text ls w below

abbrev pub named_text : List (List ℕ) → NamedWord → List ℕ
named_text ls x = named_by ls x.word.now x.above x.below

abbrev pub named_texts : List (List ℕ) → List NamedWord → List ℕ
named_texts ls [] = []
named_texts ls (x ∷ xs) = named_text ls x ++ named_texts ls xs

-- the same of names, and how many more there are
abbrev pub names_text : List (List ℕ) → List NamedWord → ℕ → List ℕ
names_text ls xs more = named_texts ls xs ++ more_text more

abbrev pub space_text : List (List ℕ) → Option NamedWord → List ℕ
space_text ls None = []
space_text ls (Some x) = named_text ls x
