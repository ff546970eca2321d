-- The words of lines that are written.
use Rattle.std.specs.Prelude.{ℕ, ◌+◌, ◌==◌, cond, List, [], ◌++◌, ◌∷◌, decimal, flat_map, zip}
use Rattle.graph_terms.specs.declared.table.Place.{Place}
use Rattle.graph_terms.specs.declared.table.Parts.{Parts}
use Rattle.graph_terms.specs.Graph.{GraphValue}
use Rattle.graph_terms.specs.Table.{parts_from}
use Rattle.graph_terms.specs.Spelling.{interval_word, placed_words}
use Rattle.graph_writer.specs.declared.word_kinds.Word.{Word}
use Rattle.graph_writer.specs.declared.word_kinds.Word.TheVariants as words

abbrev pub word_text : Word → List ℕ
word_text (words.Fixed bytes) = bytes.now
word_text (words.Name name) = name
word_text (words.Column inst field) = inst ++ 46 ∷ field
word_text (words.Number n) = decimal n
word_text (words.Interval low high) = interval_word (low, high)

-- words, each behind a space
abbrev pub spaced : List (List ℕ) → List ℕ
spaced ws = flat_map (λ w. 32 ∷ w) ws

-- what stands in places, the first having this number, each word behind a space
abbrev pub part_text : GraphValue → ℕ → List Place → Parts → List ℕ
part_text g n ps parts = spaced (placed_words g (zip ps (parts_from n ps parts)))

-- what stands before the item of this number in a list with commas
abbrev pub comma_before : ℕ → List ℕ
comma_before i = cond (i == 0) [] (44 ∷ [])

-- the texts of items, the first having this number, with a comma between each two
abbrev pub comma_from : {X : Type 0} → (X → List ℕ) → ℕ → List X → List ℕ
comma_from f i [] = []
comma_from f i (x ∷ xs) = (comma_before i ++ f x) ++ comma_from f (i + 1) xs
