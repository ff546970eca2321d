-- What is told of a line that is refused for its form.
use Rattle.std.specs.Prelude.{ℕ, ◌+◌, ◌-◌, ◌==◌, nat_lt, Bool, cond, not, ◌&&◌, ◌||◌, List, [], ◌∷◌, ◌++◌, length, take, flat_map, codes, decimal}
use Rattle.std.specs.Option.{option_map_or}
use Rattle.std.specs.List.{concat, list_any, slice_index_or}
use Rattle.std.specs.Str.{bytes_eq}
use Rattle.graph_terms.specs.declared.format.Format.{Format}
use Rattle.graph_terms.specs.declared.format.Format.TheVariants.{Three}
use Rattle.graph_terms.specs.Format.{has_since}
use Rattle.graph_terms.specs.declared.why.Why.{Why}
use Rattle.graph_terms.specs.declared.why.Why.TheVariants as why
use Rattle.line_forms.specs.declared.advice.TheConstants.{MAX_WORD}
use Rattle.line_forms.specs.declared.blanks.Blank.TheVariants.{Return}
use Rattle.line_forms.specs.declared.form.Form.{Form}
use Rattle.line_forms.specs.declared.form.TheConstants.{FORMS}
use Rattle.line_forms.specs.declared.vocabulary.Vocabulary.{Vocabulary}
use Rattle.line_forms.specs.declared.vocabulary.Vocabulary.TheVariants.{Starts, Verbs, Kernels}
use Rattle.line_forms.specs.Blanks.{ends_with_return, blank_in, blank_text}
use Rattle.line_forms.specs.Forms.{form_words, takes_on, takes_several, shown_front, shown_end, followed, is_told}
use Rattle.line_forms.specs.Columns.{repeated_text, is_task}
use Rattle.line_forms.specs.Files.{first_text, rest_text}
use Rattle.line_forms.specs.Hint.{are_events, merge_hint}
use Rattle.line_forms.specs.Left.{left_text}
use Rattle.line_forms.specs.Words.{vocabulary_words, vocabulary_text, nearest, nearest_text}

-- a word as it is told: of a long one the front, and `..` as its end
abbrev pub word_front : List ℕ → List ℕ
word_front w = cond (nat_lt MAX_WORD (length w)) (take (MAX_WORD - 2) w) w

abbrev pub word_end : List ℕ → List ℕ
word_end w = cond (nat_lt MAX_WORD (length w)) (codes "..") []

-- word n of a line, from 0, is the first at which the line leaves a form, or would be
abbrev pub leave_text : List (List ℕ) → ℕ → List ℕ
leave_text ws n =
    cond (nat_lt n (length ws)) (concat (codes "the line leaves it at word " ∷ decimal (n + 1) ∷ codes ": " ∷ word_front (slice_index_or ws n []) ∷ word_end (slice_index_or ws n []) ∷ codes "\n" ∷ []))
    (concat (codes "the line ends before word " ∷ decimal (n + 1) ∷ codes " of it\n" ∷ []))

-- a second event stands behind the whole form, of which the format takes one, and nothing that names none
abbrev pub several_text : Format → Form → List (List ℕ) → ℕ → List ℕ
several_text format f ws n = cond ((takes_on f && not (takes_several format f)) && (n == form_words f && (nat_lt n (length ws) && are_events ws n))) (merge_hint f ws n) []

-- what is told of the word at which it leaves the form, where there is one
abbrev pub left_at : Format → Form → List (List ℕ) → ℕ → List ℕ
left_at format f ws n = cond (nat_lt n (length ws)) (left_text format f n (slice_index_or ws n [])) []

-- a form, of which a line has the first n words
abbrev pub told_at : Format → Form → List (List ℕ) → ℕ → List ℕ
told_at format f ws n = concat (codes "the form is: " ∷ shown_front format f ∷ shown_end format f ∷ []) ++ (leave_text ws n ++ (left_at format f ws n ++ several_text format f ws n))

-- that of the line's verb or kernel
abbrev pub told_text : Format → List (List ℕ) → Form → List ℕ
told_text format ws f = cond (is_told format f (followed f ws)) (told_at format f ws (followed f ws)) []

abbrev pub told_texts : Format → List (List ℕ) → List Form → List ℕ
told_texts format ws fs = flat_map (told_text format ws) fs

-- the second word is the sign
abbrev pub is_operation : List (List ℕ) → Bool
is_operation ws = bytes_eq (slice_index_or ws 1 []) (codes "=")

abbrev pub begins_declaration : Format → List ℕ → Bool
begins_declaration format w = bytes_eq w (codes "space") || (bytes_eq w (codes "inst") || (bytes_eq w (codes "lock") || (bytes_eq w (codes "barrier") || (bytes_eq w (codes "data") && has_since Three format))))

abbrev pub is_declared : Format → List (List ℕ) → Bool
is_declared format ws = not (is_operation ws) && begins_declaration format (slice_index_or ws 0 [])

-- the number of the word that would tell what the line is, and the words that may stand there
abbrev pub key_place : List (List ℕ) → ℕ
key_place ws = cond (is_operation ws) (cond (is_task ws) 3 2) 0

abbrev pub vocabulary_of : List (List ℕ) → Vocabulary
vocabulary_of ws = cond (is_operation ws) (cond (is_task ws) Kernels Verbs) Starts

-- a text and a word, where something holds
abbrev pub where_text : Bool → List ℕ → List ℕ → List ℕ
where_text b t w = cond b (concat (t ∷ w ∷ codes "\n" ∷ [])) []

abbrev pub is_verb : Format → List ℕ → Bool
is_verb format w = list_any (bytes_eq w) (vocabulary_words format Verbs)

abbrev pub is_kernel : Format → List ℕ → Bool
is_kernel format w = list_any (bytes_eq w) (vocabulary_words format Kernels)

-- a verb or a kernel that stands in the place of the other, or with which the line begins
abbrev pub moved_text : Format → Vocabulary → List ℕ → List ℕ
moved_text format Starts w = where_text (is_verb format w) (codes "NAME = stands before ") w ++ where_text (is_kernel format w) (codes "NAME = task stands before ") w
moved_text format Verbs w = where_text (is_kernel format w) (codes "task stands before ") w
moved_text format Kernels w = where_text (is_verb format w) (codes "no task stands before ") w

abbrev pub has_sign : List ℕ → Bool
has_sign w = list_any (λ b. b == 61) w

-- the sign of an operation is joined to one of the first two words
abbrev pub joined_text : List (List ℕ) → List ℕ
joined_text ws = cond (is_operation ws) [] (cond (has_sign (slice_index_or ws 0 []) || has_sign (slice_index_or ws 1 [])) (codes "= is a word: one space stands on each side of it\n") [])

-- no line has this word in the place that tells what it is
abbrev pub unknown_text : Format → List (List ℕ) → List ℕ
unknown_text format ws =
    let key = slice_index_or ws (key_place ws) [] in
    let vocabulary = vocabulary_of ws in
    vocabulary_text format vocabulary ++ (nearest_text (nearest key (vocabulary_words format vocabulary)) ++ (moved_text format vocabulary key ++ joined_text ws))

-- the forms, and where there is none the nearest words
abbrev pub forms_text : Format → List (List ℕ) → List ℕ → List ℕ
forms_text format ws [] = unknown_text format ws
forms_text format ws (b ∷ bs) = b ∷ bs

abbrev pub words_text : Format → Bool → List (List ℕ) → List ℕ
words_text format below ws = cond (below && is_declared format ws) (codes "declarations stand above all operations\n") (forms_text format ws (told_texts format ws FORMS))

-- what no line has in it, and else the forms
abbrev pub syntax_text : Format → Bool → List ℕ → List (List ℕ) → List ℕ
syntax_text format below line ws = option_map_or blank_text (blank_in line ws) (words_text format below ws)

abbrev pub header_text : List ℕ → List (List ℕ) → List ℕ
header_text line ws = option_map_or blank_text (blank_in line ws) (first_text line)

abbrev pub reason_text : Format → Bool → Why → List ℕ → List (List ℕ) → List ℕ
reason_text format below why.Header line ws = header_text line ws
reason_text format below why.Syntax line ws = syntax_text format below line ws
reason_text format below why.Twice line ws = repeated_text ws
reason_text format below why.Rest line ws = rest_text line
reason_text format below _ line ws = []

-- what is told of a line of these words that is refused for this reason
abbrev pub advice : Format → Bool → Why → List ℕ → List (List ℕ) → List ℕ
advice format below reason line ws = cond (ends_with_return line) (blank_text Return) (reason_text format below reason line ws)
