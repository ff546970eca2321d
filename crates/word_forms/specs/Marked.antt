-- What is told of a word that is refused.
use Rattle.std.specs.Prelude.{ℕ, ◌+◌, ◌==◌, Bool, true, false, cond, not, ◌&&◌, ◌||◌, List, [], ◌++◌, length, take, flat_map, codes, decimal, Option, Some, None}
use Rattle.std.specs.List.{list_all, slice_index_or}
use Rattle.std.specs.Str.{bytes_eq}
use Rattle.graph_terms.specs.declared.format.Format.{Format}
use Rattle.graph_terms.specs.declared.why.Why.{Why}
use Rattle.graph_terms.specs.declared.why.Why.TheVariants as why
use Rattle.graph_terms.specs.declared.format.Format.TheVariants.{Three}
use Rattle.graph_terms.specs.Name.{is_name_in}
use Rattle.graph_words.specs.Words.{pieces}
use Rattle.line_forms.specs.declared.blanks.Blank.TheVariants.{Tab}
use Rattle.line_forms.specs.declared.form.Form.{Form}
use Rattle.line_forms.specs.declared.form.TheConstants.{FORMS}
use Rattle.word_forms.specs.declared.slot.Slot.{Slot}
use Rattle.word_forms.specs.declared.slot.Slot.TheVariants as slots
use Rattle.line_forms.specs.Blanks.{has_tab, ends_with_return, blank_text}
use Rattle.line_forms.specs.Forms.{form_words, takes_on, takes_many, takes_several, followed, is_told}
use Rattle.line_forms.specs.Hint.{merge_lines}
use Rattle.word_forms.specs.Order.{intervals_text}
use Rattle.word_forms.specs.Slots.{slot_at, slot_word, note_of}

-- a note on the word of this number, from 1
abbrev pub slot_text : Slot → List ℕ
slot_text slot = codes " has to be " ++ (slot_word slot ++ codes ": ")

abbrev pub note_line : Slot → ℕ → List ℕ → List ℕ
note_line slot number note = codes "word " ++ (decimal number ++ (slot_text slot ++ (note ++ codes "\n")))

-- the same on the word behind so many words, where there is one
abbrev pub noted_text : Slot → ℕ → List ℕ → List ℕ
noted_text slot before note = cond (length note == 0) [] (note_line slot (before + 1) note)

-- what kind of word stands at number k of the form, from 0, and how it is spelled
abbrev pub note_text : Format → Why → Form → List (List ℕ) → ℕ → List ℕ
note_text format reason f ws k = noted_text (slot_at format f ws k) (length (take k ws)) (note_of format reason (slot_at format f ws k))

-- how names are spelled
abbrev pub name_rule : Format → List ℕ
name_rule Three = codes "a NAME is 1 to 63 of a-z, A-Z, 0-9 and _, no digit first\n"
name_rule _ = codes "a NAME is 1 to 31 of a-z, 0-9 and _, a letter first\n"

-- parts that are names of format 3, and not all of this format
abbrev pub is_later : Format → List (List ℕ) → Bool
is_later format ws = not (list_all (is_name_in format) ws) && list_all (is_name_in Three) ws

-- what stands between the names that a word of this kind has; no word has a space in it
abbrev pub separator : Slot → ℕ
separator slots.Column = 46
separator slots.Data = 46
separator slots.Fields = 44
separator _ = 32

abbrev pub later_text : Format → Form → List (List ℕ) → ℕ → List ℕ
later_text format f ws k = cond (is_later format (pieces (separator (slot_at format f ws k)) (slice_index_or ws k []))) (codes "format 3 has such names\n") []

abbrev pub is_event : Slot → Bool
is_event slots.Event = true
is_event _ = false

-- what to write for events behind these words, with commas between them: the two lines with a merge, and where several may stand a space for a comma
abbrev pub events_text : Format → Form → List (List ℕ) → List (List ℕ) → List ℕ
events_text format f ws events = cond (takes_on f && not (takes_several format f)) (merge_lines f ws events) (codes "one space stands between two events\n")

abbrev pub comma_text : Format → Form → List (List ℕ) → ℕ → List ℕ
comma_text format f ws k = cond (is_event (slot_at format f ws k) && list_all (is_name_in format) (pieces 44 (slice_index_or ws k []))) (events_text format f (take k ws) (pieces 44 (slice_index_or ws k []))) []

abbrev pub misnamed_text : Format → Form → List (List ℕ) → ℕ → List ℕ
misnamed_text format f ws k = note_text format why.Name f ws k ++ (name_rule format ++ (later_text format f ws k ++ comma_text format f ws k))

-- `on` among the events of a merge
abbrev pub merge_on_text : Form → List ℕ → List ℕ
merge_on_text f w = cond (takes_many f && bytes_eq w (codes "on")) (codes "a merge takes no on: it names that event among its own\n") []

-- what is told of word k of a line of the form
abbrev pub mark_text : Format → Why → Form → List (List ℕ) → ℕ → List ℕ
mark_text format why.Name f ws k = misnamed_text format f ws k
mark_text format why.Number f ws k = note_text format why.Number f ws k
mark_text format why.Kind f ws k = note_text format why.Kind f ws k
mark_text format why.Unknown f ws k = merge_on_text f (slice_index_or ws k [])
mark_text format why.Space f ws k = intervals_text (slice_index_or ws k [])
mark_text format _ f ws k = []

-- a line that follows a form to its end may have more events behind it
abbrev pub may_go_on : Format → Form → ℕ → Bool
may_go_on format f n = takes_many f || (takes_several format f && n == form_words f)

-- a line of so many words has the form, of which it follows n
abbrev pub is_marked : Format → Form → ℕ → ℕ → Bool
is_marked format f n count = is_told format f n && (may_go_on format f n || n == count)

abbrev pub form_mark : Format → Why → List (List ℕ) → ℕ → Form → List ℕ
form_mark format reason ws k f = cond (is_marked format f (followed f ws) (length ws)) (mark_text format reason f ws k) []

abbrev pub form_marks : Format → Why → List (List ℕ) → ℕ → List Form → List ℕ
form_marks format reason ws k fs = flat_map (form_mark format reason ws k) fs

-- what is told of the word of a line that is refused for this reason, where one is
abbrev pub marked_text : Format → Why → List ℕ → List (List ℕ) → Option ℕ → List ℕ
marked_text format reason line ws None = []
marked_text format reason line ws (Some k) = cond (has_tab line) (blank_text Tab) (form_marks format reason ws k FORMS)

-- the same, nothing where the line ends with a carriage return
abbrev pub word_advice : Format → Why → List ℕ → List (List ℕ) → Option ℕ → List ℕ
word_advice format reason line ws mark = cond (ends_with_return line) [] (marked_text format reason line ws mark)
