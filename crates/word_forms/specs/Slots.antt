-- What kind of word stands in each place of a form, and how words of that kind are spelled.
use Rattle.std.specs.Prelude.{ℕ, Bool, false, ◌&&◌, ◌||◌, nat_lt, nat_le, cond, List, [], take, drop, codes, Option, Some, None}
use Rattle.std.specs.List.{slice_index_or}
use Rattle.std.specs.Str.{bytes_eq}
use Rattle.graph_terms.specs.declared.format.Format.{Format}
use Rattle.graph_terms.specs.declared.format.Format.TheVariants.{Three}
use Rattle.graph_terms.specs.declared.why.Why.{Why}
use Rattle.graph_terms.specs.declared.why.Why.TheVariants as why
use Rattle.graph_words.specs.Words.{pieces}
use Rattle.line_forms.specs.declared.form.Form.{Form}
use Rattle.line_forms.specs.declared.form.Form.TheVariants as forms
use Rattle.line_forms.specs.declared.calls.Expected.{Expected}
use Rattle.line_forms.specs.declared.calls.Expected.TheVariants as expected
use Rattle.graph_words.specs.Calls.{begins_with_digit}
use Rattle.line_forms.specs.Calls.{expected_behind}
use Rattle.word_forms.specs.declared.slot.Slot.{Slot}
use Rattle.word_forms.specs.declared.slot.Slot.TheVariants as slots
use Rattle.line_forms.specs.Forms.{form_text, form_words, takes_many, takes_several}

-- of a word of a form that stands for a name, or for itself
abbrev pub name_slot : List ℕ → Slot
name_slot item =
    cond (bytes_eq item (codes "NAME")) slots.Name
    (cond (bytes_eq item (codes "SPACE")) slots.Space
    (cond (bytes_eq item (codes "WORD")) slots.Word
    (cond (bytes_eq item (codes "USER")) slots.User
    (cond (bytes_eq item (codes "PHASE")) slots.Phase
    (cond (bytes_eq item (codes "ACQUIRE")) slots.Acquire
    (cond (bytes_eq item (codes "LOCK")) slots.Lock
    (cond (bytes_eq item (codes "BARRIER")) slots.Barrier
    (cond (bytes_eq item (codes "EVENT]")) slots.Event slots.Fixed))))))))

-- what kind of word a word of a form stands for
abbrev pub slot_of : List ℕ → Slot
slot_of item =
    cond (bytes_eq item (codes "COLUMN")) slots.Column
    (cond (bytes_eq item (codes "FIELDS")) slots.Fields
    (cond (bytes_eq item (codes "INTERVALS")) slots.Intervals
    (cond (bytes_eq item (codes "COUNT")) slots.Count
    (cond (bytes_eq item (codes "VALUE")) slots.Value
    (cond (bytes_eq item (codes "WEIGHT")) slots.Weight (name_slot item))))))

-- events alone stand from word k of a form on, from 0: behind the verb of a merge, and behind a first event of which the format takes several
abbrev pub has_events : Format → Form → ℕ → Bool
has_events format f k = (takes_many f && nat_lt 2 k) || (takes_several format f && nat_le (form_words f) k)

-- what kind of word a word of a call stands for, by what may stand there behind others
abbrev pub call_slot : Option Expected → List ℕ → Slot
call_slot None w = slots.Fixed
call_slot (Some (expected.Value n)) w = cond (begins_with_digit w) slots.Value slots.Fixed
call_slot (Some expected.Access) w = slots.Fixed
call_slot (Some expected.Column) w = slots.Data
call_slot (Some expected.Space) w = slots.Space
call_slot (Some expected.Event) w = slots.Event

-- what kind of word stands at number k of a line of a form, from 0, by the words of the form
abbrev pub form_slot : Format → Form → ℕ → Slot
form_slot format f k = cond (has_events format f k) slots.Event (slot_of (slice_index_or (pieces 32 (form_text f)) k []))

-- word k of a line of a form stands behind the word of a call
abbrev pub is_behind_word : Form → ℕ → Bool
is_behind_word forms.Call k = nat_lt 3 k
is_behind_word f k = false

-- the same, behind the word of a call by the words of the line
abbrev pub slot_at : Format → Form → List (List ℕ) → ℕ → Slot
slot_at format f ws k = cond (is_behind_word f k) (call_slot (expected_behind (expected.Value 0) (drop 4 (take k ws))) (slice_index_or ws k [])) (form_slot format f k)

abbrev pub slot_word : Slot → List ℕ
slot_word slots.Name = codes "NAME"
slot_word slots.Space = codes "SPACE"
slot_word slots.Fields = codes "FIELDS"
slot_word slots.Intervals = codes "INTERVALS"
slot_word slots.Count = codes "COUNT"
slot_word slots.Value = codes "VALUE"
slot_word slots.Weight = codes "WEIGHT"
slot_word slots.Column = codes "COLUMN"
slot_word slots.Data = codes "COLUMN"
slot_word slots.Word = codes "WORD"
slot_word slots.User = codes "USER"
slot_word slots.Phase = codes "PHASE"
slot_word slots.Acquire = codes "ACQUIRE"
slot_word slots.Lock = codes "LOCK"
slot_word slots.Barrier = codes "BARRIER"
slot_word slots.Event = codes "EVENT"
slot_word slots.Fixed = codes "a fixed word"

-- what is told of a word of this kind that is misspelled
abbrev pub name_note : Slot → List ℕ
name_note slots.Name = codes "the name that the line gives"
name_note slots.Fields = codes "one NAME or more, with , between two and no space"
name_note slots.Column = codes "INSTANCE.FIELD, two NAMEs with one . between them"
name_note slots.Data = codes "DATA.FIELD, two NAMEs with one . between them"
name_note _ = codes "a NAME"

-- of the arrivals of a phase, and of what one arrival counts for
abbrev pub count_note : Format → List ℕ
count_note Three = codes "a number from 1 to 65536, in digits, with no 0 in front"
count_note _ = codes "a number from 1 to 8192, in digits, with no 0 in front"

abbrev pub weight_note : Format → List ℕ
weight_note Three = codes "a number from 2 to 65536, in digits, with no 0 in front; an arrival that counts for one has no times"
weight_note _ = codes "a number from 2 to 8192, in digits, with no 0 in front; an arrival that counts for one has no times"

-- of one that is no number of its range
abbrev pub number_note : Format → Slot → List ℕ
number_note format slots.Intervals = codes "LOW..HIGH, or several with , between two and no space; LOW and HIGH are numbers from 0 to 4294967295, in digits, with no 0 in front"
number_note format slots.Count = count_note format
number_note format slots.Weight = weight_note format
number_note format slots.Value = codes "a number from 0 to 18446744073709551615, in digits, with no sign, no point and no 0 in front"
number_note format _ = []

-- of one that names something else than its place takes
abbrev pub kind_note : Slot → List ℕ
kind_note slots.Space = codes "the NAME of a space: space NAME INTERVALS"
kind_note slots.Column = codes "INSTANCE.FIELD, of an instance: inst NAME SPACE FIELDS"
kind_note slots.Data = codes "DATA.FIELD, of data: data NAME SPACE FIELDS"
kind_note slots.User = codes "the NAME of a user event: NAME = user"
kind_note slots.Phase = codes "the NAME of a phase: NAME = phase BARRIER"
kind_note slots.Acquire = codes "the NAME of an acquire: NAME = acquire LOCK"
kind_note slots.Lock = codes "the NAME of a reservation: lock NAME"
kind_note slots.Barrier = codes "the NAME of a barrier: barrier NAME COUNT OP VALUE"
kind_note slots.Event = codes "the NAME of an operation: NAME = .."
kind_note _ = []

abbrev pub note_of : Format → Why → Slot → List ℕ
note_of format why.Name slot = name_note slot
note_of format why.Number slot = number_note format slot
note_of format why.Kind slot = kind_note slot
note_of format _ slot = []
