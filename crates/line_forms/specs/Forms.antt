-- The forms of lines, and where a line leaves one.
use Rattle.std.specs.Prelude.{ℕ, ◌+◌, ◌-◌, ◌==◌, nat_le, Bool, true, false, cond, ◌&&◌, ◌||◌, List, [], ◌∷◌, length, take, drop, codes}
use Rattle.std.specs.Str.{bytes_eq}
use Rattle.graph_terms.specs.declared.format.Format.{Format}
use Rattle.graph_terms.specs.declared.format.Format.TheVariants.{One, Two, Three}
use Rattle.graph_words.specs.Words.{pieces}
use Rattle.graph_terms.specs.Format.{has_since}
use Rattle.line_forms.specs.declared.form.Form.{Form}
use Rattle.line_forms.specs.declared.form.Form.TheVariants as forms
use Rattle.line_forms.specs.declared.calls.Expected.TheVariants.{Value}
use Rattle.line_forms.specs.Calls.{follow_call}

-- the forms, each in the first format that has it: a word in capitals stands for any word of its kind, and what stands in brackets may be left out
abbrev pub form_text : Form → List ℕ
form_text forms.Space = codes "space NAME INTERVALS"
form_text forms.Inst = codes "inst NAME SPACE FIELDS"
form_text forms.Data = codes "data NAME SPACE FIELDS"
form_text forms.Lock = codes "lock NAME"
form_text forms.Barrier = codes "barrier NAME COUNT OP VALUE"
form_text forms.User = codes "NAME = user"
form_text forms.Trigger = codes "NAME = trigger USER [on EVENT]"
form_text forms.Cancel = codes "NAME = cancel USER [on EVENT]"
form_text forms.Merge = codes "NAME = merge EVENT ..."
form_text forms.MergeIgnore = codes "NAME = mergei EVENT ..."
form_text forms.Phase = codes "NAME = phase BARRIER"
form_text forms.Arrive = codes "NAME = arrive PHASE VALUE [on EVENT]"
form_text forms.ArriveTimes = codes "NAME = arrive PHASE VALUE times WEIGHT [on EVENT]"
form_text forms.Acquire = codes "NAME = acquire LOCK [on EVENT]"
form_text forms.AcquireShared = codes "NAME = acquire LOCK shared [on EVENT]"
form_text forms.Release = codes "NAME = release ACQUIRE [on EVENT]"
form_text forms.Fill = codes "NAME = fill COLUMN SPACE VALUE [on EVENT]"
form_text forms.Copy = codes "NAME = copy COLUMN COLUMN SPACE [on EVENT]"
form_text forms.Reduce = codes "NAME = reduce OP COLUMN COLUMN SPACE [on EVENT]"
form_text forms.Iota = codes "NAME = task iota COLUMN SPACE VALUE [on EVENT]"
form_text forms.Axpy = codes "NAME = task axpy COLUMN COLUMN SPACE VALUE [on EVENT]"
form_text forms.Stencil = codes "NAME = task stencil COLUMN COLUMN SPACE SPACE [on EVENT]"
form_text forms.Scan = codes "NAME = task scan COLUMN COLUMN SPACE [on EVENT]"
form_text forms.Hist = codes "NAME = task hist COLUMN COLUMN SPACE SPACE [on EVENT]"
form_text forms.Dot = codes "NAME = task dot COLUMN COLUMN COLUMN SPACE SPACE [on EVENT]"
form_text forms.Expect = codes "NAME = task expect COLUMN SPACE VALUE VALUE [on EVENT]"
form_text forms.Gather = codes "NAME = task gather COLUMN COLUMN COLUMN SPACE SPACE [on EVENT]"
form_text forms.Call = codes "NAME = call WORD [VALUE ...] [read|write|sum|min|max COLUMN SPACE ...] [on EVENT]"

-- the format that brought it
abbrev pub form_since : Form → Format
form_since forms.ArriveTimes = Two
form_since forms.AcquireShared = Two
form_since forms.Data = Three
form_since forms.Call = Three
form_since _ = One

-- how many words of a line tell that it is to have this form: up to its verb or its kernel
abbrev pub key_words : Form → ℕ
key_words forms.Space = 1
key_words forms.Inst = 1
key_words forms.Data = 1
key_words forms.Lock = 1
key_words forms.Barrier = 1
key_words forms.Iota = 4
key_words forms.Axpy = 4
key_words forms.Stencil = 4
key_words forms.Scan = 4
key_words forms.Hist = 4
key_words forms.Dot = 4
key_words forms.Expect = 4
key_words forms.Gather = 4
key_words _ = 3

-- a word of a form in capitals
abbrev pub is_capital : List ℕ → Bool
is_capital [] = false
is_capital (b ∷ bs) = nat_le 65 b && nat_le b 90

-- a word of a form without a bracket in front
abbrev pub bare : List ℕ → List ℕ
bare [] = []
bare (b ∷ bs) = cond (b == 91) bs (b ∷ bs)

abbrev pub is_op : List ℕ → Bool
is_op w = bytes_eq w (codes "sum") || (bytes_eq w (codes "min") || bytes_eq w (codes "max"))

-- a word of a line may stand where this word of a form does
abbrev pub fits : List ℕ → List ℕ → Bool
fits item w = cond (bytes_eq item (codes "OP")) (is_op w) (is_capital item || bytes_eq (bare item) w)

-- how many words of a line stand as in a form
abbrev pub follow : List (List ℕ) → List (List ℕ) → ℕ
follow [] ws = 0
follow (item ∷ items) [] = 0
follow (item ∷ items) (w ∷ ws) = cond (fits item w) (1 + follow items ws) 0

-- and with the words behind the word of a call, of which a line has the first n words
abbrev pub follow_on : Form → List (List ℕ) → ℕ → ℕ
follow_on forms.Call ws n = cond (nat_le 4 n) (4 + follow_call (Value 0) (drop 4 ws)) n
follow_on _ ws n = n

abbrev pub followed : Form → List (List ℕ) → ℕ
followed f ws = follow_on f ws (follow (pieces 32 (form_text f)) ws)

abbrev pub form_words : Form → ℕ
form_words f = length (pieces 32 (form_text f))

-- whether ` on EVENT` may stand at its end
abbrev pub takes_on : Form → Bool
takes_on forms.Space = false
takes_on forms.Inst = false
takes_on forms.Data = false
takes_on forms.Lock = false
takes_on forms.Barrier = false
takes_on forms.User = false
takes_on forms.Merge = false
takes_on forms.MergeIgnore = false
takes_on forms.Phase = false
takes_on _ = true

-- whether any number of events stand at its end
abbrev pub takes_many : Form → Bool
takes_many forms.Merge = true
takes_many forms.MergeIgnore = true
takes_many _ = false

-- whether several events may stand at its end behind `on`, which format 3 brought
abbrev pub takes_several : Format → Form → Bool
takes_several format f = has_since Three format && takes_on f

-- the form as a format has it, where more events may stand behind one: but for its end, and its end
abbrev pub shown_front : Format → Form → List ℕ
shown_front format f = cond (takes_several format f) (take (length (form_text f) - 1) (form_text f)) (form_text f)

abbrev pub shown_end : Format → Form → List ℕ
shown_end format f = cond (takes_several format f) (codes " ...]\n") (codes "\n")

-- the form is one of the format, and that of the line's verb or kernel
abbrev pub is_told : Format → Form → ℕ → Bool
is_told format f n = has_since (form_since f) format && nat_le (key_words f) n
