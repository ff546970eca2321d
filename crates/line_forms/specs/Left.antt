-- What is told of the word at which a line leaves a form.
use Rattle.std.specs.Prelude.{ℕ, ◌==◌, nat_lt, Bool, true, false, cond, ◌&&◌, List, [], codes}
use Rattle.std.specs.Str.{bytes_eq}
use Rattle.graph_terms.specs.declared.format.Format.{Format}
use Rattle.graph_terms.specs.declared.format.Format.TheVariants.{One}
use Rattle.line_forms.specs.declared.form.Form.{Form}
use Rattle.line_forms.specs.declared.form.Form.TheVariants as forms
use Rattle.graph_words.specs.Calls.{begins_with_digit}

-- a text where something holds, and else none
abbrev pub one_if : Bool → List ℕ → List ℕ
one_if b t = cond b t []

abbrev pub is_first : Format → Bool
is_first One = true
is_first _ = false

-- by its number from 0
abbrev pub left_text : Format → Form → ℕ → List ℕ → List ℕ
left_text format forms.Space n w = one_if (n == 3) (codes "INTERVALS is one word: LOW..HIGH, or several with , between two and no space\n")
left_text format forms.Inst n w = one_if (n == 4) (codes "FIELDS is one word: one NAME or more, with , between two and no space\n")
left_text format forms.Data n w = one_if (n == 4) (codes "FIELDS is one word: one NAME or more, with , between two and no space\n")
left_text format forms.Barrier n w = one_if (n == 3) (codes "OP is sum, min or max\n")
left_text format forms.Reduce n w = one_if (n == 3) (codes "OP is sum, min or max\n")
left_text format forms.User n w = one_if ((n == 3) && bytes_eq w (codes "on")) (codes "a user event takes no on: the line that triggers or cancels it may\n")
left_text format forms.Phase n w = one_if ((n == 4) && bytes_eq w (codes "on")) (codes "a phase takes no on: the lines that arrive at it may\n")
left_text format forms.Arrive n w = one_if (is_first format && ((n == 5) && bytes_eq w (codes "times"))) (codes "times is of format 2: a text that begins with realm 2 has it\n")
left_text format forms.Acquire n w = one_if (is_first format && ((n == 4) && bytes_eq w (codes "shared"))) (codes "shared is of format 2: a text that begins with realm 2 has it\n")
left_text format forms.Call n w = one_if (nat_lt 3 n && begins_with_digit w) (codes "VALUEs stand right behind WORD, and at most 4 of them\n")
left_text format _ n w = []
