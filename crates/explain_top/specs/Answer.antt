-- What is answered to the bytes of an input.
use Rattle.std.specs.Prelude.{◌≡◌, ◌≢◌, ℕ, ◌-◌, ◌<◌, ◌≤◌, ◌↔◌, Bool, true, false, cond, nat_lt, List, [], ◌++◌, length, take, codes, map, Contains, Option, Some, None, IfSome, IsSome, MatchOption, option_map}
use Rattle.basics.specs.Lists.{numbers_below}
use Rattle.std.specs.List.{slice_index_or, list_all}
use Rattle.graph_terms.specs.declared.format.Format.{Format}
use Rattle.graph_terms.specs.declared.format.Format.TheVariants.{One}
use Rattle.graph_terms.specs.declared.why.Why.{Why}
use Rattle.graph_terms.specs.declared.why.Why.TheVariants as reasons
use Rattle.graph_terms.specs.declared.outcome.End.{End}
use Rattle.graph_terms.specs.declared.outcome.End.TheVariants.{Cancelled}
use Rattle.graph_terms.specs.Graph.{GraphValue}
use Rattle.graph_terms.specs.Edges.{edges}
use Rattle.checked_graph.specs.Checked.{CheckedValue}
use Rattle.graph_meaning.specs.Evaluation.{eval_end}
use Rattle.graph_meaning.specs.Need.{IsNeed}
use Rattle.graph_meaning.specs.Path.{Reached}
use Rattle.graph_meaning.specs.Rules.{Accepted}
use Rattle.graph_reader.specs.Reading.{IsUnreadBy}
use Rattle.graph_words.specs.Text.{GraphText}
use Rattle.graph_words.specs.Words.{pieces}
use Rattle.slot_need.specs.NeedLine.{IsNeedLine}
use Rattle.race_check.specs.Refusal.{IsRefusal}
use Rattle.race_check.specs.declared.checked.CheckRefusal.{CheckRefusal}
use Rattle.explanations.specs.Reaches.{reach_at, IsReached, AreLinked, IsNever, IsFault, fault_edges}
use Rattle.explanations.specs.declared.reaches.Reach.{Reach}
use Rattle.explain_graph.specs.Explanation.{IsExplanation}
use Rattle.explain_graph.specs.Ways.{AreLongest}
use Rattle.explain_graph.specs.declared.explanation.Explanation.{Explanation}
use Rattle.explain_graph.specs.declared.ways.Way.{Way}
use Rattle.explain_text.specs.Accepted.{need_text, need_line_text, each_text, waiting_text, cancelled_text, ways_text}
use Rattle.explain_text.specs.declared.bounds.TheConstants.{MAX_NAMES, MAX_ANSWER, MAX_WHOLE}
use Rattle.told_names.specs.Named.{IsNamedWord, given_names, told_word, once_words, space_word, names_text, space_text}
use Rattle.told_names.specs.declared.naming.NamedWord.{NamedWord}
use Rattle.explain_text.specs.TextLines.{TextLines}
use Rattle.explain_text.specs.Visible.{is_plain, visible}
use Rattle.explain_text.specs.Unread.{unread_text, mark_text, refused_text, limit_text, ended_text}
use Rattle.line_forms.specs.Advice.{advice}
use Rattle.word_forms.specs.Marked.{word_advice}
use Rattle.refusal_text.specs.Refused.{explanation_text}
use Rattle.refused_words.specs.Refused.{IsRefusedWord}
use Rattle.refused_words.specs.Ends.{IsEndedBy}
use Rattle.refused_words.specs.Limits.{QuantityValue, quantity_value, limit_of}
use Rattle.refused_words.specs.declared.limits.Quantity.{Quantity}
use Rattle.explain_top.specs.Columns.{columns_text}
use Rattle.explain_top.specs.declared.answer.Verdict.{Verdict}
use Rattle.explain_top.specs.declared.answer.Verdict.TheVariants as verdict

-- how the lines that wait are reached: from the nearest line that never comes, each by one that is reached so too, and no others
pub record AreWaiting (g : GraphValue) (reaches : List (Option Reach)) : Type 0 where
  pub size : length reaches ≡ length g.lines
  pub reached : (i : ℕ) (m : Reach) → reach_at reaches i ≡ Some m → IsReached (edges g) (IsNever g) i m
  pub linked : AreLinked (edges g) reaches
  pub exact : (i : ℕ) → i < length g.lines → IsSome (reach_at reaches i) ↔ Reached g i

-- how the lines that are cancelled are reached: from the nearest line that begins a fault, by edges that cancel, and no others
pub record AreCancelled (g : GraphValue) (ends : List End) (reaches : List (Option Reach)) : Type 0 where
  pub ends_are : ends ≡ map (eval_end g) (numbers_below (length g.lines))
  pub size : length reaches ≡ length g.lines
  pub reached : (i : ℕ) (m : Reach) → reach_at reaches i ≡ Some m → IsReached (fault_edges g ends) (IsFault g ends) i m
  pub linked : AreLinked (fault_edges g ends) reaches
  pub exact : (i : ℕ) → i < length g.lines → (eval_end g i ≡ Cancelled) ↔ ((m : Reach) × (reach_at reaches i ≡ Some m) × (m.by ≢ None))

-- a text with what is told of the lines that wait, of those that are cancelled, and of these where it is asked for
pub record IsWaitingText (g : GraphValue) (ls : TextLines) (old new : List ℕ) : Type 0 where
  pub reaches : List (Option Reach)
  pub ways : List Way
  pub are_waiting : AreWaiting g reaches
  pub are_ways : AreLongest reaches ways
  pub text : new ≡ old ++ (each_text (waiting_text g ls) 0 reaches ++ ways_text g ls ways)

pub record IsCancelledText (g : GraphValue) (ls : TextLines) (old new : List ℕ) : Type 0 where
  pub ends : List End
  pub reaches : List (Option Reach)
  pub ways : List Way
  pub are_cancelled : AreCancelled g ends reaches
  pub are_ways : AreLongest reaches ways
  pub text : new ≡ old ++ (each_text (cancelled_text g ls ends) 0 reaches ++ ways_text g ls ways)

abbrev pub IsEndsText : Bool → GraphValue → TextLines → List ℕ → List ℕ → Type 0
IsEndsText false g ls old new = new ≡ old
IsEndsText true g ls old new = IsCancelledText g ls old new

-- the text on an accepted graph: its need with the line at which that is reached, where there are lines, and what is told of these
abbrev pub IsAcceptedText : Bool → CheckedValue → TextLines → List ℕ → Type 0
IsAcceptedText ends c ls out =
    (line : Option ℕ) × MatchOption line (length c.graph.lines ≡ 0) (IsNeedLine c.graph c.need)
    × ((mid : List ℕ) × IsWaitingText c.graph ls (need_text c.need ++ need_line_text c.graph ls c.need line) mid × IsEndsText ends c.graph ls mid out)

-- the text on a graph that is refused so
abbrev pub IsUnfitText : GraphValue → CheckRefusal → TextLines → List ℕ → Type 0
IsUnfitText g why ls out = (x : Explanation) × IsExplanation g why x × (out ≡ explanation_text g ls x)

-- whether a reason refuses no single word of any line
abbrev pub speaks_of_none : Why → Bool
speaks_of_none reasons.Header = true
speaks_of_none reasons.Syntax = true
speaks_of_none reasons.Limit = true
speaks_of_none reasons.Missing = true
speaks_of_none reasons.Rest = true
speaks_of_none _ = false

-- whether a reason speaks of names
abbrev pub tells_names : Why → Bool
tells_names reasons.Twice = true
tells_names reasons.Unknown = true
tells_names reasons.Kind = true
tells_names reasons.Outside = true
tells_names reasons.Meets = true
tells_names reasons.Arrivals = true
tells_names _ = false

-- the names that words of line `number` stand for, each once, where the reason speaks of names, by the names that lines give
abbrev pub names_for : Format → List (List ℕ) → ℕ → List (List ℕ) → Why → List (List ℕ)
names_for format given number ws reason = cond (tells_names reason) (once_words (told_word format given number ws) (length ws)) []

-- how many of the names of words are told at most
abbrev pub most_names : TextLines → List (List ℕ) → ℕ
most_names ls ws = cond ls.all (length ws) MAX_NAMES

-- the first of them, each with the lines that give it, and how many more there are
pub record AreNamed (format : Format) (given : List (List ℕ)) (number : ℕ) (ws : List (List ℕ)) (reason : Why) (most : ℕ) (named : List NamedWord) (more : ℕ) : Type 0 where
  pub words_are : map (λ (x : NamedWord). x.word.now) named ≡ take most (names_for format given number ws reason)
  pub more_is : more ≡ length (names_for format given number ws reason) - most
  pub each : (x : NamedWord) → Contains named x → IsNamedWord given number x

-- for Outside, the space over which the instance of the column is declared that is refused, or the data
abbrev pub space_for : Format → List (List ℕ) → List (List ℕ) → ℕ → List (List ℕ) → Why → Option ℕ → Option (List ℕ)
space_for format ls given number ws reasons.Outside (Some k) = space_word format ls given number ws k
space_for format ls given number ws _ mark = None

-- that space, where it is told, with the lines that give it
pub record TellsSpace (format : Format) (ls : List (List ℕ)) (given : List (List ℕ)) (number : ℕ) (ws : List (List ℕ)) (reason : Why) (mark : Option ℕ) (space : Option NamedWord) : Type 0 where
  pub word_is : option_map (λ (x : NamedWord). x.word.now) space ≡ space_for format ls given number ws reason mark
  pub named : IfSome space (IsNamedWord given number)

-- for Limit, what the line of these words brings above its bound
abbrev pub limit_for : GraphValue → List (List ℕ) → Why → Option QuantityValue
limit_for g ws reasons.Limit = limit_of g ws
limit_for g ws _ = None

-- line `number`, and its words
abbrev pub refused_line : List (List ℕ) → ℕ → List ℕ
refused_line ls number = slice_index_or ls (number - 1) []

abbrev pub words_of : List (List ℕ) → ℕ → List (List ℕ)
words_of ls number = pieces 32 (refused_line ls number)

-- what the form of a line of these words tells that is refused behind a graph
abbrev pub advice_text : GraphValue → Why → List ℕ → List (List ℕ) → Option ℕ → List ℕ
advice_text g reason line ws mark = advice g.format (nat_lt 0 (length g.lines)) reason line ws ++ word_advice g.format reason line ws mark

-- of a line above which no graph is: that the whole line is refused, and what its form tells
abbrev pub first_text : List (List ℕ) → ℕ → Why → List ℕ
first_text ls number reason = mark_text number [] [] None ++ advice One false reason (refused_line ls number) (words_of ls number)

-- a text with what is told of a line that is refused behind a graph: the word that is, or that the whole line is, or for Missing that the text ends there; for Limit the first quantity that the line brings above its bound; the line that has done already what it would do; the names; for Outside the space of the column that is refused; of a column the fields that there are for Unknown, of which kind it is for Kind, and for Meets how accesses may meet; and what the form of the line tells
pub record IsMarkedText (ls : TextLines) (number : ℕ) (reason : Why) (g : GraphValue) (old new : List ℕ) : Type 0 where
  pub mark : Option ℕ
  pub is_mark : IsRefusedWord g reason (words_of ls.lines number) mark
  pub limit : Option Quantity
  pub is_limit : option_map quantity_value limit ≡ limit_for g (words_of ls.lines number) reason
  pub ended : Option ℕ
  pub is_ended : MatchOption mark (ended ≡ None) (λ k. IsEndedBy g (words_of ls.lines number) k ended)
  pub named : List NamedWord
  pub more : ℕ
  pub are_named : AreNamed g.format (given_names ls.lines) number (words_of ls.lines number) reason (most_names ls (words_of ls.lines number)) named more
  pub space : Option NamedWord
  pub is_space : TellsSpace g.format ls.lines (given_names ls.lines) number (words_of ls.lines number) reason mark space
  pub text : new ≡ old ++ (refused_text reason number (refused_line ls.lines number) (words_of ls.lines number) mark ++ (limit_text limit ++ (ended_text g ls ended ++ ((names_text ls.lines named more ++ space_text ls.lines space) ++ (columns_text g (words_of ls.lines number) reason mark ++ advice_text g reason (refused_line ls.lines number) (words_of ls.lines number) mark)))))

-- the text on a refused line, behind the graph of the lines above it where it is between the first line and the closing one
abbrev pub IsUnreadText : TextLines → ℕ → Why → Option GraphValue → List ℕ → Type 0
IsUnreadText ls number reason None out = out ≡ unread_text ls.lines number reason ++ first_text ls.lines number reason
IsUnreadText ls number reason (Some g) out = IsMarkedText ls number reason g (unread_text ls.lines number reason) out

-- the lines of these bytes, and whether all is asked for
abbrev pub asked : Bool → List ℕ → TextLines
asked all bytes = record { bytes = bytes; lines = pieces 10 bytes; all = all }

-- the bytes are the text of an accepted graph with this need, and the answer is its text
pub record IsAcceptedAnswer (ends all : Bool) (bytes out : List ℕ) : Type 0 where
  pub checked : CheckedValue
  pub is_text : GraphText bytes checked.graph
  pub accepted : Accepted checked.graph
  pub need : IsNeed checked.graph checked.need
  pub text : IsAcceptedText ends checked (asked all bytes) out

-- the bytes are the text of a graph that is refused so, and the answer explains just this refusal
pub record IsUnfitAnswer (all : Bool) (bytes out : List ℕ) : Type 0 where
  pub graph : GraphValue
  pub why : CheckRefusal
  pub is_text : GraphText bytes graph
  pub refused : IsRefusal graph why
  pub broken : Accepted graph → ⊥
  pub text : IsUnfitText graph why (asked all bytes) out

-- the bytes are the text of no graph, and the answer tells the first refused line with its first reason, and behind which graph that is
pub record IsUnreadAnswer (all : Bool) (bytes out : List ℕ) : Type 0 where
  pub number : ℕ
  pub why : Why
  pub above : Option GraphValue
  pub refused : IsUnreadBy bytes number why above
  pub text : IsUnreadText (asked all bytes) number why above out

abbrev pub IsWholeAnswer : Bool → Bool → List ℕ → Verdict → List ℕ → Type 0
IsWholeAnswer ends all bytes verdict.Accepted whole = IsAcceptedAnswer ends all bytes whole
IsWholeAnswer ends all bytes verdict.Unfit whole = IsUnfitAnswer all bytes whole
IsWholeAnswer ends all bytes verdict.Unread whole = IsUnreadAnswer all bytes whole

-- how many bytes an answer has at most
abbrev pub most_bytes : Bool → ℕ
most_bytes all = cond all MAX_WHOLE MAX_ANSWER

-- an answer as it is told: of a long one the front, and a line `..`
abbrev pub told : ℕ → List ℕ → List ℕ
told most whole = cond (nat_lt most (length whole)) (take (most - 4) whole ++ codes "\n..\n") whole

-- what is told of the answer to these bytes, as it is written: in so many bytes at most, each of which is printable or a newline
pub record IsAnswerIn (ends all : Bool) (bytes : List ℕ) (verdict : Verdict) (out : List ℕ) : Type 0 where
  pub whole : List ℕ
  pub answers : IsWholeAnswer ends all bytes verdict whole
  pub is_told : out ≡ told (most_bytes all) (visible whole)
  pub few : length out ≤ most_bytes all
  pub plain : list_all is_plain out ≡ true

-- the same where not all is asked for: 65,536 bytes at most
abbrev pub IsAnswer : Bool → List ℕ → Verdict → List ℕ → Type 0
IsAnswer ends bytes verdict out = IsAnswerIn ends false bytes verdict out
