-- What is told of a refused line, from the parts that are put one after the other.
use Rattle.std.proofs.Common.{◌≡◌, ℕ, List, ◌++◌, subst}
use Rattle.std.specs.Prelude.{Option, None, Result, Ok, Err, OnOk, MatchOption, option_map}
use Rattle.graph_terms.specs.declared.why.Why.{Why}
use Rattle.graph_terms.specs.Graph.{GraphValue}
use Rattle.refused_words.specs.Refused.{IsRefusedWord}
use Rattle.refused_words.specs.Ends.{IsEndedBy}
use Rattle.refused_words.specs.Limits.{quantity_value}
use Rattle.refused_words.specs.declared.limits.Quantity.{Quantity}
use Rattle.explain_text.specs.TextLines.{TextLines}
use Rattle.told_names.specs.Named.{given_names, names_text, space_text}
use Rattle.told_names.specs.declared.naming.NamedWord.{NamedWord}
use Rattle.explain_text.specs.Unread.{refused_text, limit_text, ended_text}
use Rattle.explain_top.specs.Answer.{IsMarkedText, most_names, AreNamed, TellsSpace, limit_for, refused_line, words_of, advice_text}
use Rattle.explain_top.specs.Columns.{columns_text}

-- what is found out about a line of these words
record Found (ls : TextLines) (number : ℕ) (reason : Why) (g : GraphValue) (mark : Option ℕ) (limit : Option Quantity) (ended : Option ℕ) (named : List NamedWord) (more : ℕ) (space : Option NamedWord) (ws : List (List ℕ)) : Type 0 where
  pub is_mark : IsRefusedWord g reason ws mark
  pub is_limit : option_map quantity_value limit ≡ limit_for g ws reason
  pub is_ended : MatchOption mark (ended ≡ None) (λ k. IsEndedBy g ws k ended)
  pub are_named : AreNamed g.format (given_names ls.lines) number ws reason (most_names ls ws) named more
  pub is_space : TellsSpace g.format ls.lines (given_names ls.lines) number ws reason mark space

-- and the text on it
abbrev pub marks : TextLines → ℕ → Why → GraphValue → Option ℕ → Option Quantity → Option ℕ → List NamedWord → ℕ → Option NamedWord → List (List ℕ) → List ℕ
marks ls number reason g mark limit ended named more space ws = refused_text reason number (refused_line ls.lines number) ws mark ++ (limit_text limit ++ (ended_text g ls ended ++ ((names_text ls.lines named more ++ space_text ls.lines space) ++ (columns_text g ws reason mark ++ advice_text g reason (refused_line ls.lines number) ws mark))))

marked_by : {X E : Type 0} (r : Result X E) (ls : TextLines) (number : ℕ) (reason : Why) (g : GraphValue) (old new : List ℕ) (mark : Option ℕ) (limit : Option Quantity) (ended : Option ℕ) (named : List NamedWord) (more : ℕ) (space : Option NamedWord)
    → Found ls number reason g mark limit ended named more space (words_of ls.lines number) → OnOk r (new ≡ old ++ marks ls number reason g mark limit ended named more space (words_of ls.lines number)) → OnOk r (IsMarkedText ls number reason g old new)
marked_by (Ok x) ls number reason g old new mark limit ended named more space f t = record { mark = mark; is_mark = f.is_mark; limit = limit; is_limit = f.is_limit; ended = ended; is_ended = f.is_ended; named = named; more = more; are_named = f.are_named; space = space; is_space = f.is_space; text = t }
marked_by (Err x) ls number reason g old new mark limit ended named more space f t = tt

pub marked : {X E : Type 0} (r : Result X E) (ls : TextLines) (number : ℕ) (reason : Why) (g : GraphValue) (old new : List ℕ) (mark : Option ℕ) (limit : Option Quantity) (ended : Option ℕ) (named : List NamedWord) (more : ℕ) (space : Option NamedWord) (ws : List (List ℕ))
    → ws ≡ words_of ls.lines number → IsRefusedWord g reason ws mark → option_map quantity_value limit ≡ limit_for g ws reason → MatchOption mark (ended ≡ None) (λ k. IsEndedBy g ws k ended)
    → AreNamed g.format (given_names ls.lines) number ws reason (most_names ls ws) named more → TellsSpace g.format ls.lines (given_names ls.lines) number ws reason mark space → OnOk r (new ≡ old ++ marks ls number reason g mark limit ended named more space ws) → OnOk r (IsMarkedText ls number reason g old new)
marked r ls number reason g old new mark limit ended named more space ws same m l e n s t = marked_by r ls number reason g old new mark limit ended named more space
    (subst (Found ls number reason g mark limit ended named more space) same (record { is_mark = m; is_limit = l; is_ended = e; are_named = n; is_space = s }))
    (subst (λ w. OnOk r (new ≡ old ++ marks ls number reason g mark limit ended named more space w)) same t)
