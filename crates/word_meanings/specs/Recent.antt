-- What the words that were last looked up name.
use Rattle.std.specs.Prelude.{◌≡◌, false}
use Rattle.graph_terms.specs.Graph.{GraphValue}
use Rattle.graph_words.specs.Words.{pieces}
use Rattle.word_meanings.specs.Lookups.{column_place}
use Rattle.word_meanings.specs.declared.recent.NamedColumn.{NamedColumn}
use Rattle.word_meanings.specs.declared.recent.Recent.{Recent}

-- a word with the column of an instance that it names
abbrev pub IsNamedColumn : GraphValue → NamedColumn → Type 0
IsNamedColumn g c = c.column ≡ column_place g false (pieces 46 c.word.now)

-- each of the words that were last looked up with the column that it names
abbrev pub IsRecent : GraphValue → Recent → Type 0
IsRecent g r = IsNamedColumn g r.last × IsNamedColumn g r.before
