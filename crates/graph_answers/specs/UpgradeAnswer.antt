-- What `upgrade` is to answer, and what it is to write.
use Rattle.std.specs.Prelude.{◌≡◌, ℕ, ◌<◌, ◌≤◌, Bool, true, false, List, length}
use Rattle.graph_terms.specs.declared.format.Format.TheVariants.{Three}
use Rattle.graph_terms.specs.Graph.{GraphValue, written_in, upgraded}
use Rattle.graph_words.specs.Limits.{text_limit}
use Rattle.graph_words.specs.Text.{GraphText, text}
use Rattle.realm_io.specs.SinkState.{SinkState}
use Rattle.graph_answers.specs.declared.status.Status.{Status}
use Rattle.graph_answers.specs.declared.status.Status.TheVariants.{Done, Unread, TooLong}
use Rattle.program_io.specs.Delivered.{Delivered, too_long_text}
use Rattle.graph_answers.specs.Refused.{IsRefused}

-- the graph that is written: that in format 3 where this is asked for
abbrev pub upgrade_of : Bool → GraphValue → GraphValue
upgrade_of true g = written_in Three g
upgrade_of false g = upgraded g

-- the answer to an input of these bytes, and the text that goes with it: the text of the graph in a later format, whether or not it is accepted
abbrev pub UpgradeAnswers : Bool → List ℕ → Status → List ℕ → Type 0
UpgradeAnswers to_three bytes Done out = (length bytes ≤ text_limit bytes) × ((g : GraphValue) × GraphText bytes g × (out ≡ text (upgrade_of to_three g)))
UpgradeAnswers to_three bytes Unread out = (length bytes ≤ text_limit bytes) × IsRefused bytes out
UpgradeAnswers to_three bytes TooLong out = (text_limit bytes < length bytes) × (out ≡ too_long_text)
UpgradeAnswers to_three bytes _ out = ⊥

-- the status that an input of these bytes asks for
abbrev pub UpgradeAsks : List ℕ → Status → Type 0
UpgradeAsks bytes Done = (length bytes ≤ text_limit bytes) × ((g : GraphValue) × GraphText bytes g)
UpgradeAsks bytes Unread = (length bytes ≤ text_limit bytes) × ((g : GraphValue) → GraphText bytes g → ⊥)
UpgradeAsks bytes TooLong = text_limit bytes < length bytes
UpgradeAsks bytes _ = ⊥

-- an upgrade was done with these bytes: they are the one text of a graph, and its text in a later format, in format 3 where that is asked for, was written and flushed
pub record IsUpgraded (to_three : Bool) (bytes : List ℕ) (old new : SinkState) : Type 0 where
  pub graph : GraphValue
  pub text_is : GraphText bytes graph
  pub delivered : Delivered old new (text (upgrade_of to_three graph))
