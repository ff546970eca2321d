-- Laws of what a request is to answer.
use Rattle.std.specs.Prelude.{◌≡◌, ℕ, List}
use Rattle.command_line.specs.declared.request.Request.{Request}
use Rattle.graph_terms.specs.Graph.{GraphValue}
use Rattle.graph_meaning.specs.Rules.{Accepted}
use Rattle.graph_words.specs.Text.{GraphText}
use Rattle.graph_answers.specs.Answer.{EndsByPaths}
use Rattle.graph_answers.specs.declared.status.Status.{Status}
use Rattle.realm_top.specs.Answer.{Answers, AsksStatus}

-- an answer to a request with these bytes has the status that they ask for
abbrev pub AnswersAreOne : Type 0
AnswersAreOne = (request : Request) (bytes : List ℕ) (s t : Status) (out : List ℕ) → Answers request bytes s out → AsksStatus request bytes t → s ≡ t

-- in the graph of a text that is the text of an accepted graph lines end by paths
abbrev pub PathsTellEnds : Type 0
PathsTellEnds = (bytes : List ℕ) (g : GraphValue) → GraphText bytes g → Accepted g → (h : GraphValue) → GraphText bytes h → EndsByPaths h
