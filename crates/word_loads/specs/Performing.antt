-- What performing a line makes of what it holds.
use Rattle.std.specs.Prelude.{◌≡◌, ◌≢◌, ℕ, List, None}
use Rattle.graph_terms.specs.declared.outcome.End.{End}
use Rattle.graph_terms.specs.declared.outcome.End.TheVariants.{Cancelled}
use Rattle.graph_terms.specs.Graph.{GraphValue}
use Rattle.graph_meaning.specs.Evaluation.{eval_end}
use Rattle.word_steps.specs.declared.content.Content.{Content}
use Rattle.word_steps.specs.declared.view.View.{View}
use Rattle.word_steps.specs.Claims.{Claim}
use Rattle.word_steps.specs.Plays.{Sat}
use Rattle.word_loads.specs.declared.loads.Load.{Load}
use Rattle.word_loads.specs.Laden.{Loaded, Laden}

-- a line that held its columns as the lines before left them has the end of the evaluation, x, and holds them as it leaves them
abbrev pub LeavesLaden : GraphValue → ℕ → End → Load → Load → Type 0
LeavesLaden g line x old new = (v : View) (cl : Claim) (left : List (ℕ × Content)) (m : Sat) → Loaded g line v cl left m old.held old.numbers
    → cl.line ≡ line → cl.ends ≡ None → (eval_end g line ≡ x) × (x ≢ Cancelled) × Laden g line 3 v cl left m new.held new.numbers
