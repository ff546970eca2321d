-- Why a text is refused.
use Rattle.std.specs.Prelude.{◌≢◌, ℕ, List}
use Rattle.graph_terms.specs.Graph.{GraphValue}
use Rattle.graph_meaning.specs.Rules.{Accepted}
use Rattle.graph_words.specs.Text.{GraphText}
use Rattle.graph_reader.specs.FirstFault.{FirstFault}
use Rattle.race_check.specs.Refusal.{IsRefusal, NamesLines}
use Rattle.race_check.specs.declared.checked.CheckRefusal.{CheckRefusal}
use Rattle.race_check.specs.declared.checked.CheckRefusal.TheVariants as rule
use Rattle.graph_answers.specs.Status.{exit_number}
use Rattle.graph_answers.specs.declared.status.Status.TheVariants as status
use Rattle.c_answers.specs.declared.reading.Refusal.{Refusal}
use Rattle.c_answers.specs.declared.reading.Refusal.TheVariants.{Unread, Unfit, NoMemory}

-- the number of a refusal: the exit status of the program for it
abbrev pub status_of : Refusal → ℕ
status_of (Unread n why) = exit_number status.Unread
status_of (Unfit why) = exit_number status.Unfit
status_of NoMemory = exit_number status.NoMemory

-- the bytes are the text of no graph, and this says why; want of memory says nothing
abbrev pub IsReadRefusal : List ℕ → Refusal → Type 0
IsReadRefusal bytes (Unread n why) = FirstFault bytes n why
IsReadRefusal bytes (Unfit why) = ⊥
IsReadRefusal bytes NoMemory = Unit {0}

-- the graph breaks this rule, after rules that hold, at these lines and at none before them
pub record Breaks (g : GraphValue) (why : CheckRefusal) : Type 0 where
  pub no_memory : why ≢ rule.NoMemory
  pub refused : IsRefusal g why
  pub lines : NamesLines g why
  pub broken : Accepted g → ⊥

-- the graph breaks a rule, and this says which; want of memory says nothing
abbrev pub IsRuleRefusal : GraphValue → Refusal → Type 0
IsRuleRefusal g (Unread n why) = ⊥
IsRuleRefusal g (Unfit why) = Breaks g why
IsRuleRefusal g NoMemory = Unit {0}

-- the bytes are the text of no graph, or that of a graph that breaks a rule, and this says why; want of memory says nothing
abbrev pub IsCheckRefusal : List ℕ → Refusal → Type 0
IsCheckRefusal bytes (Unread n why) = FirstFault bytes n why
IsCheckRefusal bytes (Unfit why) = (g : GraphValue) × GraphText bytes g × Breaks g why
IsCheckRefusal bytes NoMemory = Unit {0}
