-- How refusals of a text and of its graph go together.
use Rattle.std.proofs.Common.{ℕ, List, subst}
use Rattle.graph_terms.specs.declared.why.Why.{Why}
use Rattle.graph_terms.specs.Graph.{GraphValue}
use Rattle.graph_meaning.specs.Rules.{Accepted}
use Rattle.graph_reader.specs.FirstFault.{FirstFault}
use Rattle.graph_reader.specs.Laws.{OneReading}
use Rattle.graph_words.specs.Text.{GraphText}
use Rattle.c_answers.specs.Refusals.{IsReadRefusal, IsRuleRefusal, IsCheckRefusal}
use Rattle.c_answers.specs.declared.reading.Refusal.{Refusal}
use Rattle.c_answers.specs.declared.reading.Refusal.TheVariants.{Unread, Unfit, NoMemory}

-- a text that is refused as it is read
pub refused_as_read : (bytes : List ℕ) (r : Refusal) → IsReadRefusal bytes r → IsCheckRefusal bytes r
refused_as_read bytes (Unread n why) x = x
refused_as_read bytes (Unfit why) x = absurd x
refused_as_read bytes NoMemory x = tt

-- a text whose graph is refused
pub refused_as_judged : (bytes : List ℕ) (g : GraphValue) (r : Refusal) → GraphText bytes g → IsRuleRefusal g r → IsCheckRefusal bytes r
refused_as_judged bytes g (Unread n why) t x = absurd x
refused_as_judged bytes g (Unfit why) t x = (g, t, x)
refused_as_judged bytes g NoMemory t x = tt

-- a text with a first fault has no graph
pub no_graph : (bytes : List ℕ) → OneReading bytes → (n : ℕ) (why : Why) → FirstFault bytes n why → (g : GraphValue) → GraphText bytes g → ⊥
no_graph bytes one n why fault g t = one.not_both (g, t) (n, why, fault)

-- what holds where the graph of a text is accepted
pub by_its_graph : (bytes : List ℕ) → OneReading bytes → (g : GraphValue) → GraphText bytes g → {X : Type 0} → (Accepted g → X) → (h : GraphValue) → GraphText bytes h → Accepted h → X
by_its_graph bytes one g t f h u a = f (subst Accepted (one.one_graph h g u t) a)
