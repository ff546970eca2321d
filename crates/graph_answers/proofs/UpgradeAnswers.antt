-- What follows for the answers of `upgrade`.
use Rattle.std.proofs.Common.{◌≡◌, ℕ, ◌≤◌, Bool, List, length, refl, ap, inr}
use Rattle.graph_terms.specs.Graph.{GraphValue}
use Rattle.graph_words.specs.Limits.{text_limit}
use Rattle.graph_words.specs.Text.{GraphText, text}
use Rattle.graph_reader.specs.Laws.{OneReading}
use Rattle.realm_io.specs.SinkState.{SinkState}
use Rattle.graph_answers.specs.declared.status.Status.{Status}
use Rattle.graph_answers.specs.declared.status.Status.TheVariants.{Done, Unread, TooLong}
use Rattle.graph_answers.specs.Delivered.{Delivers, IsAnswered}
use Rattle.graph_answers.specs.Refused.{Refuses}
use Rattle.graph_answers.specs.UpgradeAnswer.{upgrade_of, UpgradeAnswers, UpgradeAsks}
use Rattle.graph_answers.proofs.Delivering.{text_or_refused, too_short}

-- the answer to an input is the one that it asks for
pub one_upgrade : (to_three : Bool) (bytes : List ℕ) → OneReading bytes → (s t : Status) (o : List ℕ) → UpgradeAnswers to_three bytes s o → UpgradeAsks bytes t → s ≡ t
one_upgrade to_three bytes one Done Done o a b = refl
one_upgrade to_three bytes one Done Unread o a b = absurd (b.1 (a.1).0 (a.1).1)
one_upgrade to_three bytes one Done TooLong o a b = absurd (too_short bytes a.0 b)
one_upgrade to_three bytes one Done _ o a b = absurd b
one_upgrade to_three bytes one Unread Done o a b = absurd (text_or_refused bytes o one (b.1).0 (b.1).1 a.1)
one_upgrade to_three bytes one Unread Unread o a b = refl
one_upgrade to_three bytes one Unread TooLong o a b = absurd (too_short bytes a.0 b)
one_upgrade to_three bytes one Unread _ o a b = absurd b
one_upgrade to_three bytes one TooLong Done o a b = absurd (too_short bytes b.0 a.0)
one_upgrade to_three bytes one TooLong Unread o a b = absurd (too_short bytes b.0 a.0)
one_upgrade to_three bytes one TooLong TooLong o a b = refl
one_upgrade to_three bytes one TooLong _ o a b = absurd b
one_upgrade to_three bytes one _ t o a b = absurd a

-- the text of a graph in a later format is an answer to its text, and so is what is refused
pub upgraded_answer : (to_three : Bool) (bytes : List ℕ) (g h : GraphValue) (s t : SinkState) (result : Status) → length bytes ≤ text_limit bytes → GraphText bytes g → h ≡ upgrade_of to_three g → Delivers s t Done result (text h)
    → IsAnswered (UpgradeAnswers to_three bytes) s t result
upgraded_answer to_three bytes g h s t result short u e d = inr (Done, text h, (short, (g, u, ap text e)), d)

pub refused_upgrade : (to_three : Bool) (bytes : List ℕ) → length bytes ≤ text_limit bytes → (status : Status) (out : List ℕ) → Refuses bytes status out → UpgradeAnswers to_three bytes status out
refused_upgrade to_three bytes short Unread out r = (short, r)
refused_upgrade to_three bytes short _ out r = absurd r
