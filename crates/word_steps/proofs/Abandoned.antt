-- What lies in the slots of a table in which nothing was done.
use Rattle.std.proofs.Common.{◌≡◌, ℕ, List, [], sym, ap, subst}
use Rattle.std.specs.Prelude.{Contains}
use Rattle.basics.proofs.ListFacts.{contains_here, contains_none}
use Rattle.atomic_table.specs.Table.{Final, Seen}
use Rattle.graph_terms.specs.Graph.{GraphValue}
use Rattle.event_table.specs.declared.handle.Handle.{Handle}
use Rattle.shared_events.specs.declared.events.Events.{Events}
use Rattle.run_state.specs.Run.{Run}
use Rattle.word_steps.specs.declared.content.Content.{Content}
use Rattle.word_steps.specs.declared.view.View.{View}
use Rattle.word_steps.specs.Closing.{IsLeft}
use Rattle.word_steps.specs.Rule.{Shown, opener}
use Rattle.word_steps.specs.Premises.{HasNoRights}
use Rattle.word_steps.proofs.Closings.{closes}
use Rattle.word_steps.proofs.Whole.{IsWhole}

-- what the first seat leaves alone is what a run leaves
pub left_alone : (g : GraphValue) (e : Events) (id : ℕ) (v : View) (words : List ℕ) (slots : List Content) → v ≡ opener g e → Final (Seen (Shown g e) id v) words slots → (run : Run) × (handles : List Handle) × IsLeft g e v run handles words slots
left_alone g e id v words slots q f =
    let whole : IsWhole v = record {
      first = subst (λ (u : View). Contains u.mine 0) (sym q) (contains_here 0 []);
      each = λ n c. absurd (contains_none n (subst (λ (u : View). Contains u.splits n) q c));
    } in
    let free : HasNoRights v = record { claim = ap (λ (u : View). u.claim) q; issuing = ap (λ (u : View). u.issuing) q; issue_turn = ap (λ (u : View). u.issue_turn) q } in
    closes g e id v words slots whole free f
