-- A line that is ending is closed, and its seat is joined.
use Rattle.std.proofs.Common.{◌≡◌, ℕ, ◌+◌, ◌-◌, List, [], ◌∷◌, ◌++◌, refl, sym, ◌∙◌, ap, subst, arith}
use Rattle.std.specs.Prelude.{Contains, Some, None}
use Rattle.std.proofs.lemmas.List.Elements.{Contains-append_right}
use Rattle.basics.proofs.ListFacts.{contains_here}
use Rattle.shared_events.specs.Views.{IsReceiptOf, handle_of, ended_by, fate_of}
use Rattle.shared_events.specs.declared.events.Events.{Events}
use Rattle.shared_events.specs.declared.tokens.Pending.{Pending}
use Rattle.shared_events.specs.declared.tokens.Receipt.{Receipt}
use Rattle.graph_terms.specs.declared.outcome.End.{End}
use Rattle.graph_terms.specs.declared.outcome.End.TheVariants.{Done, Faulted, Cancelled, Waiting}
use Rattle.index_spaces.specs.Held.{HeldList}
use Rattle.graph_terms.specs.Graph.{GraphValue}
use Rattle.graph_terms.specs.Reservations.{Releases}
use Rattle.word_steps.specs.declared.content.Content.{Content}
use Rattle.word_steps.specs.declared.content.Content.TheVariants.{EventReceipt}
use Rattle.word_steps.specs.declared.view.View.{View}
use Rattle.word_steps.specs.Claims.{Claim}
use Rattle.word_steps.specs.Rule.{end_code, fate_for}
use Rattle.word_steps.specs.Plays.{Sat, closed_at, closes, end_of_code}
use Rattle.word_steps.specs.Premises.{Has, IsOver, HasNoRights, OnTop}
use Rattle.word_loads.specs.Laden.{Laden, WorkDone, IsEnding, IsReleased}
use Rattle.run_words.specs.Works.{event_of, DidNothing}
use Rattle.word_steps.proofs.Public.{code_end}

-- the handle of the line whose work is done
laden_event : (g : GraphValue) (line k : ℕ) (v : View) (cl : Claim) (left : List (ℕ × Content)) (m : Sat) (held : HeldList) (numbers : List ℕ) → Laden g line k v cl left m held numbers → event_of m.0.claim ≡ Some cl.event
laden_event g line k v cl left m held numbers l = ap (λ (u : View). event_of u.claim) l.now

pub done_event : (g : GraphValue) (line : ℕ) (x : End) (v : View) (cl : Claim) (left : List (ℕ × Content)) (m : Sat) (held : HeldList) (numbers : List ℕ) → WorkDone g line x v cl left m held numbers → event_of m.0.claim ≡ Some cl.event
done_event g line Done v cl left m held numbers d = laden_event g line 3 v cl left m held numbers (d.laden (λ e. (let z : end_code Done ≡ end_code Cancelled = ap end_code e in omega (arith, z))))
done_event g line Faulted v cl left m held numbers d = laden_event g line 3 v cl left m held numbers (d.laden (λ e. (let z : end_code Faulted ≡ end_code Cancelled = ap end_code e in omega (arith, z))))
done_event g line Cancelled v cl left m held numbers d = ap (λ (y : Sat). event_of y.0.claim) (d.bare refl)
done_event g line Waiting v cl left m held numbers d = laden_event g line 3 v cl left m held numbers (d.laden (λ e. (let z : end_code Waiting ≡ end_code Cancelled = ap end_code e in omega (arith, z))))

-- the event has ended, and its receipt lies in the line's slot
pub receipted : (line : ℕ) (x : End) (v : View) (cl : Claim) (left : List (ℕ × Content)) (m n : Sat) (receipt : Receipt) → IsEnding line x v cl left m → n ≡ (m.0, (line, EventReceipt receipt) ∷ []) → IsEnding line x v cl ((line, EventReceipt receipt) ∷ []) n
receipted line x v cl left m n receipt i e = record {
  claim = i.claim;
  now = e ∙ ap (λ (y : Sat). (y.0, (line, EventReceipt receipt) ∷ [])) i.now;
  line_is = i.line_is;
  event = i.event;
  ends = i.ends;
  stored = i.stored;
  unfreed = i.unfreed;
}

-- the line has freed what it releases, its event has ended, and the receipt lies in the line's slot
module _ (g : GraphValue) (e : Events) (line : ℕ) (x : End) (v : View) (cl : Claim) (pending : Pending) (receipt : Receipt) (n : Sat) (i : IsReleased g line x v cl ((line, EventReceipt receipt) ∷ []) n) (named : handle_of pending ≡ cl.event)
    (of : IsReceiptOf e receipt) (by : ended_by receipt ≡ handle_of pending) (told : fate_of receipt ≡ fate_for x)
  where
    pub may_close : Has n.0 (λ c. (c.line ≡ line) × IsOver g c x × ((receipt : Receipt) × OnTop line (EventReceipt receipt) n.1 × IsReceiptOf e receipt × (ended_by receipt ≡ c.event) × (fate_of receipt ≡ fate_for x)))
    may_close = (
      i.claim,
      ap (λ (y : Sat). y.0.claim) i.now,
      (
        i.line_is,
        record { ending = i.ends; stored = i.stored; freed = λ q r d. i.freed q (subst (λ j. Releases g j q) i.line_is r) d },
        (receipt, ([], ap (λ (y : Sat). y.1) i.now), of, by ∙ (named ∙ sym i.event), told),
      ),
    )

    module _ (o : Sat) (c : closes line (8 + end_code x) n o) where
      abbrev learnt : View
      learnt = record v { issued = i.issued; ended = i.ended; saw = i.saw; claim = Some i.claim }

      pub closed_now : o ≡ (closed_at learnt line x, [])
      closed_now = c ∙ (ap (λ (y : Sat). (closed_at y.0 line (end_of_code (8 + end_code x - 8)), Rattle.atomic_table.specs.Table.rest y.1)) i.now
          ∙ ap (λ (y : End). (closed_at learnt line y, [])) (let k : 8 + end_code x - 8 ≡ end_code x = omega arith in ap end_of_code k ∙ code_end x))

      pub no_rights_left : v.issuing ≡ None → v.issue_turn ≡ None → HasNoRights o.0
      no_rights_left p q = record {
        claim = ap (λ (y : Sat). y.0.claim) closed_now;
        issuing = ap (λ (y : Sat). y.0.issuing) closed_now ∙ p;
        issue_turn = ap (λ (y : Sat). y.0.issue_turn) closed_now ∙ q;
      }

      pub knows : Contains o.0.ended (line, x)
      knows = subst (λ (l : List (ℕ × End)). Contains l (line, x)) (sym (ap (λ (y : Sat). y.0.ended) closed_now)) (Contains-append_right i.ended ((line, x) ∷ []) (line, x) (contains_here {X = ℕ × End} (line, x) []))

      pub same_mine : o.0.mine ≡ v.mine
      same_mine = ap (λ (y : Sat). y.0.mine) closed_now

      pub same_splits : o.0.splits ≡ v.splits
      same_splits = ap (λ (y : Sat). y.0.splits) closed_now

      -- its claim alone came to an end, and it had no issue turn
      pub only_closed : DidNothing v → (o.0.issue_states ≡ []) × (o.0.laid ≡ []) × (o.0.gave_up ≡ []) × (o.0.closed ≡ line ∷ []) × (o.0.let_go ≡ [])
      only_closed d = (
        ap (λ (y : Sat). y.0.issue_states) closed_now ∙ d.0,
        ap (λ (y : Sat). y.0.laid) closed_now ∙ d.1,
        ap (λ (y : Sat). y.0.gave_up) closed_now ∙ d.2,
        ap (λ (y : Sat). y.0.closed) closed_now ∙ ap (λ (l : List ℕ). l ++ line ∷ []) d.3,
        ap (λ (y : Sat). y.0.let_go) closed_now ∙ d.4,
      )
