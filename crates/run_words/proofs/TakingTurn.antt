-- What the calls that move the issue state rest on.
use Rattle.std.proofs.Common.{◌≡◌, ℕ, ◌≤◌, List, [], ◌∷◌, ◌++◌, length, sym, ◌∙◌, ap, subst}
use Rattle.std.specs.Prelude.{Some, None}
use Rattle.event_table.specs.declared.handle.Handle.{Handle}
use Rattle.shared_events.specs.declared.events.Events.{Events}
use Rattle.graph_terms.specs.Graph.{GraphValue}
use Rattle.word_steps.specs.declared.content.Content.{Content}
use Rattle.word_steps.specs.declared.content.Content.TheVariants.{Nothing, PendingEvent, EventReceipt, Cells, Lent, Share, Issuer}
use Rattle.word_steps.specs.declared.content.IssueState.{IssueState}
use Rattle.word_steps.specs.declared.view.View.{View}
use Rattle.word_steps.specs.Layout.{size_of, issue_turn_slot}
use Rattle.word_steps.specs.Rule.{ground_of, IsIssueState}
use Rattle.std.proofs.lemmas.List.{append-nil}
use Rattle.word_steps.proofs.Public.{has_key}
use Rattle.word_steps.specs.Plays.{Sat, HasIssueTurn, with_issue_turn, without_issue_turn, after_issue, sat}

abbrev pub issue_state_in : IssueState → Content → IssueState
issue_state_in d (Issuer x) = x
issue_state_in d Nothing = d
issue_state_in d (PendingEvent x) = d
issue_state_in d (EventReceipt x) = d
issue_state_in d (Cells x) = d
issue_state_in d (Lent x) = d
issue_state_in d (Share x) = d

pub issue_state_one : (d d' : IssueState) → Issuer d ≡ Issuer d' → d ≡ d'
issue_state_one d d' q = ap (issue_state_in d) q

pub pair : {m : Sat} {v : View} {h : List (ℕ × Content)} → m.0 ≡ v → m.1 ≡ h → m ≡ (v, h)
pair p q = λ k. (p k, q k)

module _ (g : GraphValue) (e : Events) (m n : Sat) (key : m.0.keys ≡ ground_of g e ∷ []) (h : HasIssueTurn m n) where
  pub now : n ≡ (with_issue_turn m.0 h.handles h.issue_state, (issue_turn_slot (size_of g), Issuer h.issue_state) ∷ m.1)
  now = h.now (ground_of g e) (has_key m.0.keys (ground_of g e) key)

  pub keys : n.0.keys ≡ ground_of g e ∷ []
  keys = ap (λ (x : Sat). x.0.keys) now ∙ key

  pub on_top : (k : ℕ) → k ≡ issue_turn_slot (size_of g) → n.1 ≡ (k, Issuer h.issue_state) ∷ m.1
  on_top k q = ap (λ (x : Sat). x.1) now ∙ ap (λ (j : ℕ). (j, Issuer h.issue_state) ∷ m.1) (sym q)

  -- the issue state that was taken out
  module _ (d : IssueState) (out : Issuer h.issue_state ≡ Issuer d) where
    same : h.issue_state ≡ d
    same = issue_state_one h.issue_state d out

    whole : IsIssueState e (length g.lines) h.handles h.issue_state
    whole = h.is_issue_state (ground_of g e) (has_key m.0.keys (ground_of g e) key)

    pub items : h.handles ≡ d.handles.items
    items = sym whole.listed ∙ ap (λ (x : IssueState). x.handles.items) same

    pub issue_state : IsIssueState e (length g.lines) d.handles.items d
    issue_state = subst (λ (x : IssueState). IsIssueState e (length g.lines) x.handles.items x) same (subst (λ (l : List Handle). IsIssueState e (length g.lines) l h.issue_state) (sym whole.listed) whole)

    pub few : length d.handles.items ≤ length g.lines
    few = subst (λ (l : List Handle). length l ≤ length g.lines) items (h.few (ground_of g e) (has_key m.0.keys (ground_of g e) key))

    pub with : n.0 ≡ with_issue_turn m.0 d.handles.items d
    with = ap (λ (x : Sat). x.0) now ∙ (λ t. with_issue_turn m.0 (items t) (same t))

-- ISSUING: the issue state taken, a line issued or none, the issue state given
pub issue_chain : (v : View) (hand : List (ℕ × Content)) (a b d : Sat) (hs hs' : List Handle) (issue_state laid : IssueState) (new : List ℕ) (slot : ℕ) → a ≡ (with_issue_turn v hs issue_state, (slot, Nothing) ∷ hand) → b ≡ (after_issue a.0 new hs', a.1) → ((left : List (ℕ × Content)) → b.1 ≡ (slot, Nothing) ∷ left → d ≡ (without_issue_turn b.0 (laid ∷ []), left))
    → d ≡ (without_issue_turn (after_issue (with_issue_turn v hs issue_state) new hs') (laid ∷ []), hand)
issue_chain v hand a b d hs hs' issue_state laid new slot p q r =
    let top = ap (λ (x : Sat). x.1) q ∙ ap (λ (x : Sat). x.1) p in
    let view : b.0 ≡ after_issue (with_issue_turn v hs issue_state) new hs' = ap (λ (x : Sat). x.0) q ∙ ap (λ (x : Sat). after_issue x.0 new hs') p in
    r hand top ∙ ap (λ (x : View). sat (without_issue_turn x (laid ∷ [])) hand) view

pub unchanged : (v : View) (hs : List Handle) → v.issuing ≡ None → v.issue_turn ≡ Some hs → v ≡ after_issue v [] hs
unchanged v hs p q = let n : v.issued ≡ v.issued ++ [] = sym (append-nil v.issued) in λ k. record v { issued = n k; issuing = p k; issue_turn = q k }
