-- A claimed line takes all that its work needs, or has its claim alone.
use Rattle.std.proofs.Common.{◌≡◌, ◌≢◌, ℕ, ◌<◌, ◌≤◌, ◌⊎◌, inl, inr, Bool, true, false, List, [], ◌∷◌, ◌++◌, length, refl, sym, ◌∙◌, ap, subst, ⊎_elim, append_assoc}
use Rattle.std.specs.Prelude.{Contains, Some, None, slice_get}
use Rattle.std.specs.List.{list_any}
use Rattle.std.proofs.lemmas.Bool.{true≢false}
use Rattle.std.proofs.lemmas.Option.{none-some}
use Rattle.std.proofs.lemmas.List.Elements.{Contains-append_left, Contains-append_cases}
use Rattle.graph_terms.specs.declared.outcome.End.{End}
use Rattle.graph_terms.specs.declared.outcome.End.TheVariants.{Cancelled}
use Rattle.graph_terms.specs.Graph.{GraphValue, line_passes, is_shared}
use Rattle.graph_terms.specs.Edges.{edges_into}
use Rattle.graph_terms.specs.Reservations.{Acquires}
use Rattle.graph_meaning.specs.Evaluation.{eval_end}
use Rattle.shared_events.specs.Views.{IsPendingOf, handle_of}
use Rattle.shared_events.specs.declared.events.Events.{Events}
use Rattle.event_table.specs.declared.handle.Handle.{Handle}
use Rattle.shared_events.specs.declared.tokens.Pending.{Pending}
use Rattle.basics.proofs.ListFacts.{contains_here, contains_none}
use Rattle.run_state.proofs.Public.{cancelled_iff}
use Rattle.run_parts.specs.declared.answers.Thing.{Thing}
use Rattle.run_parts.specs.declared.answers.Thing.TheVariants as things
use Rattle.word_steps.specs.declared.content.Content.{Content}
use Rattle.word_steps.specs.declared.content.IssueState.{IssueState}
use Rattle.word_steps.specs.declared.content.Content.TheVariants.{PendingEvent}
use Rattle.word_steps.specs.declared.view.View.{View}
use Rattle.run_words.specs.declared.words.Words.{Words}
use Rattle.word_steps.specs.Claims.{Claim, new_claim}
use Rattle.word_steps.specs.Layout.{size_of, lock_word, half, alone_code}
use Rattle.std.proofs.lemmas.List.{append-nil}
use Rattle.run_words.specs.declared.works.WordWork.{WordWork}
use Rattle.run_words.specs.Works.{IsWorkOf, DidNothing, event_of}
use Rattle.run_words.specs.Words.{graph_of, events_of, IsSeatOf}
use Rattle.word_steps.specs.Rule.{ground_of, child}
use Rattle.word_steps.specs.Plays.{Sat, HasClaimed, missed, claimed_at, saw_at, saw_all, on_claim, holding, let_go_at, lets_go, gave_up_at, unclaims, child_of, parent_of, joined, looked_at, own_number, sat}
use Rattle.word_steps.specs.Premises.{Has, MayLock, IsBare, OnTop}
use Rattle.run_words.specs.Sources.{cancels_in}
use Rattle.word_loads.specs.Laden.{Seen, Taking}
use Rattle.word_loads.specs.declared.loads.Load.{Load}
use Rattle.run_words.specs.Attempts.{IsClaimed, IsHeldAfter, HasAllOf, IsRefusedAll, LetGoFor}
use Rattle.word_loads.specs.Refusals.{IsLoaded, IsRefused, IsColumn}
use Rattle.run_words.proofs.AnswerFacts.{busy_later}
use Rattle.word_steps.proofs.Public.{has_key}

abbrev Left : Type 0
Left = List (ℕ × Content)

-- a claim with no column
pub taking_first : (g : GraphValue) (line : ℕ) (v : View) (h : Handle) (b : Bool) (left : Left) (m : Sat) (numbers : List ℕ) → eval_end g line ≢ Cancelled → m ≡ (record v { claim = Some (holding b (new_claim line h)) }, left) → Taking g line 0 v (holding b (new_claim line h)) left m [] numbers
taking_first g line v h b left m numbers real q = record {
  taken = [];
  line_is = refl;
  going = refl;
  real = real;
  no_puts = refl;
  now = q;
  stacked = refl;
  below = λ t at. absurd (contains_none t at);
  apart = tt;
  has = λ t at. absurd (contains_none t at);
  only = λ c x at. absurd (none-some x at);
  numbered = λ k a s at has q. absurd (contains_none (Seen s) has);
  size = refl;
}

pub all_of : (g : GraphValue) (line : ℕ) (v : View) (pending : Pending) (b : Bool) (m : Sat) (x : Load) → IsLoaded g line v (holding b (new_claim line (handle_of pending))) ((line, PendingEvent pending) ∷ []) m x → ((l : ℕ) → Acquires g line l → eval_end g line ≢ Cancelled → b ≡ true) → HasAllOf g line false v pending m x
all_of g line v pending b m x l holds = record {
  saw = (looked_at (saw_all v l.1) line l.0).saw;
  issued = (looked_at v line l.0).issued;
  ended = (looked_at v line l.0).ended;
  claim = holding b (new_claim line (handle_of pending));
  named = refl;
  line_is = refl;
  going = refl;
  untimed = refl;
  fresh = (refl, refl);
  empty = (refl, refl);
  holds = holds;
  bare = λ q. absurd (true≢false (sym q));
  loaded = λ _. l.2;
}

pub bare_of : (g : GraphValue) (line : ℕ) (v : View) (pending : Pending) (b : Bool) (m : Sat) (x : Load) → b ≡ true → eval_end g line ≡ Cancelled → IsClaimed line v pending m → HasAllOf g line b v pending m x
bare_of g line v pending b m x is_so cancelled is = record {
  saw = v.saw;
  issued = v.issued;
  ended = v.ended;
  claim = new_claim line (handle_of pending);
  named = refl;
  line_is = refl;
  going = refl;
  untimed = refl;
  fresh = (refl, refl);
  empty = (refl, refl);
  holds = λ l a real. absurd (real cancelled);
  bare = λ _. (cancelled, is);
  loaded = λ q. absurd (true≢false (sym is_so ∙ q));
}

-- a line that holds its reservation lets it go
pub may_let_go : (g : GraphValue) (line l : ℕ) (v : View) (h : Handle) (left : Left) (thing : Thing) (m : Sat) → Acquires g line l → IsRefused g line v (holding true (new_claim line h)) left thing m → Has m.0 (λ cl. (cl.line ≡ line) × Acquires g line l × (cl.holds ≡ true) × (cl.time ≡ None))
may_let_go g line l v h left thing m a r = (holding true (new_claim line h), ap (λ (y : Sat). y.0.claim) r.2, (refl, a, refl, refl))

column_any : (x : Thing) (before after : List ℕ) → IsColumn x → LetGoFor x before after
column_any (things.Lock l) before after c = absurd c
column_any (things.Column c) before after d = tt

pub refused_held : (g : GraphValue) (line : ℕ) (v : View) (pending : Pending) (thing : Thing) (m n : Sat) → IsRefused g line v (holding true (new_claim line (handle_of pending))) ((line, PendingEvent pending) ∷ []) thing m → lets_go m n → IsRefusedAll g line v pending thing n
refused_held g line v pending thing m n r go = (r.0, v.let_go ++ line ∷ [], r.1, column_any thing v.let_go (v.let_go ++ line ∷ []) r.3, go ∙ ap (λ (y : Sat). sat (let_go_at y.0) y.1) r.2)

-- of one that takes no reservation
pub refused_bare : (g : GraphValue) (line : ℕ) (v : View) (pending : Pending) (thing : Thing) (m : Sat) → IsRefused g line v (new_claim line (handle_of pending)) ((line, PendingEvent pending) ∷ []) thing m → IsRefusedAll g line v pending thing m
refused_bare g line v pending thing m r = (r.0, v.let_go, r.1, column_any thing v.let_go v.let_go r.3, r.2)

-- the reservation was taken, at once or after its word was found
pub held_at_once : (line : ℕ) (v : View) (pending : Pending) (m n : Sat) → IsClaimed line v pending m → n ≡ sat (on_claim (holding true) m.0) m.1 → IsHeldAfter line v pending n
held_at_once line v pending m n is q = (
  [],
  q ∙ (ap (λ (y : Sat). sat (on_claim (holding true) y.0) y.1) is
      ∙ ap (λ saw. sat (on_claim (holding true) (claimed_at (record v { saw = saw }) line (handle_of pending))) ((line, PendingEvent pending) ∷ [])) (sym (append-nil v.saw))),
)

pub held_then : (line w r : ℕ) (v : View) (pending : Pending) (m n o : Sat) → IsClaimed line v pending m → missed w m r n → o ≡ sat (on_claim (holding true) n.0) n.1 → IsHeldAfter line v pending o
held_then line w r v pending m n o is q p = ((w, r) ∷ [], p ∙ ap (λ (y : Sat). sat (on_claim (holding true) y.0) y.1) (q ∙ ap (λ (y : Sat). sat (saw_at y.0 w r) y.1) is))

-- what was found before the reservation was taken adds to what was found
pub all_later : (g : GraphValue) (line : ℕ) (b : Bool) (v : View) (found : List (ℕ × ℕ)) (pending : Pending) (m : Sat) (x : Load) → HasAllOf g line b (saw_all v found) pending m x → HasAllOf g line b v pending m x
all_later g line b v found pending m x h = record {
  saw = h.saw;
  issued = h.issued;
  ended = h.ended;
  claim = h.claim;
  named = h.named;
  line_is = h.line_is;
  going = h.going;
  untimed = h.untimed;
  fresh = h.fresh;
  empty = h.empty;
  holds = h.holds;
  bare = h.bare;
  loaded = h.loaded;
}

pub refused_later : (g : GraphValue) (line : ℕ) (v : View) (found : List (ℕ × ℕ)) (pending : Pending) (thing : Thing) (m : Sat) → IsRefusedAll g line (saw_all v found) pending thing m → IsRefusedAll g line v pending thing m
refused_later g line v found pending thing m h = (
  found ++ h.0,
  h.1,
  busy_later g line thing found h.0 h.2,
  h.3,
  h.4 ∙ ap (λ saw. sat (claimed_at (record v { saw = saw; let_go = h.1 }) line (handle_of pending)) ((line, PendingEvent pending) ∷ [])) (append_assoc v.saw found h.0),
)

pub may_lock : (g : GraphValue) (line l : ℕ) (v : View) (pending : Pending) (m : Sat) → IsClaimed line v pending m → Acquires g line l → eval_end g line ≢ Cancelled → MayLock g line l m.0
may_lock g line l v pending m is a real = record { claim = new_claim line (handle_of pending); has = ap (λ (y : Sat). y.0.claim) is; is_line = refl; going = refl; untaken = refl; acquires = a; real = real }

pub may_lock_after : (g : GraphValue) (line l r : ℕ) (v : View) (pending : Pending) (m n : Sat) → IsClaimed line v pending m → missed (lock_word (size_of g) l) m r n → Acquires g line l → eval_end g line ≢ Cancelled → MayLock g line l n.0
may_lock_after g line l r v pending m n is q a real =
    record { claim = new_claim line (handle_of pending); has = ap (λ (y : Sat). y.0.claim) q ∙ ap (λ (y : Sat). y.0.claim) is; is_line = refl; going = refl; untaken = refl; acquires = a; real = real }

-- its reservation was found with another line
module _ (g : GraphValue) (line l : ℕ) (v : View) (pending : Pending) (m : Sat) (is : IsClaimed line v pending m) (a : Acquires g line l) where
  abbrev word : ℕ
  word = lock_word (size_of g) l

  pub refused_held_lock : (r : ℕ) (n : Sat) → line_passes is_shared g line ≡ false → r ≢ 0 → r ≢ alone_code line → missed word m r n → IsRefusedAll g line v pending (things.Lock l) n
  refused_held_lock r n own ne other q = ((word, r) ∷ [], v.let_go, (a, [], inl (own, (r, refl, ne, other))), refl, q ∙ ap (λ (y : Sat). sat (saw_at y.0 word r) y.1) is)

  pub refused_alone : (r : ℕ) (n : Sat) → line_passes is_shared g line ≡ true → half ≤ r → missed word m r n → IsRefusedAll g line v pending (things.Lock l) n
  refused_alone r n own high q = ((word, r) ∷ [], v.let_go, (a, [], inr (own, inl (r, refl, high))), refl, q ∙ ap (λ (y : Sat). sat (saw_at y.0 word r) y.1) is)

  pub refused_changed : (r s : ℕ) (n o : Sat) → line_passes is_shared g line ≡ true → s ≢ r → missed word m r n → missed word n s o → IsRefusedAll g line v pending (things.Lock l) o
  refused_changed r s n o own ne q p = (
    (word, r) ∷ (word, s) ∷ [],
    v.let_go,
    (a, [], inr (own, inr (r, s, refl, ne))),
    refl,
    p ∙ (ap (λ (y : Sat). sat (saw_at y.0 word s) y.1) (q ∙ ap (λ (y : Sat). sat (saw_at y.0 word r) y.1) is) ∙ ap (λ found. sat (record (claimed_at v line (handle_of pending)) { saw = found }) ((line, PendingEvent pending) ∷ [])) (append_assoc v.saw ((word, r) ∷ []) ((word, s) ∷ []))),
  )

-- whether a claimed line is cancelled
pub cancelled_so : (g : GraphValue) (e : Events) (line : ℕ) (b : Bool) (m n : Sat) → m.0.keys ≡ ground_of g e ∷ [] → HasClaimed line m n → b ≡ list_any (cancels_in g) (edges_into g line) → (b ≡ true → eval_end g line ≡ Cancelled) × (b ≡ false → eval_end g line ≢ Cancelled)
cancelled_so g e line b m n key h q =
    let both = cancelled_iff g line (h.ends (ground_of g e) (has_key m.0.keys (ground_of g e) key)) in
    (λ t. both.0 (sym q ∙ t), λ f c. true≢false (sym (q ∙ both.1 c) ∙ f))

-- the claim of a line that was just claimed
pub is_claimed : (line : ℕ) (m n : Sat) (h : HasClaimed line m n) → m.1 ≡ [] → IsClaimed line m.0 h.pending n
is_claimed line m n h none = h.now ∙ ap (λ (hand : Left). sat (claimed_at m.0 line (handle_of h.pending)) ((line, PendingEvent h.pending) ∷ hand)) none

-- and of one that was refused
pub may_unclaim : (g : GraphValue) (e : Events) (line : ℕ) (v : View) (pending : Pending) (thing : Thing) (m : Sat) → IsRefusedAll g line v pending thing m → IsPendingOf e pending
    → Has m.0 (λ cl. (cl.line ≡ line) × IsBare cl × ((pending : Pending) × OnTop line (PendingEvent pending) m.1 × IsPendingOf e pending × (handle_of pending ≡ cl.event)))
may_unclaim g e line v pending thing m r of = (
  new_claim line (handle_of pending),
  ap (λ (y : Sat). y.0.claim) r.4,
  (refl, record { going = refl; columns = refl; shares = refl; puts = refl; held = refl; arrived = refl; time = refl }, (pending, ([], ap (λ (y : Sat). y.1) r.4), of, refl)),
)

pub unclaimed : (g : GraphValue) (line : ℕ) (v : View) (pending : Pending) (thing : Thing) (m n : Sat) (r : IsRefusedAll g line v pending thing m) → v.claim ≡ None → unclaims m n → n ≡ (record (saw_all v r.0) { let_go = r.1; gave_up = v.gave_up ++ line ∷ [] }, [])
unclaimed g line v pending thing m n r none u = u ∙ (ap (λ (y : Sat). sat (gave_up_at y.0) (Rattle.atomic_table.specs.Table.rest y.1)) r.4 ∙ ap (λ (c : Rattle.std.specs.Prelude.Option Claim). sat (record (saw_all v r.0) { let_go = r.1; gave_up = v.gave_up ++ line ∷ []; claim = c }) []) (sym none))

by_bool : (b : Bool) → (b ≡ true) ⊎ (b ≡ false)
by_bool true = inl refl
by_bool false = inr refl

-- THE WORK
own_of : (g : GraphValue) (line : ℕ) (b : Bool) (v : View) (pending : Pending) (m : Sat) (x : Load) → HasAllOf g line b v pending m x → (m.0.mine ≡ v.mine) × (m.0.splits ≡ v.splits)
own_of g line b v pending m x h = ⊎_elim
    (λ (t : b ≡ true). (ap (λ (y : Sat). y.0.mine) (h.bare t).1, ap (λ (y : Sat). y.0.splits) (h.bare t).1))
    (λ (f : b ≡ false). let n = h.loaded f in (ap (λ (y : Sat). y.0.mine) n.now, ap (λ (y : Sat). y.0.splits) n.now))
    (by_bool b)

pub work_of : (w : Words) (k : WordWork) (v : View) (pending : Pending) → HasAllOf (graph_of w) k.line k.is_cancelled v pending k.inner.me k.load → IsSeatOf w k.inner → k.line < length (graph_of w).lines → DidNothing v → v.issuing ≡ None → v.issue_turn ≡ None → IsPendingOf (events_of w) pending → IsWorkOf w k
work_of w k v pending h at near aside issuing issue_turn of = record {
  at = at;
  near = near;
  view = record v { issued = h.issued; ended = h.ended; saw = h.saw };
  claim = h.claim;
  pending = pending;
  aside = aside;
  issuing = issuing;
  issue_turn = issue_turn;
  of = of;
  named = h.named;
  mine = (own_of (graph_of w) k.line k.is_cancelled v pending k.inner.me k.load h).0;
  splits = (own_of (graph_of w) k.line k.is_cancelled v pending k.inner.me k.load h).1;
  line_is = h.line_is;
  going = h.going;
  untimed = h.untimed;
  fresh = h.fresh;
  empty = h.empty;
  holds = h.holds;
  cancelled = h.bare;
  loaded = h.loaded;
}

-- the event of the claim
event_in : (g : GraphValue) (line : ℕ) (b : Bool) (v : View) (pending : Pending) (m : Sat) (x : Load) → HasAllOf g line b v pending m x → event_of m.0.claim ≡ Some (handle_of pending)
event_in g line b v pending m x h = ⊎_elim
    (λ (t : b ≡ true). ap (λ (y : Sat). event_of y.0.claim) (h.bare t).1 ∙ ap Some (sym h.named))
    (λ (f : b ≡ false). ap (λ (y : Sat). event_of y.0.claim) (h.loaded f).now ∙ ap Some (sym h.named))
    (by_bool b)

pub own_event : (g : GraphValue) (line : ℕ) (b : Bool) (v0 : View) (m n o : Sat) (x : Load) (k : HasClaimed line m n) → m.0.named ≡ v0.named → HasAllOf g line b m.0 k.pending o x
    → (hs : List Handle) (h : Handle) → Contains v0.named hs → slice_get hs line ≡ Some h → event_of o.0.claim ≡ Some h
own_event g line b v0 m n o x k same a hs h known at = event_in g line b m.0 k.pending o x a ∙ ap Some (k.known hs h (subst (λ l. Contains l hs) (sym same) known) at)

-- a seat that was just split off
pub young_aside : (v0 : View) (m : Sat) → m ≡ (child_of v0, []) → DidNothing m.0
young_aside v0 m q = (ap (λ (y : Sat). y.0.issue_states) q, ap (λ (y : Sat). y.0.laid) q, ap (λ (y : Sat). y.0.gave_up) q, ap (λ (y : Sat). y.0.closed) q, ap (λ (y : Sat). y.0.let_go) q)

pub out_of : (w : Words) (k : WordWork) (v0 v : View) (hand : Left) (m n : Sat) (pending : Pending) → HasAllOf (graph_of w) k.line k.is_cancelled v pending k.inner.me k.load → n ≡ (parent_of v0, hand) → v ≡ child_of v0
    → (j : ℕ) × (n.0.mine ≡ v0.mine) × (n.0.splits ≡ v0.splits ++ j ∷ []) × (k.inner.me.0.mine ≡ j ∷ []) × (k.inner.me.0.splits ≡ [])
out_of w k v0 v hand m n pending h p q =
    let own = own_of (graph_of w) k.line k.is_cancelled v pending k.inner.me k.load h in
    (child (own_number v0.mine) v0.births, ap (λ (y : Sat). y.0.mine) p, ap (λ (y : Sat). y.0.splits) p, own.0 ∙ ap (λ (y : View). y.mine) q, own.1 ∙ ap (λ (y : View). y.splits) q)

-- A SEAT THAT WAS SPLIT OFF AND JOINED AGAIN
module _ (v0 : View) (hand : Left) (a t : Sat) (w : View) (parent : a ≡ (parent_of v0, hand)) (joins : t ≡ (joined a.0 w, a.1)) where
  whole : t ≡ (joined (parent_of v0) w, hand)
  whole = joins ∙ ap (λ (y : Sat). sat (joined y.0 w) y.1) parent

  pub joined_back : w.mine ≡ child (own_number v0.mine) v0.births ∷ [] → w.splits ≡ [] → (ns : List ℕ) × (t.0.mine ≡ v0.mine ++ ns) × (t.0.splits ≡ v0.splits ++ ns)
  joined_back mine splits =
      let ns : List ℕ = child (own_number v0.mine) v0.births ∷ [] in
      (ns, ap (λ (y : Sat). y.0.mine) whole ∙ ap (λ (l : List ℕ). v0.mine ++ l) mine, ap (λ (y : Sat). y.0.splits) whole ∙ (ap (λ (l : List ℕ). (v0.splits ++ ns) ++ l) splits ∙ append-nil (v0.splits ++ ns)))

  pub joined_saw : (found : List (ℕ × ℕ)) → w.saw ≡ found → t.0.saw ≡ v0.saw ++ found
  joined_saw found saw = ap (λ (y : Sat). y.0.saw) whole ∙ ap (λ (l : List (ℕ × ℕ)). v0.saw ++ l) saw

  pub joined_found : (j r : ℕ) → w.saw ≡ (j, r) ∷ [] → (found : List (ℕ × ℕ)) × (t.0.saw ≡ v0.saw ++ found) × Contains found (j, r)
  joined_found j r saw = ((j, r) ∷ [], joined_saw ((j, r) ∷ []) saw, contains_here {X = ℕ × ℕ} (j, r) [])

  pub joined_issued : (i : ℕ) → Contains v0.issued i → Contains t.0.issued i
  joined_issued i c = subst (λ l. Contains l i) (sym (ap (λ (y : Sat). y.0.issued) whole)) (Contains-append_left v0.issued w.issued i c)

  pub joined_ended : (i : ℕ) (x : End) → Contains v0.ended (i, x) → Contains t.0.ended (i, x)
  joined_ended i x c = subst (λ (l : List (ℕ × End)). Contains l (i, x)) (sym (ap (λ (y : Sat). y.0.ended) whole)) (Contains-append_left v0.ended w.ended (i, x) c)

  pub joined_gave : t.0.gave_up ≡ v0.gave_up ++ w.gave_up
  joined_gave = ap (λ (y : Sat). y.0.gave_up) whole

  pub joined_closed : w.closed ≡ [] → t.0.closed ≡ v0.closed
  joined_closed none = ap (λ (y : Sat). y.0.closed) whole ∙ (ap (λ (l : List ℕ). v0.closed ++ l) none ∙ append-nil v0.closed)

  pub joined_none : w.gave_up ≡ [] → w.closed ≡ [] → (t.0.gave_up ≡ v0.gave_up) × (t.0.closed ≡ v0.closed)
  joined_none none closed = (joined_gave ∙ (ap (λ (l : List ℕ). v0.gave_up ++ l) none ∙ append-nil v0.gave_up), joined_closed closed)

  pub joined_issue_turn : w.issue_states ≡ [] → w.laid ≡ [] → (t.0.issue_states ≡ v0.issue_states) × (t.0.laid ≡ v0.laid)
  joined_issue_turn issue_states laid = (
    ap (λ (y : Sat). y.0.issue_states) whole ∙ (ap (λ (l : List IssueState). v0.issue_states ++ l) issue_states ∙ append-nil v0.issue_states),
    ap (λ (y : Sat). y.0.laid) whole ∙ (ap (λ (l : List IssueState). v0.laid ++ l) laid ∙ append-nil v0.laid),
  )

  -- what it was told of handles the first knew too
  pub joined_handles : w.named ≡ v0.named → (hs : List Handle) → (Contains v0.named hs → Contains t.0.named hs) × (Contains t.0.named hs → Contains v0.named hs)
  joined_handles same hs =
      let all : t.0.named ≡ v0.named ++ v0.named = ap (λ (y : Sat). y.0.named) whole ∙ ap (λ (l : List (List Handle)). v0.named ++ l) same in (
        λ c. subst (λ l. Contains l hs) (sym all) (Contains-append_left v0.named v0.named hs c),
        λ c. ⊎_elim (λ a. a) (λ b. b) (Contains-append_cases v0.named v0.named hs (subst (λ l. Contains l hs) all c)),
      )

  pub joined_let_go : (x : Thing) → LetGoFor x [] w.let_go → LetGoFor x v0.let_go t.0.let_go
  joined_let_go (things.Lock l) none = ap (λ (y : Sat). y.0.let_go) whole ∙ (ap (λ (l : List ℕ). v0.let_go ++ l) none ∙ append-nil v0.let_go)
  joined_let_go (things.Column c) any = tt
