-- The rule of a table is that of its words.
use Rattle.std.proofs.Common.{◌≡◌, ◌≢◌, ℕ, ◌<◌, ◌≤◌, ◌+◌, ◌-◌, ◌%◌, ◌^◌, true, false, List, [], ◌∷◌, length, sym, ◌∙◌, ap, refl, subst, arith}
use Rattle.std.specs.Prelude.{Contains, Some, None, ◌==◌, slice_get}
use prog.Atomic.{either}
use Rattle.atomic_table.specs.Table.{Allows, Splits, Joins}
use Rattle.index_spaces.specs.declared.Op.{Op}
use Rattle.graph_terms.specs.declared.decl.BarrierInfo.{BarrierInfo}
use Rattle.graph_terms.specs.declared.verb.Verb.TheVariants.{Phase}
use Rattle.graph_terms.specs.declared.outcome.End.{End}
use Rattle.graph_terms.specs.declared.outcome.End.TheVariants.{Done, Cancelled}
use Rattle.graph_terms.specs.Graph.{GraphValue, columns, locks, barriers, verb_at, never_comes, line_passes, is_shared}
use Rattle.graph_terms.specs.Reservations.{Acquires, Releases}
use Rattle.graph_meaning.specs.Evaluation.{eval_end, combined}
use Rattle.shared_events.specs.Views.{IsPendingOf, IsReceiptOf, handle_of, ended_by, fate_of}
use Rattle.event_table.specs.declared.handle.Handle.{Handle}
use Rattle.shared_events.specs.declared.tokens.Pending.{Pending}
use Rattle.shared_events.specs.declared.tokens.Receipt.{Receipt}
use Rattle.run_state.specs.Sound.{home_cells, value_for}
use Rattle.run_state.specs.Work.{put_cells}
use Rattle.word_steps.specs.declared.content.Content.{Content}
use Rattle.word_steps.specs.declared.content.Content.TheVariants.{Nothing, PendingEvent, EventReceipt, Issuer}
use Rattle.word_steps.specs.declared.content.IssueState.{IssueState}
use Rattle.word_steps.specs.declared.view.View.{View}
use Rattle.word_steps.specs.declared.base.Base.{Base}
use Rattle.word_steps.specs.declared.table.WordTable.{WordTable}
use Rattle.word_steps.specs.Claims.{Claim}
use Rattle.word_steps.specs.Layout.{size_of, turn_word, share_word, lock_word, half, alone_code, time_word, value_word, clock_word, issue_turn_word, issue_turn_slot}
use Rattle.word_steps.specs.Plays.{Sat, looked, claims, turns, returns_unused, puts_back, takes_share, gives_share, reads_back, missed, holds, shares, lets_go, frees, arrives, draws, stores, ends, closes, unclaims, takes_issue_turn, gives_issue_turn, begins_issue, issues, gives_up_issue, parent_of, child_of, joined, no_view}
use Rattle.word_steps.specs.Premises.{Has, IsNumbered, Sources, MayTake, MayTakeShare, MayGiveShare, MayReadBack, MayLock, IsFirst, Tops, IsBare, IsThrough, IsOver, HasNoRights}
use Rattle.word_steps.specs.Rule.{end_code, fate_for, IsIssueState, Shown}
use Rattle.word_steps.specs.Table.{graph_of, events_of}
use Rattle.word_steps.proofs.Steps.{St}
use Rattle.word_steps.proofs.Looks.{looks}
use Rattle.word_steps.proofs.Claims.{claims_allow}
use Rattle.word_steps.proofs.Turns.{turns_allow}
use Rattle.word_steps.proofs.Gives.{returns_allow, puts_allow}
use Rattle.word_steps.proofs.TakesShares.{takes_allow, gives_allow, reads_allow}
use Rattle.share_words.specs.Shares.{share_count}
use Rattle.word_steps.proofs.Holds.{holds_allow, loads_allow, shares_allow, lets_go_alone, lets_go_shared, frees_alone, frees_shared}
use Rattle.word_steps.proofs.Fetches.{arrives_allow, draws_allow, stores_allow}
use Rattle.word_steps.proofs.Ends.{ends_allow, closes_allow, unclaims_allow}
use Rattle.word_steps.proofs.IssueTurns.{takes_issue_turn_allow, gives_issue_turn_allow}
use Rattle.word_steps.proofs.Issues.{begins_issue_allow, issues_allow, gives_up_issue_allow}
use Rattle.word_steps.proofs.Splits.{splits, joins}

abbrev pub KeyShown : Base → St → Type 0
KeyShown b = Shown b.checked.now.graph b.events

-- the rule by the table's key
abbrev pub Kept : WordTable → St → Type 0
Kept w = KeyShown w.table.shared.key

number_in : (l : List ℕ) → 0 < length l → (n : ℕ) × (ns : List ℕ) × (l ≡ n ∷ ns)
number_in [] h = absurd (omega arith)
number_in (n ∷ ns) h = (n, ns, refl)

module _ (w : WordTable) where
  abbrev g : GraphValue
  g = graph_of w

  at_key : (n id : ℕ) (m : Sat) (i : ℕ) (f : ℕ → ℕ) (t : ℕ → Sat → Type 0) → Allows (Shown g (events_of w)) n id m i f t → Allows (Kept w) n id m i f t
  at_key n id m i f t a = subst (λ (b : Base). Allows (KeyShown b) n id m i f t) (sym w.keyed) a

  pub split_step : (id : ℕ) (v : View) → IsNumbered v → Splits (Kept w) id v (parent_of v) (child_of v)
  split_step id v own = subst (λ (b : Base). Splits (KeyShown b) id v (parent_of v) (child_of v)) (sym w.keyed) (let q = number_in v.mine own in splits g (events_of w) id v q.0 q.1 q.2)

  pub join_step : (id other : ℕ) (v u : View) → IsNumbered v → HasNoRights u → Joins (Kept w) id v other u (joined v u) no_view
  join_step id other v u own free = subst (λ (b : Base). Joins (KeyShown b) id v other u (joined v u) no_view) (sym w.keyed) (let q = number_in v.mine own in joins g (events_of w) id other v u q.0 q.1 q.2 free)

  pub look_step : (n id i : ℕ) (m : Sat) → i < length g.lines → Allows (Kept w) n id m i (λ k. k) (looked i m)
  look_step n id i m near = at_key n id m i (λ k. k) (looked i m) (looks g (events_of w) n id i m near)

  pub claim_step : (n id i : ℕ) (m : Sat) → i < length g.lines → m.0.claim ≡ None → IsNumbered m.0 → never_comes g i ≡ false → Sources g i m.0 → Allows (Kept w) n id m i (λ k. either (k == 2) 3 k) (claims i m)
  claim_step n id i m near idle own comes sources = at_key n id m i (λ k. either (k == 2) 3 k) (claims i m) (claims_allow g (events_of w) n id i m near idle (number_in m.0.mine own) comes sources)

  pub turn_step : (n id i c : ℕ) (m : Sat) → c < length (columns g) → Has m.0 (λ cl. (cl.line ≡ i) × MayTake g c cl)
      → (word : ℕ) → word ≡ turn_word (size_of g) c → Allows (Kept w) n id m word (λ k. either (k == 0) (i + 1) k) (turns word m)
  turn_step n id i c m near (cl, has, (line, may)) word is_word = subst (λ word. Allows (Kept w) n id m word (λ k. either (k == 0) (i + 1) k) (turns word m)) (sym is_word) (at_key n id m (turn_word (size_of g) c) (λ k. either (k == 0) (i + 1) k) (turns (turn_word (size_of g) c) m)
      (subst (λ j. Allows (Shown g (events_of w)) n id m (turn_word (size_of g) c) (λ k. either (k == 0) (j + 1) k) (turns (turn_word (size_of g) c) m)) line
      (turns_allow g (events_of w) n id c m cl has near may)))

  pub take_share_step : (n id i c j : ℕ) (m : Sat) → c < length (columns g) → j < share_count g c → Has m.0 (λ cl. (cl.line ≡ i) × MayTakeShare g c j cl)
      → (word : ℕ) → word ≡ share_word (size_of g) c j → Allows (Kept w) n id m word (λ k. either (k == 0) (i + 1) k) (takes_share word m)
  take_share_step n id i c j m near few (cl, has, (line, may)) word is_word = subst (λ word. Allows (Kept w) n id m word (λ k. either (k == 0) (i + 1) k) (takes_share word m)) (sym is_word) (at_key n id m (share_word (size_of g) c j) (λ k. either (k == 0) (i + 1) k) (takes_share (share_word (size_of g) c j) m)
      (subst (λ l. Allows (Shown g (events_of w)) n id m (share_word (size_of g) c j) (λ k. either (k == 0) (l + 1) k) (takes_share (share_word (size_of g) c j) m)) line
      (takes_allow g (events_of w) n id c j m cl has near few may)))

  pub give_share_step : (n id c j : ℕ) (m : Sat) → c < length (columns g) → j < share_count g c → MayGiveShare g c j m
      → (word : ℕ) → word ≡ share_word (size_of g) c j → Allows (Kept w) n id m word (λ _. 0) (λ _. gives_share m)
  give_share_step n id c j m near few may word is_word = subst (λ word. Allows (Kept w) n id m word (λ _. 0) (λ _. gives_share m)) (sym is_word) (at_key n id m (share_word (size_of g) c j) (λ _. 0) (λ _. gives_share m) (gives_allow g (events_of w) n id c j m.0 m.1 near few may))

  pub read_back_step : (n id c j : ℕ) (m : Sat) → c < length (columns g) → j < share_count g c → MayReadBack g c j m
      → (word : ℕ) → word ≡ share_word (size_of g) c j → Allows (Kept w) n id m word (λ _. 0) (λ _. reads_back m)
  read_back_step n id c j m near few may word is_word = subst (λ word. Allows (Kept w) n id m word (λ _. 0) (λ _. reads_back m)) (sym is_word) (at_key n id m (share_word (size_of g) c j) (λ _. 0) (λ _. reads_back m) (reads_allow g (events_of w) n id c j m.0 m.1 near few may))

  pub return_step : (n id c : ℕ) (m : Sat) (left : List (ℕ × Content)) (cl : Claim) (ks xs : List ℕ) (more : List (ℕ × List ℕ)) → m.0.claim ≡ Some cl → IsFirst c ks more cl → Tops g c xs m.1 left → xs ≡ home_cells g ks c
      → (word : ℕ) → word ≡ turn_word (size_of g) c → Allows (Kept w) n id m word (λ _. 0) (λ _. returns_unused m)
  return_step n id c m left cl ks xs more has first tops is word is_word = subst (λ word. Allows (Kept w) n id m word (λ _. 0) (λ _. returns_unused m)) (sym is_word) (at_key n id m (turn_word (size_of g) c) (λ _. 0) (λ _. returns_unused m) (returns_allow g (events_of w) n id c m.0 m.1 left cl ks xs more has first tops is))

  pub put_step : (n id c : ℕ) (m : Sat) (left : List (ℕ × Content)) (cl : Claim) (ks xs : List ℕ) (more : List (ℕ × List ℕ)) → m.0.claim ≡ Some cl → IsFirst c ks more cl → Tops g c xs m.1 left → xs ≡ put_cells g cl.line ks c
      → (word : ℕ) → word ≡ turn_word (size_of g) c → Allows (Kept w) n id m word (λ _. 0) (λ _. puts_back m)
  put_step n id c m left cl ks xs more has first tops is word is_word = subst (λ word. Allows (Kept w) n id m word (λ _. 0) (λ _. puts_back m)) (sym is_word) (at_key n id m (turn_word (size_of g) c) (λ _. 0) (λ _. puts_back m) (puts_allow g (events_of w) n id c m.0 m.1 left cl ks xs more has first tops is))

  pub hold_step : (n id i l : ℕ) (m : Sat) → l < length (locks g) → length g.lines ≤ 65536 → MayLock g i l m.0 → line_passes is_shared g i ≡ false
      → (word : ℕ) → word ≡ lock_word (size_of g) l → Allows (Kept w) n id m word (λ k. either (k == 0) (alone_code i) k) (holds word m)
  hold_step n id i l m near few may own word is_word = subst (λ word. Allows (Kept w) n id m word (λ k. either (k == 0) (alone_code i) k) (holds word m)) (sym is_word) (at_key n id m (lock_word (size_of g) l) (λ k. either (k == 0) (alone_code i) k) (holds (lock_word (size_of g) l) m)
      (subst (λ j. Allows (Shown g (events_of w)) n id m (lock_word (size_of g) l) (λ k. either (k == 0) (alone_code j) k) (holds (lock_word (size_of g) l) m)) may.is_line
      (holds_allow g (events_of w) n id l m may.claim may.has near few may.going (subst (λ j. Acquires g j l) (sym may.is_line) may.acquires) (subst (λ j. eval_end g j ≢ Cancelled) (sym may.is_line) may.real) (ap (line_passes is_shared g) may.is_line ∙ own))))

  pub look_at_lock_step : (n id l : ℕ) (m : Sat) → l < length (locks g) → (word : ℕ) → word ≡ lock_word (size_of g) l → Allows (Kept w) n id m word (λ k. k) (missed word m)
  look_at_lock_step n id l m near word is_word = subst (λ word. Allows (Kept w) n id m word (λ k. k) (missed word m)) (sym is_word) (at_key n id m (lock_word (size_of g) l) (λ k. k) (missed (lock_word (size_of g) l) m) (loads_allow g (events_of w) n id l m))

  pub share_step : (n id i l before : ℕ) (m : Sat) → l < length (locks g) → MayLock g i l m.0 → line_passes is_shared g i ≡ true → before < half
      → (word : ℕ) → word ≡ lock_word (size_of g) l → Allows (Kept w) n id m word (λ k. either (k == before) (before + 1) k) (shares word before m)
  share_step n id i l before m near may own low word is_word = subst (λ word. Allows (Kept w) n id m word (λ k. either (k == before) (before + 1) k) (shares word before m)) (sym is_word) (at_key n id m (lock_word (size_of g) l) (λ k. either (k == before) (before + 1) k) (shares (lock_word (size_of g) l) before m)
      (shares_allow g (events_of w) n id l m may.claim may.has near before low may.going may.untaken (subst (λ j. Acquires g j l) (sym may.is_line) may.acquires) (subst (λ j. eval_end g j ≢ Cancelled) (sym may.is_line) may.real) (ap (line_passes is_shared g) may.is_line ∙ own)))

  pub let_go_alone_step : (n id l : ℕ) (m : Sat) (cl : Claim) → m.0.claim ≡ Some cl → l < length (locks g) → Acquires g cl.line l → cl.holds ≡ true → cl.time ≡ None → line_passes is_shared g cl.line ≡ false
      → (word : ℕ) → word ≡ lock_word (size_of g) l → Allows (Kept w) n id m word (λ _. 0) (λ _. lets_go m)
  let_go_alone_step n id l m cl has near acquires held untimed own word is_word = subst (λ word. Allows (Kept w) n id m word (λ _. 0) (λ _. lets_go m)) (sym is_word)
      (at_key n id m (lock_word (size_of g) l) (λ _. 0) (λ _. lets_go m) (lets_go_alone g (events_of w) n id l m cl has near acquires held untimed own))

  pub let_go_shared_step : (n id l : ℕ) (m : Sat) (cl : Claim) → m.0.claim ≡ Some cl → l < length (locks g) → length g.lines ≤ 65536 → Acquires g cl.line l → cl.holds ≡ true → cl.time ≡ None → line_passes is_shared g cl.line ≡ true
      → (word : ℕ) → word ≡ lock_word (size_of g) l → Allows (Kept w) n id m word (λ k. (k + (2 ^ 64 - 1)) % 2 ^ 64) (λ _. lets_go m)
  let_go_shared_step n id l m cl has near few acquires held untimed own word is_word = subst (λ word. Allows (Kept w) n id m word (λ k. (k + (2 ^ 64 - 1)) % 2 ^ 64) (λ _. lets_go m)) (sym is_word)
      (at_key n id m (lock_word (size_of g) l) (λ k. (k + (2 ^ 64 - 1)) % 2 ^ 64) (λ _. lets_go m) (lets_go_shared g (events_of w) n id l m cl has near acquires held untimed few own))

  pub free_alone_step : (n id l q : ℕ) (m : Sat) (cl : Claim) (x : End) → m.0.claim ≡ Some cl → l < length (locks g) → cl.ends ≡ Some x → Releases g cl.line q → Acquires g q l → Contains m.0.ended (q, Done) → cl.freed ≡ false → line_passes is_shared g q ≡ false
      → (word : ℕ) → word ≡ lock_word (size_of g) l → Allows (Kept w) n id m word (λ _. 0) (λ _. frees m)
  free_alone_step n id l q m cl x has near over releases acquires done not_yet own word is_word = subst (λ word. Allows (Kept w) n id m word (λ _. 0) (λ _. frees m)) (sym is_word)
      (at_key n id m (lock_word (size_of g) l) (λ _. 0) (λ _. frees m) (frees_alone g (events_of w) n id l m cl has near q x over releases acquires done not_yet own))

  pub free_shared_step : (n id l q : ℕ) (m : Sat) (cl : Claim) (x : End) → m.0.claim ≡ Some cl → l < length (locks g) → length g.lines ≤ 65536 → cl.ends ≡ Some x → Releases g cl.line q → Acquires g q l → Contains m.0.ended (q, Done) → cl.freed ≡ false → line_passes is_shared g q ≡ true
      → (word : ℕ) → word ≡ lock_word (size_of g) l → Allows (Kept w) n id m word (λ k. (k + (2 ^ 64 - 1)) % 2 ^ 64) (λ _. frees m)
  free_shared_step n id l q m cl x has near few over releases acquires done not_yet own word is_word = subst (λ word. Allows (Kept w) n id m word (λ k. (k + (2 ^ 64 - 1)) % 2 ^ 64) (λ _. frees m)) (sym is_word)
      (at_key n id m (lock_word (size_of g) l) (λ k. (k + (2 ^ 64 - 1)) % 2 ^ 64) (λ _. frees m) (frees_shared g (events_of w) n id l m cl has near q x over releases acquires done not_yet few own))

  pub arrive_step : (n id p x : ℕ) (o : Op) (f : ℕ → ℕ) (m : Sat) (cl : Claim) → ((k : ℕ) → f k ≡ combined o k x) → m.0.claim ≡ Some cl → p < length g.lines → cl.ends ≡ None → value_for g p cl.line ≡ Some x → eval_end g cl.line ≢ Cancelled → cl.arrived ≡ false
      → ((b : ℕ) (y : BarrierInfo) → verb_at g p ≡ Some (Phase b) → slice_get (barriers g) b ≡ Some y → y.op ≡ o)
      → (word : ℕ) → word ≡ value_word (size_of g) p → Allows (Kept w) n id m word f (λ _. arrives m)
  arrive_step n id p x o f m cl by has near going brings real new barrier word is_word = subst (λ word. Allows (Kept w) n id m word f (λ _. arrives m)) (sym is_word) (at_key n id m (value_word (size_of g) p) f (λ _. arrives m) (arrives_allow g (events_of w) n id p x o f m cl by has near going brings real new barrier))

  pub draw_step : (word : ℕ) → word ≡ clock_word (size_of g) → (n id : ℕ) (m : Sat) (cl : Claim) → m.0.claim ≡ Some cl → length g.lines ≤ 65536 → cl.ends ≡ None → cl.time ≡ None → ((l : ℕ) → Acquires g cl.line l → eval_end g cl.line ≢ Cancelled → cl.holds ≡ true)
      → Allows (Kept w) n id m word (λ k. (k + 1) % 2 ^ 64) (draws m)
  draw_step word is_word n id m cl has few going untimed held = subst (λ word. Allows (Kept w) n id m word (λ k. (k + 1) % 2 ^ 64) (draws m)) (sym is_word) (at_key n id m (clock_word (size_of g)) (λ k. (k + 1) % 2 ^ 64) (draws m) (draws_allow g (events_of w) n id m cl has few going untimed held))

  pub store_step : (n id t : ℕ) (m : Sat) (cl : Claim) → m.0.claim ≡ Some cl → cl.time ≡ Some t → cl.stored ≡ false → (word : ℕ) → word ≡ time_word (size_of g) cl.line → Allows (Kept w) n id m word (λ _. t + 1) (λ _. stores m)
  store_step n id t m cl has timed owed word is_word = subst (λ word. Allows (Kept w) n id m word (λ _. t + 1) (λ _. stores m)) (sym is_word) (at_key n id m (time_word (size_of g) cl.line) (λ _. t + 1) (λ _. stores m) (stores_allow g (events_of w) n id t m cl has timed owed))

  pub end_step : (n id : ℕ) (m : Sat) (cl : Claim) (x : End) → m.0.claim ≡ Some cl → IsThrough g cl x → Allows (Kept w) n id m cl.line (λ _. 4 + end_code x) (λ _. ends (4 + end_code x) m)
  end_step n id m cl x has th = at_key n id m cl.line (λ _. 4 + end_code x) (λ _. ends (4 + end_code x) m) (ends_allow g (events_of w) n id m cl x has th)

  pub close_step : (n id : ℕ) (m : Sat) (left : List (ℕ × Content)) (cl : Claim) (x : End) (receipt : Receipt) → m.0.claim ≡ Some cl → IsOver g cl x → m.1 ≡ (cl.line, EventReceipt receipt) ∷ left → IsReceiptOf (events_of w) receipt → ended_by receipt ≡ cl.event → fate_of receipt ≡ fate_for x
      → Allows (Kept w) n id m cl.line (λ _. 8 + end_code x) (λ _. closes cl.line (8 + end_code x) m)
  close_step n id m left cl x receipt has over tops of named told = at_key n id m cl.line (λ _. 8 + end_code x) (λ _. closes cl.line (8 + end_code x) m) (closes_allow g (events_of w) n id m.0 m.1 left cl x receipt has over tops of named told)

  pub unclaim_step : (n id : ℕ) (m : Sat) (left : List (ℕ × Content)) (cl : Claim) (pending : Pending) → m.0.claim ≡ Some cl → IsBare cl → m.1 ≡ (cl.line, PendingEvent pending) ∷ left → IsPendingOf (events_of w) pending → handle_of pending ≡ cl.event
      → Allows (Kept w) n id m cl.line (λ _. 2) (λ _. unclaims m)
  unclaim_step n id m left cl pending has bare tops of named = at_key n id m cl.line (λ _. 2) (λ _. unclaims m) (unclaims_allow g (events_of w) n id m.0 m.1 left cl pending has bare tops of named)

  pub take_issue_turn_step : (word : ℕ) → word ≡ issue_turn_word (size_of g) → (n id : ℕ) (m : Sat) → m.0.issue_turn ≡ None → IsNumbered m.0 → Allows (Kept w) n id m word (λ k. either (k == 0) 1 k) (takes_issue_turn word m)
  take_issue_turn_step word is_word n id m idle own = subst (λ word. Allows (Kept w) n id m word (λ k. either (k == 0) 1 k) (takes_issue_turn word m)) (sym is_word) (at_key n id m (issue_turn_word (size_of g)) (λ k. either (k == 0) 1 k) (takes_issue_turn (issue_turn_word (size_of g)) m) (takes_issue_turn_allow g (events_of w) n id m idle (number_in m.0.mine own)))

  pub give_issue_turn_step : (word : ℕ) → word ≡ issue_turn_word (size_of g) → (n id : ℕ) (m : Sat) (left : List (ℕ × Content)) (hs : List Handle) (issue_state : IssueState) → m.0.issue_turn ≡ Some hs → m.0.issuing ≡ None → m.1 ≡ (issue_turn_slot (size_of g), Issuer issue_state) ∷ left → IsIssueState (events_of w) (length g.lines) hs issue_state
      → Allows (Kept w) n id m word (λ _. 0) (λ _. gives_issue_turn m)
  give_issue_turn_step word is_word n id m left hs issue_state turn quiet tops is_issue_state = subst (λ word. Allows (Kept w) n id m word (λ _. 0) (λ _. gives_issue_turn m)) (sym is_word) (at_key n id m (issue_turn_word (size_of g)) (λ _. 0) (λ _. gives_issue_turn m) (gives_issue_turn_allow g (events_of w) n id m.0 m.1 left hs issue_state turn quiet tops is_issue_state))

  pub begin_issue_step : (n id i : ℕ) (m : Sat) (hs : List Handle) → i < length g.lines → m.0.issue_turn ≡ Some hs → length hs ≡ i → m.0.issuing ≡ None → Allows (Kept w) n id m i (λ k. either (k == 0) 1 k) (begins_issue i m)
  begin_issue_step n id i m hs near turn next quiet = at_key n id m i (λ k. either (k == 0) 1 k) (begins_issue i m) (begins_issue_allow g (events_of w) n id i m hs near turn next quiet)

  pub issue_step : (n id i : ℕ) (m : Sat) (left : List (ℕ × Content)) (hs : List Handle) (pending : Pending) → i < length g.lines → m.0.issue_turn ≡ Some hs → m.0.issuing ≡ Some i → length hs ≡ i → m.1 ≡ (i, PendingEvent pending) ∷ left → IsPendingOf (events_of w) pending → (Contains hs (handle_of pending) → ⊥)
      → Allows (Kept w) n id m i (λ _. 2) (λ _. issues i m)
  issue_step n id i m left hs pending near turn mine next tops of new = at_key n id m i (λ _. 2) (λ _. issues i m) (issues_allow g (events_of w) n id i m.0 m.1 left hs pending near turn mine next tops of new)

  pub give_up_issue_step : (n id i : ℕ) (m : Sat) (left : List (ℕ × Content)) (hs : List Handle) → i < length g.lines → m.0.issue_turn ≡ Some hs → m.0.issuing ≡ Some i → m.1 ≡ (i, Nothing) ∷ left → Allows (Kept w) n id m i (λ _. 0) (λ _. gives_up_issue m)
  give_up_issue_step n id i m left hs near turn mine tops = at_key n id m i (λ _. 0) (λ _. gives_up_issue m) (gives_up_issue_allow g (events_of w) n id i m.0 m.1 left hs near turn mine tops)

  -- the steps of the line of a claim, by its number
  pub end_step_at : (n id i k : ℕ) (m : Sat) (cl : Claim) (x : End) → m.0.claim ≡ Some cl → cl.line ≡ i → k ≡ 4 + end_code x → IsThrough g cl x → Allows (Kept w) n id m i (λ _. k) (λ _. ends k m)
  end_step_at n id i k m cl x has line code th = subst (λ y. Allows (Kept w) n id m i (λ _. y) (λ _. ends y m)) (sym code) (subst (λ j. Allows (Kept w) n id m j (λ _. 4 + end_code x) (λ _. ends (4 + end_code x) m)) line (end_step n id m cl x has th))

  pub close_step_at : (n id i k : ℕ) (m : Sat) (left : List (ℕ × Content)) (cl : Claim) (x : End) (receipt : Receipt) → m.0.claim ≡ Some cl → cl.line ≡ i → k ≡ 8 + end_code x → IsOver g cl x → m.1 ≡ (i, EventReceipt receipt) ∷ left → IsReceiptOf (events_of w) receipt → ended_by receipt ≡ cl.event → fate_of receipt ≡ fate_for x
      → Allows (Kept w) n id m i (λ _. k) (λ _. closes i k m)
  close_step_at n id i k m left cl x receipt has line code over tops of named told =
      subst (λ y. Allows (Kept w) n id m i (λ _. y) (λ _. closes i y m)) (sym code)
      (subst (λ j. Allows (Kept w) n id m j (λ _. 8 + end_code x) (λ _. closes j (8 + end_code x) m)) line
      (close_step n id m left cl x receipt has over (subst (λ j. m.1 ≡ (j, EventReceipt receipt) ∷ left) (sym line) tops) of named told))

  pub unclaim_step_at : (n id i : ℕ) (m : Sat) (left : List (ℕ × Content)) (cl : Claim) (pending : Pending) → m.0.claim ≡ Some cl → cl.line ≡ i → IsBare cl → m.1 ≡ (i, PendingEvent pending) ∷ left → IsPendingOf (events_of w) pending → handle_of pending ≡ cl.event
      → Allows (Kept w) n id m i (λ _. 2) (λ _. unclaims m)
  unclaim_step_at n id i m left cl pending has line bare tops of named =
      subst (λ j. Allows (Kept w) n id m j (λ _. 2) (λ _. unclaims m)) line (unclaim_step n id m left cl pending has bare (subst (λ j. m.1 ≡ (j, PendingEvent pending) ∷ left) (sym line) tops) of named)
