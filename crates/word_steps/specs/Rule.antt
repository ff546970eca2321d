-- The rule of the table of a run: its words, its slots at home and the views of its seats show one sound state of a run.
use Rattle.std.specs.Prelude.{◌≡◌, ℕ, zero, suc, ◌+◌, ◌<◌, ◌≤◌, ◌↔◌, ◌≢◌, ◌⊎◌, List, [], ◌∷◌, length, Contains, IsTrue, cond, Option, Some, None, slice_get, slice_index, slice_index_or}
use Rattle.std.specs.Option.{option_map_or}
use Rattle.std.specs.Vec.{vec_capacity}
use Rattle.basics.specs.Lists.{count_below}
use mathlib.Core.Option.{none, some}
use lib.ListN.{get_elem?}
use Rattle.atomic_table.specs.Table.{State}
use Rattle.index_spaces.specs.Column.{ColumnValue}
use Rattle.graph_terms.specs.declared.outcome.End.{End}
use Rattle.graph_terms.specs.declared.outcome.End.TheVariants.{Done, Faulted, Cancelled, Waiting}
use Rattle.graph_terms.specs.Graph.{GraphValue, columns, column_space, line_passes, is_shared}
use Rattle.graph_terms.specs.Reservations.{Acquires}
use Rattle.basics.specs.Sums.{total, only}
use Rattle.shared_events.specs.Seats.{HasSeen, no_event, Begins}
use Rattle.shared_events.specs.Views.{lists, IsAt, IsMakerOf, IsPendingOf, IsReceiptOf, IsWaiterOf, made_by, handle_of, ended_by, fate_of, number_of}
use Rattle.event_table.specs.declared.handle.Handle.{Handle}
use Rattle.event_table.specs.declared.handle.Fate.{Fate}
use Rattle.event_table.specs.declared.handle.Fate.TheVariants.{Ok, Poison}
use Rattle.shared_events.specs.declared.tokens.Pending.{Pending}
use Rattle.shared_events.specs.declared.tokens.Receipt.{Receipt}
use Rattle.shared_events.specs.declared.tokens.Waiter.{Waiter}
use Rattle.shared_events.specs.declared.events.Events.{Events}
use Rattle.run_state.specs.Run.{LineStage, Unissued, Issued, Out, Ending, Ended, Place, Home, Had, Run, is_listed, stage_at, time_at, place_at, list_at, issued, out, ended}
use Rattle.run_state.specs.Sound.{Sound}
use Rattle.word_steps.specs.declared.content.IssueState.{IssueState}
use Rattle.word_steps.specs.declared.content.Content.{Content}
use Rattle.word_steps.specs.declared.content.Content.TheVariants.{Nothing, PendingEvent, EventReceipt, Share, Issuer}
use Rattle.word_steps.specs.declared.view.View.{View}
use Rattle.word_steps.specs.Claims.{Ground, Claim, TakenShare}
use Rattle.word_steps.specs.Lending.{home_for, count_for}
use Rattle.share_words.specs.Shares.{share_count}
use Rattle.index_spaces.specs.Shares.{ShareValue}
use Rattle.word_steps.specs.Layout.{Size, size_of, alone_code, status_word, time_word, value_word, turn_word, share_word, lock_word, clock_word, issue_turn_word, word_count, line_slot, column_slot, share_slot, issue_turn_slot, slot_count}
use Rattle.word_steps.specs.Views.{time_code, runs_at, issues_at, owes_at, has_issue_turn, busy, working}

-- the graph of a run with the events of its lines
abbrev pub ground_of : GraphValue → Events → Ground
ground_of g e = record { graph = g; events = e }

-- LINES. The code of an end
abbrev pub end_code : End → ℕ
end_code Done = 0
end_code Faulted = 1
end_code Cancelled = 2
end_code Waiting = 3

-- the fate with which the event of a line ends
abbrev pub fate_for : End → Fate
fate_for Done = Ok
fate_for Faulted = Poison
fate_for Cancelled = Poison
fate_for Waiting = Ok

-- at home lies the event that has this handle
pub record HasPending (e : Events) (h : Handle) (home : mathlib.Core.Option.Option Content) : Type 0 where
  pub pending : Pending
  pub here : home ≡ some (PendingEvent pending)
  pub of : IsPendingOf e pending
  pub named : handle_of pending ≡ h

-- at home lies its receipt, with the fate of this end
pub record HasReceipt (e : Events) (h : Handle) (x : End) (home : mathlib.Core.Option.Option Content) : Type 0 where
  pub receipt : Receipt
  pub here : home ≡ some (EventReceipt receipt)
  pub of : IsReceiptOf e receipt
  pub named : ended_by receipt ≡ h
  pub told : fate_of receipt ≡ fate_for x

-- the word and the slot of a line of this stage, which k seats are issuing
abbrev pub LineShown : Events → Handle → LineStage → ℕ → ℕ → mathlib.Core.Option.Option Content → Type 0
LineShown e h Unissued zero w home = (w ≡ 0) × (home ≡ some Nothing)
LineShown e h Unissued (suc k) w home = (k ≡ 0) × (w ≡ 1) × (home ≡ none)
LineShown e h Issued k w home = (k ≡ 0) × (w ≡ 2) × HasPending e h home
LineShown e h Out k w home = (k ≡ 0) × (w ≡ 3) × (home ≡ none)
LineShown e h (Ending x) k w home = (k ≡ 0) × (w ≡ 4 + end_code x) × (home ≡ none)
LineShown e h (Ended x) k w home = (k ≡ 0) × (w ≡ 8 + end_code x) × HasReceipt e h x home

-- the same, with what is at home in this slot
pub record LineAt (e : Events) (h : Handle) (stage : LineStage) (k w : ℕ) (homes : List (mathlib.Core.Option.Option Content)) (slot : ℕ) : Type 0 where
  pub home : mathlib.Core.Option.Option Content
  pub at : get_elem? homes slot ≡ some home
  pub shown : LineShown e h stage k w home

-- the handle of line i, and no_event where it is not issued
abbrev pub handle_at : List Handle → ℕ → Handle
handle_at handles i = slice_index_or handles i no_event

-- COLUMNS. Column c with these cells
abbrev pub column_with : GraphValue → ℕ → List ℕ → ColumnValue
column_with g c xs = record { space = column_space g c; cells = xs }

-- LOANS. What is lent of each column: the number of its lending, and who has each share, as one more than the number of the line, or 0
pub record Loans : Type 0 where
  pub lending : ℕ → ℕ
  pub holder : ℕ → ℕ → ℕ

-- what the slot of a column with these cells has at home: the column, or where it has shares the right to have it back
abbrev pub home_content : GraphValue → ℕ → ℕ → List ℕ → Content
home_content g c d xs = home_for (share_count g c) d (column_with g c xs)

-- how many shares of a lending lie in share j
abbrev pub count_of : GraphValue → ℕ → ℕ → ℕ
count_of g c j = count_for (share_count g c) j

-- share j of column c, of lending d, where it has these cells
abbrev pub share_value : GraphValue → ℕ → ℕ → ℕ → List ℕ → ShareValue
share_value g c j d xs = record { column = column_with g c xs; lending = d; count = count_of g c j }

-- the word and the slot of a column at this place
abbrev pub ColumnShown : GraphValue → ℕ → ℕ → Place → ℕ → mathlib.Core.Option.Option Content → Type 0
ColumnShown g c d (Home xs) w home = (w ≡ 0) × (home ≡ some (home_content g c d xs))
ColumnShown g c d (Had i) w home = (w ≡ i + 1) × (home ≡ none)

-- the same, with what is at home in this slot
pub record ColumnAt (g : GraphValue) (c d : ℕ) (place : Place) (w : ℕ) (homes : List (mathlib.Core.Option.Option Content)) (slot : ℕ) : Type 0 where
  pub home : mathlib.Core.Option.Option Content
  pub at : get_elem? homes slot ≡ some home
  pub shown : ColumnShown g c d place w home

-- the slot of share j of a column at this place, which this line has, or 0 for nobody. Nobody has a share only where the column is at home
abbrev pub ShareShown : GraphValue → ℕ → ℕ → ℕ → Place → ℕ → mathlib.Core.Option.Option Content → Type 0
ShareShown g c j d place zero home = (xs : List ℕ) × (place ≡ Home xs) × (home ≡ some (Share (share_value g c j d xs)))
ShareShown g c j d place (suc i) home = home ≡ none

-- the same, with what is at home in this slot
pub record ShareAt (g : GraphValue) (c j d : ℕ) (place : Place) (who : ℕ) (homes : List (mathlib.Core.Option.Option Content)) (slot : ℕ) : Type 0 where
  pub home : mathlib.Core.Option.Option Content
  pub at : get_elem? homes slot ≡ some home
  pub shown : ShareShown g c j d place who home

-- RESERVATIONS. The holder that is exclusive, if there is one
abbrev pub alone_in : GraphValue → List ℕ → Option ℕ
alone_in g [] = None
alone_in g (q ∷ qs) = cond (line_passes is_shared g q) (alone_in g qs) (Some q)

-- the word of one with these holders: it tells the one that is exclusive, or else how many there are
abbrev pub lock_code : GraphValue → List ℕ → ℕ
lock_code g qs = option_map_or alone_code (alone_in g qs) (count_below (is_listed qs) (length g.lines))

-- THE ISSUE STATE, where these are the handles of the lines
pub record IsIssueState (e : Events) (lines : ℕ) (handles : List Handle) (d : IssueState) : Type 0 where
  pub maker : IsMakerOf e d.maker
  pub made : made_by d.maker ≡ handles
  pub listed : d.handles.items ≡ handles
  pub room : lines ≤ vec_capacity d.handles
  pub seat : IsAt e d.seat
  pub seen : (h : Handle) → Contains handles h → HasSeen (lists d.seat) h
  pub created : (h : Handle) → Contains handles h → h ≢ no_event
  pub places : length d.waiters.items ≡ lines
  pub waiters : (k : ℕ) (w : Waiter) → slice_get d.waiters.items k ≡ Some (Some w) → (number_of w ≡ k) × IsWaiterOf e w

-- at home lies an issue state with these handles
pub record HasIssueState (e : Events) (lines : ℕ) (handles : List Handle) (home : mathlib.Core.Option.Option Content) : Type 0 where
  pub issue_state : IssueState
  pub here : home ≡ some (Issuer issue_state)
  pub is_issue_state : IsIssueState e lines handles issue_state

-- the word and the slot of the issue state, whose turn k seats have
abbrev pub IssueTurnShown : Events → ℕ → List Handle → ℕ → ℕ → mathlib.Core.Option.Option Content → Type 0
IssueTurnShown e lines handles zero w home = (w ≡ 0) × HasIssueState e lines handles home
IssueTurnShown e lines handles (suc k) w home = (k ≡ 0) × (w ≡ 1) × (home ≡ none)

-- the same, with what is at home in this slot
pub record IssueTurnAt (e : Events) (lines : ℕ) (handles : List Handle) (k w : ℕ) (homes : List (mathlib.Core.Option.Option Content)) (slot : ℕ) : Type 0 where
  pub home : mathlib.Core.Option.Option Content
  pub at : get_elem? homes slot ≡ some home
  pub shown : IssueTurnShown e lines handles k w home

-- the handles are those of the issued lines, in file order, and differ
pub record AreHandles (stages : List LineStage) (handles : List Handle) : Type 0 where
  pub each_issued : (i : ℕ) → IsTrue (issued stages i) ↔ (i < length handles)
  pub once : (a b : ℕ) (h : Handle) → slice_get handles a ≡ Some h → slice_get handles b ≡ Some h → a ≡ b

-- ALL WORDS AND SLOTS show this run and these handles, where the seats issue, owe and have as much as is told
pub record WordsShow (g : GraphValue) (e : Events) (z : Size) (run : Run) (loans : Loans) (handles : List Handle) (issues owes : ℕ → ℕ) (issue_turns : ℕ) (words : List ℕ) (homes : List (mathlib.Core.Option.Option Content)) : Type 0 where
  pub wide : length words ≡ word_count z
  pub deep : length homes ≡ slot_count z
  pub lines : (i : ℕ) → i < z.lines → LineAt e (handle_at handles i) (stage_at run.stages i) (issues i) (slice_index words (status_word z i)) homes (line_slot z i)
  pub times : (i : ℕ) → i < z.lines → slice_index words (time_word z i) + owes i ≡ time_code (time_at run.times i)
  pub values : (p : ℕ) → p < z.lines → slice_index words (value_word z p) ≡ slice_index run.values p
  pub columns : (c : ℕ) → c < z.cols → ColumnAt g c (loans.lending c) (place_at run.places c) (slice_index words (turn_word z c)) homes (column_slot z c)
  pub share_words : (c j : ℕ) → c < z.cols → j < share_count g c → slice_index words (share_word z c j) ≡ loans.holder c j
  pub shares : (c j : ℕ) → c < z.cols → j < share_count g c → ShareAt g c j (loans.lending c) (place_at run.places c) (loans.holder c j) homes (share_slot z c j)
  -- the place of a share that a column has not
  pub spare : (c j : ℕ) → c < z.cols → share_count g c ≤ j → j < z.planes → get_elem? homes (share_slot z c j) ≡ some (some Nothing)
  pub locks : (l : ℕ) → l < z.holds → slice_index words (lock_word z l) ≡ lock_code g (list_at run.holders l)
  pub clock : slice_index words (clock_word z) ≡ run.clock
  pub issue_turn : IssueTurnAt e z.lines handles issue_turns (slice_index words (issue_turn_word z)) homes (issue_turn_slot z)

-- a line has ended, and this is its time
pub record HasEndedAt (run : Run) (i t : ℕ) : Type 0 where
  pub over : IsTrue (ended run.stages i)
  pub at : time_at run.times i ≡ Some t

-- A VIEW
-- a share of a line, that of its column while this is at home: it shows the column's cells, and is of its lending
pub record HasShare (g : GraphValue) (places : List Place) (loans : Loans) (line : ℕ) (s : TakenShare) : Type 0 where
  pub near : (s.column < length (columns g)) × (s.number < share_count g s.column)
  pub holder : loans.holder s.column s.number ≡ line + 1
  pub shows : ((place_at places s.column ≡ Home s.cells) × (loans.lending s.column ≡ s.lending)) ⊎ (place_at places s.column ≡ Had line)

-- no share stands twice
abbrev pub SharesDiffer : List TakenShare → Type 0
SharesDiffer [] = Unit {0}
SharesDiffer (s ∷ ss) = ((t : TakenShare) → Contains ss t → t.column ≡ s.column → t.number ≡ s.number → ⊥) × SharesDiffer ss

-- the shares of a line
pub record HasShares (g : GraphValue) (places : List Place) (loans : Loans) (line : ℕ) (shares : List TakenShare) : Type 0 where
  pub differ : SharesDiffer shares
  pub each : (s : TakenShare) → Contains shares s → HasShare g places loans line s
  -- it lists all that it has, and has all shares of a column that it has
  pub all : (k j : ℕ) → k < length (columns g) → j < share_count g k → loans.holder k j ≡ line + 1 → (s : TakenShare) × Contains shares s × (s.column ≡ k) × (s.number ≡ j)
  pub whole : (k j : ℕ) → place_at places k ≡ Had line → j < share_count g k → loans.holder k j ≡ line + 1

-- how far the work of a line has come
pub record Progress (g : GraphValue) (run : Run) (loans : Loans) (c : Claim) : Type 0 where
  pub stage : stage_at run.stages c.line ≡ working c.ends
  pub has : (k : ℕ) (ks : List ℕ) → Contains c.columns (k, ks) → (place_at run.places k ≡ Had c.line) × (list_at run.back k ≡ ks)
  pub only : (k : ℕ) → place_at run.places k ≡ Had c.line → (ks : List ℕ) × Contains c.columns (k, ks)
  pub shares : HasShares g run.places loans c.line c.shares
  pub puts : (k : ℕ) → is_listed (list_at run.back k) c.line ≡ is_listed c.puts k
  pub arrived : is_listed run.arrived c.line ≡ c.arrived
  pub holds : (l : ℕ) → Acquires g c.line l → is_listed (list_at run.holders l) c.line ≡ c.holds
  pub time : time_at run.times c.line ≡ c.time
  pub freed : is_listed run.freed c.line ≡ c.freed

-- what a seat knows and has holds of this run and these handles
pub record Fits (g : GraphValue) (e : Events) (run : Run) (loans : Loans) (handles : List Handle) (v : View) : Type 0 where
  pub keys : (x : Ground) → Contains v.keys x → x ≡ ground_of g e
  pub issued : (i : ℕ) → Contains v.issued i → IsTrue (issued run.stages i)
  pub ended : (i : ℕ) (x : End) → Contains v.ended (i, x) → stage_at run.stages i ≡ Ended x
  pub times : (i t : ℕ) → Contains v.times (i, t) → HasEndedAt run i t
  pub named : (hs : List Handle) → Contains v.named hs → Begins hs handles
  pub claim : (c : Claim) → v.claim ≡ Some c → Progress g run loans c
  pub event : (c : Claim) → v.claim ≡ Some c → handle_at handles c.line ≡ c.event
  -- it issues one line in the issue turn
  pub issuing : (i : ℕ) → v.issuing ≡ Some i → (stage_at run.stages i ≡ Unissued) × (i < length g.lines)
  pub issuer : (i : ℕ) → v.issuing ≡ Some i → (hs : List Handle) × (v.issue_turn ≡ Some hs)
  pub issue_turn : (hs : List Handle) → v.issue_turn ≡ Some hs → hs ≡ handles
  -- a seat that was joined away has no rights
  pub idle : v.mine ≡ [] → (v.claim ≡ None) × (v.issuing ≡ None) × (v.issue_turn ≡ None)

-- ALL THAT IS KNOWN. A seat that is there is such
abbrev pub OfSome : List View → (View → Type 0) → Type 0
OfSome views P = (j : ℕ) × (v : View) × (get_elem? views j ≡ some v) × (v.mine ≢ []) × P v

-- a seat knows all the handles, or has them with the issue turn
abbrev pub HasHandles : List Handle → View → Type 0
HasHandles handles v = Contains v.named handles ⊎ (v.issue_turn ≡ Some handles)

-- each line that is issued, each end, each time of an ended line and the list of all handles is known to a seat
pub record IsKnown (run : Run) (handles : List Handle) (views : List View) : Type 0 where
  pub issued : (i : ℕ) → IsTrue (issued run.stages i) → OfSome views (λ v. Contains v.issued i)
  pub ended : (i : ℕ) (x : End) → stage_at run.stages i ≡ Ended x → OfSome views (λ v. Contains v.ended (i, x))
  pub times : (i t : ℕ) → HasEndedAt run i t → OfSome views (λ v. Contains v.times (i, t))
  pub named : (handles ≡ []) ⊎ OfSome views (HasHandles handles)

-- NUMBERS. The number of the seat that is split off as the c-th of the seat with number p
abbrev pub child : ℕ → ℕ → ℕ
child p zero = p + p + 1
child p (suc c) = child p c + child p c

-- each seat has a number of its own, by which it is told whether all that were split off were joined
pub record AreNumbered (views : List View) : Type 0 where
  -- the numbers of seats that are there or were joined are 0 and those of seats that were split off
  pub counted : (f : ℕ → ℕ) → total (λ (v : View). total f v.mine) views ≡ f 0 + total (λ (v : View). total f v.splits) views
  -- no two seats have one number
  pub once : (n : ℕ) → total (λ (v : View). total (only n) v.mine) views ≤ 1
  -- a seat that was split off has a number above that of its parent
  pub above : (j : ℕ) (v : View) (n : ℕ) → get_elem? views j ≡ some v → Contains v.splits n → (p : ℕ) × Contains v.mine p × (p < n)
  -- and it was the next of the parent, which is there or was joined
  pub born : (j : ℕ) (v : View) (n : ℕ) → get_elem? views j ≡ some v → Contains v.splits n →
      (p c : ℕ) × (n ≡ child p c) × (0 < total (λ (u : View). total (only p) u.mine) views) × ((k : ℕ) (u : View) (rest : List ℕ) → get_elem? views k ≡ some u → u.mine ≡ p ∷ rest → c < u.births)

-- THE WHOLE RULE. Words, slots at home and views show one sound state of a run
pub record Shown (g : GraphValue) (e : Events) (s : State Content View) : Type 0 where
  pub run : Run
  pub loans : Loans
  pub handles : List Handle
  pub sound : Sound g run
  pub are_handles : AreHandles run.stages handles
  pub words : WordsShow g e (size_of g) run loans handles (λ i. total (issues_at i) s.views) (λ i. total (owes_at i) s.views) (total has_issue_turn s.views) s.words s.homes
  pub each_view : (j : ℕ) (v : View) → get_elem? s.views j ≡ some v → Fits g e run loans handles v
  -- the work of a line is with one seat where the line is out or ending, and else with none
  pub works : (i : ℕ) → total (runs_at i) s.views ≡ busy (stage_at run.stages i)
  -- only a line whose work is out has shares
  pub holders : (c j i : ℕ) → c < length (columns g) → j < share_count g c → loans.holder c j ≡ i + 1 → IsTrue (out run.stages i)
  pub numbers : AreNumbered s.views
  pub known : IsKnown run handles s.views

-- the view of the first seat
abbrev pub opener : GraphValue → Events → View
opener g e = record { keys = ground_of g e ∷ []; mine = 0 ∷ []; births = 0; splits = []; issued = []; ended = []; named = []; saw = []; issue_states = []; laid = []; gave_up = []; closed = []; times = []; let_go = []; claim = None; issuing = None; issue_turn = None }
