-- What each step tells: of the step, the seat before, the number found and the seat after. How views are cut and joined.
use Rattle.std.specs.Prelude.{◌≡◌, ◌≢◌, ℕ, zero, suc, ◌+◌, ◌-◌, ◌<◌, ◌≤◌, ◌==◌, nat_lt, cond, Bool, true, false, List, [], ◌∷◌, ◌++◌, length, Contains, IsTrue, Option, Some, None, option_map, slice_get}
use Rattle.atomic_table.specs.Table.{Me, rest}
use Rattle.basics.specs.Lists.{numbers_below}
use Rattle.graph_terms.specs.declared.limits.TheConstants.{MAX_LINES_OF_THREE}
use Rattle.graph_terms.specs.declared.outcome.End.{End}
use Rattle.graph_terms.specs.declared.outcome.End.TheVariants.{Done, Faulted, Cancelled, Waiting}
use Rattle.graph_meaning.specs.Path.{HasPath}
use Rattle.graph_meaning.specs.Evaluation.{evaluation, has_ended, eval_end, cells_of_lines, column_of}
use Rattle.shared_events.specs.Views.{IsPendingOf, handle_of}
use Rattle.event_table.specs.declared.handle.Handle.{Handle}
use Rattle.shared_events.specs.declared.tokens.Pending.{Pending}
use Rattle.run_state.specs.Run.{is_listed}
use Rattle.run_state.specs.Sound.{OnlyReads, home_cells}
use Rattle.run_state.specs.Sharing.{ChangesColumn}
use Rattle.run_state.specs.Work.{performed, put_cells, PerformsAsEvaluated}
use Rattle.graph_meaning.specs.Effect.{Cells as AllCells}
use Rattle.graph_terms.specs.Fits.{IsGraph}
use Rattle.graph_terms.specs.Graph.{GraphValue, columns, column_space}
use Rattle.index_spaces.specs.Space.{has_point}
use Rattle.index_spaces.specs.Column.{cell_of}
use Rattle.word_steps.specs.declared.content.Content.{Content}
use Rattle.word_steps.specs.declared.content.IssueState.{IssueState}
use Rattle.word_steps.specs.declared.content.Content.TheVariants.{Nothing, PendingEvent, EventReceipt, Cells, Lent, Share, Issuer}
use Rattle.word_steps.specs.declared.view.View.{View}
use Rattle.word_steps.specs.Claims.{Ground, Claim, TakenShare, new_claim}
use Rattle.share_words.specs.Shares.{share_count}
use Rattle.word_steps.specs.Layout.{size_of, turn_word, share_word, alone_code, column_slot, share_slot, issue_turn_slot}
use Rattle.word_steps.specs.Rule.{column_with, home_content, share_value, IsIssueState, child}

-- what a seat has: its view, and the slots in its hand with what they hold
abbrev pub Sat : Type 0
Sat = Me Content View

-- the two together
abbrev pub sat : View → List (ℕ × Content) → Sat
sat v h = (v, h)

-- LOADS. The end that a code stands for
abbrev pub end_of_code : ℕ → End
end_of_code zero = Done
end_of_code (suc zero) = Faulted
end_of_code (suc (suc zero)) = Cancelled
end_of_code (suc (suc (suc k))) = Waiting

-- line i is known issued where its word held r, if that shows it
abbrev pub issued_by : ℕ → ℕ → List ℕ
issued_by i r = cond (nat_lt r 2) [] (i ∷ [])

-- and known ended, with its end
abbrev pub ended_by : ℕ → ℕ → List (ℕ × End)
ended_by i r = cond (nat_lt r 8) [] ((i, end_of_code (r - 8)) ∷ [])

-- the seat found r in the word of line i
abbrev pub looked_at : View → ℕ → ℕ → View
looked_at v i r = record v { issued = v.issued ++ issued_by i r; ended = v.ended ++ ended_by i r; saw = v.saw ++ (i, r) ∷ [] }

-- the cells of these columns are as the lines put back on them left them, and those that are seen by shares alone are the ones that these show
pub record Agrees (g : GraphValue) (columns : List (ℕ × List ℕ)) (shares : List TakenShare) (cells : AllCells) : Type 0 where
  pub has : (c : ℕ) (ks : List ℕ) → Contains columns (c, ks) → (p : ℕ) → IsTrue (has_point (column_space g c) p) → cells c p ≡ cells_of_lines g (is_listed ks) c p
  pub sees : (s : TakenShare) → Contains shares s → ((ks : List ℕ) → Contains columns (s.column, ks) → ⊥) → (p : ℕ) → IsTrue (has_point (column_space g s.column) p) → cells s.column p ≡ cell_of (column_with g s.column s.cells) p

-- a line that finds its columns so ends as in the evaluation, leaves those that it only reads as they are, and on each other what it leaves there
pub record IsReady (g : GraphValue) (i : ℕ) (columns : List (ℕ × List ℕ)) (shares : List TakenShare) : Type 0 where
  pub graph : IsGraph g
  pub performs : (cells : AllCells) → Agrees g columns shares cells → PerformsAsEvaluated g i cells
  pub keeps : (cells : AllCells) → Agrees g columns shares cells → (s : TakenShare) → Contains shares s → ((ks : List ℕ) → Contains columns (s.column, ks) → ⊥) → OnlyReads g i s.column → (column_of g (performed g i cells) s.column).cells ≡ s.cells
  pub leaves : (cells : AllCells) → Agrees g columns shares cells → (c : ℕ) (ks : List ℕ) → Contains columns (c, ks) → (column_of g (performed g i cells) c).cells ≡ put_cells g i ks c

-- a line has the columns that it may change, and shares of those that it only reads
pub record HasAllColumns (g : GraphValue) (i : ℕ) (columns : List (ℕ × List ℕ)) (shares : List TakenShare) : Type 0 where
  pub has : (k : ℕ) → ChangesColumn g i k → (ks : List ℕ) × Contains columns (k, ks)
  pub sees : (k : ℕ) → OnlyReads g i k → (s : TakenShare) × Contains shares s × (s.column ≡ k)

-- what a seat is told by the word r of line i
pub record Told (v : View) (i r : ℕ) : Type 0 where
  pub few : r < 12
  -- an end that is found is that of the evaluation
  pub known : (x : Ground) → Contains v.keys x → 8 ≤ r → eval_end x.graph i ≡ end_of_code (r - 8)
  -- a line on a path to the line whose work the seat has is ended
  pub before : (x : Ground) (c : Claim) → Contains v.keys x → v.claim ≡ Some c → HasPath x.graph i c.line → 8 ≤ r
  -- the line whose work the seat has is ready where it has its columns
  pub ready : (x : Ground) (c : Claim) → Contains v.keys x → v.claim ≡ Some c → c.ends ≡ None → c.puts ≡ [] → eval_end x.graph c.line ≢ Cancelled →
      HasAllColumns x.graph c.line c.columns c.shares → IsReady x.graph c.line c.columns c.shares

-- the seat loaded the word of line i, and found r
abbrev pub looked : ℕ → Sat → ℕ → Sat → Type 0
looked i m r n = (n ≡ (looked_at m.0 i r, m.1)) × Told m.0 i r

-- it found r in another word
abbrev pub saw_at : View → ℕ → ℕ → View
saw_at v w r = record v { saw = v.saw ++ (w, r) ∷ [] }

-- it found all of these
abbrev pub saw_all : View → List (ℕ × ℕ) → View
saw_all v found = record v { saw = v.saw ++ found }

-- the seat found r in the word w, and nothing else came of it
abbrev pub missed : ℕ → Sat → ℕ → Sat → Type 0
missed w m r n = n ≡ (saw_at m.0 w r, m.1)

-- THE WORK OF A LINE. The claim of the seat is changed so
abbrev pub on_claim : (Claim → Claim) → View → View
on_claim f v = record v { claim = option_map f v.claim }

-- the seat has claimed line i, whose event has the handle h
abbrev pub claimed_at : View → ℕ → Handle → View
claimed_at v i h = record v { claim = Some (new_claim i h) }

-- line i was claimed, and its event is in the hand
pub record HasClaimed (i : ℕ) (m n : Sat) : Type 0 where
  pub pending : Pending
  pub now : n ≡ (claimed_at m.0 i (handle_of pending), (i, PendingEvent pending) ∷ m.1)
  pub of : (x : Ground) → Contains m.0.keys x → IsPendingOf x.events pending
  -- its handle is that of the line, where the seat knows it
  pub known : (hs : List Handle) (h : Handle) → Contains m.0.named hs → slice_get hs i ≡ Some h → handle_of pending ≡ h
  -- it ends in the evaluation
  pub ends : (x : Ground) → Contains m.0.keys x → has_ended (evaluation x.graph) i ≡ true

-- the word of line i held r: where that is 2 the line was claimed, else the seat has looked
abbrev pub claims : ℕ → Sat → ℕ → Sat → Type 0
claims i m r n = (r ≡ 2 → HasClaimed i m n) × ((r ≡ 2 → ⊥) → looked i m r n)

-- the claim has column c, on which these lines were put back
abbrev pub took : ℕ → List ℕ → Claim → Claim
took c ks cl = record cl { columns = (c, ks) ∷ cl.columns }

-- the column of the word w was found free and taken, and what lay there is in the hand, as the lines before left the column
pub record HasTurn (w : ℕ) (m n : Sat) : Type 0 where
  pub back : List ℕ
  pub lending : ℕ
  pub now : (x : Ground) (c : ℕ) → Contains m.0.keys x → w ≡ turn_word (size_of x.graph) c →
      n ≡ (on_claim (took c back) (saw_at m.0 w 0), (column_slot (size_of x.graph) c, home_content x.graph c lending (home_cells x.graph back c)) ∷ m.1)
  -- the shares that the seat has of it are of this lending
  pub same : (x : Ground) (c : ℕ) (cl : Claim) (s : TakenShare) → Contains m.0.keys x → w ≡ turn_word (size_of x.graph) c → m.0.claim ≡ Some cl → Contains cl.shares s → s.column ≡ c →
      (s.lending ≡ lending) × (s.cells ≡ home_cells x.graph back c)

-- the word w, which held r, shows another line than the seat's, where that has not the column
abbrev pub NotOwn : ℕ → View → ℕ → Type 0
NotOwn w v r = (x : Ground) (c : ℕ) (cl : Claim) → Contains v.keys x → w ≡ turn_word (size_of x.graph) c → v.claim ≡ Some cl → ((ks : List ℕ) → Contains cl.columns (c, ks) → ⊥) → r ≡ cl.line + 1 → ⊥

-- the word of a column that has shares is found free by who has them
abbrev pub FreeByShares : ℕ → View → ℕ → Type 0
FreeByShares w v r = (x : Ground) (c : ℕ) (cl : Claim) (s : TakenShare) → Contains v.keys x → w ≡ turn_word (size_of x.graph) c → v.claim ≡ Some cl → ((ks : List ℕ) → Contains cl.columns (c, ks) → ⊥) → Contains cl.shares s → s.column ≡ c → r ≡ 0

-- the word w held r: where that is 0 the column was taken, else another line has it
abbrev pub turns : ℕ → Sat → ℕ → Sat → Type 0
turns w m r n = (r ≡ 0 → HasTurn w m n) × ((r ≡ 0 → ⊥) → missed w m r n × NotOwn w m.0 r) × FreeByShares w m.0 r

-- SHARES. The claim has this share too
abbrev pub took_share : TakenShare → Claim → Claim
took_share s cl = record cl { shares = s ∷ cl.shares }

-- the share of the word w was found free and taken, and is in the hand; it shows the cells that the lines before left
pub record GotShare (w : ℕ) (m n : Sat) : Type 0 where
  pub back : List ℕ
  pub cells : List ℕ
  pub lending : ℕ
  pub now : (x : Ground) (c j : ℕ) → Contains m.0.keys x → c < length (columns x.graph) → j < share_count x.graph c → w ≡ share_word (size_of x.graph) c j →
      n ≡ (on_claim (took_share (record { column = c; number = j; cells = cells; lending = lending })) (saw_at m.0 w 0), (share_slot (size_of x.graph) c j, Share (share_value x.graph c j lending cells)) ∷ m.1)
  pub shows : (x : Ground) (c j : ℕ) → Contains m.0.keys x → c < length (columns x.graph) → j < share_count x.graph c → w ≡ share_word (size_of x.graph) c j → cells ≡ home_cells x.graph back c
  -- as do those of this column that the seat has, which are of one lending with it
  pub same : (x : Ground) (c j : ℕ) (cl : Claim) (s : TakenShare) → Contains m.0.keys x → c < length (columns x.graph) → j < share_count x.graph c → w ≡ share_word (size_of x.graph) c j → m.0.claim ≡ Some cl → Contains cl.shares s → s.column ≡ c →
      (s.lending ≡ lending) × (s.cells ≡ cells)

-- the word w, which held r, shows another line than the seat's, where that has not the share
abbrev pub NotOwnShare : ℕ → View → ℕ → Type 0
NotOwnShare w v r = (x : Ground) (c j : ℕ) (cl : Claim) → Contains v.keys x → c < length (columns x.graph) → j < share_count x.graph c → w ≡ share_word (size_of x.graph) c j → v.claim ≡ Some cl →
    ((s : TakenShare) → Contains cl.shares s → s.column ≡ c → s.number ≡ j → ⊥) → r ≡ cl.line + 1 → ⊥

-- the word w held r: where that is 0 the share was taken, else another line has it
abbrev pub takes_share : ℕ → Sat → ℕ → Sat → Type 0
takes_share w m r n = (r ≡ 0 → GotShare w m n) × ((r ≡ 0 → ⊥) → missed w m r n × NotOwnShare w m.0 r)

-- a list without its first item
abbrev pub but_first : {X : Type 0} → List X → List X
but_first [] = []
but_first (x ∷ xs) = xs

-- the number of the first column, if there is one
abbrev pub first_column : List (ℕ × List ℕ) → List ℕ
first_column [] = []
first_column (x ∷ xs) = x.0 ∷ []

-- shares, those of column c as they are in the next lending of it, in which it has these cells
abbrev pub lent_anew : ℕ → ℕ → List ℕ → List TakenShare → List TakenShare
lent_anew c d xs [] = []
lent_anew c d xs (s ∷ ss) = cond (s.column == c) (record s { cells = xs; lending = d }) s ∷ lent_anew c d xs ss

-- the lending and the cells of the column on top of the hand
abbrev pub top_lending : List (ℕ × Content) → ℕ
top_lending [] = 0
top_lending ((k, Lent l) ∷ xs) = l.lending
top_lending ((k, Nothing) ∷ xs) = 0
top_lending ((k, PendingEvent p) ∷ xs) = 0
top_lending ((k, EventReceipt p) ∷ xs) = 0
top_lending ((k, Cells x) ∷ xs) = 0
top_lending ((k, Share x) ∷ xs) = 0
top_lending ((k, Issuer d) ∷ xs) = 0

abbrev pub top_cells : List (ℕ × Content) → List ℕ
top_cells [] = []
top_cells ((k, Lent l) ∷ xs) = l.column.cells
top_cells ((k, Cells x) ∷ xs) = x.cells
top_cells ((k, Nothing) ∷ xs) = []
top_cells ((k, PendingEvent p) ∷ xs) = []
top_cells ((k, EventReceipt p) ∷ xs) = []
top_cells ((k, Share x) ∷ xs) = []
top_cells ((k, Issuer d) ∷ xs) = []

-- the column of the first share, if there is one
abbrev pub first_shared : List TakenShare → List ℕ
first_shared [] = []
first_shared (s ∷ ss) = s.column ∷ []

-- the shares of the column that was taken last, which goes home with these cells in this lending
abbrev pub shares_anew : List (ℕ × List ℕ) → ℕ → List ℕ → List TakenShare → List TakenShare
shares_anew [] d xs ss = ss
shares_anew (x ∷ columns) d xs ss = lent_anew x.0 d xs ss

-- the column that was taken last goes home unused
abbrev pub unused : ℕ → List ℕ → Claim → Claim
unused d xs cl = record cl { columns = but_first cl.columns; shares = shares_anew cl.columns d xs cl.shares }

-- or it goes home with the line put back on it
abbrev pub put_on : ℕ → List ℕ → Claim → Claim
put_on d xs cl = record cl { columns = but_first cl.columns; puts = first_column cl.columns ++ cl.puts; shares = shares_anew cl.columns d xs cl.shares }

-- the seat gave the column that it took last back, and its slot
abbrev pub returns_unused : Sat → Sat → Type 0
returns_unused m n = n ≡ (on_claim (unused (top_lending m.1) (top_cells m.1)) m.0, rest m.1)

-- the seat put its line back on the column that it took last, and gave its slot back
abbrev pub puts_back : Sat → Sat → Type 0
puts_back m n = n ≡ (on_claim (put_on (top_lending m.1) (top_cells m.1)) m.0, rest m.1)

-- the share that was taken last goes home
abbrev pub without_share : Claim → Claim
without_share cl = record cl { shares = but_first cl.shares }

-- or it goes home with the line put back on its column
abbrev pub read_on : Claim → Claim
read_on cl = record cl { shares = but_first cl.shares; puts = first_shared cl.shares ++ cl.puts }

-- the seat gave the share that it took last back, and its slot
abbrev pub gives_share : Sat → Sat → Type 0
gives_share m n = n ≡ (on_claim without_share m.0, rest m.1)

-- the seat put its line back on the column of the share that it took last, and gave the share and its slot back
abbrev pub reads_back : Sat → Sat → Type 0
reads_back m n = n ≡ (on_claim read_on m.0, rest m.1)

-- the claim has its reservation, or has it not
abbrev pub holding : Bool → Claim → Claim
holding b cl = record cl { holds = b }

-- r shows another line than the seat's, where that holds no reservation
abbrev pub NotHeld : View → ℕ → Type 0
NotHeld v r = (cl : Claim) → v.claim ≡ Some cl → cl.holds ≡ false → r ≡ alone_code cl.line → ⊥

-- the word w held r: where that is 0 the reservation was taken, else another line has it
abbrev pub holds : ℕ → Sat → ℕ → Sat → Type 0
holds w m r n = (r ≡ 0 → n ≡ (on_claim (holding true) m.0, m.1)) × ((r ≡ 0 → ⊥) → missed w m r n × NotHeld m.0 r)

-- the word w held r: where that is what was found before, a share of the reservation was taken
abbrev pub shares : ℕ → ℕ → Sat → ℕ → Sat → Type 0
shares w before m r n = (r ≡ before → n ≡ (on_claim (holding true) m.0, m.1)) × ((r ≡ before → ⊥) → missed w m r n)

-- the line of a claim, where there is one
abbrev pub line_claimed : Option Claim → List ℕ
line_claimed None = []
line_claimed (Some cl) = cl.line ∷ []

-- the claim has its reservation no more, and that it was let go is noted
abbrev pub let_go_at : View → View
let_go_at v = record v { let_go = v.let_go ++ line_claimed v.claim; claim = option_map (holding false) v.claim }

-- the reservation was let go
abbrev pub lets_go : Sat → Sat → Type 0
lets_go m n = n ≡ (let_go_at m.0, m.1)

-- the claim has freed a reservation
abbrev pub has_freed : Claim → Claim
has_freed cl = record cl { freed = true }

-- the seat freed the reservation that its line releases
abbrev pub frees : Sat → Sat → Type 0
frees m n = n ≡ (on_claim has_freed m.0, m.1)

-- the arrival of the claim is put in
abbrev pub put_in : Claim → Claim
put_in cl = record cl { arrived = true }

-- the seat put in the arrival of its line
abbrev pub arrives : Sat → Sat → Type 0
arrives m n = n ≡ (on_claim put_in m.0, m.1)

-- the claim has drawn the time t, and not yet stored it
abbrev pub drawn : ℕ → Claim → Claim
drawn t cl = record cl { time = Some t; stored = false }

-- the clock held r, which is the time that was drawn
abbrev pub draws : Sat → ℕ → Sat → Type 0
draws m r n = (n ≡ (on_claim (drawn r) m.0, m.1)) × (r ≤ MAX_LINES_OF_THREE)

-- its time is stored
abbrev pub has_stored : Claim → Claim
has_stored cl = record cl { stored = true }

-- a time drawn and stored
abbrev pub timed_at : ℕ → Claim → Claim
timed_at t cl = has_stored (drawn t cl)

-- the seat stored the time of its line
abbrev pub stores : Sat → Sat → Type 0
stores m n = n ≡ (on_claim has_stored m.0, m.1)

-- the claim is ending with x
abbrev pub ending_with : End → Claim → Claim
ending_with x cl = record cl { ends = Some x }

-- the seat stored that its line is ending
abbrev pub ends : ℕ → Sat → Sat → Type 0
ends stored m n = n ≡ (on_claim (ending_with (end_of_code (stored - 4))) m.0, m.1)

-- line i with its time, where it has one
abbrev pub with_time : ℕ → Option ℕ → List (ℕ × ℕ)
with_time i None = []
with_time i (Some t) = (i, t) ∷ []

-- the line of a claim with its time
abbrev pub time_claimed : Option Claim → List (ℕ × ℕ)
time_claimed None = []
time_claimed (Some cl) = with_time cl.line cl.time

-- the seat has no claim, and knows that line i, which it closed, has ended with x, and its time
abbrev pub closed_at : View → ℕ → End → View
closed_at v i x = record v { claim = None; issued = v.issued ++ i ∷ []; ended = v.ended ++ (i, x) ∷ []; closed = v.closed ++ i ∷ []; times = v.times ++ time_claimed v.claim }

-- the seat stored that line i has ended, and gave the line's slot back
abbrev pub closes : ℕ → ℕ → Sat → Sat → Type 0
closes i stored m n = n ≡ (closed_at m.0 i (end_of_code (stored - 8)), rest m.1)

-- the seat has no claim, and that it gave one up is noted
abbrev pub gave_up_at : View → View
gave_up_at v = record v { gave_up = v.gave_up ++ line_claimed v.claim; claim = None }

-- or it gave up its claim, and the line's slot
abbrev pub unclaims : Sat → Sat → Type 0
unclaims m n = n ≡ (gave_up_at m.0, rest m.1)

-- THE ISSUE STATE. The seat has its turn, and knows the handles of the lines and the issue state
abbrev pub with_issue_turn : View → List Handle → IssueState → View
with_issue_turn v hs issue_state = record v { issued = v.issued ++ numbers_below (length hs); named = v.named ++ hs ∷ []; issue_states = v.issue_states ++ issue_state ∷ []; issue_turn = Some hs }

-- the turn was taken, and the issue state is in the hand
pub record HasIssueTurn (m n : Sat) : Type 0 where
  pub handles : List Handle
  pub issue_state : IssueState
  pub now : (x : Ground) → Contains m.0.keys x → n ≡ (with_issue_turn m.0 handles issue_state, (issue_turn_slot (size_of x.graph), Issuer issue_state) ∷ m.1)
  pub is_issue_state : (x : Ground) → Contains m.0.keys x → IsIssueState x.events (length x.graph.lines) handles issue_state
  pub few : (x : Ground) → Contains m.0.keys x → length handles ≤ length x.graph.lines

-- the word w held r: where that is 0 the issue turn was taken, else another seat has it
abbrev pub takes_issue_turn : ℕ → Sat → ℕ → Sat → Type 0
takes_issue_turn w m r n = (r ≡ 0 → HasIssueTurn m n) × ((r ≡ 0 → ⊥) → missed w m r n)

-- the handles that go with the turn, if the seat has it
abbrev pub named_by : Option (List Handle) → List (List Handle)
named_by None = []
named_by (Some hs) = hs ∷ []

-- what goes into the issue state from the top of the hand
abbrev pub issue_states_in : List (ℕ × Content) → List IssueState
issue_states_in [] = []
issue_states_in ((k, Issuer d) ∷ xs) = d ∷ []
issue_states_in ((k, Nothing) ∷ xs) = []
issue_states_in ((k, PendingEvent p) ∷ xs) = []
issue_states_in ((k, EventReceipt r) ∷ xs) = []
issue_states_in ((k, Cells x) ∷ xs) = []
issue_states_in ((k, Lent x) ∷ xs) = []
issue_states_in ((k, Share x) ∷ xs) = []

-- the seat has no turn, knows the handles of the lines, and laid this in the issue state
abbrev pub without_issue_turn : View → List IssueState → View
without_issue_turn v laid = record v { named = v.named ++ named_by v.issue_turn; laid = v.laid ++ laid; issue_turn = None }

-- the seat gave the issue turn, and its slot with the issue state
abbrev pub gives_issue_turn : Sat → Sat → Type 0
gives_issue_turn m n = n ≡ (without_issue_turn m.0 (issue_states_in m.1), rest m.1)

-- ISSUING. The seat is issuing line i
abbrev pub issuing_at : View → ℕ → View
issuing_at v i = record v { issuing = Some i }

-- line i, which no other seat is issuing, is claimed for it, and its slot is in the hand
abbrev pub begins_issue : ℕ → Sat → ℕ → Sat → Type 0
begins_issue i m r n = (r ≡ 0) × (n ≡ (issuing_at m.0 i, (i, Nothing) ∷ m.1))

-- the handle of the event on top of the hand
abbrev pub handles_in : List (ℕ × Content) → List Handle
handles_in [] = []
handles_in ((k, PendingEvent p) ∷ xs) = handle_of p ∷ []
handles_in ((k, Nothing) ∷ xs) = []
handles_in ((k, EventReceipt r) ∷ xs) = []
handles_in ((k, Cells x) ∷ xs) = []
handles_in ((k, Lent x) ∷ xs) = []
handles_in ((k, Share x) ∷ xs) = []
handles_in ((k, Issuer d) ∷ xs) = []

-- line i is known issued, and the list of handles has the new one at its end
abbrev pub issued_at : View → ℕ → List Handle → View
issued_at v i new = record v { issued = v.issued ++ i ∷ []; issuing = None; issue_turn = option_map (λ hs. hs ++ new) v.issue_turn }

-- the seat issued line i with the event in its hand, and gave its slot back
abbrev pub issues : ℕ → Sat → Sat → Type 0
issues i m n = n ≡ (issued_at m.0 i (handles_in m.1), rest m.1)

-- the seat is issuing nothing
abbrev pub without_issue : View → View
without_issue v = record v { issuing = None }

-- or it gave up issuing the line, and the line's slot
abbrev pub gives_up_issue : Sat → Sat → Type 0
gives_up_issue m n = n ≡ (without_issue m.0, rest m.1)

-- CUTTING AND JOINING. The view of a seat that was joined into another
abbrev pub no_view : View
no_view = record { keys = []; mine = []; births = 0; splits = []; issued = []; ended = []; named = []; saw = []; issue_states = []; laid = []; gave_up = []; closed = []; times = []; let_go = []; claim = None; issuing = None; issue_turn = None }

-- the number of a seat itself
abbrev pub own_number : List ℕ → ℕ
own_number [] = 0
own_number (n ∷ ns) = n

-- the seat off which another was split
abbrev pub parent_of : View → View
parent_of v = record v { births = v.births + 1; splits = v.splits ++ child (own_number v.mine) v.births ∷ [] }

-- the seat that was split off, which knows what the first does and has no right
abbrev pub child_of : View → View
child_of v = record no_view { keys = v.keys; mine = child (own_number v.mine) v.births ∷ []; issued = v.issued; ended = v.ended; named = v.named }

-- a seat with what both know, and with the rights of the first
abbrev pub joined : View → View → View
joined v w = record v {
  mine = v.mine ++ w.mine;
  splits = v.splits ++ w.splits;
  issued = v.issued ++ w.issued;
  ended = v.ended ++ w.ended;
  named = v.named ++ w.named;
  saw = v.saw ++ w.saw;
  issue_states = v.issue_states ++ w.issue_states;
  laid = v.laid ++ w.laid;
  gave_up = v.gave_up ++ w.gave_up;
  closed = v.closed ++ w.closed;
  times = v.times ++ w.times;
  let_go = v.let_go ++ w.let_go;
}

-- what issuing in the issue turn leaves of a view
abbrev pub after_issue : View → List ℕ → List Handle → View
after_issue v new hs = record v { issued = v.issued ++ new; issuing = None; issue_turn = Some hs }
