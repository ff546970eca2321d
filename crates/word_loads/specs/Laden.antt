-- A line with its columns, of which those from the k-th access on were put back.
use Rattle.std.specs.Prelude.{◌≡◌, ◌≢◌, Bool, false, ℕ, zero, suc, ◌<◌, ◌≤◌, ◌⊎◌, true, List, [], ◌∷◌, ◌++◌, ◌+◌, cond, length, Contains, Some, None, slice_get, slice_index}
use Rattle.index_spaces.specs.Column.{ColumnValue}
use Rattle.index_spaces.specs.Held.{HeldList, held_at, lending_at}
use Rattle.graph_terms.specs.Graph.{GraphValue, line_passes}
use Rattle.graph_terms.specs.Fits.{IsGraph}
use Rattle.graph_terms.specs.Reservations.{Acquires, Releases}
use Rattle.graph_meaning.specs.Evaluation.{eval_end}
use Rattle.graph_terms.specs.declared.outcome.End.{End}
use Rattle.graph_terms.specs.declared.outcome.End.TheVariants.{Done, Cancelled}
use Rattle.run_state.specs.Sound.{AccessesColumn, is_arrive, home_cells}
use Rattle.run_state.specs.Run.{is_listed}
use Rattle.run_state.specs.Work.{put_cells}
use Rattle.run_state.specs.WholeLine.{column_list}
use Rattle.word_steps.specs.declared.content.Content.{Content}
use Rattle.word_steps.specs.declared.content.Content.TheVariants.{Nothing}
use Rattle.word_steps.specs.declared.view.View.{View}
use Rattle.word_steps.specs.Claims.{Claim, TakenShare}
use Rattle.graph_terms.specs.declared.verb.Access.{Access}
use Rattle.graph_terms.specs.Access.{accesses, is_read}
use Rattle.share_words.specs.Shares.{share_count}
use Rattle.word_steps.specs.Layout.{Size, size_of, turn_word, share_word, column_slot, share_slot}
use Rattle.word_steps.specs.Plays.{IsReady, HasAllColumns, saw_all}
use Rattle.word_steps.specs.Rule.{column_with}

-- what a line has for one access: a column that it may change, with all its shares, the last first, or a share of one that it only reads
pub data Taken : Type 0 where
  Whole : (column : ℕ) → (back : List ℕ) → (shares : List TakenShare) → Taken
  Seen : (share : TakenShare) → Taken

-- the columns among them, and the shares
abbrev pub columns_in : List Taken → List (ℕ × List ℕ)
columns_in [] = []
columns_in (Whole c ks ss ∷ ts) = (c, ks) ∷ columns_in ts
columns_in (Seen s ∷ ts) = columns_in ts

abbrev pub shares_in : List Taken → List TakenShare
shares_in [] = []
shares_in (Whole c ks ss ∷ ts) = ss ++ shares_in ts
shares_in (Seen s ∷ ts) = s ∷ shares_in ts

-- these are the first n shares of column c, the last first
abbrev pub AreFirst : ℕ → ℕ → List TakenShare → Type 0
AreFirst c zero ss = ss ≡ []
AreFirst c (suc n) ss = (s : TakenShare) × (more : List TakenShare) × (ss ≡ s ∷ more) × (s.column ≡ c) × (s.number ≡ n) × AreFirst c n more

-- what is taken for an access
abbrev pub FitsAccess : GraphValue → Access → Taken → Type 0
FitsAccess g a (Whole c ks ss) = (a.column ≡ c) × (is_read a.mode ≡ false) × AreFirst c (share_count g c) ss
FitsAccess g a (Seen s) = (a.column ≡ s.column) × (is_read a.mode ≡ true) × (0 < s.number) × (s.number < share_count g s.column) × (back : List ℕ) × (s.cells ≡ home_cells g back s.column)

-- what is taken for the first k accesses, the last first
abbrev pub Stacked : GraphValue → List Access → ℕ → List Taken → Type 0
Stacked g xs zero ts = ts ≡ []
Stacked g xs (suc k) ts =
    ((slice_get xs k ≡ None) × Stacked g xs k ts)
    ⊎ ((a : Access) × (t : Taken) × (more : List Taken) × (slice_get xs k ≡ Some a) × (ts ≡ t ∷ more) × FitsAccess g a t × Stacked g xs k more)

-- the column of what is taken
abbrev pub taken_column : Taken → ℕ
taken_column (Whole c ks ss) = c
taken_column (Seen s) = s.column

-- no column stands twice
abbrev pub Apart : List Taken → Type 0
Apart [] = Unit {0}
Apart (t ∷ ts) = ((u : Taken) → Contains ts u → taken_column u ≡ taken_column t → ⊥) × Apart ts

-- the slots of shares, emptied, above the rest of the hand
abbrev pub slots_of : Size → List TakenShare → List (ℕ × Content) → List (ℕ × Content)
slots_of z [] left = left
slots_of z (s ∷ ss) left = (share_slot z s.column s.number, Nothing) ∷ slots_of z ss left

-- the slots of what is taken, emptied, above the rest of the hand
abbrev pub hand_of : Size → List Taken → List (ℕ × Content) → List (ℕ × Content)
hand_of z [] left = left
hand_of z (Whole c ks ss ∷ ts) left = (column_slot z c, Nothing) ∷ slots_of z ss (hand_of z ts left)
hand_of z (Seen s ∷ ts) left = (share_slot z s.column s.number, Nothing) ∷ hand_of z ts left

-- a claim that has this, and with other puts
abbrev pub with_taken : Claim → List Taken → List ℕ → Claim
with_taken cl ts puts = record cl { columns = columns_in ts; shares = shares_in ts; puts = puts }

-- what a line holds of a column that it has, with these cells as a function of the lines put back on it, or of one that it sees
abbrev pub HoldsTaken : GraphValue → (List ℕ → ℕ → List ℕ) → HeldList → Taken → Type 0
HoldsTaken g cells held (Whole c ks ss) = (held_at held c ≡ Some (column_with g c (cells ks c))) × (lending_at held c ≡ None)
HoldsTaken g cells held (Seen s) = (held_at held s.column ≡ Some (column_with g s.column s.cells)) × (lending_at held s.column ≡ Some s.lending)

-- the numbers of the shares that a line has of the columns that it only reads, by access
abbrev pub KnowsNumbers : List ℕ → List Access → List Taken → Type 0
KnowsNumbers numbers xs ts = (k : ℕ) (a : Access) (s : TakenShare) → slice_get xs k ≡ Some a → Contains ts (Seen s) → s.column ≡ a.column → slice_index numbers k ≡ s.number

-- a line has what it took for its first k accesses, the columns as it leaves them, and was put back on those of the others
pub record Laden (g : GraphValue) (line k : ℕ) (v : View) (cl : Claim) (left : List (ℕ × Content)) (m : View × List (ℕ × Content)) (held : HeldList) (numbers : List ℕ) : Type 0 where
  pub taken : List Taken
  pub puts : List ℕ
  pub line_is : cl.line ≡ line
  pub going : cl.ends ≡ None
  pub real : eval_end g line ≢ Cancelled
  pub graph : IsGraph g
  pub now : m.0 ≡ record v { claim = Some (with_taken cl taken puts) }
  pub hand : m.1 ≡ hand_of (size_of g) taken left
  pub stacked : Stacked g (accesses g line) k taken
  pub apart : Apart taken
  pub holds : (t : Taken) → Contains taken t → HoldsTaken g (put_cells g line) held t
  pub numbered : KnowsNumbers numbers (accesses g line) taken
  pub done : (j c : ℕ) → k ≤ j → slice_get (column_list g line) j ≡ Some c → is_listed puts c ≡ true
  pub new : (j c : ℕ) → j < k → slice_get (column_list g line) j ≡ Some c → is_listed puts c ≡ false

-- the work of a line that ends with x is done: it holds its columns as it leaves them, unless it is cancelled
pub record WorkDone (g : GraphValue) (line : ℕ) (x : End) (v : View) (cl : Claim) (left : List (ℕ × Content)) (m : View × List (ℕ × Content)) (held : HeldList) (numbers : List ℕ) : Type 0 where
  pub line_is : cl.line ≡ line
  pub going : cl.ends ≡ None
  pub untimed : cl.time ≡ None
  pub fresh : (cl.arrived ≡ false) × (cl.freed ≡ false)
  pub empty : (cl.columns ≡ []) × (cl.shares ≡ [])
  pub is_end : eval_end g line ≡ x
  pub holds : (l : ℕ) → Acquires g line l → eval_end g line ≢ Cancelled → cl.holds ≡ true
  pub laden : x ≢ Cancelled → Laden g line 3 v cl left m held numbers
  pub bare : x ≡ Cancelled → m ≡ (record v { claim = Some cl }, left)

-- the columns of a line are put back, unless it is cancelled
pub record IsPutBack (g : GraphValue) (line : ℕ) (x : End) (v : View) (cl : Claim) (left : List (ℕ × Content)) (n : View × List (ℕ × Content)) : Type 0 where
  pub puts : List ℕ
  pub now : n ≡ (record v { claim = Some (with_taken cl [] puts) }, left)
  pub all : (c : ℕ) → AccessesColumn g line c → x ≢ Cancelled → is_listed puts c ≡ true

-- a claim whose arrival was put in, or was not
abbrev pub arrived_as : Bool → Claim → Claim
arrived_as b cl = record cl { arrived = b }

-- and an arrival was put in, unless it is cancelled
pub record IsBrought (g : GraphValue) (line : ℕ) (x : End) (v : View) (cl : Claim) (left : List (ℕ × Content)) (n : View × List (ℕ × Content)) : Type 0 where
  pub puts : List ℕ
  pub came : Bool
  pub now : n ≡ (record v { claim = Some (arrived_as came (with_taken cl [] puts)) }, left)
  pub all : (c : ℕ) → AccessesColumn g line c → x ≢ Cancelled → is_listed puts c ≡ true
  pub brought : line_passes is_arrive g line ≡ true → x ≢ Cancelled → came ≡ true

-- a line that may bring what it arrives with
pub record MayBring (g : GraphValue) (line : ℕ) (x : End) (cl : Claim) : Type 0 where
  pub line_is : cl.line ≡ line
  pub going : cl.ends ≡ None
  pub new : cl.arrived ≡ false
  pub is_end : eval_end g line ≡ x

-- the line is ending with x, and its time is stored
pub record IsEnding (line : ℕ) (x : End) (v : View) (cl : Claim) (left : List (ℕ × Content)) (n : View × List (ℕ × Content)) : Type 0 where
  pub claim : Claim
  pub now : n ≡ (record v { claim = Some claim }, left)
  pub line_is : claim.line ≡ line
  pub event : claim.event ≡ cl.event
  pub ends : claim.ends ≡ Some x
  pub stored : claim.stored ≡ true
  pub unfreed : claim.freed ≡ false

-- and it has freed the reservation that it releases, where the acquire is done
pub record IsReleased (g : GraphValue) (line : ℕ) (x : End) (v : View) (cl : Claim) (left : List (ℕ × Content)) (n : View × List (ℕ × Content)) : Type 0 where
  pub issued : List ℕ
  pub ended : List (ℕ × End)
  pub saw : List (ℕ × ℕ)
  pub claim : Claim
  pub now : n ≡ (record v { issued = issued; ended = ended; saw = saw; claim = Some claim }, left)
  pub line_is : claim.line ≡ line
  pub event : claim.event ≡ cl.event
  pub ends : claim.ends ≡ Some x
  pub stored : claim.stored ≡ true
  pub freed : (q : ℕ) → Releases g line q → eval_end g q ≡ Done → claim.freed ≡ true

-- a line has taken what its first k accesses name, as the lines before left it
pub record Taking (g : GraphValue) (line k : ℕ) (v : View) (cl : Claim) (left : List (ℕ × Content)) (m : View × List (ℕ × Content)) (held : HeldList) (numbers : List ℕ) : Type 0 where
  pub taken : List Taken
  pub line_is : cl.line ≡ line
  pub going : cl.ends ≡ None
  pub real : eval_end g line ≢ Cancelled
  pub no_puts : cl.puts ≡ []
  pub now : m ≡ (record v { claim = Some (with_taken cl taken []) }, hand_of (size_of g) taken left)
  pub stacked : Stacked g (accesses g line) k taken
  pub below : (t : Taken) → Contains taken t → (j : ℕ) × (j < k) × (slice_get (column_list g line) j ≡ Some (taken_column t))
  pub apart : Apart taken
  pub has : (t : Taken) → Contains taken t → HoldsTaken g (home_cells g) held t
  pub only : (c : ℕ) (x : ColumnValue) → held_at held c ≡ Some x → (t : Taken) × Contains taken t × (taken_column t ≡ c)
  pub numbered : KnowsNumbers numbers (accesses g line) taken
  pub size : length held ≡ length taken

-- the words at which a column is found free by who changes it: those of its shares, and its own
abbrev pub IsWordOf : GraphValue → ℕ → ℕ → Type 0
IsWordOf g c w = (w ≡ turn_word (size_of g) c) ⊎ ((j : ℕ) × (j < share_count g c) × (w ≡ share_word (size_of g) c j))

-- what the access j names was found free: each word of a column that it changes, or one of the shares that may be read of a column that it only reads
abbrev pub IsFree : GraphValue → ℕ → ℕ → List (ℕ × ℕ) → Type 0
IsFree g line j found = (a : Access) → slice_get (accesses g line) j ≡ Some a →
    cond (is_read a.mode) ((n : ℕ) × (0 < n) × (n < share_count g a.column) × Contains found (share_word (size_of g) a.column n, 0)) ((w : ℕ) → IsWordOf g a.column w → Contains found (w, 0))

-- those of the first k accesses were
abbrev pub AreFree : GraphValue → ℕ → ℕ → List (ℕ × ℕ) → Type 0
AreFree g line k found = (j : ℕ) → j < k → IsFree g line j found

-- it has taken what its first k accesses name, which it found free
abbrev pub TookFree : GraphValue → ℕ → ℕ → View → Claim → List (ℕ × Content) → View × List (ℕ × Content) → HeldList → List ℕ → Type 0
TookFree g line k v cl left m held numbers = (found : List (ℕ × ℕ)) × AreFree g line k found × Taking g line k (saw_all v found) cl left m held numbers

-- the word w was found with another line than this
abbrev pub FoundOther : ℕ → ℕ → List (ℕ × ℕ) → Type 0
FoundOther line w found = (r : ℕ) × Contains found (w, r) × (r ≢ 0) × (r ≢ line + 1)

-- a column is not to be had for an access: a word of it was found with another line, or for one that only reads it each share that may be read
abbrev pub IsAway : GraphValue → ℕ → Access → List (ℕ × ℕ) → Type 0
IsAway g line a found = cond (is_read a.mode) ((n : ℕ) → 0 < n → n < share_count g a.column → FoundOther line (share_word (size_of g) a.column n) found) ((w : ℕ) × IsWordOf g a.column w × FoundOther line w found)

-- a line holds its columns as the lines before left them
pub record Loaded (g : GraphValue) (line : ℕ) (v : View) (cl : Claim) (left : List (ℕ × Content)) (m : View × List (ℕ × Content)) (held : HeldList) (numbers : List ℕ) : Type 0 where
  pub taken : List Taken
  pub now : m ≡ (record v { claim = Some (with_taken cl taken []) }, hand_of (size_of g) taken left)
  pub stacked : Stacked g (accesses g line) 3 taken
  pub few : (j : ℕ) (a : Access) → 3 ≤ j → slice_get (accesses g line) j ≡ Some a → ⊥
  pub apart : Apart taken
  pub has : (t : Taken) → Contains taken t → HoldsTaken g (home_cells g) held t
  pub only : (c : ℕ) (x : ColumnValue) → held_at held c ≡ Some x → (t : Taken) × Contains taken t × (taken_column t ≡ c)
  pub numbered : KnowsNumbers numbers (accesses g line) taken
  pub all : HasAllColumns g line (columns_in taken) (shares_in taken)
  pub ready : IsReady g line (columns_in taken) (shares_in taken)
