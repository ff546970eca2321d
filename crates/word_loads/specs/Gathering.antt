-- What taking shares one after another, and giving them back, asks and leaves: before and after, of the seat and of what the line holds.
use Rattle.std.specs.Prelude.{◌≡◌, ◌≢◌, ℕ, ◌+◌, ◌-◌, ◌^◌, ◌<◌, ◌≤◌, cond, nat_lt, false, length, List, [], ◌∷◌, ◌++◌, Contains, Option, Some, None, slice_index}
use Rattle.index_spaces.specs.Shares.{ShareValue}
use Rattle.index_spaces.specs.Held.{HeldList, held_at, lending_at, HoldsOtherwise}
use Rattle.graph_terms.specs.declared.outcome.End.TheVariants.{Cancelled}
use Rattle.graph_terms.specs.Graph.{GraphValue}
use Rattle.graph_meaning.specs.Evaluation.{eval_end}
use Rattle.index_spaces.specs.Column.{ColumnValue}
use Rattle.run_state.specs.Run.{is_listed}
use Rattle.run_state.specs.Sound.{AccessesColumn, OnlyReads, home_cells}
use Rattle.run_state.specs.Work.{put_cells}
use Rattle.share_words.specs.Shares.{share_count}
use Rattle.word_steps.specs.declared.content.Content.{Content}
use Rattle.word_steps.specs.declared.content.Content.TheVariants.{Nothing}
use Rattle.word_steps.specs.declared.view.View.{View}
use Rattle.word_loads.specs.declared.loads.Load.{Load}
use Rattle.word_steps.specs.Claims.{Claim, TakenShare}
use Rattle.word_steps.specs.Layout.{size_of, share_word, column_slot, share_slot}
use Rattle.word_steps.specs.Rule.{column_with, share_value}
use Rattle.word_steps.specs.Lending.{first_for}
use Rattle.word_steps.specs.Plays.{Sat, on_claim, took, saw_all, without_share}
use Rattle.word_loads.specs.Laden.{AreFirst, slots_of, IsWordOf, FoundOther}
use Rattle.atomic_table.specs.Table.{rest}

-- the numbers before a line has shares
abbrev pub no_numbers : List ℕ
no_numbers = 0 ∷ 0 ∷ 0 ∷ []

-- SHARES. One with those that were taken before, if there are some
abbrev pub with_share : Option ShareValue → ShareValue → ShareValue
with_share None s = s
with_share (Some t) s = record t { count = t.count + s.count }

-- they are of one lending, and no more than all
abbrev pub MayAdd : Option ShareValue → ShareValue → Type 0
MayAdd None s = Unit {0}
MayAdd (Some t) s = (s.lending ≡ t.lending) × (0 < t.count) × (t.count + s.count ≤ 2 ^ 63)

-- the number of the share that is tried next: from 1 on, of which the first to be tried is given
abbrev pub tried_share : ℕ → ℕ → ℕ → ℕ
tried_share first tried readers = cond (nat_lt readers (1 + first + tried)) (1 + first + tried - readers) (1 + first + tried)

-- a seat with these shares too, the slots of which are in its hand and empty
abbrev pub with_shares : List TakenShare → Claim → Claim
with_shares ss cl = record cl { shares = ss ++ cl.shares }

abbrev pub stacked : GraphValue → List TakenShare → Sat → Sat
stacked g ss m = (on_claim (with_shares ss) m.0, slots_of (size_of g) ss m.1)

-- the same seat, which found this
abbrev pub after : List (ℕ × ℕ) → Sat → Sat
after found m = (saw_all m.0 found, m.1)

-- the shares of a column that the seat had are of the lending of this one
abbrev pub AreAlike : View → TakenShare → Type 0
AreAlike v s = (cl : Claim) (t : TakenShare) → v.claim ≡ Some cl → Contains cl.shares t → t.column ≡ s.column → (t.lending ≡ s.lending) × (t.cells ≡ s.cells)

-- share j of column c was found free and taken, and this is it
abbrev pub GetsShare : GraphValue → ℕ → ℕ → Sat → Sat → ShareValue → Type 0
GetsShare g c j m n x = (s : TakenShare) × (s.column ≡ c) × (s.number ≡ j) × (x ≡ share_value g c j s.lending s.cells)
    × (n ≡ stacked g (s ∷ []) (after ((share_word (size_of g) c j, 0) ∷ []) m)) × AreAlike m.0 s × (back : List ℕ) × (s.cells ≡ home_cells g back c)

-- it was found with another line, and all is as it was
abbrev pub FindsShare : GraphValue → ℕ → ℕ → ℕ → Sat → Sat → Type 0
FindsShare g line c j m n = (r : ℕ) × (r ≢ 0) × (r ≢ line + 1) × (n ≡ after ((share_word (size_of g) c j, r) ∷ []) m)

-- a line may take shares of a column of which it has nothing yet
pub record MayGather (g : GraphValue) (line c : ℕ) (cl : Claim) : Type 0 where
  pub line_is : cl.line ≡ line
  pub going : cl.ends ≡ None
  pub accessed : AccessesColumn g cl.line c
  pub real : eval_end g cl.line ≢ Cancelled
  pub new : is_listed cl.puts c ≡ false
  pub has_not : (ks : List ℕ) → Contains cl.columns (c, ks) → ⊥
  pub none : (s : TakenShare) → Contains cl.shares s → s.column ≡ c → ⊥

-- the seat n is m with the first k shares of column c too, which together are these
pub record IsGathered (g : GraphValue) (c k : ℕ) (ss : List TakenShare) (all : Option ShareValue) (m n : Sat) : Type 0 where
  pub claim : Claim
  pub has : m.0.claim ≡ Some claim
  pub has_not : (ks : List ℕ) → Contains claim.columns (c, ks) → ⊥
  pub lending : ℕ
  pub cells : List ℕ
  pub first : AreFirst c k ss
  pub same : (s : TakenShare) → Contains ss s → (s.cells ≡ cells) × (s.lending ≡ lending)
  pub together : all ≡ first_for (share_count g c) k lending (column_with g c cells)
  pub now : n ≡ stacked g ss m

-- the first k shares of a column were found free and taken, and the next one, if there is one, was found with another line
abbrev pub Gathers : GraphValue → ℕ → ℕ → ℕ → Sat → Sat → Option ShareValue → Type 0
Gathers g line c k m n all = (found : List (ℕ × ℕ)) × (ss : List TakenShare) × IsGathered g c k ss all (after found m) n
    × ((j : ℕ) → j < k → Contains found (share_word (size_of g) c j, 0)) × (k < share_count g c → FoundOther line (share_word (size_of g) c k) found)

-- the share is the first of those of the claim, and its slot on top of the hand
pub record GivesOne (g : GraphValue) (c j : ℕ) (m : Sat) (x : ShareValue) : Type 0 where
  pub claim : Claim
  pub has : m.0.claim ≡ Some claim
  pub has_not : (ks : List ℕ) → Contains claim.columns (c, ks) → ⊥
  pub share : TakenShare
  pub more : List TakenShare
  pub first : claim.shares ≡ share ∷ more
  pub is : (share.column ≡ c) × (share.number ≡ j)
  pub value : x ≡ share_value g c j share.lending share.cells
  pub left : List (ℕ × Content)
  pub hand : m.1 ≡ (share_slot (size_of g) c j, Nothing) ∷ left

-- the seat without it
abbrev pub without_first : Sat → Sat
without_first m = (on_claim without_share m.0, rest m.1)

-- WHAT IS TAKEN. The line holds one column more
pub record GainsOne (c : ℕ) (x : ColumnValue) (lending : Option ℕ) (old new : Load) : Type 0 where
  pub otherwise : HoldsOtherwise old.held new.held c (Some x)
  pub lending_is : lending_at new.held c ≡ lending
  pub long : length new.held ≡ length old.held + 1

-- or one fewer
pub record LosesOne (c : ℕ) (old new : Load) : Type 0 where
  pub otherwise : HoldsOtherwise old.held new.held c None
  pub short : length new.held + 1 ≡ length old.held
  pub numbers : new.numbers ≡ old.numbers

-- the number of the share of one access was noted, and no other
pub record NotesNumber (k j : ℕ) (old new : Load) : Type 0 where
  pub here : slice_index new.numbers k ≡ j
  pub others : (i : ℕ) → i ≢ k → slice_index new.numbers i ≡ slice_index old.numbers i

-- the column was found free with all its shares, and taken
abbrev pub TakesWhole : GraphValue → ℕ → Sat → Load → Sat → Load → Type 0
TakesWhole g c m x n y = (found : List (ℕ × ℕ)) × (ss : List TakenShare) × (back : List ℕ) × AreFirst c (share_count g c) ss × ((w : ℕ) → IsWordOf g c w → Contains found (w, 0))
    × (n ≡ (on_claim (took c back) (on_claim (with_shares ss) (saw_all m.0 found)), (column_slot (size_of g) c, Nothing) ∷ slots_of (size_of g) ss m.1))
    × GainsOne c (column_with g c (home_cells g back c)) None x y × (y.numbers ≡ x.numbers)

-- a word of it was found with another line, and all is as it was
abbrev pub FindsWhole : GraphValue → ℕ → ℕ → Sat → Load → Sat → Load → Type 0
FindsWhole g line c m x n y = (found : List (ℕ × ℕ)) × (w : ℕ) × IsWordOf g c w × FoundOther line w found × (n ≡ after found m) × (y ≡ x)

-- share j of column c was found free and taken, for access k
abbrev pub TakesSeen : GraphValue → ℕ → ℕ → ℕ → Sat → Load → Sat → Load → Type 0
TakesSeen g k c j m x n y = (s : TakenShare) × (s.column ≡ c) × (s.number ≡ j) × (n ≡ stacked g (s ∷ []) (after ((share_word (size_of g) c j, 0) ∷ []) m))
    × GainsOne c (column_with g c s.cells) (Some s.lending) x y × NotesNumber k j x y × (back : List ℕ) × (s.cells ≡ home_cells g back c)

-- so was one of those that may be read
abbrev pub TakesSome : GraphValue → ℕ → ℕ → Sat → Load → Sat → Load → Type 0
TakesSome g k c m x n y = (found : List (ℕ × ℕ)) × (s : TakenShare) × (s.column ≡ c) × (0 < s.number) × (s.number < share_count g c) × Contains found (share_word (size_of g) c s.number, 0)
    × (n ≡ stacked g (s ∷ []) (after found m)) × GainsOne c (column_with g c s.cells) (Some s.lending) x y × NotesNumber k s.number x y × (back : List ℕ) × (s.cells ≡ home_cells g back c)

-- each that may be read was found with another line, and all is as it was
abbrev pub FindsSeen : GraphValue → ℕ → ℕ → Sat → Load → Sat → Load → Type 0
FindsSeen g line c m x n y = (found : List (ℕ × ℕ)) × ((j : ℕ) → 0 < j → j < share_count g c → FoundOther line (share_word (size_of g) c j) found) × (n ≡ after found m) × (y ≡ x)

-- WHAT IS GIVEN BACK. Share j of column c was taken last
pub record SeenOnTop (g : GraphValue) (c j : ℕ) (m : Sat) (held : HeldList) : Type 0 where
  pub claim : Claim
  pub has : m.0.claim ≡ Some claim
  pub has_not : (ks : List ℕ) → Contains claim.columns (c, ks) → ⊥
  pub share : TakenShare
  pub more : List TakenShare
  pub first : claim.shares ≡ share ∷ more
  pub is : (share.column ≡ c) × (share.number ≡ j)
  pub left : List (ℕ × Content)
  pub hand : m.1 ≡ (share_slot (size_of g) c j, Nothing) ∷ left
  pub holds : held_at held c ≡ Some (column_with g c share.cells)
  pub lending : lending_at held c ≡ Some share.lending

-- and a line that only reads the column may be put back on it
pub record MayRead (g : GraphValue) (c : ℕ) (cl : Claim) : Type 0 where
  pub going : cl.ends ≡ None
  pub reads : OnlyReads g cl.line c
  pub real : eval_end g cl.line ≢ Cancelled
  pub new : is_listed cl.puts c ≡ false

-- the seat without it, and the seat without it that was put back on the column
abbrev pub less_seen : View → Claim → List TakenShare → List (ℕ × Content) → Sat
less_seen v cl more left = (record v { claim = Some (record cl { shares = more }) }, left)

abbrev pub less_read : ℕ → View → Claim → List TakenShare → List (ℕ × Content) → Sat
less_read c v cl more left = (record v { claim = Some (record cl { shares = more; puts = c ∷ cl.puts }) }, left)

-- column c was taken last with all its shares, and is so by the claim and the lines put back on it before
pub record WholeOnTop (g : GraphValue) (c : ℕ) (cells : Claim → List ℕ → List ℕ) (m : Sat) (held : HeldList) : Type 0 where
  pub claim : Claim
  pub has : m.0.claim ≡ Some claim
  pub back : List ℕ
  pub columns : List (ℕ × List ℕ)
  pub first : claim.columns ≡ (c, back) ∷ columns
  pub once : (ks : List ℕ) → Contains columns (c, ks) → ⊥
  pub shares : List TakenShare
  pub more : List TakenShare
  pub all : claim.shares ≡ shares ++ more
  pub are_first : AreFirst c (share_count g c) shares
  pub others : (s : TakenShare) → Contains more s → s.column ≡ c → ⊥
  pub left : List (ℕ × Content)
  pub hand : m.1 ≡ (column_slot (size_of g) c, Nothing) ∷ slots_of (size_of g) shares left
  pub holds : held_at held c ≡ Some (column_with g c (cells claim back))
  pub own : lending_at held c ≡ None

-- as the line took it, and as it leaves it
abbrev pub as_home : GraphValue → ℕ → Claim → List ℕ → List ℕ
as_home g c cl ks = home_cells g ks c

abbrev pub as_left : GraphValue → ℕ → Claim → List ℕ → List ℕ
as_left g c cl ks = put_cells g cl.line ks c

-- the seat without it, with these puts
abbrev pub less_whole : View → Claim → List (ℕ × List ℕ) → List ℕ → List TakenShare → List (ℕ × Content) → Sat
less_whole v cl columns puts more left = (record v { claim = Some (record cl { columns = columns; puts = puts; shares = more }) }, left)
