-- What single steps ask of the seat that makes them.
use Rattle.std.specs.Prelude.{◌≡◌, ◌≢◌, ℕ, ◌<◌, true, false, List, [], ◌∷◌, length, Contains, Some, None}
use Rattle.graph_terms.specs.declared.outcome.End.{End}
use Rattle.graph_terms.specs.declared.outcome.End.TheVariants.{Done, Cancelled}
use Rattle.graph_terms.specs.declared.verb.Edge.{Edge}
use Rattle.graph_terms.specs.Graph.{GraphValue, line_passes}
use Rattle.graph_terms.specs.Edges.{edges}
use Rattle.graph_terms.specs.Reservations.{Acquires, Releases}
use Rattle.graph_meaning.specs.Evaluation.{eval_end}
use Rattle.run_state.specs.Run.{is_listed}
use Rattle.run_state.specs.Sound.{AccessesColumn, OnlyReads, is_arrive, home_cells}
use Rattle.run_state.specs.Work.{put_cells}
use Rattle.word_steps.specs.declared.content.Content.{Content}
use Rattle.word_steps.specs.declared.content.Content.TheVariants.{Share}
use Rattle.word_steps.specs.declared.view.View.{View}
use Rattle.word_steps.specs.Claims.{Claim, TakenShare}
use Rattle.share_words.specs.Shares.{share_count}
use Rattle.run_state.specs.Sharing.{ChangesColumn}
use Rattle.word_steps.specs.Layout.{size_of, column_slot, share_slot}
use Rattle.word_steps.specs.Rule.{home_content, share_value}

-- the seat has the work of a line of which this holds
abbrev pub Has : View → (Claim → Type 0) → Type 0
Has v P = (cl : Claim) × (v.claim ≡ Some cl) × P cl

-- it has a number
abbrev pub IsNumbered : View → Type 0
IsNumbered v = 0 < length v.mine

-- it knows the ends of all sources of a line
abbrev pub Sources : GraphValue → ℕ → View → Type 0
Sources g i v = (ed : Edge) → Contains (edges g) ed → ed.to ≡ i → (x : End) × Contains v.ended (ed.from, x)

-- a line has share j of column c
abbrev pub ListsShare : List TakenShare → ℕ → ℕ → Type 0
ListsShare shares c j = (s : TakenShare) × Contains shares s × (s.column ≡ c) × (s.number ≡ j)

-- a line may take a column, all shares of which it has
pub record MayTake (g : GraphValue) (c : ℕ) (cl : Claim) : Type 0 where
  pub going : cl.ends ≡ None
  pub changed : ChangesColumn g cl.line c
  pub real : eval_end g cl.line ≢ Cancelled
  pub new : is_listed cl.puts c ≡ false
  pub all : (j : ℕ) → j < share_count g c → ListsShare cl.shares c j

-- a line may take share j of a column: one that it changes, or the share is not the first
pub record MayTakeShare (g : GraphValue) (c j : ℕ) (cl : Claim) : Type 0 where
  pub going : cl.ends ≡ None
  pub accessed : AccessesColumn g cl.line c
  pub real : eval_end g cl.line ≢ Cancelled
  pub new : is_listed cl.puts c ≡ false
  pub has_not : (ks : List ℕ) → Contains cl.columns (c, ks) → ⊥

-- the seat has the work of line i, which may take reservation l and has not taken it
pub record MayLock (g : GraphValue) (i l : ℕ) (v : View) : Type 0 where
  pub claim : Claim
  pub has : v.claim ≡ Some claim
  pub is_line : claim.line ≡ i
  pub going : claim.ends ≡ None
  pub untaken : claim.holds ≡ false
  pub acquires : Acquires g i l
  pub real : eval_end g i ≢ Cancelled

-- the column stands first among those that the line has, and only there
pub record IsFirst (c : ℕ) (ks : List ℕ) (more : List (ℕ × List ℕ)) (cl : Claim) : Type 0 where
  pub first : cl.columns ≡ (c, ks) ∷ more
  pub once : (k : List ℕ) → Contains more (c, k) → ⊥

-- the hand holds the column on top, or the right to have it back in some lending
abbrev pub Tops : GraphValue → ℕ → List ℕ → List (ℕ × Content) → List (ℕ × Content) → Type 0
Tops g c xs hand more = (d : ℕ) × (hand ≡ (column_slot (size_of g) c, home_content g c d xs) ∷ more)

-- the share on top of the hand is the first of those of the claim, of a column that the line has not whole
pub record MayGiveShare (g : GraphValue) (c j : ℕ) (m : View × List (ℕ × Content)) : Type 0 where
  pub claim : Claim
  pub has : m.0.claim ≡ Some claim
  pub share : TakenShare
  pub more : List TakenShare
  pub first : claim.shares ≡ share ∷ more
  pub is : (share.column ≡ c) × (share.number ≡ j)
  pub has_not : (ks : List ℕ) → Contains claim.columns (c, ks) → ⊥
  pub left : List (ℕ × Content)
  pub tops : m.1 ≡ (share_slot (size_of g) c j, Share (share_value g c j share.lending share.cells)) ∷ left

-- and the line, which only reads the column, has done its work
pub record MayReadBack (g : GraphValue) (c j : ℕ) (m : View × List (ℕ × Content)) : Type 0 where
  pub gives : MayGiveShare g c j m
  pub going : gives.claim.ends ≡ None
  pub reads : OnlyReads g gives.claim.line c
  pub real : eval_end g gives.claim.line ≢ Cancelled
  pub new : is_listed gives.claim.puts c ≡ false

-- the claim of a line that has done nothing
pub record IsBare (cl : Claim) : Type 0 where
  pub going : cl.ends ≡ None
  pub columns : cl.columns ≡ []
  pub shares : cl.shares ≡ []
  pub puts : cl.puts ≡ []
  pub held : cl.holds ≡ false
  pub arrived : cl.arrived ≡ false
  pub time : cl.time ≡ None

-- a line that has done all that comes before its end
pub record IsThrough (g : GraphValue) (cl : Claim) (x : End) : Type 0 where
  pub going : cl.ends ≡ None
  pub shares : cl.shares ≡ []
  pub is_end : eval_end g cl.line ≡ x
  pub time : (t : ℕ) × (cl.time ≡ Some t)
  pub puts : (c : ℕ) → AccessesColumn g cl.line c → eval_end g cl.line ≢ Cancelled → is_listed cl.puts c ≡ true
  pub arrived : line_passes is_arrive g cl.line ≡ true → eval_end g cl.line ≢ Cancelled → cl.arrived ≡ true

-- a line that is ending with x, whose time is stored, and that has freed what it releases
pub record IsOver (g : GraphValue) (cl : Claim) (x : End) : Type 0 where
  pub ending : cl.ends ≡ Some x
  pub stored : cl.stored ≡ true
  pub freed : (q : ℕ) → Releases g cl.line q → eval_end g q ≡ Done → cl.freed ≡ true

-- a view without rights, which may be joined to another
pub record HasNoRights (w : View) : Type 0 where
  pub claim : w.claim ≡ None
  pub issuing : w.issuing ≡ None
  pub issue_turn : w.issue_turn ≡ None

-- the slot that the seat took last, and what it holds
abbrev pub OnTop : ℕ → Content → List (ℕ × Content) → Type 0
OnTop k x hand = (left : List (ℕ × Content)) × (hand ≡ (k, x) ∷ left)

-- the column on top of the hand, and first of those of the claim, is as the line took it
pub record MayReturn (g : GraphValue) (c : ℕ) (m : View × List (ℕ × Content)) : Type 0 where
  pub claim : Claim
  pub has : m.0.claim ≡ Some claim
  pub ks : List ℕ
  pub more : List (ℕ × List ℕ)
  pub first : IsFirst c ks more claim
  pub left : List (ℕ × Content)
  pub tops : Tops g c (home_cells g ks c) m.1 left

-- or it is as the line leaves it
pub record MayPut (g : GraphValue) (c : ℕ) (m : View × List (ℕ × Content)) : Type 0 where
  pub claim : Claim
  pub has : m.0.claim ≡ Some claim
  pub ks : List ℕ
  pub more : List (ℕ × List ℕ)
  pub first : IsFirst c ks more claim
  pub left : List (ℕ × Content)
  pub tops : Tops g c (put_cells g claim.line ks c) m.1 left

-- a seat with empty hands
pub record IsPlain (m : View × List (ℕ × Content)) : Type 0 where
  pub hand : m.1 ≡ []
  pub rights : HasNoRights m.0
  pub numbered : IsNumbered m.0
