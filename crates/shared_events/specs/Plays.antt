-- What each step tells: of the step, the seat before, the number found and the seat after.
use Rattle.std.specs.Prelude.{◌≡◌, ◌≢◌, ℕ, ◌+◌, ◌*◌, ◌/◌, ◌%◌, ◌<◌, ◌≤◌, List, [], ◌∷◌, ◌++◌, Contains, cond, ◌==◌, nat_lt, map, slice_index}
use Rattle.atomic_table.specs.Table.{Me}
use Rattle.basics.specs.Sums.{total, below}
use Rattle.event_table.specs.Words.{turns_of, code, mark_word, place_of, fate_by, handle_at}
use Rattle.event_table.specs.declared.handle.Handle.{Handle}
use Rattle.event_table.specs.declared.handle.Fate.{Fate}
use Rattle.event_table.specs.declared.handle.Fate.TheVariants.{Ok, Poison}
use Rattle.std.specs.Int.{bit_at}
use Rattle.event_table.specs.declared.handle.Shape.{Shape}
use Rattle.shared_events.specs.declared.view.View.{View}

abbrev pub Sat : Type 0
Sat = Me Unit View

abbrev pub first_of : {X : Type 0} → List X → List X
first_of [] = []
first_of (x ∷ xs) = x ∷ []

-- those of the handles that have ended once the slot i has had t turns
abbrev pub ends_of : ℕ → ℕ → List Handle → List Handle
ends_of i t [] = []
ends_of i t (h ∷ hs) = cond (h.slot == i) (cond (nat_lt (2 * h.gen_ + 1) t) (h ∷ ends_of i t hs) (ends_of i t hs)) (ends_of i t hs)

-- the seat found the word r at the slot i
abbrev pub found_at : View → ℕ → ℕ → View
found_at v i r = record v { saw = v.saw ++ (i, r) ∷ []; past = v.past ++ ends_of i (turns_of r) v.seen }

-- the fates of those of the handles whose bit is in the poison word w, which is r
abbrev pub fates_by : Shape → ℕ → ℕ → List Handle → List (Handle × Fate)
fates_by x w r [] = []
fates_by x w r (h ∷ hs) = cond (mark_word x h == w) ((h, fate_by (bit_at r (place_of x.last_gen h % 64))) ∷ fates_by x w r hs) (fates_by x w r hs)

abbrev pub fates_of : List Shape → ℕ → ℕ → List Handle → List (Handle × Fate)
fates_of [] w r hs = []
fates_of (x ∷ xs) w r hs = fates_by x w r hs

-- what holds of the lists of any one seat
pub record Coherent (v : View) : Type 0 where
  pub one_fate : (h : Handle) (f g : Fate) → Contains v.known (h, f) → Contains v.known (h, g) → f ≡ g
  pub all_given : (k : ℕ) (h : Handle) → Contains v.placed (k, h) → Contains v.emptied h → Contains v.given (k, h)
  pub left_pending : (h : Handle) (f : Fate) → Contains v.left h → Contains v.known (h, f) → ⊥
  pub left_not_past : (h : Handle) → Contains v.left h → Contains v.past h → ⊥
  pub known_seen : (h : Handle) (f : Fate) → Contains v.known (h, f) → Contains v.seen h
  pub left_seen : (h : Handle) → Contains v.left h → Contains v.seen h
  pub past_seen : (h : Handle) → Contains v.past h → Contains v.seen h

-- a load of a poison word
abbrev pub fated : View → ℕ → ℕ → View
fated v w r = record v { known = v.known ++ fates_of v.keys w r v.past }

abbrev pub reads : ℕ → Sat → ℕ → Sat → Type 0
reads w m r n = (n ≡ (fated m.0 w r, m.1)) × Coherent n.0

-- the first handle that the seat may end is marked
abbrev pub marked_at : View → View
marked_at v = record v { marked = first_of v.rights ++ v.marked }

abbrev pub marking : Fate → View → View
marking Ok v = v
marking Poison v = marked_at v

abbrev pub marks : Sat → Sat → Type 0
marks m n = n ≡ (marked_at m.0, m.1)

-- what the slot i had gone through: a handle that was seen had been created, one that is known, was found to have ended or was emptied had ended, and one that the seat may end was pending
abbrev pub Agrees : View → ℕ → ℕ → Type 0
Agrees v i r = ((h : Handle) → Contains v.seen h → h.slot ≡ i → 2 * h.gen_ + 1 ≤ turns_of r)
    × ((h : Handle) (f : Fate) → Contains v.known (h, f) → h.slot ≡ i → 2 * h.gen_ + 2 ≤ turns_of r)
    × ((h : Handle) → Contains v.past h → h.slot ≡ i → 2 * h.gen_ + 2 ≤ turns_of r)
    × ((h : Handle) → Contains v.rights h → h.slot ≡ i → turns_of r ≡ 2 * h.gen_ + 1)
    × ((h : Handle) → Contains v.emptied h → h.slot ≡ i → 2 * h.gen_ + 2 ≤ turns_of r)

-- nobody has the right to end a handle that was left
abbrev pub Rightless : View → Type 0
Rightless v = (h : Handle) → Contains v.left h → Contains v.rights h → ⊥

-- the handles that it has seen are of the table's slots
abbrev pub InRange : View → Type 0
InRange v = (x : Shape) (h : Handle) → Contains v.keys x → Contains v.seen h → (h.slot < x.slots) × (h.gen_ ≤ x.last_gen)

-- a load of the word i found r
abbrev pub looked : ℕ → Sat → ℕ → Sat → Type 0
looked i m r n = (n ≡ (found_at m.0 i r, m.1)) × Agrees m.0 i r × InRange m.0 × Coherent n.0 × Rightless m.0

-- a load that is made for what the rule says of the seat's own lists
abbrev pub heeded : Sat → Sat → Type 0
heeded m n = (n ≡ m) × Coherent m.0

-- A load of the Maker's. It notes a slot that it finds free
abbrev pub scouted_at : View → ℕ → ℕ → View
scouted_at v i r = record (found_at v i r) { spare = cond (r % 4294967296 == 0) ((i, r) ∷ []) [] }

-- the slot was free, or retired and its last handle is of the Maker's list, or a handle of that list was pending there
abbrev pub Accounts : View → ℕ → ℕ → Type 0
Accounts v i r = (x : Shape) → Contains v.keys x → v.makes ≡ 1 → (r % 4294967296 ≡ 4294967295 → (turns_of r ≡ 2 * x.last_gen + 2) × Contains v.made (handle_at i x.last_gen)) × (r % 4294967296 ≢ 0 → r % 4294967296 ≢ 4294967295 → (turns_of r ≡ 2 * (r / 4294967296) + 1) × Contains v.made (handle_at i (r / 4294967296)))

-- the handles at the slot i that had been found to have ended had
abbrev pub HadEnded : View → ℕ → ℕ → Type 0
HadEnded v i r = (h : Handle) → Contains v.past h → h.slot ≡ i → 2 * h.gen_ + 2 ≤ turns_of r

abbrev pub scouted : ℕ → Sat → ℕ → Sat → Type 0
scouted i m r n = (n ≡ (scouted_at m.0 i r, m.1)) × Accounts m.0 i r × HadEnded m.0 i r

-- The Maker creates at a slot that it noted, which is still free
abbrev pub made_at : View → Handle → View
made_at v h = record v { made = v.made ++ h ∷ []; seen = v.seen ++ h ∷ []; rights = h ∷ v.rights; spare = [] }

-- the handles of the list at the slot i are those of the generations below g
abbrev pub AreBelow : List Handle → ℕ → ℕ → Type 0
AreBelow hs i g = ((h : Handle) → Contains hs h → h.slot ≡ i → h.gen_ < g) × ((k : ℕ) → k < g → Contains hs (handle_at i k))

abbrev pub created : ℕ → ℕ → Sat → ℕ → Sat → Type 0
created i old m r n = (r ≡ old) × (n ≡ (made_at m.0 (handle_at i (old / 4294967296)), m.1)) × (Contains m.0.made (handle_at i (old / 4294967296)) → ⊥)
    × ((x : Shape) → Contains m.0.keys x → old / 4294967296 ≤ x.last_gen) × AreBelow m.0.made i (old / 4294967296)

-- The first waiter in hand is linked to another, or to none
abbrev pub first_to : List (ℕ × ℕ) → ℕ → List (ℕ × ℕ)
first_to [] c = []
first_to (p ∷ ps) c = (p.0, c) ∷ ps

abbrev pub linked_to : View → ℕ → View
linked_to v c = record v { hand = first_to v.hand c }

abbrev pub relinked : ℕ → Sat → Sat → Type 0
relinked c m n = n ≡ (linked_to m.0 c, m.1)

-- The first waiter in hand goes onto a pending handle
abbrev pub with_first : Handle → List (ℕ × ℕ) → List (ℕ × Handle)
with_first h [] = []
with_first h (p ∷ ps) = (p.0, h) ∷ []

abbrev pub but_first : {X : Type 0} → List X → List X
but_first [] = []
but_first (x ∷ xs) = xs

abbrev pub placed_on : View → Handle → View
placed_on v h = record v { placed = v.placed ++ with_first h v.hand; hand = but_first v.hand }

abbrev pub put : ℕ → ℕ → Sat → ℕ → Sat → Type 0
put i old m r n = (r ≡ old → n ≡ (placed_on m.0 (handle_at i (old / 4294967296)), m.1)) × (r ≢ old → looked i m r n)

-- The first handle that the seat may end has ended, and its chain c is taken
abbrev pub fate_now : List Handle → Fate
fate_now [] = Ok
fate_now (x ∷ xs) = Poison

abbrev pub ended_with : View → Handle → List ℕ → View
ended_with v h c = record v { known = v.known ++ (h, fate_now v.marked) ∷ []; rights = but_first v.rights; marked = []; chased = h ∷ []; caught = c }

-- a number that a chain begins with is of a waiter
abbrev pub IsHead : View → ℕ → Type 0
IsHead v c = (x : Shape) → Contains v.keys x → c ≤ x.waiters

-- each waiter that the seat placed on the handle stands in the chain
abbrev pub HasPlaced : View → Handle → List ℕ → Type 0
HasPlaced v h c = (k : ℕ) → Contains v.placed (k, h) → Contains c k

-- the chain has numbers of waiters alone, each at most once
abbrev pub IsOnce : View → List ℕ → Type 0
IsOnce v c = (x : Shape) → Contains v.keys x → (f : ℕ → ℕ) → total f c ≤ below f x.waiters

abbrev pub ended : Sat → ℕ → Sat → Type 0
ended m r n = (h : Handle) × (rest : List Handle) × (c : List ℕ) × (m.0.rights ≡ h ∷ rest) × (r ≡ h.gen_ * 4294967296 + 1 + code c) × (n ≡ (ended_with m.0 h c, m.1)) × IsHead m.0 (code c) × HasPlaced m.0 h c × IsOnce m.0 c

-- The first waiter that was caught is taken in hand
abbrev pub gave : View → View
gave v = let k = slice_index v.caught 0 in record v { caught = but_first v.caught; hand = (k, code (but_first v.caught)) ∷ v.hand; given = v.given ++ map (λ h. (k, h)) v.chased }

abbrev pub walked : Sat → ℕ → Sat → Type 0
walked m r n = (r ≡ code (but_first m.0.caught)) × (n ≡ (gave m.0, m.1)) × IsHead m.0 r

-- How a view is cut, and put together
abbrev pub no_view : View
no_view = record { keys = []; seen = []; known = []; placed = []; given = []; emptied = []; left = []; past = []; saw = []; makes = 0; made = []; spare = []; rights = []; marked = []; hand = []; chased = []; caught = [] }

abbrev pub copy_of : View → View
copy_of v = record no_view { keys = v.keys; seen = v.seen; known = v.known; left = v.left; past = v.past }

abbrev pub dealt : View → View
dealt v = record no_view { keys = v.keys; hand = first_of v.hand }

abbrev pub dealer : View → View
dealer v = record v { hand = but_first v.hand }

-- all waiters
abbrev pub all_dealt : View → View
all_dealt v = record no_view { keys = v.keys; hand = v.hand }

abbrev pub none_left : View → View
none_left v = record v { hand = [] }

-- the right to end one handle
abbrev pub granted : View → View
granted v = record no_view { keys = v.keys; seen = first_of v.rights; rights = first_of v.rights; marked = v.marked }

abbrev pub granter : View → View
granter v = record v { rights = but_first v.rights }

abbrev pub last_of : {X : Type 0} → List X → List X
last_of [] = []
last_of (x ∷ []) = x ∷ []
last_of (x ∷ y ∷ ys) = last_of (y ∷ ys)

-- what was known last, alone
abbrev pub receipted : View → View
receipted v = record no_view { keys = v.keys; seen = map (λ (p : Handle × Fate). p.0) (last_of v.known); known = last_of v.known }

-- the right to create
abbrev pub maker_of : View → View
maker_of v = record no_view { keys = v.keys; seen = v.seen; makes = v.makes; made = v.made }

abbrev pub no_maker : View → View
no_maker v = record v { makes = 0; made = []; spare = [] }

-- what the Maker has made and found
abbrev pub report : View → View
report v = record no_view { keys = v.keys; seen = v.seen; known = v.known; left = v.left; past = v.past; saw = v.saw }

abbrev pub reporter : View → View
reporter v = record v { saw = [] }

-- the chain that was taken
abbrev pub chaser : View → View
chaser v = record no_view { keys = v.keys; seen = v.seen; known = v.known; given = v.given; chased = v.chased; caught = v.caught }

abbrev pub unchased : View → View
unchased v = record v { chased = []; caught = [] }

-- what a chain that was given whole tells
abbrev pub emptier : View → View
emptier v = record no_view { keys = v.keys; seen = v.seen; known = v.known; given = v.given; emptied = v.chased }

abbrev pub joined : View → View → View
joined v w = record {
  keys = v.keys;
  seen = v.seen ++ w.seen;
  known = v.known ++ w.known;
  placed = v.placed ++ w.placed;
  given = v.given ++ w.given;
  emptied = v.emptied ++ w.emptied;
  left = v.left ++ w.left;
  past = v.past ++ w.past;
  saw = v.saw ++ w.saw;
  makes = v.makes + w.makes;
  made = v.made ++ w.made;
  spare = [];
  rights = v.rights ++ w.rights;
  marked = v.marked ++ w.marked;
  hand = v.hand ++ w.hand;
  chased = v.chased;
  caught = v.caught;
}

-- The other's right to end a handle is given up for good
abbrev pub forsaken : View → View → View
forsaken v w = record {
  keys = v.keys;
  seen = v.seen ++ w.seen;
  known = v.known ++ w.known;
  placed = v.placed ++ w.placed;
  given = v.given ++ w.given;
  emptied = v.emptied ++ w.emptied;
  left = (v.left ++ w.left) ++ w.rights;
  past = v.past ++ w.past;
  saw = v.saw ++ w.saw;
  makes = v.makes + w.makes;
  made = v.made ++ w.made;
  spare = [];
  rights = v.rights;
  marked = v.marked;
  hand = v.hand ++ w.hand;
  chased = v.chased;
  caught = v.caught;
}

-- at the end, with the Maker's list alone
abbrev pub gathered : View → View → View
gathered v w = record (joined v w) { made = v.made }

-- The Maker is told which handles another knows to have ended
abbrev pub informed : View → View → View
informed v w = record v { past = v.past ++ map (λ (p : Handle × Fate). p.0) w.known; spare = [] }
