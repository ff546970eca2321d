-- What a token is, by its view.
use Rattle.std.specs.Prelude.{◌≡◌, ℕ, ◌+◌, ◌-◌, ◌*◌, ◌<◌, ◌≤◌, ◌⊎◌, List, [], ◌∷◌, ◌++◌, map, Contains}
use Rattle.atomic_table.specs.Table.{Me}
use Rattle.event_table.specs.declared.limits.TheConstants.{MAX_WAITERS}
use Rattle.event_table.specs.Words.{turns_of, code}
use Rattle.shared_events.specs.Rule.{undealt}
pub use Rattle.event_table.specs.EventMap.{no_event}
use Rattle.event_table.specs.declared.handle.Handle.{Handle}
use Rattle.event_table.specs.declared.handle.Fate.{Fate}
use Rattle.event_table.specs.declared.handle.Shape.{Shape}
use Rattle.shared_events.specs.declared.view.View.{View}

-- The rights of a seat: to create, to end these handles, these waiters, this chain
abbrev pub Rights : Me Unit View → ℕ → List Handle → List ℕ → List Handle → Type 0
Rights m makes rights waiters chased = (m.1 ≡ []) × (m.0.makes ≡ makes) × (m.0.rights ≡ rights) × (map (λ (p : ℕ × ℕ). p.0) m.0.hand ≡ waiters) × (m.0.chased ≡ chased) × (m.0.marked ≡ [])

-- it has none
abbrev pub IsPlain : Me Unit View → Type 0
IsPlain m = Rights m 0 [] [] [] × (m.0.caught ≡ [])

-- it has placed nothing, was given nothing, has emptied nothing and found nothing
abbrev pub IsBare : View → Type 0
IsBare v = (v.placed ≡ []) × (v.given ≡ []) × (v.emptied ≡ []) × (v.saw ≡ [])

-- its lists are empty
abbrev pub HasNothing : View → Type 0
HasNothing v = (v.seen ≡ []) × (v.known ≡ []) × (v.left ≡ []) × (v.past ≡ []) × IsBare v

-- it has seen what it made
abbrev pub IsMaker : Me Unit View → Type 0
IsMaker m = Rights m 1 [] [] [] × (m.0.caught ≡ []) × (m.0.seen ≡ m.0.made) × (m.0.known ≡ []) × (m.0.left ≡ [])

abbrev pub slots_of : List Shape → ℕ
slots_of [] = 0
slots_of (x ∷ xs) = x.slots

abbrev pub waiters_of : List Shape → ℕ
waiters_of [] = 0
waiters_of (x ∷ xs) = x.waiters

abbrev pub last_gen_of : List Shape → ℕ
last_gen_of [] = 0
last_gen_of (x ∷ xs) = x.last_gen

abbrev pub IsPending : Me Unit View → Handle → Type 0
IsPending m h = Rights m 0 (h ∷ []) [] [] × (m.0.caught ≡ []) × (h.slot < slots_of m.0.keys) × (h.gen_ ≤ last_gen_of m.0.keys) × (m.0.seen ≡ h ∷ []) × (m.0.known ≡ []) × (m.0.left ≡ []) × IsBare m.0

abbrev pub IsWaiter : Me Unit View → ℕ → Type 0
IsWaiter m k = Rights m 0 [] (k ∷ []) [] × (m.0.caught ≡ []) × (k < waiters_of m.0.keys) × (waiters_of m.0.keys ≤ MAX_WAITERS) × IsBare m.0 × (m.0.seen ≡ []) × (m.0.known ≡ []) × (m.0.left ≡ [])

abbrev pub IsReceipt : Me Unit View → Handle → Fate → Type 0
IsReceipt m h f = Rights m 0 [] [] [] × (m.0.caught ≡ []) × (m.0.seen ≡ h ∷ []) × (m.0.known ≡ (h, f) ∷ []) × (m.0.left ≡ []) × IsBare m.0

abbrev pub IsCaught : Me Unit View → Handle → ℕ → Type 0
IsCaught m h next = Rights m 0 [] [] (h ∷ []) × (code m.0.caught ≡ next) × (next ≤ waiters_of m.0.keys) × (waiters_of m.0.keys ≤ MAX_WAITERS)

-- the waiters from next on
abbrev pub IsSet : Me Unit View → ℕ → ℕ → Type 0
IsSet m next count = (m.1 ≡ []) × (m.0.makes ≡ 0) × (m.0.rights ≡ []) × (m.0.hand ≡ undealt next (count - next)) × (m.0.chased ≡ []) × (m.0.marked ≡ []) × (m.0.caught ≡ []) × (next ≤ count) × (waiters_of m.0.keys ≡ count) × (count ≤ MAX_WAITERS)

-- The lists of a seat
-- the seat has seen the handle. NO_EVENT counts as seen by all
pub record HasSeen (v : View) (h : Handle) : Type 0 where
  pub seen : (h ≡ no_event) ⊎ Contains v.seen h

-- the seat knows that the handle ended with this fate
pub record Knows (v : View) (h : Handle) (f : Fate) : Type 0 where
  pub known : Contains v.known (h, f)

abbrev pub Begins : {X : Type 0} → List X → List X → Type 0
Begins {X} xs ys = (more : List X) × (ys ≡ xs ++ more)

-- none of the lists has lost anything
abbrev pub Grows : View → View → Type 0
Grows v w = Begins v.seen w.seen × Begins v.known w.known × Begins v.placed w.placed × Begins v.given w.given × Begins v.emptied w.emptied × Begins v.left w.left × Begins v.saw w.saw × Begins v.past w.past

-- nothing was placed, given or emptied
abbrev pub SamePlacings : View → View → Type 0
SamePlacings v w = (w.placed ≡ v.placed) × (w.given ≡ v.given) × (w.emptied ≡ v.emptied)

-- nothing was given, emptied or left
abbrev pub SameGiven : View → View → Type 0
SameGiven v w = (w.given ≡ v.given) × (w.emptied ≡ v.emptied) × (w.left ≡ v.left)

-- what was seen and known before still is
abbrev pub Keeps : View → View → Type 0
Keeps v w = ((h : Handle) → HasSeen v h → HasSeen w h) × ((h : Handle) (f : Fate) → Knows v h f → Knows w h f)

-- it was found to have ended, of whatever fate
abbrev pub IsPast : View → Handle → Type 0
IsPast v h = Contains v.past h

-- in between, the seat found the handle pending: the slot's word told so
abbrev pub FoundPending : View → View → Handle → Type 0
FoundPending v w h = (r : ℕ) × (w.saw ≡ v.saw ++ (h.slot, r) ∷ []) × (turns_of r ≡ 2 * h.gen_ + 1)
