-- What is settled or noted stays so while more lines are noted.
use Rattle.std.proofs.Common.{◌≡◌, ℕ, ◌<◌, Bool, true, false, inl, inr, List, length, ◌∙◌, ap}
use Rattle.std.specs.Prelude.{slice_set}
use Rattle.std.proofs.lemmas.Bool.{cases_eq}
use Rattle.std.proofs.lemmas.List.{get_or-set_same, get_or-set_other}
use Rattle.graph_terms.specs.Graph.{GraphValue}
use Rattle.race_sweeps.specs.declared.marks.Mark.{Mark}
use Rattle.conflict_classes.specs.declared.lookups.Table.{Table}
use Rattle.conflict_classes.specs.Classes.{place_at}
use Rattle.race_sweeps.specs.Scan.{AreSettledWith, IsWalked, AreAnsweredAt}
use Rattle.sweep_base.specs.Noted.{AreStillNoted, is_noted}
use Rattle.race_sweeps.specs.Enough.{IsSettledOrNoted}

pub settled_still : (g : GraphValue) (old new : List Bool) (i j : ℕ) → AreStillNoted old new → IsSettledOrNoted g old i j → IsSettledOrNoted g new i j
settled_still g old new i j still (inl settled) = inl settled
settled_still g old new i j still (inr both) = inr (still i both.0, still j both.1)

pub with_still : (g : GraphValue) (lines : List ℕ) (old new : List Bool) (first x word : ℕ) → AreStillNoted old new → AreSettledWith g lines old first x word → AreSettledWith g lines new first x word
with_still g lines old new first x word still h b low there set up = settled_still g old new _ _ still (h b low there set up)

pub walked_still : (g : GraphValue) (t : Table) (old new : List Bool) (first limit : ℕ) (m : Mark) → AreStillNoted old new → IsWalked g t old first limit m → IsWalked g t new first limit m
walked_still g t old new first limit m still h r low class above = with_still g t.lines.items old new first (place_at t.sites.items r) m.word still (h r low class above)

pub answered_still : (g : GraphValue) (limit : ℕ) (lines : List ℕ) (old new : List Bool) (u : ℕ) → AreStillNoted old new → AreAnsweredAt g limit lines old u → AreAnsweredAt g limit lines new u
answered_still g limit lines old new u still h x a b low one two ha hb c = elim (h x a b low one two ha hb c) [ inl one ↦ inl (settled_still g old new _ _ still one) | inr rest ↦ inr rest ]

-- a line that is noted
pub set_noted : (racing : List Bool) (i : ℕ) → i < length racing → is_noted (slice_set racing i true) i ≡ true
set_noted racing i h = get_or-set_same racing i true false h

pub set_still : (racing : List Bool) (i : ℕ) → i < length racing → AreStillNoted racing (slice_set racing i true)
set_still racing i h k noted = elim (cases_eq k i) [
  | inl same ↦ ap (is_noted (slice_set racing i true)) same ∙ set_noted racing i h
  | inr apart ↦ get_or-set_other racing i k true false apart ∙ noted
]
