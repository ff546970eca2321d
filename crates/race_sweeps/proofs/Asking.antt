-- Which classes are asked.
use Rattle.std.proofs.Common.{◌≡◌, ℕ, ◌<◌, ◌≤◌, max, true, inl, inr, List, length, take, refl, sym, ◌∙◌, subst, arith}
use Rattle.std.specs.Prelude.{Option, Some, Vec, Contains, slice_get, slice_index}
use Rattle.std.specs.Global.{Global}
use Rattle.std.specs.List.{slice_index_or}
use Rattle.std.proofs.lemmas.Bool.{cases_lt}
use Rattle.std.proofs.lemmas.Option.{same_Some, slice_get_read, slice_get_within}
use Rattle.race_sweeps.specs.declared.marks.Mark.{Mark}
use Rattle.conflict_classes.specs.declared.lookups.Table.{Table}
use Rattle.conflict_classes.specs.Classes.{AreNumbered, IsNear, place_at}
use Rattle.conflict_classes.specs.Guards.{AreGuarded}
use Rattle.race_sweeps.specs.Marks.{IsMarked}
use Rattle.sweep_base.specs.Bits.{bit_in}
use Rattle.race_sweeps.specs.Members.{IsLastBelow}
use Rattle.race_sweeps.specs.Scan.{IsAsked, IsMarkAsked}
use Rattle.sweep_base.proofs.Public.{take_whole}
use Rattle.race_sweeps.proofs.Listed.{last_found}

pub asked_kept : (t : Table) (hard : List ℕ) (a b : List Mark) → ((c x y : ℕ) → IsMarked a c x y → IsMarked b c x y) → (m : ℕ) (g : Mark) (d : ℕ) → IsAsked t hard a m g d → IsAsked t hard b m g d
asked_kept t hard a b kept m g d h r bit low class set = elim (h r bit low class set) [
  | inl one ↦ inl one
  | inr (inl other) ↦ inr (inl other)
  | inr (inr (inl guarded)) ↦ inr (inr (inl guarded))
  | inr (inr (inr mark)) ↦ inr (inr (inr (kept d bit (place_at t.sites.items r) mark)))
]

pub mark_kept : (t : Table) (hard : List ℕ) (a b : List Mark) → ((c x y : ℕ) → IsMarked a c x y → IsMarked b c x y) → (m : ℕ) (g : Mark) → IsMarkAsked t hard a m g → IsMarkAsked t hard b m g
mark_kept t hard a b kept m g h d askable = asked_kept t hard a b kept m g d (h d askable)

-- a class is asked where its members from a floor on are marked
pub asked_from : (t : Table) (hard : List ℕ) (asks : List Mark) (m : ℕ) (g : Mark) (d floor start : ℕ) → floor ≡ max (max (slice_index hard g.class) (slice_index hard d)) start →
    ((x : ℕ) → x < start → AreGuarded t.keys.items t.guards.items g.class d × (x < g.floor)) →
    ((r b : ℕ) → r < m → slice_get t.classes.items r ≡ Some d → bit_in g.word b ≡ true → floor ≤ place_at t.sites.items r → IsMarked asks d b (place_at t.sites.items r)) → IsAsked t hard asks m g d
asked_from t hard asks m g d floor start is guarded marked r b low class set = elim (cases_lt (place_at t.sites.items r) floor) [
  | inr up ↦ inr (inr (inr (marked r b low class set up)))
  | inl down ↦ elim (cases_lt (place_at t.sites.items r) start) [
    | inl before ↦ inr (inr (inl (guarded (place_at t.sites.items r) before)))
    | inr behind ↦ elim (cases_lt (place_at t.sites.items r) (slice_index hard d)) [
      | inl other ↦ inr (inl other)
      | inr past ↦ inl (omega (arith, is, down, behind, past))
    ]
  ]
]

-- the last member of a class has a place
pub last_listed : (t : Table) → AreNumbered t.classes.items t.sites.items → (d m last : ℕ) (found : Option ℕ) → IsLastBelow t.classes.items d m found → found ≡ Some last → last < length t.sites.items
last_listed t numbered d m last found is at =
    let low : last < length t.classes.items = slice_get_within t.classes.items last d (last_found t.classes.items d m last found is at).1 in
    let same : length t.sites.items ≡ length t.classes.items = numbered.size in omega arith

-- no member stands behind the last one
pub member_low : (t : Table) → AreNumbered t.classes.items t.sites.items → (d m last : ℕ) (found : Option ℕ) → IsLastBelow t.classes.items d m found → found ≡ Some last → (r : ℕ) → r < m → slice_get t.classes.items r ≡ Some d → place_at t.sites.items r ≤ place_at t.sites.items last
member_low t numbered d m last found is at r low class = elim (cases_lt last r) [
  | inl up ↦ absurd ((last_found t.classes.items d m last found is at).2 r up low class)
  | inr down ↦ numbered.ascending r last down (last_listed t numbered d m last found is at)
]

-- all classes beside that of a group are asked
pub near_asked : (near : List (Vec ℕ Global)) (c : ℕ) (v : Vec ℕ Global) (xs : List ℕ) (i d : ℕ) → c < length near → v ≡ slice_index_or near c v → xs ≡ v.items → length xs ≤ i → IsNear near c d → Contains (take i xs) d
near_asked near c v xs i d small at is all n =
    let same : n.0 ≡ v = same_Some n.0 v (sym n.1 ∙ slice_get_read near (length near) c v refl small at) in
    take_whole xs i d all (subst (λ ys. Contains ys d) (sym is) (subst (λ (z : Vec ℕ Global). Contains z.items d) same n.2))
