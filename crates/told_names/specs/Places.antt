-- Tables of the first places of names.
use Rattle.std.specs.Prelude.{◌≡◌, ℕ, ◌-◌, cond, List, Some, take, drop}
use Rattle.std.specs.Borrow.{Bor}
use Rattle.std.specs.Str.{bytes_eq}
use Rattle.indexmap.specs.IndexMap.{IndexMap, get}
use Rattle.told_names.specs.Named.{is_same_name, first_place}
use Rattle.told_names.specs.declared.first_places.GivenPlaces.{GivenPlaces}

-- a name has this place in a table; the others have those that they had
module _ {S : Type 0} where
  abbrev pub IsNoted : IndexMap (Bor (List ℕ)) ℕ S → IndexMap (Bor (List ℕ)) ℕ S → List ℕ → ℕ → Type 0
  IsNoted old new name place = (w : Bor (List ℕ)) → get is_same_name new w ≡ cond (bytes_eq name w.now) (Some place) (get is_same_name old w)

-- a table has for each name the first place at which it stands among some, where the first of them has number n
module _ {S : Type 0} where
  abbrev pub AreFirst : IndexMap (Bor (List ℕ)) ℕ S → ℕ → List (List ℕ) → Type 0
  AreFirst m n names = (w : Bor (List ℕ)) → get is_same_name m w ≡ first_place w.now n names

-- by the names that lines give, the first lines above line `number`, and below it, that give each
pub record ArePlaces (names : List (List ℕ)) (number : ℕ) (x : GivenPlaces) : Type 0 where
  pub above : AreFirst x.above 0 (take (number - 1) names)
  pub below : AreFirst x.below number (drop number names)
