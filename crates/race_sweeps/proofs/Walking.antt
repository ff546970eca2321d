-- Walks over the members of a class.
use Rattle.std.proofs.Common.{◌≡◌, ℕ, ◌+◌, ◌<◌, ◌≤◌, ◌^◌, Bool, true, inl, inr, List, length, sym, ◌∙◌, ap, subst, arith}
use Rattle.std.specs.Prelude.{Option, Some, None, slice_get, slice_index}
use Rattle.std.specs.Int.{bit_not}
use lib.Bits.{bit_and}
use mir.Syntax.{w64}
use Rattle.std.proofs.lemmas.Bool.{cases_lt, cases_eq, cases_Bool, and_from, not_from_false}
use Rattle.std.proofs.lemmas.Option.{slice_get_within}
use Rattle.graph_terms.specs.Graph.{GraphValue}
use Rattle.race_sweeps.specs.declared.marks.Mark.{Mark}
use Rattle.conflict_classes.specs.declared.lookups.Table.{Table}
use Rattle.conflict_classes.specs.Classes.{AreNumbered, place_at}
use Rattle.sweep_base.specs.Bits.{bit_in}
use Rattle.race_sweeps.specs.Members.{IsLastBelow}
use Rattle.race_sweeps.specs.Reach.{IsReach}
use Rattle.race_sweeps.specs.Scan.{AreSettledWith, IsWalked}
use Rattle.sweep_base.specs.Noted.{AreStillNoted}
use Rattle.race_sweeps.specs.Enough.{IsSettledOrNoted}
use Rattle.sweep_base.proofs.Public.{bit_in-and, bit_in-not}
use Rattle.race_sweeps.proofs.Listed.{last_found, last_none}
use Rattle.race_sweeps.proofs.Noting.{with_still}

-- a walk under way: the members of a mark's class from number `limit` on are settled, and the next one is the last below it
pub record IsWalking (g : GraphValue) (t : Table) (racing : List Bool) (first : ℕ) (ask : Mark) (all : ℕ) (found : Option ℕ) : Type 0 where
  pub limit : ℕ
  pub within : limit ≤ all
  pub found_is : IsLastBelow t.classes.items ask.class limit found
  pub done : (r : ℕ) → limit ≤ r → r < all → slice_get t.classes.items r ≡ Some ask.class → ask.floor ≤ place_at t.sites.items r → AreSettledWith g t.lines.items racing first (place_at t.sites.items r) ask.word

-- how far a walk may go on
abbrev pub rest_of : Option ℕ → ℕ
rest_of None = 0
rest_of (Some m) = m + 1

pub walk_begins : (g : GraphValue) (t : Table) (racing : List Bool) (first : ℕ) (ask : Mark) (all : ℕ) (found : Option ℕ) → IsLastBelow t.classes.items ask.class all found → IsWalking g t racing first ask all found
walk_begins g t racing first ask all found is = record { limit = all; within = omega arith; found_is = is; done = λ r low high class above. absurd (omega arith) }

module _ (g : GraphValue) (t : Table) (racing : List Bool) (first : ℕ) (ask : Mark) (all : ℕ) (found : Option ℕ) (w : IsWalking g t racing first ask all found) where
  -- no member is left
  pub walk_ends : found ≡ None → IsWalked g t racing first all ask
  walk_ends none r low class above = elim (cases_lt r w.limit) [
    | inl l ↦ absurd (last_none t.classes.items ask.class w.limit found w.found_is none r l class)
    | inr up ↦ w.done r up low class above
  ]

  module _ (m : ℕ) (some : found ≡ Some m) where
    is : (m < w.limit) × (slice_get t.classes.items m ≡ Some ask.class) × ((q : ℕ) → m < q → q < w.limit → slice_get t.classes.items q ≡ Some ask.class → ⊥)
    is = last_found t.classes.items ask.class w.limit m found w.found_is some

    pub found_low : m < all
    found_low = let a : m < w.limit = is.0 in let b : w.limit ≤ all = w.within in omega arith

    pub found_class : slice_get t.classes.items m ≡ Some ask.class
    found_class = is.1

    -- the next member lies below the floor
    pub walk_stops : AreNumbered t.classes.items t.sites.items → place_at t.sites.items m < ask.floor → IsWalked g t racing first all ask
    walk_stops numbered low r before class above = elim (cases_lt r w.limit) [
      | inr up ↦ w.done r up before class above
      | inl l ↦ elim (cases_lt m r) [
        | inl behind ↦ absurd (is.2 r behind l class)
        | inr up ↦ (
            let last : m < length t.classes.items = slice_get_within t.classes.items m ask.class is.1 in
            let size : length t.sites.items ≡ length t.classes.items = numbered.size in
            let le : place_at t.sites.items r ≤ place_at t.sites.items m = numbered.ascending r m up (omega arith) in absurd (omega arith))
      ]
    ]

    -- or is settled
    pub walk_more : (new : List Bool) → AreStillNoted racing new → AreSettledWith g t.lines.items new first (place_at t.sites.items m) ask.word → (next : Option ℕ) → IsLastBelow t.classes.items ask.class m next → IsWalking g t new first ask all next
    walk_more new still settled next before = record {
      limit = m;
      within = (let a : m < all = found_low in omega arith);
      found_is = before;
      done = λ r low high class above. elim (cases_lt r w.limit) [
        | inr up ↦ with_still g t.lines.items racing new first (place_at t.sites.items r) ask.word still (w.done r up high class above)
        | inl l ↦ elim (cases_eq r m) [
          | inl same ↦ subst (λ z. AreSettledWith g t.lines.items new first (place_at t.sites.items z) ask.word) (sym same) settled
          | inr apart ↦ absurd (is.2 r (omega (arith, apart)) l class)
        ]
      ];
    }

pub rest_less : (classes : List ℕ) (c m : ℕ) (next : Option ℕ) → IsLastBelow classes c m next → rest_of next < m + 1
rest_less classes c m None h = omega arith
rest_less classes c m (Some p) h = let l : p < m = h.0 in omega arith

-- lines that are reached are settled, and so are those that are left where they are
pub settled_by : (g : GraphValue) (lines words : List ℕ) (racing : List Bool) (first x word behind reached : ℕ) → IsReach g lines first words → reached ≡ slice_index words x → reached < 2 ^ 64 → ((b : ℕ) → b < 64 → x < first + b → bit_in behind b ≡ true) →
    ((b : ℕ) → b < 64 → first + b < length lines → bit_in (bit_and (bit_and word behind) (bit_not w64 reached)) b ≡ true → IsSettledOrNoted g racing (slice_index lines x) (slice_index lines (first + b))) → AreSettledWith g lines racing first x word
settled_by g lines words racing first x word behind reached r is fits later left b low there set up = elim (cases_Bool (bit_in reached b)) [
  | inl yes' ↦ inl (λ c. inl ((r.reached x b low (ap (λ z. bit_in z b) (sym is) ∙ yes')).1))
  | inr no' ↦ left b low there (bit_in-and (bit_and word behind) (bit_not w64 reached) b
      ∙ and_from (bit_in (bit_and word behind) b) (bit_in (bit_not w64 reached) b) (bit_in-and word behind b ∙ and_from (bit_in word b) (bit_in behind b) set (later b low up))
      (bit_in-not reached b fits low ∙ not_from_false (bit_in reached b) no'))
]
