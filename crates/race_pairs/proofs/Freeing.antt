-- Lines that race with none, by the lines that are noted.
use Rattle.std.proofs.Common.{◌≡◌, ℕ, ◌+◌, ◌-◌, ◌<◌, ◌≤◌, ◌⊎◌, Bool, true, false, inl, inr, List, length, sym, ◌∙◌, subst, arith}
use Rattle.std.proofs.lemmas.Bool.{true≢false, cases_lt}
use Rattle.std.proofs.lemmas.List.{get_or_past}
use Rattle.graph_terms.specs.Graph.{GraphValue}
use Rattle.graph_meaning.specs.Rules.{Everywhere, EverywhereTwice, RaceAt}
use Rattle.race_sweeps.specs.Enough.{AreEnough, AreSettledBelow}
use Rattle.sweep_base.specs.Noted.{is_noted}
use Rattle.conflict_classes.specs.Settled.{IsSettled}
use Rattle.conflict_classes.proofs.Public.{settled_back}
use Rattle.cycle_search.specs.Paths.{EdgesBetween}
use Rattle.sweep_base.specs.BlockRules.{IsLeast}
use Rattle.race_pairs.specs.Topmost.{NoneRaceBelow, races_with}
use Rattle.race_pairs.proofs.BeyondLines.{race_beyond, settled_beyond}

pub noted_below : (racing : List Bool) (n r : ℕ) → length racing ≡ n → is_noted racing r ≡ true → r < n
noted_below racing n r size noted = elim (cases_lt r n) [
  | inl low ↦ low
  | inr up ↦ absurd (true≢false (sym noted ∙ get_or_past racing r false (omega arith)))
]

pub all_free : (g : GraphValue) (racing : List Bool) (n k : ℕ) → length racing ≡ n → AreEnough g racing → ((r : ℕ) → r < n → is_noted racing r ≡ true → IsSettled g r k) → Everywhere (RaceAt g k)
all_free g racing n k size enough settled j low c = enough k (λ r noted. settled r (noted_below racing n r size noted) noted) j c

pub none_noted : (g : GraphValue) (racing : List Bool) (n : ℕ) → length racing ≡ n → AreEnough g racing → ((r : ℕ) → 0 ≤ r → r < n → is_noted racing r ≡ false) → EverywhereTwice (RaceAt g)
none_noted g racing n size enough none k = all_free g racing n k size enough (λ r low noted. absurd (true≢false (sym noted ∙ none r (omega arith) low)))

-- where each line of a block that is noted is settled with the lines before a number
pub free_more : (g : GraphValue) (racing : List Bool) (first old new : ℕ) → new ≤ old → ((k r : ℕ) → k < old → r < first → is_noted racing r ≡ true → IsSettled g r k)
    → ((k r : ℕ) → k < new → first ≤ r → r < first + 64 → is_noted racing r ≡ true → IsSettled g r k) → (k r : ℕ) → k < new → r < first + 64 → is_noted racing r ≡ true → IsSettled g r k
free_more g racing first old new few before here k r low end noted = elim (cases_lt r first) [
  | inl l ↦ before k r (omega arith) l noted
  | inr up ↦ here k r low up end noted
]

pub free_block : (g : GraphValue) (racing : List Bool) (first n : ℕ) → ((k b : ℕ) → k < n → b < 64 → is_noted racing (first + b) ≡ true → IsSettled g (first + b) k) → (k r : ℕ) → k < n → first ≤ r → r < first + 64 → is_noted racing r ≡ true → IsSettled g r k
free_block g racing first n settled k r low begins ends = subst (λ z. is_noted racing z ≡ true → IsSettled g z k) (let e : first + (r - first) ≡ r = omega arith in e) (settled k (r - first) low (omega arith))

-- and the other way round: where lines are settled with each line that is noted
pub free_of_more : (g : GraphValue) (racing : List Bool) (first few : ℕ) → ((k r : ℕ) → k < first → r < length g.lines → is_noted racing r ≡ true → IsSettled g k r)
    → ((b r : ℕ) → b < few → r < length g.lines → is_noted racing r ≡ true → IsSettled g (first + b) r) → (k r : ℕ) → k < first + few → r < length g.lines → is_noted racing r ≡ true → IsSettled g k r
free_of_more g racing first few before here k r low there noted = elim (cases_lt k first) [
  | inl l ↦ before k r l there noted
  | inr up ↦ subst (λ z. IsSettled g z r) (let e : first + (k - first) ≡ k = omega arith in e) (here (k - first) r (omega arith) there noted)
]

pub all_free_of : (g : GraphValue) (racing : List Bool) (k : ℕ) → length racing ≡ length g.lines → AreEnough g racing → ((r : ℕ) → r < length g.lines → is_noted racing r ≡ true → IsSettled g k r) → Everywhere (RaceAt g k)
all_free_of g racing k size enough settled = all_free g racing (length g.lines) k size enough (λ r low noted. settled_back g k r (settled r low noted))

-- where all lines are free
pub all_lines_free : (g : GraphValue) (n : ℕ) → length g.lines ≤ n → ((k : ℕ) → k < n → Everywhere (RaceAt g k)) → EverywhereTwice (RaceAt g)
all_lines_free g n all free k = elim (cases_lt k n) [
  | inl low ↦ free k low
  | inr up ↦ (λ j below. settled_beyond g k j (omega arith))
]

-- the rule of races, by the later of two lines
pub later_settled : (g : GraphValue) (j i : ℕ) → (i < j → IsSettled g j i) → races_with g j i
later_settled g j i settled low = settled_back g j i (settled low)

pub later_race : (g : GraphValue) (j i : ℕ) → i < j → (IsSettled g j i → ⊥) → races_with g j i → ⊥
later_race g j i low unsettled rule = unsettled (settled_back g i j (rule low))

pub later_beyond : (g : GraphValue) → EdgesBetween g → (j i : ℕ) → (length g.lines ≤ j) ⊎ (length g.lines ≤ i) → races_with g j i
later_beyond g between j i beyond = race_beyond g i j (elim beyond [ inl h ↦ inr h | inr h ↦ inl h ])

-- where no line above `first` races, none up to it races with one above itself
pub later_above : (g : GraphValue) (first : ℕ) → ((k : ℕ) → k < first → Everywhere (RaceAt g k)) → (k : ℕ) → k < first → Everywhere (races_with g k)
later_above g first above k h i low = above i (omega (arith, h, low)) k low

-- where no two lines below a limit race
pub later_free : (g : GraphValue) (limit : ℕ) → AreSettledBelow g limit → NoneRaceBelow g limit
later_free g limit settled k low i above = settled i k (omega (arith, above, low)) low

-- where the lines of a block were tried with those above the end of it
pub least_above : (g : GraphValue) → EdgesBetween g → (first limit found end : ℕ) → end ≤ length g.lines → (length g.lines ≤ end) ⊎ (first + 64 ≤ end) → IsLeast (races_with g) first limit found end → IsLeast (races_with g) first limit found (length g.lines)
least_above g between first limit found end within all w = record {
  few = w.few;
  below = λ b m h low. elim (cases_lt m end) [
    | inl before ↦ w.below b m h before
    | inr up ↦ elim all [
      | inl lines ↦ absurd (omega (arith, lines, up, low))
      | inr block ↦ (λ above. absurd (let f = w.few in omega (arith, above, block, up, h, f)))
    ]
  ];
  here = w.here;
  beside = w.beside;
  known = λ h. (let k = w.known h in omega (arith, k, within));
}

pub settled_with : (g : GraphValue) (i j : ℕ) → length g.lines ≤ j → IsSettled g i j
settled_with g i j h = settled_back g j i (settled_beyond g j i h)

pub all_later : (g : GraphValue) (n : ℕ) → EdgesBetween g → length g.lines ≤ n → ((k : ℕ) → k < n → Everywhere (races_with g k)) → EverywhereTwice (RaceAt g)
all_later g n between all free i j = elim (cases_lt j n) [ inl low ↦ free j low i | inr up ↦ race_beyond g i j (inr (omega (arith, all, up))) ]
