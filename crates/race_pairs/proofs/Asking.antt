-- Which lines of a block are asked about, access by access.
use Rattle.std.proofs.Common.{◌≡◌, ℕ, ◌+◌, ◌<◌, ◌≤◌, true, false, inl, inr, List, length, refl, sym, ◌∙◌, ap, subst, arith}
use Rattle.std.specs.Prelude.{Some, Contains, IsTrue, slice_get}
use Rattle.std.specs.Int.RustNames.{bit_or}
use Rattle.std.proofs.lemmas.Bool.{true≢false, cases_lt}
use Rattle.std.proofs.lemmas.Option.{same_Some, slice_get-get_or}
use Rattle.graph_terms.specs.declared.verb.Access.{Access}
use Rattle.graph_terms.specs.declared.verb.Mode.{Mode}
use Rattle.graph_terms.specs.declared.verb.Mode.TheVariants.{Read, Write, Sum, Least, Most}
use Rattle.graph_terms.specs.Graph.{GraphValue}
use Rattle.graph_terms.specs.Access.{all_accesses, is_read, modes_clash, Conflict}
use Rattle.sweep_base.specs.Bits.{bit_in}
use Rattle.sweep_base.proofs.Public.{or_old, or_new}
use Rattle.race_pairs.specs.Races.{AreAsked, IsAsked}
use Rattle.race_pairs.specs.declared.block_conflicts.Asked.{Asked}

-- what clashes with a read changes the column
pub clash_changes : (m : Mode) → IsTrue (modes_clash m Read) → is_read m ≡ false
clash_changes Read h = absurd (true≢false (sym h))
clash_changes Write h = refl
clash_changes Sum h = refl
clash_changes Least h = refl
clash_changes Most h = refl

-- the word has the bits of what clashes with the first k accesses
abbrev pub AreFound : List ℕ → List ℕ → List Access → ℕ → ℕ → Type 0
AreFound used changed xs k word = (m : ℕ) (x : Access) → m < k → slice_get xs m ≡ Some x → (a : Access) (b : ℕ) → IsAsked used changed a b → a.column ≡ x.column → IsTrue (modes_clash a.mode x.mode) → bit_in word b ≡ true

pub found_more : (used changed : List ℕ) (xs : List Access) (k word more : ℕ) (y : Access) → slice_get xs k ≡ Some y → ((a : Access) (b : ℕ) → IsAsked used changed a b → a.column ≡ y.column → IsTrue (modes_clash a.mode y.mode) → bit_in more b ≡ true) → AreFound used changed xs k word → AreFound used changed xs (k + 1) (bit_or word more)
found_more used changed xs k word more y at here before m x low is a b asked column clash = elim (cases_lt m k) [
  | inl l ↦ or_old word more b (before m x l is a b asked column clash)
  | inr up ↦ (
      let same : m ≡ k = omega arith in
      let e : x ≡ y = same_Some x y (sym is ∙ (ap (slice_get xs) same ∙ at)) in
      or_new word more b (here a b asked (column ∙ ap (λ (z : Access). z.column) e) (subst (λ (z : Access). IsTrue (modes_clash a.mode z.mode)) e clash)))
]

pub found_all : (g : GraphValue) (first end j k word : ℕ) (s : Asked) → length (all_accesses g j) ≤ k → AreFound s.used.items s.changed.items (all_accesses g j) k word → (b : ℕ) → AreAsked g first end s → first + b < end → Conflict g (first + b) j → bit_in word b ≡ true
found_all g first end j k word s few found b asked low c =
    let o = c.other_in in
    found o.0 c.other (let l : o.0 < length (all_accesses g j) = o.1 in omega arith) (slice_get-get_or (all_accesses g j) o.0 c.other o.1 ∙ ap Some o.2) c.one b (asked.each b c.one low c.one_in) c.conflict.column c.conflict.clash

-- the first k accesses of a line are asked about
abbrev pub AreAdded : List ℕ → List ℕ → List Access → ℕ → ℕ → Type 0
AreAdded used changed xs k bit = (m : ℕ) (x : Access) → m < k → slice_get xs m ≡ Some x → IsAsked used changed x bit

pub added_more : (used changed new_used new_changed : List ℕ) (xs : List Access) (k bit : ℕ) (y : Access) → slice_get xs k ≡ Some y → ((a : Access) (b : ℕ) → IsAsked used changed a b → IsAsked new_used new_changed a b) → IsAsked new_used new_changed y bit → AreAdded used changed xs k bit → AreAdded new_used new_changed xs (k + 1) bit
added_more used changed new_used new_changed xs k bit y at keeps here before m x low is = elim (cases_lt m k) [
  | inl l ↦ keeps x bit (before m x l is)
  | inr up ↦ (
      let same : m ≡ k = omega arith in
      subst (λ z. IsAsked new_used new_changed z bit) (same_Some y x (sym at ∙ (ap (slice_get xs) (sym same) ∙ is))) here)
]

pub added_all : (used changed : List ℕ) (xs : List Access) (k bit : ℕ) → length xs ≤ k → AreAdded used changed xs k bit → (a : Access) → Contains xs a → IsAsked used changed a bit
added_all used changed xs k bit few added a c = added c.0 a (let l : c.0 < length xs = c.1 in omega arith) (slice_get-get_or xs c.0 a c.1 ∙ ap Some c.2)
