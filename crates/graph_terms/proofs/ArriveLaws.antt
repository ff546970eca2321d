-- What an arrival names and spells, whatever its weight is.
use Rattle.std.proofs.Common.{◌≡◌, ℕ, Bool, true, false, not, List, [], ◌∷◌, refl}
use Rattle.std.specs.Prelude.{zip, filter_map, ◌==◌}
use Rattle.graph_terms.specs.declared.verb.Verb.TheVariants.{Arrive}
use Rattle.graph_terms.specs.Graph.{GraphValue, line_passes, is_phase}
use Rattle.graph_terms.specs.Table.{Placed, kind_places, kind_takes_on, arrive_kind, arrive_parts, any_placed}
use Rattle.graph_terms.specs.Access.{accesses_of}
use Rattle.graph_terms.specs.Fits.{named_line, value_in, verb_values, place_repeats, verb_repeats, place_unknown, verb_unknown, place_unlike, verb_unlike, takes_no_on}
use Rattle.graph_terms.specs.Laws.{ArrivalsAccessNothing, ArrivalsNamePhase}

abbrev placed : Bool → ℕ → ℕ → ℕ → List Placed
placed b p v w = zip (kind_places (arrive_kind b)) (arrive_parts b p v w)

named_by : (b : Bool) (p v w : ℕ) → filter_map (λ (x : Placed). named_line x.0 x.1) (placed b p v w) ≡ p ∷ []
named_by true p v w = refl
named_by false p v w = refl

-- it names its phase
pub arrive_names : ArrivalsNamePhase
arrive_names p v w = named_by (w == 1) p v w

values_by : (b : Bool) (p v w : ℕ) → filter_map (λ (x : Placed). value_in x.0 x.1) (placed b p v w) ≡ v ∷ []
values_by true p v w = refl
values_by false p v w = refl

-- it has one value
pub arrive_values : (p v w : ℕ) → verb_values (Arrive p v w) ≡ v ∷ []
arrive_values p v w = values_by (w == 1) p v w

accesses_by : (b : Bool) (p v w : ℕ) → accesses_of (kind_places (arrive_kind b)) (arrive_parts b p v w) ≡ []
accesses_by true p v w = refl
accesses_by false p v w = refl

-- it has no access
pub arrive_accesses : ArrivalsAccessNothing
arrive_accesses p v w = accesses_by (w == 1) p v w

repeats_by : (g : GraphValue) (b : Bool) (p v w : ℕ) → any_placed (place_repeats g) (placed b p v w) ≡ false
repeats_by g true p v w = refl
repeats_by g false p v w = refl

pub arrive_repeats : (g : GraphValue) (p v w : ℕ) → verb_repeats g (Arrive p v w) ≡ false
arrive_repeats g p v w = repeats_by g (w == 1) p v w

unknown_by : (g : GraphValue) (b : Bool) (p v w : ℕ) → any_placed (place_unknown g) (placed b p v w) ≡ false
unknown_by g true p v w = refl
unknown_by g false p v w = refl

pub arrive_unknown : (g : GraphValue) (p v w : ℕ) → verb_unknown g (Arrive p v w) ≡ false
arrive_unknown g p v w = unknown_by g (w == 1) p v w

unlike_by : (g : GraphValue) (b : Bool) (p v w : ℕ) → any_placed (place_unlike g) (placed b p v w) ≡ not (line_passes is_phase g p)
unlike_by g true p v w = refl
unlike_by g false p v w = refl

-- what it names has to be a phase
pub arrive_unlike : (g : GraphValue) (p v w : ℕ) → verb_unlike g (Arrive p v w) ≡ not (line_passes is_phase g p)
arrive_unlike g p v w = unlike_by g (w == 1) p v w

takes_by : (b : Bool) → not (kind_takes_on (arrive_kind b)) ≡ false
takes_by true = refl
takes_by false = refl

-- it may have a precondition
pub arrive_takes_on : (p v w : ℕ) → takes_no_on (Arrive p v w) ≡ false
arrive_takes_on p v w = takes_by (w == 1)
