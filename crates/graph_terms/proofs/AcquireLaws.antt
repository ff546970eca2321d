-- What an acquire names and spells, whether it is shared or not.
use Rattle.std.proofs.Common.{◌≡◌, ℕ, Bool, true, false, [], refl}
use Rattle.std.specs.Prelude.{nat_le, length}
use Rattle.graph_terms.specs.declared.verb.Verb.TheVariants.{Acquire}
use Rattle.graph_terms.specs.Graph.{GraphValue, locks}
use Rattle.graph_terms.specs.Access.{verb_accesses}
use Rattle.graph_terms.specs.Fits.{named_lines, verb_values, verb_repeats, verb_unknown, verb_unlike, takes_no_on}

pub acquire_names : (l : ℕ) (s : Bool) → named_lines (Acquire l s) ≡ []
acquire_names l true = refl
acquire_names l false = refl

pub acquire_values : (l : ℕ) (s : Bool) → verb_values (Acquire l s) ≡ []
acquire_values l true = refl
acquire_values l false = refl

pub acquire_accesses : (l : ℕ) (s : Bool) → verb_accesses (Acquire l s) ≡ []
acquire_accesses l true = refl
acquire_accesses l false = refl

pub acquire_repeats : (g : GraphValue) (l : ℕ) (s : Bool) → verb_repeats g (Acquire l s) ≡ false
acquire_repeats g l true = refl
acquire_repeats g l false = refl

-- its reservation has to be declared
pub acquire_unknown : (g : GraphValue) (l : ℕ) (s : Bool) → verb_unknown g (Acquire l s) ≡ nat_le (length (locks g)) l
acquire_unknown g l true = refl
acquire_unknown g l false = refl

pub acquire_unlike : (g : GraphValue) (l : ℕ) (s : Bool) → verb_unlike g (Acquire l s) ≡ false
acquire_unlike g l true = refl
acquire_unlike g l false = refl

-- it may have a precondition
pub acquire_takes_on : (l : ℕ) (s : Bool) → takes_no_on (Acquire l s) ≡ false
acquire_takes_on l true = refl
acquire_takes_on l false = refl
