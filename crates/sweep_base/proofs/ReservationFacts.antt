-- What the verb of a line tells of the reservation that it acquires or frees.
use Rattle.std.proofs.Common.{◌≡◌, ℕ, ◌<◌, Bool, length, ap, ◌∙◌}
use Rattle.std.specs.Prelude.{Some, option_map, slice_get}
use Rattle.graph_terms.specs.declared.verb.Line.{Line}
use Rattle.graph_terms.specs.declared.verb.Verb.TheVariants.{Acquire, Release}
use Rattle.graph_terms.specs.Graph.{GraphValue, verb_at, locks, is_acquire_of}
use Rattle.graph_terms.specs.Fits.{IsGraph}
use Rattle.graph_terms.specs.Reservations.{Acquires, Releases}
use Rattle.graph_terms.proofs.Public.{is_acquire_from, is_release_from, passes_below, lock_known, release_names}

-- the verb of a line that was read
pub verb_of : (g : GraphValue) (i : ℕ) (l : Line) → slice_get g.lines i ≡ Some l → verb_at g i ≡ Some l.verb
verb_of g i l e = ap (option_map (λ (x : Line). x.verb)) e

pub acquired_here : (g : GraphValue) → IsGraph g → (i k : ℕ) (l : Line) → slice_get g.lines i ≡ Some l → (s : Bool) → l.verb ≡ Acquire k s → Acquires g i k × (k < length (locks g))
acquired_here g f i k l at s is = (is_acquire_from g i k s (verb_of g i l at ∙ ap Some is), lock_known g f i k l at s is)

pub released_here : (g : GraphValue) → IsGraph g → (i q : ℕ) (l : Line) → slice_get g.lines i ≡ Some l → l.verb ≡ Release q → Releases g i q × (q < length g.lines)
released_here g f i q l at is =
    let r : Releases g i q = is_release_from g i q (verb_of g i l at ∙ ap Some is) in
    let a = release_names g f i q r in
    (r, passes_below (is_acquire_of a.0) g q a.1)
