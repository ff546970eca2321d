-- What the verb of a line tells of the reservation that it acquires or frees.
use Rattle.std.proofs.Common.{◌≡◌, ℕ, ◌<◌, Bool, length, ap, ◌∙◌}
use Rattle.std.specs.Prelude.{Some, option_map, slice_get}
use Rattle.graph_terms.specs.declared.verb.Line.{Line}
use Rattle.graph_terms.specs.declared.verb.Verb.TheVariants.{Acquire, Release}
use Rattle.graph_terms.specs.Graph.{GraphValue, verb_at, line_passes, is_shared, locks}
use Rattle.graph_terms.specs.Fits.{IsGraph}
use Rattle.graph_terms.specs.Reservations.{Acquires, Releases}
use Rattle.graph_terms.proofs.Public.{is_acquire_from, is_release_from, verb_passes, lock_known, release_names}

verb_of : (g : GraphValue) (i : ℕ) (l : Line) → slice_get g.lines i ≡ Some l → verb_at g i ≡ Some l.verb
verb_of g i l e = ap (option_map (λ (x : Line). x.verb)) e

pub acquired_here : (g : GraphValue) → IsGraph g → (i k : ℕ) (s : Bool) (l : Line) → slice_get g.lines i ≡ Some l → l.verb ≡ Acquire k s → Acquires g i k × (k < length (locks g)) × (line_passes is_shared g i ≡ s)
acquired_here g f i k s l at is =
    let v : verb_at g i ≡ Some (Acquire k s) = verb_of g i l at ∙ ap Some is in
    (is_acquire_from g i k s v, lock_known g f i k l at s is, verb_passes is_shared g i (Acquire k s) v)

pub released_here : (g : GraphValue) → IsGraph g → (i q : ℕ) (l : Line) → slice_get g.lines i ≡ Some l → l.verb ≡ Release q → Releases g i q × ((k : ℕ) × Acquires g q k)
released_here g f i q l at is = let r : Releases g i q = is_release_from g i q (verb_of g i l at ∙ ap Some is) in (r, release_names g f i q r)
