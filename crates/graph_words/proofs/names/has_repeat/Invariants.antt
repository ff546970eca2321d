use Rattle.std.proofs.Common.{◌≡◌, ℕ, List, false, take}
use Rattle.std.specs.Str.{bytes_eq}
use Rattle.std.specs.List.{list_any}
use Rattle.std.specs.BTreeSet.{contains}
use Rattle.std.specs.Cmp.Lexicographic.{slice_cmp}
use Rattle.std.specs.Ordering.{nat_cmp}
use Rattle.graph_terms.specs.Fits.{repeats}
use Rattle.graph_words.proofs.names.has_repeat.Given as goal

abbrev pub invariant-loop-name : goal.invariant-loop-name
invariant-loop-name l = record {
  kept : (q : List ℕ) → contains (slice_cmp nat_cmp) l.seen q ≡ list_any (bytes_eq q) (take l.name-index l.names);
  once : repeats bytes_eq (take l.name-index l.names) ≡ false;
}
