use Rattle.std.proofs.Common.{◌≡◌, ap, sym, ◌∙◌, get_or, option_map}
use Rattle.index_spaces.specs.Held.{HeldEntry, StandsAt}
use Rattle.index_spaces.proofs.HeldFacts.{stands_there}
use Rattle.index_spaces.proofs.held.Held.view.Goals as goal

pub returns : goal.returns
returns c =
    let places = c.self.inside.places.items in
    let x = c.index-places-k.result in
    let at : StandsAt places c.args.c c.in_ok-k.k = rw c.as_slice-places.ensures.value at c.in_ok-k.ensures in
    let read : x ≡ get_or places c.in_ok-k.k x = rw c.as_slice-places.ensures.value at c.index-places-k.is in
    let there = stands_there places c.args.c c.in_ok-k.k x c.self.invariant at read in
    rw (← c.self.view_is) (c.view.ensures ∙ ap (option_map (λ (e : HeldEntry). e.column)) there.is_entry ∙ sym there.here)
