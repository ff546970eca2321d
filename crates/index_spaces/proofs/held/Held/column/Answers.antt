use Rattle.std.proofs.Common.{◌≡◌, sym, ◌∙◌, get_or, None, IsSome}
use Rattle.index_spaces.specs.Held.{entries, lending_at, StandsAt}
use Rattle.index_spaces.proofs.HeldFacts.{stands_there}
use Rattle.index_spaces.proofs.held.Held.column.Goals as goal

pub returns-clause-own : goal.returns-clause-own
returns-clause-own c own =
    let places = c.self.inside.places.items in
    let x = c.index-places-k.result in
    let at : StandsAt places c.args.c c.in_ok-k.k = rw c.as_slice-places.ensures.value at c.in_ok-k.ensures in
    let read : x ≡ get_or places c.in_ok-k.k x = rw c.as_slice-places.ensures.value at c.index-places-k.is in
    let there = stands_there places c.args.c c.in_ok-k.k x c.self.invariant at read in
    let none : lending_at (entries places) c.args.c ≡ None = rw c.self.view_is own in
    rw (← c.self.view_is) (c.column.ensures.own there.entry there.is_entry (sym there.share ∙ none) ∙ sym there.here)

pub returns-clause-share : goal.returns-clause-share
returns-clause-share c share =
    let places = c.self.inside.places.items in
    let x = c.index-places-k.result in
    let at : StandsAt places c.args.c c.in_ok-k.k = rw c.as_slice-places.ensures.value at c.in_ok-k.ensures in
    let read : x ≡ get_or places c.in_ok-k.k x = rw c.as_slice-places.ensures.value at c.index-places-k.is in
    let there = stands_there places c.args.c c.in_ok-k.k x c.self.invariant at read in
    let lent : IsSome (lending_at (entries places) c.args.c) = rw c.self.view_is share in
    c.column.ensures.share there.entry there.is_entry (rw there.share at lent)
