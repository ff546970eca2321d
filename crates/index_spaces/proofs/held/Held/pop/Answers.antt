use Rattle.std.proofs.Common.{◌≡◌, None, refl, sym, ◌∙◌}
use Rattle.index_spaces.specs.Held.{entries, lending_at}
use Rattle.index_spaces.proofs.HeldFacts.{popped}
use Rattle.index_spaces.proofs.held.Held.pop.Goals as goal

pub invariant_of-self-2 : goal.invariant_of-self-2
invariant_of-self-2 c =
    let r = popped c.self.inside.places.items c.pop.new.self.items c.in_ok-pop.field-0 c.self.invariant c.in_ok-pop.ensures.value (c.in_ok-pop.ensures.variant.0 refl) c.in_ok-pop.ensures.rest in
    record { taken = r.taken; differ = r.differ }

pub returns-clause-none : goal.returns-clause-none
returns-clause-none c =
    let r = popped c.self.inside.places.items c.pop.new.self.items c.in_ok-pop.field-0 c.self.invariant c.in_ok-pop.ensures.value (c.in_ok-pop.ensures.variant.0 refl) c.in_ok-pop.ensures.rest in
    let none : lending_at (entries c.self.inside.places.items) r.entry.number ≡ None = rw c.self.view_is (c.requires.own r.entry.number) in
    rw (← c.self.view_is) (rw (c.into_numbered.ensures r.entry r.is_entry (sym r.share ∙ none)) r.here)

pub returns-clause-held : goal.returns-clause-held
returns-clause-held c =
    let r = popped c.self.inside.places.items c.pop.new.self.items c.in_ok-pop.field-0 c.self.invariant c.in_ok-pop.ensures.value (c.in_ok-pop.ensures.variant.0 refl) c.in_ok-pop.ensures.rest in
    let none : lending_at (entries c.self.inside.places.items) r.entry.number ≡ None = rw c.self.view_is (c.requires.own r.entry.number) in
    rw (← c.self.view_is) (rw (c.into_numbered.ensures r.entry r.is_entry (sym r.share ∙ none)) (record { here = r.gone; others = r.others; lendings = r.lendings }))

pub returns-clause-number : goal.returns-clause-number
returns-clause-number c =
    let r = popped c.self.inside.places.items c.pop.new.self.items c.in_ok-pop.field-0 c.self.invariant c.in_ok-pop.ensures.value (c.in_ok-pop.ensures.variant.0 refl) c.in_ok-pop.ensures.rest in
    let none : lending_at (entries c.self.inside.places.items) r.entry.number ≡ None = rw c.self.view_is (c.requires.own r.entry.number) in
    rw (← c.self.view_is) (rw (c.into_numbered.ensures r.entry r.is_entry (sym r.share ∙ none)) r.number)
