use Rattle.std.proofs.Common.{◌∙◌, ap, sym}
use Rattle.sweep_base.specs.Held.{kept_in}
use Rattle.sweep_base.proofs.Sections.{list_found, first_of}
use Rattle.sweep_base.proofs.line_sections.Held.some_lock.Goals as goal

pub returns : goal.returns
returns c =
    let k = c.in_ok-kept.kept.now in
    let at = c.in_ok-list.ensures.lookup.3 in
    let first = c.in_ok-kept.ensures.lookup.3 in
    let list = list_found c.args.self.now c.args.line c.deref.result.now c.in_ok-list.list.now c.deref.ensures.value at.0 at.1 in (
      k.acquire,
      c.requires.is k.lock c.args.line k.acquire (ap (λ ks. kept_in ks k.lock) (list ∙ sym c.deref-2.ensures.value) ∙ first_of c.deref-2.result.now k first.0 first.1),
    )
