use Rattle.std.proofs.Common.{sym, ◌∙◌, ap}
use Rattle.sweep_base.specs.Held.{kept_in}
use Rattle.sweep_base.proofs.Sections.{list_found, list_missing}
use Rattle.sweep_base.proofs.line_sections.Held.acquire.Goals as goal

pub returns-in-Some : goal.returns-in-Some
returns-in-Some c =
    let at = c.in-Some.ensures.lookup.3 in
    c.first_kept.ensures ∙ ap (λ ks. kept_in ks c.args.lock) (c.as_slice.ensures.value ∙ sym (list_found c.args.self.now c.args.line c.deref.result.now c.in-Some.list.now c.deref.ensures.value at.0 at.1))

pub returns-in-None : goal.returns-in-None
returns-in-None c = sym (ap (λ ks. kept_in ks c.args.lock) (list_missing c.args.self.now c.args.line c.deref.result.now c.deref.ensures.value c.in-None.ensures.lookup.3))
