use Rattle.std.proofs.Common.{◌∙◌, sym, arith}
use Rattle.std.proofs.lemmas.Bool.{eqb-true}
use Rattle.sweep_base.proofs.Sections.{free_of, list_found, list_missing, nil_of}
use Rattle.sweep_base.proofs.line_sections.Held.is_free.Goals as goal

pub returns-in-Some : goal.returns-in-Some
returns-in-Some c h =
    let at = c.in-Some.ensures.lookup.3 in
    let v = c.in-Some.list.now in
    free_of c.args.graph.now c.args.self.now c.requires.held c.args.line c.requires.line
    (list_found c.args.self.now c.args.line c.deref.result.now v c.deref.ensures.value at.0 at.1 ∙ nil_of v.items (let e = eqb-true _ 0 (sym c.is_empty.ensures ∙ h) in omega (arith, e, v.ok.0)))

pub returns-in-None : goal.returns-in-None
returns-in-None c h = free_of c.args.graph.now c.args.self.now c.requires.held c.args.line c.requires.line (list_missing c.args.self.now c.args.line c.deref.result.now c.deref.ensures.value c.in-None.ensures.lookup.3)
