use Rattle.std.proofs.Common.{◌+◌, inl, inr, sym, subst}
use Rattle.std.proofs.lemmas.Bool.{cases_Bool}
use Rattle.realm_audit.specs.declared.sections.Sections.{Sections}
use Rattle.realm_audit.specs.Prefix.{AreOpen, stands_in}
use Rattle.realm_audit.proofs.SectionSteps.{not_open, open_begun, open_ended, open_same, ends_no_other}
use Rattle.realm_audit.proofs.sections.Sections.pass.Goals as goal

pub begin-requires-clause-closed : goal.begin-requires-clause-closed
begin-requires-clause-closed c = not_open c.order_lists_ended.ensures c.args.graph.now c.lines.ensures.is_graph c.requires.accepted c.args.trace.now c.args.place c.at-line.result c.at-line.ensures c.requires.sound
    (stands_in c.args.self.now.opened.items) c.requires.sections.are

pub returns-in-Some : goal.returns-in-Some
returns-in-Some c = record {
  counted = c.begin.ensures.counted;
  are = open_begun c.order_lists_ended.ensures c.args.graph.now c.lines.ensures.is_graph c.requires.accepted c.args.trace.now c.args.place c.at-line.result c.at-line.ensures c.requires.sound
      c.in-Some.lock c.args.self.now.opened.items c.begin.new.self.opened.items c.in-Some.ensures.0 c.requires.sections.are c.begin.ensures.opens;
}

pub returns-in-Some-released : goal.returns-in-Some-released
returns-in-Some-released c =
    let g = c.args.graph.now in
    let trace = c.args.trace.now in
    let opened = c.args.self.now.opened.items in
    let acquire = c.in-Some-released.acquire in
    let rel = c.in-Some-released.ensures.0 in
    record {
      counted = c.end_if_open.ensures.counted;
      are = elim (cases_Bool (stands_in opened acquire)) [
        | inl is ↦ open_ended c.order_lists_ended.ensures g c.lines.ensures.is_graph c.requires.accepted trace c.args.place c.at-line.result c.at-line.ensures c.requires.sound
            acquire opened c.end_if_open.new.self.opened.items rel c.requires.sections.are (c.end_if_open.ensures.ends is)
        | inr shut ↦ subst (λ (s : Sections). AreOpen g trace (c.args.place + 1) (stands_in s.opened.items)) (sym (c.end_if_open.ensures.stays shut))
            (open_same c.order_lists_ended.ensures g c.lines.ensures.is_graph c.requires.accepted trace c.args.place c.at-line.result c.at-line.ensures c.requires.sound
            (stands_in opened) c.in_default.ensures (ends_no_other g c.at-line.result acquire (stands_in opened) rel shut) c.requires.sections.are)
      ];
    }

pub returns-in_default-released : goal.returns-in_default-released
returns-in_default-released c = record {
  counted = c.requires.sections.counted;
  are = open_same c.order_lists_ended.ensures c.args.graph.now c.lines.ensures.is_graph c.requires.accepted c.args.trace.now c.args.place c.at-line.result c.at-line.ensures c.requires.sound
      (stands_in c.args.self.now.opened.items) c.in_default.ensures (λ q is rel. c.in_default-released.ensures q rel) c.requires.sections.are;
}
