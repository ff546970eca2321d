use Rattle.std.proofs.Common.{ap, sym, ◌∙◌}
use Rattle.std.specs.Prelude.{codes, []}
use Rattle.std.specs.Option.{option_map_or}
use Rattle.graph_terms.specs.declared.verb.Line.{Line}
use Rattle.explain_text.specs.Lines.{numbered}
use Rattle.refusal_text.specs.Refused.{refused_one, on_of, on_text, write_text}
use Rattle.explain_text.proofs.Public.{puts_as, then_puts}
use Rattle.refusal_text.proofs.refused.put_release.Goals as goal

pub returns : goal.returns
returns c =
    let g = c.args.graph.now in
    let ls = c.args.lines.now in
    let r = c.put_write.result in
    let x = c.args.reason.now in
    (then_puts r _ _ _ (refused_one g (codes "release") c.args.reason.now.release) _ c.in_ok-put_refused_one.ensures
    (then_puts r _ _ _ (numbered g ls c.args.reason.now.release) _ c.in_ok-put_numbered.ensures
    (then_puts r _ _ _ (on_text g ls x.on) (write_text g x.release x.acquire (on_of g x.release)) c.in_ok-put_on.ensures
    (puts_as r _ _ (write_text g x.release x.acquire c.as_slice-on.result.now) (write_text g x.release x.acquire (on_of g x.release))
    (ap (write_text g x.release x.acquire) (c.as_slice-on.ensures ∙ sym (ap (λ o. option_map_or (λ (l : Line). l.on) o []) c.line.ensures.line))) c.put_write.ensures))))
