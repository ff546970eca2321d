use Rattle.std.proofs.Common.{true, ◌<◌, length, ◌∙◌, arith}
use Rattle.std.specs.Prelude.{false, slice_set}
use Rattle.std.proofs.lemmas.List.{get_or-set_same, get_or-set_other, length-set}
use Rattle.realm_audit.specs.Prefix.{stands_in}
use Rattle.realm_audit.proofs.FaultFacts.{stands_more}
use Rattle.realm_audit.proofs.prefix.Prefix.add.Goals as goal

pub returns : goal.returns
returns c =
    let before = c.args.self.now.stands.items in
    let line = c.at-line.result in
    let known = c.requires.lines c.args.place line c.at-line.ensures in
    let below : line < length before = omega (arith, known, c.requires.prefix.size) in
    record {
      size = length-set before line true ∙ c.requires.prefix.size;
      earlier = stands_more c.args.trace.now c.args.place line c.at-line.ensures (stands_in before) (stands_in (slice_set before line true)) c.requires.prefix.earlier
          (get_or-set_same before line true false below) (λ j apart. get_or-set_other before line j true false apart);
      sections = c.pass.ensures;
    }
