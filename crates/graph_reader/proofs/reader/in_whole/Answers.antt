use Rattle.std.proofs.Common.{subst}
use Rattle.graph_words.specs.Text.{bare_of}
use Rattle.graph_reader.specs.Laws.{refused_bare_line}
use Rattle.graph_reader.specs.Reading.{IsBareReadAs, IsBareUnreadBy}
use Rattle.graph_reader.proofs.ReadSoFar.{first_bare_fault}
use Rattle.graph_reader.proofs.TextLines.{refused_stands, fault_below}
use Rattle.graph_reader.proofs.reader.in_whole.Goals as goal

pub whole_number-requires : goal.whole_number-requires
whole_number-requires c =
    let bare = bare_of c.args.bytes.now in
    let u : IsBareUnreadBy bare c.in-Refused.field-0.number c.in-Refused.field-0.why c.in-Refused.field-0.above = subst (IsBareReadAs bare) c.in-Refused.is c.requires in
    let f = first_bare_fault bare c.in-Refused.field-0.number c.in-Refused.field-0.why c.in-Refused.field-0.above u in (
      refused_bare_line bare c.in-Refused.field-0.number c.in-Refused.field-0.why f,
      fault_below bare c.in-Refused.field-0.number c.in-Refused.field-0.why f,
      refused_stands bare c.in-Refused.field-0.number c.in-Refused.field-0.why f,
    )
