use Rattle.std.proofs.Common.{length, refl}
use Rattle.std.proofs.lemmas.Option.{slice_get_read}
use Rattle.std.proofs.lemmas.Result.{on_ok_weaker}
use Rattle.sweep_base.proofs.Sections.{keeping}
use Rattle.sweep_base.proofs.line_sections.Held.keep.Goals as goal

pub returns : goal.returns
returns c =
    let lists = c.args.self.now.lines.items in
    on_ok_weaker c.push.result
    (λ ok. keeping c.args.self.now _ c.args.lock c.args.line c.args.acquire c.index_mut.result.now c.push.new.items (slice_get_read lists (length lists) c.args.line c.index_mut.result.now refl c.requires c.index_mut.ensures.value) ok refl) c.push.ensures.ok
