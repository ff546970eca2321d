use Rattle.std.proofs.Common.{◌∙◌, ap}
use Rattle.event_table.specs.EventMap.{EventMap, all_free, up_to_gen}
use Rattle.event_table.proofs.TakeOver.{freed_tells}
use Rattle.event_table.proofs.left.Left.into_table.Goals as goal

pub returns : goal.returns
returns c = let map = c.taking.ensures.map ∙ ap (λ (m : EventMap). up_to_gen c.args.spare.last_gen (all_free m)) c.self.view_is in
    let t = freed_tells c.args.self c.taking.result c.args.spare.last_gen map in
    record { map = map; answers = t.answers; created = t.keeps; free = t.free }
