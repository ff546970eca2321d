use Rattle.std.proofs.Common.{[]}
use Rattle.std.specs.Slots.{slots_items}
use Rattle.event_table.specs.Kept.{map_in}
use Rattle.event_table.proofs.TableLook.{is_map}
use Rattle.event_table.proofs.left.Left.of_words.Goals as goal

pub returns-clause-is_map : goal.returns-clause-is_map
returns-clause-is_map c = is_map c.args.shape (slots_items c.args.closed.words) [] (map_in c.args.shape (slots_items c.args.closed.words) []) c.requires.sized.2 c.requires.shown
