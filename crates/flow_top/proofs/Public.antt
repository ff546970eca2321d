-- The laws that the proofs of other crates cite, as specs/ states them.
use Rattle.flow_top.specs.Laws.{FewItems, UnreadHasFault}
use Rattle.graph_reader.proofs.ReadSoFar as read_so_far
use Rattle.flow_top.proofs.FlowLines as flow_lines

pub few_items : FewItems
few_items = flow_lines.few_items

pub unread_fault : UnreadHasFault
unread_fault = read_so_far.first_fault
