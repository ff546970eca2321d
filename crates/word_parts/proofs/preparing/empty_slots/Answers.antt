use Rattle.std.proofs.Common.{arith, ◌*◌, ◌≤◌, List, subst}
use Rattle.basics.proofs.ListFacts.{contains_none}
use Rattle.std.specs.Prelude.{Contains}
use Rattle.word_steps.specs.declared.content.Content.{Content}
use Rattle.word_steps.specs.Layout.{size_of}
use Rattle.share_words.specs.Planes.{plane_slots}
use Rattle.share_words.proofs.Public.{plane_slots_few, plane_count_few}
use Rattle.word_parts.proofs.PrepareFacts.{moved_start}
use Rattle.word_parts.proofs.preparing.empty_slots.Goals as goal

pub overflow_add-count : goal.overflow_add-count
overflow_add-count c =
    let z = size_of c.args.graph.now in
    let few : plane_slots z.cols z.planes ≤ 9 * z.cols = plane_slots_few z.cols z.planes (plane_count_few c.args.graph.now) in
    omega (arith, few, c.issue_turn_slot-count.ensures, c.lines-lines.ensures.number, c.lines-lines.ensures.few, c.columns-columns.ensures.number, c.columns-columns.ensures.few)

pub returns-in-Ok-line_slots-clause-moved : goal.returns-in-Ok-line_slots-clause-moved
returns-in-Ok-line_slots-clause-moved c =
    let empty = c.in-Ok-line_slots.ensures.empty in (
      moved_start c.args.graph.now c.lines-lines.result c.in-Ok-line_slots.slots.items c.in-Ok.lent.items c.lines-lines.ensures.number empty.0 c.in-Ok.ensures.items,
      empty.1,
      λ x m. absurd (contains_none x (subst (λ (l : List Content). Contains l x) c.in-Ok.ensures.items m)),
    )
