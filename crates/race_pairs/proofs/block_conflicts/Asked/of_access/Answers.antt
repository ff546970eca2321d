use Rattle.std.proofs.Common.{◌≡◌, true, ap, subst, ◌∙◌}
use Rattle.std.specs.Prelude.{IsTrue, slice_index}
use Rattle.std.proofs.lemmas.List.{get_or_read}
use Rattle.graph_terms.specs.Access.{modes_clash}
use Rattle.sweep_base.specs.Bits.{bit_in}
use Rattle.race_pairs.proofs.Asking.{clash_changes}
use Rattle.race_pairs.proofs.block_conflicts.Asked.of_access.Goals as goal

pub returns-in-Read : goal.returns-in-Read
returns-in-Read c a b asked column clash =
    let words = c.args.self.now.changed.items in
    let read = get_or_read words c.args.access.column c.index.result.now c.requires.changed c.index.ensures 0 in
    ap (λ z. bit_in z b) read ∙ subst (λ z. bit_in (slice_index words z) b ≡ true) column (asked.changes (clash_changes a.mode (subst (λ z. IsTrue (modes_clash a.mode z)) c.in-Read.is clash)))

pub returns-in_default : goal.returns-in_default
returns-in_default c a b asked column clash =
    let words = c.args.self.now.used.items in
    let read = get_or_read words c.args.access.column c.index-in_default.result.now c.requires.used c.index-in_default.ensures 0 in
    ap (λ z. bit_in z b) read ∙ subst (λ z. bit_in (slice_index words z) b ≡ true) column asked.uses
