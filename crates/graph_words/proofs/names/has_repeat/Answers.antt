use Rattle.std.proofs.Common.{Bool, true, false, not, ◌≡◌, ◌∙◌, sym, ap}
use Rattle.std.specs.BTreeSet.{contains}
use Rattle.std.specs.Cmp.Lexicographic.{slice_cmp}
use Rattle.std.specs.Ordering.{nat_cmp}
use Rattle.graph_words.proofs.NameLists.{repeated_at, once_more, kept_more}
use Rattle.graph_words.proofs.names.has_repeat.Goals as goal

unnot : (b c : Bool) → b ≡ not c → c ≡ not b
unnot b true h = sym (ap not h)
unnot b false h = sym (ap not h)

pub returns-in-Ok-false : goal.returns-in-Ok-false
returns-in-Ok-false c =
    sym (repeated_at c.args.names.now c.loop-name.name-index c.name-item.result c.name-item.result c.loop-name-test.true c.name-item.is
    (sym (c.loop-name.invariant.kept c.name-item.result) ∙ (unnot c.in-Ok-false.field-0 _ c.in-Ok-false.ensures.added ∙ ap not c.in-Ok-false.field-0-test)))

pub loop-name-preserved : goal.loop-name-preserved
loop-name-preserved c = record {
  kept = kept_more c.args.names.now c.loop-name.name-index c.name-item.result (contains (slice_cmp nat_cmp) c.loop-name.seen) (contains (slice_cmp nat_cmp) c.insert.new.self) c.loop-name-test.true c.name-item.is c.loop-name.invariant.kept (c.in-Ok-true.ensures.updates.0);
  once = once_more c.args.names.now c.loop-name.name-index c.name-item.result c.loop-name-test.true c.name-item.is c.loop-name.invariant.once
      (sym (c.loop-name.invariant.kept c.name-item.result) ∙ (unnot c.in-Ok-true.field-0 _ c.in-Ok-true.ensures.added ∙ ap not c.in-Ok-true.field-0-test));
}
