use Rattle.std.proofs.Common.{rules}
use Rattle.std.proofs.lemmas.List.Sorted.{IsNonDecreasingBy-from_sort_by_key}
use Rattle.space_classes.specs.Classes.{values}
use Rattle.space_classes.specs.Spans.{first_of}
use Rattle.space_classes.proofs.Spanning.{spans_moved}
use Rattle.space_classes.proofs.spans.sorted_spans.Goals as goal

pub returns-clause-spans : goal.returns-clause-spans
returns-clause-spans c = spans_moved (values c.args.spaces.now) c.in_ok-spans.spans.items c.sort_unstable_by_key.new.self.items c.sort_unstable_by_key.ensures.permutation c.in_ok-spans.ensures

pub returns-clause-sorted : goal.returns-clause-sorted
returns-clause-sorted c = IsNonDecreasingBy-from_sort_by_key first_of _ c.sort_unstable_by_key.ensures.sorted (λ a r q k. search rules)
