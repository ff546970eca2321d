use Rattle.std.proofs.Common.{◌≡◌, ℕ, List, map, ◌++◌, ◌∙◌, sym, ap, subst, arith}
use Rattle.std.specs.Borrow.{Bor}
use Rattle.index_spaces.specs.Space.{IsSpace}
use Rattle.space_classes.specs.Classes.{values, space_of}
use Rattle.space_classes.specs.Spans.{span_of}
use Rattle.space_classes.proofs.Spanning.{one_spanned, values_count, value_at}
use Rattle.space_classes.proofs.spans.spans_of.Goals as goal

pub loop-k-preserved : goal.loop-k-preserved
loop-k-preserved c =
    let spaces = c.args.spaces.now in
    let k = c.loop-k.k in
    let s = c.index-spaces-k.result in
    let is : space_of (values spaces) k ≡ s.now = value_at spaces k s c.loop-k-test.true ∙ ap (λ (t : Bor (List (ℕ × ℕ))). t.now) (sym c.index-spaces-k.is) in
    one_spanned (values spaces) k c.loop-k.spans.items c.add_spans.new.spans.items (omega (arith, values_count spaces, c.loop-k-test.true))
    (subst IsSpace (sym is) c.intervals.ensures.is_space) c.loop-k.invariant
    (c.in_ok-add_spans.ensures ∙ ap (λ t. c.loop-k.spans.items ++ map (span_of k) t) (sym is))
