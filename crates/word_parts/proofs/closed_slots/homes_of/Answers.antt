use Rattle.std.proofs.Common.{arith, inl, inr, false, ◌≡◌, ◌<◌, ◌+◌, ◌∙◌, sym, ap, subst, length}
use Rattle.std.specs.Prelude.{Some, slice_get, slice_set}
use mathlib.Core.Option.{some}
use lib.ListN.{get_elem?}
use Rattle.std.specs.Slots.{slots_items, slots_filled}
use Rattle.std.proofs.lemmas.Bool.{cases_eq}
use Rattle.std.proofs.lemmas.List.{length-set}
use Rattle.graph_terms.specs.Graph.{columns}
use Rattle.word_parts.specs.Emptying.{AreTaken}
use Rattle.word_steps.specs.Layout.{size_of}
use Rattle.word_steps.specs.Lending.{LiesIn}
use Rattle.basics.proofs.ListFacts.{set_get, set_get_other}
use Rattle.word_parts.proofs.EmptyFacts.{column_taken, lies_on, whole_here}
use Rattle.word_parts.proofs.closed_slots.homes_of.Goals as goal

pub shares_of-all-requires-clause-there : goal.shares_of-all-requires-clause-there
shares_of-all-requires-clause-there c =
    let g = c.args.graph.now in
    let near : c.loop-c.c < length (columns g) = omega (arith, c.loop-c-test.true, c.columns-c-end.ensures.number) in
    let x = c.requires.items c.loop-c.c near in
    (x.0, lies_on g (slots_items c.args.closed.now.slots) (slots_items c.loop-c.closed.slots) c.loop-c.c x.0 c.loop-c.invariant.same x.1)

pub column_of-column-requires : goal.column_of-column-requires
column_of-column-requires c =
    let g = c.args.graph.now in
    let k = c.loop-c.c in
    let items = slots_items c.args.closed.now.slots in
    let near : k < length (columns g) = omega (arith, c.loop-c-test.true, c.columns-c-end.ensures.number) in
    let x = c.requires.items k near in
    let there : get_elem? items (length g.lines + k) ≡ some c.take.result = ap (λ n. get_elem? items (n + k)) (sym c.lines-lines.ensures.number)
    ∙ (ap (λ s. get_elem? s (c.lines-lines.result + k)) (sym (c.shares_of-all.ensures.same ∙ c.loop-c.invariant.same)) ∙ c.take.ensures.value) in
    let on = lies_on g items (slots_items c.loop-c.closed.slots) k x.0 c.loop-c.invariant.same x.1 in
    (x.0, whole_here g items k c.take.result c.shares_of-all.result x.0 x.1 there (c.shares_of-all.ensures.all x.0 on))

pub loop-c-preserved : goal.loop-c-preserved
loop-c-preserved c =
    let g = c.args.graph.now in
    let i = c.loop-c.invariant in
    let o = c.take.ensures.others in
    let k = c.loop-c.c in
    let n = length g.lines in
    let items = slots_items c.args.closed.now.slots in
    let near : k < length (columns g) = omega (arith, c.loop-c-test.true, c.columns-c-end.ensures.number) in
    let there : get_elem? items (n + k) ≡ some c.take.result = ap (λ m. get_elem? items (m + k)) (sym c.lines-lines.ensures.number)
    ∙ (ap (λ s. get_elem? s (c.lines-lines.result + k)) (sym (c.shares_of-all.ensures.same ∙ i.same)) ∙ c.take.ensures.value) in
    let planes : c.planes.result ≡ (size_of g).planes = c.planes.ensures ∙ c.requires.shares.planes in
    record {
      deep = o.2 ∙ c.shares_of-all.ensures.deep;
      taken = column_taken (size_of g) k (slots_filled c.shares_of-all.new.closed.slots) (slots_filled c.take.new.self.slots) near (o.1 ∙ ap (λ m. slice_set (slots_filled c.shares_of-all.new.closed.slots) (m + k) false) c.lines-lines.ensures.number)
          (subst (λ m. AreTaken (size_of g) n k m (slots_filled c.shares_of-all.new.closed.slots)) planes c.shares_of-all.ensures.taken);
      same = o.0 ∙ (c.shares_of-all.ensures.same ∙ i.same);
      each = ap length c.give.ensures ∙ (length-set c.loop-c.homes k (Some c.column_of-column.result) ∙ i.each);
      home = λ m x low lies. elim (cases_eq m k) [
        | inl same ↦ (
            let here : LiesIn g items k x = subst (λ j. LiesIn g items j x) same lies in
            let on = lies_on g items (slots_items c.loop-c.closed.slots) k x i.same here in
            let is : c.column_of-column.result ≡ x = c.column_of-column.ensures x (whole_here g items k c.take.result c.shares_of-all.result x here there (c.shares_of-all.ensures.all x on)) in
            ap (λ hs. slice_get hs m) c.give.ensures ∙ (ap (slice_get (slice_set c.loop-c.homes k (Some c.column_of-column.result))) same
            ∙ (set_get c.loop-c.homes k (Some c.column_of-column.result) (subst (λ j. k < j) (sym i.each) near) ∙ ap (λ y. Some (Some y)) is)))
        | inr other ↦ ap (λ hs. slice_get hs m) c.give.ensures ∙ (set_get_other c.loop-c.homes k m (Some c.column_of-column.result) other ∙ i.home m x (omega (arith, low, other)) lies)
      ];
      out = λ m high inside. ap (λ hs. slice_get hs m) c.give.ensures ∙ (set_get_other c.loop-c.homes k m (Some c.column_of-column.result) (λ same. omega (arith, same, high)) ∙ i.out m (omega (arith, high)) inside);
    }

pub returns-clause-home : goal.returns-clause-home
returns-clause-home c = λ k x near lies. c.loop-c.invariant.home k x (omega (arith, near, c.loop-c-test.false, c.columns-c-end.ensures.number)) lies
