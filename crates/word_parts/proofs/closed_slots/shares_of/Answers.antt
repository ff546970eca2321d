use Rattle.std.proofs.Common.{arith, inr, ◌≡◌, ◌+◌, ◌*◌, ◌^◌, ◌<◌, ◌≤◌, false, Option, refl, sym, ◌∙◌, ap, subst}
use Rattle.std.specs.Prelude.{IsTrue, slice_index_or, slice_set}
use mathlib.Core.Option.{some}
use lib.ListN.{get_elem?}
use Rattle.std.specs.Slots.{slots_items, slots_filled}
use Rattle.index_spaces.specs.Shares.{ShareValue}
use Rattle.word_steps.specs.Layout.{size_of, share_slot}
use Rattle.word_steps.specs.Lending.{MayJoin, joined, first_for, place_for}
use Rattle.share_words.specs.Planes.{slot_in_planes}
use Rattle.share_words.specs.Shares.{share_count}
use Rattle.share_words.proofs.Public.{slot_within, share_count_few, shares_in_planes}
use Rattle.word_steps.proofs.Public.{may_join, join_next, first_all}
use Rattle.word_parts.proofs.EmptyFacts.{place_taken, one_content}
use Rattle.word_parts.proofs.closed_slots.shares_of.Goals as goal

pub take-requires : goal.take-requires
unfolding slot_in_planes
take-requires c =
    let z = size_of c.args.graph.now in
    let j = c.loop-j.j in
    let i = c.loop-j.invariant in
    let within : j < z.planes = omega (arith, c.loop-j-test.true, c.requires.planes) in
    let row : j * c.columns-columns.result ≡ j * z.cols = ap (λ n. j * n) c.columns-columns.ensures.number in
    let spot : c.lines.result + c.columns-columns.result + c.args.c + j * c.columns-columns.result ≡ share_slot z c.args.c j = omega (arith, row, c.columns-columns.ensures.number, c.lines.ensures.number) in
    let inside = slot_within (z.lines + z.cols) z.cols z.planes c.args.c j c.requires.known within in (
      omega (arith, spot, inside.1, i.deep),
      subst (λ n. IsTrue (slice_index_or (slots_filled c.loop-j.closed.slots) n false)) (sym spot) (i.taken.places_left c.args.c j c.requires.known within (inr (refl, omega arith))),
    )

pub joined-all-requires : goal.joined-all-requires
unfolding slot_in_planes
joined-all-requires c =
    let g = c.args.graph.now in
    let z = size_of g in
    let k = c.args.c in
    let j = c.loop-j.j in
    let i = c.loop-j.invariant in
    let items = slots_items c.args.closed.now.slots in
    let within : j < z.planes = omega (arith, c.loop-j-test.true, c.requires.planes) in
    let row : j * c.columns-columns.result ≡ j * z.cols = ap (λ n. j * n) c.columns-columns.ensures.number in
    let spot : c.lines.result + c.columns-columns.result + k + j * c.columns-columns.result ≡ share_slot z k j = omega (arith, row, c.columns-columns.ensures.number, c.lines.ensures.number) in
    let x = c.requires.there.0 in
    let h = c.requires.there.1 in
    let few : share_count g k < 2 ^ 63 = omega (arith, share_count_few g k) in
    let at : get_elem? items (share_slot z k j) ≡ some c.take.result = ap (get_elem? items) (sym spot) ∙ (ap (λ s. get_elem? s (c.lines.result + c.columns-columns.result + k + j * c.columns-columns.result)) (sym i.same) ∙ c.take.ensures.value) in
    let is = one_content items (share_slot z k j) c.take.result (place_for (share_count g k) j h.lending x) at (h.places j within) in
    subst (MayJoin c.loop-j.all) (sym is) (subst (λ (a : Option ShareValue). MayJoin a (place_for (share_count g k) j h.lending x)) (sym (i.first x h)) (may_join (share_count g k) h.lending x few j))

pub loop-j-preserved : goal.loop-j-preserved
unfolding slot_in_planes
loop-j-preserved c =
    let g = c.args.graph.now in
    let z = size_of g in
    let k = c.args.c in
    let j = c.loop-j.j in
    let i = c.loop-j.invariant in
    let o = c.take.ensures.others in
    let items = slots_items c.args.closed.now.slots in
    let within : j < z.planes = omega (arith, c.loop-j-test.true, c.requires.planes) in
    let row : j * c.columns-columns.result ≡ j * z.cols = ap (λ n. j * n) c.columns-columns.ensures.number in
    let spot : c.lines.result + c.columns-columns.result + k + j * c.columns-columns.result ≡ share_slot z k j = omega (arith, row, c.columns-columns.ensures.number, c.lines.ensures.number) in
    let few : share_count g k < 2 ^ 63 = omega (arith, share_count_few g k) in
    let at : get_elem? items (share_slot z k j) ≡ some c.take.result = ap (get_elem? items) (sym spot) ∙ (ap (λ s. get_elem? s (c.lines.result + c.columns-columns.result + k + j * c.columns-columns.result)) (sym i.same) ∙ c.take.ensures.value) in
    record {
      deep = o.2 ∙ i.deep;
      taken = place_taken z k j (slots_filled c.loop-j.closed.slots) (slots_filled c.take.new.self.slots) c.requires.known within (o.1 ∙ ap (λ n. slice_set (slots_filled c.loop-j.closed.slots) n false) spot) i.taken;
      same = o.0 ∙ i.same;
      first = λ x h. c.joined-all.ensures ∙ (ap (λ (a : Option ShareValue). joined a c.take.result) (i.first x h)
          ∙ (ap (joined (first_for (share_count g k) j h.lending x)) (one_content items (share_slot z k j) c.take.result (place_for (share_count g k) j h.lending x) at (h.places j within))
          ∙ join_next (share_count g k) h.lending x few j));
    }

pub returns-clause-all : goal.returns-clause-all
returns-clause-all c = λ x h.
    let g = c.args.graph.now in
    let k = c.args.c in
    let few : share_count g k < 2 ^ 63 = omega (arith, share_count_few g k) in
    let all : share_count g k ≤ c.loop-j.j = omega (arith, shares_in_planes g k c.requires.known, c.requires.planes, c.loop-j-test.false) in
    c.loop-j.invariant.first x h ∙ first_all (share_count g k) h.lending x few c.loop-j.j all
