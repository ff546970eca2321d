use Rattle.std.proofs.Common.{◌≡◌, ℕ, ◌<◌, false, length, get_or, ◌∙◌, sym, subst, arith}
use Rattle.std.proofs.lemmas.List.{get_or_read}
use Rattle.std.proofs.lemmas.List.Elements.{Contains-get_or}
use Rattle.std.proofs.lemmas.Option.{slice_get-get_or}
use Rattle.space_classes.specs.declared.classes.Span.{Span}
use Rattle.space_classes.specs.Classes.{values}
use Rattle.space_classes.specs.Sweep.{Meets}
use Rattle.space_classes.proofs.Spanning.{values_count}
use Rattle.space_classes.proofs.Sweeping.{none_swept, one_swept, all_swept}
use Rattle.space_classes.proofs.sweep.labels_of.Goals as goal

abbrev none : Span
none = record { first = 0; last = 0; owner = 0 }

pub loop-n-init : goal.loop-n-init
loop-n-init c =
    let count = values_count c.args.spaces.now in
    none_swept (values c.args.spaces.now) c.args.spans.now c.in_ok-labels.labels.items c.in_ok-seen.seen.items
    (omega (arith, count, c.in_ok-labels.ensures.count)) (omega (arith, count, c.in_ok-seen.ensures.size)) (λ k below. c.in_ok-labels.ensures.own k (omega (arith, count, below)))

pub index-requires : goal.index-requires
index-requires c =
    let known = (c.requires.spans.each (get_or c.args.spans.now c.loop-n.n none) (Contains-get_or c.args.spans.now c.loop-n.n none c.loop-n-test.true)).owner in
    omega (arith, known, c.loop-n.invariant.seen_count)

pub meet-requires-clause-span : goal.meet-requires-clause-span
meet-requires-clause-span c =
    let known = (c.requires.spans.each (get_or c.args.spans.now c.loop-n.n none) (Contains-get_or c.args.spans.now c.loop-n.n none c.loop-n-test.true)).owner in
    omega (arith, known, c.loop-n.invariant.count)

pub meet-requires-clause-far : goal.meet-requires-clause-far
meet-requires-clause-far c =
    let low : c.loop-n.furthest < length c.args.spans.now = omega (arith, c.loop-n.invariant.low, c.loop-n-test.true) in
    let known = (c.requires.spans.each (get_or c.args.spans.now c.loop-n.furthest none) (Contains-get_or c.args.spans.now c.loop-n.furthest none low)).owner in
    omega (arith, known, c.loop-n.invariant.count)

pub index_mut-requires : goal.index_mut-requires
index_mut-requires c =
    let known = (c.requires.spans.each (get_or c.args.spans.now c.loop-n.n none) (Contains-get_or c.args.spans.now c.loop-n.n none c.loop-n-test.true)).owner in
    omega (arith, known, c.loop-n.invariant.seen_count)

pub loop-n-preserved : goal.loop-n-preserved
loop-n-preserved c =
    let spans = c.args.spans.now in
    let n = c.loop-n.n in
    let f = c.loop-n.furthest in
    let x = get_or spans n none in
    let far = get_or spans f none in
    let low : f < length spans = omega (arith, c.loop-n.invariant.low, c.loop-n-test.true) in
    let known = (c.requires.spans.each x (Contains-get_or spans n none c.loop-n-test.true)).owner in
    let below : x.owner < length c.loop-n.seen.items = omega (arith, known, c.loop-n.invariant.seen_count) in
    let seen_is = get_or_read c.loop-n.seen.items x.owner c.index.result.now below c.index.ensures false in
    one_swept (values c.args.spaces.now) spans c.requires.spans c.requires.sorted n f c.loop-n.labels.items c.loop-n.seen.items c.loop-n.invariant x far
    (slice_get-get_or spans n none c.loop-n-test.true) (slice_get-get_or spans f none low) c.meet.new.labels.items c.further-furthest.result
    (subst (λ b. Meets b x far c.loop-n.labels.items c.meet.new.labels.items) seen_is c.meet.ensures) c.further-furthest.ensures

pub returns : goal.returns
returns c =
    all_swept (values c.args.spaces.now) c.args.spans.now c.loop-n.n c.loop-n.furthest c.loop-n.labels.items c.loop-n.seen.items c.requires.spans c.loop-n.invariant
    (omega (arith, c.loop-n-test.false, c.loop-n.auto.n-end))
