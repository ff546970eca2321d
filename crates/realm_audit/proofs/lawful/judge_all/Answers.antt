use Rattle.std.proofs.Common.{◌≡◌, length, below_more, subst, arith}
use Rattle.realm_audit.specs.Lawful.{IsSoundAt, IsSoundBefore, IsMissing}
use Rattle.realm_audit.specs.Prefix.{IsLeft, AreEarlier, stands_in}
use Rattle.realm_audit.proofs.FaultFacts.{least_same, missing_is}
use Rattle.realm_audit.proofs.Verdicts.{sound_is_lawful}
use Rattle.realm_audit.proofs.lawful.judge_all.Goals as goal

pub loop-place-init : goal.loop-place-init
loop-place-init c = record { prefix = c.in_ok-prefix.ensures c.args.trace.now; sound = λ m h. absurd (omega (arith, h)) }

pub add-requires-clause-sound : goal.add-requires-clause-sound
add-requires-clause-sound c = below_more (λ m. IsSoundAt c.args.graph.now c.args.trace.now m) c.loop-place.place c.loop-place.invariant.sound c.in_ok-judge_place.ensures.sound

pub loop-place-preserved : goal.loop-place-preserved
loop-place-preserved c = record {
  prefix = c.add.ensures;
  sound = below_more (λ m. IsSoundAt c.args.graph.now c.args.trace.now m) c.loop-place.place c.loop-place.invariant.sound c.in_ok-judge_place.ensures.sound;
}

pub returns-in-Some-clause-refused : goal.returns-in-Some-clause-refused
returns-in-Some-clause-refused c =
    let g = c.args.graph.now in
    let trace = c.args.trace.now in
    let stands = c.loop-place.prefix.stands.items in
    let all : c.loop-place.place ≡ length trace = omega arith in (
      subst (λ k. IsSoundBefore g trace k) all c.loop-place.invariant.sound,
      least_same (IsLeft g stands) (IsMissing g trace) (missing_is g trace stands (subst (λ k. AreEarlier trace k (stands_in stands)) all c.loop-place.invariant.prefix.earlier)) c.in-Some.line c.in-Some.ensures,
    )

pub returns-clause-ok : goal.returns-clause-ok
returns-clause-ok c =
    let g = c.args.graph.now in
    let trace = c.args.trace.now in
    let stands = c.loop-place.prefix.stands.items in
    let all : c.loop-place.place ≡ length trace = omega arith in
    sound_is_lawful c.order_lists_ended.ensures g c.lines.ensures.is_graph c.requires.accepted trace (subst (λ k. IsSoundBefore g trace k) all c.loop-place.invariant.sound)
    (λ j m. c.in-None.ensures j ((missing_is g trace stands (subst (λ k. AreEarlier trace k (stands_in stands)) all c.loop-place.invariant.prefix.earlier) j).1 m))
