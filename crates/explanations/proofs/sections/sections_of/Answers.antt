use Rattle.std.proofs.Common.{◌≡◌, ◌<◌, ◌∙◌, sym, subst, arith, length}
use Rattle.std.proofs.lemmas.Option.{same_Some}
use Rattle.explanations.specs.Search.{IsFound}
use Rattle.explanations.proofs.SectionFacts.{IsSectionBy, found_more, found_all, found_skip, is_section, section_by, release_line}
use Rattle.explanations.proofs.sections.sections_of.Goals as goal
use Rattle.explanations.proofs.sections.sections_of.Goals.{in-Some+in_ok-push, in_default}

pub loop-release-preserved : goal.loop-release-preserved
loop-release-preserved c = elim c.match-section_at.branch [
  | in-Some+in_ok-push w ↦ (
      let g = c.args.graph.now in
      let before = c.in_ok-before.field-0.counts.items in
      let after = c.in_ok-after.field-0.counts.items in
      let S = IsSectionBy g before after c.args.line in
      let q = w.in-Some.acquire in
      let is = w.in-Some.ensures.some in
      let made : S q c.loop-release.release = record {
        release = is.0;
        lock = is.1;
        entered = subst (λ xs. IsFound xs c.args.line q) c.as_slice.ensures.value is.2;
        left = subst (λ xs. IsFound xs c.args.line c.loop-release.release) c.as_slice-in-loop-release.ensures.value is.3;
      } in
      rw w.acquires-is (record {
        sound = found_more S c.loop-release.release q c.loop-release.acquires.items w.push.new.items.items w.in_ok-push.ensures.ok made c.loop-release.invariant.sound;
        complete = found_all S c.loop-release.release q c.loop-release.acquires.items w.push.new.items.items w.in_ok-push.ensures.ok (λ p s. same_Some p q (sym s.release ∙ is.0)) c.loop-release.invariant.complete;
      }))
  | in_default w ↦ (
      let g = c.args.graph.now in
      let before = c.in_ok-before.field-0.counts.items in
      let after = c.in_ok-after.field-0.counts.items in
      let S = IsSectionBy g before after c.args.line in
      rw w.acquires-is (record {
        sound = c.loop-release.invariant.sound;
        complete = found_skip S c.loop-release.release c.loop-release.acquires.items
            (λ p s. c.section_at.ensures.none w.in_default.is p s.release s.lock (subst (λ xs. IsFound xs c.args.line p) (sym c.as_slice.ensures.value) s.entered) (subst (λ xs. IsFound xs c.args.line c.loop-release.release) (sym c.as_slice-in-loop-release.ensures.value) s.left))
            c.loop-release.invariant.complete;
      }))
]

pub returns-clause-sound : goal.returns-clause-sound
returns-clause-sound c = λ q m.
    (let g = c.args.graph.now in
    let before = c.in_ok-before.field-0.counts.items in
    let after = c.in_ok-after.field-0.counts.items in
    let s = c.loop-release.invariant.sound q m in
    is_section g c.args.line before after c.in_ok-after.field-0.origins.items c.in_ok-before.ensures.counts c.in_ok-after.ensures.counts c.in_ok-after.ensures.origins q s.0 s.1)

pub returns-clause-complete : goal.returns-clause-complete
returns-clause-complete c = λ l q s.
    (let g = c.args.graph.now in
    let before = c.in_ok-before.field-0.counts.items in
    let after = c.in_ok-after.field-0.counts.items in
    let below : c.loop-release.release ≡ length g.lines = omega (arith, c.loop-release-test.false) in
    c.loop-release.invariant.complete q s.release (subst (λ n. s.release < n) (sym below) (release_line g s.release q s.releases))
    (section_by g c.args.line before after c.in_ok-after.field-0.origins.items c.in_ok-before.ensures.counts c.in_ok-after.ensures.counts c.in_ok-after.ensures.origins c.requires.acyclic l q s))
