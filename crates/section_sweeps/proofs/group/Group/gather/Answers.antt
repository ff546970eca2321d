use Rattle.std.proofs.Common.{ℕ, ◌+◌, ◌<◌, ◌≤◌, length, [], ◌∷◌, ◌++◌, refl, sym, ap, subst, arith, length-append}
use Rattle.std.proofs.lemmas.List.{get_or_read}
use Rattle.graph_terms.specs.Reservations.{Acquires}
use Rattle.section_sweeps.specs.Group.{AreGathered, IsCleared}
use Rattle.section_sweeps.specs.declared.group.Group.{Group}
use Rattle.section_sweeps.proofs.Grouping.{gathered_skip, gathered_more, cleared_same}
use Rattle.section_sweeps.proofs.group.Group.gather.Goals as goal
use Rattle.section_sweeps.proofs.group.Group.gather.Goals.{in-Some+in_ok-push, in_default}

pub loop-place-preserved : goal.loop-place-preserved
loop-place-preserved c =
    let g = c.args.graph.now in
    let lines = c.args.table.now.lines.items in
    let places = c.args.table.now.places.items in
    let placed = c.requires.table.placed in
    let x = c.loop-place.place in
    let line = c.index-line.result.now in
    let old = c.loop-place.self in
    let inv = c.loop-place.invariant in
    let small : x < length g.lines = omega (arith, c.loop-place-test.true, c.lines-lines.ensures.number) in
    let at = get_or_read lines x line (omega (arith, small, placed.lines_size)) c.index-line.ensures 0 in
    let step : (length c.match-acquired.self.acquires.items + c.args.start ≤ x + 1) × IsCleared (length g.lines) c.match-acquired.self × AreGathered g places c.match-acquired.self.acquires.items c.args.start (x + 1) = elim c.match-acquired.branch [
      | in-Some+in_ok-push w ↦ (
          let ok = w.in_ok-push.ensures.ok in
          let size = length-append old.acquires.items (line ∷ []) in
          subst (λ (s : Group). (length s.acquires.items + c.args.start ≤ x + 1) × IsCleared (length g.lines) s × AreGathered g places s.acquires.items c.args.start (x + 1)) (sym w.self-is) (
            omega (arith, ap length ok, size, inv.count),
            cleared_same (length g.lines) old _ refl refl refl inv.cleared,
            subst (λ xs. AreGathered g places xs c.args.start (x + 1)) (sym ok)
                (subst (λ v. AreGathered g places (old.acquires.items ++ v ∷ []) c.args.start (x + 1)) (sym at)
                (gathered_more g lines places placed old.acquires.items c.args.start x small inv.gathered inv.begins (omega (arith, c.if-len-lt64.true, c.len.ensures)))),
          ))
      | in_default w ↦
          subst (λ (s : Group). (length s.acquires.items + c.args.start ≤ x + 1) × IsCleared (length g.lines) s × AreGathered g places s.acquires.items c.args.start (x + 1)) (sym w.self-is) (
            omega (arith, inv.count),
            inv.cleared,
            gathered_skip g lines places placed old.acquires.items c.args.start x small inv.gathered (subst (λ v. (l : ℕ) → Acquires g v l → ⊥) at w.in_default.ensures),
          )
    ] in
    record {
      begins = omega (arith, inv.begins);
      within = omega (arith, c.loop-place-test.true);
      count = step.0;
      cleared = step.1;
      gathered = step.2;
    }
