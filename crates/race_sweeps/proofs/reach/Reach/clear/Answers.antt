use Rattle.std.proofs.Common.{◌≡◌, ◌/◌, false, inl, inr, length, sym, subst, ◌∙◌, ap, arith}
use Rattle.std.specs.Prelude.{slice_index}
use Rattle.std.proofs.lemmas.Bool.{cases_lt, true≢false}
use Rattle.std.proofs.lemmas.List.{get_or_read}
use Rattle.race_sweeps.specs.Reach.{IsBounded}
use Rattle.sweep_base.specs.Noted.{is_noted}
use Rattle.race_sweeps.specs.declared.reach.Reach.{Reach}
use Rattle.race_sweeps.proofs.reach.Reach.clear.Goals as goal
use Rattle.race_sweeps.proofs.reach.Reach.clear.Goals.{then-index, else-index}

pub loop-block-preserved : goal.loop-block-preserved
loop-block-preserved c =
    let n = length c.args.self.now.words.items in
    let s = c.loop-block.self in
    let b = c.loop-block.block in
    let was = c.loop-block.invariant in
    record {
      bounded = elim c.if-index.branch [
        | then-index w ↦ subst (IsBounded n) (sym w.self-is) (subst (λ k. IsBounded k w.clear_block.new.self) was.bounded.size w.clear_block.ensures.bounded)
        | else-index w ↦ subst (IsBounded n) (sym w.self-is) was.bounded
      ];
      none = λ x low. elim c.if-index.branch [
        | then-index w ↦ subst (λ (r : Reach). slice_index r.words.items x ≡ 0) (sym w.self-is)
            (elim (cases_lt (x / 64) b) [
              | inl before ↦ w.clear_block.ensures.kept x (was.none x before)
              | inr up ↦ w.clear_block.ensures.none x (let same : x / 64 ≡ b = omega arith in same)
            ])
        | else-index w ↦ subst (λ (r : Reach). slice_index r.words.items x ≡ 0) (sym w.self-is)
            (elim (cases_lt (x / 64) b) [
              | inl before ↦ was.none x before
              | inr up ↦ (
                  let same : x / 64 ≡ b = omega arith in
                  elim (was.bounded.marked x) [
                    | inl zero ↦ zero
                    | inr marked ↦ absurd (true≢false (sym marked ∙ (ap (is_noted s.blocks.items) same ∙
                        (sym (get_or_read s.blocks.items b c.index.result.now (omega (arith, c.loop-block-test.true, c.len-block-end.ensures, c.requires.blocks, was.bounded.blocks)) c.index.ensures false) ∙ w.if-index.false))))
                  ])
            ])
      ];
    }
