use Rattle.std.proofs.Common.{◌<◌, length, ap, sym, ◌∙◌, subst, arith, ℕ}
use Rattle.std.specs.Prelude.{Vec, slice_index}
use Rattle.std.specs.Global.{Global}
use Rattle.std.proofs.lemmas.Option.{same_Some}
use Rattle.std.proofs.lemmas.List.{length-set}
use Rattle.graph_terms.specs.declared.verb.Access.{Access}
use Rattle.race_sweeps.specs.Scan.{HasHard, IsHardTo}
use Rattle.race_sweeps.proofs.Hardening.{near_read, same_use, hard_set, key_read}
use Rattle.race_sweeps.proofs.unexempt.harden.Goals as goal
use Rattle.race_sweeps.proofs.unexempt.harden.Goals.{then-is_same_use, else-is_same_use}

pub index-requires-in-loop-other : goal.index-requires-in-loop-other
index-requires-in-loop-other c =
    let near = c.args.table.now.near.items in
    let known = c.requires.near c.args.class (slice_index c.as_slice-near.result.now c.loop-other.other-index)
    (near_read near c.args.class c.index.result.now c.as_slice-near.result.now c.loop-other.other-index (omega (arith, c.requires.class, c.requires.lists)) c.index.ensures c.as_slice-near.ensures.value c.loop-other-test.true) in
    omega (arith, known)

pub index_mut-requires-then-is_same_use : goal.index_mut-requires-then-is_same_use
index_mut-requires-then-is_same_use c =
    let near = c.args.table.now.near.items in
    let known = c.requires.near c.args.class (slice_index c.as_slice-near.result.now c.loop-other.other-index)
    (near_read near c.args.class c.index.result.now c.as_slice-near.result.now c.loop-other.other-index (omega (arith, c.requires.class, c.requires.lists)) c.index.ensures c.as_slice-near.ensures.value c.loop-other-test.true) in
    omega (arith, known, c.loop-other.invariant.size)

pub loop-other-init : goal.loop-other-init
loop-other-init c = record {
  size = length-set c.args.hard.now.items c.args.class c.args.place ∙ c.requires.size;
  hard = λ g end a h key has k. hard_set g c.args.table.now c.args.hard.now.items end c.args.class c.args.place c.requires.class h
      (λ b kb. subst (λ (z : Access). HasHard g c.args.table.now.limit (slice_index c.args.table.now.lines.items c.args.place) z.column z.space) (same_Some a b (sym key ∙ kb)) has) k;
}

pub loop-other-preserved : goal.loop-other-preserved
loop-other-preserved c =
    let t = c.args.table.now in
    let keys = t.keys.items in
    let d = slice_index c.as_slice-near.result.now c.loop-other.other-index in
    let known : d < length keys = c.requires.near c.args.class d
    (near_read t.near.items c.args.class c.index.result.now c.as_slice-near.result.now c.loop-other.other-index (omega (arith, c.requires.class, c.requires.lists)) c.index.ensures c.as_slice-near.ensures.value c.loop-other-test.true) in
    elim c.if-is_same_use.branch [
      | then-is_same_use w ↦ (
          let same = ap (λ (v : Vec ℕ Global). v.items) w.hard-is in
          let use' = c.is_same_use.ensures w.if-is_same_use.true in
          record {
            size = ap length same ∙ (length-set c.loop-other.hard.items d c.args.place ∙ c.loop-other.invariant.size);
            hard = λ g end a h key has k. subst (λ xs. IsHardTo g t xs end) (sym same)
                (hard_set g t c.loop-other.hard.items end d c.args.place known h
                (λ b kb. same_use g t.limit (slice_index t.lines.items c.args.place) a b
                (ap (λ (z : Access). z.column) (key_read keys d c.index-in-loop-other.result.now b known c.index-in-loop-other.ensures kb) ∙ (use'.0 ∙ ap (λ (z : Access). z.column) (sym (key_read keys c.args.class c.index-key.result.now a c.requires.class c.index-key.ensures key))))
                (ap (λ (z : Access). z.space) (key_read keys d c.index-in-loop-other.result.now b known c.index-in-loop-other.ensures kb) ∙ (use'.1 ∙ ap (λ (z : Access). z.space) (sym (key_read keys c.args.class c.index-key.result.now a c.requires.class c.index-key.ensures key)))) has)
                (c.loop-other.invariant.hard g end a h key has k));
          })
      | else-is_same_use w ↦ (
          let same = ap (λ (v : Vec ℕ Global). v.items) w.hard-is in
          record {
            size = ap length same ∙ c.loop-other.invariant.size;
            hard = λ g end a h key has k. subst (λ xs. IsHardTo g t xs end) (sym same) (c.loop-other.invariant.hard g end a h key has k);
          })
    ]
