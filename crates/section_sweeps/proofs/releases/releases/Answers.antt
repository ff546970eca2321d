use Rattle.std.proofs.Common.{ℕ, ◌+◌, length, sym, subst, ap, ◌∙◌, arith}
use Rattle.std.specs.Prelude.{Vec, Option, Some}
use Rattle.std.specs.Global.{Global}
use Rattle.std.proofs.lemmas.List.{length-set}
use Rattle.section_sweeps.specs.Releases.{release_in}
use Rattle.section_sweeps.proofs.ReleaseTable.{IsReleaseTableTo, table_other}
use Rattle.section_sweeps.proofs.ReleaseTable.{releases_begun, releases_more, releases_done}
use Rattle.section_sweeps.proofs.releases.releases.Goals as goal
use Rattle.section_sweeps.proofs.releases.releases.Goals.{in-Some, in_default}

pub loop-line-init : goal.loop-line-init
loop-line-init c = record { size = omega (arith, c.in_ok-releases.ensures.size); table = releases_begun c.args.graph.now c.in_ok-releases.releases.items c.in_ok-releases.ensures.each }

pub loop-line-preserved : goal.loop-line-preserved
loop-line-preserved c =
    let g = c.args.graph.now in
    let before = c.loop-line.releases.items in
    let i = c.loop-line.line in
    elim c.match-released.branch [
      | in-Some w ↦ (
          let same = ap (λ (v : Vec (Option ℕ) Global). v.items) w.releases-is in
          let fits = c.lines-lines.ensures.is_graph in
          record {
            size = ap length same ∙ (length-set before w.in-Some.acquire (Some i) ∙ c.loop-line.invariant.size);
            table = subst (λ rs. IsReleaseTableTo g (release_in rs) (i + 1)) (sym same)
                (releases_more g fits before i w.in-Some.acquire (omega (arith, w.in-Some.ensures.1, c.loop-line.invariant.size)) c.loop-line.invariant.table w.in-Some.ensures.0);
          })
      | in_default w ↦ (
          let same = ap (λ (v : Vec (Option ℕ) Global). v.items) w.releases-is in
          record {
            size = ap length same ∙ c.loop-line.invariant.size;
            table = subst (λ rs. IsReleaseTableTo g (release_in rs) (i + 1)) (sym same) (table_other g (release_in before) i c.loop-line.invariant.table w.in_default.ensures);
          })
    ]

pub returns : goal.returns
returns c = releases_done c.args.graph.now c.loop-line.releases.items c.loop-line.line (omega arith) c.loop-line.invariant.size c.loop-line.invariant.table
