use Rattle.race_pairs.proofs.ExemptSummary.{apart_by, by_apart}
use Rattle.race_pairs.proofs.common_sections.are_apart.Goals as goal

pub returns : goal.returns
returns c =
    let g = c.args.graph.now in
    let h = c.args.held.now in
    let held = c.requires.held in (
      λ yes'. (let x = c.are_apart.ensures.0 yes' in (x.0, apart_by g h held x.0 c.args.one c.args.other x.1)),
      λ a. c.are_apart.ensures.1 (a.0, by_apart g c.requires.alone h held a.0 c.args.one c.args.other c.requires.one c.requires.other a.1),
    )
