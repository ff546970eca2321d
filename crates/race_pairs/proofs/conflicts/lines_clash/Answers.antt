use Rattle.race_pairs.proofs.AccessLists.{spaces_known, accesses_read, clash_of_lists}
use Rattle.race_pairs.proofs.conflicts.lines_clash.Goals as goal

pub some_clash-requires-clause-ones : goal.some_clash-requires-clause-ones
some_clash-requires-clause-ones c =
    let g = c.args.graph.now in
    let is = accesses_read g c.args.accesses.now c.requires.accesses c.args.one c.index-accesses-one.result c.as_slice-ones.result.now c.requires.one c.index-accesses-one.is c.as_slice-ones.ensures.value in
    spaces_known c.all_accesses_fit.ensures g c.lines.ensures.is_graph c.args.one c.as_slice-ones.result.now is

pub some_clash-requires-clause-others : goal.some_clash-requires-clause-others
some_clash-requires-clause-others c =
    let g = c.args.graph.now in
    let is = accesses_read g c.args.accesses.now c.requires.accesses c.args.other c.index-accesses-other.result c.as_slice-others.result.now c.requires.other c.index-accesses-other.is c.as_slice-others.ensures.value in
    spaces_known c.all_accesses_fit.ensures g c.lines.ensures.is_graph c.args.other c.as_slice-others.result.now is

pub returns : goal.returns
returns c =
    let g = c.args.graph.now in
    let lists = c.args.accesses.now in
    clash_of_lists g c.args.commuting c.some_clash.result c.args.one c.args.other c.as_slice-ones.result.now c.as_slice-others.result.now
    (accesses_read g lists c.requires.accesses c.args.one c.index-accesses-one.result c.as_slice-ones.result.now c.requires.one c.index-accesses-one.is c.as_slice-ones.ensures.value)
    (accesses_read g lists c.requires.accesses c.args.other c.index-accesses-other.result c.as_slice-others.result.now c.requires.other c.index-accesses-other.is c.as_slice-others.ensures.value) c.some_clash.ensures
