use Rattle.std.proofs.Common.{◌∙◌, ap, sym}
use Rattle.line_effects.specs.Homes.{all_home}
use Rattle.graph_meaning.specs.Effect.{cells_after}
use Rattle.line_effects.proofs.Public.{all_made}
use Rattle.plain_eval.proofs.PerformFacts.{count_home, is_home, owns_moved, all_held, held_shown, still_held, all_back}
use Rattle.plain_eval.proofs.perform.perform.Goals as goal

pub take_columns-held-requires-clause-each : goal.take_columns-held-requires-clause-each
take_columns-held-requires-clause-each c = count_home c.args.graph.now c.requires.home.0 c.args.homes.now c.requires.home.1

pub take_columns-held-requires-clause-home : goal.take_columns-held-requires-clause-home
take_columns-held-requires-clause-home c = is_home c.accesses_fit.ensures c.args.graph.now c.lines.ensures.is_graph c.args.line c.requires.home.0 c.args.homes.now c.requires.home.1

pub apply-verdict-requires-clause-shown : goal.apply-verdict-requires-clause-shown
apply-verdict-requires-clause-shown c =
    (c.requires.home.0, held_shown c.accesses_fit.ensures c.args.graph.now c.lines.ensures.is_graph c.args.line c.requires.home.0 c.args.homes.now c.take_columns-held.new.homes c.take_columns-held.result c.requires.home.1 c.take_columns-held.ensures)

pub apply-verdict-requires-clause-moved : goal.apply-verdict-requires-clause-moved
apply-verdict-requires-clause-moved c =
    all_held c.accesses_fit.ensures c.args.graph.now c.lines.ensures.is_graph c.args.line c.requires.home.0 c.args.homes.now c.take_columns-held.new.homes c.take_columns-held.result c.requires.home.1 c.take_columns-held.ensures

pub apply-verdict-requires-clause-own : goal.apply-verdict-requires-clause-own
apply-verdict-requires-clause-own c = owns_moved c.args.graph.now c.args.line c.args.homes.now c.take_columns-held.new.homes c.take_columns-held.result c.take_columns-held.ensures

pub give_columns-requires-clause-each : goal.give_columns-requires-clause-each
give_columns-requires-clause-each c = c.take_columns-held.ensures.each ∙ count_home c.args.graph.now c.requires.home.0 c.args.homes.now c.requires.home.1

pub give_columns-requires-clause-has : goal.give_columns-requires-clause-has
give_columns-requires-clause-has c =
    still_held c.accesses_fit.ensures c.args.graph.now c.lines.ensures.is_graph c.args.line c.requires.home.0 c.args.homes.now c.take_columns-held.new.homes c.take_columns-held.result c.requires.home.1 c.take_columns-held.ensures
    c.apply-verdict.new.held c.apply-verdict.ensures.same

pub give_columns-requires-clause-own : goal.give_columns-requires-clause-own
give_columns-requires-clause-own c = λ k column at. c.apply-verdict.ensures.lendings column ∙ c.take_columns-held.ensures.own k column at

pub returns : goal.returns
returns c cells home =
    let g = c.args.graph.now in
    let i = c.args.line in
    let fits = c.accesses_fit.ensures in
    let is = c.lines.ensures.is_graph in
    let taken = c.take_columns-held in
    let acted = c.apply-verdict.ensures.effect cells (held_shown fits g is i cells c.args.homes.now taken.new.homes taken.result home taken.ensures) in (
      acted.0,
      all_back fits g is i cells c.args.homes.now taken.new.homes taken.result home taken.ensures c.changes_within_accesses.ensures c.apply-verdict.new.held c.give_columns.new.homes c.apply-verdict.ensures.same acted.1 c.give_columns.ensures
          ∙ ap (λ xs. all_home g (cells_after cells xs)) (sym (all_made g i cells c.apply-verdict.result acted.0)),
    )
