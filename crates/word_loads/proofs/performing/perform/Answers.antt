use Rattle.std.proofs.Common.{sym, ◌∙◌}
use Rattle.word_loads.proofs.Performs.{cells, shows, moved, owns, ends_so, laden, runs_not_cancelled}
use Rattle.word_loads.proofs.performing.perform.Goals as goal

pub perform_held-requires-clause-shown : goal.perform_held-requires-clause-shown
perform_held-requires-clause-shown c = λ runs. let r = c.requires.loaded runs in let x = c.args.load.now in
    (cells c.args.graph.now c.args.line r.0 r.1 r.2 r.3 x.held x.numbers r.4, shows c.args.graph.now c.args.line r.0 r.1 r.2 r.3 x.held x.numbers r.4)

pub perform_held-requires-clause-moved : goal.perform_held-requires-clause-moved
perform_held-requires-clause-moved c = λ runs. let r = c.requires.loaded runs in let x = c.args.load.now in moved c.args.graph.now c.args.line r.0 r.1 r.2 r.3 x.held x.numbers r.4

pub perform_held-requires-clause-own : goal.perform_held-requires-clause-own
perform_held-requires-clause-own c = λ runs. let r = c.requires.loaded runs in let x = c.args.load.now in owns c.args.graph.now c.args.line r.0 r.1 r.2 r.3 x.held x.numbers r.4

pub returns-clause-laden : goal.returns-clause-laden
returns-clause-laden c = λ runs v cl left m l line_is going.
    let g = c.args.graph.now in
    let i = c.args.line in
    let x = c.args.load.now in
    let p = c.perform_held.ensures.performed runs in
    let held = c.perform_held.new.held in
    let made = p.4 (cells g i v cl left m x.held x.numbers l) (shows g i v cl left m x.held x.numbers l) in
    let ends_as = ends_so g i v cl left m x.held x.numbers l p.0 held p.2 p.3 made line_is going in
    (ends_as ∙ sym p.1, λ q. runs_not_cancelled p.0 (sym p.1 ∙ q), laden g i v cl left m x.held x.numbers l p.0 held p.2 p.3 made line_is going (λ q. runs_not_cancelled p.0 (sym ends_as ∙ q)))
