use Rattle.std.proofs.Common.{◌≡◌, ◌++◌, [], ◌∷◌, List, take, ap, sym, ◌∙◌, arith, subst}
use Rattle.std.proofs.lemmas.List.{take_all}
use Rattle.task_order.specs.declared.access.Access.{Access}
use Rattle.task_window.specs.Pieces.{AreNotedOf, tasks_of}
use Rattle.task_window.proofs.Noting.{pieces_added, tasks_added}
use Rattle.task_window.proofs.pieces.Pieces.insert.Goals as goal

pub returns-clause-pieces : goal.returns-clause-pieces
returns-clause-pieces c =
    let q = c.args.self.now in
    let i = c.loop-access.invariant in
    let whole : take c.loop-access.access-index c.args.accesses.now ≡ c.args.accesses.now = take_all c.loop-access.access-index c.args.accesses.now (omega arith) in
    pieces_added q c.loop-access.self c.args.task c.args.accesses.now c.requires.pieces c.requires.number (ap (λ v. v.items) i.sizes ∙ c.push_within.ensures.items)
    (i.accesses ∙ ap (λ (xs : List Access). q.accesses.items ++ xs) whole) i.keys i.size c.requires.within
    (subst (λ (xs : List Access). AreNotedOf (tasks_of q ++ xs ∷ []) c.loop-access.self.writer.items c.loop-access.self.readers.links) whole (i.noted (tasks_of q) (sym c.requires.number) c.requires.pieces.noted))

pub returns-clause-tasks : goal.returns-clause-tasks
returns-clause-tasks c =
    let q = c.args.self.now in
    let i = c.loop-access.invariant in
    let whole : take c.loop-access.access-index c.args.accesses.now ≡ c.args.accesses.now = take_all c.loop-access.access-index c.args.accesses.now (omega arith) in
    tasks_added q c.loop-access.self c.args.accesses.now c.requires.pieces (ap (λ v. v.items) i.sizes ∙ c.push_within.ensures.items)
    (i.accesses ∙ ap (λ (xs : List Access). q.accesses.items ++ xs) whole)
