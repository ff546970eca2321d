use Rattle.std.proofs.Common.{◌≤◌, length, arith, refl}
use Rattle.task_window.proofs.Noting.{pieces_longer}
use Rattle.task_window.proofs.pieces.Pieces.add_pieces.Goals as goal

pub returns-in_err-lengthen-clause-pieces : goal.returns-in_err-lengthen-clause-pieces
returns-in_err-lengthen-clause-pieces c =
    let q = c.args.self.now in
    pieces_longer q (record q { writer = c.lengthen.new.items }) c.requires.pieces c.lengthen.ensures.same c.lengthen.ensures.longer refl refl refl (omega arith) (omega (arith, c.requires.pieces.keys)) (omega (arith, c.requires.pieces.few))

pub returns-clause-pieces : goal.returns-clause-pieces
returns-clause-pieces c =
    let q = c.args.self.now in
    let keys : q.readers.keys ≤ length c.lengthen.new.items.items = omega (arith, c.requires.pieces.keys, c.lengthen.ensures.longer) in
    let few : q.readers.keys ≤ 4294967295 = omega (arith, c.requires.pieces.few) in
    let most : c.add_keys.new.self.keys ≤ 4294967295 = c.add_keys.ensures.bound 4294967295 few (omega arith) in
    pieces_longer q (record q { writer = c.lengthen.new.items; readers = c.add_keys.new.self }) c.requires.pieces c.lengthen.ensures.same c.lengthen.ensures.longer c.add_keys.ensures.links refl refl c.add_keys.ensures.grown
    (c.add_keys.ensures.bound (length c.lengthen.new.items.items) keys (omega (arith, c.in_ok-lengthen.ensures.ok))) (omega arith)
