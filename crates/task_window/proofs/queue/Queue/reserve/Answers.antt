use Rattle.std.proofs.Common.{◌∙◌, arith, refl}
use Rattle.task_window.proofs.Walking.{rest_longer}
use Rattle.task_window.proofs.queue.Queue.reserve.Goals as goal

pub returns-in_err-lengthen-clause-rest : goal.returns-in_err-lengthen-clause-rest
returns-in_err-lengthen-clause-rest c =
    let q = c.args.self.now in
    rest_longer q (record q { links = c.add_keys.new.self; waits = c.lengthen.new.items }) c.requires.rest refl refl (c.add_keys.ensures.links ∙ c.reserve.ensures.links) (omega (arith, c.in_ok-add_keys.ensures.keys))
    c.lengthen.ensures.longer c.lengthen.ensures.same (omega arith) (λ k d h. refl) (omega arith) (λ k d h. refl) refl refl

pub returns-in_err-lengthen-2-clause-rest : goal.returns-in_err-lengthen-2-clause-rest
returns-in_err-lengthen-2-clause-rest c =
    let q = c.args.self.now in
    rest_longer q (record q { links = c.add_keys.new.self; waits = c.lengthen.new.items; spoiled = c.lengthen-2.new.items }) c.requires.rest refl refl (c.add_keys.ensures.links ∙ c.reserve.ensures.links) (omega (arith, c.in_ok-add_keys.ensures.keys))
    c.lengthen.ensures.longer c.lengthen.ensures.same c.lengthen-2.ensures.longer c.lengthen-2.ensures.same (omega arith) (λ k d h. refl) refl refl

pub returns-in_err-lengthen-3-clause-rest : goal.returns-in_err-lengthen-3-clause-rest
returns-in_err-lengthen-3-clause-rest c =
    let q = c.args.self.now in
    rest_longer q (record q { links = c.add_keys.new.self; waits = c.lengthen.new.items; spoiled = c.lengthen-2.new.items; ready = c.lengthen-3.new.items }) c.requires.rest refl refl (c.add_keys.ensures.links ∙ c.reserve.ensures.links) (omega (arith, c.in_ok-add_keys.ensures.keys))
    c.lengthen.ensures.longer c.lengthen.ensures.same c.lengthen-2.ensures.longer c.lengthen-2.ensures.same c.lengthen-3.ensures.longer c.lengthen-3.ensures.same refl refl

pub returns-clause-rest : goal.returns-clause-rest
returns-clause-rest c =
    let q = c.args.self.now in
    rest_longer q (record q { status = c.reserve-2.new.items; links = c.add_keys.new.self; waits = c.lengthen.new.items; spoiled = c.lengthen-2.new.items; ready = c.lengthen-3.new.items }) c.requires.rest c.reserve-2.ensures.items refl (c.add_keys.ensures.links ∙ c.reserve.ensures.links) (omega (arith, c.in_ok-add_keys.ensures.keys))
    c.lengthen.ensures.longer c.lengthen.ensures.same c.lengthen-2.ensures.longer c.lengthen-2.ensures.same c.lengthen-3.ensures.longer c.lengthen-3.ensures.same refl refl
