use Rattle.std.proofs.Common.{◌≡◌, ◌++◌, ◌∷◌, [], length, ◌∙◌, ap, arith}
use Rattle.std.proofs.lemmas.Result.{on_ok_weaker}
use Rattle.conflict_classes.proofs.Classing.{classes_next}
use Rattle.conflict_classes.proofs.classes.Classing.add_line.Goals as goal

pub returns-clause-classes : goal.returns-clause-classes
returns-clause-classes c =
    let s = c.add_accesses.new.self.classes in
    let all : c.len-end.result ≡ length s.of.items = omega (arith, c.len-end.ensures) in
    on_ok_weaker c.push.result
    (λ ok. classes_next c.args.graph.now s.limit c.args.order.now s.keys.items s.of.items s.sites.items s.begins.items c.lines.ensures.is_graph c.args.place _ c.in_ok-add_accesses.ensures.classes (ok ∙ ap (λ n. s.begins.items ++ n ∷ []) all)) c.push.ensures.ok
