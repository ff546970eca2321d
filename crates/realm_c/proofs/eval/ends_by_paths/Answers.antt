use Rattle.realm_c.proofs.eval.ends_by_paths.Goals as goal

pub returns : goal.returns
returns c = λ g t a. record { waiting = λ i b. c.waits_where_reached.ensures g i t.is_graph a.acyclic b; cancelled = λ i. c.cancelled_where_unbroken.ensures g i }
