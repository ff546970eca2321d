use Rattle.std.proofs.Common.{List, ℕ, Bor, map, sym, subst}
use Rattle.graph_words.specs.Draft.{merge_with}
use Rattle.graph_reader.specs.Merges.{merge_verb}
use Rattle.graph_reader.specs.Reading.{IsDone, IsTakable}
use Rattle.graph_reader.proofs.MergeFaults.{error_read}
use Rattle.graph_reader.proofs.merges.take_merge.Goals as goal

pub take_lines-requires-clause-takable : goal.take_lines-requires-clause-takable
take_lines-requires-clause-takable c = subst (λ n. IsTakable c.args.graph.now (merge_with c.args.graph.now n (merge_verb c.args.ignores) (map (λ (w : Bor (List ℕ)). w.now) c.args.words.now))) (sym c.in-Some.ensures.0) c.requires

pub returns-in-Ok-Some : goal.returns-in-Ok-Some
returns-in-Ok-Some c = subst (λ n. IsDone c.args.graph.now (merge_with c.args.graph.now n (merge_verb c.args.ignores) (map (λ (w : Bor (List ℕ)). w.now) c.args.words.now)) c.take_lines.new.graph c.take_lines.result) c.in-Some.ensures.0 c.take_lines.ensures

pub returns-in-Ok-None : goal.returns-in-Ok-None
returns-in-Ok-None c = error_read c.args.graph.now (merge_verb c.args.ignores) c.args.name.now c.in-Some.name (map (λ (w : Bor (List ℕ)). w.now) c.args.words.now) c.merge_error.result c.in-Some.ensures.1 c.in-Some.ensures.0 c.merge_error.ensures
