use Rattle.std.proofs.Common.{inl, inr, sym, arith, subst}
use Rattle.std.specs.Prelude.{Contains}
use Rattle.std.specs.List.{slice_index_or}
use Rattle.std.proofs.lemmas.List.Elements.{Contains-get_or}
use Rattle.race_sweeps.specs.Scan.{IsWalked}
use Rattle.sweep_base.proofs.Public.{take_cases, take_whole}
use Rattle.race_sweeps.proofs.Noting.{walked_still}
use Rattle.race_sweeps.proofs.scan.Scan.walk_all.Goals as goal

pub walk-requires-clause-class : goal.walk-requires-clause-class
walk-requires-clause-class c =
    let m = slice_index_or c.as_slice-asks.result.now c.loop-ask.ask-index (record { class = 0; word = 0; floor = 0 }) in
    c.requires.asks m (subst (λ xs. Contains xs m) c.as_slice-asks.ensures.value (Contains-get_or c.as_slice-asks.result.now c.loop-ask.ask-index (record { class = 0; word = 0; floor = 0 }) c.loop-ask-test.true))

pub loop-ask-preserved : goal.loop-ask-preserved
loop-ask-preserved c = record {
  size = c.walk.ensures.size;
  noted = λ i h. c.walk.ensures.noted i (c.loop-ask.invariant.noted i h);
  walked = λ m listed ask in'. elim (take_cases c.as_slice-asks.result.now c.loop-ask.ask-index (record { class = 0; word = 0; floor = 0 }) ask c.loop-ask-test.true in') [
    | inl before ↦ walked_still c.args.graph.now c.args.table.now c.loop-ask.racing.items c.walk.new.racing.items c.args.first m ask c.walk.ensures.noted (c.loop-ask.invariant.walked m listed ask before)
    | inr same ↦ subst (λ z. IsWalked c.args.graph.now c.args.table.now c.walk.new.racing.items c.args.first m z) same (c.walk.ensures.walked m listed)
  ];
}

pub returns-clause-walked : goal.returns-clause-walked
returns-clause-walked c m listed ask in' = c.loop-ask.invariant.walked m listed ask (take_whole c.as_slice-asks.result.now c.loop-ask.ask-index ask (omega arith) (subst (λ xs. Contains xs ask) (sym c.as_slice-asks.ensures.value) in'))
