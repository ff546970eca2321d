use Rattle.std.proofs.Common.{sym, ap, subst, ◌∙◌}
use Rattle.std.proofs.lemmas.Bool.{true≢false}
use Rattle.graph_terms.specs.Access.{is_read}
use Rattle.section_sweeps.specs.Passing.{HasBit}
use Rattle.section_sweeps.proofs.Public.{given_old, given_new}
use Rattle.race_pairs.proofs.block_conflicts.Asked.add.Goals as goal

pub returns-in-Read-clause-kept : goal.returns-in-Read-clause-kept
returns-in-Read-clause-kept c a b h = record {
  uses = subst (λ xs. HasBit xs a.column b) (sym c.give.ensures) (given_old c.args.self.now.used.items c.args.access.column c.args.bit a.column b c.requires.used h.uses);
  changes = h.changes;
}

pub returns-in-Read-clause-added : goal.returns-in-Read-clause-added
returns-in-Read-clause-added c = record {
  uses = subst (λ xs. HasBit xs c.args.access.column c.args.bit) (sym c.give.ensures) (given_new c.args.self.now.used.items c.args.access.column c.args.bit c.requires.used c.requires.bit);
  changes = λ f. absurd (true≢false (sym (ap is_read c.in-Read.is) ∙ f));
}

pub returns-in_default-clause-kept : goal.returns-in_default-clause-kept
returns-in_default-clause-kept c a b h = record {
  uses = subst (λ xs. HasBit xs a.column b) (sym c.give.ensures) (given_old c.args.self.now.used.items c.args.access.column c.args.bit a.column b c.requires.used h.uses);
  changes = λ f. subst (λ xs. HasBit xs a.column b) (sym c.give-in_default.ensures) (given_old c.args.self.now.changed.items c.args.access.column c.args.bit a.column b c.requires.changed (h.changes f));
}

pub returns-in_default-clause-added : goal.returns-in_default-clause-added
returns-in_default-clause-added c = record {
  uses = subst (λ xs. HasBit xs c.args.access.column c.args.bit) (sym c.give.ensures) (given_new c.args.self.now.used.items c.args.access.column c.args.bit c.requires.used c.requires.bit);
  changes = λ f. subst (λ xs. HasBit xs c.args.access.column c.args.bit) (sym c.give-in_default.ensures) (given_new c.args.self.now.changed.items c.args.access.column c.args.bit c.requires.changed c.requires.bit);
}
