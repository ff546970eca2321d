use Rattle.realm_audit.proofs.laws.order_is_lawful.Goals as goal

pub returns : goal.returns
returns c = λ g none. record {
  lists = c.order_lists_ended.ensures g;
  sections = λ l q k a b different d e. absurd (none q l a);
}
