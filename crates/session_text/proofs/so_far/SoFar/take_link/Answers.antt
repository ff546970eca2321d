use Rattle.std.proofs.Common.{◌≡◌, ◌+◌, true, false, map, ap, sym, ◌∙◌, subst, refl}
use Rattle.std.specs.Prelude.{nat_lt, is_some, Some}
use Rattle.std.specs.Option.{option_map_or}
use Rattle.std.proofs.lemmas.Bool.{true≢false}
use Rattle.std.proofs.lemmas.Option.{none-some}
use Rattle.basics.specs.Words.{contents}
use Rattle.graph_terms.specs.declared.why.Why.TheVariants as why
use Rattle.session_text.specs.declared.entry.Link.{Link}
use Rattle.session_text.specs.declared.so_far.Last.{Last}
use Rattle.session_text.specs.declared.so_far.SoFar.{SoFar}
use Rattle.session_text.specs.Fits.{names_op, format_of, is_named}
use Rattle.session_text.specs.FirstFault.{link_of, last_format, last_reason}
use Rattle.session_text.specs.SoFar.{last_entry, judged_of, added_reason, LinkAdded}
use Rattle.session_text.proofs.Steps.{named_is, may_name, no_op, may_link, added_to, link_put}
use Rattle.session_text.proofs.so_far.SoFar.take_link.Goals.{In-Some, In_ok-why, Then-not-names_op}
use Rattle.session_text.proofs.so_far.SoFar.take_link.Goals as goal

-- the names of its link
named : (c : In-Some) → is_named (last_format (last_entry c.args.self.now.last)) (format_of c.args.self.now.before.items c.in-Some.link.graph) c.in-Some.link ≡ true
named c =
    sym (named_is c.last_format.result c.format_of-named.result c.args.self.now c.as_slice.result.now c.word.result.now c.in-Some.link c.as_slice.ensures.value
    (c.word.ensures ∙ ap (λ (l : Link). l.graph) (sym c.in-Some.ensures.0)) c.last_format.ensures c.format_of-named.ensures) ∙ c.in-Some.ensures.1

pub names_op-requires : goal.names_op-requires
names_op-requires c = record { judged = c.as_slice-3.ensures.value ∙ (c.requires.so_far.judged_before ∙ ap (map judged_of) (sym c.as_slice-2.ensures.value)) }

-- no operation has the name
unknown : (c : Then-not-names_op) → is_named (last_format (last_entry c.args.self.now.last)) (format_of c.args.self.now.before.items c.in-Some.link.graph) c.in-Some.link ≡ true →
    last_reason c.args.self.now.before.items (last_entry c.args.self.now.last) (link_of (contents c.args.words.now)) ≡ Some why.Unknown
unknown c h =
    let s = c.args.self.now in
    let none : names_op s.before.items c.in-Some.link ≡ false = ap (λ x. names_op x c.in-Some.link) (sym c.as_slice-2.ensures.value) ∙ sym c.if-not-names_op.ensures in
    ap (last_reason s.before.items (last_entry s.last)) (sym c.in-Some.ensures.0) ∙ no_op s.before.items (last_entry s.last) c.in-Some.link h none

pub returns-then-not-names_op-clause-fault : goal.returns-then-not-names_op-clause-fault
returns-then-not-names_op-clause-fault c = let at = goal.at.returns-then-not-names_op-clause-fault c in sym (unknown at.Then-not-names_op (named at.In-Some))

pub returns-then-not-names_op-clause-added : goal.returns-then-not-names_op-clause-added
returns-then-not-names_op-clause-added c = λ none. let at = goal.at.returns-then-not-names_op-clause-added c in absurd (none-some why.Unknown (sym none ∙ unknown at.Then-not-names_op (named at.In-Some)))

pub add_link-requires-clause-few : goal.add_link-requires-clause-few
add_link-requires-clause-few c = may_link c.args.self.now c.args.self.now.last c.requires.so_far refl

pub add_link-requires-clause-named : goal.add_link-requires-clause-named
add_link-requires-clause-named c = may_name c.args.self.now c.args.self.now.last c.in-Some.link c.requires.so_far refl (named (goal.at.add_link-requires-clause-named c).In-Some)

-- the reason, by what was kept
reason : (c : In_ok-why) → is_named (last_format (last_entry c.args.self.now.last)) (format_of c.args.self.now.before.items c.in-Some.link.graph) c.in-Some.link ≡ true →
    last_reason c.args.self.now.before.items (last_entry c.args.self.now.last) (link_of (contents c.args.words.now)) ≡ option_map_or (λ (x : Last). added_reason x c.in-Some.link (nat_lt c.args.self.now.lines 8191)) c.args.self.now.last (Some why.Unknown)
reason c h =
    let s = c.args.self.now in
    let names : names_op s.before.items c.in-Some.link ≡ true = ap (λ x. names_op x c.in-Some.link) (sym c.as_slice-2.ensures.value) ∙ sym c.if-not-names_op.ensures in
    ap (last_reason s.before.items (last_entry s.last)) (sym c.in-Some.ensures.0)
    ∙ added_to s s.last c.in-Some.link (nat_lt s.lines 8191) c.requires.so_far refl h names refl

pub returns-then-is_none-clause-fault : goal.returns-then-is_none-clause-fault
returns-then-is_none-clause-fault c = c.in_ok-why.ensures.fault ∙ sym (reason (goal.at.returns-then-is_none-clause-fault c).In_ok-why (named (goal.at.returns-then-is_none-clause-fault c).In-Some))

pub returns-then-is_none-clause-added : goal.returns-then-is_none-clause-added
returns-then-is_none-clause-added c = λ none.
    let s = c.args.self.now in
    let new : SoFar = record s { last = c.add_link.new.last; lines = s.lines + 1 } in
    subst (λ l. LinkAdded s l new) c.in-Some.ensures.0
    (link_put s new s.last c.in-Some.link (nat_lt s.lines 8191) refl c.in_ok-why.ensures.added (sym (reason (goal.at.returns-then-is_none-clause-added c).In_ok-why (named (goal.at.returns-then-is_none-clause-added c).In-Some)) ∙ none) refl refl refl refl)

pub returns-else-is_none-clause-fault : goal.returns-else-is_none-clause-fault
returns-else-is_none-clause-fault c = c.in_ok-why.ensures.fault ∙ sym (reason (goal.at.returns-else-is_none-clause-fault c).In_ok-why (named (goal.at.returns-else-is_none-clause-fault c).In-Some))

pub returns-else-is_none-clause-added : goal.returns-else-is_none-clause-added
returns-else-is_none-clause-added c = λ none.
    absurd (true≢false (sym (sym (ap is_some (c.in_ok-why.ensures.fault ∙ (sym (reason (goal.at.returns-else-is_none-clause-added c).In_ok-why (named (goal.at.returns-else-is_none-clause-added c).In-Some)) ∙ none))) ∙ c.if-is_none.ensures)))
