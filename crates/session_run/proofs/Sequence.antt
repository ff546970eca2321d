-- Graphs that were run, and those that are to be run behind them.
use Rattle.std.proofs.Common.{◌≡◌, ℕ, ◌+◌, ◌<◌, ◌≤◌, Bool, true, false, not, List, [], ◌∷◌, ◌++◌, length, refl, sym, ◌∙◌, ap, subst, append_assoc, append-nil, length-append, arith, ⊎_elim, get_or, drop}
use Rattle.std.specs.Prelude.{None, bytes_eq, nat_lt, Contains}
use Rattle.std.specs.List.{list_any}
use Rattle.std.proofs.lemmas.Bool.{or_parts, ltb-false}
use Rattle.basics.proofs.Sums.{total-append}
use Rattle.event_table.specs.declared.handle.Answer.{Answer}
use Rattle.event_table.specs.declared.handle.Answer.TheVariants.{Pending, Triggered, Poisoned}
use Rattle.graph_terms.specs.declared.limits.TheConstants.{MAX_CELLS}
use Rattle.graph_terms.specs.Graph.{GraphValue}
use Rattle.graph_meaning.specs.Rules.{Accepted}
use Rattle.std.proofs.lemmas.Option.{none-some}
use Rattle.graph_terms.specs.declared.why.Why.{Why}
use Rattle.graph_terms.specs.declared.why.Why.TheVariants as why
use Rattle.graph_terms.specs.Name.{is_name}
use Rattle.graph_terms.specs.Fits.{first_reason}
use Rattle.session_text.specs.declared.entry.Link.{Link}
use Rattle.session_text.specs.declared.entry.Entry.{Entry}
use Rattle.session_text.specs.declared.limits.TheConstants.{MAX_GRAPHS, MAX_SESSION_LINES}
use Rattle.session_text.specs.Fits.{bare_entry, with_link, graph_reason, entry_lines, all_lines, all_cells, is_large, AreEntries, EntriesFit, EntryFits, LinksFit}
use Rattle.session_text.proofs.Entries.{lines_push}
use Rattle.session_text.proofs.Steps.{link_short}
use Rattle.session_run.specs.declared.running.Running.{Running}
use Rattle.session_run.specs.declared.session.RunFault.{RunFault}
use Rattle.session_run.specs.declared.session.RunFault.TheVariants as fault
use Rattle.session_run.specs.Linked.{LinkedGraph, with_answer, with_links, link_answer, linked_entry, linked_after, linked}
use Rattle.session_run.specs.Running.{ran_by, slots_of, slots_needed, IsRunning}
use Rattle.session_run.specs.Session.{AreNext, CanRun, CanRunNext, Refuses, Stops, StopsOr}
use Rattle.session_run.proofs.Recording.{push_cases}

-- an entry with all its links is not too large
final_short : (before : List Entry) (name : List ℕ) (g : GraphValue) (done ls : List Link) → is_large (before ++ record { name = name; graph = g; links = done } ∷ []) ≡ false → LinksFit before (record { name = name; graph = g; links = done }) ls
    → is_large (before ++ record { name = name; graph = g; links = done ++ ls } ∷ []) ≡ false
final_short before name g done [] h f = ap (λ d. is_large (before ++ record { name = name; graph = g; links = d } ∷ [])) (append-nil done) ∙ h
final_short before name g done (l ∷ ls) h f =
    ap (λ d. is_large (before ++ record { name = name; graph = g; links = d } ∷ [])) (sym (append_assoc done (l ∷ []) ls))
    ∙ final_short before name g (done ++ l ∷ []) ls (link_short before (record { name = name; graph = g; links = done }) l f.0) f.1

not_large : (es : List Entry) → is_large es ≡ false → all_lines es ≤ MAX_SESSION_LINES
not_large es h = ltb-false MAX_SESSION_LINES (all_lines es) (or_parts (nat_lt MAX_SESSION_LINES (all_lines es)) (nat_lt MAX_CELLS (all_cells es)) h).0

entry_few : (before : List Entry) (e : Entry) → EntryFits before e → all_lines (before ++ e ∷ []) ≤ MAX_SESSION_LINES
entry_few before e f = not_large (before ++ e ∷ []) (final_short before e.name e.graph [] e.links f.short f.links)

reason_none : (b : Bool) (w : Why) (ts : List (Bool × Why)) → first_reason ((b, w) ∷ ts) ≡ None → (b ≡ false) × (first_reason ts ≡ None)
reason_none true w ts h = absurd (none-some w (sym h))
reason_none false w ts h = (refl, h)

few_graphs : (es : List Entry) (name : List ℕ) → graph_reason es name ≡ None → length es + 1 ≤ MAX_GRAPHS
few_graphs es name h =
    let a = reason_none (not (is_name name)) why.Name ((list_any (λ (e : Entry). bytes_eq e.name name) es, why.Twice) ∷ (nat_lt MAX_GRAPHS (length es + 1), why.Limit) ∷ []) h in
    let b = reason_none (list_any (λ (e : Entry). bytes_eq e.name name) es) why.Twice ((nat_lt MAX_GRAPHS (length es + 1), why.Limit) ∷ []) a.1 in
    ltb-false MAX_GRAPHS (length es + 1) (reason_none (nat_lt MAX_GRAPHS (length es + 1)) why.Limit [] b.1).0

-- each link adds one line at most
answer_few : (g : GraphValue) (l : Link) (a : Answer) → length (with_answer g l a).lines ≤ length g.lines + 1
answer_few g l Triggered = omega (arith, length-append g.lines (Rattle.session_text.specs.Fits.trigger_line g l ∷ []))
answer_few g l Poisoned = omega (arith, length-append g.lines (Rattle.session_run.specs.Linked.cancel_line g l ∷ []))
answer_few g l Pending = omega arith

links_few : (before : List LinkedGraph) (g : GraphValue) (ls : List Link) → length (with_links before g ls).lines ≤ length g.lines + length ls
links_few before g [] = omega arith
links_few before g (l ∷ ls) = (let a = answer_few g l (link_answer before l) in let b = links_few before (with_answer g l (link_answer before l)) ls in omega (arith, a, b))

pub can_next : (before : List LinkedGraph) (e : Entry) (es : List Entry) → AreNext before (e ∷ es) → CanRunNext before e
can_next before e es a = record {
  links = (a.entries, e.name, a.fit.0.links);
  graphs = omega (arith, few_graphs a.entries e.name a.fit.0.named, a.count);
  few = omega (arith, entry_few a.entries e a.fit.0, lines_push a.entries e, a.lines);
}

pub next_after : (before : List LinkedGraph) (e : Entry) (es : List Entry) → AreNext before (e ∷ es) → AreNext (before ++ linked_entry before e ∷ []) es
next_after before e es a = record {
  entries = a.entries ++ e ∷ [];
  fit = a.fit.1;
  count = omega (arith, length-append before (linked_entry before e ∷ []), length-append a.entries (e ∷ []), a.count);
  lines = omega (arith, total-append (λ (x : LinkedGraph). length x.graph.lines) before (linked_entry before e ∷ []), lines_push a.entries e, links_few before e.graph e.links, a.lines);
}

pub next_few : (before : List LinkedGraph) (e : Entry) (es : List Entry) (a : AreNext before (e ∷ es)) → all_lines (next_after before e es a).entries ≤ MAX_SESSION_LINES
unfolding next_after
next_few before e es a = entry_few a.entries e a.fit.0

-- some of the graphs have run
pub record IsMidway (all : List LinkedGraph) (slots : ℕ) (r : Running) (rest : List Entry) : Type 0 where
  pub running : IsRunning r
  pub given : slots_of r ≡ slots
  pub split : all ≡ ran_by r ++ linked_after (ran_by r) rest
  pub ran : CanRun slots (ran_by r)
  pub next : AreNext (ran_by r) rest

pub at_start : (es : List Entry) (slots : ℕ) (r : Running) → AreEntries es → 0 < slots → IsRunning r → slots_of r ≡ slots → ran_by r ≡ [] → IsMidway (linked es) slots r es
at_start es slots r f some is same none = record {
  running = is;
  given = same;
  split = ap (λ gs. gs ++ linked_after gs es) (sym none);
  ran = subst (CanRun slots) (sym none) (record { accepted = λ x h. absurd (omega (arith, h.1)); enough = omega (arith, some) });
  next = subst (λ gs. AreNext gs es) (sym none) (record { entries = []; fit = f; count = refl; lines = omega arith });
}

pub one_on : (all : List LinkedGraph) (slots : ℕ) (r s : Running) (e : Entry) (rest : List Entry) → IsMidway all slots r (e ∷ rest) → IsRunning s → slots_of s ≡ slots_of r → ran_by s ≡ ran_by r ++ linked_entry (ran_by r) e ∷ []
    → Accepted (linked_entry (ran_by r) e).graph → slots_needed (ran_by s) ≤ slots_of r → IsMidway all slots s rest
one_on all slots r s e rest m is same ran ok enough = record {
  running = is;
  given = same ∙ m.given;
  split = m.split ∙ (sym (append_assoc (ran_by r) (linked_entry (ran_by r) e ∷ []) (linked_after (ran_by r ++ linked_entry (ran_by r) e ∷ []) rest)) ∙ ap (λ gs. gs ++ linked_after gs rest) (sym ran));
  ran = record {
    accepted = λ x h. ⊎_elim (λ a. m.ran.accepted x a) (λ b. subst (λ (y : LinkedGraph). Accepted y.graph) b ok) (push_cases (ran_by r) (linked_entry (ran_by r) e) x (subst (λ gs. Contains gs x) ran h));
    enough = omega (arith, enough, m.given);
  };
  next = subst (λ gs. AreNext gs rest) (sym ran) (next_after (ran_by r) e rest m.next);
}

-- all of them have
pub all_ran : (all : List LinkedGraph) (slots : ℕ) (r : Running) → IsMidway all slots r [] → ran_by r ≡ all
all_ran all slots r m = sym (m.split ∙ append-nil (ran_by r))

-- or one was refused
stop : (all : List LinkedGraph) (slots : ℕ) (r : Running) (e : Entry) (rest : List Entry) (f : RunFault) → IsMidway all slots r (e ∷ rest) → Refuses (slots_of r) (ran_by r) (linked_entry (ran_by r) e) f → Stops slots all f
stop all slots r e rest f m h = record {
  before = ran_by r;
  graph = linked_entry (ran_by r) e;
  behind = linked_after (ran_by r ++ linked_entry (ran_by r) e ∷ []) rest;
  split = m.split;
  ran = m.ran;
  refused = subst (λ n. Refuses n (ran_by r) (linked_entry (ran_by r) e) f) m.given h;
}

pub stops : (all : List LinkedGraph) (slots : ℕ) (r : Running) (e : Entry) (rest : List Entry) (f : RunFault) → IsMidway all slots r (e ∷ rest) → Refuses (slots_of r) (ran_by r) (linked_entry (ran_by r) e) f → StopsOr slots all f
stops all slots r e rest fault.NoMemory m h = tt
stops all slots r e rest (fault.Slots n) m h = stop all slots r e rest (fault.Slots n) m h
stops all slots r e rest (fault.Unfit u) m h = stop all slots r e rest (fault.Unfit u) m h

-- the first of some entries, and no entries
pub front : (xs rest : List Entry) (x : Entry) → 0 < length xs → x ≡ get_or xs 0 x → rest ≡ drop 1 xs → xs ≡ x ∷ rest
front [] rest x some first more = absurd (omega (arith, some))
front (y ∷ xs) rest x some first more = λ k. sym first k ∷ sym more k

pub none_left : (xs : List Entry) → length xs ≡ 0 → xs ≡ []
none_left [] e = refl
none_left (x ∷ xs) e = absurd (omega (arith, e))
