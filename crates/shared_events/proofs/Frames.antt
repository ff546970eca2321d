-- What a step leaves as it was.
use Rattle.std.proofs.Common.{◌≡◌, ℕ, ◌+◌, ◌%◌, ◌≤◌, ◌⊎◌, List, get_or, ap, ◌∙◌, inl, inr, arith}
use Rattle.std.specs.Prelude.{Contains}
use Rattle.event_table.specs.declared.handle.Handle.{Handle}
use Rattle.event_table.specs.declared.handle.Shape.{Shape}
use Rattle.shared_events.specs.declared.view.View.{View}
use Rattle.event_table.specs.Words.{IsMade, IsEnded, Linked, mark}
use Rattle.shared_events.specs.Rule.{Fits}

abbrev pub Placings : Type 0
Placings = List (ℕ × Handle)

-- what a step has to leave of the view of a seat that does not make it
pub record Leaves (key : Shape) (ws ws' ts ts' : List ℕ) (log log' : Placings) (v : View) : Type 0 where
  pub rises : (i : ℕ) → get_or ts i 0 ≤ get_or ts' i 0
  pub longer : (p : ℕ × Handle) → Contains log p → Contains log' p
  pub old : (k : ℕ) (h : Handle) → Contains log' (k, h) → IsEnded ts h → Contains log (k, h)
  pub still : (h : Handle) → Contains v.rights h ⊎ Contains v.left h → get_or ts' h.slot 0 ≡ get_or ts h.slot 0
  pub hand : (p : ℕ × ℕ) → Contains v.hand p → get_or ws' (key.slots + p.0) 0 ≡ get_or ws (key.slots + p.0) 0
  pub caught : Linked key ws' v.caught
  pub bits : (h : Handle) → IsEnded ts h ⊎ Contains v.rights h → mark key ws' h ≡ mark key ws h
  pub stay : (h : Handle) → mark key ws h ≡ 1 → mark key ws' h ≡ 1
  pub made : v.makes ≡ 1 → (h : Handle) → IsMade ts' h → IsMade ts h
  pub spare : v.makes ≡ 1 → (p : ℕ × ℕ) → Contains v.spare p → (get_or ws' p.0 0 ≡ get_or ws p.0 0) × (get_or ts' p.0 0 ≡ get_or ts p.0 0)

pub steady : (key : Shape) (ws ws' ts ts' : List ℕ) (log log' : Placings) (v : View) → Fits key ws ts log v → Leaves key ws ws' ts ts' log log' v → Fits key ws' ts' log' v
steady key ws ws' ts ts' log log' v o l = record {
  keys = o.keys;
  all_seen = o.all_seen;
  seen = λ h c. let a = o.seen h c in let b = l.rises h.slot in omega arith;
  known = λ h f c. let a = (o.known h f c).0 in let b = l.rises h.slot in (omega arith, l.bits h (inl a) ∙ (o.known h f c).1);
  past = λ h c. let a = o.past h c in let b = l.rises h.slot in omega arith;
  marked = λ h c. l.stay h (o.marked h c);
  clear = λ h c n. l.bits h (inr c) ∙ o.clear h c n;
  placed = λ p c. l.longer p (o.placed p c);
  given = λ p c. let t = o.given p c in let a = t.1 in let b = l.rises p.1.slot in (l.longer p t.0, omega arith);
  emptied = λ h c. let t = o.emptied h c in let a = t.0 in let b = l.rises h.slot in (omega arith, λ k d. t.1 k (l.old k h d t.0));
  left = λ h c. l.still h (inr c) ∙ o.left h c;
  saw = λ p c. let a = o.saw p c in let b = l.rises p.0 in omega arith;
  rights = λ h c. l.still h (inl c) ∙ o.rights h c;
  hand = λ p c. ((o.hand p c).0, l.hand p c ∙ (o.hand p c).1);
  caught = l.caught;
  chased = λ h c. let t = o.chased h c in let a = t.0 in let b = l.rises h.slot in (omega arith, λ k d. t.1 k (l.old k h d t.0));
  chain = λ h k c d. l.longer (k, h) (o.chain h k c d);
  own = λ h c. let a = o.own h c in let b = l.rises h.slot in omega arith;
  made = λ m h c. o.made m h (l.made m h c);
  spare = λ m p c. let t = o.spare m p c in let e = l.spare m p c in (t.0, e.0 ∙ t.1, ap (λ (n : ℕ). n % 2) e.1 ∙ t.2);
}
