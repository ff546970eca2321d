-- Where more slots are needed than there are.
use Rattle.std.proofs.Common.{◌≡◌, ℕ, ◌<◌, ◌≤◌, refl, sym, ◌∙◌, ap}
use Rattle.std.specs.Prelude.{Result, Ok, Err, ◌↔◌, nat_lt, Bool, true, false}
use Rattle.std.proofs.lemmas.Bool.{ltb-true, ltb-false}
use Rattle.realm_session.specs.declared.refusal.RecordRefusal.{RecordRefusal}
use Rattle.realm_session.specs.declared.refusal.RecordRefusal.TheVariants as refusal
use Rattle.session_run.specs.declared.running.RecordFault.{RecordFault}
use Rattle.session_run.specs.declared.running.RecordFault.TheVariants as fault

abbrev pub failed : (X : Type 0) → RecordFault → Result X RecordFault
failed X e = Err e

abbrev pub refused : RecordRefusal → Result ℕ RecordRefusal
refused e = Err e

abbrev pub entered : ℕ → Result ℕ RecordRefusal
entered n = Ok n

abbrev pub given : (X : Type 0) → X → Result X RecordFault
given X x = Ok x

fault_same : (X : Type 0) (m n : ℕ) → failed X (fault.Slots m) ≡ failed X (fault.Slots n) → m ≡ n
fault_same X m n e = cc

refusal_same : (m n : ℕ) → refused (refusal.Slots m) ≡ refused (refusal.Slots n) → m ≡ n
refusal_same m n e = cc

pub slots_told : (X : Type 0) (res : Result ℕ RecordRefusal) (F A B : Type 0) (m n : ℕ) → res ≡ refused (refusal.Slots m) → F → (res ≡ refused (refusal.Slots n)) ↔ (F × A × B) → (failed X (fault.Slots m) ≡ failed X (fault.Slots n)) ↔ (A × B)
slots_told X res F A B m n is f told = (
  λ e. (let t = told.0 (is ∙ ap (λ k. refused (refusal.Slots k)) (fault_same X m n e)) in (t.1, t.2)),
  λ h. ap (λ k. failed X (fault.Slots k)) (refusal_same m n (sym is ∙ told.1 (f, h.0, h.1))),
)

pub no_slots_told : (X : Type 0) (res : Result ℕ RecordRefusal) (F A B : Type 0) (n : ℕ) (e : Result X RecordFault) → (res ≡ refused (refusal.Slots n) → ⊥) → (e ≡ failed X (fault.Slots n) → ⊥) → F → (res ≡ refused (refusal.Slots n)) ↔ (F × A × B) → (e ≡ failed X (fault.Slots n)) ↔ (A × B)
no_slots_told X res F A B n e never not f told = (λ k. absurd (not k), λ h. absurd (never (told.1 (f, h.0, h.1))))

pub ok_no_slots : (m n : ℕ) → entered m ≡ refused (refusal.Slots n) → ⊥
ok_no_slots m n e = cc

pub memory_no_slots : (n : ℕ) → refused refusal.NoMemory ≡ refused (refusal.Slots n) → ⊥
memory_no_slots n e = cc

pub no_memory_fault : (X : Type 0) (n : ℕ) → failed X fault.NoMemory ≡ failed X (fault.Slots n) → ⊥
no_memory_fault X n e = cc

pub ok_no_fault : (X : Type 0) (x : X) (n : ℕ) → given X x ≡ failed X (fault.Slots n) → ⊥
ok_no_fault X x n e = cc

-- the same refusal, told of another result
pub same_slots : (X Y : Type 0) (res : Result X RecordFault) (end : Result Y RecordFault) (A : Type 0) (n m k : ℕ) → m ≡ k → (res ≡ failed X (fault.Slots n) → end ≡ failed Y (fault.Slots n)) → (end ≡ failed Y (fault.Slots n) → res ≡ failed X (fault.Slots n))
    → (res ≡ failed X (fault.Slots n)) ↔ (A × (n ≡ m)) → (end ≡ failed Y (fault.Slots n)) ↔ (A × (n ≡ k))
same_slots X Y res end A n m k e there back told =
    (λ h. (let t = told.0 (back h) in (t.0, t.1 ∙ e)), λ h. there (told.1 (h.0, h.1 ∙ sym e)))

failure_same : (X : Type 0) (e f : RecordFault) → failed X e ≡ failed X f → e ≡ f
failure_same X e f h = cc

pub same_failed : (X Y : Type 0) (e : RecordFault) (n : ℕ) → failed X e ≡ failed X (fault.Slots n) → failed Y e ≡ failed Y (fault.Slots n)
same_failed X Y e n h = ap (failed Y) (failure_same X e (fault.Slots n) h)

-- where no refusal came there are slots enough
pub enough : (X : Type 0) (res : Result X RecordFault) (x : X) (slots need : ℕ) → res ≡ given X x → (res ≡ failed X (fault.Slots need)) ↔ ((slots < need) × (need ≡ need)) → need ≤ slots
enough X res x slots need is told = by_test (nat_lt slots need) refl
  where
    by_test : (b : Bool) → nat_lt slots need ≡ b → need ≤ slots
    by_test true e = absurd (ok_no_fault X x need (sym is ∙ told.1 (ltb-true slots need e, refl)))
    by_test false e = ltb-false slots need e
