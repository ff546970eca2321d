-- The law of texts of sessions: so many bytes as a text may have are the text of one session at most, and have one first fault at most, and not both.
use Rattle.std.specs.Prelude.{◌≡◌, ℕ, List}
use Rattle.graph_terms.specs.declared.why.Why.{Why}
use Rattle.session_text.specs.declared.entry.Entry.{Entry}
use Rattle.session_text.specs.Fits.{SessionText}
use Rattle.session_text.specs.FirstFault.{SessionFault}

pub record OneSession (bytes : List ℕ) : Type 0 where
  pub one_session : (es fs : List Entry) → SessionText bytes es → SessionText bytes fs → es ≡ fs
  pub not_both : (es : List Entry) (number : ℕ) (reason : Why) → SessionText bytes es → SessionFault bytes number reason → ⊥
  pub one_fault : (n m : ℕ) (w v : Why) → SessionFault bytes n w → SessionFault bytes m v → (n ≡ m) × (w ≡ v)
