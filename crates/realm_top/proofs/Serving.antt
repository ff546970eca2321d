-- What becomes of an accepted graph that is run, and of one that is not.
use Rattle.std.proofs.Common.{◌≡◌, ℕ, ◌≤◌, List, refl, sym, ◌∙◌, ap, inl, inr, ◌⊎◌}
use Rattle.std.specs.Prelude.{Bool, true, false, not, nat_lt}
use Rattle.std.proofs.lemmas.Bool.{true≢false, false≢true}
use Rattle.realm_io.specs.SinkState.{SinkState}
use Rattle.command_line.specs.declared.request.Request.{Request}
use Rattle.command_line.specs.declared.request.Action.{Action}
use Rattle.command_line.specs.declared.request.Action.TheVariants.{Run, Check, Eval, Make, Audit, Timeline, Upgrade, Session}
use Rattle.graph_terms.specs.Graph.{GraphValue}
use Rattle.graph_meaning.specs.Need.{IsNeed}
use Rattle.graph_meaning.specs.Trace.{IsLawful}
use Rattle.graph_answers.specs.declared.status.Status.{Status}
use Rattle.graph_answers.specs.declared.status.Status.TheVariants.{Done, Slots, NoMemory}
use Rattle.graph_answers.specs.Texts.{slots_text}
use Rattle.graph_answers.specs.Delivered.{Delivers}
use Rattle.graph_answers.specs.Answer.{runs, runs_nothing, most_slots, is_short_by, is_short, run_text, Says, Serves}
use Rattle.realm_top.specs.Answer.{reads, audits, upgrades, runs_session}

-- an action that checks a graph and does not run it answers for it without a run
pub unrun : (action : Action) (texted : Bool) → (audits action ≡ false) × (upgrades action ≡ false) × (runs_session action ≡ false) → (action ≡ Make → texted ≡ false) → runs action texted ≡ false → runs_nothing action ≡ true
unrun Run texted else made r = absurd (true≢false r)
unrun Check texted else made r = refl
unrun Eval texted else made r = refl
unrun Timeline texted else made r = refl
unrun Audit texted else made r = absurd (true≢false else.0)
unrun Upgrade texted else made r = absurd (true≢false else.1)
unrun Session texted else made r = absurd (true≢false else.2)
unrun Make texted else made r = absurd (true≢false (sym (ap not (made refl)) ∙ r))

-- what is read is not made
pub not_made_here : (action : Action) (texted : Bool) → reads action ≡ true → action ≡ Make → texted ≡ false
not_made_here action texted r e = absurd (true≢false (sym r ∙ ap reads e))

-- a run is short exactly where it has fewer slots than the need
pub short_by : (request : Request) (need : ℕ) (b : Bool) → runs request.action request.text ≡ true → nat_lt (most_slots request.slots) need ≡ b → is_short request need ≡ b
short_by request need b r e = ap (λ (running : Bool). is_short_by running request.slots need) r ∙ e

-- what is written of a run
run_says : (action : Action) (request : Request) (texted : Bool) (g : GraphValue) (need : ℕ) (trace : List ℕ) → runs action texted ≡ true → IsLawful g trace → Says action request g need (run_text action request.trace g trace)
run_says Run request texted g need trace r law = (trace, law, refl)
run_says Make request texted g need trace r law = refl
run_says Check request texted g need trace r law = absurd (false≢true r)
run_says Eval request texted g need trace r law = absurd (false≢true r)
run_says Timeline request texted g need trace r law = absurd (false≢true r)
run_says Audit request texted g need trace r law = absurd (false≢true r)
run_says Upgrade request texted g need trace r law = absurd (false≢true r)
run_says Session request texted g need trace r law = absurd (false≢true r)

pub run_serves : (request : Request) (g : GraphValue) (need : ℕ) (s t : SinkState) (result : Status) → IsNeed g need → runs request.action request.text ≡ true → nat_lt (most_slots request.slots) need ≡ false
    → (result ≡ NoMemory) ⊎ ((trace : List ℕ) × IsLawful g trace × Delivers s t Done result (run_text request.action request.trace g trace)) → Serves request g s t result
run_serves request g need s t result is r enough (inl e) = inl e
run_serves request g need s t result is r enough (inr w) =
    inr (Done, run_text request.action request.trace g w.0, (need, is, short_by request need false r enough, run_says request.action request request.text g need w.0 r w.1), w.2)

pub short_serves : (request : Request) (g : GraphValue) (need : ℕ) (s t : SinkState) (result : Status) → IsNeed g need → runs request.action request.text ≡ true → nat_lt (most_slots request.slots) need ≡ true
    → Delivers s t Slots result (slots_text need) → Serves request g s t result
short_serves request g need s t result is r few d = inr (Slots, slots_text need, (need, is, short_by request need true r few, refl), d)
