-- How a run ends, by what is due.
use Rattle.std.proofs.Common.{ℕ, List, Option, inl, inr, refl, sym, subst}
use Rattle.ww_json.specs.declared.fault.InputFault.TheVariants.{NotJson, BadKey, BadNumber, BadGraph, BadWord, BadVersion, NoMemory, TooLong, BadType}
use Rattle.ww_run.specs.declared.workers.RunFault.TheVariants as run
use Rattle.ww_run.specs.declared.run.Refusal.{Refusal}
use Rattle.ww_run.specs.declared.run.Refusal.TheVariants.{Input, Run}
use Rattle.ww_run.specs.declared.run.Status.{Status}
use Rattle.ww_run.specs.declared.run.Status.TheVariants.{Ended, Refused, ReadFailed, WriteFailed, Stopped}
use Rattle.ww_run.specs.Streams.{ConsumesSome}
use Rattle.ww_run.specs.Run.{most_read, refusal_number, status_of, line_of, IsRefusedFor, IsReadFrom, IsTextDue, Writes, Runs}

-- what is due, and what was written of it
pub runs_due : (left rest held holds : Option (List ℕ)) (due : Status) (text : List ℕ) (status : Status)
    → IsTextDue left rest due text → Writes held holds due text status → Runs left rest held holds status
runs_due left rest held holds due text Ended d w = (due, text, d, w)
runs_due left rest held holds due text Refused d w = (due, text, d, w)
runs_due left rest held holds due text ReadFailed d w = absurd
    (subst (λ (s : Status). IsTextDue left rest s text) (sym w.0) d)
runs_due left rest held holds due text WriteFailed d w = (due, text, d, w)
runs_due left rest held holds due text Stopped d w = (due, text, d, w)

-- what is due after a refusal
due_refused : (left rest : Option (List ℕ)) (input : List ℕ) (refusal : Refusal) → IsReadFrom left rest input
    → IsRefusedFor input refusal → IsTextDue left rest (status_of refusal) (line_of (refusal_number refusal))
due_refused left rest input (Input NotJson) r h =
    (input, r, record { fault = NotJson; own = (λ e. absurd cc); read = h (λ e. absurd cc); text_is = refl })
due_refused left rest input (Input BadKey) r h =
    (input, r, record { fault = BadKey; own = (λ e. absurd cc); read = h (λ e. absurd cc); text_is = refl })
due_refused left rest input (Input BadNumber) r h =
    (input, r, record { fault = BadNumber; own = (λ e. absurd cc); read = h (λ e. absurd cc); text_is = refl })
due_refused left rest input (Input BadGraph) r h =
    (input, r, record { fault = BadGraph; own = (λ e. absurd cc); read = h (λ e. absurd cc); text_is = refl })
due_refused left rest input (Input BadWord) r h =
    (input, r, record { fault = BadWord; own = (λ e. absurd cc); read = h (λ e. absurd cc); text_is = refl })
due_refused left rest input (Input BadVersion) r h =
    (input, r, record { fault = BadVersion; own = (λ e. absurd cc); read = h (λ e. absurd cc); text_is = refl })
due_refused left rest input (Input NoMemory) r h = inl ((input, r.few, r.taken), refl)
due_refused left rest input (Input TooLong) r h =
    (input, r, record { fault = TooLong; own = (λ e. absurd cc); read = h (λ e. absurd cc); text_is = refl })
due_refused left rest input (Input BadType) r h =
    (input, r, record { fault = BadType; own = (λ e. absurd cc); read = h (λ e. absurd cc); text_is = refl })
due_refused left rest input (Run run.NoMemory) r h = inl ((input, r.few, r.taken), refl)
due_refused left rest input (Run run.NoThread) r h =
    inr (input, r, record { scripts = h (λ e. absurd cc); fault = run.NoThread; text_is = refl })

pub runs_refused : (left rest held holds : Option (List ℕ)) (input : List ℕ) (refusal : Refusal) (status : Status)
    → IsReadFrom left rest input → IsRefusedFor input refusal
    → Writes held holds (status_of refusal) (line_of (refusal_number refusal)) status
    → Runs left rest held holds status
runs_refused left rest held holds input refusal status r h w = runs_due left rest held holds (status_of refusal)
    (line_of (refusal_number refusal)) status (due_refused left rest input refusal r h) w

-- memory was refused before all was read
pub runs_stopped : (left rest held holds : Option (List ℕ)) (status : Status) → ConsumesSome most_read left rest
    → Writes held holds Stopped (line_of 16) status → Runs left rest held holds status
runs_stopped left rest held holds status r w = runs_due left rest held holds Stopped (line_of 16) status
    (inl (r, refl)) w
