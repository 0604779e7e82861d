-- What a run reads and writes.
use Rattle.std.specs.Prelude.{ℕ, ◌≡◌, ◌≢◌, ◌≤◌, ◌<◌, ◌⊎◌, ◌++◌, List, length, codes, Option, Ok, Err}
use Rattle.std.specs.Io.KnownBytes.{Appends, Keeps, Consumes, IsAtEnd}
use Rattle.ww_json.specs.declared.fault.InputFault.{InputFault}
use Rattle.ww_json.specs.declared.fault.InputFault.TheVariants.{NoMemory}
use Rattle.ww_script.specs.Fault.{number_of, refusal_text}
use Rattle.ww_script.specs.declared.input.Input.TheVariants.{Scripts, Schedule}
use Rattle.ww_script.specs.Scripts.{Plan}
use Rattle.ww_script.specs.Schedules.{Timetable}
use Rattle.ww_script.specs.Replay.{IsTextOf}
use Rattle.ww_script.specs.Reading.{reading}
use Rattle.ww_script.specs.Outcome.{Told, IsOutcome}
use Rattle.ww_script.specs.Text.{outcome_lines}
use Rattle.ww_run.specs.declared.workers.RunFault.{RunFault}
use Rattle.ww_run.specs.declared.workers.RunFault.TheVariants as run
use Rattle.ww_run.specs.declared.run.Refusal.{Refusal}
use Rattle.ww_run.specs.declared.run.Refusal.TheVariants.{Input, Run}
use Rattle.ww_run.specs.declared.run.Status.{Status}
use Rattle.ww_run.specs.declared.run.Status.TheVariants.{Ended, Refused, ReadFailed, WriteFailed, Stopped}
use Rattle.ww_run.specs.Streams.{AppendsFront, ConsumesSome}
use Rattle.ww_run.specs.Workers.{run_number}

-- one byte more than an input may have
abbrev pub most_read : ℕ
most_read = 1048577

-- the program's exit status
abbrev pub exit_of : Status → ℕ
exit_of Ended = 0
exit_of Refused = 1
exit_of ReadFailed = 2
exit_of WriteFailed = 2
exit_of Stopped = 3

-- the number of a refusal's line
abbrev pub refusal_number : Refusal → ℕ
refusal_number (Input fault) = number_of fault
refusal_number (Run fault) = run_number fault

-- how a run ends that writes a refusal's line
abbrev pub status_of : Refusal → Status
status_of (Input NoMemory) = Stopped
status_of (Input _) = Refused
status_of (Run _) = Stopped

-- a refusal's line, with its line feed
unfoldable pub line_of : ℕ → List ℕ
line_of number = refusal_text number ++ codes "\n"

-- the input asks for scripts, and this is the text of an outcome of theirs
pub record IsOutcomeText (input text : List ℕ) : Type 0 where
  pub plan : Plan
  pub told : Told
  pub read : reading input ≡ Ok (Scripts plan)
  pub outcome : IsOutcome plan told
  pub text_is : text ≡ outcome_lines told

-- the input asks for a schedule to be replayed, and this is the text of its replay
pub record IsReplayText (input text : List ℕ) : Type 0 where
  pub timetable : Timetable
  pub read : reading input ≡ Ok (Schedule timetable)
  pub text_is : IsTextOf timetable text

-- the text of what the input asks for
abbrev pub IsTextFor : List ℕ → List ℕ → Type 0
IsTextFor input text = IsOutcomeText input text ⊎ IsReplayText input text

-- the input asks for scripts
abbrev pub AsksForScripts : List ℕ → Type 0
AsksForScripts input = (plan : Plan) × (reading input ≡ Ok (Scripts plan))

-- The input has the fault, where it is refused for one. Where it is given up for anything but lack of memory, it asks
-- for scripts: nothing else starts threads.
abbrev pub IsRefusedFor : List ℕ → Refusal → Type 0
IsRefusedFor input (Input fault) = fault ≢ NoMemory → reading input ≡ Err fault
IsRefusedFor input (Run fault) = fault ≢ run.NoMemory → AsksForScripts input

-- the input has a fault, which lack of memory isn't, and this is the fault's line
pub record IsRefusalLine (input text : List ℕ) : Type 0 where
  pub fault : InputFault
  pub own : fault ≢ NoMemory
  pub read : reading input ≡ Err fault
  pub text_is : text ≡ line_of (number_of fault)

-- the input asks for scripts, and this is the line that says why they were given up
pub record IsGivenUpLine (input text : List ℕ) : Type 0 where
  pub scripts : AsksForScripts input
  pub fault : RunFault
  pub text_is : text ≡ line_of (run_number fault)

-- these bytes were read: all that there were, unless that was one more than an input may have
pub record IsReadFrom (left rest : Option (List ℕ)) (input : List ℕ) : Type 0 where
  pub few : length input ≤ most_read
  pub taken : Consumes left rest input
  pub whole : length input < most_read → IsAtEnd rest

-- What is to be written, and how the run ends where it is. Memory may be refused before all is read.
abbrev pub IsTextDue : Option (List ℕ) → Option (List ℕ) → Status → List ℕ → Type 0
IsTextDue left rest Ended text = (input : List ℕ) × IsReadFrom left rest input × IsTextFor input text
IsTextDue left rest Refused text = (input : List ℕ) × IsReadFrom left rest input × IsRefusalLine input text
IsTextDue left rest Stopped text =
    (ConsumesSome most_read left rest × (text ≡ line_of 16))
    ⊎ ((input : List ℕ) × IsReadFrom left rest input × IsGivenUpLine input text)
IsTextDue left rest ReadFailed text = ⊥
IsTextDue left rest WriteFailed text = ⊥

-- What is written of a text that is due, given what the writer holds before and after: all of it, and the run ends as
-- it then does, or a front of it.
abbrev pub Writes : Option (List ℕ) → Option (List ℕ) → Status → List ℕ → Status → Type 0
Writes held holds due text WriteFailed = AppendsFront held holds text
Writes held holds due text status = (status ≡ due) × Appends held holds text

-- What a run does, given what the reader has left and what the writer holds, each before and after.
abbrev pub Runs : Option (List ℕ) → Option (List ℕ) → Option (List ℕ) → Option (List ℕ) → Status → Type 0
Runs left rest held holds ReadFailed = ConsumesSome most_read left rest × Keeps held holds
Runs left rest held holds status =
    (due : Status) × (text : List ℕ) × IsTextDue left rest due text × Writes held holds due text status
