-- Each event keeps a lawful state lawful.
use Rattle.std.proofs.Common.{ℕ, List, [], ◌∷◌, refl, sym, arith, true≢false}
use Rattle.ww_queue.specs.declared.kind.Kind.{Kind}
use Rattle.ww_model.specs.declared.event.Event.{Event}
use Rattle.ww_model.specs.State.{State, start}
use Rattle.ww_model.specs.Event.{after}
use Rattle.ww_model.specs.Lawful.{IsBase, IsLawful, KeepsBase, Keeps}
use Rattle.ww_model.specs.Run.{state_after, IsRun, at_start, further, RunsAreLawful}
use Rattle.ww_model.specs.Theorem.{ReachedIsLawful}
use Rattle.ww_model.proofs.Stamps.{keeps_stamps}
use Rattle.ww_model.proofs.Owners.{keeps_owners}
use Rattle.ww_model.proofs.Queues.{keeps_queues}
use Rattle.ww_model.proofs.Guards.{keeps_guards}
use Rattle.ww_model.proofs.Solos.{keeps_solos}
use Rattle.ww_model.proofs.Cancels.{keeps_cancels}
use Rattle.ww_model.proofs.OlderSigns.{keeps_older_signs}
use Rattle.ww_model.proofs.Wounds.{keeps_wounds}
use Rattle.ww_model.proofs.Deaths.{keeps_deaths}
use Rattle.ww_model.proofs.Signs.{keeps_signs}

pub keeps_base : KeepsBase IsBase
keeps_base c e can l = record {
  stamps = keeps_stamps c e can l;
  owners = keeps_owners c e can l;
  queues = keeps_queues c e can l;
  guards = keeps_guards c e can l;
  solos = keeps_solos c e can l;
  cancels = keeps_cancels c e can l;
}

pub keeps_lawful : Keeps IsLawful
keeps_lawful c e can l = record {
  base = keeps_base c e can.base l.base;
  signs = record {
    older_signs = keeps_older_signs c e can l;
    wounds = keeps_wounds c e can l;
    deaths = keeps_deaths c e can l;
    signs = keeps_signs c e can l;
  };
}

pub start_is_lawful : (kind : Kind) (locks seats : ℕ) → IsLawful (start kind locks seats)
start_is_lawful kind locks seats = record {
  base = record {
    stamps = record { differ = λ s t h. absurd (omega arith); below = λ s. omega arith };
    owners = record {
      at = λ n. record {
        handed_stands = λ s o. absurd (cc);
        taken_stands_not = λ s o e h. absurd h;
        asked_taken = λ b. absurd (true≢false (sym b));
      };
      beyond = λ n _. refl;
    };
    queues = record {
      at = λ n. record {
        once = tt;
        stamps = λ e h. absurd h;
        holds = λ e h. absurd h;
        holds_not = λ e h. absurd h;
        ascends = tt;
      };
      one_queue = λ m n e f h. absurd h;
    };
    guards = record { one_guard = λ s m n a. absurd (omega arith); own_guard = λ m n e h. absurd h };
    solos = record { one_lock = λ s m n z a. absurd (cc); none_queued = λ n m e h. absurd h };
    cancels = record { set = λ s. omega arith; heeded = λ s. omega arith; heeding = λ s p. absurd (omega arith) };
  };
  signs = record {
    older_signs = λ s h. absurd (omega arith);
    wounds = λ _ n t e o _ h. absurd h;
    deaths = λ _ n. record { younger_signed = λ t e o p x h. absurd h; later_holders_signed = λ e f h. absurd h };
    signs = record { unowning = λ _ n e h. absurd h; waiting = λ _ s h. absurd (omega arith) };
  };
}

pub reached_is_lawful : ReachedIsLawful
reached_is_lawful _ (at_start kind locks seats) = start_is_lawful kind locks seats
reached_is_lawful _ (further c e r can) = keeps_lawful c e can (reached_is_lawful c r)

pub runs_from : (c : State) (events : List Event) → IsLawful c → IsRun c events → IsLawful (state_after c events)
runs_from c [] l run = l
runs_from c (e ∷ es) l run = runs_from (after c e) es (keeps_lawful c e run.0 l) run.1

pub runs_are_lawful : RunsAreLawful
runs_are_lawful kind locks seats events run = runs_from (start kind locks seats) events (start_is_lawful kind locks seats) run
