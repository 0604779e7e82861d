-- The state that written lists show, and what a step owes.
use Rattle.std.proofs.Common.{ℕ, ◌≡◌, ◌<◌, Bool, false, List, [], length, get_or, Option, None, sym, ap, ◌∙◌, subst, arith}
use Rattle.std.proofs.Math.ListN.{set, length-set}
use Rattle.ww_queue.specs.declared.entry.Entry.{Entry}
use Rattle.ww_model.specs.declared.state.Holder.{Holder}
use Rattle.ww_model.specs.declared.state.Holder.TheVariants.{Nobody}
use Rattle.ww_model.specs.declared.event.Event.{Event}
use Rattle.ww_model.specs.declared.event.Answer.{Answer}
use Rattle.ww_model.specs.State.{put}
use Rattle.ww_model.specs.Event.{Possible, after, answer}
use Rattle.ww_model.specs.Run.{Reached, further}
use Rattle.ww_model.specs.Snapshot.{Snapshot, state_of, guard_number, HasSizes, IsCore}
use Rattle.ww_model.specs.Step.{Steps}
use Rattle.ww_model.proofs.Slots.{seen, stored}

module _ (s : Snapshot) where
  pub stamp_set : (i a : ℕ) → i < length s.stamps
      → state_of (record s { stamps = set s.stamps i a })
      ≡ record (state_of s) { stamp = put (state_of s).stamp i a }
  stamp_set i a within = ap (λ (k : ℕ). record (state_of s) {
    seats = k;
    stamp = λ n. get_or (set s.stamps i a) n 0;
  }) (length-set s.stamps i a)
      ∙ ap (λ (f : ℕ → ℕ). record (state_of s) { stamp = f }) (stored s.stamps i a 0 within)

  pub sign_set : (i a : ℕ) → i < length s.signs
      → state_of (record s { signs = set s.signs i a }) ≡ record (state_of s) { sign = put (state_of s).sign i a }
  sign_set i a within = ap (λ (f : ℕ → ℕ). record (state_of s) { sign = f }) (stored s.signs i a 0 within)

  pub owner_set : (i : ℕ) (a : Holder) → i < length s.owners
      → state_of (record s { owners = set s.owners i a })
      ≡ record (state_of s) { owner = put (state_of s).owner i a }
  owner_set i a within = ap (λ (k : ℕ). record (state_of s) {
    locks = k;
    owner = λ n. get_or (set s.owners i a) n Nobody;
  }) (length-set s.owners i a)
      ∙ ap (λ (f : ℕ → Holder). record (state_of s) { owner = f }) (stored s.owners i a Nobody within)

  pub asked_set : (i : ℕ) (a : Bool) → i < length s.asked
      → state_of (record s { asked = set s.asked i a }) ≡ record (state_of s) { asked = put (state_of s).asked i a }
  asked_set i a within = ap (λ (f : ℕ → Bool). record (state_of s) { asked = f }) (stored s.asked i a false within)

  pub queue_set : (i : ℕ) (a : List Entry) → i < length s.queues
      → state_of (record s { queues = set s.queues i a })
      ≡ record (state_of s) { queue = put (state_of s).queue i a }
  queue_set i a within = ap (λ (f : ℕ → List Entry). record (state_of s) { queue = f }) (stored s.queues i a [] within)

  pub guard_set : (i : ℕ) (a : Option ℕ) → i < length s.guards
      → state_of (record s { guards = set s.guards i a })
      ≡ record (state_of s) { guard = put (state_of s).guard i (guard_number a) }
  guard_set i a within = ap (λ (f : ℕ → ℕ). record (state_of s) { guard = f }) (seen guard_number s.guards i a None within)

-- (of the list of cancels, and of those that were heeded)
module _ (s : Snapshot) where
  pub cancel_set : (i a : ℕ) → i < length s.cancels
      → state_of (record s { cancels = set s.cancels i a })
      ≡ record (state_of s) { cancel = put (state_of s).cancel i a }
  cancel_set i a within = ap (λ (f : ℕ → ℕ). record (state_of s) { cancel = f }) (stored s.cancels i a 0 within)

  pub heeded_set : (i a : ℕ) → i < length s.heeded
      → state_of (record s { heeded = set s.heeded i a })
      ≡ record (state_of s) { heeded = put (state_of s).heeded i a }
  heeded_set i a within = ap (λ (f : ℕ → ℕ). record (state_of s) { heeded = f }) (stored s.heeded i a 0 within)

-- how long the lists are
pub record Lengths : Type 0 where
  pub stamps : ℕ
  pub signs : ℕ
  pub owners : ℕ
  pub asked : ℕ
  pub queues : ℕ
  pub guards : ℕ
  pub cancels : ℕ
  pub heeded : ℕ

abbrev pub lengths_of : Snapshot → Lengths
lengths_of s = record {
  stamps = length s.stamps;
  signs = length s.signs;
  owners = length s.owners;
  asked = length s.asked;
  queues = length s.queues;
  guards = length s.guards;
  cancels = length s.cancels;
  heeded = length s.heeded;
}

-- the lists after writes that keep their lengths
resized : (s t : Snapshot) → HasSizes s → lengths_of t ≡ lengths_of s → HasSizes t
resized s t h l = let owners = ap (λ (x : Lengths). x.owners) l in let stamps = ap (λ (x : Lengths). x.stamps) l in record {
  some_lock = omega (arith, h.some_lock, owners);
  locks = omega (arith, h.locks, owners);
  asked = ap (λ (x : Lengths). x.asked) l ∙ h.asked ∙ sym owners;
  queues = ap (λ (x : Lengths). x.queues) l ∙ h.queues ∙ sym owners;
  guards = ap (λ (x : Lengths). x.guards) l ∙ h.guards ∙ sym owners;
  some_seat = omega (arith, h.some_seat, stamps);
  seats = omega (arith, h.seats, stamps);
  signs = ap (λ (x : Lengths). x.signs) l ∙ h.signs ∙ sym stamps;
  cancels = ap (λ (x : Lengths). x.cancels) l ∙ h.cancels ∙ sym stamps;
  heeded = ap (λ (x : Lengths). x.heeded) l ∙ h.heeded ∙ sym stamps;
}

-- the lists t show what the event makes of the lists s
pub record Makes (s : Snapshot) (e : Event) (t : Snapshot) : Type 0 where
  pub lengths : lengths_of t ≡ lengths_of s
  pub state : state_of t ≡ after (state_of s) e

-- a possible event keeps a core what it is
pub kept : (old s t : Snapshot) (e : Event) → s ≡ old → IsCore s → Possible (state_of old) e → Makes s e t → IsCore t
kept old s t e is core can makes = record {
  sizes = resized s t core.sizes makes.lengths;
  reached = subst Reached (sym makes.state)
      (further (state_of s) e core.reached (subst (λ (x : Snapshot). Possible (state_of x) e) (sym is) can));
}

-- ... and is answered
pub stepped : (old s t : Snapshot) (e : Event) (a : Answer) → s ≡ old → IsCore s → Possible (state_of old) e
    → a ≡ answer (state_of s) e → Makes s e t → Steps old e t a
stepped old s t e a is core can told makes = record {
  possible = can;
  answer = subst (λ (x : Snapshot). a ≡ answer (state_of x) e) is told;
  state = subst (λ (x : Snapshot). state_of t ≡ after (state_of x) e) is makes.state;
  reached = (kept old s t e is core can makes).reached;
}
