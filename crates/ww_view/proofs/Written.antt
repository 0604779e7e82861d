-- What the events write to the owner words, and what a number found there tells.
use Rattle.std.proofs.Common.{◌≡◌, ◌≢◌, inl, inr, ℕ, ◌+◌, ◌*◌, ◌^◌, ◌<◌, ◌≤◌, Bool, true, false, List, [], ◌∷◌, refl, sym, ap, ◌∙◌, subst, arith}
use Rattle.std.specs.Prelude.{bit_or}
use Rattle.ww_word.specs.declared.owner.Owner.{Owner}
use Rattle.ww_word.specs.Owner.{IsValid, AreFlags, idle, with_waiters, handed_to}
use Rattle.ww_word.proofs.Words.{packing_is_injective}
use Rattle.ww_word.specs.AnySeats as wide
use Rattle.ww_word.proofs.AnyWords as wide_words
use Rattle.ww_queue.specs.declared.entry.Entry.{Entry}
use Rattle.ww_queue.specs.Entry.{is_older}
use Rattle.ww_queue.specs.Queue.{Has, Stands, joined, left}
use Rattle.ww_queue.proofs.Outcomes.{by_test}
use Rattle.ww_queue.proofs.Leaves.{left_others}
use Rattle.ww_model.specs.declared.state.Holder.{Holder}
use Rattle.ww_model.specs.declared.state.Holder.TheVariants.{Nobody, Taken, Handed}
use Rattle.ww_model.specs.declared.event.Event.{Event}
use Rattle.ww_model.specs.declared.event.Event.TheVariants.{Begin, Fast, FastGive, Join, Take, Ask, Give, Die, End, Leave}
use Rattle.ww_model.specs.State.{State, put, HasOther, waiter_of, owner_as, waiting, one_if, pickup, word_from, word_of}
use Rattle.ww_model.specs.Run.{Reached}
use Rattle.ww_model.specs.Event.{BasePossible, after, given_to, still_asked, CanAsk, CanDie, CanLeave}
use Rattle.ww_model.specs.Lawful.{OwnerAt, IsBase}
use Rattle.ww_model.proofs.Puts.{put_here, put_else, put_cases}
use Rattle.ww_model.proofs.Cancels.{kept_there}
use Rattle.ww_model.proofs.Holders.{not_empty, other_has}
use Rattle.ww_model.proofs.Kept.{reached_is_lawful}
use Rattle.ww_model.proofs.Ranges.{owners_are_seats, few_stamps}
use Rattle.ww_model.proofs.Words.{same_word, restamped}
use Rattle.ww_view.specs.Word.{taken_word, asked_word, given_word, rest_word, words_after}
use Rattle.ww_view.specs.Laws.{WordsAreValid, WordsAreTold}
use Rattle.ww_view.proofs.Tells.{some_wait}

-- ---- the parts of a word

-- an owner, by its flags
flagged : (w : Owner) (f g : ℕ) → f ≡ g → record w { flags = f } ≡ record w { flags = g }
flagged w f g is = ap (λ (x : ℕ). record w { flags = x }) is

waiting_joined : (q : List Entry) (x : Entry) → waiting (joined q x) ≡ 1
waiting_joined [] x = refl
waiting_joined (e ∷ es) x =
    by_test (is_older x.stamp e.stamp) (x ∷ e ∷ es) (e ∷ joined es x) (λ q. waiting q ≡ 1) (λ _. refl) (λ _. refl)

-- WAITERS is added or kept
joined_flags : (o : Holder) (b : Bool) (q : List Entry) → OwnerAt o b q →
    bit_or (waiting q + 2 * one_if b + pickup o) 1 ≡ 1 + 2 * one_if b + pickup o
joined_flags Nobody false [] at = refl
joined_flags (Taken s) false [] at = refl
joined_flags (Handed s) false [] at = absurd (at.handed_stands s refl).1
joined_flags o true [] at = absurd ((at.asked_taken refl).1 refl)
joined_flags Nobody false (e ∷ es) at = refl
joined_flags (Taken s) false (e ∷ es) at = refl
joined_flags (Handed s) false (e ∷ es) at = refl
joined_flags Nobody true (e ∷ es) at = refl
joined_flags (Taken s) true (e ∷ es) at = refl
joined_flags (Handed s) true (e ∷ es) at = refl

joined_is : (c : State) (o : Holder) (b : Bool) (q : List Entry) (x : Entry) → OwnerAt o b q →
    word_from c o b (joined q x) ≡ with_waiters (word_from c o b q)
joined_is c o b q x at = let z = waiting_joined q x in let y = joined_flags o b q at in
    flagged (owner_as c o) (waiting (joined q x) + 2 * one_if b + pickup o)
    (bit_or (waiting q + 2 * one_if b + pickup o) 1) (omega arith)

given_is : (c : State) (b : Bool) (q : List Entry) → ((e : Entry) → Has q e → e.stamp ≡ c.stamp e.seat) →
    word_from c (given_to b q) false q ≡ given_word b q
given_is c true [] same = refl
given_is c true (e ∷ es) same = ap (handed_to e.seat) (sym (same e (inl refl)))
given_is c false q same = flagged idle (waiting q + 2 * 0 + 0) (waiting q) (omega arith)

-- a waiter leaves, and a seat to which the lock was handed stays
rest_is : (c : State) (o : Holder) (b : Bool) (q r : List Entry) → waiting q ≡ 1 →
    ((t : ℕ) → o ≡ Handed t → Stands r t) →
    word_from c o (still_asked r b) r ≡ rest_word r (word_from c o b q)
rest_is c Nobody b q [] some stands = refl
rest_is c (Taken s) b q [] some stands = refl
rest_is c (Handed s) b q [] some stands = absurd (stands s refl).1
rest_is c o b q (e ∷ es) some stands =
    flagged (owner_as c o) (1 + 2 * one_if b + pickup o) (waiting q + 2 * one_if b + pickup o) (omega arith)

-- ---- the word of the event's own lock

pub word_fast : (c : State) (s n : ℕ) → c.queue n ≡ [] → c.asked n ≡ false →
    word_of (after c (Fast s n)) n ≡ taken_word s (c.stamp s) []
word_fast c s n empty calm = let d = after c (Fast s n) in
    same_word c d (d.owner n) (Taken s) (c.asked n) false (c.queue n) [] refl (put_here c.owner n (Taken s)) calm empty

pub word_fast_give : (c : State) (s n : ℕ) → c.queue n ≡ [] → c.asked n ≡ false →
    word_of (after c (FastGive s n)) n ≡ idle
word_fast_give c s n empty calm = let d = after c (FastGive s n) in
    same_word c d (d.owner n) Nobody (c.asked n) false (c.queue n) [] refl (put_here c.owner n Nobody) calm empty

pub word_join : (c : State) (s n : ℕ) → IsBase c → word_of (after c (Join s n)) n ≡ with_waiters (word_of c n)
word_join c s n l = let q = joined (c.queue n) (waiter_of c s) in let d = after c (Join s n) in
    same_word c d (c.owner n) (c.owner n) (c.asked n) (c.asked n) (d.queue n) q refl refl refl (put_here c.queue n q)
    ∙ joined_is c (c.owner n) (c.asked n) (c.queue n) (waiter_of c s) (l.owners.at n)

pub word_take : (c : State) (s n : ℕ) → word_of (after c (Take s n)) n ≡ taken_word s (c.stamp s) (left (c.queue n) s)
word_take c s n = let q = left (c.queue n) s in let d = after c (Take s n) in
    same_word c d (d.owner n) (Taken s) (d.asked n) false (d.queue n) q
    refl (put_here c.owner n (Taken s)) (put_here c.asked n false) (put_here c.queue n q)
    ∙ flagged (owner_as c (Taken s)) (waiting q + 2 * 0 + 0) (waiting q) (omega arith)

pub word_ask : (c : State) (s n : ℕ) → CanAsk c s n → word_of (after c (Ask s n)) n ≡ asked_word (word_of c n)
word_ask c s n can = let d = after c (Ask s n) in
    let first = subst (λ y. Has y can.first.0) (sym can.first.2) (inl refl) in
    let one = some_wait (c.queue n) (not_empty (c.queue n) can.first.0 first) in
    let not_handed : pickup (c.owner n) ≡ 0 = ap pickup can.other.2 in
    same_word c d (c.owner n) (c.owner n) (d.asked n) true (c.queue n) (c.queue n)
    refl refl (put_here c.asked n true) refl
    ∙ flagged (owner_as c (c.owner n)) (waiting (c.queue n) + 2 * 1 + pickup (c.owner n)) 3 (omega arith)

pub word_give : (c : State) (s n : ℕ) → IsBase c → word_of (after c (Give s n)) n ≡ given_word (c.asked n) (c.queue n)
word_give c s n l = let o = given_to (c.asked n) (c.queue n) in let d = after c (Give s n) in
    same_word c d (d.owner n) o (d.asked n) false (c.queue n) (c.queue n)
    refl (put_here c.owner n o) (put_here c.asked n false) refl
    ∙ given_is c (c.asked n) (c.queue n) (l.queues.at n).stamps

-- where a seat leaves the list of a lock that another has
word_departed : (c : State) (s n : ℕ) → IsBase c → Stands (c.queue n) s → HasOther c s n → let q = left (c.queue n) s in
    word_of (record c { queue = put c.queue n q; asked = put c.asked n (still_asked q (c.asked n)) }) n ≡ rest_word q (word_of c n)
word_departed c s n l waits other = let q = left (c.queue n) s in let b = still_asked q (c.asked n) in
    let d : State = record c { queue = put c.queue n q; asked = put c.asked n b } in
    let one = some_wait (c.queue n) (not_empty (c.queue n) waits.0 waits.1) in
    same_word c d (c.owner n) (c.owner n) (d.asked n) b (d.queue n) q
    refl refl (put_here c.asked n b) (put_here c.queue n q) ∙ rest_is c (c.owner n) (c.asked n) (c.queue n) q one
    (λ t own. let h = (l.owners.at n).handed_stands t own in
    (h.0, left_others (c.queue n) s h.0 (λ i. other_has (c.owner n) s t other (inr own) (sym h.2 ∙ i)) h.1, h.2))

pub word_die : (c : State) (s n : ℕ) → IsBase c → CanDie c s n →
    word_of (after c (Die s n)) n ≡ rest_word (left (c.queue n) s) (word_of c n)
word_die c s n l can = word_departed c s n l can.waits can.other

pub word_leave : (c : State) (s n : ℕ) → IsBase c → CanLeave c s n →
    word_of (after c (Leave s n)) n ≡ rest_word (left (c.queue n) s) (word_of c n)
word_leave c s n l can = word_departed c s n l can.waits (kept_there c l s n can)

-- ---- the words of all other locks stay

-- the event doesn't write the owner word of this lock
abbrev pub Leaves : Event → ℕ → Type 0
Leaves (Fast s n) m = m ≢ n
Leaves (FastGive s n) m = m ≢ n
Leaves (Join s n) m = m ≢ n
Leaves (Take s n) m = m ≢ n
Leaves (Ask s n) m = m ≢ n
Leaves (Give s n) m = m ≢ n
Leaves (Die s n) m = m ≢ n
Leaves (Leave s n) m = m ≢ n
Leaves _ m = Unit {0}

-- the word of a lock whose parts are the same
still : (c d : State) (m : ℕ) → owner_as d (d.owner m) ≡ owner_as c (d.owner m) → d.owner m ≡ c.owner m →
    d.asked m ≡ c.asked m → d.queue m ≡ c.queue m →
    word_of d m ≡ word_of c m
still c d m = same_word c d (d.owner m) (c.owner m) (d.asked m) (c.asked m) (d.queue m) (c.queue m)

pub word_else : (c : State) (e : Event) (m : ℕ) → BasePossible c e → IsBase c → Leaves e m →
    word_of (after c e) m ≡ word_of c m
word_else c (Begin s) m can l far = let d = after c (Begin s) in
    still c d m (restamped c d s (c.drawn + 1) m l can.owns_none (can.away.queue m) refl) refl refl refl
word_else c (End s) m can l far = let d = after c (End s) in
    still c d m (restamped c d s 0 m l can.owns_none (can.away.queue m) refl) refl refl refl
word_else c (Fast s n) m can l far = still c (after c (Fast s n)) m refl (put_else c.owner n (Taken s) m far) refl refl
word_else c (FastGive s n) m can l far =
    still c (after c (FastGive s n)) m refl (put_else c.owner n Nobody m far) refl refl
word_else c (Join s n) m can l far =
    still c (after c (Join s n)) m refl refl refl (put_else c.queue n (joined (c.queue n) (waiter_of c s)) m far)
word_else c (Take s n) m can l far = still c (after c (Take s n)) m refl
    (put_else c.owner n (Taken s) m far) (put_else c.asked n false m far) (put_else c.queue n (left (c.queue n) s) m far)
word_else c (Ask s n) m can l far = still c (after c (Ask s n)) m refl refl (put_else c.asked n true m far) refl
word_else c (Give s n) m can l far = still c (after c (Give s n)) m refl
    (put_else c.owner n (given_to (c.asked n) (c.queue n)) m far) (put_else c.asked n false m far) refl
word_else c (Die s n) m can l far = let q = left (c.queue n) s in
    still c (after c (Die s n)) m refl refl
    (put_else c.asked n (still_asked q (c.asked n)) m far) (put_else c.queue n q m far)
word_else c (Leave s n) m can l far = let q = left (c.queue n) s in
    still c (after c (Leave s n)) m refl refl
    (put_else c.asked n (still_asked q (c.asked n)) m far) (put_else c.queue n q m far)
word_else c e m can l far = refl

-- ---- all words

-- an event that writes the word of lock n alone
written_at : (c : State) (e : Event) (n : ℕ) (o : Owner) → word_of (after c e) n ≡ o →
    ((m : ℕ) → m ≢ n → word_of (after c e) m ≡ word_of c m) →
    (m : ℕ) → word_of (after c e) m ≡ put (word_of c) n o m
written_at c e n o here far m = put_cases (word_of c) n o m (λ x. word_of (after c e) m ≡ x)
    (λ is. ap (word_of (after c e)) is ∙ here) (far m)

pub words_are_written : (c : State) (e : Event) (m : ℕ) → BasePossible c e → IsBase c →
    word_of (after c e) m ≡ words_after c e m
words_are_written c (Fast s n) m can l = written_at c (Fast s n) n (taken_word s (c.stamp s) [])
    (word_fast c s n can.idle.empty can.idle.not_asked) (λ i. word_else c (Fast s n) i can l) m
words_are_written c (FastGive s n) m can l = written_at c (FastGive s n) n idle
    (word_fast_give c s n can.empty can.not_asked) (λ i. word_else c (FastGive s n) i can l) m
words_are_written c (Join s n) m can l = written_at c (Join s n) n (with_waiters (word_of c n))
    (word_join c s n l) (λ i. word_else c (Join s n) i can l) m
words_are_written c (Take s n) m can l = written_at c (Take s n) n (taken_word s (c.stamp s) (left (c.queue n) s))
    (word_take c s n) (λ i. word_else c (Take s n) i can l) m
words_are_written c (Ask s n) m can l = written_at c (Ask s n) n (asked_word (word_of c n))
    (word_ask c s n can) (λ i. word_else c (Ask s n) i can l) m
words_are_written c (Give s n) m can l = written_at c (Give s n) n (given_word (c.asked n) (c.queue n))
    (word_give c s n l) (λ i. word_else c (Give s n) i can l) m
words_are_written c (Die s n) m can l = written_at c (Die s n) n (rest_word (left (c.queue n) s) (word_of c n))
    (word_die c s n l can) (λ i. word_else c (Die s n) i can l) m
words_are_written c (Leave s n) m can l = written_at c (Leave s n) n (rest_word (left (c.queue n) s) (word_of c n))
    (word_leave c s n l can) (λ i. word_else c (Leave s n) i can l) m
words_are_written c e m can l = word_else c e m can l tt

-- ---- a number found in an owner word

word_flags : (o : Holder) (b : Bool) (q : List Entry) → OwnerAt o b q → AreFlags (waiting q + 2 * one_if b + pickup o)
word_flags Nobody false [] at = inl refl
word_flags (Taken s) false [] at = inl refl
word_flags (Handed s) false [] at = absurd (at.handed_stands s refl).1
word_flags o true [] at = absurd ((at.asked_taken refl).1 refl)
word_flags Nobody false (e ∷ es) at = inr (inl refl)
word_flags (Taken s) false (e ∷ es) at = inr (inl refl)
word_flags (Handed s) false (e ∷ es) at = inr (inr (inr refl))
word_flags Nobody true (e ∷ es) at = absurd (let x = (at.asked_taken refl).0.1 in cc)
word_flags (Taken s) true (e ∷ es) at = inr (inr (inl refl))
word_flags (Handed s) true (e ∷ es) at = absurd (let x = (at.asked_taken refl).0.1 in cc)

free_flags : (b : Bool) (q : List Entry) → OwnerAt Nobody b q → waiting q + 2 * one_if b + 0 ≤ 1
free_flags false [] at = omega arith
free_flags false (e ∷ es) at = omega arith
free_flags true q at = absurd (let x = (at.asked_taken refl).0.1 in cc)

pub word_is_valid : WordsAreValid
word_is_valid c n run sixteen = go (c.owner n) refl ((reached_is_lawful c run).base.owners.at n)
  where
    stamps_fit : (s : ℕ) → c.stamp s < 2 ^ 56
    stamps_fit s = let x = (reached_is_lawful c run).base.stamps.below s in let y = few_stamps c run in omega arith

    go : (o : Holder) → c.owner n ≡ o → OwnerAt o (c.asked n) (c.queue n) →
        IsValid (word_from c o (c.asked n) (c.queue n))
    go Nobody is at = record {
      seating = (refl, free_flags (c.asked n) (c.queue n) at);
      stamp = omega arith;
      flags = word_flags Nobody (c.asked n) (c.queue n) at;
    }
    go (Taken s) is at = let z = owners_are_seats c run n s (inl is) in record {
      seating = omega arith;
      stamp = stamps_fit s;
      flags = word_flags (Taken s) (c.asked n) (c.queue n) at;
    }
    go (Handed s) is at = let z = owners_are_seats c run n s (inr is) in record {
      seating = omega arith;
      stamp = stamps_fit s;
      flags = word_flags (Handed s) (c.asked n) (c.queue n) at;
    }

-- a valid owner whose number was found is what the word tells
pub found_is : WordsAreTold
found_is c n o run sixteen valid same = packing_is_injective o (word_of c n) valid (word_is_valid c n run sixteen) same

-- ---- of a table with any number of seats

-- the words have room for each seat with its stamp
abbrev pub HaveRoom : State → Type 0
HaveRoom c = (s : ℕ) → s < c.seats → wide.Fits s (c.stamp s)

pub wide_word_is_valid : (c : State) (n : ℕ) → Reached c → HaveRoom c → wide.IsValid (word_of c n)
wide_word_is_valid c n run room = go (c.owner n) refl ((reached_is_lawful c run).base.owners.at n)
  where
    go : (o : Holder) → c.owner n ≡ o → OwnerAt o (c.asked n) (c.queue n) →
        wide.IsValid (word_from c o (c.asked n) (c.queue n))
    go Nobody is at = record {
      seating = (refl, free_flags (c.asked n) (c.queue n) at);
      flags = word_flags Nobody (c.asked n) (c.queue n) at;
    }
    go (Taken s) is at = record {
      seating = room s (owners_are_seats c run n s (inl is));
      flags = word_flags (Taken s) (c.asked n) (c.queue n) at;
    }
    go (Handed s) is at = record {
      seating = room s (owners_are_seats c run n s (inr is));
      flags = word_flags (Handed s) (c.asked n) (c.queue n) at;
    }

pub wide_found_is : (c : State) (n : ℕ) (o : Owner) → Reached c → HaveRoom c → wide.IsValid o →
    wide.packed o ≡ wide.packed (word_of c n) → o ≡ word_of c n
wide_found_is c n o run room valid same =
    wide_words.packing_is_injective o (word_of c n) valid (wide_word_is_valid c n run room) same
