-- Each event keeps the owners in order.
use Rattle.std.proofs.Common.{◌≡◌, inl, inr, ⊎_elim, ℕ, true, false, refl, sym, ap, ◌∙◌, subst, arith, true≢false}
use Rattle.ww_queue.specs.declared.entry.Entry.{Entry}
use Rattle.ww_queue.specs.Queue.{Has, Stands, joined, left}
use Rattle.ww_queue.proofs.Joins.{joined_has, joined_old, joined_new}
use Rattle.ww_queue.proofs.Leaves.{left_has, left_gone, left_others}
use Rattle.ww_model.specs.declared.state.Holder.TheVariants.{Nobody, Taken}
use Rattle.ww_model.specs.declared.event.Event.TheVariants.{Fast, FastGive, Join, Take, Ask, Give, Die, Leave}
use Rattle.ww_model.specs.State.{State, put, HasOther, waiter_of}
use Rattle.ww_model.specs.Event.{given_to, still_asked}
use Rattle.ww_model.specs.Lawful.{OwnerAt, Owners, KeepsBase}
use Rattle.ww_model.proofs.Puts.{put_cases, puts_cases}
use Rattle.ww_model.proofs.Cancels.{kept_there}
use Rattle.ww_model.proofs.Holders.{not_empty, not_given, first_given, still, other_has}

-- a seat leaves a wait list, whose lock another has
departed : (c : State) (s n : ℕ) → HasOther c s n → Owners c.locks c.owner c.asked c.queue →
    Owners c.locks c.owner (put c.asked n (still_asked (left (c.queue n) s) (c.asked n))) (put c.queue n (left (c.queue n) s))
departed c s n other l = record {
  at = λ m. puts_cases c.queue c.asked n (left (c.queue n) s) (still_asked (left (c.queue n) s) (c.asked n)) m
      (λ q b. OwnerAt (c.owner m) b q)
      (λ is. record {
        handed_stands = λ t own. let r = (l.at n).handed_stands t (ap c.owner (sym is) ∙ own) in (
          r.0,
          left_others (c.queue n) s r.0
              (λ i. other_has (c.owner n) s t other (inr (ap c.owner (sym is) ∙ own)) (sym r.2 ∙ i)) r.1,
          r.2,
        );
        taken_stands_not = λ t own e h. (l.at n).taken_stands_not t (ap c.owner (sym is) ∙ own) e (left_has (c.queue n) s e h);
        asked_taken = λ b. let r = still (left (c.queue n) s) (c.asked n) b in (((l.at m).asked_taken (ap c.asked is ∙ r.0)).0, r.1);
      }) (λ _. l.at m);
  beyond = l.beyond;
}

pub keeps_owners : KeepsBase (λ c. Owners c.locks c.owner c.asked c.queue)
keeps_owners c (Fast s n) can l = record {
  at = λ m. put_cases c.owner n (Taken s) m (λ o. OwnerAt o (c.asked m) (c.queue m))
      (λ is. record {
        handed_stands = λ t own. absurd (cc);
        taken_stands_not = λ t own e h i. can.away.queue m e h (i ∙ let z : t ≡ s = cc in z);
        asked_taken = λ b. absurd (true≢false (sym b ∙ ap c.asked is ∙ can.idle.not_asked));
      }) (λ _. l.owners.at m);
  beyond = λ m range. put_cases c.owner n (Taken s) m (λ o. o ≡ Nobody)
      (λ is. let z = can.idle.lock in absurd (omega arith)) (λ _. l.owners.beyond m range);
}
keeps_owners c (FastGive s n) can l = record {
  at = λ m. put_cases c.owner n Nobody m (λ o. OwnerAt o (c.asked m) (c.queue m))
      (λ is. record {
        handed_stands = λ t own. absurd (cc);
        taken_stands_not = λ t own. absurd (cc);
        asked_taken = λ b. absurd (true≢false (sym b ∙ ap c.asked is ∙ can.not_asked));
      }) (λ _. l.owners.at m);
  beyond = λ m range. put_cases c.owner n Nobody m (λ o. o ≡ Nobody) (λ _. refl) (λ _. l.owners.beyond m range);
}
keeps_owners c (Join s n) can l = record {
  at = λ m. put_cases c.queue n (joined (c.queue n) (waiter_of c s)) m (λ q. OwnerAt (c.owner m) (c.asked m) q)
      (λ is. record {
        handed_stands = λ t own. let r = (l.owners.at n).handed_stands t (ap c.owner (sym is) ∙ own) in
            (r.0, joined_old (c.queue n) (waiter_of c s) r.0 r.1, r.2);
        taken_stands_not = λ t own e h i. ⊎_elim
            (λ x. other_has (c.owner n) s t can.other (inl (ap c.owner (sym is) ∙ own)) (sym i ∙ ap (λ (y : Entry). y.seat) x))
            (λ x. (l.owners.at n).taken_stands_not t (ap c.owner (sym is) ∙ own) e x i) (joined_has (c.queue n) (waiter_of c s) e h);
        asked_taken = λ b. (
          ((l.owners.at m).asked_taken b).0,
          not_empty (joined (c.queue n) (waiter_of c s))
              (waiter_of c s) (joined_new (c.queue n) (waiter_of c s)),
        );
      }) (λ _. l.owners.at m);
  beyond = l.owners.beyond;
}
keeps_owners c (Take s n) can l = record {
  at = λ m. put_cases c.asked n false m (λ b. OwnerAt (put c.owner n (Taken s) m) b (put c.queue n (left (c.queue n) s) m))
      (λ is. puts_cases c.owner c.queue n (Taken s) (left (c.queue n) s) m (λ o q. OwnerAt o false q)
      (λ _. record {
        handed_stands = λ t own. absurd (cc);
        taken_stands_not = λ t own e h i. left_gone (c.queue n) s (l.queues.at n).once e h (i ∙ let z : t ≡ s = cc in z);
        asked_taken = λ b. absurd (true≢false (sym b));
      }) (λ isnt. absurd (isnt is)))
      (λ isnt. puts_cases c.owner c.queue n (Taken s) (left (c.queue n) s) m (λ o q. OwnerAt o (c.asked m) q)
      (λ is. absurd (isnt is)) (λ _. l.owners.at m));
  beyond = λ m range. put_cases c.owner n (Taken s) m (λ o. o ≡ Nobody)
      (λ is. let z = can.inside.lock in absurd (omega arith)) (λ _. l.owners.beyond m range);
}
keeps_owners c (Ask s n) can l = record {
  at = λ m. put_cases c.asked n true m (λ b. OwnerAt (c.owner m) b (c.queue m))
      (λ is. record {
        handed_stands = (l.owners.at m).handed_stands;
        taken_stands_not = (l.owners.at m).taken_stands_not;
        asked_taken = λ _. (
          (can.other.0, ap c.owner is ∙ can.other.2),
          not_empty (c.queue m) can.first.0
              (subst (λ q. Has q can.first.0) (sym (ap c.queue is ∙ can.first.2)) (inl refl)),
        );
      }) (λ _. l.owners.at m);
  beyond = l.owners.beyond;
}
keeps_owners c (Give s n) can l = record {
  at = λ m. puts_cases c.owner c.asked n (given_to (c.asked n) (c.queue n)) false m (λ o b. OwnerAt o b (c.queue m))
      (λ is. record {
        handed_stands = λ t own. subst (λ x. Stands (c.queue x) t) (sym is) (first_given (c.asked n) (c.queue n) t own);
        taken_stands_not = λ t own. absurd (not_given (c.asked n) (c.queue n) t own);
        asked_taken = λ b. absurd (true≢false (sym b));
      }) (λ _. l.owners.at m);
  beyond = λ m range. put_cases c.owner n (given_to (c.asked n) (c.queue n)) m (λ o. o ≡ Nobody)
      (λ is. let z = can.inside.lock in absurd (omega arith)) (λ _. l.owners.beyond m range);
}
keeps_owners c (Die s n) can l = departed c s n can.other l.owners
keeps_owners c (Leave s n) can l = departed c s n (kept_there c l s n can) l.owners
keeps_owners c _ can l = l.owners
