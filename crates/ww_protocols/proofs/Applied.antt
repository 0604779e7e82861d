-- What theorems come to: each lemma takes theorems, and gives a sentence of specs/Uses by them.
use Rattle.std.proofs.Common.{⊎_elim, inl, inr, sym, ap, ◌∙◌}
use Rattle.std.proofs.lemmas.Bool.{cases_Bool}
use Rattle.ww_protocols.specs.Readers.{WritersExcludeReaders, WritersExcludeWriters}
use Rattle.ww_protocols.specs.Seats.{SeatsHaveOneUser, CopiesWinOnce, NoSeatIsLost}
use Rattle.ww_protocols.specs.Uses.{WritersAreAlone, UsersAreAlone, NoCopyWinsLater, ThreadsWaitForBusySeats, TasksWaitForBusySeats}

pub writers_are_alone : WritersExcludeReaders → WritersExcludeWriters → WritersAreAlone
writers_are_alone readers writers l h reached w c m = λ other writes. (
  λ reads. other (sym (readers l h reached w c m writes reads)),
  ⊎_elim (λ too. absurd (other (sym (writers l h reached w c m writes too)))) (λ not. not) (cases_Bool (h.writes c m)),
)

pub users_are_alone : SeatsHaveOneUser → UsersAreAlone
users_are_alone law c reached s t u = λ other uses.
    ⊎_elim (λ too. absurd (other (law c reached s u t too uses))) (λ not. not) (cases_Bool ((c.seat s).user u))

pub no_copy_wins_later : CopiesWinOnce → NoCopyWinsLater
no_copy_wins_later law c later reached t s ticket u r = λ first between second. law (record {
  class_ = c;
  later = later;
  ticket = ticket;
  t = t;
  s = s;
  u = u;
  r = r;
  reached = reached;
  first = first;
  between = between;
  second = second;
})

pub threads_wait_for_busy_seats : NoSeatIsLost → ThreadsWaitForBusySeats
threads_wait_for_busy_seats law c reached rest t s = λ waits low anybodys. ⊎_elim (λ busy. busy)
    (λ free. absurd ((law c reached rest s low (free, anybodys)).no_due t waits)) (cases_Bool (c.seat s).busy)

pub tasks_wait_for_busy_seats : NoSeatIsLost → TasksWaitForBusySeats
tasks_wait_for_busy_seats law c reached rest t s = λ waits uncalled low may anybodys. ⊎_elim inl
    (λ free. let other = (law c reached rest s low (free, anybodys)).is_called t (waits, uncalled) may in
    inr (other.0, (λ same. let none = sym uncalled ∙ ap c.call (sym same) ∙ other.2 in cc), other.1, other.2)) (cases_Bool (c.seat s).busy)
