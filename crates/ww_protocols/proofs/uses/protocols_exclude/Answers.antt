use Rattle.ww_protocols.proofs.Applied as kept
use Rattle.ww_protocols.proofs.uses.protocols_exclude.Goals as goal

pub returns : goal.returns
returns c = record {
  writers = kept.writers_are_alone c.writers_exclude_readers.ensures c.writers_exclude_writers.ensures;
  users = kept.users_are_alone c.seats_have_one_user.ensures;
  copies = kept.no_copy_wins_later c.copies_win_once.ensures;
  threads = kept.threads_wait_for_busy_seats c.no_seat_is_lost.ensures;
  tasks = kept.tasks_wait_for_busy_seats c.no_seat_is_lost.ensures;
}
