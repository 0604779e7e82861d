use Rattle.std.proofs.Common.{◌∙◌, ◌≡◌, ◌<◌, [], true, ℕ, length, refl}
use Rattle.ww_plain.specs.Numbers.{is_among}
use Rattle.ww_plain.specs.Transaction.{get, add, move}
use Rattle.ww_plain.proofs.Members.{different_none, is_among-head}
use Rattle.ww_users.proofs.Alongs.{all_among}
use Rattle.ww_txn.proofs.Covering.{way_weaker, way_differs, different_one, all_mapped, ready}
use Rattle.ww_txn.proofs.ways.lock_all.Goals as goal

pub lock_by-requires-in-Add-clause-may : goal.lock_by-requires-in-Add-clause-may
lock_by-requires-in-Add-clause-may g c =
    let fits = (rw c.in-Add.is at c.requires.fits).1 in
    let below = all_mapped (λ n. n < length c.args.world.now.first) (λ (pair : ℕ × ℕ). pair.0) c.in-Add.amounts.items fits in
    record {
      home = c.requires.home;
      nodes = rw (c.deref-in-Add-2.ensures.0, c.nodes_of.ensures, c.deref-in-Add.ensures.value) below;
    }

pub returns-in-Get : goal.returns-in-Get
returns-in-Get g c = rw c.in-Get.is (way_weaker _ _ _ _ (λ a. ready (get c.in-Get.by c.in-Get.nodes.items) a refl)
    (rw c.deref.ensures.value at c.lock_by.ensures))

pub returns-in-Add : goal.returns-in-Add
returns-in-Add g c = rw c.in-Add.is (way_weaker _ _ _ _ (λ a. ready (add c.in-Add.by c.in-Add.amounts.items) a refl)
    (rw (c.deref-in-Add-2.ensures.0, c.nodes_of.ensures, c.deref-in-Add.ensures.value) at c.lock_by-in-Add.ensures))

pub returns-in-Move : goal.returns-in-Move
returns-in-Move g c = rw c.in-Move.is (way_weaker _ _ _ _
    (λ a h. ready (move c.in-Move.from c.in-Move.to c.in-Move.field-2) a refl h.0) c.lock_list_as.ensures)

pub returns-in-Link : goal.returns-in-Link
returns-in-Link g c = rw c.in-Link.is (way_weaker _ _ _ _
    (λ a h. (different_none, all_among (λ n. is_among n a.held ≡ true) _ (λ n e. h n ∙ e))) c.lock_link.ensures)

pub returns-in-Sum : goal.returns-in-Sum
returns-in-Sum g c = rw c.in-Sum.is (way_weaker _ _ _ _ (λ a h. (different_none, h)) c.lock_walk_as.ensures)

pub returns-in-Reverse : goal.returns-in-Reverse
returns-in-Reverse g c = rw c.in-Reverse.is (way_weaker _ _ _ _ (λ a h. (different_none, h)) c.lock_walk_as-in-Reverse.ensures)

pub returns-in-Peek : goal.returns-in-Peek
returns-in-Peek g c = rw c.in-Peek.is (way_weaker _ _ _ _
    (λ a h. (different_none, (h.0.0 c.in-Peek.node ∙ is_among-head c.in-Peek.node [], tt)))
    (way_differs _ _ _ _ _ (different_one c.in-Peek.node) c.lock_list_as-in-Peek.ensures))
