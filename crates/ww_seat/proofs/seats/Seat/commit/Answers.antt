use Rattle.std.proofs.Common.{rules, ◌≡◌, ℕ, ◌<◌, true, List, length, ap, sym, subst, ◌∙◌, refl}
use Rattle.std.specs.Prelude.{vec_capacity}
use Rattle.std.specs.Global.{Vec}
use Rattle.ww_plain.specs.declared.history.Record.{Record}
use Rattle.ww_invariant.specs.declared.cells.Sight.{Sight}
use Rattle.ww_seat.specs.Accounts.{Account}
use Rattle.std.specs.List.{AllByRecursion}
use Rattle.ww_plain.specs.declared.node.Node.{Node}
use Rattle.ww_plain.specs.Footprint.{footprint_of}
use Rattle.ww_plain.specs.Transaction.{transaction_of}
use Rattle.ww_plain.specs.Meaning.{graph_after}
use Rattle.ww_view.specs.View.{owns}
use Rattle.ww_invariant.specs.Rule.{Sat}
use Rattle.ww_invariant.proofs.Fits.{place_low}
use Rattle.ww_invariant.proofs.Places.{renewed_long}
use Rattle.ww_table.specs.Seat.{size_of}
use Rattle.ww_seat.specs.declared.committing.NodeChange.{NodeChange}
use Rattle.ww_seat.specs.Standings.{Standing, standing_of, IsCommit}
use Rattle.ww_seat.proofs.Changes.{may_commit, may_place, all_change, start_orderly, end_orderly, has_committed, still_away, less_room}
use Rattle.ww_seat.proofs.Kept.{kept, seated_at, orderly_at}
use Rattle.ww_seat.proofs.Naps.{out_by}
use Rattle.ww_seat.proofs.seats.Seat.commit.Goals as goal

pub place-place-requires-clause-may : goal.place-place-requires-clause-may
place-place-requires-clause-may c = let b = c.args.board.now in let q = c.self.inside.seat in let graph = c.args.before.now.value in
    let may = may_commit q c.self.view_is c.requires.may in (
      may_place c.args.done (orderly_at c.self.view_is c.self.invariant c.requires.at)
          may.next may.size may.held may.away may.owner may.caller may.seq may.fewer,
      search rules,
    )

pub change-requires-clause-may : goal.change-requires-clause-may
change-requires-clause-may c = let b = c.args.board.now in let q = c.self.inside.seat in let graph : List Node = c.args.before.now.value in
    let may = may_commit q c.self.view_is c.requires.may in
    let t = transaction_of c.args.done.txn in let m : Sat = c.place-place.new.self.seat.me in
    let o = orderly_at c.self.view_is c.self.invariant c.requires.at in record {
      changes_are = (graph, graph_after graph t, footprint_of graph t, may.changes_are);
      out = (
        q.seat.me.0.held,
        start_orderly c.args.done o may.next may.size may.held c.place-place.result m c.place-place.ensures.placed,
      );
      owned = subst (AllByRecursion (λ (x : NodeChange). (x.number < size_of b) × (owns m.0.part.core x.number ≡ true))) (sym may.changes_are)
          (all_change (λ n. (n < size_of b) × (owns m.0.part.core n ≡ true)) graph (graph_after graph t) (footprint_of graph t) (λ n e. (
            subst (λ (k : ℕ). n < k) o.held (place_low q.seat.me.0.held n _ (may.held n e).1),
            ap (λ (z : Sat). owns z.0.part.core n) c.place-place.ensures.placed ∙ (may.held n e).0,
          )));
    }

pub invariant_of-self : goal.invariant_of-self
invariant_of-self c = let b = c.args.board.now in let q = c.self.inside.seat in let graph = c.args.before.now.value in
    let may = may_commit q c.self.view_is c.requires.may in
    let o = orderly_at c.self.view_is c.self.invariant c.requires.at in let t = transaction_of c.args.done.txn in
    kept c.change.ensures.same.seat (end_orderly c.args.done o may.next may.size may.held c.place-place.result
    c.place-place.new.self.seat.me c.change.new.seat.seat.me c.place-place.ensures.placed c.change.ensures.changed.view
    (c.change.ensures.changed.changed q.seat.me.0.held graph (graph_after graph t) (footprint_of graph t) may.changes_are
    (start_orderly c.args.done o may.next may.size may.held c.place-place.result c.place-place.new.self.seat.me c.place-place.ensures.placed)))

pub returns : goal.returns
returns c = let b = c.args.board.now in let q = c.self.inside.seat in let q' = c.change.new.seat in let graph = c.args.before.now.value in
    let may = may_commit q c.self.view_is c.requires.may in
    let o = orderly_at c.self.view_is c.self.invariant c.requires.at in
    let place = c.place-place.result in let m1 = c.place-place.new.self.seat.me in
    let view = c.change.ensures.changed.view ∙ ap (λ (z : Sat). z.0) c.place-place.ensures.placed in
    let done = has_committed c.args.done o may.next may.size may.held place m1 q'.seat.me
    c.place-place.ensures.placed c.change.ensures.changed.view c.place-place.ensures.above in
    subst (λ (s : Standing). IsCommit s c.args.done graph place (standing_of q')) c.self.view_is (record {
      now = less_room place c.args.done (seated_at c.self.view_is c.self.invariant c.requires.at) c.change.ensures.same.seat
          (ap (λ (a : Account). a.own) done.now)
          (ap (λ (v : Vec (ℕ × Record)). vec_capacity v) c.change.ensures.same.records ∙ c.place-place.ensures.capacity);
      size = ap (λ (z : Sight). length z.held) view ∙ renewed_long 0 q.seat.me.0.held _;
      away = still_away c.args.done o may.next may.size may.held place m1 q'.seat.me
          c.place-place.ensures.placed c.change.ensures.changed.view may.away;
      out = out_by view (record { attempts = refl; debts = refl; naps = refl; deaf = refl });
      committed = done;
    })
