use Rattle.std.proofs.Common.{ℕ, ◌≡◌, ◌∙◌, [], ◌++◌, sym, ap, length, take, get_or, length-take, append-nil, false, Option, Some, None, lit<, arith}
use Rattle.std.specs.List.{filter_map, cons_option}
use Rattle.ww_queue.specs.declared.entry.Entry.{Entry}
use Rattle.ww_queue.specs.Rules.{owed_deaths, owed_death}
use Rattle.ww_queue.proofs.Members.{length-filter_map, filter_map_more}
use Rattle.ww_queue.proofs.rules.owed_deaths.Goals.{in-Some, in_default}
use Rattle.ww_queue.proofs.rules.owed_deaths.Goals as goal

blank : Entry
blank = record { seat = 0; stamp = 0; holds = false }

pub push-requires : goal.push-requires
push-requires c =
    let i = c.loop-waiter.waiter-index in
    let pair_of : Entry → Option (ℕ × ℕ) = λ e. owed_death c.args.owner c.args.queue.now c.args.me e.seat in
    let front : length c.loop-waiter.owed.items
    ≡ length (owed_deaths c.args.owner c.args.queue.now c.args.me (take i c.args.queue.now)) =
    ap length c.loop-waiter.invariant in
    let few = length-filter_map pair_of (take i c.args.queue.now) in
    let taken = length-take i c.args.queue.now in
    (lit< tt, omega arith)

pub loop-waiter-preserved : goal.loop-waiter-preserved
unfolding blank
loop-waiter-preserved c =
    let i = c.loop-waiter.waiter-index in
    let all = c.args.queue.now in
    let pair_of : Entry → Option (ℕ × ℕ) = λ e. owed_death c.args.owner all c.args.me e.seat in
    let same : length all ≡ length c.entries-waiter-items.result.now = ap length (sym c.entries-waiter-items.ensures.entries) in
    let more = filter_map_more pair_of all i blank (omega arith) in
    elim c.match-owed_death.branch [
      | in-Some w ↦
          let is : c.owed_death.result ≡ Some w.in-Some.pair = w.in-Some.is in
          let here : pair_of (get_or all i blank) ≡ Some w.in-Some.pair = cc in
          let one_more = more ∙ ap (λ o. filter_map pair_of (take i all) ++ cons_option o []) here in cc
      | in_default w ↦
          let is : c.owed_death.result ≡ None = w.in_default.is in
          let here : pair_of (get_or all i blank) ≡ None = cc in
          let no_more = more ∙ ap (λ o. filter_map pair_of (take i all) ++ cons_option o []) here
          ∙ append-nil (filter_map pair_of (take i all)) in cc
    ]
