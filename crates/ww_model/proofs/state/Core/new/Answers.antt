use Rattle.std.proofs.Common.{rules}
use Rattle.ww_model.proofs.Starts.{made}
use Rattle.ww_model.proofs.state.Core.new.Goals as goal

pub invariant_of-result : goal.invariant_of-result
invariant_of-result c = (made c.args.kind c.args.locks c.args.seats c.in_ok-vec.field-0.items
    c.in_ok-vec-2.field-0.items c.in_ok-vec-3.field-0.items c.in_ok-vec-4.field-0.items
    c.in_ok-empty_queues.field-0.items c.in_ok-vec-5.field-0.items c.in_ok-vec-6.field-0.items
    c.in_ok-vec-7.field-0.items
    (c.in_ok-vec.ensures.items_if_clones_equal (λ y is. is))
    (c.in_ok-vec-2.ensures.items_if_clones_equal (λ y is. is))
    (c.in_ok-vec-3.ensures.items_if_clones_equal (λ y is. is))
    (c.in_ok-vec-4.ensures.items_if_clones_equal (λ y is. is)) c.in_ok-empty_queues.ensures
    (c.in_ok-vec-5.ensures.items_if_clones_equal (search rules))
    (c.in_ok-vec-6.ensures.items_if_clones_equal (λ y is. is)) (c.in_ok-vec-7.ensures.items_if_clones_equal (λ y is. is))
    c.requires.some_lock c.requires.locks c.requires.some_seat c.requires.seats).core

pub returns-clause-reached : goal.returns-clause-reached
returns-clause-reached c = (made c.args.kind c.args.locks c.args.seats c.in_ok-vec.field-0.items
    c.in_ok-vec-2.field-0.items c.in_ok-vec-3.field-0.items c.in_ok-vec-4.field-0.items
    c.in_ok-empty_queues.field-0.items c.in_ok-vec-5.field-0.items c.in_ok-vec-6.field-0.items
    c.in_ok-vec-7.field-0.items
    (c.in_ok-vec.ensures.items_if_clones_equal (λ y is. is))
    (c.in_ok-vec-2.ensures.items_if_clones_equal (λ y is. is))
    (c.in_ok-vec-3.ensures.items_if_clones_equal (λ y is. is))
    (c.in_ok-vec-4.ensures.items_if_clones_equal (λ y is. is)) c.in_ok-empty_queues.ensures
    (c.in_ok-vec-5.ensures.items_if_clones_equal (search rules))
    (c.in_ok-vec-6.ensures.items_if_clones_equal (λ y is. is)) (c.in_ok-vec-7.ensures.items_if_clones_equal (λ y is. is))
    c.requires.some_lock c.requires.locks c.requires.some_seat c.requires.seats).core.reached

pub returns-clause-state : goal.returns-clause-state
returns-clause-state c = (made c.args.kind c.args.locks c.args.seats c.in_ok-vec.field-0.items
    c.in_ok-vec-2.field-0.items c.in_ok-vec-3.field-0.items c.in_ok-vec-4.field-0.items
    c.in_ok-empty_queues.field-0.items c.in_ok-vec-5.field-0.items c.in_ok-vec-6.field-0.items
    c.in_ok-vec-7.field-0.items
    (c.in_ok-vec.ensures.items_if_clones_equal (λ y is. is))
    (c.in_ok-vec-2.ensures.items_if_clones_equal (λ y is. is))
    (c.in_ok-vec-3.ensures.items_if_clones_equal (λ y is. is))
    (c.in_ok-vec-4.ensures.items_if_clones_equal (λ y is. is)) c.in_ok-empty_queues.ensures
    (c.in_ok-vec-5.ensures.items_if_clones_equal (search rules))
    (c.in_ok-vec-6.ensures.items_if_clones_equal (λ y is. is)) (c.in_ok-vec-7.ensures.items_if_clones_equal (λ y is. is))
    c.requires.some_lock c.requires.locks c.requires.some_seat c.requires.seats).state
