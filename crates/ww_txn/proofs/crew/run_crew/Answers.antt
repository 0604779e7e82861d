use Rattle.std.proofs.Common.{◌∙◌}
use Rattle.ww_txn.specs.Crew.{opening}
use Rattle.ww_txn.proofs.Crews.{worked_of, can_work, came_back, all_there, history_meets}
use Rattle.ww_txn.proofs.crew.run_crew.Goals as goal

pub work_all-requires-after_bounds : goal.work_all-requires-after_bounds
work_all-requires-after_bounds g c = λ κs within.
    can_work g.F.Fn c.args.work.now (opening c.args.kind c.args.graph c.args.passes c.args.budget) _ c.in-Ok.fresh.items
    c.in-Ok.ensures.ok c.in-Ok.ensures.kind c.requires.work

pub close-requires-clause-home : goal.close-requires-clause-home
close-requires-clause-home g c =
    let o = opening c.args.kind c.args.graph c.args.passes c.args.budget in
    let crew = worked_of g.F.Fn c.args.work.now o _ c.in-Ok.fresh.items _ _ _ c.in-Ok.ensures.ok c.in-Ok.ensures.kind
    c.in_ok-worked.ensures c.in_ok-passes.ensures in
    (came_back g.F.Fn c.args.work.now o c.in-Ok.world 0 _ _ c.requires.back crew.0).0

pub close-requires-clause-there : goal.close-requires-clause-there
close-requires-clause-there g c =
    let o = opening c.args.kind c.args.graph c.args.passes c.args.budget in
    let crew = worked_of g.F.Fn c.args.work.now o _ c.in-Ok.fresh.items _ _ _ c.in-Ok.ensures.ok c.in-Ok.ensures.kind
    c.in_ok-worked.ensures c.in_ok-passes.ensures in
    all_there c.in-Ok.world.passes c.in_ok-passes.passes.items crew.1
    (came_back g.F.Fn c.args.work.now o c.in-Ok.world 0 _ _ c.requires.back crew.0).1

pub returns-clause-worked : goal.returns-clause-worked
returns-clause-worked g c =
    let o = opening c.args.kind c.args.graph c.args.passes c.args.budget in
    let crew = worked_of g.F.Fn c.args.work.now o _ c.in-Ok.fresh.items _ _ _ c.in-Ok.ensures.ok c.in-Ok.ensures.kind
    c.in_ok-worked.ensures c.in_ok-passes.ensures in
    record {
      world = c.in-Ok.world;
      backs = c.in_ok-passes.passes.items;
      count = crew.1 ∙ c.in-Ok.ensures.ok.count;
      worked = crew.0;
      closed = c.in_ok-history.ensures;
    }

pub returns-clause-records : goal.returns-clause-records
returns-clause-records g c = λ test leaves.
    let o = opening c.args.kind c.args.graph c.args.passes c.args.budget in
    let crew = worked_of g.F.Fn c.args.work.now o _ c.in-Ok.fresh.items _ _ _ c.in-Ok.ensures.ok c.in-Ok.ensures.kind
    c.in_ok-worked.ensures c.in_ok-passes.ensures in
    history_meets g.F.Fn c.args.work.now o c.in-Ok.world test c.in_ok-passes.passes.items _ c.in_ok-history.history
    c.requires.back leaves crew.0 c.in_ok-history.ensures
