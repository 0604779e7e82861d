-- What a contract sees of a core, and what a step does to it.
use Rattle.ww_model.specs.declared.state.Core.TheInside.{Inside}
use Rattle.ww_model.specs.Snapshot.{Snapshot}

-- the fields as plain lists
abbrev pub snapshot_of : Inside → Snapshot
snapshot_of c = record {
  kind = c.kind;
  drawn = c.drawn;
  commits = c.commits;
  stamps = c.stamps.items;
  signs = c.signs.items;
  owners = c.owners.items;
  asked = c.asked.items;
  queues = c.queues.items;
  guards = c.guards.items;
  cancels = c.cancels.items;
  heeded = c.heeded.items;
}
