use Rattle.std.proofs.Common.{arith}
use Rattle.ww_run.proofs.Bytes.{appends_then_drop}
use Rattle.ww_run.proofs.streams.write_out.Goals as goal

pub loop-at-preserved : goal.loop-at-preserved
loop-at-preserved g c =
    let held = g.W.Write.contents in
    record {
      within = omega (arith, c.in_ok-n.ensures.bound, c.split_at.ensures.back_len);
      written = appends_then_drop (held c.args.writer.now) (held c.loop-at.writer)
          (held c.write.new.self) c.loop-at.at c.in_ok-n.n c.args.bytes.now c.split_at.result.1.now
          c.split_at.ensures.back c.loop-at.invariant.written c.in_ok-n.ensures.bytes;
    }
