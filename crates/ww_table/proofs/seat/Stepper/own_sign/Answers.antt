use Rattle.std.proofs.Common.{arith, refl}
use Rattle.ww_invariant.proofs.InsideSteps.{reads, read_is}
use Rattle.ww_table.proofs.Seated.{stepped, has_sign, own_sign_by_view}
use Rattle.ww_table.proofs.seat.Stepper.own_sign.Goals as goal

pub load-requires : goal.load-requires
load-requires c = let s = c.requires.at in (
  s.home,
  has_sign c.args.board.now c.args.self.now c.args.self.now.who _ s s.few (let word = s.sign in omega arith),
  reads _ _ _ _ s.seated _ (own_sign_by_view s),
)

pub returns : goal.returns
returns c = let s = c.requires.at in let e = c.load.ensures in let told = e.2 (own_sign_by_view s) in
    let r = read_is 0 c.args.self.now.sign c.args.self.now.seat.me c.load.new.seat.me c.load.result (own_sign_by_view s) e.2 in
    let v = c.args.self.now.seat.me.0 in record {
      seat = stepped _ s e.0 r.5 (λ i. (
        record {
          seated = v.seated;
          kind = (r.1 i).0;
          who = r.2 i;
          room = (r.1 i).1.0;
          seats = (r.1 i).1.1;
          stamp = r.3 i;
          own = v.part.own;
          idle = v.idle;
        },
        r.4 i,
      ));
      records = refl;
      signed = told.0;
      quiet = told.1;
      unsigned = told.2;
    }
