use Rattle.ww_outcome.specs.Text.{place_line}
use Rattle.ww_json.proofs.Numbered.{numbered_at}
use Rattle.ww_outcome.proofs.text.push_places.Goals as goal

pub loop-place-preserved : goal.loop-place-preserved
loop-place-preserved c =
    numbered_at place_line c.args.places.now c.loop-place.place _ _ _ _ c.loop-place-test.true
    c.loop-place.invariant c.in_ok-push_place_line.ensures
