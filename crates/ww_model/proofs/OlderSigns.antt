-- Each event keeps every sign that of an older context.
use Rattle.std.proofs.Common.{◌+◌, ◌<◌, sym, ap, subst, arith}
use Rattle.ww_model.specs.declared.event.Event.TheVariants.{Begin, Clear, Sign, End}
use Rattle.ww_model.specs.State.{place_of}
use Rattle.ww_model.specs.Lawful.{OlderSigns, Keeps}
use Rattle.ww_model.proofs.Puts.{put_cases}
use Rattle.ww_model.proofs.Dues.{owed_older, sign_for, sign_owed}

pub keeps_older_signs : Keeps (λ c. OlderSigns c.stamp c.sign)
keeps_older_signs c (Begin s) can l = λ t h. put_cases c.stamp s (c.drawn + 1) t (λ x. c.sign t < x)
    (λ is. let z = l.signs.older_signs t h in let y = l.base.stamps.below t in omega arith) (λ _. l.signs.older_signs t h)
keeps_older_signs c (End s) can l = λ t h. put_cases c.stamp s 0 t (λ x. c.sign t < x)
    (λ is. let z = ap c.sign is in let y = can.signs in absurd (omega arith)) (λ _. l.signs.older_signs t h)
keeps_older_signs c (Clear s) can l = λ t. put_cases c.sign s 0 t (λ x. 0 < x → x < c.stamp t)
    (λ is h. absurd (omega arith)) (λ _. l.signs.older_signs t)
keeps_older_signs c (Sign s v) can l = λ t. put_cases c.sign v (sign_for c s v) t (λ x. 0 < x → x < c.stamp t)
    (λ is _. subst (λ x. sign_for c s v < c.stamp x) (sym is)
    (owed_older c s (place_of c s) v (sign_for c s v) l.base (sign_owed c s v can.signs.owed)).1) (λ _. l.signs.older_signs t)
keeps_older_signs c _ can l = l.signs.older_signs
