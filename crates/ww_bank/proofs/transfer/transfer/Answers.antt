use Rattle.std.proofs.Common.{◌≡◌, ◌≢◌, [], ◌∷◌, false, refl, ℕ, arith}
use Rattle.std.proofs.lemmas.Grind.{common_steps}
use Rattle.ww_plain.specs.Numbers.{is_among}
use Rattle.ww_plain.proofs.Members.{different_cons, different_none}
use Rattle.ww_bank.proofs.transfer.transfer.Goals as goal

not_alone : (n m : ℕ) → n ≢ m → is_among n (m ∷ []) ≡ false
not_alone n m other = grind (arith, common_steps)

pub prepare-requires-clause-no_double : goal.prepare-requires-clause-no_double
prepare-requires-clause-no_double g c =
    let requires = c.requires in
    different_cons c.args.from (c.args.to ∷ []) (not_alone c.args.from c.args.to requires.different)
    (different_cons c.args.to [] refl different_none)
