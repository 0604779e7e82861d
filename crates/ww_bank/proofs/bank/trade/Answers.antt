use Rattle.std.proofs.Common.{ap, ◌∙◌, rules}
use Rattle.ww_plain.specs.History.{history_of}
use Rattle.ww_plain.specs.Totals.{total_of, is_move}
use Rattle.ww_plain.proofs.Totals.{moves_keep}
use Rattle.ww_bank.proofs.bank.trade.Goals as goal

pub returns : goal.returns
returns g c =
    let told = c.in_ok-history.ensures in
    let moves = told.records (λ r. is_move r.transaction) (λ w s r begins given. search rules) in
    ap total_of told.history.ends
    ∙ moves_keep c.args.accounts (history_of c.in_ok-history.history.records.items) told.history.legal moves
