use Rattle.std.proofs.Common.{rules, ◌≡◌, [], ◌∷◌, ◌++◌, sym, subst}
use Rattle.std.specs.List.{AllByRecursion}
use Rattle.ww_table.specs.Closed.{HasCome, IsGathered}
use Rattle.ww_invariant.proofs.Filling.{all_at}
use Rattle.ww_table.proofs.Closing.{gathered_one, gathered_all}
use Rattle.ww_table.proofs.close.gather.Goals as goal

pub returns : goal.returns
returns c = let whole : c.args.seats.items ≡ c.pop.new.self.items ++ c.in-Some.last ∷ [] = search rules in
    let came = all_at (HasCome c.args.shared.now.table_id) c.pop.new.self.items [] c.in-Some.last
    (subst (AllByRecursion (HasCome c.args.shared.now.table_id)) whole c.requires.come.1) in
    let one = gathered_one _ c.in-Some.last c.come-token.result c.args.places.now c.come-token.new.places came
    c.come-token.ensures.seat c.requires.room.1 c.come-token.ensures.put in let put = c.come-token.ensures.put in
    gathered_all _ c.args.seats.items c.pop.new.self.items c.in-Some.last _ _ _
    (subst (λ k. IsGathered c.args.shared.now.table_id (c.in-Some.last ∷ c.pop.new.self.items) k
    c.join_all.new.token c.join_all.new.places) put.size
    (c.join_all.ensures (c.in-Some.last ∷ [])
    (subst (λ k. IsGathered c.args.shared.now.table_id (c.in-Some.last ∷ []) k c.come-token.result
    c.come-token.new.places) (sym put.size) one))) whole
