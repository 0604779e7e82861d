use Rattle.ww_model.proofs.Kept.{reached_is_lawful}
use Rattle.ww_model.proofs.Rings.{cycles_are_condemned, cycles_are_of_contexts}
use Rattle.ww_table_laws.proofs.laws.ruled_is_lawful.Goals as goal

pub returns : goal.returns
returns c = λ key s r. let lawful = reached_is_lawful r.core r.reached in
    record {
      lawful = lawful;
      condemned = cycles_are_condemned r.core lawful;
      contexts = cycles_are_of_contexts r.core lawful;
    }
