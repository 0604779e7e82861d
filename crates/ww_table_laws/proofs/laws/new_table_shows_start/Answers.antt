use Rattle.std.proofs.Common.{refl, ◌∙◌}
use Rattle.ww_table.proofs.Making.{opens_made, opens_made_start}
use Rattle.ww_table_laws.proofs.One.{core_is_one, log_is_one}
use Rattle.ww_table_laws.proofs.laws.new_table_shows_start.Goals as goal

-- the rule was proved of it with the start, and tells no other
pub returns : goal.returns
returns c = λ key slots some few size many fits graph are. let made =
    opens_made key _ slots refl some few size many fits graph are in
    let start = opens_made_start key _ slots refl some few size many fits graph are in
    (made, λ r. (core_is_one key _ r made ∙ start.0, log_is_one key _ r made ∙ start.1))
