-- What the acts of a script are told.
use Rattle.std.specs.Prelude.{ℕ, Bool}
use Rattle.ww_plain.specs.Meaning.{Answer, answer_of}
use Rattle.ww_outcome.specs.declared.outcome.ScriptAnswer.{ScriptAnswer}
use Rattle.ww_outcome.specs.declared.outcome.ScriptAnswer.TheVariants.{Reply, Already, Interrupted, Cancel}

-- a `ScriptAnswer`, with a list where that has a vector
pub data Said : Type 0 where
  answered : Answer → Said
  already : ℕ → Said
  interrupted : ℕ → Said
  cancelling : Bool → Said

-- what an answer says
abbrev pub said_of : ScriptAnswer → Said
said_of (Reply reply) = answered (answer_of reply)
said_of (Already node) = already node
said_of (Interrupted script) = interrupted script
said_of (Cancel is_set) = cancelling is_set
