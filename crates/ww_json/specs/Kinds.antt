-- How an input names the kind of its locks.
use Rattle.std.specs.Prelude.{codes, bytes_eq, Result, Ok, Err, if◌then◌else◌}
use Rattle.serde_json.specs.Data.{Data}
use Rattle.ww_queue.specs.declared.kind.Kind.{Kind}
use Rattle.ww_queue.specs.declared.kind.Kind.TheVariants.{WoundWait, WaitDie}
use Rattle.ww_json.specs.declared.fault.InputFault.{InputFault}
use Rattle.ww_json.specs.declared.fault.InputFault.TheVariants.{BadWord}
use Rattle.ww_json.specs.Parts.{◌>>=◌, text}

-- a word for the kind
unfoldable pub kind_in : Data → Result Kind InputFault
kind_in d = do
  word ← text d
  if bytes_eq word (codes "wound-wait") then Ok WoundWait
      else if bytes_eq word (codes "wait-die") then Ok WaitDie
      else Err BadWord
