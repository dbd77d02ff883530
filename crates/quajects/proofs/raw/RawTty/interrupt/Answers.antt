use Rattle.std.proofs.Common.{[], ◌∷◌}
use Rattle.quajects.proofs.Answered.{put_byte, byte_lines}
use Rattle.quajects.proofs.raw.RawTty.interrupt.Goals as goal

pub returns-clause-put : goal.returns-clause-put
returns-clause-put g c = put_byte _ _ c.args.byte _ _ c.is_ok-put.ensures.value c.put.ensures.trace

pub returns-clause-effect : goal.returns-clause-effect
returns-clause-effect g c = byte_lines _ _ (c.args.byte ∷ []) _ _ c.is_ok-put.ensures.value c.put.ensures.effect
