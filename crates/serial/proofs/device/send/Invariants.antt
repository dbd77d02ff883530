use Rattle.std.proofs.Common.{◌≡◌, false, take}
use Rattle.proc_chain.specs.Handles.{turn_of, view_of, IsEndOf}
use Rattle.serial.specs.Notes.{notes_for}
use Rattle.serial.specs.Sent.{HasSent}
use Rattle.serial.proofs.device.send.Given as goal

abbrev pub invariant-loop-byte : goal.invariant-loop-byte
invariant-loop-byte g l = IsEndOf l.chain l.end × (turn_of l.end ≡ false)
    × HasSent (notes_for l.port (take l.byte-index l.bytes)) (view_of l.fn.end) (view_of l.end)
