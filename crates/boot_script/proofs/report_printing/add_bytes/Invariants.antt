use Rattle.boot_script.proofs.Common.{◌≡◌, ◌++◌, drop, heard_text}
use Rattle.boot_script.proofs.report_printing.add_bytes.Given as goal

-- With the bytes that are left, all bytes are added.
abbrev pub invariant-loop-byte : goal.invariant-loop-byte
invariant-loop-byte l = l.room.items ++ heard_text (drop l.byte-index l.bytes) ≡ l.fn.room.items ++ heard_text l.bytes
