use Rattle.trace_events.proofs.Common.{◌≡◌, ◌++◌, drop, string_bytes, heard_text}
use Rattle.trace_events.proofs.texts.text_of.Given as goal

-- With the bytes that are left, all bytes are written.
abbrev pub invariant-loop-byte : goal.invariant-loop-byte
invariant-loop-byte l = string_bytes l.text ++ heard_text (drop l.byte-index l.bytes) ≡ heard_text l.bytes
