use Rattle.boot_log.proofs.Common.{◌≡◌, ◌++◌, ◌+◌, take, length, vec_capacity, bytes_of}
use Rattle.boot_log.proofs.parts.append_line.Given as goal

-- The bytes that were there, and then those of the items so far. The room is the same.
abbrev pub invariant-loop-item : goal.invariant-loop-item
invariant-loop-item l = record {
  bytes : l.bytes.items ≡ l.initial.bytes.items ++ bytes_of (take l.item-index l.line);
  len : length l.bytes.items ≡ length l.initial.bytes.items + l.item-index;
  room : vec_capacity l.bytes ≡ vec_capacity l.initial.bytes;
}
