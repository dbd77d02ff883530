use Rattle.std.proofs.Common.{◌≡◌, ◌++◌, ◌+◌, take, length, vec_capacity}
use Rattle.boot_data.specs.Hearing.{bytes_of}
use Rattle.boot_data.proofs.heard.HeardLines.push.Given as goal

-- The bytes that were there, and then those of the items so far; nothing else changes.
abbrev pub invariant-loop-item : goal.invariant-loop-item
invariant-loop-item l = record {
  bytes : l.self-inside.bytes.list.items ≡ l.initial.self-inside.bytes.list.items ++ bytes_of (take l.item-index l.items);
  len : length l.self-inside.bytes.list.items ≡ l.begin + l.item-index;
  capacity : vec_capacity l.self-inside.bytes.list ≡ vec_capacity l.initial.self-inside.bytes.list;
  marks : l.self-inside.marks ≡ l.initial.self-inside.marks;
  room : l.self-inside.room ≡ l.initial.self-inside.room;
  longest : l.self-inside.longest ≡ l.initial.self-inside.longest;
}
