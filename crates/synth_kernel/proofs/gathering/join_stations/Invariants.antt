use Rattle.synth_kernel.proofs.Common.{◌≡◌, ◌≤◌, ◌+◌, ◌++◌, map, flat_map, vec_len, vec_capacity, length, into_iter_items, into_iter_len, ArePartsOf, parts_of, gate_of, heard_lines, AllJoined, lines_of}
use Rattle.synth_kernel.proofs.gathering.join_stations.Given as goal

abbrev pub invariant-loop-one : goal.invariant-loop-one
invariant-loop-one g l = record {
  first : ArePartsOf l.shared l.first.parts;
  joined : AllJoined l.fn.first.parts (map parts_of l.yielded) l.first.parts;
  heard : flat_map lines_of l.heards.items ≡ flat_map heard_lines (map parts_of l.yielded);
  gates : l.gates.items ≡ map gate_of l.yielded;
  room : vec_len l.heards + into_iter_len l.one-iterator ≤ vec_capacity l.heards;
  gate_room : vec_len l.gates + into_iter_len l.one-iterator ≤ vec_capacity l.gates;
  parts : l.yielded ++ into_iter_items l.one-iterator ≡ l.fn.processed.items;
  left : into_iter_len l.one-iterator ≡ length (into_iter_items l.one-iterator);
}
