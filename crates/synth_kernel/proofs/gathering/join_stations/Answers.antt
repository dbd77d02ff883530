use Rattle.synth_kernel.proofs.Common.{◌≡◌, ◌++◌, [], append-nil, nil_from_length, Processed, ◌∷◌, map, flat_map, length, List, append_assoc, refl, rules, sym, ap, subst, ◌∙◌, arith, map-append, into_iter_items, Parts, ArePartsOf, parts_of, gate_of, heard_lines, AllJoined, lines_of}
use Rattle.std.proofs.lemmas.Grind.{flat_map-append}
use Rattle.synth_kernel.proofs.Sorting.{joined_more}
use Rattle.synth_kernel.proofs.Placing.{here}
use Rattle.synth_kernel.proofs.gathering.join_stations.Goals as goal

pub join_station-requires-clause-other : goal.join_station-requires-clause-other
join_station-requires-clause-other g c =
    here parts_of (ArePartsOf c.args.shared.now) c.loop-one.yielded c.in-Some.one (into_iter_items c.next.new.self) c.args.processed.items
    (ap (λ z. c.loop-one.yielded ++ z) (sym c.in-Some.ensures.steps.0) ∙ c.loop-one.invariant.parts) c.requires.stations

pub loop-one-preserved : goal.loop-one-preserved
loop-one-preserved g c = let v = c.loop-one.invariant in let j = c.join_station.ensures in record {
  first = j.parts;
  joined = subst (λ (z : List Parts). AllJoined c.args.first.parts z c.join_station.new.station.parts) (sym (map-append parts_of c.loop-one.yielded (c.in-Some.one ∷ [])))
      (joined_more c.args.first.parts (map parts_of c.loop-one.yielded) c.loop-one.first.parts c.in-Some.one.station.parts c.join_station.new.station.parts v.joined j.joined);
  heard = ap (flat_map lines_of) c.push_reserved.ensures.items
      ∙ (flat_map-append lines_of c.loop-one.heards.items (c.join_station.result ∷ [])
      ∙ ((λ i. v.heard i ++ (lines_of (j.heard i) ++ []))
      ∙ (sym (flat_map-append heard_lines (map parts_of c.loop-one.yielded) (c.in-Some.one.station.parts ∷ []))
      ∙ ap (flat_map heard_lines) (sym (map-append parts_of c.loop-one.yielded (c.in-Some.one ∷ []))))));
  room = let was = v.room in let put = c.push_reserved.ensures.len in let same = c.push_reserved.ensures.capacity in let gone = c.in-Some.ensures.steps.1 in let left = v.left in let short = ap length c.in-Some.ensures.steps.0 in omega arith;
  gates = c.push_reserved-in-loop-one.ensures.items ∙ ((λ i. v.gates i ++ c.in-Some.one.gate ∷ []) ∙ sym (map-append gate_of c.loop-one.yielded (c.in-Some.one ∷ [])));
  gate_room = let was = v.gate_room in let put = c.push_reserved-in-loop-one.ensures.len in let same = c.push_reserved-in-loop-one.ensures.capacity in let gone = c.in-Some.ensures.steps.1 in let left = v.left in let short = ap length c.in-Some.ensures.steps.0 in omega arith;
  parts = append_assoc c.loop-one.yielded (c.in-Some.one ∷ []) (into_iter_items c.next.new.self) ∙ (ap (λ z. c.loop-one.yielded ++ z) (sym c.in-Some.ensures.steps.0) ∙ v.parts);
  left = let was = v.left in let gone = c.in-Some.ensures.steps.1 in let short = ap length c.in-Some.ensures.steps.0 in omega arith;
}

pub loop-one-init : goal.loop-one-init
loop-one-init g c = let none = ap length c.requires.room.0 in let no_gate = ap length c.requires.gates.0 in record {
  first = c.requires.first;
  joined = refl;
  heard = ap (flat_map lines_of) c.requires.room.0;
  gates = c.requires.gates.0;
  room = search rules;
  gate_room = search rules;
  parts = c.into_iter-one-iterator.ensures.into_iter_gives.0;
  left = search rules;
}

pub returns : goal.returns
returns g c = let v = c.loop-one.invariant in
    let empty : into_iter_items c.loop-one.one-iterator ≡ [] = nil_from_length _ (sym v.left ∙ c.in-None.ensures.steps.0) in
    let every : c.loop-one.yielded ≡ c.args.processed.items = sym (append-nil c.loop-one.yielded) ∙ (ap (λ z. c.loop-one.yielded ++ z) (sym empty) ∙ v.parts) in
    record {
      parts = v.first;
      joined = subst (λ (z : List (Processed g.row.G.Denot)). AllJoined c.args.first.parts (map parts_of z) c.loop-one.first.parts) every v.joined;
      heard = v.heard ∙ (λ i. flat_map heard_lines (map parts_of (every i)));
      gates = v.gates ∙ (λ i. map gate_of (every i));
    }
