use Rattle.synth_kernel.proofs.Common.{List, map, flat_map, length, sym, ap, subst, ◌∙◌, arith, All, AllZip, AllThree, Processed, parts_of, gate_of, AllJoined, ArePartsOf, heard_lines, LineIn, IsLine, Served, tty_of, TotalsAre}
use Rattle.synth_kernel.proofs.gathering.gather.Goals as goal

pub finish_all-ttys-requires : goal.finish_all-ttys-requires
finish_all-ttys-requires g c =
    let s = c.in_ok-processed.ensures.sorted in let long = ap length s.1 in let room = c.requires.room in
    record {
      lines = subst (λ (z : List Served). AllZip (λ (one : Served) (input : LineIn). IsLine input one.line) z c.args.inputs.items) (sym s.1) (c.requires.lines s.2);
      ttys = (room.ttys.0, let n = room.ttys.1 in omega arith);
      reported = (room.reported.0, let n = room.reported.1 in omega arith);
    }

pub join_stations-station-requires : goal.join_stations-station-requires
join_stations-station-requires g c =
    let s = c.in_ok-processed.ensures.sorted in let long = ap length s.0 in let room = c.requires.room.heards in let gates = c.requires.room.gates in
    record {
      first = c.requires.first;
      stations = subst (λ (z : List (Processed g.row.G.Denot)). All (ArePartsOf c.args.shared.now) (map parts_of z)) (sym s.0) (c.requires.stations s.2);
      room = (room.0, let n = room.1 in omega arith);
      gates = (gates.0, let n = gates.1 in omega arith);
    }

pub returns-clause-gathered : goal.returns-clause-gathered
returns-clause-gathered g c =
    let s = c.in_ok-processed.ensures.sorted in let j = c.join_stations-station.ensures in
    record {
      all = s.2;
      parts = j.parts;
      joined = subst (λ (z : List (Processed g.row.G.Denot)). AllJoined c.args.first.parts (map parts_of z) c.join_stations-station.result.0.parts) s.0 j.joined;
      heard = j.heard ∙ ap (λ (z : List (Processed g.row.G.Denot)). flat_map heard_lines (map parts_of z)) s.0;
      gates = j.gates ∙ ap (λ (z : List (Processed g.row.G.Denot)). map gate_of z) s.0;
      ttys = c.finish_all-ttys.ensures.ttys ∙ ap (map tty_of) s.1;
      reported = subst (λ (z : List Served). AllThree TotalsAre z c.args.inputs.items c.finish_all-ttys.result.1.items) s.1 c.finish_all-ttys.ensures.reported;
    }
