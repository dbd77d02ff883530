use Rattle.synth_kernel.proofs.Common.{ℕ, drop, length, vec_capacity, ap, subst, ◌∙◌, refl, arith, length-map, input_of, AreTyped, calls}
use Rattle.synth_kernel.proofs.Shut.{few_came, lines_came, parts_came}
use Rattle.synth_kernel.proofs.running.run_threads.Goals as goal

pub run_kernel-backs-requires-clause-number : goal.run_kernel-backs-requires-clause-number
run_kernel-backs-requires-clause-number g c = let n = c.requires.ready.3.number in let p = c.requires.ready.2 in let l = c.args.ready.works.ok.0 in omega arith

pub run_kernel-backs-requires-clause-lines : goal.run_kernel-backs-requires-clause-lines
run_kernel-backs-requires-clause-lines g c = λ κs within. c.args.ready.inputs.ok.0 ∙ (ap length c.requires.ready.3.inputs ∙ (length-map c.requires.ready.3.devices input_of ∙ c.requires.ready.3.devices_are.number))

pub run_kernel-backs-requires-clause-backs : goal.run_kernel-backs-requires-clause-backs
run_kernel-backs-requires-clause-backs g c =
    let r = c.requires.ready.3 in let b = c.part_room-backs.ensures.backs in
    λ κs within. ((λ i. (b i).items) ∙ r.room.backs.0, let same = ap vec_capacity b in let n = r.room.backs.1 in let m = r.number in let l = c.args.ready.works.ok.0 in omega arith)

pub run_kernel-backs-requires-clause-room : goal.run_kernel-backs-requires-clause-room
run_kernel-backs-requires-clause-room g c =
    let r = c.requires.ready.3 in let t = c.part_room-backs.ensures.typed in
    let many = c.args.ready.inputs.ok.0 ∙ (ap length r.inputs ∙ (length-map r.devices input_of ∙ r.devices_are.number)) in
    λ κs within. ((λ i. (t i).items) ∙ r.room.typed.0, let same = ap vec_capacity t in let n = r.room.typed.1 in omega arith)

pub gather-requires : goal.gather-requires
gather-requires g c =
    let o = c.args.ready in let r = c.requires.ready.3 in
    let shown = g.R.Witness.shown in
    let backs = c.run_kernel-backs.result.0.items in
    let inputs = c.run_kernel-backs.result.1.items in
    let worked = c.run_kernel-backs.ensures.worked in
    let l = c.part_room-backs.ensures.lists in
    let typed = subst (λ (z : ℕ). AreTyped o.shared.plan.ttys (drop z backs) o.inputs.items inputs) c.requires.ready.2 c.run_kernel-backs.ensures.typed in
    let few = few_came g.R.Witness.ran g.R.Witness.refused shown (calls g.G.Gate.observes g.G.TurnGate.learns) o.shared.plan c.requires.ready.0 c.requires.ready.1 o r backs inputs worked typed in
    record {
      first = r.parts;
      stations = λ all. parts_came g.R.Witness.ran g.R.Witness.refused shown (calls g.G.Gate.observes g.G.TurnGate.learns) o.shared.plan c.requires.ready.0 c.requires.ready.1 o r backs inputs worked typed all;
      lines = λ all. lines_came g.R.Witness.ran g.R.Witness.refused shown (calls g.G.Gate.observes g.G.TurnGate.learns) o.shared.plan c.requires.ready.0 c.requires.ready.1 o r backs inputs worked typed all;
      room = record {
        processed = ((λ i. (l.processed i).items) ∙ r.room.processed.0, let same = ap vec_capacity l.processed in let n = r.room.processed.1 in let f = few.0 in omega arith);
        served = ((λ i. (l.served i).items) ∙ r.room.served.0, let same = ap vec_capacity l.served in let n = r.room.served.1 in let f = few.1 in omega arith);
        ttys = ((λ i. (l.ttys i).items) ∙ r.room.ttys.0, let same = ap vec_capacity l.ttys in let n = r.room.ttys.1 in let f = few.1 in omega arith);
        heards = ((λ i. (l.heards i).items) ∙ r.room.heards.0, let same = ap vec_capacity l.heards in let n = r.room.heards.1 in let f = few.0 in omega arith);
        gates = ((λ i. (l.gates i).items) ∙ r.room.gates.0, let same = ap vec_capacity l.gates in let n = r.room.gates.1 in let f = few.0 in omega arith);
        reported = ((λ i. (l.reported i).items) ∙ r.room.reported.0, let same = ap vec_capacity l.reported in let n = r.room.reported.1 in let f = few.1 in omega arith);
      };
    }

pub returns : goal.returns
returns g c = record {
  shared_is = refl;
  backs = c.run_kernel-backs.result.0.items;
  worked = c.run_kernel-backs.ensures.worked;
  inputs = c.run_kernel-backs.result.1.items;
  typed = c.run_kernel-backs.ensures.typed;
  gathered = c.in-Some.ensures.gathered;
  answers_are = c.part_room-backs.ensures.answers;
  report_is = c.part_room-backs.ensures.report;
}
