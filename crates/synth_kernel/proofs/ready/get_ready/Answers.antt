use Rattle.synth_kernel.proofs.Common.{ℕ, subst, ◌∙◌, IfOk, BootPlan, HasPlaces, IsReady}
use Rattle.synth_kernel.proofs.ready.get_ready.Goals as goal

pub give_works-requires-clause-objects : goal.give_works-requires-clause-objects
give_works-requires-clause-objects g c = let m = c.in_ok-objects.ensures in record {
  parts = m.parts;
  unused = m.unused;
  hand = m.hand;
  seat = m.seat;
  effect = m.effect;
  quajects = m.quajects;
  devices = m.devices;
  splits = m.splits;
  whole = m.whole;
}

pub give_works-requires-clause-room : goal.give_works-requires-clause-room
give_works-requires-clause-room g c = subst (λ (z : ℕ). HasPlaces c.in_ok-objects.objects.shared z c.in-Ok.room) (c.len.ensures ∙ c.args.gates.ok.0) c.in-Ok.ensures

pub returns : goal.returns
returns g c = subst (λ (z : BootPlan). IfOk c.give_works.result (IsReady z c.args.turns c.args.gates.items)) c.in_ok-objects.ensures.plan c.give_works.ensures
