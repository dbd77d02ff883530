use Rattle.std.proofs.Common.{◌≡◌, ap, sym, subst}
use Rattle.turn_io.specs.QueueEnds.{AreQueueEndsOf}
use Rattle.thread_table.specs.Handles.{IsHandOf}
use Rattle.processor.specs.declared.shared.Shared.{Shared}
use Rattle.processor.specs.Points.{Calls}
use Rattle.processor.specs.Stations.{ArePartsOf}
use Rattle.turn_tests.specs.declared.turns.elsewhere.Sayer.{Sayer}
use Rattle.turn_tests.proofs.Pointing.{turns_keep}
use Rattle.turn_tests.proofs.turns.elsewhere.run_beside.Goals as goal

pub returns : goal.returns
returns g c =
    let after = c.run-station.new.gate in
    let T : Calls (Sayer g.row.R.Denot) = record { observes = λ old p point new. new.shared.now ≡ old.shared.now; learns = λ old p entry new. new ≡ old } in
    let same : after.shared.now ≡ c.args.shared.now =
    turns_keep T (λ gate. gate.shared.now) (λ old p point new t. t) (λ old p entry new t. ap (λ (gate : Sayer g.row.R.Denot). gate.shared.now) t) _ _ _ _ _ _ _ _ _ c.run-station.ensures.turned.order in
    let were = subst (ArePartsOf c.args.shared.now) (sym c.into_parts-hand.ensures) c.requires.parts in (
      c.run-station.ensures.station.manned.parts_are,
      subst (ArePartsOf c.args.shared.now) (sym c.from_parts.ensures) (record {
        hand = subst (λ (s : Shared). IsHandOf s.threads after.hand) same after.hand_fits;
        queues = subst (λ (s : Shared). AreQueueEndsOf s.queues after.ends) same after.fit;
        chains = were.chains;
        meters = were.meters;
      }),
    )
