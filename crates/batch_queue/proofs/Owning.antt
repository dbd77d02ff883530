-- The record of an end stays true while the queue grows.
use Rattle.batch_queue.proofs.Common.{Batch, BatchState, EndRecord, Grows, HeldSlots, Holds, IsBatch, OwnShows, ap, arith, get_elem?, length, no_slots, phase_at, some, ℕ, ◌+◌, ◌∙◌, ◌≡◌}
use Rattle.batch_queue.proofs.Growing.{items_grow}
use Rattle.batch_queue.proofs.Whole.{batch_on}

-- another end's event leaves the phases of the positions whose slots it holds
pub own_on : (o r : BatchState) (d : EndRecord) → Grows o r → ((i : ℕ) → Holds d.held i → phase_at r i ≡ phase_at o i) → OwnShows o d → OwnShows r d
own_on o r d g same h = record {
  runs = λ m e at. batch_on o.batches r.batches g.more.0 _ _ g.more.1 (h.runs m e at);
  takes = λ m e at. batch_on o.takings r.takings g.takings.0 _ _ g.takings.1 (h.takes m e at);
  kind = h.kind;
  batch = λ z l. batch_on o.batches r.batches g.more.0 _ _ g.more.1 (h.batch z l);
  run = h.run;
  taking = λ z l. batch_on o.takings r.takings g.takings.0 _ _ g.takings.1 (h.taking z l);
  holds = λ i x. let q = h.holds i x in let n = items_grow o r g in (same i x ∙ q.0, omega arith);
}

-- an end that holds no slots
pub own_bare : (o : BatchState) (d : EndRecord) → ((m : ℕ) (e : Batch) → get_elem? d.runs m ≡ some e → IsBatch o.batches e.start (e.start + length e.places)) → ((m : ℕ) (e : Batch) → get_elem? d.takes m ≡ some e → IsBatch o.takings e.start (e.start + length e.places)) → d.held ≡ no_slots → OwnShows o d
own_bare o d runs takes is = let p = ap (λ (h : HeldSlots). h.phase) is in let c = ap (λ (h : HeldSlots). h.count) is in record {
  runs = runs;
  takes = takes;
  kind = λ z. omega arith;
  batch = λ z l. absurd (omega arith);
  run = λ z l. absurd (omega arith);
  taking = λ z l. absurd (omega arith);
  holds = λ i h. absurd (let l = h.0 in let r = h.1 in omega arith);
}
