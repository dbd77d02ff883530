use Rattle.batch_queue.proofs.Common.{List, Released, View, arith, inl, length, mark_word, mod-lt, refl, slots_of, subst, sym, ℕ, ◌%◌, ◌*◌, ◌+◌, ◌/◌, ◌<◌, ◌∙◌, ◌≡◌}
use Rattle.batch_queue.proofs.Releasing.{claim_stands}
use Rattle.batch_queue.proofs.Under.{releases_as}
use Rattle.batch_queue.proofs.steps.publish.Goals as goal

halves : (b : ℕ) → ((2 * b) / 2 ≡ b) × ((2 * b) % 2 ≡ 0)
halves b = (omega arith, omega arith)

pub store-requires : goal.store-requires
store-requires g c = let q = c.requires.queue in let w = q.words in let m = c.requires.mine in let near : c.args.start % c.args.room < c.args.room = mod-lt c.args.start q.some_room in let items : List ℕ = c.args.items.now in let r = c.requires.claim in
    let v : View = c.args.seat.now.me.0 in let b : ℕ = c.args.start + length c.args.items.now in let h = halves b in let start = m.start_is in let some_slot = m.some_slot in let room = q.rooms in (
      q.one,
      omega arith,
      releases_as g.C.Protocol.allows c.args.words.now.key c.args.words.now.table_id.slots c.args.seat.now.id v 0 b items (2 * b) m.in_phase (inl refl) (omega arith) (omega arith) (sym m.count_is) h.0 (λ z. h.1, λ z. absurd (omega arith)) (q.slots ∙ sym room) c.mark_word.result
          (c.mark_word.ensures ∙ (λ k. mark_word (sym room k) (sym start k))) q.live
          (λ s k at z i l. claim_stands v.seen.object k.now.object v.own.held.start items r.0 r.1 (k.seen c.args.seat.now.id v at) (r.2 ∙ sym start) r.3 i l)
          c.args.seat.now.me.1
          (c.requires.written ∙ (λ k. slots_of (sym room k) (sym start k) items)),
    )

pub returns-clause-published : goal.returns-clause-published
returns-clause-published g c = let m = c.requires.mine in let g = c.store.ensures.2.0.1 in
    subst (λ (z : ℕ). Released c.args.seat.now.me.0 (mark_word c.args.room c.args.start) c.args.start (c.args.start + z) 0 c.store.new.seat.me) m.count_is
    (subst (λ (z : ℕ). Released c.args.seat.now.me.0 (mark_word c.args.room c.args.start) z (z + c.args.seat.now.me.0.own.held.count) 0 c.store.new.seat.me) m.start_is
    (subst (λ (z : ℕ). Released c.args.seat.now.me.0 (mark_word c.args.room c.args.start) c.args.seat.now.me.0.own.held.start (c.args.seat.now.me.0.own.held.start + c.args.seat.now.me.0.own.held.count) z c.store.new.seat.me) m.in_phase
    (subst (λ (z : ℕ). Released c.args.seat.now.me.0 z c.args.seat.now.me.0.own.held.start (c.args.seat.now.me.0.own.held.start + c.args.seat.now.me.0.own.held.count) c.args.seat.now.me.0.own.held.phase c.store.new.seat.me) c.mark_word.ensures g)))
