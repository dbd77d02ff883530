use Rattle.turn_dispatch.proofs.Common.{view_of, call_of, IsSameHand, has, Sent, ◌+◌, ◌∙◌, ℕ, Bool, true, false, refl, sym, ap, subst, IsMember}
use Rattle.thread_table.specs.declared.hand.Hand.{Hand}
use Rattle.turn_dispatch.proofs.Wakes.{Sending, sending_none, sending_passed, sending_kept, sending_ready, still_held}
use Rattle.turn_dispatch.proofs.waking.ready_all.Goals.{in-Some+then-make_ready, in-Some+else-make_ready, in_default}
use Rattle.turn_dispatch.proofs.waking.ready_all.Goals as goal

pub loop-number-init : goal.loop-number-init
loop-number-init g c = ((refl, refl), sending_none (call_of c.args.hand.now) c.args.taken (view_of c.args.hand.now))

pub make_ready-requires-clause-held : goal.make_ready-requires-clause-held
make_ready-requires-clause-held g c =
    let h = c.args.hand.now in
    let l = c.loop-number in
    let m = c.in-Some.ensures in
    ap (has (view_of l.hand)) m.1 ∙ still_held (call_of h) c.args.taken l.ready l.number (view_of h) (view_of l.hand) c.loop-number-test.true h.fresh c.requires.held l.invariant.1 m.0

pub loop-number-preserved : goal.loop-number-preserved
loop-number-preserved g c =
    let h = c.args.hand.now in
    let l = c.loop-number in
    let i = l.invariant in
    let n : ℕ = l.number in
    let Kept : Hand → ℕ → Type 0 = λ x r. IsSameHand h x × Sending (call_of h) c.args.taken r (n + 1) (view_of h) (view_of x) in
    elim c.match-member.branch [
      | in-Some+then-make_ready w ↦
          let m = w.in-Some.ensures in
          let x = w.make_ready.new.hand in
          let same = w.make_ready.ensures.handle in
          let sent : Sent (call_of l.hand) 0 n true (view_of l.hand) (view_of x) =
          subst (λ (e : ℕ). Sent (call_of l.hand) 0 e true (view_of l.hand) (view_of x)) m.1
          (subst (λ (b : Bool). Sent (call_of l.hand) 0 w.in-Some.element b (view_of l.hand) (view_of x)) w.if-make_ready.true w.make_ready.ensures.sent) in
          subst (λ (y : Hand). Kept y c.match-member.ready) (sym w.hand-is) (subst (λ (r : ℕ). Kept x r) (sym w.ready-is)
          ((same.0 ∙ i.0.0, same.1 ∙ i.0.1), sending_ready (call_of h) (call_of l.hand) c.args.taken l.ready n (view_of h) (view_of l.hand) (view_of x) c.loop-number-test.true i.0.1 i.1 m.0 sent))
      | in-Some+else-make_ready w ↦
          let m = w.in-Some.ensures in
          let x = w.make_ready.new.hand in
          let same = w.make_ready.ensures.handle in
          let sent : Sent (call_of l.hand) 0 n false (view_of l.hand) (view_of x) =
          subst (λ (e : ℕ). Sent (call_of l.hand) 0 e false (view_of l.hand) (view_of x)) m.1
          (subst (λ (b : Bool). Sent (call_of l.hand) 0 w.in-Some.element b (view_of l.hand) (view_of x)) w.if-make_ready.false w.make_ready.ensures.sent) in
          subst (λ (y : Hand). Kept y c.match-member.ready) (sym w.hand-is) (subst (λ (r : ℕ). Kept x r) (sym w.ready-is)
          ((same.0 ∙ i.0.0, same.1 ∙ i.0.1), sending_kept (call_of h) (call_of l.hand) c.args.taken l.ready n (view_of h) (view_of l.hand) (view_of x) i.0.1 i.1 m.0 sent))
      | in_default w ↦
          subst (λ (y : Hand). Kept y c.match-member.ready) (sym w.hand-is) (subst (λ (r : ℕ). Kept l.hand r) (sym w.ready-is)
          (i.0, sending_passed (call_of h) c.args.taken l.ready n (view_of h) (view_of l.hand) i.1 (subst (IsMember c.args.taken n) w.in_default.is c.member.ensures)))
    ]
