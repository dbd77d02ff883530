-- Waking all that wait, and starting.
use Rattle.turn_dispatch.proofs.Common.{◌⊎◌, inl, inr, ◌||◌, ◌==◌, ◌&&◌, bit_or, View, Lost, is_in, has, Woken, HoldsSame, Sent, HoldsUnless, tally, no_events, ◌≡◌, ◌≢◌, ℕ, zero, suc, ◌+◌, ◌*◌, ◌^◌, ◌%◌, ◌<◌, ◌≤◌, Bool, true, false, List, [], ◌∷◌, get_or, Result, Ok, Err, refl, sym, ap, ◌∙◌, subst, arith, eqb, not, if◌then◌else◌, flat_map, or-true, eqb_tells, CanWake, OneReady, AllReady, Woke, HoldsWoken, ResumeAnswer, ResumeHolds}
use Rattle.std.proofs.Math.Pow.{pow-lt}
use Rattle.thread_table.specs.Wakes.{WokeAll, Try, took, missed, made_by_try, with_wakes}
use Rattle.thread_table.proofs.Shown.StateBits.{bit_set_here, bit_set_other}
use Rattle.turn_dispatch.specs.declared.waking.Resumed.{Resumed}
use Rattle.turn_dispatch.specs.declared.waking.Resumed.TheVariants as resumed
use Rattle.turn_dispatch.proofs.Beginnings.{back, more_grows}
use Rattle.turn_dispatch.proofs.Calm.{Goes, goes_after, goes_before, looks_none, acts_goes}
use Rattle.turn_dispatch.proofs.Delivered.{none_in}
use Rattle.turn_dispatch.proofs.OnlyLoads.{start_looks, goes_looks, started_goes, cleared_held}
use Rattle.turn_dispatch.proofs.Sends.{sent_goes, sent_holds}

-- the takings of those that wait come to nothing
none_taken : (call wait : ℕ) (tries : List Try) → tally (flat_map (made_by_try call (suc (suc wait))) tries) ≡ no_events
none_taken call wait [] = refl
none_taken call wait (took before tail place q r s t ∷ tries) = none_taken call wait tries
none_taken call wait (missed before tail place seen q r s t ∷ tries) = none_taken call wait tries

woke_goes : (call wait mask : ℕ) (v w : View) → WokeAll call v wait mask w → Goes no_events v w
woke_goes call wait mask v w a =
    let same : tally (flat_map (made_by_try call (wait + 2)) a.tries) ≡ no_events = subst (λ (k : ℕ). tally (flat_map (made_by_try call k) a.tries) ≡ no_events) (two wait) (none_taken call wait a.tries) in
    acts_goes no_events v w (with_wakes v call wait a.tries w) _ _ record { first = refl; serves = refl; on = refl; share = refl } refl same a.acts
  where
    two : (n : ℕ) → suc (suc n) ≡ n + 2
    two n = omega arith

-- the state after one element
unless : (b : Bool) → (b && not true) ≡ false
unless true = refl
unless false = refl

always : (b : Bool) → b ≡ (b && not false)
always true = refl
always false = refl

one_by : (call n e : ℕ) (t r : Bool) (u w : View) → ((eqb e n ≡ true) × (e ≡ n)) ⊎ ((eqb e n ≡ false) × (e ≢ n)) → e < 64 → HoldsUnless r n u w → has w e ≡ (if e == n then (has u e && not (true && r)) else has u e)
one_by call n e t true u w (inl same) low h = h e ∙ (ap (λ (b : Bool). if b then false else has u e) same.0 ∙ (sym (unless (has u e)) ∙ sym (ap (λ (b : Bool). if b then (has u e && not true) else has u e) same.0)))
one_by call n e t true u w (inr other) low h = h e ∙ (ap (λ (b : Bool). if b then false else has u e) other.0 ∙ sym (ap (λ (b : Bool). if b then (has u e && not true) else has u e) other.0))
one_by call n e t false u w (inl same) low h = h e ∙ (always (has u e) ∙ sym (ap (λ (b : Bool). if b then (has u e && not false) else has u e) same.0))
one_by call n e t false u w (inr other) low h = h e ∙ sym (ap (λ (b : Bool). if b then (has u e && not false) else has u e) other.0)

either_way : (b h : Bool) → h ≡ (if b then (h && not false) else h)
either_way true h = always h
either_way false h = refl

one_is : (call n : ℕ) (t r : Bool) (u w : View) → u.own.fresh ≡ true → OneReady call n t r u w
    → Goes no_events u w × ((e : ℕ) → e < 64 → has w e ≡ (if e == n then (has u e && not (t && r)) else has u e))
one_is call n true r u w up s = (sent_goes call 0 n r u w (λ z. omega arith) up s, λ e below. one_by call n e true r u w (eqb_tells e n) below (sent_holds call 0 n r u w up s))
one_is call n false r u w up s = subst (λ (z : View). Goes no_events u z × ((e : ℕ) → e < 64 → has z e ≡ (if e == n then (has u e && not false) else has u e))) (sym s.0)
    ((looks_none u up).0, λ e below. either_way (e == n) (has u e))

-- the state after the elements below a number
pub record ReadyTo (k : Woken) (v : View) (n : ℕ) (w : View) : Type 0 where
  pub goes : Goes no_events v w
  pub past : (e : ℕ) → e < 64 → e < n → has w e ≡ (has v e && not (is_in k.taken e && is_in k.ready e))
  pub next : (e : ℕ) → e < 64 → n ≤ e → has w e ≡ has v e

shrinks : (b t : Bool) → (b && t) ≡ true → b ≡ true
shrinks true t up = refl
shrinks false t up = absurd (cc)

pub ready_to : (call : ℕ) (k : Woken) (v w : View) (n : ℕ) → n ≤ 64 → v.own.fresh ≡ true → CanWake k.taken v → AllReady call k v n w → ReadyTo k v n w
ready_to call k v w zero few up can same = subst (λ (z : View). ReadyTo k v 0 z) (sym same) record { goes = (looks_none v up).0; past = λ e low below. absurd (omega arith); next = λ e low above. refl }
ready_to call k v w (suc n) few up can s =
    let u : View = s.0 in
    let a = ready_to call k v u n (omega arith) up can s.1 in
    let low : n < 64 = omega arith in
    let now : has u n ≡ has v n = a.next n low (omega arith) in
    let b = one_is call n (is_in k.taken n) (is_in k.ready n) u w a.goes.calm.fresh s.2 in
    record {
      goes = goes_before no_events v u w a.goes b.0 (λ e below held still. kept e u b.1 below still (eqb_tells e n));
      past = λ e below under. by e u a b.1 now below under (eqb_tells e n);
      next = λ e below above. over e u a b.1 below above (eqb_tells e n);
    }
  where
    Tells : ℕ → Type 0
    Tells e = ((eqb e n ≡ true) × (e ≡ n)) ⊎ ((eqb e n ≡ false) × (e ≢ n))

    Left : View → Type 0
    Left u = (e : ℕ) → e < 64 → has w e ≡ (if e == n then (has u e && not (is_in k.taken n && is_in k.ready n)) else has u e)

    kept : (e : ℕ) (u : View) → Left u → e < 64 → has w e ≡ true → Tells e → has u e ≡ true
    kept e u h below still (inl same) = shrinks (has u e) (not (is_in k.taken n && is_in k.ready n)) (ap (λ (b : Bool). if b then (has u e && not (is_in k.taken n && is_in k.ready n)) else has u e) (sym same.0) ∙ (sym (h e below) ∙ still))
    kept e u h below still (inr other) = ap (λ (b : Bool). if b then (has u e && not (is_in k.taken n && is_in k.ready n)) else has u e) (sym other.0) ∙ (sym (h e below) ∙ still)

    by : (e : ℕ) (u : View) → ReadyTo k v n u → Left u → has u n ≡ has v n → e < 64 → e < suc n → Tells e → has w e ≡ (has v e && not (is_in k.taken e && is_in k.ready e))
    by e u a h now below under (inl same) = h e below ∙ (ap (λ (b : Bool). if b then (has u e && not (is_in k.taken n && is_in k.ready n)) else has u e) same.0
        ∙ (ap (λ (m : ℕ). has u m && not (is_in k.taken n && is_in k.ready n)) same.1 ∙ (ap (λ (b : Bool). b && not (is_in k.taken n && is_in k.ready n)) now
        ∙ ap (λ (m : ℕ). has v m && not (is_in k.taken m && is_in k.ready m)) (sym same.1))))
    by e u a h now below under (inr other) = h e below ∙ (ap (λ (b : Bool). if b then (has u e && not (is_in k.taken n && is_in k.ready n)) else has u e) other.0 ∙ a.past e below (let o = other.1 in omega arith))

    over : (e : ℕ) (u : View) → ReadyTo k v n u → Left u → e < 64 → suc n ≤ e → Tells e → has w e ≡ has v e
    over e u a h below above (inl same) = absurd (let o = same.1 in omega arith)
    over e u a h below above (inr other) = h e below ∙ (ap (λ (b : Bool). if b then (has u e && not (is_in k.taken n && is_in k.ready n)) else has u e) other.0 ∙ a.next e below (omega arith))

-- a bit of the mask that is set above changes nothing below
pub all_again : (call taken ready ready' : ℕ) (v w : View) (n : ℕ) → ((m : ℕ) → m < n → is_in ready' m ≡ is_in ready m)
    → AllReady call (record { taken = taken; ready = ready }) v n w → AllReady call (record { taken = taken; ready = ready' }) v n w
all_again call taken ready ready' v w zero same s = s
all_again call taken ready ready' v w (suc n) same s = (
  s.0,
  all_again call taken ready ready' v s.0 n (λ m low. same m (omega arith)) s.1,
  subst (λ (b : Bool). OneReady call n (is_in taken n) b s.0 w) (sym (same n (omega arith))) s.2,
)

add_one : (n : ℕ) → n + 1 ≡ suc n
add_one n = omega arith

-- the loop's invariant
pub record Sending (call taken ready n : ℕ) (v w : View) : Type 0 where
  pub sent : AllReady call (record { taken = taken; ready = ready }) v n w
  pub above : (m : ℕ) → n ≤ m → is_in ready m ≡ false

one_bit : (n : ℕ) → n < 64 → 1 * 2 ^ n % 18446744073709551616 ≡ 2 ^ n
one_bit n below = let m : 2 ^ n < 18446744073709551616 = pow-lt {i = n} {j = 64} below in omega arith

pub sending_none : (call taken : ℕ) (v : View) → Sending call taken 0 0 v v
sending_none call taken v = record { sent = refl; above = λ m _. none_in m }

pub sending_passed : (call taken ready n : ℕ) (v w : View) → Sending call taken ready n v w → is_in taken n ≡ false → Sending call taken ready (n + 1) v w
sending_passed call taken ready n v w s no_member = rw (add_one n) record {
  sent = (w, s.sent, subst (λ (b : Bool). OneReady call n b (is_in ready n) w w) (sym no_member) (refl, s.above n (omega arith)));
  above = λ m low. s.above m (omega arith);
}

pub sending_kept : (call call' taken ready n : ℕ) (v u w : View) → call' ≡ call → Sending call taken ready n v u → is_in taken n ≡ true → Sent call' 0 n false u w → Sending call taken ready (n + 1) v w
sending_kept call call' taken ready n v u w same s member sent = rw (add_one n) record {
  sent = (u, s.sent, subst (λ (b : Bool). OneReady call n b (is_in ready n) u w) (sym member) (subst (λ (b : Bool). Sent call 0 n b u w) (sym (s.above n (omega arith))) (subst (λ (c : ℕ). Sent c 0 n false u w) same sent)));
  above = λ m low. s.above m (omega arith);
}

pub sending_ready : (call call' taken ready n : ℕ) (v u w : View) → n < 64 → call' ≡ call → Sending call taken ready n v u → is_in taken n ≡ true → Sent call' 0 n true u w
    → Sending call taken (bit_or ready (1 * 2 ^ n % 18446744073709551616)) (n + 1) v w
sending_ready call call' taken ready n v u w low same s member sent = rw (one_bit n low) (rw (add_one n) record {
  sent = (
    u,
    all_again call taken ready (bit_or ready (2 ^ n)) v u n (λ m below. ap (λ k. eqb k 1) (bit_set_other ready n m (λ is. omega arith))) s.sent,
    subst (λ (b : Bool). OneReady call n b (is_in (bit_or ready (2 ^ n)) n) u w) (sym member) (subst (λ (b : Bool). Sent call 0 n b u w) (sym (ap (λ k. eqb k 1) (bit_set_here ready n))) (subst (λ (c : ℕ). Sent c 0 n true u w) same sent)),
  );
  above = λ m past. ap (λ k. eqb k 1) (bit_set_other ready n m (λ is. omega arith)) ∙ s.above m (omega arith);
})

-- the hand still holds the next element of the mask
pub still_held : (call taken ready n : ℕ) (v w : View) → n < 64 → v.own.fresh ≡ true → CanWake taken v → Sending call taken ready n v w → is_in taken n ≡ true → has w n ≡ true
still_held call taken ready n v w low up can s member = (ready_to call (record { taken = taken; ready = ready }) v w n (omega arith) up can s.sent).next n low (omega arith) ∙ can n low member

-- all that were woken
pub can_wake : (call wait mask : ℕ) (v w : View) → WokeAll call v wait mask w → CanWake mask w
can_wake call wait mask v w a e low member = a.holds e low ∙ (ap (λ (b : Bool). has v e || b) member ∙ or-true (has v e))

held_rest : (h t r : Bool) → (t ≡ true → h ≡ false) → ((h || t) && not (t && r)) ≡ (h || (t && not r))
held_rest true true r fresh = absurd (let f = fresh refl in cc)
held_rest true false r fresh = refl
held_rest false true r fresh = refl
held_rest false false r fresh = refl

pub woken_is : (call wait : ℕ) (k : Woken) (v w : View) → v.own.fresh ≡ true → Woke call wait k v w → Goes no_events v w × HoldsWoken k v w
woken_is call wait k v w up a =
    let u : View = a.between in
    let first = woke_goes call wait k.taken v u a.took in
    let rest = ready_to call k u w 64 (omega arith) first.calm.fresh (can_wake call wait k.taken v u a.took) a.sent in (
      goes_after no_events v u w first rest.goes (λ e low held still. a.took.holds e low ∙ ap (λ (b : Bool). b || is_in k.taken e) held),
      λ e low. (
        rest.past e low low ∙ (ap (λ (b : Bool). b && not (is_in k.taken e && is_in k.ready e)) (a.took.holds e low) ∙ held_rest (has v e) (is_in k.taken e) (is_in k.ready e) (a.took.woken e low)),
        a.took.woken e low,
      ),
    )

-- a start
pub resumed_is : (call element : ℕ) (r : Result Resumed Lost) (v w : View) → ResumeAnswer call element r v w → Goes no_events v w × ResumeHolds element r v w
resumed_is call element (Ok resumed.NotStopped) v w a = let l = goes_looks call element v w a in (l.0, λ e. ap (λ xs. get_or xs e false) l.1)
resumed_is call element (Ok resumed.Cleared) v w a = (started_goes call element false v w a, λ e. ap (λ xs. get_or xs e false) (cleared_held call element v w a))
resumed_is call element (Ok resumed.Ready) v w a =
    let u : View = a.0 in
    let first = started_goes call element true v u a.1.1 in
    let more = a.1.0 in (
      goes_after no_events v u w first (sent_goes call 0 element true u w (λ z. omega arith) first.calm.fresh a.2) (more_grows element v u w more),
      back element v u w more (sent_holds call 0 element true u w first.calm.fresh a.2),
    )
resumed_is call element (Ok resumed.Held) v w a =
    let u : View = a.0 in
    let first = started_goes call element true v u a.1.1 in
    let more = a.1.0 in
    let s : HoldsSame u w = sent_holds call 0 element false u w first.calm.fresh a.2 in (
      goes_after no_events v u w first (sent_goes call 0 element false u w (λ z. omega arith) first.calm.fresh a.2) (more_grows element v u w more),
      (more.0, λ e. s e ∙ more.1 e),
    )
resumed_is call element (Err lost) v w a = let l = start_looks call element v w lost a in (l.0, λ e. ap (λ xs. get_or xs e false) l.1)

pub woke : (call call' wait taken ready : ℕ) (v u w : View) → call' ≡ call → WokeAll call v wait taken u → AllReady call' (record { taken = taken; ready = ready }) u 64 w → Woke call wait (record { taken = taken; ready = ready }) v w
woke call call' wait taken ready v u w same all sent = record { between = u; took = all; sent = subst (λ (c : ℕ). AllReady c (record { taken = taken; ready = ready }) u 64 w) same sent }
