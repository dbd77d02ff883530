-- How a turn begins.
use Rattle.turn_dispatch.proofs.Common.{◌⊎◌, inl, inr, ◌||◌, ◌==◌, View, Lost, TakeAnswer, HoldsMore, has, Begun, Began, mask_of, HoldsSame, HoldsUnless, Tally, no_events, one_delivery, ◌≡◌, ◌≢◌, ⊎_elim, ℕ, Bool, true, false, get_or, Ok, refl, sym, ap, ◌∙◌, arith, eqb, if◌then◌else◌, eqb_tells, HoldsLess, Awake, WasIdle, IdleHolds}
use Rattle.turn_dispatch.specs.declared.dispatch.Idle.{Idle}
use Rattle.turn_dispatch.specs.declared.dispatch.Idle.TheVariants as idle
use Rattle.turn_dispatch.proofs.Calm.{Goes, Bridges, goes_after, goes_before, right}
use Rattle.turn_dispatch.proofs.OnlyLoads.{take_looks, took_goes, took_holds, parked_goes, park_looks, runs_looks, deliver_goes, counts_looks}
use Rattle.turn_dispatch.proofs.Sends.{sent_goes, sent_holds}

-- the hand holds the element that it holds more than before
here : (b : Bool) (e : ℕ) → (b || e == e) ≡ true
here true e = refl
here false e = ⊎_elim (λ same. same.0) (λ other. absurd (other.1 refl)) (eqb_tells e e)

pub more_has : (element : ℕ) (v w : View) → HoldsMore element v w → has w element ≡ true
more_has element v w h = h.1 element ∙ here (has v element) element

pub took_has : (call ring element : ℕ) (v w : View) → TakeAnswer call v ring (Ok element) w → has w element ≡ true
took_has call ring element v w t = more_has element v w (took_holds call ring element v w t)

more_same : (element : ℕ) (u v w : View) → HoldsMore element u v → w.own.held ≡ v.own.held → HoldsMore element u w
more_same element u v w h same = (h.0, λ e. ap (λ xs. get_or xs e false) same ∙ h.1 e)

-- the hand held one element more, and then gave it up
out : (h b : Bool) → (b ≡ true → h ≡ false) → (if b then false else (h || b)) ≡ h
out h true fresh = sym (fresh refl)
out true false fresh = refl
out false false fresh = refl

pub back : (element : ℕ) (u v w : View) → HoldsMore element u v → HoldsLess element v w → HoldsSame u w
back element u v w a b e = b e ∙ (ap (λ (h : Bool). if e == element then false else h) (a.1 e) ∙ out (has u e) (e == element) (known (eqb_tells e element)))
  where
    known : ((eqb e element ≡ true) × (e ≡ element)) ⊎ ((eqb e element ≡ false) × (e ≢ element)) → e == element ≡ true → has u e ≡ false
    known (inl same) up = ap (has u) same.1 ∙ a.0
    known (inr other) up = absurd (let o = other.0 in cc)

pub more_grows : (element : ℕ) (u v w : View) → HoldsMore element u v → Bridges u v w
more_grows element u v w h e low held still = h.1 e ∙ ap (λ (b : Bool). b || e == element) held

-- the beginning of a turn that has an element
pub awake_is : (call element : ℕ) (v w : View) → Awake call element v w → Goes no_events v w × HoldsMore element v w
awake_is call element v w a =
    let l = runs_looks call element a.taken w a.runs in
    let h = took_holds call 0 element v a.taken a.took in (
      goes_before no_events v a.taken w (took_goes call 0 element v a.taken (λ z. omega arith) a.took) l.0 (more_grows element v a.taken w h),
      more_same element v a.taken w h l.1,
    )

pub began_is : (call : ℕ) (b : Begun) (v w : View) → Began call b v w → Goes (one_delivery b.element (mask_of b.delivered)) v w × HoldsMore b.element v w
began_is call b v w k =
    let a = awake_is call b.element v k.awake k.woke in
    let d = deliver_goes call b.element k.awake k.ready b.delivered k.delivered in
    let n = counts_looks b.element b.number k.ready w k.counted in
    let t : Tally = one_delivery b.element (mask_of b.delivered) in (
      goes_after t v k.awake w a.0 (goes_before t k.awake k.ready w d.0 n.0 (right k.awake k.ready w n.1)) (more_grows b.element v k.awake w a.1),
      more_same b.element v k.ready w (more_same b.element v k.awake k.ready a.1 d.1) n.1,
    )

lost_is : (element : ℕ) (lost : Lost) (ready : Bool) (u v w : View) → HoldsMore element u v → HoldsUnless ready element v w → IdleHolds (idle.ParkLost element lost ready) u w
lost_is element lost true u v w a b = back element u v w a b
lost_is element lost false u v w a b = (a.0, λ e. b e ∙ a.1 e)

-- the beginning of a turn that has none
pub idle_is : (call : ℕ) (why : Idle) (v w : View) → WasIdle call why v w → Goes no_events v w × IdleHolds why v w
idle_is call (idle.NothingReady refusal) v w a = let l = take_looks call 0 v w refusal a in (l.0, λ e. ap (λ xs. get_or xs e false) l.1)
idle_is call (idle.Parked element) v w a =
    let u : View = a.0 in
    let h = took_holds call 0 element v u a.1 in (
      goes_before no_events v u w (took_goes call 0 element v u (λ z. omega arith) a.1) (parked_goes call element u w a.2) (more_grows element v u w h),
      back element v u w h a.2.0,
    )
idle_is call (idle.ParkLost element lost ready) v w a =
    let u : View = a.0 in
    let x : View = a.2 in
    let h = took_holds call 0 element v u a.1 in
    let l = park_looks call element u x lost a.3 in
    let k = more_same element v u x h l.1 in
    let first = goes_before no_events v u x (took_goes call 0 element v u (λ z. omega arith) a.1) l.0 (more_grows element v u x h) in (
      goes_before no_events v x w first (sent_goes call 0 element ready x w (λ z. omega arith) first.calm.fresh a.4) (more_grows element v x w k),
      lost_is element lost ready v x w k (sent_holds call 0 element ready x w first.calm.fresh a.4),
    )
