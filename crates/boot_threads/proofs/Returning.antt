-- The results of the processors and the devices, by their works.
use Rattle.boot_threads.proofs.Common.{◌≡◌, ℕ, zero, suc, ◌+◌, ◌<◌, ◌≤◌, ◌^◌, List, [], ◌∷◌, ◌∙◌, map, take, drop, length, refl, sym, ap, subst, arith, Option, Some, None, Result, Ok, slice_get, AllZip, le_prop, ∥∥₁_elim, BootPlan, PlannedTty, Calls, ProcChain, IsEndOf, AnyQuaject, Queues, IsEndAt, end_of, AllThree, Device, AreDevicesOf, Shared, RawTty, LineIn, LineOut, SameIn, SameOut, Work, Worked, GaveBack, IsServing, AreServing, input_of, IsTyped, AreTyped, Back, HasWorked, HasServed, same_Some, IsDeviceOf, IsLine, NotStarted, IsDeviceBack, RunsOf, RefusalsOf}
use Rattle.boot_data.specs.QueueLists.{raw_queue}
use Rattle.boot_data.specs.BootPlans.{plan_of}
use Rattle.boot_data.specs.PlanLimits.{IsPlan, IsTyped as IsShort}
use Rattle.processor.specs.RawEnds.{IsRawAt}
use Rattle.event_theory.proofs.Lists.Placed.{all_at as all_here}
use Rattle.event_theory.proofs.Lists.Histories.{slice_get-drop as get_dropped}
use Rattle.boot_threads.specs.declared.work.Work.TheVariants as works
use Rattle.boot_threads.specs.declared.work.Worked.TheVariants as worked
use Rattle.boot_threads.proofs.Typeds.{served_all}

-- LISTS

none_is : {A B : Type 0} (y : A) → ◌≡◌ {A = Option A} None (Some y) → B
none_is y e = absurd (cc)

three_at : {A B C D : Type 0} (S : A → B → C → Type 0) (R : C → D → Type 0) (xs : List A) (ys : List B) (zs : List C) (ws : List D) (k : ℕ) (x : A) (y : B) (w : D)
    → AllThree S xs ys zs → AllZip R zs ws → slice_get xs k ≡ Some x → slice_get ys k ≡ Some y → slice_get ws k ≡ Some w → (z : C) × S x y z × R z w
three_at S R [] [] [] ws k x y w s r a b c = none_is x a
three_at S R [] [] (z ∷ zs) ws k x y w s r a b c = absurd s
three_at S R [] (y' ∷ ys) [] ws k x y w s r a b c = absurd s
three_at S R [] (y' ∷ ys) (z ∷ zs) ws k x y w s r a b c = absurd s
three_at S R (x' ∷ xs) [] [] ws k x y w s r a b c = absurd s
three_at S R (x' ∷ xs) [] (z ∷ zs) ws k x y w s r a b c = absurd s
three_at S R (x' ∷ xs) (y' ∷ ys) [] ws k x y w s r a b c = absurd s
three_at S R (x' ∷ xs) (y' ∷ ys) (z ∷ zs) [] k x y w s r a b c = absurd r
three_at S R (x' ∷ xs) (y' ∷ ys) (z ∷ zs) (w' ∷ ws) zero x y w s r a b c =
    (z, subst (λ u. S u y z) (same_Some x' x a) (subst (λ u. S x' u z) (same_Some y' y b) s.0), subst (λ u. R z u) (same_Some w' w c) r.0)
three_at S R (x' ∷ xs) (y' ∷ ys) (z ∷ zs) (w' ∷ ws) (suc k) x y w s r a b c = three_at S R xs ys zs ws k x y w s.1 r.1 a b c

-- DEVICES

module _ {G : Type 0} (R : Work G → Back G → Type 0) where
  served_at : (ttys : List PlannedTty) (devices : List Device) (posts ws : List (Work G)) (backs : List (Back G)) (t : ℕ) (p : PlannedTty) (device : Device) (back : Back G)
      → AreServing ttys devices posts ws → AllZip R ws backs → slice_get ttys t ≡ Some p → slice_get devices t ≡ Some device → slice_get backs (length posts + t) ≡ Some back
      → R (works.Serve device.chain device.output device.tty (length p.typed)) back
  served_at ttys devices [] ws backs t p device back s r a b c =
      let e : 0 + t ≡ t = omega arith in
      let one = three_at IsServing R ttys devices ws backs t p device back s r a b (ap (slice_get backs) (sym e) ∙ c) in
      subst (λ (w : Work G). R w back) one.1 one.2
  served_at ttys devices (w ∷ posts) [] backs t p device back s r a b c = absurd s
  served_at ttys devices (w ∷ posts) (w' ∷ ws) [] t p device back s r a b c = absurd r
  served_at ttys devices (w ∷ posts) (w' ∷ ws) (x ∷ backs) t p device back s r a b c =
      let e : suc (length posts + t) ≡ suc (length posts) + t = omega arith in
      served_at ttys devices posts ws backs t p device back s.1 r.1 a b (ap (slice_get (x ∷ backs)) e ∙ c)

  -- the backs of the posts are first
  pub posts_first : (ttys : List PlannedTty) (devices : List Device) (posts ws : List (Work G)) (backs : List (Back G))
      → AreServing ttys devices posts ws → AllZip R ws backs → AllZip R posts (take (length posts) backs)
  posts_first ttys devices [] ws backs s r = tt
  posts_first ttys devices (w ∷ posts) [] backs s r = absurd s
  posts_first ttys devices (w ∷ posts) (w' ∷ ws) [] s r = absurd r
  posts_first ttys devices (w ∷ posts) (w' ∷ ws) (x ∷ backs) s r = (subst (λ (z : Work G). R z x) s.0 r.0, posts_first ttys devices posts ws backs s.1 r.1)

typed_at : {H N : Type 0} (ttys : List PlannedTty) (handles : List (Result H N)) (devices : List Device) (typed : List LineIn) (t : ℕ) (p : PlannedTty) (handle : H) (device : Device) (input : LineIn)
    → AreTyped ttys handles (map input_of devices) typed → slice_get ttys t ≡ Some p → slice_get handles t ≡ Some (Ok handle) → slice_get devices t ≡ Some device → slice_get typed t ≡ Some input
    → IsTyped {N = N} (Ok handle) p device.input input
typed_at [] [] [] [] t p handle device input all a b c d = none_is p a
typed_at [] [] [] (i ∷ typed) t p handle device input all a b c d = absurd all
typed_at [] [] (e ∷ devices) typed t p handle device input all a b c d = absurd all
typed_at [] (h ∷ handles) devices typed t p handle device input all a b c d = absurd all
typed_at (x ∷ ttys) [] devices typed t p handle device input all a b c d = absurd all
typed_at (x ∷ ttys) (h ∷ handles) [] typed t p handle device input all a b c d = absurd all
typed_at (x ∷ ttys) (h ∷ handles) (e ∷ devices) [] t p handle device input all a b c d = absurd all
typed_at {H} {N} (x ∷ ttys) (h ∷ handles) (e ∷ devices) (i ∷ typed) zero p handle device input all a b c d =
    subst (λ (z : LineIn). IsTyped {N = N} (Ok handle) p device.input z) (same_Some i input d)
    (subst (λ (z : Device). IsTyped {N = N} (Ok handle) p z.input i) (same_Some e device c)
    (subst (λ (z : Result H N). IsTyped z p e.input i) (same_Some h (Ok handle) b)
    (subst (λ (z : PlannedTty). IsTyped h z e.input i) (same_Some x p a) all.0)))
typed_at (x ∷ ttys) (h ∷ handles) (e ∷ devices) (i ∷ typed) (suc t) p handle device input all a b c d = typed_at ttys handles devices typed t p handle device input all.1 a b c d

pub still_line : (i i' : LineIn) (o o' : LineOut) → IsLine i o → SameIn i i' → SameOut o o' → IsLine i' o'
still_line i i' o o' line a b =
    let x = a.0 in let y = b.0 in (y.0 ∙ line.0 ∙ sym x.0, y.1 ∙ line.1 ∙ sym x.1, y.2 ∙ line.2 ∙ sym x.2, y.3 ∙ line.3 ∙ sym x.3)

gave_served : (G : Type 0) (T : Calls G) (shared : Shared) (chain count : ℕ) (line : LineOut) (tty : RawTty) (back : Worked G) → HasWorked T shared (works.Serve chain line tty count) back
    → (line' : LineOut) × (tty' : RawTty) × (back ≡ worked.Served line' tty') × HasServed shared chain count line tty line' tty'
gave_served G T shared chain count line tty (worked.Processed station) h = absurd h
gave_served G T shared chain count line tty (worked.Served line' tty') h = (line', tty', refl, h)

pub short : (plan : BootPlan) (t : ℕ) (p : PlannedTty) → slice_get plan.ttys t ≡ Some p → length p.typed < 2 ^ 64
short plan t p at =
    let few : length p.typed ≤ 1024 = ∥∥₁_elim plan.within le_prop (λ (h : IsPlan (plan_of plan)). all_here IsShort plan.ttys t p h.typed at) in omega arith

-- its ends are still those of its queue and its chain
raws_at : (shared : Shared) (t count : ℕ) (device : Device) (line : LineOut) (tty : RawTty) → IsDeviceOf shared.plan shared.queues shared.chains.items t device → HasServed shared device.chain count device.output device.tty line tty
    → IsRawAt shared (raw_queue (length shared.plan.queues) t) (length shared.plan.movers + t) tty
raws_at shared t count device line tty d s = (
  subst (λ (z : ℕ). IsEndAt shared.queues.small.items z (end_of tty)) (s.index ∙ d.raw_is) s.raw,
  record {
    named = subst (λ (z : ℕ). z < length shared.chains.items) d.chain_is d.works.chain_named;
    its = λ chain at.
        let same : s.its ≡ chain = same_Some s.its chain (sym s.is ∙ (ap (slice_get shared.chains.items) d.chain_is ∙ at)) in
        subst (λ (z : ProcChain AnyQuaject Queues). IsEndOf z tty.chain) same s.chain_end;
  },
)

pub device_back : {G : Type 0} (ran : RunsOf G) (refused : RefusalsOf G) (T : Calls G) (shared : Shared) (devices : List Device) (posts ws : List (Work G)) (backs : List (Back G)) (inputs : List LineIn)
    → AreDevicesOf shared.plan shared.queues shared.chains.items devices → AreServing shared.plan.ttys devices posts ws → AllZip (GaveBack ran refused (HasWorked T) shared) ws backs
    → AreTyped shared.plan.ttys (drop (length posts) backs) (map input_of devices) inputs
    → (t : ℕ) (p : PlannedTty) (device : Device) (input : LineIn) (back : Worked G) → slice_get shared.plan.ttys t ≡ Some p → slice_get devices t ≡ Some device → slice_get inputs t ≡ Some input
    → slice_get backs (length posts + t) ≡ Some (Ok back) → (line : LineOut) × (tty : RawTty) × (back ≡ worked.Served line tty) × IsDeviceBack shared t p device input line tty
device_back {G} ran refused T shared devices posts ws backs inputs all serving gave typed t p device input back at at' at'' its =
    let one = served_at (GaveBack ran refused (HasWorked T) shared) shared.plan.ttys devices posts ws backs t p device (Ok back) serving gave at at' its in
    let s = gave_served G T shared device.chain (length p.typed) device.output device.tty back one.1 in
    let d : IsDeviceOf shared.plan shared.queues shared.chains.items t device = all.each t device at' in
    let sent : IsTyped {N = NotStarted Shared (Work G)} (Ok back) p device.input input = typed_at shared.plan.ttys (drop (length posts) backs) devices inputs t p back device input typed at (get_dropped backs (length posts) t ∙ its) at' at'' in (
      s.0,
      s.1,
      s.2,
      record {
        served = s.3;
        raw_at = raws_at shared t (length p.typed) device s.0 s.1 d s.3;
        shares = (s.3.served.share, s.3.served.chain_share);
        pair = still_line device.input input device.output s.0 d.line sent.0 s.3.same;
        all = λ whole. served_all _ _ _ _ device s.3.its p input s.0 s.1 d (short shared.plan t p at) sent.1 s.3.served whole;
      },
    )
