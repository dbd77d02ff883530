-- The works of a boot: they may be done, one device more has its work, and what a device gives back keeps what its work
-- promises.
use Rattle.boot_threads.proofs.Common.{◌≡◌, ℕ, suc, ◌+◌, List, [], ◌∷◌, ◌∙◌, length, refl, sym, ap, subst, arith, Some, slice_get, ◌++◌, false, get_or, Option, PlannedTty, AllThree, Device, AreDevicesOf, Shared, Parts, Work, IsServing, AreServing, ArePosted, HasWorked, HasServed, Calls, ProcChain, IsEndOf, AnyQuaject, RawTty, Queues, IsEndAt, end_of, LineOut, SameOut, Served, All, All-nil, All-cons, IsAtWork, there, MayWork, IsServable, unwrap_or-slice_get, turn_of}
use Rattle.stations.proofs.Walking.{three_push}
use Rattle.std.specs.Option.{unwrap_or}
use Rattle.processor.specs.declared.station.Station.{Station}
use Rattle.processor.specs.Manning.{KeepsStation}
use Rattle.processor.specs.Orders.{RanTurnsInOrder}
use Rattle.processor.specs.Sights.{Views}
use Rattle.processor.proofs.Turning.{run_adds_up}
use Rattle.boot_threads.specs.declared.work.Work.TheVariants as works
use Rattle.boot_threads.specs.declared.work.Worked.TheVariants as worked

-- what holds of each device's work holds of these, and there is one for each tty
serve_each : {G : Type 0} (P : Work G → Type 0) (ttys : List PlannedTty) (devices : List Device) (ws : List (Work G)) → AllThree IsServing ttys devices ws
    → ((t : ℕ) (device : Device) (count : ℕ) → slice_get devices t ≡ Some device → P (works.Serve device.chain device.output device.tty count)) → All P ws × (length ws ≡ length ttys)
serve_each P [] [] [] s each = (All-nil P, refl)
serve_each P [] [] (w ∷ ws) s each = absurd s
serve_each P [] (d ∷ devices) [] s each = absurd s
serve_each P [] (d ∷ devices) (w ∷ ws) s each = absurd s
serve_each P (p ∷ ttys) [] [] s each = absurd s
serve_each P (p ∷ ttys) [] (w ∷ ws) s each = absurd s
serve_each P (p ∷ ttys) (d ∷ devices) [] s each = absurd s
serve_each P (p ∷ ttys) (d ∷ devices) (w ∷ ws) s each =
    let rest = serve_each P ttys devices ws s.1 (λ t. each (suc t)) in
    (All-cons P w ws (subst P (sym s.0) (each 0 d (length p.typed) refl)) rest.0, ap suc rest.1)

module _ (shared : Shared) where
  servable : (device : Device) → IsAtWork shared.queues.small.items shared.chains.items device → IsServable shared device.chain device.tty
  servable device w = let c = there shared.chains.items device.chain w.chain_named in record { its = c.0; is = c.1; raw = w.end; chain_end = w.chain_end c.0 c.1 }

  abbrev AreAtWork : List Device → Type 0
  AreAtWork devices = (t : ℕ) (device : Device) → slice_get devices t ≡ Some device → IsAtWork shared.queues.small.items shared.chains.items device

  may_run : (G : Type 0) (p turns : ℕ) (gates : List G) (old new : Parts) (ttys : List PlannedTty) (devices : List Device) (posts ws : List (Work G))
      → ArePosted shared p turns gates old new posts → AreServing ttys devices posts ws → AreAtWork devices → All (MayWork shared) ws
  may_run G p turns [] old new ttys devices [] ws a s at = (serve_each (MayWork shared) ttys devices ws s (λ t device count here. servable device (at t device here))).0
  may_run G p turns [] old new ttys devices (w ∷ posts) ws a s at = absurd a
  may_run G p turns (g ∷ gates) old new ttys devices [] ws a s at = absurd a
  may_run G p turns (g ∷ gates) old new ttys devices (w ∷ posts) [] a s at = absurd s
  may_run G p turns (g ∷ gates) old new ttys devices (w ∷ posts) (w' ∷ ws) a s at =
      All-cons (MayWork shared) w' ws (subst (λ (z : Work G). MayWork shared z) (sym (s.0 ∙ a.1.is)) a.1.manned)
      (may_run G (p + 1) turns gates a.0 new ttys devices posts ws a.2 s.1 at)

  pub all_may : {G : Type 0} (turns : ℕ) (gates : List G) (old new : Parts) (devices : List Device) (posts ws : List (Work G))
      → ArePosted shared 0 turns gates old new posts → AreDevicesOf shared.plan shared.queues shared.chains.items devices → AreServing shared.plan.ttys devices posts ws → All (MayWork shared) ws
  all_may {G} turns gates old new devices posts ws a d s = may_run G 0 turns gates old new shared.plan.ttys devices posts ws a s (λ t device at. (d.each t device at).works)

  pub as_many_posts : {G : Type 0} (p turns : ℕ) (gates : List G) (old new : Parts) (posts : List (Work G)) → ArePosted shared p turns gates old new posts → length posts ≡ length gates
  as_many_posts p turns [] old new [] a = refl
  as_many_posts p turns [] old new (w ∷ posts) a = absurd a
  as_many_posts p turns (g ∷ gates) old new [] a = absurd a
  as_many_posts p turns (g ∷ gates) old new (w ∷ posts) a = ap suc (as_many_posts (p + 1) turns gates a.0 new posts a.2)

pub as_many_works : {G : Type 0} (ttys : List PlannedTty) (devices : List Device) (posts ws : List (Work G)) → AreServing ttys devices posts ws → length ws ≡ length posts + length ttys
as_many_works ttys devices [] ws s = let e = (serve_each (λ w. Unit {0}) ttys devices ws s (λ t device count here. tt)).1 in omega arith
as_many_works ttys devices (w ∷ posts) [] s = absurd s
as_many_works ttys devices (w ∷ posts) (w' ∷ ws) s = let e = as_many_works ttys devices posts ws s.1 in omega arith

module _ {G : Type 0} where
  pub serving_more : (ttys : List PlannedTty) (devices : List Device) (old new : List (Work G)) (tty : PlannedTty) (device : Device) (work : Work G)
      → AreServing ttys devices old new → IsServing tty device work → AreServing (ttys ++ tty ∷ []) (devices ++ device ∷ []) old (new ++ work ∷ [])
  serving_more ttys devices [] new tty device work all one = three_push IsServing ttys devices new tty device work all one
  serving_more ttys devices (w ∷ old) [] tty device work all one = absurd all
  serving_more ttys devices (w ∷ old) (v ∷ new) tty device work all one = (all.0, serving_more ttys devices old new tty device work all.1 one)

  pub serving_none : (old : List (Work G)) → AreServing [] [] old old
  serving_none [] = tt
  serving_none (w ∷ old) = (refl, serving_none old)

-- the turns of a processor come to what their log says
pub processed_so : {G : Type 0} (V : Views G) (T : Calls G) (shared : Shared) (work : Work G) (station back : Station) (p turns : ℕ) (gate gate' : G) → work ≡ works.Process station p turns gate → MayWork shared work
    → KeepsStation shared p station.parts back.parts → RanTurnsInOrder V T shared p turns gate gate' station.parts back.parts → HasWorked T shared work (worked.Processed (record { station = back; gate = gate' }))
processed_so {G} V T shared work station back p turns gate gate' is may keeps turned =
    subst (λ (w : Work G). HasWorked T shared w (worked.Processed (record { station = back; gate = gate' }))) (sym is)
    (keeps, (run_adds_up V T shared p turns gate gate' station.parts back.parts (subst (λ (w : Work G). MayWork shared w) is may) keeps turned).0)

pub served_so : {G : Type 0} (T : Calls G) (shared : Shared) (work : Work G) (chain count : ℕ) (line line' : LineOut) (tty tty' : RawTty) (its : ProcChain AnyQuaject Queues)
    → work ≡ works.Serve chain line tty count → MayWork shared work → its ≡ get_or shared.chains.items chain its
    → SameOut line line' → tty'.index ≡ tty.index → IsEndAt shared.queues.small.items tty'.index (end_of tty') → IsEndOf its tty'.chain → turn_of tty'.chain ≡ false
    → Served its count line tty line' tty' → HasWorked T shared work (worked.Served line' tty')
served_so {G} T shared work chain count line line' tty tty' its is may at same index raw ends idle served =
    subst (λ (w : Work G). HasWorked T shared w (worked.Served line' tty')) (sym is) (by (subst (λ (w : Work G). MayWork shared w) is may))
  where
    by : IsServable shared chain tty → HasServed shared chain count line tty line' tty'
    by m = let e : its ≡ m.its = at ∙ (sym (unwrap_or-slice_get shared.chains.items chain its) ∙ ap (λ (o : Option (ProcChain AnyQuaject Queues)). unwrap_or o its) m.is) in record {
      its = m.its;
      is = m.is;
      same = same;
      index = index;
      raw = raw;
      chain_end = subst (λ (c : ProcChain AnyQuaject Queues). IsEndOf c tty'.chain) e ends;
      idle = idle;
      served = subst (λ (c : ProcChain AnyQuaject Queues). Served c count line tty line' tty') e served;
    }
