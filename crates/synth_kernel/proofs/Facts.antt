-- What a boot knows of what came back, by the works that it gave.
use Rattle.synth_kernel.proofs.Common.{◌≡◌, ℕ, zero, suc, ◌+◌, List, [], ◌∷◌, map, drop, length, Option, Some, Result, slice_get, refl, sym, ap, subst, ◌∙◌, arith, length-map, AllZip, PlannedTty, AreRawsOf, Calls, AllThree, Device, Shared, RawTty, Typed, LineIn, IsLine, Work, Worked, GaveBack, AreServing, input_of, AreTyped, Back, HasWorked, Served, served_in, tty_of, TotalsAre, ◌<◌, ◌%◌, HaveBack, tty_shares, end_of, bytes_received, IsDeviceBack, device_of, device_back, short, RunsOf, RefusalsOf}
use Rattle.std.proofs.lemmas.Option.{slice_get_within as at_below}
use Rattle.boot_data.specs.QueueLists.{raw_queue}
use Rattle.boot_objects.specs.Devices.{AreDevicesOf}
use Rattle.boot_objects.specs.DeviceEndings.{DeviceEnded}
use Rattle.processor.specs.RawEnds.{IsRawAt}
use Rattle.quajects.proofs.Routes.{mapped_at}
use Rattle.boot_report.specs.Shown.{ShowsDevice, ShowsDevices}
use Rattle.boot_laws.specs.ClosedTables as closed
use Rattle.spsc_line.specs.declared.line_out.LineOut.{LineOut}
use Rattle.boot_threads.specs.declared.work.Worked.TheVariants as worked
use Rattle.event_theory.proofs.Lists.Placed.{there as some_at, zip_from}
use Rattle.synth_kernel.proofs.Backs.{Sorted, served_after}

-- LISTS

same_maps : {A B C : Type 0} (f : A → C) (g : B → C) (xs : List A) (ys : List B) → length xs ≡ length ys → ((k : ℕ) (x : A) (y : B) → slice_get xs k ≡ Some x → slice_get ys k ≡ Some y → f x ≡ g y) → map f xs ≡ map g ys
same_maps f g [] [] long each = refl
same_maps f g [] (y ∷ ys) long each = absurd (omega arith)
same_maps f g (x ∷ xs) [] long each = absurd (omega arith)
same_maps f g (x ∷ xs) (y ∷ ys) long each = λ i. each 0 x y refl refl i ∷ same_maps f g xs ys (omega arith) (λ k. each (suc k)) i

map_map : {A B C : Type 0} (xs : List A) (f : A → B) (g : B → C) → map g (map f xs) ≡ map (λ x. g (f x)) xs
map_map [] f g = refl
map_map (x ∷ xs) f g = ap (λ z. g (f x) ∷ z) (map_map xs f g)

pub one_same : {A : Type 0} (x y : A) (o : Option A) → o ≡ Some x → o ≡ Some y → x ≡ y
one_same x y o e f = cc

pub three_of : {A B C : Type 0} (R : A → B → C → Type 0) (xs : List A) (ys : List B) (zs : List C) (i : ℕ) (x : A) (y : B) (z : C) → AllThree R xs ys zs → slice_get xs i ≡ Some x → slice_get ys i ≡ Some y → slice_get zs i ≡ Some z → R x y z
three_of R [] [] [] i x y z h a b c = absurd (cc)
three_of R [] [] (w ∷ zs) i x y z h a b c = absurd h
three_of R [] (v ∷ ys) zs i x y z h a b c = absurd h
three_of R (u ∷ xs) [] zs i x y z h a b c = absurd h
three_of R (u ∷ xs) (v ∷ ys) [] i x y z h a b c = absurd h
three_of {A} {B} {C} R (u ∷ xs) (v ∷ ys) (w ∷ zs) zero x y z h a b c = let p : u ≡ x = cc in let q : v ≡ y = cc in let r : w ≡ z = cc in
    subst (λ (k : C). R x y k) r (subst (λ (k : B). R x k w) q (subst (λ (k : A). R k v w) p h.0))
three_of R (u ∷ xs) (v ∷ ys) (w ∷ zs) (suc i) x y z h a b c = three_of R xs ys zs i x y z h.1 a b c

pub three_lengths : {A B C : Type 0} (R : A → B → C → Type 0) (xs : List A) (ys : List B) (zs : List C) → AllThree R xs ys zs → (length ys ≡ length xs) × (length zs ≡ length xs)
three_lengths R [] [] [] h = (refl, refl)
three_lengths R [] [] (w ∷ zs) h = absurd h
three_lengths R [] (v ∷ ys) zs h = absurd h
three_lengths R (u ∷ xs) [] zs h = absurd h
three_lengths R (u ∷ xs) (v ∷ ys) [] h = absurd h
three_lengths R (u ∷ xs) (v ∷ ys) (w ∷ zs) h = let l = three_lengths R xs ys zs h.1 in (ap suc l.0, ap suc l.1)

pub typed_long : {H N : Type 0} (ttys : List PlannedTty) (backs : List (Result H N)) (old new : List LineIn) → AreTyped ttys backs old new → length new ≡ length ttys
typed_long [] [] [] [] h = refl
typed_long [] [] [] (n ∷ new) h = absurd h
typed_long [] [] (o ∷ old) new h = absurd h
typed_long [] (b ∷ backs) old new h = absurd h
typed_long (t ∷ ttys) [] old new h = absurd h
typed_long (t ∷ ttys) (b ∷ backs) [] new h = absurd h
typed_long (t ∷ ttys) (b ∷ backs) (o ∷ old) [] h = absurd h
typed_long (t ∷ ttys) (b ∷ backs) (o ∷ old) (n ∷ new) h = ap suc (typed_long ttys backs old new h.1)

low_mod : (n : ℕ) → n < 18446744073709551616 → n % 18446744073709551616 ≡ n
low_mod n low = omega arith

-- DEVICES

same_served : {G : Type 0} (a b : LineOut) (x y : RawTty) → ◌≡◌ {A = Worked G} (worked.Served a x) (worked.Served b y) → (a ≡ b) × (x ≡ y)
same_served a b x y e = (cc, cc)

-- what the device did that gave this back
abbrev pub did_of : Served → closed.Device
did_of one = device_of one.line one.tty

module _ {G : Type 0} (ran : RunsOf G) (refused : RefusalsOf G) (T : Calls G) (shared : Shared) (devices : List Device) (posts ws : List (Work G)) (backs : List (Back G)) (inputs : List LineIn) (are : AreDevicesOf shared.plan shared.queues shared.chains.items devices)
    (serving : AreServing shared.plan.ttys devices posts ws) (gave : AllZip (GaveBack ran refused (HasWorked T) shared) ws backs) (typed : AreTyped shared.plan.ttys (drop (length posts) backs) (map input_of devices) inputs)
    (f : Sorted (length posts) (length shared.plan.ttys) backs) where
  device_came : (t : ℕ) (p : PlannedTty) (device : Device) (input : LineIn) (one : Served) → slice_get shared.plan.ttys t ≡ Some p → slice_get devices t ≡ Some device → slice_get inputs t ≡ Some input
      → slice_get (served_in backs) t ≡ Some one → IsDeviceBack shared t p device input one.line one.tty
  device_came t p device input one at at' at'' its =
      let b = device_back ran refused T shared devices posts ws backs inputs are serving gave typed t p device input (worked.Served one.line one.tty) at at' at'' (served_after (length posts) (length shared.plan.ttys) backs f t one its) in
      let s = same_served {G = G} one.line b.0 one.tty b.1 b.2 in
      subst (λ (l : LineOut). IsDeviceBack shared t p device input l one.tty) (sym s.0) (subst (λ (y : RawTty). IsDeviceBack shared t p device input b.0 y) (sym s.1) b.3)

  inputs_long : length inputs ≡ length shared.plan.ttys
  inputs_long = typed_long shared.plan.ttys (drop (length posts) backs) (map input_of devices) inputs typed

  -- the element at a place of all lists
  came_at : (t : ℕ) (one : Served) → slice_get (served_in backs) t ≡ Some one → (p : PlannedTty) × (device : Device) × (input : LineIn) × (slice_get shared.plan.ttys t ≡ Some p) × (slice_get devices t ≡ Some device) × (slice_get inputs t ≡ Some input)
      × IsDeviceBack shared t p device input one.line one.tty
  came_at t one its =
      let low = at_below (served_in backs) t one its in
      let many = f.ttys_are in let number = are.number in let long = inputs_long in
      let p = some_at shared.plan.ttys t (omega arith) in let d = some_at devices t (omega arith) in let i = some_at inputs t (omega arith) in
      (p.0, d.0, i.0, p.1, d.1, i.1, device_came t p.0 d.0 i.0 one p.1 d.1 i.1 its)

  pub lines_pair : AllZip (λ (one : Served) (input : LineIn). IsLine input one.line) (served_in backs) inputs
  lines_pair = zip_from (λ (one : Served) (input : LineIn). IsLine input one.line) (served_in backs) inputs (f.ttys_are ∙ sym inputs_long)
      (λ i one input at at'. let c = came_at i one at in subst (λ (z : LineIn). IsLine z one.line) (one_same c.2 input (slice_get inputs i) c.5 at') c.6.pair)

  pub raws_are : AreRawsOf shared (map tty_of (served_in backs))
  raws_are k tty at =
      let m = mapped_at tty_of (served_in backs) k tty at in
      let c = came_at k m.0 m.1 in
      subst (λ (z : RawTty). IsRawAt shared (raw_queue (length shared.plan.queues) k) (length shared.plan.movers + k) z) m.2 c.6.raw_at

  pub had_back : HaveBack devices (map tty_of (served_in backs))
  had_back = map_map (served_in backs) tty_of tty_shares ∙ same_maps (λ one. tty_shares (tty_of one)) (λ (d : Device). tty_shares d.tty) (served_in backs) devices (f.ttys_are ∙ sym are.number)
      (λ k one d at at'. let c = came_at k one at in
      (λ i. (c.6.shares.0 i, c.6.shares.1 i)) ∙ ap (λ (d : Device). tty_shares d.tty) (one_same c.1 d (slice_get devices k) c.4 at'))

  module _ (reported : List Typed) (reports : AllThree TotalsAre (served_in backs) inputs reported) where
    told_at : (t : ℕ) (one : Served) (its : slice_get (served_in backs) t ≡ Some one) → (what : Typed) × (slice_get reported t ≡ Some what) × TotalsAre one (came_at t one its).2 what
    told_at t one its =
        let low = at_below (served_in backs) t one its in let l = (three_lengths TotalsAre (served_in backs) inputs reported reports).1 in
        let w = some_at reported t (omega arith) in
        (w.0, w.1, three_of TotalsAre (served_in backs) inputs reported t one (came_at t one its).2 w.0 reports its (came_at t one its).5 w.1)

    ended_at : (t : ℕ) (one : Served) (its : slice_get (served_in backs) t ≡ Some one) → DeviceEnded (came_at t one its).0 (end_of one.tty) (did_of one)
    ended_at t one its = (came_at t one its).6.all (told_at t one its).2.whole

    pub devices_ended : (t : ℕ) (p : PlannedTty) (raw : RawTty) (d : closed.Device) → slice_get shared.plan.ttys t ≡ Some p → slice_get (map tty_of (served_in backs)) t ≡ Some raw → slice_get (map did_of (served_in backs)) t ≡ Some d
        → DeviceEnded p (end_of raw) d
    devices_ended t p raw d at at' at'' =
        let m = mapped_at tty_of (served_in backs) t raw at' in let n = mapped_at did_of (served_in backs) t d at'' in
        let same : n.0 ≡ m.0 = one_same n.0 m.0 (slice_get (served_in backs) t) n.1 m.1 in
        let e = ended_at t m.0 m.1 in
        subst (λ (z : PlannedTty). DeviceEnded z (end_of raw) d) (one_same (came_at t m.0 m.1).0 p (slice_get shared.plan.ttys t) (came_at t m.0 m.1).3 at)
        (subst (λ (z : RawTty). DeviceEnded (came_at t m.0 m.1).0 (end_of z) d) m.2
        (subst (λ (z : closed.Device). DeviceEnded (came_at t m.0 m.1).0 (end_of m.0.tty) z) (ap did_of (sym same) ∙ n.2) e))

    pub devices_shown : ShowsDevices (map did_of (served_in backs)) reported
    devices_shown = record {
      as_many = (three_lengths TotalsAre (served_in backs) inputs reported reports).1 ∙ sym (length-map (served_in backs) did_of);
      each = λ k d its at at'.
          let n = mapped_at did_of (served_in backs) k d at in
          let w = told_at k n.0 n.1 in
          let c = came_at k n.0 n.1 in
          let e = ended_at k n.0 n.1 in
          let few = short shared.plan k c.0 c.3 in
          let all = ap length e.popped in
          let same : w.0 ≡ its = one_same w.0 its (slice_get reported k) w.1 at' in
          subst (λ (z : closed.Device). ShowsDevice z its) n.2 (subst (λ (z : Typed). ShowsDevice (did_of n.0) z) same (record {
            popped = let p = w.2.popped in p ∙ low_mod (length (bytes_received n.0.line)) (let a = all in omega arith);
            refused = w.2.refused;
          }));
    }
