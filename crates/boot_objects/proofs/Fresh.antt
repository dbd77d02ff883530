-- New queues, each with its only end.
use Rattle.boot_objects.proofs.Common.{◌≡◌, ℕ, zero, suc, ◌<◌, ◌≤◌, List, [], ◌∷◌, map, length, get_or, ap, arith, AllZip, length-map, All-head, All-tail, the_whole, ClaimQueue, QueueEnd, end_share, CanGive, IsIdleEnd, IsStock, All, View, first_of}
use Rattle.quajects.specs.Worlds.{IsFresh}
use Rattle.boot_objects.proofs.Zips.{zip_weaker, zip_first, zip_second}

module _ {n : ℕ} where
  idle_of : (queue : ClaimQueue n) (end : QueueEnd n) → IsFresh queue end → IsIdleEnd queue end
  idle_of queue end h = record {
    its = h.0;
    unused = (ap (λ (v : View). v.own.runs) h.2, ap (λ (v : View). v.own.takes) h.2);
    shuts = ap (λ (v : View). v.own.shuts) h.2;
  }

  pub fresh_stock : (queues : List (ClaimQueue n)) (ends : List (QueueEnd n)) → AllZip IsFresh queues ends → IsStock queues ends
  fresh_stock queues ends h = zip_weaker IsFresh IsIdleEnd idle_of queues ends h

  pub fresh_whole : (queues : List (ClaimQueue n)) (ends : List (QueueEnd n)) → AllZip IsFresh queues ends → All (λ end. end_share end ≡ the_whole) ends
  fresh_whole queues ends h = zip_second IsFresh (λ end. end_share end ≡ the_whole) (λ queue end f. ap (λ (v : View). v.member.share) f.2) queues ends h

  pub fresh_firsts : (queues : List (ClaimQueue n)) (ends : List (QueueEnd n)) → AllZip IsFresh queues ends → All (λ queue. first_of queue ≡ 0) queues
  fresh_firsts queues ends h = zip_first IsFresh (λ queue. first_of queue ≡ 0) (λ queue end f. f.1) queues ends h

module _ {E : Type 0} (share : E → ℕ) where
  pub whole_here : (ends : List E) → All (λ end. share end ≡ the_whole) ends → (q : ℕ) → q < length ends → get_or (map share ends) q 0 ≡ the_whole
  whole_here [] h q l = absurd (omega arith)
  whole_here (e ∷ ends) h zero l = All-head (λ end. share end ≡ the_whole) e ends h
  whole_here (e ∷ ends) h (suc q) l = whole_here ends (All-tail (λ end. share end ≡ the_whole) e ends h) q (omega arith)

  pub can_whole : (splits : ℕ) (ends : List E) → splits ≤ 2000 → All (λ end. share end ≡ the_whole) ends → CanGive splits (map share ends)
  can_whole splits ends few h = λ q l. let long = length-map ends share in let whole = whole_here ends h q (omega (arith, l, long)) in omega (arith, whole, few)
