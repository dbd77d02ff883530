-- Which runs are still to be raised after an event, and whose claims they are.
use Rattle.thread_table.proofs.Common.{◌≡◌, ◌≢◌, ◌⊎◌, ⊎_elim, inl, ℕ, ◌<◌, Bool, false, List, length, set, get_or, Some, None, sym, ap, subst, ◌∙◌, dite, some, ℕ_discrete, get_elem?, Elements, Queue, Run, set_here, set_else, at_below, one_at, RINGS, View, Claimed, ring_at, element_at, element_of, no_run, claim_of, IsOpen}
use Rattle.thread_table.proofs.Shown.QueueWords.{none_some}

-- a run that isn't raised after an event is then the hand's claim, or it wasn't raised before and wasn't the hand's
abbrev pub Owes : View → View → Elements → Elements → Type 0
Owes v w e f = (ring run : ℕ) → ring < RINGS → IsOpen ring run f
    → (IsOpen ring run e × (element_at (ring_at f ring) run ≡ element_at (ring_at e ring) run)
    × (v.own.claimed ≡ Some (claim_of ring run (element_at (ring_at e ring) run)) → ⊥))
    ⊎ (w.own.claimed ≡ Some (claim_of ring run (element_at (ring_at f ring) run)))

-- the same of one queue, q before and r after the event
abbrev pub QueueOwes : View → View → ℕ → Queue → Queue → Type 0
QueueOwes v w ring q r = (run : ℕ) → run < length r.history → r.raised run 0 ≡ false
    → (((run < length q.history) × (q.raised run 0 ≡ false)) × (element_at r run ≡ element_at q run)
    × (v.own.claimed ≡ Some (claim_of ring run (element_at q run)) → ⊥))
    ⊎ (w.own.claimed ≡ Some (claim_of ring run (element_at r run)))

-- nothing was claimed or raised, and the hand had no claim
pub queue_owes : (v w : View) (ring : ℕ) (q r : Queue) → v.own.claimed ≡ None → r.history ≡ q.history → r.raised ≡ q.raised → QueueOwes v w ring q r
queue_owes v w ring q r none history raised run below low = inl (
  (subst (λ (h : List Run). run < length h) history below, ap (λ (p : ℕ → ℕ → Bool). p run 0) (sym raised) ∙ low),
  ap (λ (h : List Run). element_of (get_or h run no_run)) history,
  λ is. none_some _ v.own.claimed none is,
)

pub each_owes : (v w : View) (e f : Elements) → ((ring : ℕ) → QueueOwes v w ring (ring_at e ring) (ring_at f ring)) → Owes v w e f
each_owes v w e f each ring run below is = each ring run is.0 is.1

-- all queues stayed
pub same_owes : (v w : View) (e f : Elements) → v.own.claimed ≡ None → ((ring : ℕ) → ring_at f ring ≡ ring_at e ring) → Owes v w e f
same_owes v w e f none same = each_owes v w e f (λ ring. queue_owes v w ring (ring_at e ring) (ring_at f ring) none (ap (λ (q : Queue). q.history) (same ring)) (ap (λ (q : Queue). q.raised) (same ring)))

-- one queue changed
pub ring_owes : (v w : View) (e f : Elements) (ring : ℕ) (new : Queue) → ring_at f ring ≡ new → ((l : ℕ) → l ≢ ring → ring_at f l ≡ ring_at e l)
    → QueueOwes v w ring (ring_at e ring) new → ((l : ℕ) → l ≢ ring → QueueOwes v w l (ring_at e l) (ring_at e l)) → Owes v w e f
ring_owes v w e f ring new here stay mine others = each_owes v w e f (λ l. dite (ℕ_discrete l ring)
    (λ same. subst (λ (n : ℕ). QueueOwes v w n (ring_at e n) (ring_at f n)) (sym same) (subst (QueueOwes v w ring (ring_at e ring)) (sym here) mine))
    (λ ne. subst (QueueOwes v w l (ring_at e l)) (sym (stay l ne)) (others l ne)))

-- the claim is a hand's
abbrev pub IsOwned : List View → Claimed → Type 0
IsOwned views c = (j : ℕ) × (v : View) × (get_elem? views j ≡ some v) × (v.own.claimed ≡ Some c)

-- each run that isn't raised is a hand's claim
abbrev pub AllOwned : List View → Elements → Type 0
AllOwned views e = (ring run : ℕ) → ring < RINGS → IsOpen ring run e → IsOwned views (claim_of ring run (element_at (ring_at e ring) run))

-- a claim stays a hand's, where one view changed that kept it or didn't have it
pub owned_set : (views : List View) (id : ℕ) (v w : View) (c : Claimed) → get_elem? views id ≡ some v → (v.own.claimed ≡ Some c → w.own.claimed ≡ Some c) → IsOwned views c → IsOwned (set views id w) c
owned_set views id v w c at keeps o = dite (ℕ_discrete o.0 id)
    (λ same. let is : v ≡ o.1 = one_at views id v o.1 at (subst (λ (z : ℕ). get_elem? views z ≡ some o.1) same o.2) in
    (id, w, set_here views id w (at_below views id v at), keeps (ap (λ (u : View). u.own.claimed) is ∙ o.3)))
    (λ ne. (o.0, o.1, set_else views id o.0 w ne ∙ o.2, o.3))

-- an event of a hand, whose view becomes w
pub claims_set : (views : List View) (id : ℕ) (v w : View) (e f : Elements) → get_elem? views id ≡ some v → Owes v w e f → AllOwned views e → AllOwned (set views id w) f
claims_set views id v w e f at owes owned ring run below is = ⊎_elim
    (λ old. subst (λ (x : ℕ). IsOwned (set views id w) (claim_of ring run x)) (sym old.1)
    (owned_set views id v w (claim_of ring run (element_at (ring_at e ring) run)) at (λ claims. absurd (old.2 claims)) (owned ring run below old.0)))
    (λ new. (id, w, set_here views id w (at_below views id v at), new))
    (owes ring run below is)

-- no event, and the view keeps its claim
pub claims_kept : (views : List View) (id : ℕ) (v w : View) (e : Elements) → get_elem? views id ≡ some v → w.own.claimed ≡ v.own.claimed → AllOwned views e → AllOwned (set views id w) e
claims_kept views id v w e at claimed owned ring run below is =
    owned_set views id v w (claim_of ring run (element_at (ring_at e ring) run)) at (λ claims. claimed ∙ claims) (owned ring run below is)
