-- The ends of ports are joined to a list of ends, one after the other.
use Rattle.boot_objects.proofs.Common.{◌≡◌, ℕ, zero, suc, Bool, true, false, List, [], ◌∷◌, ◌++◌, Some, None, sym, ap, subst, ◌∙◌, arith, ◌==◌, if◌then◌else◌, Option, flat_map, flat_map-cons, ClaimQueue, QueueEnd, QueueOps, nothing_did, did_both, Stake, no_stake, both_stakes, stake, stakes, at_each, AddsUp, dids_add, stakes_add, each_adds, Port, AllUp, Home, Gained, port_stakes, All, flat_map_more, HasRaised, AllFit, port_stake}
use Rattle.table_theory.specs.Listing.{AllRaised}
use Rattle.quajects.proofs.Joining.{raised_both}

adds : AddsUp (λ (q : ℕ). no_stake nothing_did) (at_each (both_stakes did_both))
adds = each_adds (stakes_add dids_add)

module _ {n : ℕ} where
  pub stakes_append : (xs ys : List (Option (Port n))) → port_stakes (xs ++ ys) ≡ at_each (both_stakes did_both) (port_stakes xs) (port_stakes ys)
  stakes_append [] ys = sym (adds.none_first (port_stakes ys))
  stakes_append (x ∷ xs) ys = (λ i. at_each (both_stakes did_both) (port_stake x) (stakes_append xs ys i)) ∙ sym (adds.regroups (port_stake x) (port_stakes xs) (port_stakes ys))

  pub gained_none : (ends : List (QueueEnd n)) → Gained [] ends ends
  gained_none ends = record { stakes_are = sym (adds.none_last (stakes ends)); known = λ q h. h }

  pub gained_nobody : (ends : List (QueueEnd n)) → Gained (None ∷ []) ends ends
  gained_nobody ends = record { stakes_are = sym (ap (at_each (both_stakes did_both) (stakes ends)) (adds.none_last (λ q. no_stake nothing_did)) ∙ adds.none_last (stakes ends)); known = λ q h. h }

  -- these, and then those
  pub gained_both : (xs ys : List (Option (Port n))) (a b c : List (QueueEnd n)) → Gained xs a b → Gained ys b c → Gained (xs ++ ys) a c
  gained_both xs ys a b c h k = record {
    stakes_are = k.stakes_are ∙ ((λ i. at_each (both_stakes did_both) (h.stakes_are i) (port_stakes ys))
        ∙ (adds.regroups (stakes a) (port_stakes xs) (port_stakes ys) ∙ (λ i. at_each (both_stakes did_both) (stakes a) (sym (stakes_append xs ys) i))));
    known = λ q s. k.known q (h.known q s);
  }

  fit_back : (queues : List (ClaimQueue n)) (xs ys : List (Option (Port n))) → AllFit queues (xs ++ ys) → AllFit queues ys
  fit_back queues [] ys h = h
  fit_back queues (None ∷ xs) ys h = fit_back queues xs ys h
  fit_back queues (Some x ∷ xs) ys h = fit_back queues xs ys h.1

  fit_one : (queues : List (ClaimQueue n)) (x : Option (Port n)) (ys : List (Option (Port n))) → AllFit queues (x ∷ ys) → AllFit queues (x ∷ [])
  fit_one queues None ys h = tt
  fit_one queues (Some x) ys h = (h.0, tt)

  pub fit_next : (queues : List (ClaimQueue n)) (xs : List (Option (Port n))) (x : Option (Port n)) (ys all : List (Option (Port n))) → xs ++ x ∷ ys ≡ all → AllFit queues all → AllFit queues (x ∷ [])
  fit_next queues xs x ys all e h = fit_one queues x ys (fit_back queues xs (x ∷ ys) (subst (AllFit queues) (sym e) h))

-- what comes home of one more
pub home_more : {n : ℕ} (ports_of : Home → List (Option (Port n))) (homes : List Home) (home : Home) (a b c : List (QueueEnd n)) → Gained (flat_map ports_of homes) a b → Gained (ports_of home) b c → Gained (flat_map ports_of (homes ++ home ∷ [])) a c
home_more ports_of homes home a b c h k = subst (λ z. Gained z a c) (flat_map_more ports_of [] homes home) (gained_both (flat_map ports_of homes) (ports_of home) a b c h k)

-- RAISED

none_raised : AllRaised []
none_raised m e at = absurd (cc)

chosen_raised : (b : Bool) (s : Stake QueueOps) → AllRaised s.did.runs → AllRaised (if b then s else no_stake nothing_did).did.runs
chosen_raised true s h = h
chosen_raised false s h = none_raised

module _ {n : ℕ} where
  pub ports_raised : (ports : List (Option (Port n))) → AllUp ports → (q : ℕ) → AllRaised (port_stakes ports q).did.runs
  ports_raised [] h q = none_raised
  ports_raised (None ∷ ports) h q = ports_raised ports h q
  ports_raised (Some port ∷ ports) h q = raised_both (port_stake (Some port) q).did.runs (port_stakes ports q).did.runs (chosen_raised (q == port.index) (stake port.end) h.0) (ports_raised ports h.1 q)

  raised_at : (ends : List (QueueEnd n)) → All HasRaised ends → (q : ℕ) → AllRaised (stakes ends q).did.runs
  raised_at [] h q = none_raised
  raised_at (e ∷ ends) h zero = h 0 e (omega arith)
  raised_at (e ∷ ends) h (suc q) = raised_at ends (λ k d l. h (suc k) d (omega arith)) q

  all_raised : (ends : List (QueueEnd n)) → ((q : ℕ) → AllRaised (stakes ends q).did.runs) → All HasRaised ends
  all_raised [] h k d l = absurd (omega arith)
  all_raised (e ∷ ends) h zero d l = h 0
  all_raised (e ∷ ends) h (suc k) d l = all_raised ends (λ q. h (suc q)) k d (omega arith)

  -- ends that gained such as have raised all have raised all
  pub gained_raised : (ports : List (Option (Port n))) (old new : List (QueueEnd n)) → Gained ports old new → All HasRaised old → AllUp ports → All HasRaised new
  gained_raised ports old new g h up = all_raised new (λ q. subst (λ (f : ℕ → Stake QueueOps). AllRaised (f q).did.runs) (sym g.stakes_are)
      (raised_both (stakes old q).did.runs (port_stakes ports q).did.runs (raised_at old h q) (ports_raised ports up q)))

  up_both : (xs ys : List (Option (Port n))) → AllUp xs → AllUp ys → AllUp (xs ++ ys)
  up_both [] ys h k = k
  up_both (None ∷ xs) ys h k = up_both xs ys h k
  up_both (Some x ∷ xs) ys h k = (h.0, up_both xs ys h.1 k)

  pub all_up : (ports_of : Home → List (Option (Port n))) (homes : List Home) → All (λ home. AllUp (ports_of home)) homes → AllUp (flat_map ports_of homes)
  all_up ports_of [] h = tt
  all_up ports_of (home ∷ homes) h = subst AllUp (sym (flat_map-cons ports_of home homes)) (up_both (ports_of home) (flat_map ports_of homes) (h 0 home (omega arith)) (all_up ports_of homes (λ k d l. h (suc k) d (omega arith))))
