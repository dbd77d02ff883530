-- What the ends at ports have of a queue together, end by end.
use Rattle.boot_laws.proofs.Common.{◌≡◌, ℕ, Bool, true, false, List, [], ◌∷◌, ◌++◌, append_assoc, map, refl, sym, ap, ◌∙◌, Option, Some, None, flat_map, if◌then◌else◌, ◌==◌, map-append, QueueEnd, no_stake, stake, at_one, Port, Batch, ends_at, QueueOps, view_of, line_of, port_stakes}
use Rattle.claim_queue.specs.Own.{View, nothing_did, did_both}
use Rattle.boot_laws.proofs.Queues.Takings.{of_ends, of_next}

pub map_flat : (f : View → List Batch) (vs : List View) → map line_of (flat_map f vs) ≡ flat_map (λ v. map line_of (f v)) vs
map_flat f [] = refl
map_flat f (v ∷ vs) = map-append line_of (f v) (flat_map f vs) ∙ ap (λ z. map line_of (f v) ++ z) (map_flat f vs)

module _ {n : ℕ} where
  pub ends_more : (q : ℕ) (a b : List (Option (Port n))) → ends_at q (a ++ b) ≡ ends_at q a ++ ends_at q b
  ends_more q [] b = refl
  ends_more q (None ∷ a) b = ends_more q a b
  ends_more q (Some p ∷ a) b = ap (λ z. at_one [] p.index (p.end ∷ []) q ++ z) (ends_more q a b) ∙ sym (append_assoc (at_one [] p.index (p.end ∷ []) q) (ends_at q a) (ends_at q b))

  module _ (f : QueueOps → List Batch) (none : f nothing_did ≡ []) (both : (a b : QueueOps) → f (did_both a b) ≡ f a ++ f b) where
    one_list : (end : QueueEnd n) (b : Bool) → f (if b then stake end else no_stake nothing_did).did ≡ (if b then f (view_of end).own else [])
    one_list end true = refl
    one_list end false = none

    -- what they list, one after the other
    pub ports_list : (ports : List (Option (Port n))) (q : ℕ) → f (port_stakes ports q).did ≡ of_ends (λ v. f v.own) (ends_at q ports)
    ports_list [] q = none
    ports_list (None ∷ ports) q = both nothing_did (port_stakes ports q).did ∙ (λ i. none i ++ ports_list ports q i)
    ports_list (Some p ∷ ports) q = both _ (port_stakes ports q).did ∙ ((λ i. one_list p.end (q == p.index) i ++ ports_list ports q i) ∙ sym (of_next (λ v. f v.own) p.index q p.end (ends_at q ports)))
