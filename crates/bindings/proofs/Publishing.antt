-- Which of the items left were published, and how they are copied.
use Rattle.bindings.proofs.Calls.{◌≡◌, ◌⊎◌, inl, inr, ◌≤◌, ◌<◌, ◌+◌, ◌/◌, ◌∙◌, ℕ, zero, suc, List, [], ◌∷◌, ◌++◌, length}
use Rattle.bindings.proofs.Calls.{take, set, slice_get, Some, sym, ap, subst, arith, IsKeptFrom, the, get_or, refl}
use Rattle.bindings.proofs.Calls.{slice_get-get_or}
use Rattle.std.proofs.Common.{⊎_elim}
use Rattle.std.proofs.Math.Seq.{take-suc}
use Rattle.std.proofs.lemmas.Option.{slice_get_within}
use Rattle.std.proofs.lemmas.Bool.{cases_lt}
use Rattle.batch_queue.specs.Lefts.{AllPublished, IsPublished, IsPublishedFrom, items_left, mark_left}
use Rattle.batch_queue.specs.declared.left.LeftItems.{LeftItems}
use Rattle.bindings.specs.BatchHeld.{CopiedNext, PublishedOf, Reaches}
use Rattle.bindings.proofs.Buffers.{filled_more, kept_more}

-- published batches that begin with one of the first n items reach up to `past`, and none reaches further
pub record HaveReach (left : LeftItems) (n past : ℕ) : Type 0 where
  pub most : (s e : ℕ) → s < n → IsPublishedFrom left s e → e ≤ past
  pub by : (past ≡ 0) ⊎ ((s : ℕ) × (s < n) × IsPublishedFrom left s past)

-- two ends of one batch are one
pub one_end : (left : LeftItems) (i e f : ℕ) → IsPublishedFrom left i e → IsPublishedFrom left i f → e ≡ f
one_end left i e f h k = let a = h.1 in let b = k.1 in omega arith

pub reach_none : (left : LeftItems) → HaveReach left 0 0
reach_none left = record { most = λ s e below. absurd (omega arith); by = inl refl }

pub reach_more : (left : LeftItems) (n past to : ℕ) → HaveReach left n past → Reaches left n past to → HaveReach left (n + 1) to
reach_more left n past to h r = record {
  most = λ s e below is. ⊎_elim (λ before. (let m = h.most s e before is in let up = r.0 in omega arith)) (λ here. (let same : s ≡ n = omega arith in r.1 e (subst (λ (z : ℕ). IsPublishedFrom left z e) same is))) (cases_lt s n);
  by = ⊎_elim (λ same. ⊎_elim (λ none. inl (same ∙ none)) (λ some. inr (some.0, (let b = some.1 in omega arith), subst (IsPublishedFrom left some.0) (sym same) some.2)) h.by) (λ new. inr (n, omega arith, new)) r.2;
}

-- an item is published exactly if published batches reach past it
pub published_if : (left : LeftItems) (n past : ℕ) → HaveReach left (n + 1) past → n < past → IsPublished left n
published_if left n past h less = ⊎_elim (λ none. absurd (omega arith)) (λ some. (some.0, past, (let b = some.1 in omega arith), less, some.2)) h.by

pub not_published : (left : LeftItems) (n past : ℕ) → HaveReach left (n + 1) past → past ≤ n → IsPublished left n → ⊥
not_published left n past h far is = let m = h.most is.0 is.1 (let a = is.2 in omega arith) is.4 in let b = is.3 in omega arith

-- what was copied of the first items, once one item more was copied or not
pub copied_more : (left : LeftItems) (n past place next : ℕ) (first old new : List ℕ) → HaveReach left (n + 1) past → place < length old → PublishedOf left n (take place old) → IsKeptFrom place first old → CopiedNext left n past place old new next
    → PublishedOf left (suc n) (take next new) × IsKeptFrom next first new × (next ≤ place + 1)
copied_more left n past place next first old new h room copied kept did = ⊎_elim
    (λ no. (let none = not_published left n past h no.0 in let same : take place old ≡ take next new = (λ i. take (sym no.1 i) (sym no.2 i)) in
    (inr (none, subst (PublishedOf left n) same copied), subst (λ (z : List ℕ). IsKeptFrom next first z) (sym no.2) (subst (λ (z : ℕ). IsKeptFrom z first old) (sym no.1) kept), (let e = no.1 in omega arith))))
    (λ yes. (let x : ℕ = yes.2 in let is : take next new ≡ take place old ++ x ∷ [] = (λ i. take (yes.1 i) (yes.4 i)) ∙ filled_more place x old room in
    (inl (published_if left n past h yes.0, take place old, x, copied, yes.3, is), subst (λ (z : List ℕ). IsKeptFrom next first z) (sym yes.4) (subst (λ (z : ℕ). IsKeptFrom z first (set old place x)) (sym yes.1) (kept_more place x first old kept)), (let e = yes.1 in omega arith))))
    did

take_more : (xs : List ℕ) (n x : ℕ) → slice_get xs n ≡ Some x → take (suc n) xs ≡ take n xs ++ x ∷ []
take_more xs n x at = let below : n < length xs = slice_get_within xs n x at in let is : get_or xs n x ≡ x = ap (the x) (sym (slice_get-get_or xs n x below) ∙ at) in
    take-suc xs n x below ∙ ap (λ (z : ℕ). take n xs ++ z ∷ []) is

pub take_none : (xs : List ℕ) → take 0 xs ≡ []
take_none [] = refl
take_none (x ∷ xs) = refl

-- if all items are published, all are copied
pub all_copied : (left : LeftItems) (n : ℕ) (xs : List ℕ) → ((i : ℕ) → i < n → IsPublished left i) → PublishedOf left n xs → xs ≡ take n (items_left left)
all_copied left zero xs all h = h ∙ sym (take_none (items_left left))
all_copied left (suc n) xs all h = ⊎_elim (λ yes. yes.5 ∙ ap (λ (z : List ℕ). z ++ yes.2 ∷ []) (all_copied left n yes.1 (λ i less. all i (omega arith)) yes.3) ∙ sym (take_more (items_left left) n yes.2 yes.4)) (λ no. absurd (no.0 (all n (omega arith)))) h

length-take_of : (n : ℕ) (xs : List ℕ) → n ≤ length xs → length (take n xs) ≡ n
length-take_of zero xs fits = ap length (take_none xs)
length-take_of (suc n) [] fits = absurd (omega arith)
length-take_of (suc n) (x ∷ xs) fits = ap suc (length-take_of n xs (omega arith))

pub all_of : (xs : List ℕ) → take (length xs) xs ≡ xs
all_of [] = refl
all_of (x ∷ xs) = ap (λ (z : List ℕ). x ∷ z) (all_of xs)

-- what was copied counts as many items as the copy has
pub counted : (n : ℕ) (new xs : List ℕ) → n ≤ length new → take n new ≡ xs → n ≡ length xs
counted n new xs fits is = sym (length-take_of n new fits) ∙ ap length is
