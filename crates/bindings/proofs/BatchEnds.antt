-- An end of a batch queue keeps its share, and a closed queue leaves no more than its places.
use Rattle.bindings.proofs.Calls.{◌≡◌, ◌⊎◌, inl, inr, ◌≤◌, ◌<◌, ◌+◌, ◌-◌, ◌*◌, ◌/◌, ◌^◌, ◌∙◌, ℕ, zero, suc, List, []}
use Rattle.bindings.proofs.Calls.{◌∷◌, ◌++◌, length, take, set, get_or, slice_get, Some, max, sym, ap, subst, arith}
use Rattle.bindings.proofs.Calls.{∥∥₁_elim, slice_get-get_or, the, Result, Ok, Err, MatchResult}
use Rattle.std.proofs.Math.Nat.{ℕ_set, pow-suc}
use Rattle.std.proofs.Math.Pow.{pow_mono}
use Rattle.std.proofs.Math.Seq.{take-suc}
use Rattle.std.proofs.lemmas.Nat.{pow_pos}
use Rattle.std.proofs.lemmas.List.{length-drop}
use Rattle.std.proofs.lemmas.Bool.{cases_lt}
use Rattle.std.proofs.lemmas.Option.{slice_get_within}
use Rattle.table_theory.specs.declared.views.AbsState.{AbsState}
use Rattle.batch_queue.specs.Own.{View}
use Rattle.batch_queue.specs.Object.{items_of}
use Rattle.batch_queue.specs.declared.rule.BatchState.{BatchState}
use Rattle.batch_queue.specs.Lines.{SameLines, PutLine}
use Rattle.batch_queue.specs.Parts.{FilledSome, SameSome}
use Rattle.batch_queue.specs.Plain.{BatchQueue}
use Rattle.atomic_table.specs.Seated.{TableId}
use Rattle.batch_queue.specs.Handles.{IsEndOf}
use Rattle.batch_queue.specs.Takings.{FilledBuffer}
use Rattle.batch_queue.specs.declared.ends.BatchEnd.{BatchEnd}
use Rattle.batch_queue.specs.Closings.{ClosedNow}
use Rattle.bindings.specs.BatchHeld.{PutRefusal, TakeRefusal, view_of, room_of}
use Rattle.bindings.proofs.Buffers.{filled_more}

pub put_keeps : (items : List ℕ) (v w : View) (answer : Result ℕ PutRefusal)
    → MatchResult answer (λ start. PutLine items v w) (λ r. SameLines v w) → w.member.share ≡ v.member.share
put_keeps items v w (Ok start) h = h.0.share
put_keeps items v w (Err r) h = h.0.share

pub put_some_keeps : (items : List ℕ) (v w : View) (answer : Result (ℕ × ℕ) PutRefusal)
    → MatchResult answer (λ r. (0 < r.1) × (r.1 ≤ length items) × PutLine (take r.1 items) v w) (λ r. SameLines v w) → w.member.share ≡ v.member.share
put_some_keeps items v w (Ok r) h = h.2.0.share
put_some_keeps items v w (Err r) h = h.0.share

pub take_keeps : (old new : List ℕ) (v w : View) (answer : Result ℕ TakeRefusal)
    → MatchResult answer (λ n. FilledBuffer n old new v w) (λ r. SameLines v w × (new ≡ old)) → w.member.share ≡ v.member.share
take_keeps old new v w (Ok n) h = h.took.0.share
take_keeps old new v w (Err r) h = h.0.0.share

pub take_some_keeps : (old new : List ℕ) (v w : View) (answer : Result ℕ TakeRefusal)
    → MatchResult answer (λ n. FilledSome n old new v w) (λ r. SameSome v w × (new ≡ old)) → w.member.share ≡ v.member.share
take_some_keeps old new v w (Ok n) h = h.took.share
take_some_keeps old new v w (Err r) h = h.0.0.share

-- the end has seen a queue with the places of its own
pub seen_room : (queue : BatchQueue) (end : BatchEnd) → IsEndOf queue end → (view_of end).seen.object.room ≡ room_of queue
seen_room queue end is = ∥∥₁_elim end.ruled (ℕ_set _ _) (λ r.
    ap (λ (m : AbsState BatchState). m.object.room) r.seen ∙ r.rule.room ∙ sym (ap (λ (o : BatchState). o.room) (r.rule.stands.true_ends.first_is r.number (view_of end) r.here))
    ∙ (end.room ∙ (ap (λ (t : TableId). t.slots) is ∙ queue.sized.1)))

-- what is left fits into as many places as the queue has
pub left_within : (queue : BatchQueue) (end : BatchEnd) (put taken : ℕ) (left : List ℕ) → IsEndOf queue end → ClosedNow (view_of end) put taken left → length left ≤ room_of queue
left_within queue end put taken left is c =
    let items : List ℕ = items_of (view_of end).seen.object in let many : length left ≡ length items - taken = ap length c.left_is ∙ length-drop taken items in
    let p = c.puts in let w = c.within in let room = seen_room queue end is in omega arith

-- a number whose next power of two is another one is none
no_power_after : (n j k : ℕ) → (k < suc j) ⊎ (suc j ≤ k) → n ≤ 2 ^ suc j → 2 ^ suc j / 2 < max 1 n → (2 ^ suc j ≡ n → ⊥) → n ≡ 2 ^ k → ⊥
no_power_after n j k (inl below) le up other e =
    let less : 2 ^ k ≤ 2 ^ j = pow_mono {i = k} {j = j} (omega arith) in let double : 2 ^ suc j ≡ 2 ^ j * 2 = pow-suc 2 j in let some : 0 < 2 ^ j = pow_pos j in omega arith
no_power_after n j k (inr past) le up other e = let less : 2 ^ suc j ≤ 2 ^ k = pow_mono {i = suc j} {j = k} past in let same : 2 ^ suc j ≡ n = omega arith in other same

no_power_at : (n j k : ℕ) → n ≤ 2 ^ j → 2 ^ j / 2 < max 1 n → (2 ^ j ≡ n → ⊥) → n ≡ 2 ^ k → ⊥
no_power_at n zero k le up other e = let some : 0 < 2 ^ k = pow_pos k in let same : 2 ^ zero ≡ n = omega arith in other same
no_power_at n (suc j) k le up other e = no_power_after n j k (cases_lt k (suc j)) le up other e

pub no_power : (n p : ℕ) → (k : ℕ) × (p ≡ 2 ^ k) → n ≤ p → p / 2 < max 1 n → (p ≡ n → ⊥) → (k : ℕ) × (n ≡ 2 ^ k) → ⊥
no_power n p (j, is) le up other (k, e) =
    no_power_at n j k (subst (λ (z : ℕ). n ≤ z) is le) (subst (λ (z : ℕ). z / 2 < max 1 n) is up) (λ h. other (is ∙ h)) e

-- one item more was copied
pub next_left : (left new : List ℕ) (i x : ℕ) → i < length new → take i new ≡ take i left → slice_get left i ≡ Some x → take (i + 1) (set new i x) ≡ take (i + 1) left
next_left left new i x l same at =
    let below : i < length left = slice_get_within left i x at in let is : get_or left i x ≡ x = ap (the x) (sym (slice_get-get_or left i x below) ∙ at) in let one : suc i ≡ i + 1 = omega arith in
    filled_more i x new l ∙ ap (λ (z : List ℕ). z ++ x ∷ []) same ∙ sym (subst (λ (n : ℕ). take n left ≡ take i left ++ x ∷ []) one (take-suc left i x below ∙ ap (λ (z : ℕ). take i left ++ z ∷ []) is))
