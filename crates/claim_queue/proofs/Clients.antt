-- The promises of a call to its client, by the call's steps. What is certain of the two views needs no proof of it.
use Rattle.claim_queue.proofs.Common.{◌≡◌, ℕ, ◌+◌, ◌-◌, ◌<◌, ◌≤◌, Bool, true, false, List, [], ◌∷◌, ◌++◌, length, drop, take, map, refl, sym, ap, ◌∙◌, subst, arith, inl, inr, Result, Ok, Err, append_assoc, length-append, length-map, get_or, get_or-set_same, le-ltb, lt-ltb, Bool-set, ℕ_set, le_prop, Cell, Positions, AbsState, Step, load, change, ExtendsTrace, IsValidStep, IsValidView, Grows, blank, fresh, item_of, item_at, stage_at, head_of, tail_of, with_claim, with_take, with_shut, ClaimRefusal, NoItems, TooLong, Closed, Spent, Full, Lost, TakeRefusal, Empty, Fits, Refused, RefusedBy, RefusedTake, ClaimedItems, IsPut, PutAnswer, Raised, Try, tried, TookItems, IsNone, IsOne, IsBegun, IsLine, scanned, stopping, stop_position, head_word, tail_word, data_word, flag_word, mark, View, of_queues, OnlyLoads, passes_since, QueueEnd, InvHeldOf, view_of, ∥∥₁_map}
use mathlib.Core.HLevel.{⊥_prop}
use Rattle.std.specs.List.{AllByRecursion}
use Rattle.std.specs.Prelude.{IfErr, IfOk, nat_lt, not}
use Rattle.std.proofs.lemmas.List.{length-take, length-drop, take-map}
use Rattle.table_theory.proofs.Certainty as surely
use Rattle.table_theory.specs.Moments.{AtSomeMoment, AtTwoMoments}
use Rattle.table_theory.specs.Positioned.{left_of}
use Rattle.claim_queue.specs.declared.take.TakeRefusal.TheVariants as takes
use Rattle.claim_queue.specs.Client.{HadRoomAt, WhyNotClaimed, WhyNotPut, HasRaisedItem, WereFirst, WhyNotTaken, HasShut}
use Rattle.claim_queue.specs.Changes.{with_stage_at}
use Rattle.claim_queue.specs.Closings.{ShutNow}
use Rattle.claim_queue.specs.Puts.{IsLost, raising}
use Rattle.claim_queue.specs.Takings.{items_of}
use Rattle.claim_queue.specs.Steps.{Shut}
use Rattle.claim_queue.proofs.Answered.{answer_own, claimed_own, did_put, put_own, refused_own, refused_take_own, took_own}
use Rattle.claim_queue.proofs.Certain.{seen_room, some_room, valid_end}
use Rattle.claim_queue.proofs.Growing.{real_grows, real_lawful}
use Rattle.claim_queue.proofs.Heading.{around, both}
use Rattle.claim_queue.proofs.Lawful.{claim_open, head_open, head_says, tail_says}
use Rattle.claim_queue.proofs.Saying.{empty_says, head_shut}
use Rattle.claim_queue.proofs.Stepping.{honest}
use Rattle.claim_queue.proofs.Vacant.{found_there, left_items}

left_length : (q : Positions) → length (left_of q) ≡ length q.places - q.taken
left_length q = length-map (drop q.taken q.places) item_of ∙ length-drop q.taken q.places

claim_length : (q : Positions) (items : List ℕ) → length (with_claim q items).places ≡ length q.places + length items
claim_length q items = length-append q.places (map fresh items) ∙ ap (λ (z : ℕ). length q.places + z) (length-map items fresh)

loads_add : (v w : View) (pre : List (Step Positions)) (e : Step Positions) (more : List (Step Positions)) → OnlyLoads v (pre ++ e ∷ more) w → ExtendsTrace v (pre ++ e ∷ more) w
loads_add v w [] e more a = a.adds
loads_add v w (x ∷ pre) e more a = a.adds

-- no try was lost if the items don't fit
none_tried : (n count : ℕ) (tries : List Try) → AllByRecursion (IsLost n count) tries → (Fits n count → ⊥) → tried tries ≡ []
none_tried n count [] all unfit = refl
none_tried n count (t ∷ tries) all unfit = absurd (unfit all.0.0)

module _ (n : ℕ) (v w : View) (sv : ∥ IsValidView of_queues v ∥₁) (sw : ∥ IsValidView of_queues w ∥₁) (rooms : v.seen.object.room ≡ n) where
  certain : {X : Type 0} → IsProp X → (IsValidView of_queues v → IsValidView of_queues w → X) → X
  certain prop f = surely.by_both of_queues v w sv sw prop f

  -- what is certain by one step of the call, and by two
  sure : {X : Type 0} → (before : List (Step Positions)) (e : Step Positions) (after : List (Step Positions)) → ExtendsTrace v (before ++ e ∷ after) w → IsProp X → (Grows v.seen.object e.then.object → IsValidStep of_queues e → X) → X
  sure before e after a prop f = certain prop (λ x y. (let r = around v w x y before after e a in f r.0 r.1))

  sure_two : {X : Type 0} → (before : List (Step Positions)) (e : Step Positions) (between : List (Step Positions)) (f : Step Positions) (after : List (Step Positions)) → ExtendsTrace v (before ++ e ∷ (between ++ f ∷ after)) w → IsProp X → (IsValidStep of_queues e → IsValidStep of_queues f → Grows e.then.object f.then.object → X) → X
  sure_two before e between f after a prop k = certain prop (λ x y. (let r = both v w x y before between after e f a in k r.0 r.1 r.2))

  -- CLAIMS

  was_shut : (before : List (Step Positions)) (head : ℕ) (m : AbsState Positions) (after : List (Step Positions)) → 4294967296 ≤ head → ExtendsTrace v (before ++ load head_word head m ∷ after) w → AtSomeMoment v w (λ q. q.shut ≡ true)
  was_shut before head m after marked a = record { before = before; step = load head_word head m; after = after; adds = a; holds = sure before (load head_word head m) after a (Bool-set _ _) (λ g r. head_shut head m r marked) }

  was_spent : (before : List (Step Positions)) (head count : ℕ) (m : AbsState Positions) (after : List (Step Positions)) → head < 4294967296 → 4294967296 ≤ head + count → ExtendsTrace v (before ++ load head_word head m ∷ after) w
      → AtSomeMoment v w (λ q. (q.shut ≡ false) × (4294967296 ≤ head_of q + count))
  was_spent before head count m after low past a = let e : Step Positions = load head_word head m in record {
    before = before;
    step = e;
    after = after;
    adds = a;
    holds = (sure before e after a (Bool-set _ _) (λ g r. (head_open head m r low).0), sure before e after a le_prop (λ g r. (let h = (head_open head m r low).1 in omega arith)));
  }

  was_full : (before : List (Step Positions)) (head tail count : ℕ) (m k : AbsState Positions) → head < 4294967296 → tail + n < head + count → ExtendsTrace v (before ++ load head_word head m ∷ load tail_word tail k ∷ []) w
      → AtTwoMoments v w (λ q later. (q.shut ≡ false) × (head_of q ≡ head) × (n < length (left_of q) + count) × (tail_of later ≡ tail))
  was_full before head tail count m k low full a = let e : Step Positions = load head_word head m in let f : Step Positions = load tail_word tail k in record {
    before = before;
    first = e;
    between = [];
    second = f;
    after = [];
    adds = a;
    holds = (
      sure before e (f ∷ []) a (Bool-set _ _) (λ g r. (head_open head m r low).0),
      sure before e (f ∷ []) a (ℕ_set _ _) (λ g r. sym (head_open head m r low).1),
      sure_two before e [] f [] a le_prop (λ r s g. (let h = (head_open head m r low).1 in let t = tail_says f refl s in let first = g.first in let further = g.further in let long = left_length m.object in omega arith)),
      sure_two before e [] f [] a (ℕ_set _ _) (λ r s g. sym (tail_says f refl s)),
    );
  }

  was_lost : (before : List (Step Positions)) (head tail now : ℕ) (m k o : AbsState Positions) → head < 4294967296 → now < 4294967296 → head < now → ExtendsTrace v (before ++ load head_word head m ∷ load tail_word tail k ∷ load head_word now o ∷ []) w
      → AtTwoMoments v w (λ q later. (head_of q < head_of later) × (head_of later ≡ now) × (later.shut ≡ false))
  was_lost before head tail now m k o low is_open past a = let e : Step Positions = load head_word head m in let t : Step Positions = load tail_word tail k in let f : Step Positions = load head_word now o in record {
    before = before;
    first = e;
    between = t ∷ [];
    second = f;
    after = [];
    adds = a;
    holds = (
      sure_two before e (t ∷ []) f [] a le_prop (λ r s g. (let h = (head_open head m r low).1 in let h' = (head_open now o s is_open).1 in omega arith)),
      sure_two before e (t ∷ []) f [] a (ℕ_set _ _) (λ r s g. sym (head_open now o s is_open).1),
      sure_two before e (t ∷ []) f [] a (Bool-set _ _) (λ r s g. (head_open now o s is_open).0),
    );
  }

  -- a refused claim, after any other looks of the call
  not_claimed : (pre : List (Step Positions)) (count : ℕ) (r : ClaimRefusal) → ((Fits n count → ⊥) → pre ≡ []) → RefusedBy (λ entries. OnlyLoads v (pre ++ entries) w) n count r → WhyNotClaimed v n count r w
  not_claimed pre count NoItems alone (is, a) = (is, subst (λ (z : List (Step Positions)). OnlyLoads v (z ++ []) w) (alone (λ fits. (let some_item = fits.0 in absurd (omega arith)))) a)
  not_claimed pre count TooLong alone (is, a) = (is, subst (λ (z : List (Step Positions)). OnlyLoads v (z ++ []) w) (alone (λ fits. (let short = fits.1 in absurd (omega arith)))) a)
  not_claimed pre count Closed alone (fits, inl (head, m, marked, a)) = (fits, was_shut pre head m [] marked (loads_add v w pre _ _ a))
  not_claimed pre count Closed alone (fits, inr (head, tail, now, m, k, o, there, marked, a)) = let two : List (Step Positions) = load head_word head m ∷ load tail_word tail k ∷ [] in
      (fits, was_shut (pre ++ two) now o [] marked (subst (λ (z : List (Step Positions)). ExtendsTrace v z w) (sym (append_assoc pre two (load head_word now o ∷ []))) (loads_add v w pre _ _ a)))
  not_claimed pre count Spent alone (fits, head, m, is_open, spent, a) = (fits, was_spent pre head count m [] is_open spent (loads_add v w pre _ _ a))
  not_claimed pre count (Full head tail) alone (fits, m, k, bounded, full, a) = (fits, bounded, full, was_full pre head tail count m k (omega arith) full (loads_add v w pre _ _ a))
  not_claimed pre count (Lost now) alone (fits, head, tail, m, k, o, there, is_open, past, a) = let bounded = there.0 in (fits, was_lost pre head tail now m k o (omega arith) is_open past (loads_add v w pre _ _ a))

  pub why_not_claimed : (count : ℕ) (r : ClaimRefusal) → Refused n v count r w → WhyNotClaimed v n count r w
  why_not_claimed count r h = not_claimed [] count r (λ unfit. refl) h

  pub why_not_put : (items : List ℕ) (r : Result ℕ ClaimRefusal) → PutAnswer n v items r w → IfErr r (λ e. (w.own ≡ v.own) × WhyNotPut v n (length items) e w)
  why_not_put items (Ok start) h = tt
  why_not_put items (Err NoItems) h = ((answer_own n v w items (Err NoItems) h).did, not_claimed (tried h.0) (length items) NoItems (none_tried n (length items) h.0 h.1) h.2)
  why_not_put items (Err TooLong) h = ((answer_own n v w items (Err TooLong) h).did, not_claimed (tried h.0) (length items) TooLong (none_tried n (length items) h.0 h.1) h.2)
  why_not_put items (Err Closed) h = ((answer_own n v w items (Err Closed) h).did, not_claimed (tried h.0) (length items) Closed (none_tried n (length items) h.0 h.1) h.2)
  why_not_put items (Err Spent) h = ((answer_own n v w items (Err Spent) h).did, not_claimed (tried h.0) (length items) Spent (none_tried n (length items) h.0 h.1) h.2)
  why_not_put items (Err (Full head tail)) h = ((answer_own n v w items (Err (Full head tail)) h).did, not_claimed (tried h.0) (length items) (Full head tail) (none_tried n (length items) h.0 h.1) h.2)
  why_not_put items (Err (Lost head)) h = absurd h

  -- a claim, after any other steps of the call and before any others
  had_room : (pre : List (Step Positions)) (head tail : ℕ) (m k o : AbsState Positions) (items : List ℕ) (more : List (Step Positions)) → 0 < length items
      → ExtendsTrace v (pre ++ load head_word head m ∷ load tail_word tail k ∷ change head_word head o (with_claim o.object items) ∷ more) w → HadRoomAt v n head (length items) w
  had_room pre head tail m k o items more some_item added = let q : Positions = o.object in let two : List (Step Positions) = load head_word head m ∷ load tail_word tail k ∷ [] in let e : Step Positions = change head_word head o (with_claim q items) in
      let a : ExtendsTrace v ((pre ++ two) ++ e ∷ more) w = subst (λ (z : List (Step Positions)). ExtendsTrace v z w) (sym (append_assoc pre two (e ∷ more))) added in record {
        before = pre ++ two;
        step = e;
        after = more;
        adds = a;
        holds = (
          sure (pre ++ two) e more a (Bool-set _ _) (λ g r. claim_open q items (real_grows e r) some_item),
          sure (pre ++ two) e more a (ℕ_set _ _) (λ g r. (let h = (head_says e refl r).0 in let z : mark q.shut ≡ 0 = ap mark (claim_open q items (real_grows e r) some_item) in omega arith)),
          sure (pre ++ two) e more a le_prop (λ g r. (let within = (real_lawful e r).within in let long = left_length q in let all = claim_length q items in let room = g.room in let taken = r.lawful.taken_within in omega arith)),
        );
      }

  pub claimed_there : (head : ℕ) (items : List ℕ) → ClaimedItems n v head items w → HadRoomAt v n head (length items) w
  claimed_there head items (past, (tail, m, k, o, fits, there, made)) = had_room [] head tail m k o items [] fits.0 made.adds

  pub put_there : (start : ℕ) (items : List ℕ) → IsPut n v start items w → HadRoomAt v n start (length items) w
  put_there start items (past, (raises, are, (tail, m, k, o, fits, there, made))) = had_room [] start tail m k o items (raising n start raises) fits.0 made.adds

  pub answer_there : (items : List ℕ) (r : Result ℕ ClaimRefusal) → PutAnswer n v items r w → IfOk r (λ start. HadRoomAt v n start (length items) w)
  answer_there items (Ok start) (past, tries, all, (raises, are, (tail, m, k, o, fits, there, made))) = had_room (tried tries) start tail m k o items (raising n start raises) fits.0 made.adds
  answer_there items (Err refusal) h = tt

  -- A RAISE

  pub raised_item : (start i : ℕ) (items : List ℕ) → Raised n v start items i w → HasRaisedItem v (start + i) (get_or items i 0) w
  raised_item start i items (r, is, made) = let p : ℕ = start + i in let x : ℕ = get_or items i 0 in let q : Positions = r.at_flag.object in let at = is.was_stored in let from = at.from in let below = at.below in
      let d : Step Positions = change (data_word n p) r.found_data r.at_data (with_stage_at r.at_data.object p 1) in let e : Step Positions = change (flag_word n p) r.found_flag r.at_flag (with_stage_at q p 2) in let stage = ap (λ (z : Cell). z.stage) at.is in (
        record { before = d ∷ []; step = e; after = []; adds = made.adds; holds = (from, below, ap (λ (z : Cell). z.item) at.is, (let g : stage_at q (p - q.first) < 2 = omega arith in g)) },
        certain le_prop (λ y z. (let seen = (passes_since of_queues v w (d ∷ e ∷ []) y z made.adds).2.2 in
            subst (λ (s : AbsState Positions). 2 ≤ stage_at s.object (p - s.object.first)) seen (let up = ap (λ (c : Cell). c.stage) (get_or-set_same q.places (p - q.first) (record { item = item_at q (p - q.first); stage = 2 }) blank (omega arith)) in omega arith))),
      )

  -- TAKINGS

  pub were_first : (items : List ℕ) → TookItems n v items w → WereFirst v items w
  were_first items (tail, m, o, scan, are, first, made) = let q : Positions = o.object in let k : ℕ = length items in let e : Step Positions = change tail_word tail o (with_take q k) in let before : List (Step Positions) = load tail_word tail m ∷ scanned n tail scan in record {
    before = before;
    step = e;
    after = [];
    adds = made.adds;
    holds = (
      take-map item_of k (drop q.taken q.places) ∙ first,
      (λ i below. sure before e [] made.adds le_prop (λ g r. (let up = (real_lawful e r).ready (q.taken + i) (omega arith) in let at : q.taken + i ≡ tail_of q - q.first + i = omega arith in subst (λ (z : ℕ). 2 ≤ stage_at q z) at up))),
    );
  }

  -- an empty answer: where the next place was, and that it was not raised
  module _ (some_room : 0 < n) where
    vacant : (Few Enough : List ℕ → Type 0) (at : ℕ) (r : RefusedTake Few Enough n v (Empty at) w) → length r.0.scan < n → (tail_of r.0.at_flag.object ≡ r.0.tail) × (at ≡ r.0.tail + length r.0.scan) × (stage_at r.0.at_flag.object (at - r.0.at_flag.object.first) < 2)
    vacant Few Enough at r short = (
      certain (ℕ_set _ _) (λ x y. (empty_says v w x y Few Enough n at r rooms short).0),
      r.5,
      certain le_prop (λ x y. subst (λ (z : ℕ). stage_at r.0.at_flag.object (z - r.0.at_flag.object.first) < 2) (sym r.5) (empty_says v w x y Few Enough n at r rooms short).1),
    )

    pub none_there : (at : ℕ) (r : RefusedTake IsNone IsOne n v (Empty at) w) → (tail_of r.0.at_flag.object ≡ r.0.tail) × (r.0.tail ≤ at) × IsNone (take (at - r.0.tail) (left_of r.0.at_flag.object)) × (stage_at r.0.at_flag.object (at - r.0.at_flag.object.first) < 2)
    none_there at r = let long = length-map r.0.scan (λ f. f.0) in let empty : length (items_of r.0.scan) ≡ 0 = ap length r.4.0 in let p = vacant IsNone IsOne at r (omega arith) in let is = p.1 in
        let zero_is : at - r.0.tail ≡ 0 = omega arith in (p.0, omega arith, ap (λ (z : ℕ). take z (left_of r.0.at_flag.object)) zero_is, p.2)

    pub begun_there : (at : ℕ) (r : RefusedTake (IsBegun n) (IsLine n) n v (Empty at) w) → (tail_of r.0.at_flag.object ≡ r.0.tail) × (r.0.tail ≤ at) × IsBegun n (take (at - r.0.tail) (left_of r.0.at_flag.object)) × (stage_at r.0.at_flag.object (at - r.0.at_flag.object.first) < 2)
    begun_there at r = let xs : List ℕ = items_of r.0.scan in let long = length-map r.0.scan (λ f. f.0) in let few = r.4.0.1 in let p = vacant (IsBegun n) (IsLine n) at r (omega arith) in let is = p.1 in let left : List ℕ = left_of r.0.at_flag.object in
        let many : length xs ≡ at - r.0.tail = omega arith in let cut = length-take (length xs) left in (
          p.0,
          omega arith,
          subst (λ (z : ℕ). IsBegun n (take z left)) many (
            (λ i below ends. certain ⊥_prop (λ x y. (let there = found_there v w x y (IsBegun n) (IsLine n) n at r rooms (omega arith) i (omega arith) in
                r.4.0.0 i (omega arith) (sym (left_items r.0.at_flag.object r.0.tail xs i p.0 (omega arith) there) ∙ ends)))),
            omega arith,
          ),
          p.2,
        )

    module _ (Few Enough : List ℕ → Type 0) where
      -- what an empty answer says of the items before its position
      abbrev Says : Type 0
      Says = (at : ℕ) (r : RefusedTake Few Enough n v (Empty at) w) → (length r.0.scan < n) × (tail_of r.0.at_flag.object ≡ r.0.tail) × (r.0.tail ≤ at) × Few (take (at - r.0.tail) (left_of r.0.at_flag.object)) × (stage_at r.0.at_flag.object (at - r.0.at_flag.object.first) < 2)

      was_empty : Says → (at : ℕ) → RefusedTake Few Enough n v (Empty at) w → WhyNotTaken Few v (Empty at) w
      was_empty says at r = let short = (says at r).0 in let (_, from, past, few, low) = says at r in let s = r.0 in let q : Positions = s.at_flag.object in let scan : List (Step Positions) = scanned n s.tail s.scan in let flag : Step Positions = load (flag_word n (stop_position s)) s.flag s.at_flag in
          let last : List (Step Positions) = load head_word r.1 r.2 ∷ load tail_word s.tail r.3 ∷ [] in let here = r.5 in record {
            before = load tail_word s.tail s.at_tail ∷ scan;
            first = flag;
            between = [];
            second = load head_word r.1 r.2;
            after = load tail_word s.tail r.3 ∷ [];
            adds = subst (λ (z : List (Step Positions)). ExtendsTrace v (load tail_word s.tail s.at_tail ∷ z) w) (append_assoc scan (flag ∷ []) last) r.8.adds;
            holds = (
              (let g : tail_of q ≤ at = omega arith in g),
              subst (λ (z : ℕ). Few (take (at - z) (left_of q))) (sym from) few,
              (λ i below. certain le_prop (λ x y. (let up = (found_there v w x y Few Enough n at r rooms short i (omega arith)).0 in let e : s.tail + i - q.first ≡ tail_of q - q.first + i = omega arith in subst (λ (z : ℕ). 2 ≤ stage_at q z) e up))),
              low,
              (λ shut. certain le_prop (λ x y. (let more = (empty_says v w x y Few Enough n at r rooms short).2 shut in let long = left_length r.2.object in omega arith))),
            );
          }

      tail_moved : (tail now : ℕ) (m k : AbsState Positions) (between : List (Step Positions)) → tail < now → ExtendsTrace v (load tail_word tail m ∷ (between ++ load tail_word now k ∷ [])) w → AtTwoMoments v w (λ q later. (tail_of q < tail_of later) × (tail_of later ≡ now))
      tail_moved tail now m k between past a = let e : Step Positions = load tail_word tail m in let f : Step Positions = load tail_word now k in record {
        before = [];
        first = e;
        between = between;
        second = f;
        after = [];
        adds = a;
        holds = (
          sure_two [] e between f [] a le_prop (λ r s g. (let t = tail_says e refl r in let t' = tail_says f refl s in omega arith)),
          sure_two [] e between f [] a (ℕ_set _ _) (λ r s g. sym (tail_says f refl s)),
        );
      }

      not_taken : Says → (r : TakeRefusal) → RefusedTake Few Enough n v r w → WhyNotTaken Few v r w
      not_taken says (takes.Empty at) h = was_empty says at h
      not_taken says (takes.Lost now) (inl (s, head, m, k, stop, going, past, made)) = let front : List (Step Positions) = scanned n s.tail s.scan ++ load (flag_word n (stop_position s)) s.flag s.at_flag ∷ [] in let l : Step Positions = load head_word head m in
          tail_moved s.tail now s.at_tail k (front ++ l ∷ []) past (subst (λ (z : List (Step Positions)). ExtendsTrace v (load tail_word s.tail s.at_tail ∷ z) w) (sym (append_assoc front (l ∷ []) (load tail_word now k ∷ []))) made.adds)
      not_taken says (takes.Lost now) (inr (tail, m, o, scan, enough, past, made)) = tail_moved tail now m o (scanned n tail scan) past made.adds
      not_taken says takes.Closed (s, m, stop, made) = let front : List (Step Positions) = scanned n s.tail s.scan ++ load (flag_word n (stop_position s)) s.flag s.at_flag ∷ [] in
          let e : Step Positions = load tail_word s.tail s.at_tail in let f : Step Positions = load head_word (4294967296 + s.tail) m in record {
            before = stopping n s;
            step = f;
            after = [];
            adds = made.adds;
            holds = (
              sure_two [] e front f [] made.adds (Bool-set _ _) (λ r x g. head_shut (4294967296 + s.tail) m x (omega arith)),
              sure_two [] e front f [] made.adds (ℕ_set _ _) (λ r x g. (let t = tail_says e refl r in let h = (head_says f refl x).0 in let z : mark m.object.shut ≡ 4294967296 = ap mark (head_shut (4294967296 + s.tail) m x (omega arith)) in
                  let first = g.first in let further = g.further in let within = x.lawful.taken_within in let long = left_length m.object in omega arith)),
            );
          }

    pub why_not_taken : (r : TakeRefusal) → RefusedTake IsNone IsOne n v r w → WhyNotTaken IsNone v r w
    why_not_taken r h = not_taken IsNone IsOne (λ at t. (let long = length-map t.0.scan (λ f. f.0) in let empty : length (items_of t.0.scan) ≡ 0 = ap length t.4.0 in let x = none_there at t in (omega arith, x.0, x.1, x.2, x.3))) r h

    pub why_no_line : (r : TakeRefusal) → RefusedTake (IsBegun n) (IsLine n) n v r w → WhyNotTaken (IsBegun n) v r w
    why_no_line r h = not_taken (IsBegun n) (IsLine n) (λ at t. (let long = length-map t.0.scan (λ f. f.0) in let few = t.4.0.1 in let x = begun_there at t in (omega arith, x.0, x.1, x.2, x.3))) r h

  -- SHUTTING

  open_before : (h head : ℕ) (b : Bool) → head < 4294967296 → h ≡ head + mark b → b ≡ not (nat_lt h 4294967296)
  open_before h head true low is = sym (ap not (le-ltb h 4294967296 (omega arith)))
  open_before h head false low is = sym (ap not (lt-ltb h 4294967296 (omega arith)))

  pub has_shut : (was_open : Bool) → ShutNow v was_open w → HasShut v was_open w
  has_shut was_open (head, m, is, made) = let e : Step Positions = change head_word head m (with_shut m.object) in (
    record { before = []; step = e; after = []; adds = made.adds; holds = sure [] e [] made.adds (Bool-set _ _) (λ g r. (let h = head_says e refl r in open_before head (head_of m.object) m.object.shut h.1 h.0 ∙ ap not (sym is))) },
    certain (Bool-set _ _) (λ x y. (let p = passes_since of_queues v w (e ∷ []) x y made.adds in ap (λ (z : AbsState Positions). z.object.shut) (sym p.2))),
    (λ k. (made.did k).shuts),
  )

-- AN END THAT SHUTS NOTHING

pub refused_shuts : (n count : ℕ) (v w : View) (r : ClaimRefusal) → Refused n v count r w → w.own.shuts ≡ v.own.shuts
refused_shuts n count v w r h = let d = refused_own n count v w r h in (λ k. (d.did k).shuts)

pub claimed_shuts : (n : ℕ) (v w : View) (head : ℕ) (items : List ℕ) → ClaimedItems n v head items w → w.own.shuts ≡ v.own.shuts
claimed_shuts n v w head items h = let d = claimed_own n v w head items h in (λ k. (d.did k).shuts)

pub raised_shuts : (n : ℕ) (v w : View) (start i : ℕ) (items : List ℕ) → Raised n v start items i w → w.own.shuts ≡ v.own.shuts
raised_shuts n v w start i items (r, is, made) = λ k. (made.did k).shuts

pub put_shuts : (n : ℕ) (v w : View) (start : ℕ) (items : List ℕ) → IsPut n v start items w → w.own.shuts ≡ v.own.shuts
put_shuts n v w start items h = let d = put_own n v w start items h in (λ k. (d.did k).shuts)

did_shuts : (v : View) (items : List ℕ) (r : Result ℕ ClaimRefusal) → (did_put v items r).shuts ≡ v.own.shuts
did_shuts v items (Ok start) = refl
did_shuts v items (Err refusal) = refl

pub answer_shuts : (n : ℕ) (v w : View) (items : List ℕ) (r : Result ℕ ClaimRefusal) → PutAnswer n v items r w → w.own.shuts ≡ v.own.shuts
answer_shuts n v w items r h = let d = answer_own n v w items r h in (λ k. (d.did k).shuts) ∙ did_shuts v items r

pub took_shuts : (n : ℕ) (v w : View) (items : List ℕ) → TookItems n v items w → w.own.shuts ≡ v.own.shuts
took_shuts n v w items h = let d = took_own n v w items h in (λ k. (d.did k).shuts)

-- THE ANSWERS OF AN END

valid_view : (w : View) → ∥ InvHeldOf w ∥₁ → ∥ IsValidView of_queues w ∥₁
valid_view w inv = ∥∥₁_map inv (λ r. honest w r)

module _ {n : ℕ} (old : QueueEnd n) (w : View) (inv : ∥ InvHeldOf w ∥₁) where
  pub claim_result : (head : ℕ) (items : List ℕ) → ClaimedItems n (view_of old) head items w → HadRoomAt (view_of old) n head (length items) w
  claim_result head items h = claimed_there n (view_of old) w (valid_end old) (valid_view w inv) (seen_room old) head items h

  pub claim_error : {A : Type 0} (count : ℕ) (r : Result A ClaimRefusal) → IfErr r (λ e. Refused n (view_of old) count e w) → IfErr r (λ e. (w.own ≡ (view_of old).own) × WhyNotClaimed (view_of old) n count e w)
  claim_error count (Ok a) h = tt
  claim_error count (Err e) h = ((refused_own n count (view_of old) w e h).did, why_not_claimed n (view_of old) w (valid_end old) (valid_view w inv) (seen_room old) count e h)

  pub raise_result : (start i : ℕ) (items : List ℕ) → Raised n (view_of old) start items i w → HasRaisedItem (view_of old) (start + i) (get_or items i 0) w
  raise_result start i items h = raised_item n (view_of old) w (valid_end old) (valid_view w inv) (seen_room old) start i items h

  pub put_result : (start : ℕ) (items : List ℕ) → IsPut n (view_of old) start items w → HadRoomAt (view_of old) n start (length items) w
  put_result start items h = put_there n (view_of old) w (valid_end old) (valid_view w inv) (seen_room old) start items h

  pub answer_result : (items : List ℕ) (r : Result ℕ ClaimRefusal) → PutAnswer n (view_of old) items r w → IfOk r (λ start. HadRoomAt (view_of old) n start (length items) w)
  answer_result items r h = answer_there n (view_of old) w (valid_end old) (valid_view w inv) (seen_room old) items r h

  pub answer_error : (items : List ℕ) (r : Result ℕ ClaimRefusal) → PutAnswer n (view_of old) items r w → IfErr r (λ e. (w.own ≡ (view_of old).own) × WhyNotPut (view_of old) n (length items) e w)
  answer_error items r h = why_not_put n (view_of old) w (valid_end old) (valid_view w inv) (seen_room old) items r h

  pub take_result : (items : List ℕ) → TookItems n (view_of old) items w → WereFirst (view_of old) items w
  take_result items h = were_first n (view_of old) w (valid_end old) (valid_view w inv) (seen_room old) items h

  pub take_error : (r : TakeRefusal) → RefusedTake IsNone IsOne n (view_of old) r w → (w.own ≡ (view_of old).own) × WhyNotTaken IsNone (view_of old) r w
  take_error r h = ((refused_take_own IsNone IsOne n (view_of old) w r h).did, why_not_taken n (view_of old) w (valid_end old) (valid_view w inv) (seen_room old) (some_room old) r h)

  pub line_error : (r : TakeRefusal) → RefusedTake (IsBegun n) (IsLine n) n (view_of old) r w → (w.own ≡ (view_of old).own) × WhyNotTaken (IsBegun n) (view_of old) r w
  line_error r h = ((refused_take_own (IsBegun n) (IsLine n) n (view_of old) w r h).did, why_no_line n (view_of old) w (valid_end old) (valid_view w inv) (seen_room old) (some_room old) r h)

pub shut_result : {n : ℕ} (old : QueueEnd n) (w : View) (found : ℕ) → Shut (view_of old) found w → HasShut (view_of old) (nat_lt found 4294967296) w
shut_result {n} old w found (at, step) = has_shut n (view_of old) w (valid_end old) (valid_view w ∣ step.ruled ∣₁) (seen_room old) (nat_lt found 4294967296) (found, at, refl, step.made)
