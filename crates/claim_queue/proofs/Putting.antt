-- A put that is retried, and the items raised by a put that succeeds.
use Rattle.claim_queue.proofs.Common.{◌≡◌, ℕ, suc, ◌+◌, ◌<◌, List, [], ◌∷◌, ◌++◌, length, get_or, set, take, refl, sym, ap, subst, ◌∙◌, arith, true, false, Result, Ok, Err, some, get_elem?, Batch, Positions, Step, Performed, Distinct, number_of, at_last, made_none, made_then, QueueOps, ClaimRefusal, NoItems, TooLong, Closed, Spent, Full, Lost, IsPast, RefusedBy, Refused, ClaimedItems, run_of, Owns, View, run, with_run, with_changed, OnlyLoads, Raised, RaisedFrom, IsPut, Try, tried, PutAnswer, length-take-le, set_again}
use Rattle.std.proofs.Common.{true≢false}
use Rattle.std.specs.Prelude.{MatchResult}
use Rattle.std.specs.List.{AllByRecursion}
use Rattle.table_theory.proofs.Looking.{looks_on, looks_made}
use Rattle.table_theory.proofs.Reaching.{all_on}
use Rattle.claim_queue.specs.Puts.{Raise, IsRaise, AreRaises, raising, raise_entries, IsLost, is_lost}
use Rattle.std.proofs.lemmas.List.{take_more}
use Rattle.std.proofs.Math.Seq.{take-length}
use Rattle.table_theory.proofs.Moving.{last}
use Rattle.claim_queue.proofs.Answered.{refused_at}
use Rattle.claim_queue.proofs.Raising.{changed_twice}

-- RAISING ONE MORE

raising_on : (room p : ℕ) (rs qs : List Raise) → raising room p (rs ++ qs) ≡ raising room p rs ++ raising room (p + length rs) qs
raising_on room p [] qs = ap (λ (z : ℕ). raising room z qs) (let e : p ≡ p + 0 = omega arith in e)
raising_on room p (r ∷ rs) qs = ap (λ (z : List (Step Positions)). raise_entries room p r ++ z) (raising_on room (p + 1) rs qs ∙ ap (λ (z : ℕ). raising room (p + 1) rs ++ raising room z qs) (let e : p + 1 + length rs ≡ p + suc (length rs) = omega arith in e))

raises_long : (p : ℕ) (xs : List ℕ) (rs : List Raise) → AreRaises p xs rs → length rs ≡ length xs
raises_long p [] [] a = refl
raises_long p [] (r ∷ rs) a = absurd a
raises_long p (x ∷ xs) [] a = absurd a
raises_long p (x ∷ xs) (r ∷ rs) a = ap suc (raises_long (p + 1) xs rs a.1)

raises_on : (p x : ℕ) (xs : List ℕ) (rs : List Raise) (r : Raise) → AreRaises p xs rs → IsRaise (p + length xs) x r → AreRaises p (xs ++ x ∷ []) (rs ++ r ∷ [])
raises_on p x [] [] r a h = (subst (λ (z : ℕ). IsRaise z x r) (let e : p + 0 ≡ p = omega arith in e) h, tt)
raises_on p x [] (q ∷ rs) r a h = absurd a
raises_on p x (y ∷ xs) [] r a h = absurd a
raises_on p x (y ∷ xs) (q ∷ rs) r a h = (a.0, raises_on (p + 1) x xs rs r a.1 (subst (λ (z : ℕ). IsRaise z x r) (let e : p + suc (length xs) ≡ p + 1 + length xs = omega arith in e) h))

-- none of the end's run is raised yet
pub none_raised : (room start : ℕ) (items : List ℕ) (v : View) → Owns v start items 0 → RaisedFrom room start items v v 0
none_raised room start items v own = ([], tt, subst (λ (z : QueueOps). Performed v [] z v) (sym (λ k. record v.own { runs = set_again v.own.runs (number_of start v.own.runs) (run_of start items 0) own k })) (made_none v))

pub raised_more : (room start : ℕ) (items : List ℕ) (v u w : View) (n : ℕ) → n < length items → Owns v start items 0 → RaisedFrom room start items v u n → Raised room u start items n w → RaisedFrom room start items v w (n + 1)
raised_more room start items v u w n below own (raises, are, a) (r, is, b) = let long = raises_long start (take n items) raises are in let t = length-take-le n items (omega arith) in let next = take_more items n 0 below in
    let all : List Raise = raises ++ r ∷ [] in let entries : raising room start raises ++ raise_entries room (start + n) r ≡ raising room start all = (λ k. raising room start raises ++ raise_entries room (start + (let e : n ≡ length raises = omega arith in e) k) r) ∙ sym (raising_on room start raises (r ∷ [])) in
    let m = made_then v u w (raising room start raises) (raise_entries room (start + n) r) (with_changed v.own (run_of start items n)) (λ d. with_changed d (run_of start items (n + 1))) a b in (
      all,
      subst (λ (z : List ℕ). AreRaises start z all) (sym next) (raises_on start (get_or items n 0) (take n items) raises r are (subst (λ (z : ℕ). IsRaise (start + z) (get_or items n 0) r) (sym t) is)),
      subst (λ (z : List (Step Positions)). Performed v z (with_changed v.own (run_of start items (n + 1))) w) entries
          (subst (λ (z : QueueOps). Performed v (raising room start raises ++ raise_entries room (start + n) r) z w) (changed_twice v.own (run_of start items 0) (run_of start items n) (run_of start items (n + 1)) own refl refl) m),
    )

-- A PUT

-- the claim of a put, which is the end's last run, is then raised
last_changed : (d : QueueOps) (start : ℕ) (items : List ℕ) (f : Batch) → f.start ≡ start → Distinct (with_run d (run start items)).runs → get_elem? (with_run d (run start items)).runs (number_of start (with_run d (run start items)).runs) ≡ some (run_of start items 0)
    → with_changed (with_run d (run start items)) f ≡ with_run d f
last_changed d start items f is distinct own = let l : List Batch = d.runs ++ run start items ∷ [] in
    let number : number_of start l ≡ length d.runs = distinct (number_of start l) (length d.runs) (run_of start items 0) (run start items) own (at_last d.runs (run start items) (length d.runs) refl) refl in
    (λ k. record d { runs = set l (number_of (is k) l) f }) ∙ (λ k. record d { runs = set l (number k) f }) ∙ (λ k. record d { runs = last d.runs (run start items) f k })

pub put_of : (room : ℕ) (v u w : View) (start : ℕ) (items : List ℕ) → Distinct u.own.runs → Owns u start items 0 → ClaimedItems room v start items u → RaisedFrom room start items u w (length items) → IsPut room v start items w
put_of room v u w start items distinct own (past, (tail, m, n, o, fits, room_there, made)) (raises, are, b) =
    let f : Batch = run_of start items (length items) in let d : QueueOps = with_run v.own (run start items) in
    let own' = subst (λ (z : QueueOps). get_elem? z.runs (number_of start z.runs) ≡ some (run_of start items 0)) made.did own in
    let last : with_changed d f ≡ with_run v.own f = last_changed v.own start items f refl (subst (λ (z : QueueOps). Distinct z.runs) made.did distinct) own' in let all = made_then v u w _ (raising room start raises) d (λ z. with_changed z f) made b in (
      past,
      (
        raises,
        subst (λ (z : List ℕ). AreRaises start z raises) (take-length items) are,
        (tail, m, n, o, fits, room_there, record { adds = all.adds; did = all.did ∙ last; member = all.member }),
      ),
    )

-- TRIES

-- the lost try of a Lost answer
pub lost_by : (room : ℕ) (v w : View) (items : List ℕ) (r : Result ℕ ClaimRefusal) → is_lost r ≡ true → MatchResult r (λ start. IsPut room v start items w) (λ e. Refused room v (length items) e w)
    → (t : Try) × IsLost room (length items) t × Performed v (tried (t ∷ [])) v.own w
lost_by room v w items (Ok start) is h = absurd (true≢false (sym is))
lost_by room v w items (Err NoItems) is h = absurd (true≢false (sym is))
lost_by room v w items (Err TooLong) is h = absurd (true≢false (sym is))
lost_by room v w items (Err Closed) is h = absurd (true≢false (sym is))
lost_by room v w items (Err Spent) is h = absurd (true≢false (sym is))
lost_by room v w items (Err (Full head tail)) is h = absurd (true≢false (sym is))
lost_by room v w items (Err (Lost now)) is (fits, head, tail, m, n, o, there, is_open, past, made) =
    (record { head = head; at_head = m; tail = tail; at_tail = n; found = now; at_exchange = o }, (fits, there, is_open, past), made)

tried_on : (xs ys : List Try) → tried (xs ++ ys) ≡ tried xs ++ tried ys
tried_on [] ys = refl
tried_on (x ∷ xs) ys = ap (λ (z : List (Step Positions)). tried (x ∷ []) ++ z) (tried_on xs ys)

looks_runs : (v u : View) (xs : List (Step Positions)) → OnlyLoads v xs u → u.own.runs ≡ v.own.runs
looks_runs v u [] a = ap (λ (z : View). z.own.runs) a
looks_runs v u (x ∷ xs) a = λ k. (a.did k).runs

-- the tries of a put so far
abbrev pub Tried : ℕ → ℕ → View → View → Type 0
Tried room count v u = (tries : List Try) × AllByRecursion (IsLost room count) tries × OnlyLoads v (tried tries) u

pub tried_more : (room count : ℕ) (v u w : View) → Tried room count v u → (t : Try) → IsLost room count t → Performed u (tried (t ∷ [])) u.own w → Tried room count v w
tried_more room count v u w (tries, all, a) t lost b =
    (tries ++ t ∷ [], all_on (IsLost room count) tries (t ∷ []) all (lost, tt), subst (λ (z : List (Step Positions)). OnlyLoads v z w) (sym (tried_on tries (t ∷ []))) (looks_on v u w (tried tries) (tried (t ∷ [])) a b))

-- a refusal says the same of its entries after the entries of lost tries
tried_refused : (room : ℕ) (v u w : View) (items : List ℕ) (r : ClaimRefusal) → (t : Tried room (length items) v u) → Refused room u (length items) r w → RefusedBy (λ entries. OnlyLoads v (tried t.0 ++ entries) w) room (length items) r
tried_refused room v u w items r (tries, all, a) h = let at = refused_at (λ entries. OnlyLoads u entries w) room (length items) r h in at.2 (λ entries. OnlyLoads v (tried tries ++ entries) w) (looks_on v u w (tried tries) at.0 a at.1)

-- an answer that isn't lost, after lost tries
pub answered : (room : ℕ) (v u w : View) (items : List ℕ) (r : Result ℕ ClaimRefusal) → is_lost r ≡ false → Tried room (length items) v u → MatchResult r (λ start. IsPut room u start items w) (λ e. Refused room u (length items) e w) → PutAnswer room v items r w
answered room v u w items (Ok start) not (tries, all, a) (past, (raises, are, (tail, m, n, o, fits, there, made))) = (
  subst (λ (z : List Batch). IsPast z start) (looks_runs v u (tried tries) a) past,
  tries,
  all,
  (raises, are, (tail, m, n, o, fits, there, looks_made (λ d. with_run d (run_of start items (length items))) v u w (tried tries) _ a made)),
)
answered room v u w items (Err NoItems) not t h = (t.0, t.1, tried_refused room v u w items NoItems t h)
answered room v u w items (Err TooLong) not t h = (t.0, t.1, tried_refused room v u w items TooLong t h)
answered room v u w items (Err Closed) not t h = (t.0, t.1, tried_refused room v u w items Closed t h)
answered room v u w items (Err Spent) not t h = (t.0, t.1, tried_refused room v u w items Spent t h)
answered room v u w items (Err (Full head tail)) not t h = (t.0, t.1, tried_refused room v u w items (Full head tail) t h)
answered room v u w items (Err (Lost head)) not t h = absurd (true≢false not)

-- a lost answer is not that the queue is shut
pub lost_not_shut : {A : Type 0} (r : Result ℕ ClaimRefusal) → is_lost r ≡ true → MatchResult r (λ start. ⊥) (λ e. e ≡ Closed) → A
lost_not_shut (Ok start) is h = absurd h
lost_not_shut (Err e) is h = absurd (true≢false (sym is ∙ ap (λ (z : ClaimRefusal). is_lost (Err z)) h))
