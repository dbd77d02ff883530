-- Puts and takings that are retried.
use Rattle.batch_queue.proofs.Common.{BatchState, EndRecord, List, Performed, Step, View, [], ap, append-nil, append_assoc, arith, drop, inl, inr, length, map, refl, subst, sym, take, true, false, ℕ, ⊎_elim, ◌++◌, ◌+◌, ◌∙◌, ◌∷◌, ◌≡◌}
use Rattle.std.proofs.Common.{true≢false, Result, Ok, Err}
use Rattle.std.specs.Prelude.{MatchResult, IfErr, IfOk, min}
use Rattle.std.specs.List.{AllByRecursion}
use Rattle.table_theory.proofs.Looking.{looks_on, looks_made}
use Rattle.table_theory.proofs.Parting.{made_none, made_then}
use Rattle.table_theory.proofs.Reaching.{adds_none, all_on}
use Rattle.table_theory.specs.Ledgers.{ExtendsTrace, OnlyLoads}
use Rattle.table_theory.specs.declared.views.Part.{Part}
use Rattle.batch_queue.specs.Client.{HasPut, TookAllThatFit, WereFirst, WhyNotPut, WhyNotTaken}
use Rattle.batch_queue.specs.Object.{NoneFits}
use Rattle.table_theory.specs.Batches.{line_of}
use Rattle.batch_queue.specs.Lines.{PutLine, SameLines, TookLine}
use Rattle.batch_queue.specs.Puts.{IsPut, IsLostTry, PutAnswer, RefusedPut, RefusedPutBy, is_lost, tried, with_put}
use Rattle.batch_queue.specs.Takings.{FilledBuffer, IsIdleTry, RefusedTake, RefusedTakeBy, TakeAnswer, TookBatches, must_wait, with_line}
use Rattle.batch_queue.specs.declared.refusals.PutRefusal.{PutRefusal}
use Rattle.batch_queue.specs.declared.refusals.PutRefusal.TheVariants.{NoItems, TooLong, Closed, Spent, Full, Lost}
use Rattle.batch_queue.specs.declared.refusals.TakeRefusal.{TakeRefusal}
use Rattle.batch_queue.specs.declared.refusals.TakeRefusal.TheVariants as takes
use Rattle.table_theory.proofs.Moments.{moment_after, moment_map, two_after, two_map}
use Rattle.batch_queue.proofs.Quiet.{others_after}

tried_on : (xs ys : List (List (Step BatchState))) → tried (xs ++ ys) ≡ tried xs ++ tried ys
tried_on [] ys = refl
tried_on (x ∷ xs) ys = ap (λ (z : List (Step BatchState)). x ++ z) (tried_on xs ys) ∙ sym (append_assoc x (tried xs) (tried ys))

-- the end made these steps, and is where it was among the ends
pub looks_adds : (v u : View) (xs : List (Step BatchState)) → OnlyLoads v xs u → ExtendsTrace v xs u × (u.member ≡ v.member)
looks_adds v u [] h = subst (λ (z : View). ExtendsTrace v [] z × (z.member ≡ v.member)) (sym h) (adds_none v, refl)
looks_adds v u (x ∷ xs) h = (h.adds, h.member)

pub looks_own : (v u : View) (xs : List (Step BatchState)) → OnlyLoads v xs u → u.own ≡ v.own
looks_own v u [] h = ap (λ (z : View). z.own) h
looks_own v u (x ∷ xs) h = h.did

-- PUTS

-- the entries of a refused put: the refusal says the same of them in any longer list of entries
pub refused_at : (Added : List (Step BatchState) → Type 0) (room count : ℕ) (r : PutRefusal) → RefusedPutBy Added room count r → (entries : List (Step BatchState)) × Added entries × ((Behind : List (Step BatchState) → Type 0) → Behind entries → RefusedPutBy Behind room count r)
refused_at Added room count NoItems (none_there, a) = (_, a, λ Behind b. (none_there, b))
refused_at Added room count TooLong (long, a) = (_, a, λ Behind b. (long, b))
refused_at Added room count Closed (fits, inl h) = (_, h.added, λ Behind b. (fits, inl record { head = h.head; at_head = h.at_head; marked = h.marked; added = b }))
refused_at Added room count Closed (fits, inr (head, now, marked, h)) = (_, h.added, λ Behind b. (fits, inr (head, now, marked, record { at_head = h.at_head; free = h.free; moved = h.moved; looks = h.looks; bounded = h.bounded; looked = h.looked; there = h.there; at_exchange = h.at_exchange; added = b })))
refused_at Added room count Spent (fits, h) = (_, h.added, λ Behind b. (fits, record { head = h.head; at_head = h.at_head; is_open = h.is_open; spent = h.spent; added = b }))
refused_at Added room count (Full head free) (fits, h) = (_, h.added, λ Behind b. (fits, record { at_head = h.at_head; looks = h.looks; bounded = h.bounded; looked = h.looked; over = h.over; added = b }))
refused_at Added room count (Lost now) (fits, inl (free, h)) = (_, h.added, λ Behind b. (fits, inl (free, record { at_head = h.at_head; looks = h.looks; bounded = h.bounded; looked = h.looked; over = h.over; added = b })))
refused_at Added room count (Lost now) (fits, inr (head, past, is_open, h)) = (_, h.added, λ Behind b. (fits, inr (head, past, is_open, record { at_head = h.at_head; free = h.free; moved = h.moved; looks = h.looks; bounded = h.bounded; looked = h.looked; there = h.there; at_exchange = h.at_exchange; added = b })))

-- the tries of a put so far
abbrev pub Tried : ℕ → ℕ → View → View → Type 0
Tried room count v u = (tries : List (List (Step BatchState))) × AllByRecursion (IsLostTry room count) tries × OnlyLoads v (tried tries) u

-- a lost answer is one try more
pub tried_more : (room : ℕ) (items : List ℕ) (v u w : View) (r : Result ℕ PutRefusal) → is_lost r ≡ true → Tried room (length items) v u → MatchResult r (λ start. IsPut room u start items w) (λ e. RefusedPut room u (length items) e w) → Tried room (length items) v w
tried_more room items v u w (Ok start) is t h = absurd (true≢false (sym is))
tried_more room items v u w (Err NoItems) is t h = absurd (true≢false (sym is))
tried_more room items v u w (Err TooLong) is t h = absurd (true≢false (sym is))
tried_more room items v u w (Err Closed) is t h = absurd (true≢false (sym is))
tried_more room items v u w (Err Spent) is t h = absurd (true≢false (sym is))
tried_more room items v u w (Err (Full head free)) is t h = absurd (true≢false (sym is))
tried_more room items v u w (Err (Lost head)) is (tries, all, a) h = let at = refused_at (λ e. OnlyLoads u e w) room (length items) (Lost head) h in let one : List (List (Step BatchState)) = at.0 ∷ [] in (
  tries ++ one,
  all_on (IsLostTry room (length items)) tries one all ((head, at.2 (λ e. e ≡ at.0) refl), tt),
  subst (λ (z : List (Step BatchState)). OnlyLoads v z w) (sym (tried_on tries one)) (looks_on v u w (tried tries) (tried one) a (subst (λ (z : List (Step BatchState)). OnlyLoads u z w) (sym (append-nil at.0)) at.1)),
)

tried_refused : (room : ℕ) (v u w : View) (items : List ℕ) (r : PutRefusal) → (t : Tried room (length items) v u) → RefusedPut room u (length items) r w → RefusedPutBy (λ entries. OnlyLoads v (tried t.0 ++ entries) w) room (length items) r
tried_refused room v u w items r (tries, all, a) h = let at = refused_at (λ e. OnlyLoads u e w) room (length items) r h in at.2 (λ e. OnlyLoads v (tried tries ++ e) w) (looks_on v u w (tried tries) at.0 a at.1)

-- an answer that is not lost, after lost tries
pub answered : (room : ℕ) (v u w : View) (items : List ℕ) (r : Result ℕ PutRefusal) → is_lost r ≡ false → Tried room (length items) v u → MatchResult r (λ start. IsPut room u start items w) (λ e. RefusedPut room u (length items) e w) → PutAnswer room v items r w
answered room v u w items (Ok start) is (tries, all, a) (mark, m, c) = (
  tries,
  all,
  (
    mark,
    m,
    record {
      fits = c.fits;
      at_head = c.at_head;
      bounded = c.bounded;
      free = c.free;
      moved = c.moved;
      looks = c.looks;
      looked = c.looked;
      end = c.end;
      at_claim = c.at_claim;
      added = looks_made (λ d. with_put d start items) v u w (tried tries) _ a c.added;
    },
  ),
)
answered room v u w items (Err NoItems) is t h = (t.0, t.1, tried_refused room v u w items NoItems t h)
answered room v u w items (Err TooLong) is t h = (t.0, t.1, tried_refused room v u w items TooLong t h)
answered room v u w items (Err Closed) is t h = (t.0, t.1, tried_refused room v u w items Closed t h)
answered room v u w items (Err Spent) is t h = (t.0, t.1, tried_refused room v u w items Spent t h)
answered room v u w items (Err (Full head free)) is t h = (t.0, t.1, tried_refused room v u w items (Full head free) t h)
answered room v u w items (Err (Lost head)) is t h = absurd (true≢false is)

-- why nothing was put, of the whole call
pub why_put : (room count : ℕ) (v u w : View) (r : PutRefusal) → Tried room count v u → WhyNotPut u room count r w → WhyNotPut v room count r w
why_put room count v u w r ([], all, a) h = subst (λ (z : View). WhyNotPut z room count r w) a h
why_put room count v u w NoItems (t ∷ ts, all, a) (none, same) = let fits = all.0.1.0 in absurd (let some = fits.0 in omega arith)
why_put room count v u w TooLong (t ∷ ts, all, a) (long, same) = let fits = all.0.1.0 in absurd (let few = fits.1 in omega arith)
why_put room count v u w Closed (t ∷ ts, all, a) (fits, h) = let l = looks_adds v u (tried (t ∷ ts)) a in (fits, moment_after v u w (tried (t ∷ ts)) _ (ap (λ (z : Part). z.share) l.1) l.0 h)
why_put room count v u w Spent (t ∷ ts, all, a) (fits, h) = let l = looks_adds v u (tried (t ∷ ts)) a in (fits, moment_after v u w (tried (t ∷ ts)) _ (ap (λ (z : Part). z.share) l.1) l.0 h)
why_put room count v u w (Full head free) (t ∷ ts, all, a) (fits, (bounded, over, h)) = let l = looks_adds v u (tried (t ∷ ts)) a in (fits, (bounded, over, two_after v u w (tried (t ∷ ts)) _ (ap (λ (z : Part). z.share) l.1) l.0 h))
why_put room count v u w (Lost head) (t ∷ ts, all, a) (fits, inl h) = let l = looks_adds v u (tried (t ∷ ts)) a in (fits, inl (two_after v u w (tried (t ∷ ts)) _ (ap (λ (z : Part). z.share) l.1) l.0 h))
why_put room count v u w (Lost head) (t ∷ ts, all, a) (fits, inr (h, k)) = let l = looks_adds v u (tried (t ∷ ts)) a in let share = ap (λ (z : Part). z.share) l.1 in (fits, inr (moment_after v u w (tried (t ∷ ts)) _ share l.0 h, others_after v u w (tried (t ∷ ts)) _ share l.0 k))

pub put_error : (room count : ℕ) (v u w : View) (r : Result ℕ PutRefusal) → Tried room count v u → IfErr r (λ e. WhyNotPut u room count e w) → IfErr r (λ e. WhyNotPut v room count e w)
put_error room count v u w (Ok start) t h = h
put_error room count v u w (Err e) t h = why_put room count v u w e t h

-- what was put, and that nothing else was, of the whole call
pub looks_lines : (v u : View) (xs : List (Step BatchState)) → OnlyLoads v xs u → SameLines v u
looks_lines v u xs h = let own = looks_own v u xs h in (record { puts = (λ k. map line_of (own k).runs); takes = (λ k. map line_of (own k).takes); share = ap (λ (z : Part). z.share) (looks_adds v u xs h).1 }, λ k. (own k).parts)

same_then : (v u w : View) → SameLines v u → SameLines u w → SameLines v w
same_then v u w a b = (record { puts = b.0.puts ∙ a.0.puts; takes = b.0.takes ∙ a.0.takes; share = b.0.share ∙ a.0.share }, b.1 ∙ a.1)

put_then : (line : List ℕ) (v u w : View) → SameLines v u → PutLine line u w → PutLine line v w
put_then line v u w a b = (record { puts = b.0.puts ∙ (λ k. a.0.puts k ++ line ∷ []); takes = b.0.takes ∙ a.0.takes; share = b.0.share ∙ a.0.share }, b.1 ∙ a.1)

pub took_then : (line : List ℕ) (v u w : View) → SameLines v u → TookLine line u w → TookLine line v w
took_then line v u w a b = (record { puts = b.0.puts ∙ a.0.puts; takes = b.0.takes ∙ (λ k. a.0.takes k ++ line ∷ []); share = b.0.share ∙ a.0.share }, b.1 ∙ a.1)

pub put_effect : (room : ℕ) (items : List ℕ) (v u w : View) (r : Result ℕ PutRefusal) → Tried room (length items) v u → MatchResult r (λ start. PutLine items u w) (λ e. SameLines u w) → MatchResult r (λ start. PutLine items v w) (λ e. SameLines v w)
put_effect room items v u w (Ok start) (tries, all, a) h = put_then items v u w (looks_lines v u (tried tries) a) h
put_effect room items v u w (Err e) (tries, all, a) h = same_then v u w (looks_lines v u (tried tries) a) h

-- where the items were put, of the whole call
pub put_result : (room : ℕ) (items : List ℕ) (v u w : View) (r : Result ℕ PutRefusal) → Tried room (length items) v u → IfOk r (λ start. HasPut u start items w) → IfOk r (λ start. HasPut v start items w)
put_result room items v u w (Ok start) (tries, all, a) h = let l = looks_adds v u (tried tries) a in (
  moment_after v u w (tried tries) _ (ap (λ (z : Part). z.share) l.1) l.0 h.0,
  h.1 ∙ ap (λ (z : EndRecord). with_put z start items) (looks_own v u (tried tries) a),
)
put_result room items v u w (Err e) t h = tt

-- a lost answer is not that the queue is shut
pub lost_not_shut : {A : Type 0} (r : Result ℕ PutRefusal) → is_lost r ≡ true → MatchResult r (λ start. ⊥) (λ e. e ≡ Closed) → A
lost_not_shut (Ok start) is h = absurd h
lost_not_shut (Err e) is h = absurd (true≢false (sym is ∙ ap (λ (z : PutRefusal). is_lost (Err z)) h))

-- TAKINGS

pub refused_take_at : (Added : List (Step BatchState) → Type 0) (room most : ℕ) (r : TakeRefusal) → RefusedTakeBy Added room most r → (entries : List (Step BatchState)) × Added entries × ((Behind : List (Step BatchState) → Type 0) → Behind entries → RefusedTakeBy Behind room most r)
refused_take_at Added room most (takes.Empty at) h = (_, h.added, λ Behind b. record { glance = h.glance; none = h.none; is = h.is; head = h.head; at_head = h.at_head; going = h.going; again = h.again; added = b })
refused_take_at Added room most (takes.ShortBuffer at count) (long, h) = (_, h.added, λ Behind b. (long, record { glance = h.glance; long = h.long; is = h.is; again = h.again; added = b }))
refused_take_at Added room most (takes.Lost now) (inl h) = (_, h.added, λ Behind b. inl record { glance = h.glance; none = h.none; head = h.head; at_head = h.at_head; going = h.going; past = h.past; again = h.again; added = b })
refused_take_at Added room most (takes.Lost now) (inr (inl h)) = (_, h.added, λ Behind b. inr (inl record { glance = h.glance; count = h.count; long = h.long; past = h.past; again = h.again; added = b }))
refused_take_at Added room most (takes.Lost now) (inr (inr h)) = (_, h.added, λ Behind b. inr (inr record { tail = h.tail; new = h.new; some_item = h.some_item; at_tail = h.at_tail; loads = h.loads; followed = h.followed; past = h.past; at_exchange = h.at_exchange; added = b }))
refused_take_at Added room most takes.Closed h = (_, h.added, λ Behind b. record { glance = h.glance; none = h.none; at_head = h.at_head; added = b })

-- the tries of a taking so far
abbrev pub Waited : ℕ → ℕ → View → View → Type 0
Waited room most v u = (tries : List (List (Step BatchState))) × AllByRecursion (IsIdleTry room most) tries × Performed v (tried tries) v.own u

pub waited_none : (room most : ℕ) (v : View) → Waited room most v v
waited_none room most v = ([], tt, made_none v)

pub waited_more : (room most : ℕ) (v u w : View) (line : ℕ → List ℕ) (r : Result ℕ TakeRefusal) → must_wait r ≡ true → Waited room most v u → MatchResult r (λ n. TookBatches room u most (line n) w) (λ e. RefusedTake room u most e w) → Waited room most v w
waited_more room most v u w line (Ok n) is t h = absurd (true≢false (sym is))
waited_more room most v u w line (Err e) is (tries, all, a) h = let at = refused_take_at (λ z. Performed u z u.own w) room most e h in let one : List (List (Step BatchState)) = at.0 ∷ [] in (
  tries ++ one,
  all_on (IsIdleTry room most) tries one all ((e, is, at.2 (λ z. z ≡ at.0) refl), tt),
  subst (λ (z : List (Step BatchState)). Performed v z v.own w) (ap (λ (z : List (Step BatchState)). tried tries ++ z) (sym (append-nil at.0)) ∙ sym (tried_on tries one)) (made_then v u w (tried tries) at.0 v.own (λ d. d) a at.1),
)

pub taken_at_last : (room most n : ℕ) (v u w : View) (line : List ℕ) → Waited room most v u → TookBatches room u most line w → TakeAnswer room v most line (Ok n) w
taken_at_last room most n v u w line (tries, all, a) (tail, mark, m, t) = let o : BatchState = t.at_taking.object in (
  tries,
  all,
  (
    tail,
    mark,
    m,
    record {
      some_item = t.some_item;
      within = t.within;
      at_tail = t.at_tail;
      loads = t.loads;
      followed = t.followed;
      at_taking = t.at_taking;
      first = t.first;
      added = made_then v u w (tried tries) _ v.own (λ d. with_line d o (length line)) a t.added;
    },
  ),
)

pub refused_at_last : (room most : ℕ) (v u w : View) (line : List ℕ) (r : TakeRefusal) → must_wait (Err r) ≡ false → Waited room most v u → RefusedTake room u most r w → TakeAnswer room v most line (Err r) w
refused_at_last room most v u w line r is (tries, all, a) h = let at = refused_take_at (λ z. Performed u z u.own w) room most r h in
    (is, tries, all, at.2 (λ z. Performed v (tried tries ++ z) v.own w) (made_then v u w (tried tries) at.0 v.own (λ d. d) a at.1))

why_taken : (room most : ℕ) (v u w : View) (r : TakeRefusal) → Waited room most v u → WhyNotTaken u most r w → WhyNotTaken v most r w
why_taken room most v u w (takes.Empty at) (tries, all, a) (h, k) = (moment_after v u w (tried tries) _ (ap (λ (z : Part). z.share) a.member) a.adds h, moment_after v u w (tried tries) _ (ap (λ (z : Part). z.share) a.member) a.adds k)
why_taken room most v u w (takes.ShortBuffer at count) (tries, all, a) (long, h) = (long, moment_after v u w (tried tries) _ (ap (λ (z : Part). z.share) a.member) a.adds h)
why_taken room most v u w (takes.Lost now) (tries, all, a) h = two_after v u w (tried tries) _ (ap (λ (z : Part). z.share) a.member) a.adds h
why_taken room most v u w takes.Closed (tries, all, a) h = moment_after v u w (tried tries) _ (ap (λ (z : Part). z.share) a.member) a.adds h

pub take_error : (room most : ℕ) (v u w : View) (r : Result ℕ TakeRefusal) → Waited room most v u → IfErr r (λ e. WhyNotTaken u most e w) → IfErr r (λ e. WhyNotTaken v most e w)
take_error room most v u w (Ok n) t h = h
take_error room most v u w (Err e) t h = why_taken room most v u w e t h

-- what was taken, of the whole call
pub take_result_in : (room : ℕ) (old now new : List ℕ) (v u w : View) (r : Result ℕ TakeRefusal) → now ≡ old → Waited room (length old) v u → IfOk r (λ n. WereFirst u (take n new) w × TookAllThatFit u room (length now) n w)
    → IfOk r (λ n. WereFirst v (take n new) w × TookAllThatFit v room (length old) n w)
take_result_in room old now new v u w (Ok n) same (tries, all, a) (h, k) = let share = ap (λ (z : Part). z.share) a.member in let long : length now ≡ length old = ap length same in (
  moment_after v u w (tried tries) _ share a.adds (moment_map u w _ _ (λ o t. (t.0, t.1 ∙ ap (λ (z : EndRecord). with_line z o (length (take n new))) a.did)) h),
  ⊎_elim
      (λ full. inl (full ∙ ap (λ (z : ℕ). min z room) long))
      (λ t. inr (two_after v u w (tried tries) _ share a.adds (two_map u w _ _ (λ o later y. (y.0, subst (λ (z : ℕ). NoneFits o (later.taken + n) (later.taken + min z room)) long y.1, y.2 ∙ ap (λ (z : EndRecord). with_line z later n) a.did)) t)))
      k,
)
take_result_in room old now new v u w (Err e) same t h = tt

waited_lines : (room most : ℕ) (v u : View) → Waited room most v u → SameLines v u
waited_lines room most v u (tries, all, a) = (record { puts = (λ k. map line_of (a.did k).runs); takes = (λ k. map line_of (a.did k).takes); share = ap (λ (z : Part). z.share) a.member }, λ k. (a.did k).parts)

pub take_effect : (room most : ℕ) (old now new : List ℕ) (v u w : View) (r : Result ℕ TakeRefusal) → now ≡ old → Waited room most v u → MatchResult r (λ n. FilledBuffer n now new u w) (λ e. SameLines u w × (new ≡ now)) → MatchResult r (λ n. FilledBuffer n old new v w) (λ e. SameLines v w × (new ≡ old))
take_effect room most old now new v u w (Ok n) same t h = record { line = h.line; some_item = h.some_item; long = h.long; buffer = h.buffer ∙ ap (λ (z : List ℕ). h.line ++ drop n z) same; took = took_then h.line v u w (waited_lines room most v u t) h.took }
take_effect room most old now new v u w (Err e) same t h = (same_then v u w (waited_lines room most v u t) h.0, h.1 ∙ same)

pub take_trace : (room most : ℕ) (v u w : View) (line : ℕ → List ℕ) (r : Result ℕ TakeRefusal) → must_wait r ≡ false → Waited room most v u → MatchResult r (λ n. TookBatches room u most (line n) w) (λ e. RefusedTake room u most e w)
    → IfOk r (λ n. TakeAnswer room v most (line n) r w) × IfErr r (λ e. TakeAnswer room v most [] r w)
take_trace room most v u w line (Ok n) is t h = (taken_at_last room most n v u w (line n) t h, tt)
take_trace room most v u w line (Err e) is t h = (tt, refused_at_last room most v u w [] e is t h)

-- an answer after which the taking tries again changed no buffer
pub waited_buffer : (now new : List ℕ) (u w : View) (r : Result ℕ TakeRefusal) → must_wait r ≡ true → MatchResult r (λ n. FilledBuffer n now new u w) (λ e. SameLines u w × (new ≡ now)) → new ≡ now
waited_buffer now new u w (Ok n) is h = absurd (true≢false (sym is))
waited_buffer now new u w (Err e) is h = h.1

-- the answer of a call whose buffer is still the one that the call began with
pub take_error_in : (room : ℕ) (old now : List ℕ) (v u w : View) (r : Result ℕ TakeRefusal) → now ≡ old → Waited room (length old) v u → IfErr r (λ e. WhyNotTaken u (length now) e w) → IfErr r (λ e. WhyNotTaken v (length old) e w)
take_error_in room old now v u w r same t h = take_error room (length old) v u w r t (subst (λ (z : List ℕ). IfErr r (λ e. WhyNotTaken u (length z) e w)) same h)

pub take_trace_in : (room : ℕ) (old now new : List ℕ) (v u w : View) (r : Result ℕ TakeRefusal) → now ≡ old → must_wait r ≡ false → Waited room (length old) v u → MatchResult r (λ n. TookBatches room u (length now) (take n new) w) (λ e. RefusedTake room u (length now) e w)
    → IfOk r (λ n. TakeAnswer room v (length old) (take n new) r w) × IfErr r (λ e. TakeAnswer room v (length old) [] r w)
take_trace_in room old now new v u w r same is t h = take_trace room (length old) v u w (λ n. take n new) r is t (subst (λ (z : List ℕ). MatchResult r (λ n. TookBatches room u (length z) (take n new) w) (λ e. RefusedTake room u (length z) e w)) same h)

pub waited_more_in : (room : ℕ) (old now new : List ℕ) (v u w : View) (r : Result ℕ TakeRefusal) → now ≡ old → must_wait r ≡ true → Waited room (length old) v u → MatchResult r (λ n. TookBatches room u (length now) (take n new) w) (λ e. RefusedTake room u (length now) e w) → Waited room (length old) v w
waited_more_in room old now new v u w r same is t h = waited_more room (length old) v u w (λ n. take n new) r is t (subst (λ (z : List ℕ). MatchResult r (λ n. TookBatches room u (length z) (take n new) w) (λ e. RefusedTake room u (length z) e w)) same h)
