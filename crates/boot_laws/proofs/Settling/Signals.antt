-- The signals raised are those delivered and those pending.
use Rattle.turn_dispatch.proofs.Common.{◌&&◌, ◌||◌, ◌==◌, is_in, made_in, View, thread_at, elements_of, tally, is_delivered}
use Rattle.boot_laws.proofs.Common.{same_pair, is_pending, pending_in, made_pending, delivered, is_signal, IsAccounted, signals_of, state_after, signalled_by, delivered_by}
use Rattle.boot_laws.proofs.Settling.Common.{result_unwrap_or, dite, dec_lt, Reaches, step, first_state, Thread, new_thread, slice_get, ELEMENTS, moves, Place, ClosedNow, plus, many_cons, many_more, by_bool, find_it, any_is, is_less, reached}
use Rattle.thread_table.proofs.Common.{◌≡◌, ⊎_elim, ℕ, zero, suc, ◌+◌, ◌<◌, ◌≤◌, Bool, true, false, not, eqb_tells, List, [], ◌∷◌, ◌∙◌, get_or, refl, sym, ap, subst, arith, count_by, list_any, or-true, or-false, State, Event, Elements, nat_lt}
use Rattle.event_theory.proofs.Keeping.Accounts.{account_law}
use Rattle.event_theory.specs.declared.event.Event.TheVariants as events
use Rattle.turn_dispatch.proofs.Delivered.{any_at}
use Rattle.boot_laws.proofs.Settling.Moves.{Move, cut, of_schedule, each_one}
use Rattle.boot_laws.proofs.Settling.Steps.{turned}

abbrev is_n : ℕ → ℕ → Bool
is_n n s = s == n

same_pending : (n : ℕ) (ts : List Thread) (y : ℕ) → (get_or ts y new_thread).pending n ≡ pending_in n (slice_get ts y)
same_pending n [] y = refl
same_pending n (t ∷ ts) zero = refl
same_pending n (t ∷ ts) (suc y) = same_pending n ts y

module _ (x n : ℕ) where
  -- BY EVENTS

  abbrev signals_it : Move → Bool
  signals_it m = is_signal x n m.0

  abbrev of_it : ℕ × List ℕ → Bool
  of_it d = d.0 == x && list_any (is_n n) d.1

  one_signal : (event : Event) (s : State) → count_by (same_pair (x, n)) (signalled_by (made_in event s)) ≡ plus (signals_it (event, s))
  one_signal (events.Signal call e k) s = let a = many_cons (same_pair (x, n)) (e, k) [] in
      let b : plus ((x == e) && (n == k)) ≡ plus ((e == x) && (k == n)) = λ i. plus (turned x e i && turned n k i) in omega arith
  one_signal event s = refl

  one_delivery : n < 16 → (event : Event) (s : State) → count_by of_it (delivered_by (made_in event s)) ≡ plus (delivered x n (event, s))
  one_delivery low (events.Deliver call e) s = let a = many_cons of_it (e, signals_of (events.Deliver call e) s) [] in
      let b : plus (e == x && list_any (is_n n) (signals_of (events.Deliver call e) s)) ≡ plus (e == x && is_pending x n s) = ⊎_elim
      (λ t. ap (λ z. plus ((e == x) && z)) (any_at (thread_at s.elements e).pending n 0 16 (omega arith) (omega arith) ∙ (ap (λ z. (thread_at s.elements z).pending n) t.1 ∙ same_pending n s.elements.threads x)))
      (λ f. ap (λ z. plus (z && list_any (is_n n) (signals_of (events.Deliver call e) s))) f.0 ∙ ap (λ z. plus (z && is_pending x n s)) (sym f.0))
      (eqb_tells e x) in omega arith
  one_delivery low event s = refl

  -- IN A SCHEDULE

  fewer : (ms : List Move) → count_by (made_pending x n) ms ≤ count_by signals_it ms
  fewer [] = omega arith
  fewer (m ∷ ms) = let ih = fewer ms in let a = many_cons (made_pending x n) m ms in let b = many_cons signals_it m ms in
      let c = less (is_signal x n m.0) (not (is_pending x n m.1)) in omega arith
    where
      less : (a b : Bool) → plus (a && b) ≤ plus a
      less true true = omega arith
      less true false = omega arith
      less false b = omega arith

  accounts : (es : List Event) (t : State) → Reaches (first_state 64) es t
      → count_by (made_pending x n) (moves (first_state 64) es) ≡ count_by (delivered x n) (moves (first_state 64) es) + plus (is_pending x n t)
  accounts es t h = let a : IsAccounted (first_state 64) es t = account_law 64 es t h in a.pending x n

  in_moves : (s : State) (es : List Event) → count_by signals_it (moves s es) ≡ count_by (is_signal x n) es
  in_moves s [] = refl
  in_moves s (e ∷ es) = let t : State = result_unwrap_or (step e s) s in
      let a = many_cons signals_it (e, s) (moves t es) in let b = many_cons (is_signal x n) e es in let ih = in_moves t es in omega arith

  -- the first signal event found it not pending
  some_pending : (es : List Event) (t : State) → Reaches (first_state 64) es t → 0 < count_by (is_signal x n) es
      → 0 < count_by (made_pending x n) (moves (first_state 64) es)
  some_pending es t h low =
      let f = find_it (is_signal x n) es low in
      let c = cut (first_state 64) f.front (f.it ∷ f.back) t (subst (λ (z : List Event). Reaches (first_state 64) z t) f.is h) in
      let u : State = c.there in
      let next : State = result_unwrap_or (step f.it u) u in
      let all : count_by (made_pending x n) (moves (first_state 64) es) ≡ count_by (made_pending x n) (moves (first_state 64) f.front) + (plus (made_pending x n (f.it, u)) + count_by (made_pending x n) (moves next f.back)) =
      ap (λ (z : List Event). count_by (made_pending x n) (moves (first_state 64) z)) f.is
      ∙ (ap (count_by (made_pending x n)) c.parted
      ∙ (many_more (made_pending x n) (moves (first_state 64) f.front) ((f.it, u) ∷ moves next f.back)
      ∙ ap (λ (z : ℕ). count_by (made_pending x n) (moves (first_state 64) f.front) + z) (many_cons (made_pending x n) (f.it, u) (moves next f.back)))) in
      by_bool (is_pending x n u)
      (λ is. let a = accounts f.front u c.reached in let b : plus (is_pending x n u) ≡ 1 = ap plus is in omega arith)
      (λ isnt. let b : plus (made_pending x n (f.it, u)) ≡ 1 = ap (λ (z : Bool). plus (z && not (is_pending x n u))) f.passes ∙ ap (λ (z : Bool). plus (true && not z)) isnt in omega arith)

  -- some are signals if some were delivered or it is pending
  either : (signals made delivered : ℕ) (pending : Bool) → made ≤ signals → (0 < signals → 0 < made) → made ≡ delivered + plus pending
      → nat_lt 0 signals ≡ (nat_lt 0 delivered || pending)
  either signals made delivered true low up is = is_less 0 signals (omega arith) ∙ sym (or-true (nat_lt 0 delivered))
  either signals made delivered false low up is = dite (dec_lt 0 signals)
      (λ some. let more = up some in is_less 0 signals some ∙ sym (or-false (nat_lt 0 delivered) ∙ is_less 0 delivered (omega arith)))
      (λ no. ap (nat_lt 0) (let same : signals ≡ delivered = omega (arith, no) in same) ∙ sym (or-false (nat_lt 0 delivered)))

  pub signals_settle : (call : ℕ) (v : View) (stands : List Place) (pcs pending : List ℕ) (stops : ℕ) → ClosedNow call v stands pcs pending stops → x < ELEMENTS → n < 16
      → list_any (same_pair (x, n)) (tally v.own.made).signalled ≡ (is_delivered (tally v.own.made).delivered x n || is_in (get_or pending x 0) n)
  signals_settle call v stands pcs pending stops c low few =
      let past : List Event = v.seen.object in let ms : List Move = moves (first_state 64) past in let t : State = state_after past in
      let there : Reaches (first_state 64) past t = reached past c.allowed in
      let raised : count_by (same_pair (x, n)) (tally v.own.made).signalled ≡ count_by signals_it ms =
      of_schedule signalled_by (λ call other s. refl) (same_pair (x, n)) past v.own.made c.made ∙ each_one signalled_by (same_pair (x, n)) signals_it one_signal ms in
      let given : count_by of_it (tally v.own.made).delivered ≡ count_by (delivered x n) ms =
      of_schedule delivered_by (λ call other s. refl) of_it past v.own.made c.made ∙ each_one delivered_by of_it (delivered x n) (one_delivery few) ms in
      let still : is_pending x n t ≡ is_in (get_or pending x 0) n =
      sym (ap (λ (z : Elements). (thread_at z x).pending n) (elements_of past) ∙ same_pending n t.elements.threads x) ∙ c.signals x low n few in
      any_is (same_pair (x, n)) (tally v.own.made).signalled
      ∙ (ap (nat_lt 0) raised
      ∙ (either (count_by signals_it ms) (count_by (made_pending x n) ms) (count_by (delivered x n) ms) (is_pending x n t)
      (fewer ms) (λ some. some_pending past t there (subst (λ k. 0 < k) (in_moves (first_state 64) past) some)) (accounts past t there)
      ∙ (λ i. sym (any_is of_it (tally v.own.made).delivered ∙ ap (nat_lt 0) given) i || still i)))
