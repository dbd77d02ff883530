-- What a notify does.
use Rattle.thread_table.proofs.Common.{by_head, View, None, ◌≡◌, ◌≢◌, ℕ, zero, suc, ◌+◌, ◌*◌, ◌%◌, ◌<◌, List, length, set, get_or, Ok, refl, sym, ap, subst, ◌∙◌, arith, mod-lt, get_or-set_same, get_or-set_other, length-set, slice_get-get_or, mod-eq_of_lt, add-mod_right, dite, dec_lt, Elements, NOTIFY, ring_at, head_word, tail_word, place_word, wait_ring, WordsShow, RingShows, PlaceShows, head_shown, mark_of, WAITS, quiet}
use Rattle.event_theory.specs.Marks.{notify_wait}
use Rattle.thread_table.proofs.Events.Changes.{hand_holds}
use Rattle.thread_table.proofs.Events.Effects.{May, Anything, becomes}
use Rattle.event_theory.specs.declared.event.Event.TheVariants as events
use Rattle.thread_table.proofs.Shown.QueueWords.{shows_kept, with_rings, queue_stays, claim_kept, rings_leave, none_some}
use Rattle.thread_table.proofs.Events.Owing.{same_owes}

-- a number of 32 bits above another, one more, modulo 2^64
one_more : (low mark : ℕ) → low < 4294967296 → mark < 4294967296 → (low + mark * NOTIFY + 4294967296) % 18446744073709551616 ≡ low + (mark + 1) % NOTIFY * NOTIFY
one_more low mark bounded marked = dite (dec_lt (mark + 1) 4294967296)
    (λ y. let a : (mark + 1) % NOTIFY ≡ mark + 1 = mod-eq_of_lt y in
    mod-eq_of_lt {n = low + mark * NOTIFY + 4294967296} {m = 18446744073709551616} (omega arith) ∙ omega (arith, a))
    (λ no. let e : mark ≡ 4294967295 = omega arith in
    let a : (mark + 1) % NOTIFY ≡ 0 = ap (λ n. (n + 1) % NOTIFY) e in
    let b : low + mark * NOTIFY + 4294967296 ≡ low + 18446744073709551616 = omega (arith, e) in
    ap (λ n. n % 18446744073709551616) b ∙ (add-mod_right low 18446744073709551616
    ∙ (mod-eq_of_lt {n = low} {m = 18446744073709551616} (omega arith) ∙ omega (arith, a))))

-- the number of notifies, one more
abbrev valid : Elements → ℕ → List ℕ
valid e wait = set e.notified wait ((get_or e.notified wait 0 + 1) % NOTIFY)

abbrev after : Elements → ℕ → Elements
after e wait = with_rings e e.rings (valid e wait) e.held

goes : (e : Elements) (wait : ℕ) → wait < length e.notified → notify_wait wait e ≡ Ok (after e wait)
goes e wait below = rw (slice_get-get_or e.notified wait 0 below) refl

mark_is : (e : Elements) (wait : ℕ) → mark_of e (wait_ring wait) ≡ get_or e.notified wait 0
mark_is e wait = let n : wait + 2 ≡ suc (suc wait) = omega arith in ap (mark_of e) n

mark_after : (e : Elements) (wait : ℕ) → wait < length e.notified → mark_of (after e wait) (wait_ring wait) ≡ (get_or e.notified wait 0 + 1) % NOTIFY
mark_after e wait below = mark_is (after e wait) wait ∙ get_or-set_same e.notified wait ((get_or e.notified wait 0 + 1) % NOTIFY) 0 below

mark_other : (e : Elements) (wait l : ℕ) → l ≢ wait + 2 → mark_of (after e wait) l ≡ mark_of e l
mark_other e wait zero ne = refl
mark_other e wait (suc zero) ne = refl
mark_other e wait (suc (suc w)) ne = get_or-set_other e.notified wait w ((get_or e.notified wait 0 + 1) % NOTIFY) 0 (λ is. ne (omega arith))

ring_after : (first : ℕ) (e : Elements) (words : List ℕ) (wait word : ℕ) → wait < length e.notified → head_word (wait_ring wait) < length words → RingShows first e (wait_ring wait) words
    → word ≡ (head_shown first e (wait_ring wait) + 4294967296) % 18446744073709551616
    → RingShows first (after e wait) (wait_ring wait) (set words (head_word (wait_ring wait)) word)
ring_after first e words wait word below wide s is =
    let n : ℕ = length (ring_at e (wait_ring wait)).history in
    let old : mark_of e (wait_ring wait) ≡ get_or e.notified wait 0 = mark_is e wait in
    let new : mark_of (after e wait) (wait_ring wait) ≡ (get_or e.notified wait 0 + 1) % NOTIFY = mark_after e wait below in
    let near : (get_or e.notified wait 0 + 1) % NOTIFY < 4294967296 = mod-lt (get_or e.notified wait 0 + 1) (omega arith) in
    let same : (k : ℕ) → k ≢ head_word (wait_ring wait) → get_or (set words (head_word (wait_ring wait)) word) k 0 ≡ get_or words k 0 = λ k ne. get_or-set_other words (head_word (wait_ring wait)) k word 0 ne in
    record {
      capacity = s.capacity;
      is_open = s.is_open;
      single = s.single;
      bounded = s.bounded;
      marked = subst (λ m. m < 4294967296) (sym new) near;
      head = get_or-set_same words (head_word (wait_ring wait)) word 0 wide ∙ (is
          ∙ (ap (λ m. (first + n + m * NOTIFY + 4294967296) % 18446744073709551616) old
          ∙ (one_more (first + n) (get_or e.notified wait 0) s.bounded (subst (λ m. m < 4294967296) old s.marked)
          ∙ ap (λ m. first + n + m * NOTIFY) (sym new))));
      tail = same (tail_word (wait_ring wait)) (λ e. omega arith) ∙ s.tail;
      places = λ run a b. subst (PlaceShows first (ring_at e (wait_ring wait)) run) (sym (same (place_word (wait_ring wait) (first + run)) (λ e. omega arith))) (s.places run a b);
    }

module _ (id : ℕ) (v : View) (free : v.own.claimed ≡ None) where
  pub may_notify : (wait : ℕ) → wait < WAITS → May id v (events.NotifyWait id wait) (head_word (wait_ring wait)) Anything (λ x. (x + 4294967296) % 18446744073709551616)
  may_notify wait below = record {
    change = notify_wait wait;
    is = λ t. refl;
    plain = refl;
    inside = omega arith;
    goes = λ first same e words ready any. let shows : WordsShow first e words = ready.shows in let many = shows.waits in let wide = shows.wide in
        let word : ℕ = (head_shown first e (wait_ring wait) + 4294967296) % 18446744073709551616 in let head = (shows.rings (wait_ring wait) (omega arith)).head in
        becomes words _ (ap (λ (z : ℕ). (z + 4294967296) % 18446744073709551616) (sym head)) record {
          f = after e wait;
          goes = goes e wait (omega arith);
          leaves = rings_leave id v e e.rings (valid e wait) e.held (λ l. queue_stays (ring_at e l) (ring_at e l) refl) (λ call element ne. refl)
              (λ call c ne claimed. claim_kept call c e (after e wait) refl refl claimed);
          hand = hand_holds id v e (after e wait) v.own.held v.own.claimed ready.hand refl refl ready.hand.held (λ c at. none_some c v.own.claimed free at);
          shows = shows_kept first e e.rings (valid e wait) e.held (wait_ring wait) (head_word (wait_ring wait)) word words shows refl (length-set e.notified wait _) (omega arith) (omega arith) (omega arith) (by_head (wait_ring wait) (omega arith) refl)
              (λ l ne. refl) (mark_other e wait)
              (ring_after first e words wait word (omega arith) (omega arith) (shows.rings (wait_ring wait) (omega arith)) refl);
          owes = same_owes v (quiet v) e (after e wait) free (λ ring. refl);
        };
  }
