-- What was closed shows what a report says.
use Rattle.boot_report.proofs.Common.{◌≡◌, ℕ, zero, suc, ◌+◌, ◌*◌, ◌<◌, ◌≤◌, ◌%◌, ◌^◌, List, [], ◌∷◌, ◌++◌, length, get_or, refl, sym, ap, ◌∙◌, subst, arith, Some, slice_get, sum_by, length-drop, length-append, slice_get_within, IsNamed, Came, Typed, left_in, ShowsQueue, ShowsQueues, ShowsChains, ShowsDevices, length-take, state_for, reported, state_at, few, typed_of, typed_at, ShowsNumbers, ShowsDevice}
use Rattle.std.proofs.lemmas.List.Sums.{sum_by-cons, sum_by-append}
use Rattle.claim_queue.specs.declared.close.Closed.{Closed as ClosedQueue}
use Rattle.thread_table.specs.declared.places.Place.{Place}
use Rattle.thread_table.specs.declared.places.Place.TheVariants as places
use Rattle.boot_laws.specs.ClosedTables as closed
use Rattle.boot_laws.specs.Lines as lines
use Rattle.boot_laws.proofs.Boots.Booting.{left_of}
use Rattle.boot_report.specs.Amounts.{item_counts, counts_at, numbers_of, numbers_at}

module _ {A : Type 0} where
  -- what is at a place within
  pub got : (xs : List A) (k : ℕ) → k < length xs → (x : A) × (slice_get xs k ≡ Some x)
  got [] k low = absurd (omega arith)
  got (x ∷ xs) zero low = (x, refl)
  got (x ∷ xs) (suc k) low = got xs k (omega arith)

  pub got_left : (xs ys : List A) (k : ℕ) (x : A) → slice_get xs k ≡ Some x → slice_get (xs ++ ys) k ≡ Some x
  got_left [] ys k x is = absurd (cc)
  got_left (y ∷ xs) ys zero x is = is
  got_left (y ∷ xs) ys (suc k) x is = got_left xs ys k x is

  pub got_right : (xs ys : List A) (k : ℕ) (x : A) → slice_get ys k ≡ Some x → slice_get (xs ++ ys) (length xs + k) ≡ Some x
  got_right [] ys k x is = let m : 0 + k ≡ k = omega arith in subst (λ n. slice_get ys n ≡ Some x) (sym m) is
  got_right (y ∷ xs) ys k x is = let m : suc (length xs + k) ≡ suc (length xs) + k = omega arith in
      subst (λ n. slice_get (y ∷ (xs ++ ys)) n ≡ Some x) m (got_right xs ys k x is)

-- the numbers of a queue
counts_said : {n : ℕ} (q : closed.Queue) (its : ClosedQueue n) → ShowsQueue q its → lines.Counts q (item_counts (Some its))
counts_said q its s = let t = length-take q.taken q.items in let d = length-drop q.taken q.items in
    let put = s.put in let taken = s.taken in let following = s.taken_within in let left = s.left in
    record { put = put; taken = omega arith; left = omega arith }

pub counts_are : {n : ℕ} (queues : List closed.Queue) (numbers : List (ClosedQueue n)) → ShowsQueues queues numbers
    → (k : ℕ) (q : closed.Queue) → slice_get queues k ≡ Some q → lines.Counts q (counts_at numbers k)
counts_are queues numbers s k q is =
    let many = s.as_many in let low = slice_get_within queues k q is in
    let its = got numbers k (omega arith) in
    subst (λ o. lines.Counts q (item_counts o)) (sym its.1) (counts_said q its.0 (s.each k q its.0 is its.1))

-- the numbers of a chain
pub chain_is : (chains : List closed.Chain) (numbers : List Came) → ShowsChains chains numbers → (k : ℕ) (chain : closed.Chain)
    → slice_get chains k ≡ Some chain → ShowsNumbers chain (numbers_at numbers k)
chain_is chains numbers s k chain is =
    let many = s.as_many in let low = slice_get_within chains k chain is in
    let its = got numbers k (omega arith) in
    let shows = s.each k chain its.0 is its.1 in
    subst (λ o. ShowsNumbers chain (numbers_of o)) (sym its.1) (record { notes = shows.notes; taken = shows.taken; put = shows.put; held = shows.held })

pub device_is : (devices : List closed.Device) (typed : List Typed) → ShowsDevices devices typed → (k : ℕ) (d : closed.Device)
    → slice_get devices k ≡ Some d → ShowsDevice d (typed_at typed k)
device_is devices typed s k d is =
    let many = s.as_many in let low = slice_get_within devices k d is in
    let its = got typed k (omega arith) in
    subst (λ o. ShowsDevice d (typed_of o)) (sym its.1) (s.each k d its.0 is its.1)

-- the notes left in the chains
left_sums : (chains : List closed.Chain) (numbers : List Came) → ShowsChains chains numbers
    → (sum_by left_in numbers ≡ sum_by left_of chains) × (sum_by left_of chains ≤ length chains * 32)
left_sums [] [] s = (refl, omega arith)
left_sums [] (n ∷ ns) s = let many = s.as_many in absurd (omega arith)
left_sums (c ∷ cs) [] s = let many = s.as_many in absurd (omega arith)
left_sums (c ∷ cs) (n ∷ ns) s =
    let many = s.as_many in
    let rest = left_sums cs ns (record { as_many = omega arith; each = λ k. s.each (suc k) }) in
    let first = s.each 0 c n refl refl in
    let a = sum_by-cons left_in n ns in let b = sum_by-cons left_of c cs in
    let same = first.left in let small = first.few in let r = rest.0 in let l = rest.1 in (omega arith, omega arith)

pub all_left : (movers ttys : List closed.Chain) (numbers : List Came) → ShowsChains (movers ++ ttys) numbers
    → length movers + length ttys ≤ 6 → sum_by left_in numbers % 2 ^ 64 ≡ sum_by left_of movers + sum_by left_of ttys
all_left movers ttys numbers s low =
    let h = left_sums (movers ++ ttys) numbers s in let same = h.0 in let few = h.1 in
    let both = sum_by-append left_of movers ttys in let many = length-append movers ttys in omega arith

-- the word for a place
told_is : (place : Place) → IsNamed place → reported place ≡ state_for place
told_is places.Free named = refl
told_is places.Ready named = refl
told_is (places.Wait wait) named = let low : wait < 16 = named in grind arith
told_is places.Stopped named = refl
told_is places.Held named = refl
told_is (places.Processor p) named = refl

state_is : (stands : List Place) (thread : ℕ) → state_at stands thread ≡ reported (get_or stands thread places.Held)
state_is [] thread = refl
state_is (place ∷ stands) zero = refl
state_is (place ∷ stands) (suc thread) = state_is stands thread

pub said_at : (stands : List Place) (thread : ℕ) (place : Place) → place ≡ get_or stands thread places.Held
    → IsNamed place → state_at stands thread ≡ state_for place
said_at stands thread place is named = state_is stands thread ∙ (ap reported (sym is) ∙ told_is place named)

pub few_is : (steps : ℕ) → steps ≤ 64 → few steps ≡ steps
few_is steps low = grind arith
