-- Threads that are started together, what they gave back, and what is typed while they run.
use Rattle.boot_threads.proofs.Common.{List, [], ◌∷◌, Result, Ok, Err, subst, ◌≡◌, ℕ, zero, suc, ◌+◌, ◌<◌, ◌++◌, take, drop, length, get_or, sym, ◌∙◌, ap, AllZip, StartReports, WasJoined, GaveBack, PlannedTty, LineIn, IsTyped, AreTyped, Carries, Runs, Refusals, NotStarted, take_more}
use Rattle.std.specs.declared.thread.PromisedHandle.{PromisedHandle}
use Rattle.boot_threads.specs.declared.starting.JobPromise.{JobPromise}

module _ {S J B : Type 0} (ran : Runs S J B) (refused : Refusals S J) (gives : S → J → B → Type 0) (shared : S) where
  gave_one : (job : J) (handle : Result (PromisedHandle B (JobPromise S J)) (NotStarted S J)) (back : Result B (NotStarted S J)) → StartReports refused shared job handle → WasJoined ran gives handle back → GaveBack ran refused gives shared job back
  gave_one job (Err lost) (Err same) t j = subst (λ (z : NotStarted S J). Carries shared job z.reported × refused z.reported) (sym j) t
  gave_one job (Err lost) (Ok back) t j = absurd j
  gave_one job (Ok handle) (Err lost) t j = absurd j
  gave_one job (Ok handle) (Ok back) t j = ((handle.promise, t, j.0), subst (λ (z : S). gives z job back) t.0 (subst (λ (z : J). gives handle.promise.shared.value z back) t.1 j.1))

  -- what was started and then joined gave back what was promised
  pub gave_all : (jobs : List J) (handles : List (Result (PromisedHandle B (JobPromise S J)) (NotStarted S J))) (backs : List (Result B (NotStarted S J))) → AllZip (StartReports refused shared) jobs handles → AllZip (WasJoined ran gives) handles backs → AllZip (GaveBack ran refused gives shared) jobs backs
  gave_all [] [] [] t j = tt
  gave_all [] [] (b ∷ backs) t j = absurd j
  gave_all [] (h ∷ handles) backs t j = absurd t
  gave_all (x ∷ jobs) [] backs t j = absurd t
  gave_all (x ∷ jobs) (h ∷ handles) [] t j = absurd j
  gave_all (x ∷ jobs) (h ∷ handles) (b ∷ backs) t j = (gave_one x h b t.0 j.0, gave_all jobs handles backs t.1 j.1)

pub take_one : {A : Type 0} (xs : List A) (n : ℕ) (x : A) → n < length xs → x ≡ get_or xs n x → take (n + 1) xs ≡ take n xs ++ x ∷ []
take_one xs n x below is = take_more xs n x below ∙ ap (λ z. take n xs ++ z ∷ []) (sym is)

module _ {H N : Type 0} where
  pub one_more : (ttys : List PlannedTty) (devices : List (Result H N)) (lines typed : List LineIn) (tty : PlannedTty) (device : Result H N) (a b : LineIn)
      → AreTyped ttys devices lines typed → IsTyped device tty a b → AreTyped (ttys ++ tty ∷ []) (devices ++ device ∷ []) (lines ++ a ∷ []) (typed ++ b ∷ [])
  one_more [] [] [] [] tty device a b all one = (one, tt)
  one_more [] [] [] (m ∷ typed) tty device a b all one = absurd all
  one_more [] [] (l ∷ lines) typed tty device a b all one = absurd all
  one_more [] (d ∷ devices) lines typed tty device a b all one = absurd all
  one_more (t ∷ ttys) [] lines typed tty device a b all one = absurd all
  one_more (t ∷ ttys) (d ∷ devices) [] typed tty device a b all one = absurd all
  one_more (t ∷ ttys) (d ∷ devices) (l ∷ lines) [] tty device a b all one = absurd all
  one_more (t ∷ ttys) (d ∷ devices) (l ∷ lines) (m ∷ typed) tty device a b all one = (all.0, one_more ttys devices lines typed tty device a b all.1 one)

module _ {S J B : Type 0} (ran : Runs S J B) (gives : S → J → B → Type 0) where
  -- a device that was started gave something back, and one that was not gave nothing
  typed_as : (ttys : List PlannedTty) (handles : List (Result (PromisedHandle B (JobPromise S J)) (NotStarted S J))) (backs : List (Result B (NotStarted S J))) (lines typed : List LineIn)
      → AllZip (WasJoined ran gives) handles backs → AreTyped ttys handles lines typed → AreTyped ttys backs lines typed
  typed_as [] [] [] [] [] z t = tt
  typed_as [] [] (b ∷ bs) ls ms z t = absurd z
  typed_as [] [] [] [] (m ∷ ms) z t = absurd t
  typed_as [] [] [] (l ∷ ls) ms z t = absurd t
  typed_as [] (h ∷ hs) bs ls ms z t = absurd t
  typed_as (y ∷ ttys) [] bs ls ms z t = absurd t
  typed_as (y ∷ ttys) (h ∷ hs) [] ls ms z t = absurd z
  typed_as (y ∷ ttys) (h ∷ hs) (b ∷ bs) [] ms z t = absurd t
  typed_as (y ∷ ttys) (h ∷ hs) (b ∷ bs) (l ∷ ls) [] z t = absurd t
  typed_as (y ∷ ttys) (Err h ∷ hs) (Err b ∷ bs) (l ∷ ls) (m ∷ ms) z t = (t.0, typed_as ttys hs bs ls ms z.1 t.1)
  typed_as (y ∷ ttys) (Ok h ∷ hs) (Ok b ∷ bs) (l ∷ ls) (m ∷ ms) z t = (t.0, typed_as ttys hs bs ls ms z.1 t.1)
  typed_as (y ∷ ttys) (Err h ∷ hs) (Ok b ∷ bs) (l ∷ ls) (m ∷ ms) z t = absurd z.0
  typed_as (y ∷ ttys) (Ok h ∷ hs) (Err b ∷ bs) (l ∷ ls) (m ∷ ms) z t = absurd z.0

  pub typed_past : (n : ℕ) (ttys : List PlannedTty) (handles : List (Result (PromisedHandle B (JobPromise S J)) (NotStarted S J))) (backs : List (Result B (NotStarted S J))) (lines typed : List LineIn)
      → AllZip (WasJoined ran gives) handles backs → AreTyped ttys (drop n handles) lines typed → AreTyped ttys (drop n backs) lines typed
  typed_past zero ttys hs bs ls ms z t = typed_as ttys hs bs ls ms z t
  typed_past (suc n) ttys [] [] ls ms z t = typed_as ttys [] [] ls ms z t
  typed_past (suc n) ttys [] (b ∷ bs) ls ms z t = absurd z
  typed_past (suc n) ttys (h ∷ hs) [] ls ms z t = absurd z
  typed_past (suc n) ttys (h ∷ hs) (b ∷ bs) ls ms z t = typed_past n ttys hs bs ls ms z.1 t
