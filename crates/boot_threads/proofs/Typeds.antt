-- A device that served as many bytes as were typed served those: its runs are in order, and it shut nothing.
use Rattle.boot_threads.proofs.Common.{◌≡◌, inl, inr, ℕ, Bool, true, false, List, [], ◌∷◌, ◌++◌, ◌∙◌, length, refl, sym, ap, subst, arith, ◌+◌, ◌<◌, ◌%◌, ◌^◌, map, Ok, Err, not, append-nil, length-map, PutByte, end_of, overruns_of, Try, bytes_of, lines_of, refused, PutEach, Served, mod-eq_of_lt, PlannedTty, lines_put, Device, ProcChain, AnyQuaject, RawTty, Queues, LineIn, LineOut, bytes_sent, bytes_received, concat, length-append, nil_from_length, line_of, IsDevice, bytes_left, device_of}
use Rattle.boot_objects.specs.DeviceEndings.{AreWithout, DeviceEnded}
use Rattle.table_theory.specs.Interleaving.{Ascending, InOrder}
use Rattle.table_theory.proofs.Ordering.{order_none}
use Rattle.claim_queue.specs.Own.{View}
use Rattle.claim_queue.proofs.Answered.{answer_own}
use Rattle.claim_queue.proofs.Ordered.{answer_order}
use Rattle.quajects.specs.Settled.{runs_of}
use Rattle.std.proofs.lemmas.List.Sums.{length-filter, count_by-le-length}
use Rattle.claim_queue.specs.Plain.{ClaimQueue}
use Rattle.claim_queue.specs.Handles.{view_of}
use Rattle.table_theory.specs.declared.queues.Batch.{Batch}

-- PUTS

-- if the runs were in order, they still are, and nothing more was shut
record Keeps (v w : View) : Type 0 where
  order : InOrder v.own.runs → InOrder w.own.runs
  shuts : w.own.shuts ≡ v.own.shuts

put_keeps : (v w : View) (byte : ℕ) (put : Bool) → PutByte v byte put w → Keeps v w
put_keeps v w byte true h = record { order = answer_order 64 v w (byte ∷ []) (Ok h.0) h.1; shuts = λ i. ((answer_own 64 v w (byte ∷ []) (Ok h.0) h.1).did i).shuts }
put_keeps v w byte false h = record { order = answer_order 64 v w (byte ∷ []) (Err h.0) h.1; shuts = λ i. ((answer_own 64 v w (byte ∷ []) (Err h.0) h.1).did i).shuts }

each_keeps : (tries : List Try) (v w : View) → PutEach v tries w → Keeps v w
each_keeps [] v w e = record { order = subst (λ (z : View). InOrder z.own.runs) (sym e); shuts = λ i. (e i).own.shuts }
each_keeps (t ∷ tries) v w e = let one = put_keeps v e.0 t.byte t.put e.1 in let rest = each_keeps tries e.0 w e.2 in record { order = λ up. rest.order (one.order up); shuts = rest.shuts ∙ one.shuts }

-- an end that had no run, and then tried to put each of these bytes, has its runs in order
pub puts_ascend : (tries : List Try) (v w : View) → PutEach v tries w → v.own.runs ≡ [] → Ascending (runs_of w)
puts_ascend tries v w e none = ((each_keeps tries v w e).order (subst InOrder (sym none) order_none)).0

pub puts_shut_none : (tries : List Try) (v w : View) → PutEach v tries w → w.own.shuts ≡ v.own.shuts
puts_shut_none tries v w e = (each_keeps tries v w e).shuts

-- BYTES

without_one : (byte : ℕ) (put : Bool) (tries : List Try) → AreWithout (bytes_of tries) (refused tries) (concat (lines_of tries))
    → AreWithout (byte ∷ bytes_of tries) (refused (record { byte = byte; put = put } ∷ tries)) (concat (lines_of (record { byte = byte; put = put } ∷ tries)))
without_one byte true tries rest = inl (concat (lines_of tries), refl, rest)
without_one byte false tries rest = inr (refused tries, omega arith, rest)

-- the lines put are the bytes without those refused
pub put_without : (tries : List Try) → AreWithout (bytes_of tries) (refused tries) (concat (lines_of tries))
put_without [] = (refl, refl)
put_without (t ∷ tries) = without_one t.byte t.put tries (put_without tries)

-- what is as long as the whole, and begins it, is the whole
pub all_received : {A : Type 0} (xs ys zs : List A) → xs ++ ys ≡ zs → length xs ≡ length zs → xs ≡ zs
all_received xs ys zs whole long =
    let e = length-append xs ys in let f = ap (λ z. length z) whole in
    sym (append-nil xs) ∙ ap (λ z. xs ++ z) (sym (nil_from_length ys (omega (arith, e, f, long)))) ∙ whole

pub served_all : (queues : List (ClaimQueue 64)) (chains : List (ProcChain AnyQuaject Queues)) (raw chain : ℕ) (device : Device) (its : ProcChain AnyQuaject Queues) (p : PlannedTty) (input : LineIn) (line : LineOut) (tty : RawTty)
    → IsDevice queues chains raw chain device → length p.typed < 2 ^ 64 → bytes_sent input ≡ bytes_sent device.input ++ p.typed
    → Served its (length p.typed) device.output device.tty line tty → bytes_received line ++ bytes_left input line ≡ bytes_sent input → DeviceEnded p (end_of tty) (device_of line tty)
served_all queues chains raw chain device its p input line tty d few sent s whole =
    let typed : List ℕ = p.typed in
    let v : View = view_of (end_of device.tty) in
    let w : View = view_of (end_of tty) in
    let none_runs : v.own.runs ≡ [] = d.unused.0 in
    let bytes : List ℕ = bytes_of s.tries in
    let received : bytes_received line ≡ bytes = s.received ∙ ap (λ (z : List ℕ). z ++ bytes) d.output.1 in
    let all_sent : bytes_sent input ≡ typed = sent ∙ ap (λ (z : List ℕ). z ++ typed) d.input.1 in
    let popped : bytes ≡ typed = all_received bytes (bytes_left input line) typed (ap (λ (z : List ℕ). z ++ bytes_left input line) (sym received) ∙ whole ∙ all_sent) (length-map s.tries (λ (t : Try). t.byte) ∙ s.many) in
    let fewer = length-filter (λ (t : Try). not t.put) s.tries in let few_all = count_by-le-length (λ (t : Try). not t.put) s.tries in
    let small : refused s.tries < 2 ^ 64 = (let m = s.many in omega arith) in
    let none_before : 0 + refused s.tries ≡ refused s.tries = omega arith in
    let overruns : overruns_of tty ≡ refused s.tries = s.overruns ∙ ap (λ (z : ℕ). (z + refused s.tries) % 2 ^ 64) d.none_refused ∙ ap (λ (z : ℕ). z % 2 ^ 64) none_before ∙ mod-eq_of_lt small in
    let lines : lines_put w ≡ lines_of s.tries = s.lines ∙ ap (λ (z : List Batch). map line_of z ++ lines_of s.tries) none_runs in
    record {
      popped = received ∙ popped;
      put = subst (λ (z : List ℕ). AreWithout z (overruns_of tty) (concat (lines_put w))) (sym received)
          (subst (λ (z : ℕ). AreWithout bytes z (concat (lines_put w))) (sym overruns)
          (subst (λ (z : List (List ℕ)). AreWithout bytes (refused s.tries) (concat z)) (sym lines) (put_without s.tries)));
      ascends = puts_ascend s.tries v w s.put none_runs;
      took_none = tty.only;
      shut_none = puts_shut_none s.tries v w s.put ∙ d.none_shut;
    }
