-- A buffer that is filled from a reader, and the text that it then has.
use Rattle.boot_script.proofs.Common.{◌≡◌, ◌⊎◌, inl, inr, ℕ, ◌<◌, ◌≤◌, ◌+◌, List, [], ◌++◌, ◌∙◌, refl, sym, ap, subst, arith, append_assoc, length, length-append, take, Option, Some, None, Result, Ok, Err, cases_lt, append-nil, take-append-le, take-append-add, IfOk, IfErr, IfSome, Consumes, IsAtEnd, Keeps, Events, Boot, Replayed, ReplayFault, IsReplay, IsReplayFault, ◌>>=◌, elements_of, first_draft, plan_from, plan_only, text_plan, events_from, text_events}
use Rattle.boot_script.proofs.LineWords.Openings.{both_long}

pub consumes_join : (a b c : Option (List ℕ)) (x y : List ℕ) → Consumes a b x → Consumes b c y → Consumes a c (x ++ y)
consumes_join None b c x y h k = tt
consumes_join (Some xs) None c x y h k = absurd h
consumes_join (Some xs) (Some ys) None x y h k = absurd k
consumes_join (Some xs) (Some ys) (Some zs) x y h k = h ∙ (ap (λ ws. x ++ ws) k ∙ sym (append_assoc x y zs))

pub consumes_nothing : (a b : Option (List ℕ)) (x : List ℕ) (c : Option (List ℕ)) → Consumes a b x → Keeps b c → Consumes a c x
consumes_nothing None b x c h k = tt
consumes_nothing (Some xs) None x c h k = absurd h
consumes_nothing (Some xs) (Some ys) x None h k = absurd k
consumes_nothing (Some xs) (Some ys) x (Some zs) h k = h ∙ ap (λ ws. x ++ ws) (sym k)

pub consumes_none : (a : Option (List ℕ)) → Consumes a a []
consumes_none None = tt
consumes_none (Some xs) = refl

-- two texts that are both too long say the same
events_long : (a b : List ℕ) → 65536 < length a → 65536 < length b → text_events a ≡ text_events b
unfolding text_events
events_long a b la lb = ap (λ o. o >>= λ opening. events_from opening.0 2 opening.1 >>= λ events. Ok (elements_of opening.0, events)) (both_long Events a b la lb)

plans_long : (a b : List ℕ) → 65536 < length a → 65536 < length b → text_plan a ≡ text_plan b
unfolding text_plan
plans_long a b la lb = ap (λ o. o >>= λ opening. plan_only (plan_from opening.0 2 opening.1 first_draft)) (both_long Boot a b la lb)

module _ {A : Type 0} (says : List ℕ → A) (both : (a b : List ℕ) → 65536 < length a → 65536 < length b → says a ≡ says b) where
  by_length : (text left : List ℕ) → (length text ≤ 65536 → left ≡ []) → (65536 < length text) ⊎ (length text ≤ 65536) → says (text ++ left) ≡ says text
  by_length text left end (inr short) = ap says (ap (λ xs. text ++ xs) (end short) ∙ append-nil text)
  by_length text left end (inl long) = both (text ++ left) text (omega (arith, length-append text left)) long

  -- what was read up to the end, or past the length that a script may have, says what the whole text says
  same_text : (old new : Option (List ℕ)) (text bytes : List ℕ) → old ≡ Some bytes → Consumes old new text → (length text ≤ 65536 → IsAtEnd new) → says bytes ≡ says text
  same_text None new text bytes e taken end = absurd (cc)
  same_text (Some xs) None text bytes e taken end = absurd taken
  same_text (Some xs) (Some ys) text bytes e taken end =
      let same : bytes ≡ text ++ ys = cc in
      ap says same ∙ by_length text ys end (cases_lt 65536 (length text))

  -- where the bytes of the reader are known, they say what was read of them
  said_of : (old new : Option (List ℕ)) (text : List ℕ) → Consumes old new text → (length text ≤ 65536 → IsAtEnd new) → IfSome old (λ bytes. says bytes ≡ says text)
  said_of None new text taken end = tt
  said_of (Some bytes) new text taken end = same_text (Some bytes) new text bytes refl taken end

-- a part after a front, if the first bytes of the part were read
pub filled_more : (front part post : List ℕ) (filled n : ℕ) → length front ≡ filled → n ≤ length part → take (filled + n) (front ++ (part ++ post)) ≡ front ++ take n part
filled_more front part post filled n e le = ap (λ k. take (k + n) (front ++ (part ++ post))) (sym e) ∙ (take-append-add front (part ++ post) n ∙ ap (λ xs. front ++ xs) (take-append-le n part post le))

pub events_of_read : (old new : Option (List ℕ)) (text : List ℕ) → Consumes old new text → (length text ≤ 65536 → IsAtEnd new) → IfSome old (λ bytes. text_events bytes ≡ text_events text)
events_of_read = said_of text_events events_long

pub plan_of_read : (old new : Option (List ℕ)) (text : List ℕ) → Consumes old new text → (length text ≤ 65536 → IsAtEnd new) → IfSome old (λ bytes. text_plan bytes ≡ text_plan text)
plan_of_read = said_of text_plan plans_long

-- a replay of the text that was filled in is one of all that was read
pub replay_of_read : (remaining : Option (List ℕ)) (text : List ℕ) (result : Result Replayed ReplayFault) (old new : Option (List ℕ)) → IfSome remaining (λ bytes. text_events bytes ≡ text_events text)
    → IfOk result (λ replayed. IsReplay (text_events text) replayed old new) → IfOk result (λ replayed. IfSome remaining (λ bytes. IsReplay (text_events bytes) replayed old new))
replay_of_read None text (Ok replayed) old new same h = tt
replay_of_read None text (Err fault) old new same h = tt
replay_of_read (Some bytes) text (Ok replayed) old new same h = subst (λ said. IsReplay said replayed old new) (sym same) h
replay_of_read (Some bytes) text (Err fault) old new same h = tt

-- a fault of the text that was filled in is one of all that was read
pub fault_of_read : (remaining : Option (List ℕ)) (text : List ℕ) (result : Result Replayed ReplayFault) → IfSome remaining (λ bytes. text_events bytes ≡ text_events text)
    → IfErr result (IsReplayFault (text_events text)) → IfErr result (λ fault. IfSome remaining (λ bytes. IsReplayFault (text_events bytes) fault))
fault_of_read None text (Ok replayed) same h = tt
fault_of_read None text (Err fault) same h = tt
fault_of_read (Some bytes) text (Ok replayed) same h = tt
fault_of_read (Some bytes) text (Err fault) same h = subst (λ said. IsReplayFault said fault) (sym same) h
