use Rattle.trace_events.proofs.Common.{◌≡◌, ◌+◌, ◌-◌, ap, sym, subst, ◌∙◌, ◌∷◌, ◌++◌, List, ℕ, Bool, true, arith, string_bytes, if◌then◌else◌, slice_get, heard_text, name_of_thread, thread_names, thread_text, threads_text}
use Rattle.trace_events.proofs.Masks.{joined, name_less, name_more, names_done, spaced}
use Rattle.trace_events.proofs.threads.text_of_threads.Goals as goal
use Rattle.trace_events.proofs.threads.text_of_threads.Goals.{in-Some+in_ok-name+in_ok-add_name, in_default}

pub loop-number-init : goal.loop-number-init
loop-number-init c = ap (λ (text : List ℕ). text ++ spaced true (thread_names c.args.plan.now c.args.mask 0 64)) c.new-text.ensures.bytes ∙ joined (thread_names c.args.plan.now c.args.mask 0 64)

pub loop-number-preserved : goal.loop-number-preserved
loop-number-preserved c =
    let plan = c.args.plan.now in
    let mask = c.args.mask in
    let number = c.loop-number.number in
    let is_first = c.loop-number.is_first in
    let old : List ℕ = string_bytes c.loop-number.text in
    let new : List ℕ = string_bytes c.match-member.text in
    let Done : Bool → Type 0 = λ first. new ++ spaced first (thread_names plan mask (number + 1) (64 - (number + 1))) ≡ threads_text plan mask in
    elim c.match-member.branch [
      | in-Some+in_ok-name+in_ok-add_name w ↦
          let found = w.thread_name.ensures ∙ ap (λ (thread : ℕ). name_of_thread (slice_get plan.threads thread)) w.in-Some.ensures.1 in
          let named : w.as_str.result.now ≡ thread_text plan number = w.as_str.ensures.value ∙ w.in_ok-name.ensures ∙ ap heard_text found in
          let added : new ≡ old ++ (if is_first then thread_text plan number else 32 ∷ thread_text plan number) =
          ap string_bytes w.text-is ∙ w.in_ok-add_name.ensures ∙ ap (λ (name : List ℕ). old ++ (if is_first then name else 32 ∷ name)) named in
          subst Done (sym w.is_first-is) (name_more plan mask number is_first old new (threads_text plan mask) c.loop-number-test.true w.in-Some.ensures.0 added c.loop-number.invariant)
      | in_default w ↦
          let stays : new ≡ old = ap string_bytes w.text-is in
          let done = name_less plan mask number is_first old (threads_text plan mask) c.loop-number-test.true w.in_default.ensures c.loop-number.invariant in
          subst Done (sym w.is_first-is) (subst (λ (text : List ℕ). text ++ spaced is_first (thread_names plan mask (number + 1) (64 - (number + 1))) ≡ threads_text plan mask) (sym stays) done)
    ]

pub returns : goal.returns
returns c = names_done c.args.plan.now c.args.mask c.loop-number.number c.loop-number.is_first _ _ (let low = c.loop-number-test.false in let high = c.loop-number.auto.number-end in omega arith) c.loop-number.invariant
