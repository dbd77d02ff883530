use Rattle.bindings.proofs.Calls.{rules, sym, ap, subst, ◌∙◌, ℕ, List, [], ◌∷◌, length, None, Some}
use Rattle.proc_chain.proofs.Common.{queue_of, notes_of, view_of}
use Rattle.proc_chain.specs.Turns.{HasServed}
use Rattle.proc_chain.specs.Servings.{HasRun}
use Rattle.bindings.specs.ChainHeld.{me_of, Inbox}
use Rattle.bindings.specs.Inboxes.{last_or}
use Rattle.bindings.proofs.Handing.{none_run, one_run, last_on}
use Rattle.bindings.proofs.chain.held.HeldChain.pull.Goals as goal

-- the note in the first slot, or 0
abbrev note_of : List (ℕ × Inbox) → ℕ
note_of [] = 0
note_of (x ∷ xs) = x.1.note

pub returns-in-Done : goal.returns-in-Done
returns-in-Done c = let (s, l, fewer, run) = c.in-Done.ensures.trace in let v = (me_of c.args.self.now.end).0 in let w = (me_of c.serve_kept.new.end).0 in
    (search rules, c.in-Done.ensures.turn, (s, l, fewer, subst (λ n. HasRun v (s ∷ []) (Some l) n w) (sym run.number ∙ none_run s.uses fewer) run))

pub returns-in-More : goal.returns-in-More
returns-in-More c = let (turn, (s, used, run)) = c.in-More.ensures.trace in let v = (me_of c.args.self.now.end).0 in let w = (me_of c.serve_kept.new.end).0 in
    let (note, one) = one_run s.uses used (λ e. c.in-More.ran-test.1 (sym run.number ∙ e)) in
    let served = subst (λ ns. HasServed v ns w) one run.served in
    let (inbox, slot, made, fits) = c.in-More.ensures.slot in
    let is = ap note_of (sym c.quaject.ensures.result ∙ slot) ∙ made ∙ ap (last_or _) served.notes ∙ last_on _ (notes_of (queue_of v)) note in (
      search rules,
      c.quaject.ensures.frame.1,
      subst (λ n. HasServed v (n ∷ []) (view_of c.quaject.new.end)) (sym is) (subst (λ me. HasServed v (note ∷ []) me.0) (sym c.quaject.ensures.frame.0) served),
      (turn, (s, used, subst (λ me. HasRun v (s ∷ []) None 1 me.0) (sym c.quaject.ensures.frame.0) (subst (λ n. HasRun v (s ∷ []) None n w) (sym run.number ∙ ap length one) run))),
    )
