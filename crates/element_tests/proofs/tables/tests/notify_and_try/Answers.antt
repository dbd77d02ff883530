use Rattle.std.proofs.Common.{◌≡◌, ◌∙◌, ◌||◌, ◌+◌, ℕ, Bool, true, false, eq-eqb, Option, Some, None, Result, Ok, Err, IfOk, IfSome, refl, sym, ap}
use Rattle.thread_table.specs.Own.{View}
use Rattle.thread_table.specs.declared.takings.NextRefusal.{NextRefusal}
use Rattle.thread_table.specs.Handles.{call_of, view_of}
use Rattle.thread_table.specs.Rules.{has}
use Rattle.thread_table.specs.Wakes.{NotifiedNow, BeforeAnswer}
use Rattle.element_tests.proofs.tables.tests.notify_and_try.Goals as goal

or_up : (b : Bool) → (b || true) ≡ true
or_up true = refl
or_up false = refl

new_now : (call call' wait line head : ℕ) (v u w : View) (r : Result (Option ℕ) NextRefusal) → NotifiedNow call v wait head u → BeforeAnswer call' u line head r w
    → IfOk r (λ woken. IfSome woken (λ element. (has v element ≡ false) × (has w element ≡ true)))
new_now call call' wait line head v u w (Ok None) n a = tt
new_now call call' wait line head v u w (Ok (Some e)) n a = (ap (λ (z : View). has z e) (sym n.3.has) ∙ a.3.7.0, a.3.7.1 e ∙ (ap (λ b. has u e || b) (eq-eqb e e refl) ∙ or_up (has u e)))
new_now call call' wait line head v u w (Err r) n a = tt

pub returns-clause-taken : goal.returns-clause-taken
returns-clause-taken c = let h = c.args.hand.now in let u = c.notify-head.new.hand in
    new_now (call_of h) (call_of u) c.args.wait (c.args.wait + 2) c.notify-head.result (view_of h) (view_of u) (view_of c.try_wake_before.new.hand) c.try_wake_before.result c.notify-head.ensures.trace c.try_wake_before.ensures.trace
