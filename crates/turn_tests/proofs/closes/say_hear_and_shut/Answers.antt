use Rattle.std.proofs.Common.{◌≡◌, ℕ, [], ◌∷◌, ap, sym, ◌∙◌}
use Rattle.boot_data.specs.declared.plan.QueueIndex.{QueueIndex}
use Rattle.boot_data.specs.declared.plan.QueueIndex.TheVariants.{Small}
use Rattle.turn_io.specs.Accounts.{queue_shares}
use Rattle.turn_io.proofs.Queues.{said_on, heard_on, shut_on}
use Rattle.boot_objects.proofs.Summed.{share_is}
use Rattle.turn_tests.proofs.closes.say_hear_and_shut.Goals as goal

pub returns-clause-share : goal.returns-clause-share
returns-clause-share g c =
    let first : QueueIndex = Small 0 in let old = c.args.ends.now in let new = c.shut.new.self in
    let said = said_on first (104 ∷ 105 ∷ 10 ∷ []) c.say.result old c.say.new.self c.say.ensures.said in
    let again = said_on first (33 ∷ 10 ∷ []) c.say-2.result c.say.new.self c.say-2.new.self c.say-2.ensures.said in
    let heard = heard_on first c.hear.new.room.line.items c.hear.result c.say-2.new.self c.hear.new.self c.hear.ensures.heard in
    let shut = shut_on first c.shut.result c.hear.new.self new c.shut.ensures.shut in
    let same : queue_shares new.small.items ≡ queue_shares old.small.items = shut.sound.small.shares ∙ (heard.sound.small.shares ∙ (again.sound.small.shares ∙ said.sound.small.shares)) in
    sym (share_is new.small.items 0) ∙ (ap (λ (f : ℕ → ℕ). f 0) same ∙ share_is old.small.items 0)
