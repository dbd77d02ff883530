-- What is spelled as events are is read again.
use Rattle.boot_script.proofs.Common.{◌≡◌, ℕ, List, ◌∷◌, ◌∙◌, refl, sym, ap, subst, true, Ok, join_with_byte, Event, Command, Version, ◌>>=◌, first_word, later_words, command_word, knows, command_of, notify_event, event_of, words_event, line_event, Fits, event_words, spelling}
use Rattle.event_theory.specs.declared.event.Event.TheVariants as events
use Rattle.boot_script.specs.declared.commands.Command.TheVariants as command
use Rattle.boot_script.specs.declared.names.Listener.TheVariants as listeners
use Rattle.boot_script.proofs.LineWords.Named.{command_again}
use Rattle.boot_script.proofs.LineWords.Plain.{is_plain, ArePlain, print_words, words_again}
use Rattle.boot_script.proofs.LineWords.Readers.{call_reader, processor_reader, element_reader, gauge_reader, small_reader, capacity_reader, short_reader, long_reader, byte_queue_reader, chain_reader, wait_reader, queue_reader, listener_reader}
use Rattle.boot_script.proofs.LineWords.Rows.{none_again, one_again, two_again, three_again, four_again}
use Rattle.boot_script.proofs.EventScripts.Claims.{claim_again, plain_items}

-- the command of an event
command_for : Event → Command
command_for (events.Queue capacity) = command.Queue
command_for events.Chain = command.Chain
command_for (events.Claim call queue items) = command.Claim
command_for (events.Raise call queue run index) = command.Raise
command_for (events.Take call queue count) = command.Take
command_for (events.On call processor element) = command.On
command_for (events.Off call processor) = command.Off
command_for (events.Stop call element) = command.Stop
command_for (events.Park call element) = command.Park
command_for (events.Start call element) = command.Start
command_for (events.Signal call element signal) = command.Signal
command_for (events.Deliver call element) = command.Deliver
command_for (events.Done call element) = command.Done
command_for (events.Notify call chain) = command.Notify
command_for (events.NotifyWait call wait) = command.Notify
command_for (events.Round call chain) = command.Round
command_for (events.Leave call chain) = command.Leave
command_for (events.Tick call gauge amount) = command.Tick
command_for (events.Advance call) = command.Advance
command_for (events.Set call due element signal) = command.Set
command_for (events.Fire call slot) = command.Fire
command_for (events.Cancel call slot) = command.Cancel
command_for (events.Join call other) = command.Join
command_for (events.Shut call queue) = command.Shut
command_for (events.WaitAt call wait element ticket) = command.WaitAt

command_known : (version : Version) (event : Event) → Fits version event → knows version (command_for event) ≡ true
unfolding command_for
command_known version (events.Queue capacity) h = refl
command_known version events.Chain h = refl
command_known version (events.Claim call queue items) h = refl
command_known version (events.Raise call queue run index) h = refl
command_known version (events.Take call queue count) h = refl
command_known version (events.On call processor element) h = refl
command_known version (events.Off call processor) h = refl
command_known version (events.Stop call element) h = refl
command_known version (events.Park call element) h = refl
command_known version (events.Start call element) h = refl
command_known version (events.Signal call element signal) h = refl
command_known version (events.Deliver call element) h = refl
command_known version (events.Done call element) h = refl
command_known version (events.Notify call chain) h = refl
command_known version (events.NotifyWait call wait) h = refl
command_known version (events.Round call chain) h = refl
command_known version (events.Leave call chain) h = refl
command_known version (events.Tick call gauge amount) h = refl
command_known version (events.Advance call) h = refl
command_known version (events.Set call due element signal) h = refl
command_known version (events.Fire call slot) h = refl
command_known version (events.Cancel call slot) h = refl
command_known version (events.Join call other) h = refl
command_known version (events.Shut call queue) h = h.0
command_known version (events.WaitAt call wait element ticket) h = h.0

command_spelled : (event : Event) → first_word (event_words event) ≡ command_word (command_for event)
unfolding command_for
command_spelled (events.Queue capacity) = refl
command_spelled events.Chain = refl
command_spelled (events.Claim call queue items) = refl
command_spelled (events.Raise call queue run index) = refl
command_spelled (events.Take call queue count) = refl
command_spelled (events.On call processor element) = refl
command_spelled (events.Off call processor) = refl
command_spelled (events.Stop call element) = refl
command_spelled (events.Park call element) = refl
command_spelled (events.Start call element) = refl
command_spelled (events.Signal call element signal) = refl
command_spelled (events.Deliver call element) = refl
command_spelled (events.Done call element) = refl
command_spelled (events.Notify call chain) = refl
command_spelled (events.NotifyWait call wait) = refl
command_spelled (events.Round call chain) = refl
command_spelled (events.Leave call chain) = refl
command_spelled (events.Tick call gauge amount) = refl
command_spelled (events.Advance call) = refl
command_spelled (events.Set call due element signal) = refl
command_spelled (events.Fire call slot) = refl
command_spelled (events.Cancel call slot) = refl
command_spelled (events.Join call other) = refl
command_spelled (events.Shut call queue) = refl
command_spelled (events.WaitAt call wait element ticket) = refl

event_again : (version : Version) (event : Event) → Fits version event → event_of version (command_for event) (later_words (event_words event)) ≡ Ok event
unfolding event_of command_for
event_again version (events.Queue capacity) h = one_again capacity_reader events.Queue capacity h
event_again version events.Chain h = none_again events.Chain
event_again version (events.Claim call queue items) h = claim_again version call queue items h.0 h.1 h.2 h.3
event_again version (events.Raise call queue run index) h = four_again call_reader (queue_reader version) short_reader short_reader events.Raise call queue run index h.0 h.1 h.2 h.3
event_again version (events.Take call queue count) h = three_again call_reader (queue_reader version) short_reader events.Take call queue count h.0 h.1 h.2
event_again version (events.On call processor element) h = three_again call_reader (processor_reader version) (element_reader version) events.On call processor element h.0 h.1 h.2
event_again version (events.Off call processor) h = two_again call_reader (processor_reader version) events.Off call processor h.0 h.1
event_again version (events.Stop call element) h = two_again call_reader (element_reader version) events.Stop call element h.0 h.1
event_again version (events.Park call element) h = two_again call_reader (element_reader version) events.Park call element h.0 h.1
event_again version (events.Start call element) h = two_again call_reader (element_reader version) events.Start call element h.0 h.1
event_again version (events.Signal call element signal) h = three_again call_reader (element_reader version) small_reader events.Signal call element signal h.0 h.1 h.2
event_again version (events.Deliver call element) h = two_again call_reader (element_reader version) events.Deliver call element h.0 h.1
event_again version (events.Done call element) h = two_again call_reader (element_reader version) events.Done call element h.0 h.1
event_again version (events.Notify call chain) h = two_again call_reader (listener_reader version) notify_event call (listeners.Chain chain) h.0 h.1
event_again version (events.NotifyWait call wait) h = two_again call_reader (listener_reader version) notify_event call (listeners.Wait wait) h.1 (h.0, h.2)
event_again version (events.Round call chain) h = two_again call_reader chain_reader events.Round call chain h.0 h.1
event_again version (events.Leave call chain) h = two_again call_reader chain_reader events.Leave call chain h.0 h.1
event_again version (events.Tick call gauge amount) h = three_again call_reader gauge_reader long_reader events.Tick call gauge amount h.0 h.1 h.2
event_again version (events.Advance call) h = one_again call_reader events.Advance call h
event_again version (events.Set call due element signal) h = four_again call_reader short_reader (element_reader version) small_reader events.Set call due element signal h.0 h.1 h.2 h.3
event_again version (events.Fire call slot) h = two_again call_reader small_reader events.Fire call slot h.0 h.1
event_again version (events.Cancel call slot) h = two_again call_reader small_reader events.Cancel call slot h.0 h.1
event_again version (events.Join call other) h = two_again call_reader call_reader events.Join call other h.0 h.1
event_again version (events.Shut call queue) h = two_again call_reader byte_queue_reader events.Shut call queue h.1 h.2
event_again version (events.WaitAt call wait element ticket) h = four_again call_reader (wait_reader version) (element_reader version) short_reader events.WaitAt call wait element ticket h.1 h.2 h.3 h.4

plain_event : (version : Version) (event : Event) → Fits version event → ArePlain (event_words event)
unfolding is_plain
plain_event version (events.Queue capacity) h = (refl, (capacity_reader.plain capacity h, tt))
plain_event version events.Chain h = (refl, tt)
plain_event version (events.Claim call queue items) h = (refl, (call_reader.plain call h.0, ((queue_reader version).plain queue h.1, plain_items items h.2)))
plain_event version (events.Raise call queue run index) h = (refl, (call_reader.plain call h.0, ((queue_reader version).plain queue h.1, (short_reader.plain run h.2, (short_reader.plain index h.3, tt)))))
plain_event version (events.Take call queue count) h = (refl, (call_reader.plain call h.0, ((queue_reader version).plain queue h.1, (short_reader.plain count h.2, tt))))
plain_event version (events.On call processor element) h = (refl, (call_reader.plain call h.0, ((processor_reader version).plain processor h.1, ((element_reader version).plain element h.2, tt))))
plain_event version (events.Off call processor) h = (refl, (call_reader.plain call h.0, ((processor_reader version).plain processor h.1, tt)))
plain_event version (events.Stop call element) h = (refl, (call_reader.plain call h.0, ((element_reader version).plain element h.1, tt)))
plain_event version (events.Park call element) h = (refl, (call_reader.plain call h.0, ((element_reader version).plain element h.1, tt)))
plain_event version (events.Start call element) h = (refl, (call_reader.plain call h.0, ((element_reader version).plain element h.1, tt)))
plain_event version (events.Signal call element signal) h = (refl, (call_reader.plain call h.0, ((element_reader version).plain element h.1, (small_reader.plain signal h.2, tt))))
plain_event version (events.Deliver call element) h = (refl, (call_reader.plain call h.0, ((element_reader version).plain element h.1, tt)))
plain_event version (events.Done call element) h = (refl, (call_reader.plain call h.0, ((element_reader version).plain element h.1, tt)))
plain_event version (events.Notify call chain) h = (refl, (call_reader.plain call h.0, (chain_reader.plain chain h.1, tt)))
plain_event version (events.NotifyWait call wait) h = (refl, (call_reader.plain call h.1, ((wait_reader version).plain wait h.2, tt)))
plain_event version (events.Round call chain) h = (refl, (call_reader.plain call h.0, (chain_reader.plain chain h.1, tt)))
plain_event version (events.Leave call chain) h = (refl, (call_reader.plain call h.0, (chain_reader.plain chain h.1, tt)))
plain_event version (events.Tick call gauge amount) h = (refl, (call_reader.plain call h.0, (gauge_reader.plain gauge h.1, (long_reader.plain amount h.2, tt))))
plain_event version (events.Advance call) h = (refl, (call_reader.plain call h, tt))
plain_event version (events.Set call due element signal) h = (refl, (call_reader.plain call h.0, (short_reader.plain due h.1, ((element_reader version).plain element h.2, (small_reader.plain signal h.3, tt)))))
plain_event version (events.Fire call slot) h = (refl, (call_reader.plain call h.0, (small_reader.plain slot h.1, tt)))
plain_event version (events.Cancel call slot) h = (refl, (call_reader.plain call h.0, (small_reader.plain slot h.1, tt)))
plain_event version (events.Join call other) h = (refl, (call_reader.plain call h.0, (call_reader.plain other h.1, tt)))
plain_event version (events.Shut call queue) h = (refl, (call_reader.plain call h.1, (byte_queue_reader.plain queue h.2, tt)))
plain_event version (events.WaitAt call wait element ticket) h = (refl, (call_reader.plain call h.1, ((wait_reader version).plain wait h.2, ((element_reader version).plain element h.3, (short_reader.plain ticket h.4, tt)))))

words_event_again : (version : Version) (event : Event) → Fits version event → words_event version (event_words event) ≡ Ok event
words_event_again version event h =
    let said = ap (λ word. command_of version word) (command_spelled event) ∙ command_again version (command_for event) (command_known version event h) in
    ap (λ r. r >>= λ command. event_of version command (later_words (event_words event))) said ∙ event_again version event h

line_by : (version : Version) (word : List ℕ) (words : List (List ℕ)) (event : Event) → ArePlain (word ∷ words) → words_event version (word ∷ words) ≡ Ok event → line_event version (join_with_byte 32 (word ∷ words)) ≡ Ok event
unfolding line_event
line_by version word words event plain h = rw (print_words word words plain) (ap (words_event version) (words_again word words plain) ∙ h)

some_words : (event : Event) → event_words event ≡ first_word (event_words event) ∷ later_words (event_words event)
some_words (events.Queue capacity) = refl
some_words events.Chain = refl
some_words (events.Claim call queue items) = refl
some_words (events.Raise call queue run index) = refl
some_words (events.Take call queue count) = refl
some_words (events.On call processor element) = refl
some_words (events.Off call processor) = refl
some_words (events.Stop call element) = refl
some_words (events.Park call element) = refl
some_words (events.Start call element) = refl
some_words (events.Signal call element signal) = refl
some_words (events.Deliver call element) = refl
some_words (events.Done call element) = refl
some_words (events.Notify call chain) = refl
some_words (events.NotifyWait call wait) = refl
some_words (events.Round call chain) = refl
some_words (events.Leave call chain) = refl
some_words (events.Tick call gauge amount) = refl
some_words (events.Advance call) = refl
some_words (events.Set call due element signal) = refl
some_words (events.Fire call slot) = refl
some_words (events.Cancel call slot) = refl
some_words (events.Join call other) = refl
some_words (events.Shut call queue) = refl
some_words (events.WaitAt call wait element ticket) = refl

pub line_again : (version : Version) (event : Event) → Fits version event → line_event version (spelling event) ≡ Ok event
unfolding spelling
line_again version event h =
    let some = some_words event in
    ap (λ ws. line_event version (join_with_byte 32 ws)) some
    ∙ line_by version (first_word (event_words event)) (later_words (event_words event)) event (subst ArePlain some (plain_event version event h))
    (ap (words_event version) (sym some) ∙ words_event_again version event h)
