-- No text is invalid because memory is exhausted.
use Rattle.boot_script.proofs.Common.{◌≡◌, inl, inr, ℕ, ◌+◌, List, [], ◌∷◌, Err, IsOk, list_all, Command, NotAscii, OutOfMemory, ScriptFault, Version, Events, first_word, later_words, words_of, command_of, notify_event, event_of, words_event, line_event, is_printable, says_nothing, at_line, events_from, opening_of, text_events, IsFault}
use Rattle.event_theory.specs.declared.event.Event.TheVariants as events
use Rattle.boot_script.specs.declared.commands.Command.TheVariants as command
use Rattle.boot_script.proofs.Basics.Binds.{Known, bind_known, test_known}
use Rattle.boot_script.proofs.LineWords.Named.{command_known}
use Rattle.boot_script.proofs.LineWords.Readers.{call_reader, processor_reader, element_reader, gauge_reader, small_reader, capacity_reader, short_reader, long_reader, byte_queue_reader, chain_reader, wait_reader, queue_reader, listener_reader}
use Rattle.boot_script.proofs.LineWords.Rows.{none_known, one_known, two_known, three_known, four_known}
use Rattle.boot_script.proofs.EventScripts.Claims.{claim_known}
use Rattle.boot_script.proofs.Basics.Binds.{IsKnown, bind_is_known, test_is_known, ok_is_known, at_line_known}
use Rattle.boot_script.proofs.LineWords.Openings.{opening_known}

event_known : (version : Version) (command : Command) (words : List (List ℕ)) → Known (event_of version command words)
unfolding event_of
event_known version command.Queue words = one_known capacity_reader events.Queue words
event_known version command.Chain words = none_known events.Chain words
event_known version command.Claim words = claim_known version words
event_known version command.Raise words = four_known call_reader (queue_reader version) short_reader short_reader events.Raise words
event_known version command.Take words = three_known call_reader (queue_reader version) short_reader events.Take words
event_known version command.On words = three_known call_reader (processor_reader version) (element_reader version) events.On words
event_known version command.Off words = two_known call_reader (processor_reader version) events.Off words
event_known version command.Stop words = two_known call_reader (element_reader version) events.Stop words
event_known version command.Park words = two_known call_reader (element_reader version) events.Park words
event_known version command.Start words = two_known call_reader (element_reader version) events.Start words
event_known version command.Signal words = three_known call_reader (element_reader version) small_reader events.Signal words
event_known version command.Deliver words = two_known call_reader (element_reader version) events.Deliver words
event_known version command.Done words = two_known call_reader (element_reader version) events.Done words
event_known version command.Notify words = two_known call_reader (listener_reader version) notify_event words
event_known version command.Round words = two_known call_reader chain_reader events.Round words
event_known version command.Leave words = two_known call_reader chain_reader events.Leave words
event_known version command.Tick words = three_known call_reader gauge_reader long_reader events.Tick words
event_known version command.Advance words = one_known call_reader events.Advance words
event_known version command.Set words = four_known call_reader short_reader (element_reader version) small_reader events.Set words
event_known version command.Fire words = two_known call_reader small_reader events.Fire words
event_known version command.Cancel words = two_known call_reader small_reader events.Cancel words
event_known version command.Join words = two_known call_reader call_reader events.Join words
event_known version command.Shut words = two_known call_reader byte_queue_reader events.Shut words
event_known version command.WaitAt words = four_known call_reader (wait_reader version) (element_reader version) short_reader events.WaitAt words

words_known : (version : Version) (words : List (List ℕ)) → Known (words_event version words)
words_known version words = bind_known (command_of version (first_word words)) _ (command_known version (first_word words)) (λ command. event_known version command (later_words words))

line_known : (version : Version) (line : List ℕ) → Known (line_event version line)
unfolding line_event
line_known version line = test_known (list_all is_printable line) (words_event version (words_of line)) (Err NotAscii) (words_known version (words_of line)) (λ p. cc)

events_known : (version : Version) (number : ℕ) (lines : List (List ℕ)) → IsKnown (events_from version number lines)
unfolding events_from
events_known version number [] = ok_is_known []
events_known version number (line ∷ lines) =
    test_is_known (says_nothing line) (events_from version (number + 1) lines) _ (events_known version (number + 1) lines)
    (bind_is_known (at_line number (line_event version line)) _ (at_line_known number (line_event version line) (line_known version line))
    (λ event. bind_is_known (events_from version (number + 1) lines) _ (events_known version (number + 1) lines) (λ events. ok_is_known _)))

pub text_known : (text : List ℕ) → IsKnown (text_events text)
unfolding text_events
text_known text =
    bind_is_known (opening_of Events text) _ (opening_known Events text)
    (λ opening. bind_is_known (events_from opening.0 2 opening.1) _ (events_known opening.0 2 opening.1) (λ events. ok_is_known _))

-- out of memory is returned only if the text has no fault
pub memory_last : (text : List ℕ) (fault : ScriptFault) → fault.refusal ≡ OutOfMemory → IsFault fault (text_events text) → IsOk (text_events text)
memory_last text fault e (inl p) = p.1
memory_last text fault e (inr p) = absurd (text_known text fault p e)
