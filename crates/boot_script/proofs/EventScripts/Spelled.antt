-- What is read is spelled as events are.
use Rattle.boot_script.proofs.Common.{◌≡◌, inl, inr, ℕ, ◌≤◌, List, [], ◌∷◌, ◌∙◌, refl, sym, ap, true, Ok, Err, join_with_byte-slice_split, join_with_byte, list_all, Event, Command, NotAscii, Listener, Version, first_word, later_words, words_of, command_word, knows, command_of, notify_event, event_of, words_event, line_event, is_printable, Fits, call_name, event_words, spelling}
use Rattle.event_theory.specs.declared.event.Event.TheVariants as events
use Rattle.boot_script.specs.declared.commands.Command.TheVariants as command
use Rattle.boot_script.specs.declared.names.Listener.TheVariants as listeners
use Rattle.boot_script.proofs.Basics.Binds.{bind_ok, chosen}
use Rattle.boot_script.proofs.Basics.Cuts.{some_pieces}
use Rattle.boot_script.proofs.LineWords.Named.{command_ok}
use Rattle.boot_script.proofs.LineWords.Readers.{call_reader, processor_reader, element_reader, gauge_reader, small_reader, capacity_reader, short_reader, long_reader, byte_queue_reader, chain_reader, wait_reader, queue_reader, listener_reader, FitsListener, listener_name}
use Rattle.boot_script.proofs.LineWords.Rows.{none_ok, one_ok, two_ok, three_ok, four_ok}
use Rattle.boot_script.proofs.EventScripts.Claims.{claim_ok}

-- the command and the words after it are the event's words, and the event is in its ranges
abbrev pub IsSpelled : Version → Command → List (List ℕ) → Event → Type 0
IsSpelled version command words event = Fits version event × (command_word command ∷ words ≡ event_words event)

notify_ok : (version : Version) (call : ℕ) (listener : Listener) (words : List (List ℕ)) → call ≤ 63 → FitsListener version listener → command_word command.Notify ∷ words ≡ event_words (notify_event call listener)
    → IsSpelled version command.Notify words (notify_event call listener)
notify_ok version call (listeners.Chain n) words h k e = ((h, k), e)
notify_ok version call (listeners.Wait n) words h k e = ((k.0, h, k.1), e)

notify_words : (call : ℕ) (listener : Listener) → event_words (notify_event call listener) ≡ command_word command.Notify ∷ call_name call ∷ listener_name listener ∷ []
notify_words call (listeners.Chain n) = refl
notify_words call (listeners.Wait n) = refl

event_ok : (version : Version) (command : Command) (words : List (List ℕ)) (event : Event) → knows version command ≡ true → event_of version command words ≡ Ok event → IsSpelled version command words event
unfolding event_of
event_ok version command.Queue words event k h =
    one_ok capacity_reader events.Queue words (IsSpelled version command.Queue words) (λ x a e. (a, ap (λ ws. command_word command.Queue ∷ ws) e)) event h
event_ok version command.Chain words event k h =
    none_ok events.Chain words (IsSpelled version command.Chain words) (λ e. (tt, ap (λ ws. command_word command.Chain ∷ ws) e)) event h
event_ok version command.Claim words event k h =
    claim_ok version words (IsSpelled version command.Claim words) (λ x y items a b c d e. ((a, b, c, d), ap (λ ws. command_word command.Claim ∷ ws) e)) event h
event_ok version command.Raise words event k h =
    four_ok call_reader (queue_reader version) short_reader short_reader events.Raise words (IsSpelled version command.Raise words) (λ x y z u a b c d e. ((a, b, c, d), ap (λ ws. command_word command.Raise ∷ ws) e)) event h
event_ok version command.Take words event k h =
    three_ok call_reader (queue_reader version) short_reader events.Take words (IsSpelled version command.Take words) (λ x y z a b c e. ((a, b, c), ap (λ ws. command_word command.Take ∷ ws) e)) event h
event_ok version command.On words event k h =
    three_ok call_reader (processor_reader version) (element_reader version) events.On words (IsSpelled version command.On words) (λ x y z a b c e. ((a, b, c), ap (λ ws. command_word command.On ∷ ws) e)) event h
event_ok version command.Off words event k h =
    two_ok call_reader (processor_reader version) events.Off words (IsSpelled version command.Off words) (λ x y a b e. ((a, b), ap (λ ws. command_word command.Off ∷ ws) e)) event h
event_ok version command.Stop words event k h =
    two_ok call_reader (element_reader version) events.Stop words (IsSpelled version command.Stop words) (λ x y a b e. ((a, b), ap (λ ws. command_word command.Stop ∷ ws) e)) event h
event_ok version command.Park words event k h =
    two_ok call_reader (element_reader version) events.Park words (IsSpelled version command.Park words) (λ x y a b e. ((a, b), ap (λ ws. command_word command.Park ∷ ws) e)) event h
event_ok version command.Start words event k h =
    two_ok call_reader (element_reader version) events.Start words (IsSpelled version command.Start words) (λ x y a b e. ((a, b), ap (λ ws. command_word command.Start ∷ ws) e)) event h
event_ok version command.Signal words event k h =
    three_ok call_reader (element_reader version) small_reader events.Signal words (IsSpelled version command.Signal words) (λ x y z a b c e. ((a, b, c), ap (λ ws. command_word command.Signal ∷ ws) e)) event h
event_ok version command.Deliver words event k h =
    two_ok call_reader (element_reader version) events.Deliver words (IsSpelled version command.Deliver words) (λ x y a b e. ((a, b), ap (λ ws. command_word command.Deliver ∷ ws) e)) event h
event_ok version command.Done words event k h =
    two_ok call_reader (element_reader version) events.Done words (IsSpelled version command.Done words) (λ x y a b e. ((a, b), ap (λ ws. command_word command.Done ∷ ws) e)) event h
event_ok version command.Notify words event k h =
    two_ok call_reader (listener_reader version) notify_event words (IsSpelled version command.Notify words) (λ x y a b e. notify_ok version x y words a b (ap (λ ws. command_word command.Notify ∷ ws) e ∙ sym (notify_words x y))) event h
event_ok version command.Round words event k h =
    two_ok call_reader chain_reader events.Round words (IsSpelled version command.Round words) (λ x y a b e. ((a, b), ap (λ ws. command_word command.Round ∷ ws) e)) event h
event_ok version command.Leave words event k h =
    two_ok call_reader chain_reader events.Leave words (IsSpelled version command.Leave words) (λ x y a b e. ((a, b), ap (λ ws. command_word command.Leave ∷ ws) e)) event h
event_ok version command.Tick words event k h =
    three_ok call_reader gauge_reader long_reader events.Tick words (IsSpelled version command.Tick words) (λ x y z a b c e. ((a, b, c), ap (λ ws. command_word command.Tick ∷ ws) e)) event h
event_ok version command.Advance words event k h =
    one_ok call_reader events.Advance words (IsSpelled version command.Advance words) (λ x a e. (a, ap (λ ws. command_word command.Advance ∷ ws) e)) event h
event_ok version command.Set words event k h =
    four_ok call_reader short_reader (element_reader version) small_reader events.Set words (IsSpelled version command.Set words) (λ x y z u a b c d e. ((a, b, c, d), ap (λ ws. command_word command.Set ∷ ws) e)) event h
event_ok version command.Fire words event k h =
    two_ok call_reader small_reader events.Fire words (IsSpelled version command.Fire words) (λ x y a b e. ((a, b), ap (λ ws. command_word command.Fire ∷ ws) e)) event h
event_ok version command.Cancel words event k h =
    two_ok call_reader small_reader events.Cancel words (IsSpelled version command.Cancel words) (λ x y a b e. ((a, b), ap (λ ws. command_word command.Cancel ∷ ws) e)) event h
event_ok version command.Join words event k h =
    two_ok call_reader call_reader events.Join words (IsSpelled version command.Join words) (λ x y a b e. ((a, b), ap (λ ws. command_word command.Join ∷ ws) e)) event h
event_ok version command.Shut words event k h =
    two_ok call_reader byte_queue_reader events.Shut words (IsSpelled version command.Shut words) (λ x y a b e. ((k, a, b), ap (λ ws. command_word command.Shut ∷ ws) e)) event h
event_ok version command.WaitAt words event k h =
    four_ok call_reader (wait_reader version) (element_reader version) short_reader events.WaitAt words (IsSpelled version command.WaitAt words) (λ x y z u a b c d e. ((k, a, b, c, d), ap (λ ws. command_word command.WaitAt ∷ ws) e)) event h

pub both_words : (words : List (List ℕ)) → (words ≡ [] → ⊥) → words ≡ first_word words ∷ later_words words
both_words [] some = absurd (some refl)
both_words (word ∷ words) some = refl

words_ok : (version : Version) (words : List (List ℕ)) (event : Event) → words_event version words ≡ Ok event → Fits version event × (first_word words ∷ later_words words ≡ event_words event)
words_ok version words event h =
    let a = bind_ok (command_of version (first_word words)) (λ command. event_of version command (later_words words)) event h in
    let c = command_ok version (first_word words) a.0 a.1 in
    let e = event_ok version a.0 (later_words words) event c.0 a.2 in
    (e.0, ap (λ word. word ∷ later_words words) c.1 ∙ e.1)

-- a line that says an event is that event's one spelling
pub line_ok : (version : Version) (line : List ℕ) (event : Event) → line_event version line ≡ Ok event → Fits version event × (line ≡ spelling event)
unfolding line_event spelling
line_ok version line event h =
    elim (chosen (list_all is_printable line) (words_event version (words_of line)) (Err NotAscii) (Ok event) h) [
      | inl p ↦
          let e = words_ok version (words_of line) event p.1 in
          (e.0, sym (join_with_byte-slice_split 32 line) ∙ ap (join_with_byte 32) (both_words (words_of line) (some_pieces 32 line) ∙ e.1))
      | inr p ↦ absurd (cc (p.1))
    ]
