-- The spelling of a line of a boot script is read as that line again.
use Rattle.boot_script.proofs.Common.{◌≡◌, ℕ, ◌<◌, ◌≤◌, ◌&&◌, List, [], ◌∷◌, ◌∙◌, refl, ap, length, true, false, Bool, Option, Some, None, Ok, join_with_byte, list_all, decimal, BootWord, Line, Named, Mover, Pump, Switch, PipeWaits, QueueIndex, Step, Version, ◌>>=◌, words_of, is_later, is_printable, count_of, boot_word, boot_words, word_named, has_word, if_had, boot_word_of, type_words, say_words, line_of, words_line, boot_line, AreInOrder, name_of_number, queue_word, way_words, queue_words, mover_words, EndsInText, IsSpelling, IsNew, FitsWaits, FitsQueue, FitsMover, FitsStep, FitsLine}
use Rattle.std.specs.Prelude.{◌||◌, codes}
use Rattle.std.proofs.Math.Bool.{or-true as declares}
use Rattle.boot_script.specs.declared.boot_words.BootWord.TheVariants as word
use Rattle.boot_script.specs.declared.boot_lines.Line.TheVariants as line
use Rattle.boot_data.specs.declared.kind.Kind.TheVariants as kind
use Rattle.boot_data.specs.declared.plan.Step.TheVariants as step
use Rattle.boot_script.proofs.LineWords.Plain.{is_plain, ArePlain, print_words, words_again}
use Rattle.boot_script.proofs.LineWords.Readers.{small_reader, short_reader, long_reader}
use Rattle.boot_script.proofs.LineWords.Rows.{none_again, one_again, two_again, three_again}
use Rattle.boot_script.proofs.BootScripts.Readers.{wait_number_reader, new_name_reader, number_named_reader, queue_named_reader}
use Rattle.boot_script.proofs.Escaping.TextsRead.{ends_again}
use Rattle.boot_script.proofs.BootScripts.WaysRead.{switch_again, plain_ways}

named_again : (one : BootWord) → word_named (boot_word one) boot_words ≡ Ok one
unfolding word_named boot_words
named_again word.Queue = refl
named_again word.Pipe = refl
named_again word.Tty = refl
named_again word.Types = refl
named_again word.Pump = refl
named_again word.Switch = refl
named_again word.Gauge = refl
named_again word.Alarm = refl
named_again word.Thread = refl
named_again word.More = refl
named_again word.Say = refl
named_again word.Hear = refl
named_again word.Wait = refl
named_again word.Wake = refl
named_again word.Signal = refl
named_again word.Stop = refl
named_again word.Start = refl
named_again word.Tick = refl
named_again word.Poke = refl
named_again word.Pass = refl
named_again word.Close = refl

word_again : (version : Version) (going : Bool) (one : BootWord) → has_word version going one ≡ true → boot_word_of version going (boot_word one) ≡ Ok one
unfolding boot_word_of
word_again version going one h = ap (λ r. r >>= λ one. if_had version going one) (named_again one) ∙ rw h refl

-- a line of printable bytes says what its first word and the words after it say
pub line_by : (version : Version) (names : List Named) (going : Bool) (bytes : List ℕ) (one : BootWord) (words : List (List ℕ)) (said : Line) → list_all is_printable bytes ≡ true → words_of bytes ≡ boot_word one ∷ words → has_word version going one ≡ true → line_of version names one words ≡ Ok said
    → boot_line version names going bytes ≡ Ok said
unfolding boot_line
line_by version names going bytes one words said printable split has h =
    rw printable (ap (words_line version names going) split ∙ (ap (λ r. r >>= λ one. line_of version names one words) (word_again version going one has) ∙ h))

-- a line of words with no space says what its words say
plain_line : (version : Version) (names : List Named) (going : Bool) (one : BootWord) (words : List (List ℕ)) (said : Line) → ArePlain (boot_word one ∷ words) → has_word version going one ≡ true → line_of version names one words ≡ Ok said
    → (bytes : List ℕ) → bytes ≡ join_with_byte 32 (boot_word one ∷ words) → boot_line version names going bytes ≡ Ok said
plain_line version names going one words said plain has h bytes e =
    ap (boot_line version names going) e
    ∙ line_by version names going (join_with_byte 32 (boot_word one ∷ words)) one words said (print_words (boot_word one) words plain) (words_again (boot_word one) words plain) has h

-- a step needs a current thread, and nothing else
steps_on : (going : Bool) → going ≡ true → (going || false) ≡ true
steps_on going h = rw h refl

queue_line : (version : Version) (names : List Named) (going : Bool) (name : List ℕ) (waits : Option PipeWaits) (bytes : List ℕ) → IsNew names name → FitsWaits version waits → bytes ≡ join_with_byte 32 (queue_words name waits)
    → boot_line version names going bytes ≡ Ok (line.Queue (record { name = name; waits = waits }))
unfolding line_of is_plain
queue_line version names going name None bytes new fits e =
    plain_line version names going word.Queue (name ∷ []) (line.Queue (record { name = name; waits = None })) (refl, ((new_name_reader names).plain name new, tt)) (declares going)
    (one_again (new_name_reader names) (λ name. line.Queue (record { name = name; waits = None })) name new) bytes e
queue_line version names going name (Some waits) bytes new fits e =
    let wait = wait_number_reader version in
    plain_line version names going word.Pipe (name ∷ decimal waits.readers ∷ decimal waits.writers ∷ []) (line.Queue (record { name = name; waits = Some waits }))
    (refl, ((new_name_reader names).plain name new, (wait.plain waits.readers fits.0, (wait.plain waits.writers fits.1, tt)))) (declares going)
    (three_again (new_name_reader names) wait wait (λ name readers writers. line.Queue (record { name = name; waits = Some (record { readers = readers; writers = writers }) })) name waits.readers waits.writers new fits.0 fits.1) bytes e

mover_line : (version : Version) (names : List Named) (going : Bool) → AreInOrder names → (name : List ℕ) (mover : Mover) (bytes : List ℕ) → IsNew names name → FitsMover names mover → bytes ≡ join_with_byte 32 (mover_words names name mover)
    → boot_line version names going bytes ≡ Ok (line.Mover (record { name = name; mover = mover }))
unfolding line_of is_plain
mover_line version names going order name (Pump from to) bytes new fits e =
    let queues = number_named_reader kind.Queue names order in
    plain_line version names going word.Pump (name ∷ name_of_number kind.Queue names from ∷ name_of_number kind.Queue names to ∷ []) (line.Mover (record { name = name; mover = Pump from to }))
    (refl, ((new_name_reader names).plain name new, (queues.plain from fits.0, (queues.plain to fits.1, tt)))) (declares going)
    (three_again (new_name_reader names) queues queues (λ name from to. line.Mover (record { name = name; mover = Pump from to })) name from to new fits.0 fits.1) bytes e
mover_line version names going order name (Switch from other ways) bytes new fits e =
    let queues = number_named_reader kind.Queue names order in
    plain_line version names going word.Switch (name ∷ name_of_number kind.Queue names from ∷ name_of_number kind.Queue names other ∷ way_words names ways) (line.Mover (record { name = name; mover = Switch from other ways }))
    (refl, ((new_name_reader names).plain name new, (queues.plain from fits.0, (queues.plain other fits.1, plain_ways names order [] ways fits.2)))) (declares going)
    (switch_again names order name from other ways new fits.0 fits.1 fits.2 fits.3 fits.4) bytes e

type_line : (version : Version) (names : List Named) (going : Bool) → AreInOrder names → (tty : ℕ) (text bytes : List ℕ) → tty < count_of kind.Tty names → length text ≤ 1024 → EndsInText (codes "type" ∷ name_of_number kind.Tty names tty ∷ []) text bytes
    → boot_line version names going bytes ≡ Ok (line.Types tty text)
unfolding line_of type_words is_plain
type_line version names going order tty text bytes below few spelled =
    let ttys = number_named_reader kind.Tty names order in
    let k = ends_again 1024 (codes "type") (name_of_number kind.Tty names tty) text bytes refl (ttys.plain tty below) few spelled in
    let said : line_of version names word.Types (name_of_number kind.Tty names tty ∷ k.0) ≡ Ok (line.Types tty text) = rw (ttys.again tty below, k.3) refl in
    line_by version names going bytes word.Types (name_of_number kind.Tty names tty ∷ k.0) (line.Types tty text) k.1 k.2 (declares going) said

say_line : (version : Version) (names : List Named) (going : Bool) → AreInOrder names → (queue : QueueIndex) (text bytes : List ℕ) → going ≡ true → FitsQueue false names queue → length text ≤ 63 → EndsInText (codes "say" ∷ queue_word names queue ∷ []) text bytes
    → boot_line version names going bytes ≡ Ok (line.Step (step.Say queue text))
unfolding line_of say_words is_plain
say_line version names going order queue text bytes goes fits few spelled =
    let queues = queue_named_reader false names order in
    let k = ends_again 63 (codes "say") (queue_word names queue) text bytes refl (queues.plain queue fits) few spelled in
    let said : line_of version names word.Say (queue_word names queue ∷ k.0) ≡ Ok (line.Step (step.Say queue text)) = rw (queues.again queue fits, k.3) refl in
    line_by version names going bytes word.Say (queue_word names queue ∷ k.0) (line.Step (step.Say queue text)) k.1 k.2 (steps_on going goes) said

step_line : (version : Version) (names : List Named) (going : Bool) → AreInOrder names → (one : Step) (bytes : List ℕ) → going ≡ true → FitsStep version names one → IsSpelling names (line.Step one) bytes → boot_line version names going bytes ≡ Ok (line.Step one)
unfolding line_of is_plain
step_line version names going order (step.Say queue text) bytes goes h e = say_line version names going order queue text bytes goes h.0 h.1 e
step_line version names going order (step.Hear queue) bytes goes h e =
    let queues = queue_named_reader true names order in
    plain_line version names going word.Hear (queue_word names queue ∷ []) (line.Step (step.Hear queue)) (refl, (queues.plain queue h, tt)) (steps_on going goes) (one_again queues (λ queue. line.Step (step.Hear queue)) queue h) bytes e
step_line version names going order (step.Wait wait) bytes goes h e =
    let waits = wait_number_reader version in
    plain_line version names going word.Wait (decimal wait ∷ []) (line.Step (step.Wait wait)) (refl, (waits.plain wait h, tt)) (steps_on going goes) (one_again waits (λ wait. line.Step (step.Wait wait)) wait h) bytes e
step_line version names going order (step.Wake wait) bytes goes h e =
    let waits = wait_number_reader version in
    plain_line version names going word.Wake (decimal wait ∷ []) (line.Step (step.Wake wait)) (refl, (waits.plain wait h, tt)) (steps_on going goes) (one_again waits (λ wait. line.Step (step.Wake wait)) wait h) bytes e
step_line version names going order (step.Signal thread signal) bytes goes h e =
    let threads = number_named_reader kind.Thread names order in
    plain_line version names going word.Signal (name_of_number kind.Thread names thread ∷ decimal signal ∷ []) (line.Step (step.Signal thread signal)) (refl, (threads.plain thread h.0, (small_reader.plain signal h.1, tt))) (steps_on going goes)
    (two_again threads small_reader (λ thread signal. line.Step (step.Signal thread signal)) thread signal h.0 h.1) bytes e
step_line version names going order (step.Stop thread) bytes goes h e =
    let threads = number_named_reader kind.Thread names order in
    plain_line version names going word.Stop (name_of_number kind.Thread names thread ∷ []) (line.Step (step.Stop thread)) (refl, (threads.plain thread h, tt)) (steps_on going goes) (one_again threads (λ thread. line.Step (step.Stop thread)) thread h) bytes e
step_line version names going order (step.Start thread) bytes goes h e =
    let threads = number_named_reader kind.Thread names order in
    plain_line version names going word.Start (name_of_number kind.Thread names thread ∷ []) (line.Step (step.Start thread)) (refl, (threads.plain thread h, tt)) (steps_on going goes) (one_again threads (λ thread. line.Step (step.Start thread)) thread h) bytes e
step_line version names going order (step.Tick gauge amount) bytes goes h e =
    let gauges = number_named_reader kind.Gauge names order in
    plain_line version names going word.Tick (name_of_number kind.Gauge names gauge ∷ decimal amount ∷ []) (line.Step (step.Tick gauge amount)) (refl, (gauges.plain gauge h.0, (long_reader.plain amount h.1, tt))) (steps_on going goes)
    (two_again gauges long_reader (λ gauge amount. line.Step (step.Tick gauge amount)) gauge amount h.0 h.1) bytes e
step_line version names going order (step.Poke mover) bytes goes h e =
    let movers = number_named_reader kind.Mover names order in
    plain_line version names going word.Poke (name_of_number kind.Mover names mover ∷ []) (line.Step (step.Poke mover)) (refl, (movers.plain mover h, tt)) (steps_on going goes) (one_again movers (λ mover. line.Step (step.Poke mover)) mover h) bytes e
step_line version names going order step.Pass bytes goes h e = plain_line version names going word.Pass [] (line.Step step.Pass) (refl, tt) (steps_on going goes) (none_again (line.Step step.Pass)) bytes e
step_line version names going order (step.Close queue) bytes goes h e =
    let queues = number_named_reader kind.Queue names order in
    let has : (is_later version && going) ≡ true = rw (h.0, goes) refl in
    plain_line version names going word.Close (name_of_number kind.Queue names queue ∷ []) (line.Step (step.Close queue)) (refl, (queues.plain queue h.1, tt)) has (one_again queues (λ queue. line.Step (step.Close queue)) queue h.1) bytes e

-- a line that spells what is in its ranges says it
pub boot_line_again : (version : Version) (names : List Named) (going : Bool) (bytes : List ℕ) (said : Line) → AreInOrder names → FitsLine version names going said → IsSpelling names said bytes → boot_line version names going bytes ≡ Ok said
unfolding line_of is_plain
boot_line_again version names going bytes (line.Queue queue) order h e = queue_line version names going queue.name queue.waits bytes h.0 h.1 e
boot_line_again version names going bytes (line.Tty name) order h e =
    let new = new_name_reader names in
    plain_line version names going word.Tty (name ∷ []) (line.Tty name) (refl, (new.plain name h, tt)) (declares going) (one_again new line.Tty name h) bytes e
boot_line_again version names going bytes (line.Types tty text) order h e = type_line version names going order tty text bytes h.0 h.1 e
boot_line_again version names going bytes (line.Mover planned) order h e = mover_line version names going order planned.name planned.mover bytes h.0 h.1 e
boot_line_again version names going bytes (line.Gauge name) order h e =
    let new = new_name_reader names in
    plain_line version names going word.Gauge (name ∷ []) (line.Gauge name) (refl, (new.plain name h, tt)) (declares going) (one_again new line.Gauge name h) bytes e
boot_line_again version names going bytes (line.Alarm alarm) order h e =
    let threads = number_named_reader kind.Thread names order in
    plain_line version names going word.Alarm (decimal alarm.due ∷ name_of_number kind.Thread names alarm.element ∷ decimal alarm.signal ∷ []) (line.Alarm alarm)
    (refl, (short_reader.plain alarm.due h.0, (threads.plain alarm.element h.1, (small_reader.plain alarm.signal h.2, tt)))) (declares going)
    (three_again short_reader threads small_reader (λ due thread signal. line.Alarm (record { due = due; element = thread; signal = signal })) alarm.due alarm.element alarm.signal h.0 h.1 h.2) bytes e
boot_line_again version names going bytes (line.Thread name) order h e =
    let new = new_name_reader names in
    plain_line version names going word.Thread (name ∷ []) (line.Thread name) (refl, (new.plain name h, tt)) (declares going) (one_again new line.Thread name h) bytes e
boot_line_again version names going bytes (line.More thread) order h e =
    let threads = number_named_reader kind.Thread names order in
    plain_line version names going word.More (name_of_number kind.Thread names thread ∷ []) (line.More thread) (refl, (threads.plain thread h, tt)) (declares going) (one_again threads line.More thread h) bytes e
boot_line_again version names going bytes (line.Step one) order h e = step_line version names going order one bytes h.0 h.1 e
