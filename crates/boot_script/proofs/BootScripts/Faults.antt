-- No boot script is invalid because memory is exhausted.
use Rattle.boot_script.proofs.Common.{ℕ, ◌+◌, ◌-◌, ◌*◌, ◌&&◌, List, [], ◌∷◌, length, true, false, Bool, cond, Option, Some, None, Result, Ok, Err, codes, eqb, nat_le, nat_lt, list_all, join_with_byte, bytes_eq, ScriptRefusal, BadName, BadNumber, NameTwice, NameUnknown, NotAscii, TextTooLong, TooMany, UnknownWord, ScriptFault, BootWord, Line, Kind, Named, Small, Large, Step, Version, Boot, ◌>>=◌, pieces, words_of, first_word, later_words, number_of, last_wait, signal_of, digit_of, escape_of, before, bytes_of, within_of, text_of, Reader, is_printable, at_most_of, no_words, one_word, two_words, three_words, is_name, same_kind, if_kind, find, is_declared, if_new, name_of, number_named, new_name, count_of, most_of, room_of, part_of, queue_or_part, queue_named, boot_word, boot_words, word_named, has_word, if_had, boot_word_of, is_key, key_of, way_of, ways_from, ways_of, switch_words, type_words, say_words, line_of, words_line, boot_line, steps_at, Draft, first_draft, goes_on, typed_at, text_room, alarm_room, step_room, add_step, added, line_added, plan_from, plan_only, text_plan, says_nothing, at_line, opening_of}
use Rattle.boot_script.specs.declared.boot_words.BootWord.TheVariants as word
use Rattle.boot_script.specs.declared.boot_lines.Line.TheVariants as line
use Rattle.boot_data.specs.declared.kind.Kind.TheVariants as kind
use Rattle.boot_script.proofs.Basics.Binds.{Known, bind_known, test_known, ok_known, last_known, IsKnown, bind_is_known, test_is_known, ok_is_known, at_line_known}
use Rattle.boot_script.proofs.LineWords.Readers.{number_known}
use Rattle.boot_script.proofs.LineWords.Openings.{opening_known}

-- no word is refused as out of memory
abbrev AllKnown : {A : Type 0} → Reader A → Type 0
AllKnown read = (word : List ℕ) → Known (read word)

one_known : {A R : Type 0} (read : Reader A) (value : A → R) (words : List (List ℕ)) → AllKnown read → Known (one_word read value words)
unfolding one_word
one_known read value words k = bind_known (read (first_word words)) _ (k (first_word words)) (λ x. last_known (later_words words) (value x))

two_known : {A B R : Type 0} (read_a : Reader A) (read_b : Reader B) (value : A → B → R) (words : List (List ℕ)) → AllKnown read_a → AllKnown read_b → Known (two_words read_a read_b value words)
unfolding two_words one_word
two_known read_a read_b value words k l = bind_known (read_a (first_word words)) (λ x. one_word read_b (value x) (later_words words)) (k (first_word words)) (λ x. one_known read_b (value x) (later_words words) l)

three_known : {A B C R : Type 0} (read_a : Reader A) (read_b : Reader B) (read_c : Reader C) (value : A → B → C → R) (words : List (List ℕ)) → AllKnown read_a → AllKnown read_b → AllKnown read_c → Known (three_words read_a read_b read_c value words)
unfolding three_words two_words
three_known read_a read_b read_c value words k l m =
    bind_known (read_a (first_word words)) (λ x. two_words read_b read_c (value x) (later_words words)) (k (first_word words)) (λ x. two_known read_b read_c (value x) (later_words words) l m)

name_known : AllKnown name_of
name_known name = test_known (is_name name) (Ok name) (Err BadName) (ok_known name) (λ p. cc)

find_known : (kind : Kind) (names : List Named) (name : List ℕ) → Known (find kind names name)
unfolding find
find_known kind [] name = λ p. cc
find_known kind (named ∷ names) name =
    test_known (bytes_eq name named.name) (if_kind kind named) (find kind names name)
    (test_known (same_kind named.kind kind) (Ok named.number) (Err NameUnknown) (ok_known named.number) (λ p. cc))
    (find_known kind names name)

-- a name of each kind
pub number_named_known : (kind : Kind) (names : List Named) → AllKnown (number_named kind names)
number_named_known kind names name = bind_known (name_of name) (λ name. find kind names name) (name_known name) (λ name. find_known kind names name)

pub new_name_known : (names : List Named) → AllKnown (new_name names)
new_name_known names name =
    bind_known (name_of name) (λ name. if_new names name) (name_known name) (λ name. test_known (is_declared names name) (Err NameTwice) (Ok name) (λ p. cc) (ok_known name))

part_known : (heard : Bool) (tty : ℕ) (part : List ℕ) → Known (part_of heard tty part)
part_known heard tty part =
    test_known (bytes_eq part (codes "screen")) (Ok (Large (tty * 2 + 1))) _ (ok_known (Large (tty * 2 + 1)))
    (test_known (heard && bytes_eq part (codes "line")) (Ok (Large (tty * 2))) (Err NameUnknown) (ok_known (Large (tty * 2))) (λ p. cc))

queue_or_part_known : (heard : Bool) (names : List Named) (name : List ℕ) (parts : List (List ℕ)) → Known (queue_or_part heard names name parts)
queue_or_part_known heard names name [] = bind_known (find kind.Queue names name) (λ queue. Ok (Small queue)) (find_known kind.Queue names name) (λ queue. ok_known (Small queue))
queue_or_part_known heard names name (part ∷ parts) =
    bind_known (find kind.Tty names name) (λ tty. part_of heard tty (join_with_byte 46 (part ∷ parts))) (find_known kind.Tty names name) (λ tty. part_known heard tty (join_with_byte 46 (part ∷ parts)))

pub queue_named_known : (heard : Bool) (names : List Named) → AllKnown (queue_named heard names)
queue_named_known heard names written =
    bind_known (name_of (first_word (pieces 46 written))) (λ name. queue_or_part heard names name (later_words (pieces 46 written))) (name_known (first_word (pieces 46 written)))
    (λ name. queue_or_part_known heard names name (later_words (pieces 46 written)))

digit_known : (digit : ℕ) → Known (digit_of digit)
digit_known digit =
    test_known (nat_le 48 digit && nat_le digit 57) (Ok (digit - 48)) _ (ok_known (digit - 48))
    (test_known (nat_le 65 digit && nat_le digit 70) (Ok (digit - 55)) (Err BadNumber) (ok_known (digit - 55)) (λ p. cc))

escape_known : (high low : ℕ) → Known (escape_of high low)
escape_known high low = bind_known (digit_of high) _ (digit_known high) (λ h. bind_known (digit_of low) _ (digit_known low) (λ l. ok_known (h * 16 + l)))

before_known : (byte : ℕ) (said : Result (List ℕ) ScriptRefusal) → Known said → Known (before byte said)
before_known byte (Ok bytes) k = ok_known (byte ∷ bytes)
before_known byte (Err refusal) k = λ p. k (cc)

bytes_known : (text : List ℕ) → Known (bytes_of text)
unfolding bytes_of
bytes_known [] = ok_known []
bytes_known (byte ∷ []) = test_known (eqb byte 92) (Err BadNumber) (Ok (byte ∷ [])) (λ p. cc) (ok_known (byte ∷ []))
bytes_known (byte ∷ next ∷ []) = test_known (eqb byte 92) (Err BadNumber) (before byte (bytes_of (next ∷ []))) (λ p. cc) (before_known byte (bytes_of (next ∷ [])) (bytes_known (next ∷ [])))
bytes_known (byte ∷ high ∷ low ∷ text) =
    test_known (eqb byte 92) (escape_of high low >>= (λ escaped. before escaped (bytes_of text))) (before byte (bytes_of (high ∷ low ∷ text)))
    (bind_known (escape_of high low) (λ escaped. before escaped (bytes_of text)) (escape_known high low) (λ escaped. before_known escaped (bytes_of text) (bytes_known text)))
    (before_known byte (bytes_of (high ∷ low ∷ text)) (bytes_known (high ∷ low ∷ text)))

pub text_of_known : (most : ℕ) (words : List (List ℕ)) → Known (text_of most words)
text_of_known most words =
    bind_known (bytes_of (join_with_byte 32 words)) (λ bytes. within_of most bytes) (bytes_known (join_with_byte 32 words))
    (λ bytes. test_known (nat_le (length bytes) most) (Ok bytes) (Err TextTooLong) (ok_known bytes) (λ p. cc))

key_known : (keys key : List ℕ) → Known (key_of keys key)
key_known keys [] = λ p. cc
key_known keys (key ∷ []) = test_known (is_key keys key) (Err NameTwice) (Ok key) (λ p. cc) (ok_known key)
key_known keys (key ∷ next ∷ more) = λ p. cc

way_known : (names : List Named) (keys key to : List ℕ) → Known (way_of names keys key to)
way_known names keys key to =
    bind_known (key_of keys key) (λ k. number_named kind.Queue names to >>= λ t. Ok (record { key = k; to = t })) (key_known keys key)
    (λ k. bind_known (number_named kind.Queue names to) (λ t. Ok (record { key = k; to = t })) (number_named_known kind.Queue names to) (λ t. ok_known (record { key = k; to = t })))

ways_from_known : (names : List Named) (keys : List ℕ) (words : List (List ℕ)) → Known (ways_from names keys words)
unfolding ways_from
ways_from_known names keys [] = ok_known []
ways_from_known names keys (key ∷ []) = bind_known (way_of names keys key []) (λ way. Ok (way ∷ [])) (way_known names keys key []) (λ way. ok_known (way ∷ []))
ways_from_known names keys (key ∷ to ∷ words) =
    bind_known (way_of names keys key to) (λ way. ways_from names (way.key ∷ keys) words >>= λ ways. Ok (way ∷ ways)) (way_known names keys key to)
    (λ way. bind_known (ways_from names (way.key ∷ keys) words) (λ ways. Ok (way ∷ ways)) (ways_from_known names (way.key ∷ keys) words) (λ ways. ok_known (way ∷ ways)))

at_most_known : {A : Type 0} (most : ℕ) (items : List A) → Known (at_most_of most items)
at_most_known most items = test_known {A = Unit {0}} (nat_le (length items) most) (Ok tt) (Err TooMany) (ok_known tt) (λ p. cc)

ways_known : (names : List Named) (words : List (List ℕ)) → Known (ways_of names words)
ways_known names [] = λ p. cc
ways_known names (word ∷ words) =
    bind_known (ways_from names [] (word ∷ words)) (λ ways. at_most_of 4 ways >>= λ end. Ok ways) (ways_from_known names [] (word ∷ words))
    (λ ways. bind_known (at_most_of 4 ways) (λ end. Ok ways) (at_most_known 4 ways) (λ end. ok_known ways))

switch_known : (names : List Named) (words : List (List ℕ)) → Known (switch_words names words)
unfolding switch_words
switch_known names words =
    let rest = later_words (later_words (later_words words)) in
    bind_known (new_name names (first_word words)) _ (new_name_known names (first_word words))
    (λ name. bind_known (number_named kind.Queue names (first_word (later_words words))) _ (number_named_known kind.Queue names (first_word (later_words words)))
    (λ from. bind_known (number_named kind.Queue names (first_word (later_words (later_words words)))) _ (number_named_known kind.Queue names (first_word (later_words (later_words words))))
    (λ other. bind_known (ways_of names rest) _ (ways_known names rest) (λ ways. ok_known _))))

type_known : (names : List Named) (words : List (List ℕ)) → Known (type_words names words)
unfolding type_words
type_known names words =
    bind_known (number_named kind.Tty names (first_word words)) _ (number_named_known kind.Tty names (first_word words))
    (λ tty. bind_known (text_of 1024 (later_words words)) _ (text_of_known 1024 (later_words words)) (λ text. ok_known _))

say_known : (names : List Named) (words : List (List ℕ)) → Known (say_words names words)
unfolding say_words
say_known names words =
    bind_known (queue_named false names (first_word words)) _ (queue_named_known false names (first_word words))
    (λ queue. bind_known (text_of 63 (later_words words)) _ (text_of_known 63 (later_words words)) (λ text. ok_known _))

line_of_known : (version : Version) (names : List Named) (written : BootWord) (words : List (List ℕ)) → Known (line_of version names written words)
unfolding line_of no_words
line_of_known version names word.Queue words = one_known (new_name names) _ words (new_name_known names)
line_of_known version names word.Pipe words = three_known (new_name names) (number_of (last_wait version)) (number_of (last_wait version)) _ words (new_name_known names) (number_known (last_wait version)) (number_known (last_wait version))
line_of_known version names word.Tty words = one_known (new_name names) line.Tty words (new_name_known names)
line_of_known version names word.Types words = type_known names words
line_of_known version names word.Pump words = three_known (new_name names) (number_named kind.Queue names) (number_named kind.Queue names) _ words (new_name_known names) (number_named_known kind.Queue names) (number_named_known kind.Queue names)
line_of_known version names word.Switch words = switch_known names words
line_of_known version names word.Gauge words = one_known (new_name names) line.Gauge words (new_name_known names)
line_of_known version names word.Alarm words = three_known (number_of 4294967295) (number_named kind.Thread names) signal_of _ words (number_known 4294967295) (number_named_known kind.Thread names) (number_known 15)
line_of_known version names word.Thread words = one_known (new_name names) line.Thread words (new_name_known names)
line_of_known version names word.More words = one_known (number_named kind.Thread names) line.More words (number_named_known kind.Thread names)
line_of_known version names word.Say words = say_known names words
line_of_known version names word.Hear words = one_known (queue_named true names) _ words (queue_named_known true names)
line_of_known version names word.Wait words = one_known (number_of (last_wait version)) _ words (number_known (last_wait version))
line_of_known version names word.Wake words = one_known (number_of (last_wait version)) _ words (number_known (last_wait version))
line_of_known version names word.Signal words = two_known (number_named kind.Thread names) signal_of _ words (number_named_known kind.Thread names) (number_known 15)
line_of_known version names word.Stop words = one_known (number_named kind.Thread names) _ words (number_named_known kind.Thread names)
line_of_known version names word.Start words = one_known (number_named kind.Thread names) _ words (number_named_known kind.Thread names)
line_of_known version names word.Tick words = two_known (number_named kind.Gauge names) (number_of 18446744073709551615) _ words (number_named_known kind.Gauge names) (number_known 18446744073709551615)
line_of_known version names word.Poke words = one_known (number_named kind.Mover names) _ words (number_named_known kind.Mover names)
line_of_known version names word.Pass words = last_known words _
line_of_known version names word.Close words = one_known (number_named kind.Queue names) _ words (number_named_known kind.Queue names)

word_named_known : (written : List ℕ) (words : List BootWord) → Known (word_named written words)
unfolding word_named
word_named_known written [] = λ p. cc
word_named_known written (word ∷ words) = test_known (bytes_eq written (boot_word word)) (Ok word) (word_named written words) (ok_known word) (word_named_known written words)

boot_word_known : (version : Version) (going : Bool) (written : List ℕ) → Known (boot_word_of version going written)
unfolding boot_word_of
boot_word_known version going written =
    bind_known (word_named written boot_words) (λ word. if_had version going word) (word_named_known written boot_words)
    (λ word. test_known (has_word version going word) (Ok word) (Err UnknownWord) (ok_known word) (λ p. cc))

-- no line is refused as out of memory
pub boot_line_known : (version : Version) (names : List Named) (going : Bool) (bytes : List ℕ) → Known (boot_line version names going bytes)
unfolding boot_line
boot_line_known version names going bytes =
    test_known (list_all is_printable bytes) (words_line version names going (words_of bytes)) (Err NotAscii)
    (bind_known (boot_word_of version going (first_word (words_of bytes))) _ (boot_word_known version going (first_word (words_of bytes)))
    (λ word. line_of_known version names word (later_words (words_of bytes))))
    (λ p. cc)

room_known : (b : Bool) (refusal : ScriptRefusal) → Known {A = Unit {0}} (Err refusal) → Known {A = Unit {0}} (cond b (Ok tt) (Err refusal))
room_known b refusal k = test_known {A = Unit {0}} b (Ok tt) (Err refusal) (ok_known tt) k

kind_room_known : (version : Version) (kind : Kind) (names : List Named) → Known (room_of version kind names)
kind_room_known version kind names = room_known (nat_lt (count_of kind names) (most_of version kind)) TooMany (λ p. cc)

step_known : (step : Step) (going : Option ℕ) (d : Draft) → Known (add_step step going d)
step_known step None d = ok_known d
step_known step (Some thread) d = bind_known (step_room (steps_at d.plan.threads thread)) _ (room_known (nat_lt (length (steps_at d.plan.threads thread)) 64) TooMany (λ p. cc)) (λ room. ok_known _)

pub added_known : (version : Version) (said : Line) (d : Draft) → Known (added version said d)
unfolding added
added_known version (line.Queue queue) d = bind_known (room_of version kind.Queue d.names) _ (kind_room_known version kind.Queue d.names) (λ room. ok_known _)
added_known version (line.Tty name) d = bind_known (room_of version kind.Tty d.names) _ (kind_room_known version kind.Tty d.names) (λ room. ok_known _)
added_known version (line.Types tty text) d =
    bind_known (text_room (length (typed_at d.plan.ttys tty) + length text)) _ (room_known (nat_le (length (typed_at d.plan.ttys tty) + length text) 1024) TextTooLong (λ p. cc)) (λ room. ok_known _)
added_known version (line.Mover mover) d = bind_known (room_of version kind.Mover d.names) _ (kind_room_known version kind.Mover d.names) (λ room. ok_known _)
added_known version (line.Gauge name) d = bind_known (room_of version kind.Gauge d.names) _ (kind_room_known version kind.Gauge d.names) (λ room. ok_known _)
added_known version (line.Alarm alarm) d = bind_known (alarm_room d.plan.alarms) _ (room_known (nat_lt (length d.plan.alarms) 16) TooMany (λ p. cc)) (λ room. ok_known _)
added_known version (line.Thread name) d = bind_known (room_of version kind.Thread d.names) _ (kind_room_known version kind.Thread d.names) (λ room. ok_known _)
added_known version (line.More thread) d = ok_known _
added_known version (line.Step step) d = step_known step d.going d

pub line_added_known : (version : Version) (bytes : List ℕ) (d : Draft) → Known (line_added version bytes d)
unfolding line_added
line_added_known version bytes d = bind_known (boot_line version d.names (goes_on d.going) bytes) (λ said. added version said d) (boot_line_known version d.names (goes_on d.going) bytes) (λ said. added_known version said d)

-- the fault of lines is not out of memory
pub plan_known : (version : Version) (number : ℕ) (lines : List (List ℕ)) (d : Draft) → IsKnown (plan_from version number lines d)
unfolding plan_from
plan_known version number [] d = ok_is_known d
plan_known version number (bytes ∷ lines) d =
    test_is_known (says_nothing bytes) (plan_from version (number + 1) lines d) _ (plan_known version (number + 1) lines d)
    (bind_is_known (at_line number (line_added version bytes d)) (λ next. plan_from version (number + 1) lines next) (at_line_known number (line_added version bytes d) (line_added_known version bytes d))
    (λ next. plan_known version (number + 1) lines next))

pub plan_only_known : (said : Result Draft ScriptFault) → IsKnown said → IsKnown (plan_only said)
plan_only_known (Ok d) k = ok_is_known d.plan
plan_only_known (Err fault) k = λ other p. k other (cc)

-- the fault of a text is not out of memory
pub text_plan_known : (text : List ℕ) → IsKnown (text_plan text)
unfolding text_plan
text_plan_known text =
    bind_is_known (opening_of Boot text) (λ opening. plan_only (plan_from opening.0 2 opening.1 first_draft)) (opening_known Boot text)
    (λ opening. plan_only_known (plan_from opening.0 2 opening.1 first_draft) (plan_known opening.0 2 opening.1 first_draft))
