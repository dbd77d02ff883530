-- What is read of a line of a boot script is spelled so.
use Rattle.boot_script.proofs.Common.{◌≡◌, inl, inr, ℕ, List, [], ◌∷◌, ◌∙◌, refl, sym, ap, subst, true, false, Bool, Some, None, Ok, Err, join_with_byte-slice_split, bytes_eq-Decides, ◌||◌, join_with_byte, list_all, bytes_eq, NotAscii, UnknownWord, BootWord, Line, Named, Pump, Version, ◌>>=◌, words_of, first_word, later_words, is_later, is_printable, text_of, boot_word, boot_words, word_named, has_word, if_had, boot_word_of, type_words, say_words, line_of, words_line, boot_line, AreInOrder, name_of_number, queue_word, EndsInText, IsSpelling, FitsLine}
use Rattle.std.proofs.lemmas.Bool.{and_parts as both}
use Rattle.boot_script.specs.declared.boot_words.BootWord.TheVariants as word
use Rattle.boot_script.specs.declared.boot_lines.Line.TheVariants as line
use Rattle.boot_data.specs.declared.kind.Kind.TheVariants as kind
use Rattle.boot_data.specs.declared.plan.Step.TheVariants as step
use Rattle.boot_script.proofs.Basics.Binds.{bind_ok, guard_ok, chosen}
use Rattle.boot_script.proofs.Basics.Cuts.{some_pieces}
use Rattle.boot_script.proofs.LineWords.Plain.{ArePlain}
use Rattle.boot_script.proofs.LineWords.Readers.{small_reader, short_reader, long_reader}
use Rattle.boot_script.proofs.LineWords.Rows.{next_ok, none_ok, one_ok, two_ok, three_ok}
use Rattle.boot_script.proofs.EventScripts.Spelled.{both_words}
use Rattle.boot_script.proofs.BootScripts.Readers.{wait_number_reader, new_name_reader, number_named_reader, queue_named_reader}
use Rattle.boot_script.proofs.Escaping.TextsRead.{plain_words, ends_ok}
use Rattle.boot_script.proofs.BootScripts.WaysRead.{plain_later, switch_ok}

-- the line is in its ranges, and the word and the words after it spell the line
abbrev pub IsSaid : Version → List Named → Bool → BootWord → List (List ℕ) → Line → Type 0
IsSaid version names going one words said = FitsLine version names going said × IsSpelling names said (join_with_byte 32 (boot_word one ∷ words))

-- a word and the words after it, joined as a line
abbrev joined : BootWord → List (List ℕ) → List ℕ
joined one words = join_with_byte 32 (boot_word one ∷ words)

type_ok : (version : Version) (names : List Named) (going : Bool) → AreInOrder names → (words : List (List ℕ)) (said : Line) → ArePlain words → type_words names words ≡ Ok said → IsSaid version names going word.Types words said
unfolding type_words
type_ok version names going order words said plain h =
    let a = next_ok (number_named_reader kind.Tty names order) words (λ tty. text_of 1024 (later_words words) >>= λ text. Ok (line.Types tty text)) said h in
    let b = bind_ok (text_of 1024 (later_words words)) (λ text. Ok (line.Types a.0 text)) said a.3 in
    let e : line.Types a.0 b.0 ≡ said = cc (b.2) in
    let name = name_of_number kind.Tty names a.0 in
    let k = ends_ok 1024 (boot_word word.Types) name (later_words words) b.0 (plain_later words plain) b.1 in
    subst (IsSaid version names going word.Types words) e
    ((a.1, k.0), subst (λ ws. EndsInText (boot_word word.Types ∷ name ∷ []) b.0 (joined word.Types ws)) (sym a.2) k.1)

say_ok : (version : Version) (names : List Named) (going : Bool) → AreInOrder names → (words : List (List ℕ)) (said : Line) → ArePlain words → going ≡ true → say_words names words ≡ Ok said → IsSaid version names going word.Say words said
unfolding say_words
say_ok version names going order words said plain goes h =
    let a = next_ok (queue_named_reader false names order) words (λ queue. text_of 63 (later_words words) >>= λ text. Ok (line.Step (step.Say queue text))) said h in
    let b = bind_ok (text_of 63 (later_words words)) (λ text. Ok (line.Step (step.Say a.0 text))) said a.3 in
    let e : line.Step (step.Say a.0 b.0) ≡ said = cc (b.2) in
    let name = queue_word names a.0 in
    let k = ends_ok 63 (boot_word word.Say) name (later_words words) b.0 (plain_later words plain) b.1 in
    subst (IsSaid version names going word.Say words) e
    ((goes, (a.1, k.0)), subst (λ ws. EndsInText (boot_word word.Say ∷ name ∷ []) b.0 (joined word.Say ws)) (sym a.2) k.1)

goes : (b : Bool) → (b || false) ≡ true → b ≡ true
goes true h = refl
goes false h = absurd (cc)

line_of_ok : (version : Version) (names : List Named) (going : Bool) → AreInOrder names → (one : BootWord) (words : List (List ℕ)) (said : Line) → ArePlain words → has_word version going one ≡ true → line_of version names one words ≡ Ok said
    → IsSaid version names going one words said
unfolding line_of
line_of_ok version names going order word.Queue words said plain k h =
    one_ok (new_name_reader names) (λ name. line.Queue (record { name = name; waits = None })) words (IsSaid version names going word.Queue words) (λ x a e. ((a, tt), ap (joined word.Queue) e)) said h
line_of_ok version names going order word.Pipe words said plain k h =
    three_ok (new_name_reader names) (wait_number_reader version) (wait_number_reader version) (λ name readers writers. line.Queue (record { name = name; waits = Some (record { readers = readers; writers = writers }) })) words (IsSaid version names going word.Pipe words)
    (λ x y z a b c e. ((a, (b, c)), ap (joined word.Pipe) e)) said h
line_of_ok version names going order word.Tty words said plain k h = one_ok (new_name_reader names) line.Tty words (IsSaid version names going word.Tty words) (λ x a e. (a, ap (joined word.Tty) e)) said h
line_of_ok version names going order word.Types words said plain k h = type_ok version names going order words said plain h
line_of_ok version names going order word.Pump words said plain k h =
    three_ok (new_name_reader names) (number_named_reader kind.Queue names order) (number_named_reader kind.Queue names order) (λ name from to. line.Mover (record { name = name; mover = Pump from to })) words (IsSaid version names going word.Pump words)
    (λ x y z a b c e. ((a, (b, c)), ap (joined word.Pump) e)) said h
line_of_ok version names going order word.Switch words said plain k h =
    switch_ok names order words (IsSaid version names going word.Switch words) plain (λ name from other ways a b c d f g e. ((a, (b, c, d, f, g)), ap (joined word.Switch) e)) said h
line_of_ok version names going order word.Gauge words said plain k h = one_ok (new_name_reader names) line.Gauge words (IsSaid version names going word.Gauge words) (λ x a e. (a, ap (joined word.Gauge) e)) said h
line_of_ok version names going order word.Alarm words said plain k h =
    three_ok short_reader (number_named_reader kind.Thread names order) small_reader (λ due thread signal. line.Alarm (record { due = due; element = thread; signal = signal })) words (IsSaid version names going word.Alarm words)
    (λ x y z a b c e. ((a, b, c), ap (joined word.Alarm) e)) said h
line_of_ok version names going order word.Thread words said plain k h = one_ok (new_name_reader names) line.Thread words (IsSaid version names going word.Thread words) (λ x a e. (a, ap (joined word.Thread) e)) said h
line_of_ok version names going order word.More words said plain k h = one_ok (number_named_reader kind.Thread names order) line.More words (IsSaid version names going word.More words) (λ x a e. (a, ap (joined word.More) e)) said h
line_of_ok version names going order word.Say words said plain k h = say_ok version names going order words said plain (goes going k) h
line_of_ok version names going order word.Hear words said plain k h =
    one_ok (queue_named_reader true names order) (λ queue. line.Step (step.Hear queue)) words (IsSaid version names going word.Hear words) (λ x a e. ((goes going k, a), ap (joined word.Hear) e)) said h
line_of_ok version names going order word.Wait words said plain k h =
    one_ok (wait_number_reader version) (λ wait. line.Step (step.Wait wait)) words (IsSaid version names going word.Wait words) (λ x a e. ((goes going k, a), ap (joined word.Wait) e)) said h
line_of_ok version names going order word.Wake words said plain k h =
    one_ok (wait_number_reader version) (λ wait. line.Step (step.Wake wait)) words (IsSaid version names going word.Wake words) (λ x a e. ((goes going k, a), ap (joined word.Wake) e)) said h
line_of_ok version names going order word.Signal words said plain k h =
    two_ok (number_named_reader kind.Thread names order) small_reader (λ thread signal. line.Step (step.Signal thread signal)) words (IsSaid version names going word.Signal words)
    (λ x y a b e. ((goes going k, (a, b)), ap (joined word.Signal) e)) said h
line_of_ok version names going order word.Stop words said plain k h =
    one_ok (number_named_reader kind.Thread names order) (λ thread. line.Step (step.Stop thread)) words (IsSaid version names going word.Stop words) (λ x a e. ((goes going k, a), ap (joined word.Stop) e)) said h
line_of_ok version names going order word.Start words said plain k h =
    one_ok (number_named_reader kind.Thread names order) (λ thread. line.Step (step.Start thread)) words (IsSaid version names going word.Start words) (λ x a e. ((goes going k, a), ap (joined word.Start) e)) said h
line_of_ok version names going order word.Tick words said plain k h =
    two_ok (number_named_reader kind.Gauge names order) long_reader (λ gauge amount. line.Step (step.Tick gauge amount)) words (IsSaid version names going word.Tick words)
    (λ x y a b e. ((goes going k, (a, b)), ap (joined word.Tick) e)) said h
line_of_ok version names going order word.Poke words said plain k h =
    one_ok (number_named_reader kind.Mover names order) (λ mover. line.Step (step.Poke mover)) words (IsSaid version names going word.Poke words) (λ x a e. ((goes going k, a), ap (joined word.Poke) e)) said h
line_of_ok version names going order word.Pass words said plain k h =
    none_ok (line.Step step.Pass) words (IsSaid version names going word.Pass words) (λ e. ((goes going k, tt), ap (joined word.Pass) e)) said h
line_of_ok version names going order word.Close words said plain k h =
    let later = both (is_later version) going k in
    one_ok (number_named_reader kind.Queue names order) (λ queue. line.Step (step.Close queue)) words (IsSaid version names going word.Close words) (λ x a e. ((later.1, (later.0, a)), ap (joined word.Close) e)) said h

word_named_ok : (written : List ℕ) (words : List BootWord) (one : BootWord) → word_named written words ≡ Ok one → written ≡ boot_word one
unfolding word_named
word_named_ok written [] one h = absurd (cc)
word_named_ok written (first ∷ words) one h =
    elim (chosen (bytes_eq written (boot_word first)) (Ok first) (word_named written words) (Ok one) h) [
      | inl p ↦ let e : first ≡ one = cc (p.1) in (bytes_eq-Decides written (boot_word first)).0 p.0 ∙ ap boot_word e
      | inr p ↦ word_named_ok written words one p.1
    ]

boot_word_ok : (version : Version) (going : Bool) (written : List ℕ) (one : BootWord) → boot_word_of version going written ≡ Ok one → (has_word version going one ≡ true) × (written ≡ boot_word one)
unfolding boot_word_of
boot_word_ok version going written one h =
    let a = bind_ok (word_named written boot_words) (λ one. if_had version going one) one h in
    let g = guard_ok (has_word version going a.0) a.0 one UnknownWord a.2 in
    (ap (has_word version going) (sym g.1) ∙ g.0, word_named_ok written boot_words a.0 a.1 ∙ ap boot_word g.1)

-- a line that says something is a spelling of it, and it is in its ranges
pub boot_line_ok : (version : Version) (names : List Named) (going : Bool) (bytes : List ℕ) (said : Line) → AreInOrder names → boot_line version names going bytes ≡ Ok said → FitsLine version names going said × IsSpelling names said bytes
unfolding boot_line
boot_line_ok version names going bytes said order h =
    elim (chosen (list_all is_printable bytes) (words_line version names going (words_of bytes)) (Err NotAscii) (Ok said) h) [
      | inl p ↦
          let words = words_of bytes in
          let plain = plain_words bytes p.0 in
          let a = bind_ok (boot_word_of version going (first_word words)) (λ one. line_of version names one (later_words words)) said p.1 in
          let w = boot_word_ok version going (first_word words) a.0 a.1 in
          let k = line_of_ok version names going order a.0 (later_words words) said (plain_later words plain) w.0 a.2 in
          let whole : joined a.0 (later_words words) ≡ bytes =
          ap (λ first. join_with_byte 32 (first ∷ later_words words)) (sym w.1)
          ∙ (ap (join_with_byte 32) (sym (both_words words (some_pieces 32 bytes))) ∙ join_with_byte-slice_split 32 bytes) in
          (k.0, subst (IsSpelling names said) whole k.1)
      | inr p ↦ absurd (cc (p.1))
    ]
