-- A word that is looked up among commands.
use Rattle.boot_script.proofs.Common.{◌≡◌, inl, inr, ℕ, ◌<◌, ◌≤◌, ◌+◌, List, [], ◌∷◌, ◌∙◌, refl, sym, ap, length, drop, get_or, add-one, true, false, Ok, Err, drop-cons, drop_all, bytes_eq-Decides, bytes_eq, Command, UnknownWord, Version, ◌>>=◌}
use Rattle.boot_script.specs.declared.commands.Command.TheVariants as command
use Rattle.boot_script.specs.Commands.{command_word, commands, named, knows, if_known, command_of}
use Rattle.boot_script.proofs.Basics.Binds.{bind_ok, guard_ok, chosen, Known, bind_known, test_known, ok_known}

-- the command at this place isn't named, so the others are looked at
pub named_more : (word : List ℕ) (cs : List Command) (i : ℕ) (c : Command) → i < length cs → bytes_eq word (command_word (get_or cs i c)) ≡ false → named word (drop i cs) ≡ named word (drop (i + 1) cs)
unfolding named
named_more word cs i c within other = ap (named word) (drop-cons cs i c within) ∙ (rw other refl ∙ ap (λ n. named word (drop n cs)) (sym (add-one i)))

pub named_here : (word : List ℕ) (cs : List Command) (i : ℕ) (c : Command) → i < length cs → bytes_eq word (command_word (get_or cs i c)) ≡ true → named word (drop i cs) ≡ Ok (get_or cs i c)
unfolding named
named_here word cs i c within same = ap (named word) (drop-cons cs i c within) ∙ rw same refl

pub named_nowhere : (word : List ℕ) (cs : List Command) (i : ℕ) → length cs ≤ i → named word (drop i cs) ≡ Err UnknownWord
unfolding named
named_nowhere word cs i past = ap (named word) (drop_all i cs past)

named_ok : (word : List ℕ) (cs : List Command) (command : Command) → named word cs ≡ Ok command → word ≡ command_word command
unfolding named
named_ok word [] command h = absurd (cc)
named_ok word (c ∷ cs) command h =
    elim (chosen (bytes_eq word (command_word c)) (Ok c) (named word cs) (Ok command) h) [
      | inl p ↦ let e : c ≡ command = cc (p.1) in (bytes_eq-Decides word (command_word c)).0 p.0 ∙ ap command_word e
      | inr p ↦ named_ok word cs command p.1
    ]

-- a word that is read as a command is that command's word
pub command_ok : (version : Version) (word : List ℕ) (command : Command) → command_of version word ≡ Ok command → (knows version command ≡ true) × (word ≡ command_word command)
unfolding command_of
command_ok version word command h =
    let a = bind_ok (named word commands) (λ c. if_known version c) command h in
    let g = guard_ok (knows version a.0) a.0 command UnknownWord a.2 in
    (ap (knows version) (sym g.1) ∙ g.0, named_ok word commands a.0 a.1 ∙ ap command_word g.1)

named_again : (command : Command) → named (command_word command) commands ≡ Ok command
unfolding named commands
named_again command.Queue = refl
named_again command.Chain = refl
named_again command.Claim = refl
named_again command.Raise = refl
named_again command.Take = refl
named_again command.On = refl
named_again command.Off = refl
named_again command.Stop = refl
named_again command.Park = refl
named_again command.Start = refl
named_again command.Signal = refl
named_again command.Deliver = refl
named_again command.Done = refl
named_again command.Notify = refl
named_again command.Round = refl
named_again command.Leave = refl
named_again command.Tick = refl
named_again command.Advance = refl
named_again command.Set = refl
named_again command.Fire = refl
named_again command.Cancel = refl
named_again command.Join = refl
named_again command.Shut = refl
named_again command.WaitAt = refl

pub command_again : (version : Version) (command : Command) → knows version command ≡ true → command_of version (command_word command) ≡ Ok command
unfolding command_of
command_again version command h = ap (λ r. r >>= λ c. if_known version c) (named_again command) ∙ rw h refl

named_known : (word : List ℕ) (cs : List Command) → Known (named word cs)
unfolding named
named_known word [] = λ p. cc
named_known word (c ∷ cs) = test_known (bytes_eq word (command_word c)) (Ok c) (named word cs) (ok_known c) (named_known word cs)

pub command_known : (version : Version) (word : List ℕ) → Known (command_of version word)
unfolding command_of
command_known version word =
    bind_known (named word commands) (λ c. if_known version c) (named_known word commands)
    (λ c. test_known (knows version c) (Ok c) (Err UnknownWord) (ok_known c) (λ p. cc))
