-- What a call leaves to its hand as it was.
use Rattle.thread_table.proofs.Common.{◌≡◌, ⊎_elim, ℕ, zero, suc, Bool, true, false, List, Option, Some, None, Result, Ok, Err, [], ◌∷◌, refl, ap, ◌∙◌, Part, View, NextRefusal, Lost, quiet, tail_word, load, Step, PerformsEvents, TakeAnswer, MoveAnswer, WaitAnswer, IsTicket, StartAnswer, ParkAnswer, DeliverAnswer, ReadPc, DoneAnswer, NotifiedNow, BeforeAnswer, Elements, Event, HandState, HandDid}
use Rattle.thread_table.specs.declared.takings.NextRefusal.TheVariants as nexts
use Rattle.thread_table.specs.declared.moves.MoveRefusal.{MoveRefusal}
use Rattle.thread_table.specs.declared.moves.MoveRefusal.TheVariants as moves
use Rattle.thread_table.specs.declared.states.Started.{Started}
use Rattle.thread_table.specs.declared.states.Started.TheVariants as started
use Rattle.thread_table.specs.declared.states.Signalled.{Signalled}
use Rattle.thread_table.specs.declared.states.Signalled.TheVariants as signalled
use Rattle.thread_table.specs.declared.programs.Spent.{Spent}
use Rattle.thread_table.specs.Schedules.{elements_after}
use Rattle.thread_table.specs.Views.{held_after, on_after, claimed_after}
use Rattle.thread_table.specs.Answers.{TakesAfter, StoppedNow, SignalAnswer}
use Rattle.thread_table.specs.Keeping.{Keeps, Stays}

-- the hand has what it had, except for what it holds
pub keeps_by : (v w now : View) (es : List Step) → PerformsEvents v es now w → now.own.first ≡ v.own.first → now.own.serves ≡ v.own.serves → now.own.on ≡ v.own.on → now.member ≡ v.member → Keeps v w
keeps_by v w now es a first serves on member = record { first = ap (λ (z : View). z.own.first) a.has ∙ first; serves = ap (λ (z : View). z.own.serves) a.has ∙ serves; on = ap (λ (z : View). z.own.on) a.has ∙ on; share = ap (λ (z : View). z.member.share) a.has ∙ ap (λ (m : Part). m.share) member }

-- it only looked
pub stays_by : (v w : View) (es : List Step) → PerformsEvents v es (quiet v) w → Stays v w
stays_by v w es a = record { keeps = keeps_by v w (quiet v) es a refl refl refl refl; held = ap (λ (z : View). z.own.held) a.has; made = ap (λ (z : View). z.own.made) a.has }

pub after_stays : (before : List Step) (call ring : ℕ) (v w : View) (r : NextRefusal) → TakesAfter before call v ring (Err r) w → Stays v w
after_stays before call ring v w nexts.NoneReady a = stays_by v w _ a.6
after_stays before call ring v w (nexts.Lost seen) a = stays_by v w _ a.6

pub take_stays : (call ring : ℕ) (v w : View) (r : NextRefusal) → TakeAnswer call v ring (Err r) w → Stays v w
take_stays call ring v w r a = after_stays [] call ring v w r a

pub move_stays : (call ring element : ℕ) (v w : View) (r : MoveRefusal) → MoveAnswer call v ring element (Err r) w → Stays v w
move_stays call ring element v w moves.Spent a = stays_by v w _ a.3
move_stays call ring element v w (moves.Lost seen) a = stays_by v w _ a.1.4
move_stays call ring element v w (moves.Moved mark) a = absurd a

pub wait_stays : (call wait element ticket : ℕ) (v w : View) (r : MoveRefusal) → WaitAnswer call v wait element ticket (Err r) w → Stays v w
wait_stays call wait element ticket v w moves.Spent a = stays_by v w _ a.3
wait_stays call wait element ticket v w (moves.Lost seen) a = stays_by v w _ a.3.4
wait_stays call wait element ticket v w (moves.Moved mark) a = ⊎_elim (λ b. stays_by v w _ b.1) (λ b. stays_by v w _ b.4) a.4

pub ticket_stays : (wait ticket : ℕ) (v w : View) → IsTicket v wait ticket w → Stays v w
ticket_stays wait ticket v w a = stays_by v w _ a.3

pub counts_stay : (element found : ℕ) (v w : View) → ReadPc element v found w → Stays v w
counts_stay element found v w c = record { keeps = keeps_by v w _ _ c.2 refl refl refl refl; held = ap (λ (z : View). z.own.held) c.2.has; made = ap (λ (z : View). z.own.made) c.2.has }

after_keeps : (before : List Step) (call ring : ℕ) (v w : View) (r : Result ℕ NextRefusal) → TakesAfter before call v ring r w → Keeps v w
after_keeps before call ring v w (Ok element) a = keeps_by v w _ _ a.8 refl refl refl refl
after_keeps before call ring v w (Err r) a = (after_stays before call ring v w r a).keeps

pub take_keeps : (call ring : ℕ) (v w : View) (r : Result ℕ NextRefusal) → TakeAnswer call v ring r w → Keeps v w
take_keeps call ring v w r a = after_keeps [] call ring v w r a

pub move_keeps : (call ring element : ℕ) (v w : View) (r : Result (Unit {0}) MoveRefusal) → MoveAnswer call v ring element r w → Keeps v w
move_keeps call ring element v w (Ok done) a = keeps_by v w _ _ a.1.7 refl refl refl refl
move_keeps call ring element v w (Err r) a = (move_stays call ring element v w r a).keeps

pub wait_keeps : (call wait element ticket : ℕ) (v w : View) (r : Result (Unit {0}) MoveRefusal) → WaitAnswer call v wait element ticket r w → Keeps v w
wait_keeps call wait element ticket v w (Ok done) a = keeps_by v w _ _ a.2.7 refl refl refl refl
wait_keeps call wait element ticket v w (Err r) a = (wait_stays call wait element ticket v w r a).keeps

pub stop_keeps : (call element : ℕ) (was : Bool) (v w : View) → StoppedNow call v element was w → Keeps v w
stop_keeps call element was v w a = keeps_by v w _ _ a.3 refl refl refl refl

pub start_keeps : (call element : ℕ) (v w : View) (r : Result Started Lost) → StartAnswer call v element r w → Keeps v w
start_keeps call element v w (Ok started.NotStopped) a = (stays_by v w _ a.3).keeps
start_keeps call element v w (Ok started.Cleared) a = keeps_by v w _ _ a.4 refl refl refl refl
start_keeps call element v w (Ok started.Held) a = keeps_by v w _ _ a.1.4 refl refl refl refl
start_keeps call element v w (Err r) a = (stays_by v w _ a.5).keeps

pub park_keeps : (call element : ℕ) (v w : View) (r : Result Bool Lost) → ParkAnswer call v element r w → Keeps v w
park_keeps call element v w (Ok true) a = keeps_by v w _ _ a.1.4 refl refl refl refl
park_keeps call element v w (Ok false) a = (stays_by v w _ a.3).keeps
park_keeps call element v w (Err r) a = (stays_by v w _ a.5).keeps

pub signal_keeps : (call element number : ℕ) (v w : View) (r : Signalled) → SignalAnswer call v element number r w → Keeps v w
signal_keeps call element number v w signalled.Raised a = keeps_by v w _ _ a.3 refl refl refl refl
signal_keeps call element number v w signalled.Merged a = keeps_by v w _ _ a.3 refl refl refl refl

pub deliver_keeps : (call element : ℕ) (v w : View) (r : Result ℕ Lost) → DeliverAnswer call v element r w → Keeps v w
deliver_keeps call element v w (Ok zero) a = (stays_by v w _ a.3).keeps
deliver_keeps call element v w (Ok (suc mask)) a = keeps_by v w _ _ a.4 refl refl refl refl
deliver_keeps call element v w (Err r) a = (stays_by v w _ a.5).keeps

pub done_keeps : (call element : ℕ) (v w : View) (r : Result ℕ Spent) → DoneAnswer call v element r w → Keeps v w
done_keeps call element v w (Ok number) a = keeps_by v w _ _ a.6 refl refl refl refl
done_keeps call element v w (Err r) a = (counts_stay element 4294967295 v w a).keeps

pub notify_keeps : (call wait head : ℕ) (v w : View) → NotifiedNow call v wait head w → Keeps v w
notify_keeps call wait head v w a = keeps_by v w _ _ a.3 refl refl refl refl

pub before_keeps : (call ring head : ℕ) (v w : View) (r : Result (Option ℕ) NextRefusal) → BeforeAnswer call v ring head r w → Keeps v w
before_keeps call ring head v w (Ok None) a = (stays_by v w _ a.3).keeps
before_keeps call ring head v w (Ok (Some element)) a = after_keeps (load (tail_word ring) a.0 a.1 ∷ []) call ring v w (Ok element) a.3
before_keeps call ring head v w (Err r) a = after_keeps (load (tail_word ring) a.0 a.1 ∷ []) call ring v w (Err r) a.3

-- what a hand's own fields say of its view is the same after these entries
pub record Alike (v w : View) : Type 0 where
  pub ends : w.member.ends ≡ v.member.ends
  pub claimed : w.own.claimed ≡ v.own.claimed
  pub fresh : w.own.fresh ≡ true
  pub held : w.own.held ≡ v.own.held
  pub serves : w.own.serves ≡ v.own.serves
  pub on : w.own.on ≡ v.own.on

pub alike : (v w now : View) (es : List Step) → PerformsEvents v es now w → now.member ≡ v.member → now.own.claimed ≡ v.own.claimed → now.own.held ≡ v.own.held → now.own.serves ≡ v.own.serves → now.own.on ≡ v.own.on → Alike v w
alike v w now es a member claimed held serves on = record { ends = ap (λ (z : View). z.member.ends) a.has ∙ ap (λ (m : Part). m.ends) member; claimed = ap (λ (z : View). z.own.claimed) a.has ∙ claimed; fresh = ap (λ (z : View). z.own.fresh) a.has; held = ap (λ (z : View). z.own.held) a.has ∙ held; serves = ap (λ (z : View). z.own.serves) a.has ∙ serves; on = ap (λ (z : View). z.own.on) a.has ∙ on }

pub alike_by_look : (v w : View) (es : List Step) → PerformsEvents v es (quiet v) w → Alike v w
alike_by_look v w es a = alike v w (quiet v) es a refl refl refl refl refl

-- an event that leaves its hand what it holds, has on processors and has claimed
abbrev pub LeavesHand : Event → Type 0
LeavesHand event = (own : HandState) (e : Elements) → (held_after event own e ≡ own.held) × (on_after event own ≡ own.on) × (claimed_after event own e ≡ own.claimed)

pub alike_by_event : (call word found : ℕ) (event : Event) (v w : View) → LeavesHand event → HandDid call v word found event w → Alike v w
alike_by_event call word found event v w leaves d = let l = leaves v.own (elements_after d.before.object) in alike v w _ _ d.step.acts refl l.2 l.0 refl l.1

pub alike_by_both : (v m w : View) → Alike v m → Alike m w → Alike v w
alike_by_both v m w a b = record { ends = b.ends ∙ a.ends; claimed = b.claimed ∙ a.claimed; fresh = b.fresh; held = b.held ∙ a.held; serves = b.serves ∙ a.serves; on = b.on ∙ a.on }
