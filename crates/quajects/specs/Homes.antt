-- A quaject that came home from a closed chain.
use Rattle.std.specs.Prelude.{◌≡◌, ℕ, ◌%◌, ◌^◌, List, length, [], map}
use Rattle.quajects.specs.declared.world.Queues.{Queues}
use Rattle.quajects.specs.declared.any.AnyQuaject.{AnyQuaject}
use Rattle.quajects.specs.declared.home.Home.{Home}
use Rattle.quajects.specs.declared.came.Came.{Came}
use Rattle.quajects.specs.Anys.{PortsOf, PostsOf, IsKept, MadeOf, Fits, notes_of, all_taken, all_puts}
use Rattle.quajects.specs.Anys.{held_of, KeepsSides}
use Rattle.proc_chain.specs.Own.{View}
use Rattle.proc_chain.specs.declared.rule.Pact.{Pact}
use Rattle.proc_chain.specs.Rules.{suits, makes}
use Rattle.proc_chain.specs.Closings.{ClosedNow}
use Rattle.quajects.specs.Lines.{counted}
use Rattle.quajects.specs.Ports.{AllFit, AllUp, post_at}

-- this home has the ends and the numbers of the quaject, with this many notes chained and this many left
pub record IsHome (quaject : AnyQuaject) (chained left : ℕ) (home : Home) : Type 0 where
  pub ports : PortsOf quaject (home.small, home.large)
  pub chained_is : home.chained ≡ chained
  pub left_is : home.left ≡ left
  pub notes : home.notes ≡ notes_of quaject
  pub taken : home.taken ≡ counted (all_taken quaject)
  pub put : home.put ≡ counted (all_puts quaject)
  pub held : home.held ≡ length (held_of quaject)

-- The home of a quaject that has kept its law and its sides. It results from the quaject given to the chain by runs of
-- notes alone. Each of its ends is in its place and is one of the queue that it names. The end has raised all that it
-- claimed, and has shut the queue as often as before. As many notes were run as were chained, and none is left
pub record CameHome (pact : Pact Queues AnyQuaject) (first : ℕ) (v : View) (home : Home) : Type 0 where
  pub quaject : AnyQuaject
  pub closed : ClosedNow (makes MadeOf pact) (suits Fits pact) v first home.chained home.chained [] quaject
  pub posts : PostsOf pact.opening.value (map post_at home.small, map post_at home.large)
  pub its : IsHome quaject home.chained home.left home
  pub kept : IsKept quaject
  pub sides : KeepsSides quaject
  pub small : AllFit pact.world.value.small.items home.small
  pub large : AllFit pact.world.value.large.items home.large
  pub raised : AllUp home.small × AllUp home.large
  pub each : home.notes ≡ home.chained % 2 ^ 64
  pub none_left : home.left ≡ 0

-- the home to which these numbers belong
abbrev pub home_in : Came → Home
home_in came = came.home.value

-- the homes to which the numbers in a list belong
abbrev pub homes_in : List Came → List Home
homes_in all = map home_in all

-- these numbers are the numbers of the home
pub record HasHome (came : Came) : Type 0 where
  pub chained : came.chained ≡ (home_in came).chained
  pub left : came.left ≡ (home_in came).left
  pub notes : came.notes ≡ (home_in came).notes
  pub taken : came.taken ≡ (home_in came).taken
  pub put : came.put ≡ (home_in came).put
  pub held : came.held ≡ (home_in came).held
