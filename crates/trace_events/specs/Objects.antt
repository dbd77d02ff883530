-- JSON objects, by the list of their members.
use Rattle.std.specs.Prelude.{◌≡◌, ℕ, List, [], ◌∷◌, ◌++◌, Bool, Result, OnOk}
use Rattle.std.specs.Fmt.{decimal}
use Rattle.std.specs.List.{AllByRecursion, flat_map}
use Rattle.json.specs.Token.{Token, key}
use Rattle.json.specs.Json.{Json, number, string, boolean, object, Members, no_members, member, Items, no_items, item}
use Rattle.json.specs.Print.{IsPrintable}
use Rattle.json.specs.Tree.{json_tokens}
use Rattle.json.specs.Written.{Written}
use Rattle.event_theory.specs.declared.refusal.OutOfMemory.{OutOfMemory}
use Rattle.trace_events.specs.Micros.{micros}

-- a member of an object: its key, and its value
pub record Named : Type 0 where
  pub name : List ℕ
  pub value : Json

-- a member that is a number
abbrev pub numbered : List ℕ → ℕ → Named
numbered name n = record { name = name; value = number (decimal n) }

-- a member that is a time: nanoseconds as microseconds with three decimals
abbrev pub timed : List ℕ → ℕ → Named
timed name n = record { name = name; value = number (micros n) }

-- a member that is a text
abbrev pub worded : List ℕ → List ℕ → Named
worded name text = record { name = name; value = string text }

-- a member that is true or false
abbrev pub flagged : List ℕ → Bool → Named
flagged name b = record { name = name; value = boolean b }

-- the members of a list, in their order
abbrev pub members_of : List Named → Members
members_of [] = no_members
members_of (m ∷ ms) = member m.name m.value (members_of ms)

-- the object of these members
abbrev pub object_of : List Named → Json
object_of ms = object (members_of ms)

-- a member that is an object
abbrev pub nested : List ℕ → List Named → Named
nested name ms = record { name = name; value = object_of ms }

-- the tokens of a member
abbrev pub member_tokens : Named → List Token
member_tokens m = key m.name ∷ json_tokens m.value

-- the tokens of members, one after the other
abbrev pub list_tokens : List Named → List Token
list_tokens ms = flat_map member_tokens ms

-- the values of a list, in their order
abbrev pub items_of : List Json → Items
items_of [] = no_items
items_of (j ∷ js) = item j (items_of js)

-- these tokens were appended, after all that came before, and each of them can be read back
pub record Grown (old new : Written) (more : List Token) : Type 0 where
  pub before : new.before ≡ old.before
  pub tokens : new.tokens ≡ old.tokens ++ more
  pub printable : AllByRecursion IsPrintable more

-- the call appended these tokens, if it returned Ok
abbrev pub Writes : Result (Unit {0}) OutOfMemory → Written → Written → List Token → Type 0
Writes result old new more = OnOk result (Grown old new more)

-- the call appended these members, if it returned Ok
abbrev pub Puts : Result (Unit {0}) OutOfMemory → Written → Written → List Named → Type 0
Puts result old new ms = Writes result old new (list_tokens ms)

-- these tokens are all that was written, and each of them can be read back
pub record IsAlone (out : Written) (all : List Token) : Type 0 where
  pub before : out.before ≡ []
  pub tokens : out.tokens ≡ all
  pub printable : AllByRecursion IsPrintable all
