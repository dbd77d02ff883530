-- The tags that an end of their queue holds, by its takings and its puts, as the end itself lists them.
use Rattle.std.specs.Prelude.{◌≡◌, ℕ, ◌-◌, ◌+◌, ◌<◌, ◌≤◌, [], ◌∷◌, List}
use Rattle.table_theory.specs.Listing.{AllRaised}
use Rattle.table_theory.specs.Positioned.{head_of}
use Rattle.table_theory.specs.Protocols.{placed_lines}
use Rattle.table_theory.specs.Times.{items_in, returned, times}
use Rattle.claim_queue.specs.Lines.{PutLine, TookLine}
use Rattle.claim_queue.specs.Own.{View}
use Rattle.claim_queue.specs.Rules.{KeepsTo}
use Rattle.tags.specs.Lending.{Lends}

-- the number of tags, by the first position of the end's queue
abbrev pub count_in : View → ℕ
count_in v = v.first.first

-- the tags that the end took, one after the other
abbrev pub acquired : View → List ℕ
acquired v = items_in (placed_lines v.own.takes)

-- the tags that the end gave back
abbrev pub released : View → List ℕ
released v = returned (count_in v) (placed_lines v.own.runs)

-- how often the end holds the tag x: the number of times it took x, less the number of times it gave x back
abbrev pub held : View → ℕ → ℕ
held v x = times x (acquired v) - times x (released v)

-- the end holds each tag as often as before
abbrev pub HoldsSame : View → View → Type 0
HoldsSame v w = (x : ℕ) → held w x ≡ held v x

-- the end holds this tag once more than before, and each other tag as often
abbrev pub HoldsMore : ℕ → View → View → Type 0
HoldsMore tag v w = (x : ℕ) → held w x ≡ held v x + times x (tag ∷ [])

-- the end holds this tag once less than before, and each other tag as often
abbrev pub HoldsLess : ℕ → View → View → Type 0
HoldsLess tag v w = (x : ℕ) → held w x + times x (tag ∷ []) ≡ held v x

-- the end took this tag, by one taking
pub record TookTag (tag : ℕ) (v w : View) : Type 0 where
  pub line : TookLine (tag ∷ []) v w
  pub more : HoldsMore tag v w

-- the end gave back this tag, by one put
pub record GaveTag (tag : ℕ) (v w : View) : Type 0 where
  pub line : PutLine (tag ∷ []) v w
  pub less : HoldsLess tag v w

-- The end keeps to the protocol, and each number that it took is a tag. It has seen the put of all tags, each of its own
-- puts is raised, and it never shut the queue
pub record IsHolding (v : View) : Type 0 where
  pub keeps : KeepsTo Lends v
  pub known : (x : ℕ) → count_in v ≤ x → times x (acquired v) ≡ 0
  pub begun : count_in v < head_of v.seen.object
  pub raised : AllRaised v.own.runs
  pub never_shut : v.own.shuts ≡ 0
