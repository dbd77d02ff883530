-- The way that a line goes.
use Rattle.std.specs.Prelude.{◌≡◌, ◌≢◌, ℕ, ◌==◌, ◌&&◌, not, Bool, true, false, List, [], ◌∷◌, ◌++◌, Option, Some, None}
use Rattle.std.specs.Prelude.{map, slice_index, slice_set}
use Rattle.std.specs.List.{slice_get, filter}
use Rattle.claim_queue.specs.Plain.{ClaimQueue}
use Rattle.claim_queue.specs.declared.ends.QueueEnd.{QueueEnd}
use Rattle.claim_queue.specs.Handles.{view_of}
use Rattle.claim_queue.specs.Lines.{lines_put, lines_taken}
use Rattle.quajects.specs.declared.ports.Outlet.{Outlet}
use Rattle.quajects.specs.declared.ports.Port.{Port}
use Rattle.quajects.specs.declared.ways.Way.{Way}
use Rattle.quajects.specs.Lines.{held_line}
use Rattle.quajects.specs.Ports.{Post, IsEndAt, IsUnused, port, post_of}
use Rattle.quajects.specs.Tries.{TriedPut}

-- the line begins with the key
abbrev pub begins : ℕ → List ℕ → Bool
begins key line = slice_index line 0 == key

-- the line begins with none of these keys
abbrev pub begins_none : List (Option ℕ) → List ℕ → Bool
begins_none [] line = true
begins_none (None ∷ keys) line = begins_none keys line
begins_none (Some key ∷ keys) line = not (begins key line) && begins_none keys line

-- no two keys are the same
abbrev pub KeysDiffer : List (Option ℕ) → Type 0
KeysDiffer keys = (i j key : ℕ) → slice_get keys i ≡ Some (Some key) → slice_get keys j ≡ Some (Some key) → i ≡ j

-- the key of a way
abbrev pub key_of : Option Way → Option ℕ
key_of None = None
key_of (Some way) = Some way.key

-- the index of a way's queue
abbrev pub index_of : Option Way → Option ℕ
index_of None = None
index_of (Some way) = Some way.outlet.index

-- the end at which a way puts lines
abbrev pub end_of : Option Way → Option (QueueEnd 64)
end_of None = None
end_of (Some way) = Some way.outlet.end

-- the end of a way with the index of its queue
abbrev pub port_of : Option Way → Option (Port 64)
port_of None = None
port_of (Some way) = Some (port way.outlet.index way.outlet.end)

-- the parts of a way's end that no note changes
abbrev pub way_post : Option Way → Option Post
way_post None = None
way_post (Some way) = Some (post_of way.outlet.index way.outlet.end)

-- the lines put at a way
abbrev pub puts_of : Option Way → List (List ℕ)
puts_of None = []
puts_of (Some way) = lines_put (view_of way.outlet.end)

-- nothing was taken at a way's end
abbrev pub TookNothing : Option Way → Type 0
TookNothing None = Unit {0}
TookNothing (Some way) = lines_taken (view_of way.outlet.end) ≡ []

-- a way as it is given: its key, and its queue with an end of it
abbrev pub Given : Type 0
Given = Option (ℕ × ℕ × QueueEnd 64)

abbrev pub given_key : Given → Option ℕ
given_key None = None
given_key (Some given) = Some given.0

abbrev pub given_index : Given → Option ℕ
given_index None = None
given_index (Some given) = Some given.1

abbrev pub given_end : Given → Option (QueueEnd 64)
given_end None = None
given_end (Some given) = Some given.2

-- the end that is given has claimed nothing and taken nothing
abbrev pub IsGivenUnused : Given → Type 0
IsGivenUnused None = Unit {0}
IsGivenUnused (Some given) = IsUnused (view_of given.2)

-- the end that is given is one of the queue with the index that is given
abbrev pub IsGivenFit : List (ClaimQueue 64) → Given → Type 0
IsGivenFit queues None = Unit {0}
IsGivenFit queues (Some given) = IsEndAt queues given.1 given.2

-- the way is the one given, and nothing was put there
pub record IsGiven (given : Given) (way : Option Way) : Type 0 where
  pub key : key_of way ≡ given_key given
  pub index : index_of way ≡ given_index given
  pub end : end_of way ≡ given_end given
  pub none : puts_of way ≡ []

-- the chosen lines of those taken are the lines put here, followed by the held line if it is chosen
abbrev pub Routed : (List ℕ → Bool) → List (List ℕ) → List ℕ → List (List ℕ) → Type 0
Routed chosen taken held puts = filter chosen taken ≡ puts ++ filter chosen (held_line held)

-- the lines that begin with a way's key go to that way
abbrev pub RoutesEach : List (Option Way) → List (List ℕ) → List ℕ → Type 0
RoutesEach ways taken held = (i : ℕ) (way : Way) → slice_get ways i ≡ Some (Some way)
    → Routed (begins way.key) taken held (lines_put (view_of way.outlet.end))

-- the lines that begin with no key go to the other target
abbrev pub RoutesRest : List (Option Way) → List (List ℕ) → List ℕ → List (List ℕ) → Type 0
RoutesRest ways taken held puts = Routed (begins_none (map key_of ways)) taken held puts

-- each way's end is one of the queue that the way names
abbrev pub WaysFit : List (ClaimQueue 64) → List (Option Way) → Type 0
WaysFit queues ways = (i : ℕ) (way : Way) → slice_get ways i ≡ Some (Some way)
    → IsEndAt queues way.outlet.index way.outlet.end

-- no way has the item as its key
abbrev pub IsNoKey : List (Option Way) → ℕ → Type 0
IsNoKey ways item = (i : ℕ) (way : Way) → slice_get ways i ≡ Some (Some way) → item ≡ way.key → ⊥

-- there was one try to put the line at the way whose key is its first item, and the other ways are unchanged
pub record TriedWay (old : List (Option Way)) (line : List ℕ) (put : Bool) (new : List (Option Way)) : Type 0 where
  pub number : ℕ
  pub way : Way
  pub was : slice_get old number ≡ Some (Some way)
  pub key : slice_index line 0 ≡ way.key
  pub outlet : Outlet 64
  pub now : new ≡ slice_set old number (Some (record { key = way.key; outlet = outlet }))
  pub same : post_of outlet.index outlet.end ≡ post_of way.outlet.index way.outlet.end
  pub tried : TriedPut 64 (view_of way.outlet.end) put line (view_of outlet.end)

-- If a line was held, there was one try to put it at the target that its first item chooses, and at no other. The line
-- stays held if the try was refused. If nothing was held, no target was tried
pub record Switched (ways : List (Option Way)) (other : Outlet 64) (line : List ℕ) (put : Bool) (held : List ℕ)
    (new_ways : List (Option Way)) (new_other : Outlet 64) : Type 0 where
  pub none : line ≡ [] → (put ≡ false) × (new_ways ≡ ways) × (new_other ≡ other)
  pub else : line ≢ [] → IsNoKey ways (slice_index line 0) → (new_ways ≡ ways)
      × TriedPut 64 (view_of other.end) put line (view_of new_other.end)
  pub way : line ≢ [] → (IsNoKey ways (slice_index line 0) → ⊥) → (new_other ≡ other)
      × TriedWay ways line put new_ways
  pub done : put ≡ true → held ≡ []
  pub kept : put ≡ false → held ≡ line
