-- Terms in which a clause describes the tags and a holder.
use Rattle.std.specs.Prelude.{◌≡◌, ◌+◌, ◌<◌, ℕ, List}
use Rattle.table_theory.specs.Sharing.{given, kept}
use Rattle.table_theory.specs.Times.{times}
use Rattle.claim_queue.specs.Handles as queues
use Rattle.claim_queue.specs.Own.{View}
use Rattle.tags.specs.declared.tags.Holder.{Holder}
use Rattle.tags.specs.declared.tags.Tags.{Tags}
use Rattle.tags.specs.Lending.{all_tags}
use Rattle.tags.specs.Holdings as ends
use Rattle.tags.specs.Holdings.{count_in}

-- the view of the holder: the lists of its end
abbrev pub view_of : {n : ℕ} → Holder n → View
view_of holder = queues.view_of holder.end

-- how many tags there are
abbrev pub count_of : {n : ℕ} → Tags n → ℕ
count_of tags = queues.first_of tags.queue

-- the holder is an end of the queue of these tags
abbrev pub IsHolderOf : {n : ℕ} → Tags n → Holder n → Type 0
IsHolderOf tags holder = queues.IsEndOf tags.queue holder.end × (count_in (view_of holder) ≡ count_of tags)

-- every other holder was joined
abbrev pub IsOnlyHolder : {n : ℕ} → Holder n → Type 0
IsOnlyHolder holder = queues.IsOnlyEnd holder.end

-- the holder can be split
abbrev pub IsDivisible : {n : ℕ} → Holder n → Type 0
IsDivisible holder = queues.IsDivisible holder.end

-- how often the holder holds the tag x
abbrev pub held_by : {n : ℕ} → Holder n → ℕ → ℕ
held_by holder x = ends.held (view_of holder) x

-- the holder holds this tag
abbrev pub Holds : {n : ℕ} → Holder n → ℕ → Type 0
Holds holder tag = 0 < held_by holder tag

-- the holder holds no tag
abbrev pub HoldsNone : {n : ℕ} → Holder n → Type 0
HoldsNone holder = (x : ℕ) → held_by holder x ≡ 0

-- the holder holds the tags that it held before
abbrev pub HoldsSame : {n : ℕ} → Holder n → Holder n → Type 0
HoldsSame old new = ends.HoldsSame (view_of old) (view_of new)

-- the holder holds the tags that it held before, except this one
abbrev pub HoldsLess : {n : ℕ} → ℕ → Holder n → Holder n → Type 0
HoldsLess tag old new = ends.HoldsLess tag (view_of old) (view_of new)

-- the holder holds what both held
abbrev pub HoldsBoth : {n : ℕ} → Holder n → Holder n → Holder n → Type 0
HoldsBoth one other new = (x : ℕ) → held_by new x ≡ held_by one x + held_by other x

-- the holder's share of the tags
abbrev pub share_of : {n : ℕ} → Holder n → ℕ
share_of holder = (view_of holder).member.share

-- the holder has the share that it had
abbrev pub SameShare : {n : ℕ} → Holder n → Holder n → Type 0
SameShare old new = share_of new ≡ share_of old

-- a split leaves the holder a part of its share, and gives the new holder the rest
abbrev pub SharesOut : {n : ℕ} → Holder n → Holder n → Holder n → Type 0
SharesOut old new born = (share_of new ≡ kept (share_of old)) × (share_of born ≡ given (share_of old))

-- the tags that the holder holds, together with the list `left`, are all tags, each once
abbrev pub AllThere : {n : ℕ} → ℕ → Holder n → List ℕ → Type 0
AllThere count holder left = (x : ℕ) → held_by holder x + times x left ≡ times x (all_tags count)
