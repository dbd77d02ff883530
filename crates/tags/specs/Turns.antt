-- Results of a driver.
use Rattle.std.specs.Prelude.{ℕ}
use Rattle.tags.specs.declared.tags.Holder.{Holder}
use Rattle.tags.specs.declared.tags.Tags.{Tags}
use Rattle.tags.specs.Handles.{IsHolderOf, HoldsSame, SameShare}

-- the driver gave back a holder of the tags, which holds the tags that it held before and has the share that it had
abbrev pub Works : {n : ℕ} → Tags n → Holder n → Holder n → Type 0
Works tags holder back = IsHolderOf tags back × HoldsSame holder back × SameShare holder back
