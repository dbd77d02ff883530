-- Lists that begin with other lists.
use Rattle.std.specs.Prelude.{◌≡◌, if◌then◌else◌, List, ◌++◌, length, nat_lt}

-- `later` begins with `list`
abbrev pub Begins : {E : Type 0} → List E → List E → Type 0
Begins {E} list later = (rest : List E) × (list ++ rest ≡ later)

-- the longer of two lists, or the first if they are equally long
abbrev pub later_of : {E : Type 0} → List E → List E → List E
later_of one other = if nat_lt (length one) (length other) then other else one
