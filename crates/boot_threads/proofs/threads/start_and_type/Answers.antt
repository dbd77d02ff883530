use Rattle.boot_threads.proofs.Common.{rules, AllZip-long}
use Rattle.boot_threads.proofs.threads.start_and_type.Goals as goal

pub split_at-requires : goal.split_at-requires
split_at-requires g c =
    let long = AllZip-long _ _ _ c.start_all-handles.ensures in grind rules

pub type_all-typed-requires-clause-devices : goal.type_all-typed-requires-clause-devices
type_all-typed-requires-clause-devices g c =
    let long = AllZip-long _ _ _ c.start_all-handles.ensures in let back = c.split_at.ensures.back_len in grind rules
