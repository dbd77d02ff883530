use Rattle.std.proofs.Common.{◌≡◌, [], Some, slice_get, get_or, arith}
use Rattle.boot_data.specs.Hearing.{NamedLine}
use Rattle.boot_data.proofs.Placed.{place_at, shown_at}
use Rattle.boot_data.proofs.heard.HeardReport.thread.Goals as goal

pub returns-in-Some : goal.returns-in-Some
returns-in-Some c =
    let here : slice_get c.self.inside.places.items c.args.number ≡ Some c.index-place.result.now = place_at _ _ _ _ _ _ c.self.view_is c.requires c.index-place.ensures in
    let read : c.in-Some.name.now ≡ get_or c.deref.result.now c.from.result [] = c.in-Some.ensures.lookup.4 (omega arith) [] in
    shown_at _ _ _ _ _ _ (λ (line : NamedLine). c.as_slice.result.now ≡ line.thread) c.self.view_is here (cc (c.as_slice.ensures.bytes, read, c.deref.ensures.value, c.from.ensures))

pub returns-in-None : goal.returns-in-None
returns-in-None c =
    let here : slice_get c.self.inside.places.items c.args.number ≡ Some c.index-place.result.now = place_at _ _ _ _ _ _ c.self.view_is c.requires c.index-place.ensures in
    let read : [] ≡ get_or c.deref.result.now c.from.result [] = c.in-None.ensures.lookup.4 (omega arith) [] in
    shown_at _ _ _ _ _ _ (λ (line : NamedLine). [] ≡ line.thread) c.self.view_is here (cc (read, c.deref.ensures.value, c.from.ensures))
