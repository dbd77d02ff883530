use Rattle.std.proofs.Common.{◌≡◌, Some, slice_get, refl}
use Rattle.event_theory.proofs.Lists.Placed.{all_at}
use Rattle.boot_data.specs.Hearing.{NamedLine, IsPlace}
use Rattle.boot_data.proofs.Placed.{place_at, number_there, shown_at, bytes_there}
use Rattle.boot_data.proofs.heard.HeardReport.bytes.Goals as goal

pub bytes-requires : goal.bytes-requires
bytes-requires c =
    let place = c.index-place.result.now in
    let here : slice_get c.self.inside.places.items c.args.number ≡ Some place = place_at _ _ _ _ _ _ c.self.view_is c.requires c.index-place.ensures in
    let is : IsPlace c.self.inside.processors.items place = all_at _ _ _ _ c.self.invariant here in
    number_there c.self.inside.processors.items place _ _ is refl c.index.ensures

pub returns : goal.returns
returns c =
    let place = c.index-place.result.now in
    let here : slice_get c.self.inside.places.items c.args.number ≡ Some place = place_at _ _ _ _ _ _ c.self.view_is c.requires c.index-place.ensures in
    let is : IsPlace c.self.inside.processors.items place = all_at _ _ _ _ c.self.invariant here in
    shown_at _ _ _ _ _ _ (λ (line : NamedLine). c.bytes.result.now ≡ line.bytes) c.self.view_is here (bytes_there c.self.inside.processors.items place _ _ _ is refl c.index.ensures c.bytes.ensures)
