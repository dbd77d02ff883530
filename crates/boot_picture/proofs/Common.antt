-- The names from elsewhere that several proofs of this crate cite, passed on from one place. Declares nothing.
pub use Rattle.std.proofs.Common.{Bool, Bor, IfSome, List, None, Option, Result, Some, [], add-one, ap, append-nil, append_assoc, arith, cond, drop, get_or, inl, inr, length, length-append, length-drop, length-set, map, max, refl, replicate, set, subst, suc, sym, take, true≢false, zero, ℕ, ⊎_elim, ◌*◌, ◌++◌, ◌+◌, ◌-◌, ◌<◌, ◌==◌, ◌∙◌, ◌∷◌, ◌≡◌, ◌≢◌, ◌≤◌, ◌⊎◌}
pub use Rattle.std.proofs.Math.Seq.{get_or-append_seam, take-add, take-suc}
pub use Rattle.std.proofs.lemmas.Bool.{cases_Bool, cases_eq, cases_lt, eq-eqb, eqb-true, ne_eqb}
pub use Rattle.std.proofs.lemmas.Grind.{flat_map-append, get_or-set_at}
pub use Rattle.std.proofs.lemmas.List.{get_or-map, get_or-replicate, get_or-set_other, get_or-set_same, get_or_default, length-map, length-take-le, length_push, map-append, map-set, map_push, set-get_or, take_all, take_more}
pub use Rattle.std.proofs.lemmas.List.Elements.{All-nil, All-push, All-set, All-weaker, filter-append}
pub use Rattle.std.proofs.lemmas.Option.{get_or_from_slice_get, slice_get-get_or, slice_get_cases, slice_get_past, slice_get_read, slice_get_within}
pub use Rattle.std.proofs.lemmas.Result.{on_ok_weaker}
pub use Rattle.std.proofs.lemmas.Slice.Zip.{AllZip-long, all_zipped_more}
pub use Rattle.std.specs.List.{All, AllPairs, AllZip, filter, flat_map, slice_get}
pub use Rattle.std.specs.List.Sorted.{IsNonDecreasingBy}
pub use Rattle.boot_log.specs.Kept.{Kept, kept_in}
pub use Rattle.boot_log.specs.declared.entry.Entry.{Entry}
pub use Rattle.svg.specs.declared.shapes.Shape.{Shape}
pub use Rattle.boot_picture.specs.Blocks.{AreBlock, AreBlocksOf, AreInARow, IsBlock, IsIdle, turns_of}
pub use Rattle.boot_picture.specs.Clear.{DrawsAbove, DrawsBelow, DrawsGround, DrawsTexts, IsClear, IsGround}
pub use Rattle.boot_picture.specs.Lanes.{AreBoxesDrawn, IsBoxOf}
pub use Rattle.boot_picture.specs.Orders.{AreInTime, AreUsed, HasAll, HasFirst, IsBeforeLeftOut, IsLeast, IsLeftOut, IsNextIn, IsNotAfter, IsOrderOf, IsTimed, IsTrackOf, IsUsed, blocks_in, end_of, ended, time_of}
pub use Rattle.boot_picture.specs.Places.{ArePlaced, IsAtTime, IsBefore, IsWide, blocks_of, first_end, last_end, place, scale_of}
pub use Rattle.boot_picture.specs.declared.blocks.Block.{Block}
pub use Rattle.boot_picture.specs.declared.columns.Placed.{Placed}
pub use Rattle.boot_picture.specs.declared.columns.Scale.{Scale}
pub use Rattle.boot_picture.specs.declared.order.Ordered.{Ordered}
pub use Rattle.boot_picture.specs.declared.order.Track.{Track}
