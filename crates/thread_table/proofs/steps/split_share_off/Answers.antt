use Rattle.thread_table.proofs.Common.{rules, ◌≡◌, ◌<◌, true, None, is_in, serves, running, PROCESSORS, ℕ, List, Bool, sym, subst, ∥∥₁_map, Splits, View, Rule, HasStood, rest_without, newborn_with}
use Rattle.table_theory.specs.Sharing.{IsPortion}
use Rattle.thread_table.specs.Sets.{marks}
use Rattle.thread_table.proofs.Lists.BitSets.{length-marks, marked}
use Rattle.thread_table.proofs.Hands.SplitSteps.{CanPart, splits, rest_stands, born_stands}
use Rattle.thread_table.proofs.steps.split_share_off.Goals as goal

-- the marked processors are among those that the mask may have
parts : (number : ℕ) (v : View) → ((p : ℕ) → p < PROCESSORS → is_in number p ≡ true → (serves v p ≡ true) × (running v p ≡ None)) → CanPart (marks 8 number) v
parts number v can = λ p is. let m = marked 8 number p is in can p m.0 m.1

pub split_seat-requires : goal.split_seat-requires
split_seat-requires g c = (
  search rules,
  search rules,
  subst (λ (m : List Bool). Splits (Rule c.args.words.now.key) c.args.seat.now.id c.args.seat.now.me.0 (rest_without g.J.MaskedPortion.parts m c.args.seat.now.me.0) (newborn_with g.J.MaskedPortion.parts m c.args.seat.now.me.0)) (sym c.requires.mask.0)
      (splits c.args.words.now.key c.args.seat.now.id c.args.seat.now.me.0 g.J.MaskedPortion.parts (marks 8 c.args.processors) (λ h. subst (λ (p : ℕ). IsPortion p c.args.seat.now.me.0.member.share) (sym c.requires.portion.0) c.requires.portion.1)
      c.requires.live (length-marks 8 c.args.processors) (parts c.args.processors c.args.seat.now.me.0 c.requires.mask.1)),
)

pub returns-clause-stands : goal.returns-clause-stands
returns-clause-stands g c = let v : View = c.args.seat.now.me.0 in let m : List Bool = marks 8 c.args.processors in
    let left : c.split_seat.new.seat.me.0 ≡ rest_without c.args.share m v = search rules in let right : c.split_seat.result.me.0 ≡ newborn_with c.args.share m v = search rules in let id : c.split_seat.new.seat.id ≡ c.args.seat.now.id = search rules in (
      ∥∥₁_map c.requires.stands (λ h. subst (λ (n : ℕ). HasStood n c.split_seat.new.seat.me.0) (sym id) (subst (HasStood c.args.seat.now.id) (sym left) (rest_stands c.args.seat.now.id v c.args.share m (parts c.args.processors c.args.seat.now.me.0 c.requires.mask.1) h))),
      ∣ subst (HasStood c.split_seat.result.id) (sym right) (born_stands c.split_seat.result.id v c.args.share m) ∣₁,
    )
