use Rattle.boot_script.proofs.Common.{◌<◌, ◌++◌, ◌∷◌, [], sym, ap, subst, ◌∙◌, arith, count_of, most_of, Three}
use Rattle.boot_script.specs.Counted.{AreCounted}
use Rattle.boot_script.proofs.Drafts.NamesSoFar.{room_in, counted_more, most_three}
use Rattle.boot_script.proofs.declared_names.Names.add.Goals as goal

pub push-requires : goal.push-requires
push-requires c =
    let names = c.self.inside.names.items in
    let below : count_of c.args.kind names < most_of Three c.args.kind =
    omega (arith, c.if-number-most_of.false, c.most_of.ensures, c.count-number.ensures.count, ap (count_of c.args.kind) c.self.view_is, most_three c.args.version c.args.kind) in
    (omega arith, room_in c.args.kind names c.self.invariant below)

pub invariant_of-self : goal.invariant_of-self
invariant_of-self c =
    let names = c.self.inside.names.items in
    let below : count_of c.args.kind names < most_of Three c.args.kind =
    omega (arith, c.if-number-most_of.false, c.most_of.ensures, c.count-number.ensures.count, ap (count_of c.args.kind) c.self.view_is, most_three c.args.version c.args.kind) in
    let counted = c.count-number.ensures.count ∙ ap (count_of c.args.kind) (sym c.self.view_is) in
    let pushed = c.push.ensures.items ∙ ap (λ n. names ++ record { name = c.of-name.result; kind = c.args.kind; number = n } ∷ []) counted in
    subst AreCounted (sym pushed) (counted_more c.args.kind c.of-name.result names c.self.invariant below)
