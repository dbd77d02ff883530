use Rattle.quajects.proofs.Common.{subst, AnyQuaject, MadeOf}
use Rattle.quajects.specs.declared.any.AnyQuaject.TheVariants as any
use Rattle.quajects.proofs.Making.{any_more}
use Rattle.quajects.proofs.any.AnyQuajectQuaject.run.Goals as goal

pub returns-in-Cooked-clause-made : goal.returns-in-Cooked-clause-made
returns-in-Cooked-clause-made c = λ first notes made. any_more first (any.Cooked c.in-Cooked.tty) (any.Cooked c.run.new.self) c.run.result notes c.args.note c.run.ensures.ran
    (subst (λ (x : AnyQuaject). MadeOf first x notes) c.in-Cooked.is made)

pub returns-in-Pump-clause-made : goal.returns-in-Pump-clause-made
returns-in-Pump-clause-made c = λ first notes made. any_more first (any.Pump c.in-Pump.pump) (any.Pump c.run-in-Pump.new.self) c.run-in-Pump.result notes c.args.note c.run-in-Pump.ensures.ran
    (subst (λ (x : AnyQuaject). MadeOf first x notes) c.in-Pump.is made)

pub returns-in-Switch-clause-made : goal.returns-in-Switch-clause-made
returns-in-Switch-clause-made c = λ first notes made. any_more first (any.Switch c.in-Switch.switch) (any.Switch c.run-in-Switch.new.self) c.run-in-Switch.result notes c.args.note c.run-in-Switch.ensures.ran
    (subst (λ (x : AnyQuaject). MadeOf first x notes) c.in-Switch.is made)
