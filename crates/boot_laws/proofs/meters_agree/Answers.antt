use Rattle.boot_laws.proofs.Meters.{gauges_agree, alarms_agree}
use Rattle.boot_laws.proofs.meters_agree.Goals as goal

pub returns : goal.returns
returns c = record { gauges = λ plan logs done closed w e. gauges_agree plan logs done w closed e; alarms = λ plan logs done closed w e. alarms_agree plan logs done w closed e }
