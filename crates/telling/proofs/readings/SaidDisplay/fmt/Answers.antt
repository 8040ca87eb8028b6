use Rattle.telling.proofs.Reporting.{message_read, refusal_read}
use Rattle.telling.proofs.readings.SaidDisplay.fmt.Goals as goal

pub returns-in-Ok-clause-writes : goal.returns-in-Ok-clause-writes
returns-in-Ok-clause-writes g c plain ok =
    let was = c.in-Ok.ensures in
    rw (message_read c.args.self.now.n c.args.self.now.datagram.now c.in-Ok.reading was.message was.parts) (c.write.ensures.writes plain ok)

pub returns-in-Err-clause-writes : goal.returns-in-Err-clause-writes
returns-in-Err-clause-writes g c plain ok =
    let was = c.in-Err.ensures in
    rw (refusal_read c.args.self.now.n c.args.self.now.datagram.now c.in-Err.refusal was.message) (c.write-in-Err.ensures.writes plain ok)
