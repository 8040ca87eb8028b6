use Rattle.std.proofs.Common.{◌<◌, decimal, rules}
use Rattle.telling.proofs.Growing.{no_consoles, some_consoles}
use Rattle.telling.proofs.readings.SignerListDisplay.fmt.Goals as goal

pub returns-then-set-eq0-clause-writes : goal.returns-then-set-eq0-clause-writes
returns-then-set-eq0-clause-writes g c plain ok = rw (c.if-set-eq0.true, no_consoles) (c.write_str.ensures.writes plain ok)

pub returns-else-set-eq0-clause-writes : goal.returns-else-set-eq0-clause-writes
returns-else-set-eq0-clause-writes g c plain ok =
    let set = c.args.self.now.0.now.set in
    let fits : set < 65536 = search rules in
    let some = some_consoles set decimal fits c.if-set-eq0.false in
    rw some (c.write_each_signer.ensures plain ok)
