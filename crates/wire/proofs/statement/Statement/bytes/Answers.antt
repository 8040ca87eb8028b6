use Rattle.std.proofs.Common.{rules}
use Rattle.wire.specs.Format.{statement_bytes}
use Rattle.wire.proofs.Writing.{filled_by, puts_as, puts_then}
use Rattle.wire.proofs.statement.Statement.bytes.Goals as goal

pub returns : goal.returns
unfolding statement_bytes
returns c =
    filled_by (puts_then (puts_as c.mark.ensures c.put.ensures) c.put-2.ensures.wrote) c.over-writer.ensures.start
    (search rules) (search rules)
