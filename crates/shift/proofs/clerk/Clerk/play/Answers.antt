use Rattle.shift.proofs.clerk.Clerk.play.Goals as goal

pub returns : goal.returns
returns c =
    let read = c.in_ok-command.ensures in
    let said = c.in_ok-answered.ensures in
    (c.in-Some.command, (rw c.in-Some.is at read).1, said)
