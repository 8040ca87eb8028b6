use Rattle.safety.proofs.Agreement.{chains_agree, chains_counted}
use Rattle.safety.proofs.chains_of_a_sheet_agree.Goals as goal

pub returns : goal.returns
returns c = record { agree = chains_agree; counted = chains_counted }
