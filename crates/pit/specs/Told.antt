-- The answers of a console in words.
use Rattle.std.specs.Prelude.{ℕ, List, ◌++◌, take, codes, decimal}
use Rattle.text.specs.Hexadecimal.{hex_written}
use Rattle.rules.specs.Refusals.{code}
use Rattle.rules.specs.Step.{Answer, refused, opens, turn, vote, nothing, proposal, passed, new, known}
use Rattle.wire.specs.Format.{vote_bytes}

-- how many blocks were handed over
abbrev pub handed_told : ℕ → List ℕ
handed_told handed = codes "; " ++ (decimal handed ++ codes " handed over")

-- an answer, with the number of blocks handed over and the output, which a proposal stands at the start of
abbrev pub answer_told : Answer → ℕ → List ℕ → List ℕ
answer_told (refused r) handed out = codes "refused " ++ decimal (code r)
answer_told opens handed out = codes "opened"
answer_told (turn o) handed out = codes "turn " ++ (decimal o.view ++ handed_told handed)
answer_told (vote v) handed out = codes "vote " ++ (hex_written (vote_bytes v) ++ handed_told handed)
answer_told nothing handed out = codes "nothing" ++ handed_told handed
answer_told (proposal length) handed out = codes "proposal " ++ (hex_written (take length out) ++ handed_told handed)
answer_told passed handed out = codes "passed"
answer_told new handed out = codes "new" ++ handed_told handed
answer_told known handed out = codes "known" ++ handed_told handed
