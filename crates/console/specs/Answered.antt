-- What a call answers, in the words of the rules.
use Rattle.std.specs.Prelude.{ℕ, Ok, Err, Result}
use Rattle.rules.specs.Step.{Answer, refused, opens, turn, vote, nothing, proposal, passed, new, known}
use Rattle.rules.specs.declared.refusal.Refusal.{Refusal}
use Rattle.console.specs.Seen.{owed}
use Rattle.console.specs.declared.answers.Heard.{Heard}
use Rattle.console.specs.declared.answers.Heard.TheVariants as heard
use Rattle.console.specs.declared.answers.Proposed.{Proposed}
use Rattle.console.specs.declared.answers.Reply.{Reply}
use Rattle.console.specs.declared.answers.Reply.TheVariants as reply
use Rattle.console.specs.declared.answers.Ticked.{Ticked}
use Rattle.console.specs.declared.answers.Ticked.TheVariants as ticked

abbrev pub ticked_answer : Ticked → Answer
ticked_answer (ticked.Turn t) = turn (owed t)
ticked_answer (ticked.Vote v handed) = vote v.vote
ticked_answer ticked.Nothing = nothing

-- how many blocks were handed over
abbrev pub ticked_handed : Ticked → ℕ
ticked_handed (ticked.Turn t) = 0
ticked_handed (ticked.Vote v handed) = handed
ticked_handed ticked.Nothing = 0

abbrev pub proposed_answer : Proposed → Answer
proposed_answer p = proposal p.length

abbrev pub proposed_handed : Proposed → ℕ
proposed_handed p = p.handed

abbrev pub heard_answer : Heard → Answer
heard_answer (heard.New handed) = new
heard_answer heard.Known = known

abbrev pub heard_handed : Heard → ℕ
heard_handed (heard.New handed) = handed
heard_handed heard.Known = 0

-- a call that may be refused
abbrev pub answered : {A : Type 0} → (A → Answer) → Result A Refusal → Answer
answered f (Ok a) = f a
answered f (Err e) = refused e

abbrev pub handed_over : {A : Type 0} → (A → ℕ) → Result A Refusal → ℕ
handed_over f (Ok a) = f a
handed_over f (Err e) = 0

abbrev pub reply_answer : Reply → Answer
reply_answer reply.Opened = opens
reply_answer (reply.Ticked r) = answered ticked_answer r
reply_answer (reply.Proposed r) = answered proposed_answer r
reply_answer reply.Passed = passed
reply_answer (reply.Heard r) = answered heard_answer r

abbrev pub reply_handed : Reply → ℕ
reply_handed reply.Opened = 0
reply_handed (reply.Ticked r) = handed_over ticked_handed r
reply_handed (reply.Proposed r) = handed_over proposed_handed r
reply_handed reply.Passed = 0
reply_handed (reply.Heard r) = handed_over heard_handed r
