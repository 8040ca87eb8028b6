-- A console with all that it is lent.
use Rattle.std.specs.Prelude.{◌≡◌, ℕ, List, ◌++◌, length, Some, Ok, Err, vec_items, Option}
use Rattle.parts.specs.Image.{marks_in}
use Rattle.parts.specs.Meaning.{Keys}
use Rattle.rules.specs.State.{State}
use Rattle.host.specs.Kinds.{World, either_rule, keys_of, world_of}
use Rattle.host.specs.declared.board.EitherBoard.{EitherBoard}
use Rattle.host.specs.declared.seals.EitherSeals.{EitherSeals}
use Rattle.console.specs.Does.{After}
use Rattle.console.specs.Lines.{Advances}
use Rattle.console.specs.Requested.{full_call_of, keys_from, world_from}
use Rattle.console.specs.Seen.{seen}
use Rattle.console.specs.declared.answers.Reply.{Reply}
use Rattle.console.specs.declared.answers.Reply.TheVariants as reply
use Rattle.console.specs.declared.answers.Ticked.TheVariants as ticked
use Rattle.console.specs.declared.request.FullRequest.{FullRequest}
use Rattle.console.specs.declared.turn.Turn.{Turn}
use Rattle.pit.specs.Told.{answer_told}
use Rattle.pit.specs.declared.seat.Seat.{Seat}

-- the console's state over its own shelf
abbrev pub state_of : Seat → State
state_of s = seen (λ image. marks_in image.bytes) s.console (vec_items s.shelf)

abbrev pub seat_keys : Seat → Keys
seat_keys s = keys_of s.console.seals

abbrev pub seat_world : Seat → World
seat_world s = world_of s.console.board

-- The turn that is held after an answer: a turn in it takes the place of an older one.
abbrev pub turn_kept : Reply → Option Turn → Option Turn
turn_kept reply.Opened held = held
turn_kept (reply.Ticked (Ok (ticked.Turn turn))) held = Some turn
turn_kept (reply.Ticked (Ok (ticked.Vote v handed))) held = held
turn_kept (reply.Ticked (Ok ticked.Nothing)) held = held
turn_kept (reply.Ticked (Err e)) held = held
turn_kept (reply.Proposed r) held = held
turn_kept reply.Passed held = held
turn_kept (reply.Heard r) held = held

-- The request was entered at the seat as one line of a sheet, with this output: there is an account of what stands after it, which the sheet's
-- own advance gives; it is what the seat is left with, and the words tell its answer.
pub record Entered (before : Seat) (request : FullRequest EitherSeals EitherBoard) (out : List ℕ) (after : Seat) (words : List ℕ) : Type 0 where
  pub account : After World
  pub advances :
      Advances either_rule (keys_from keys_of request before.console.seals) (state_of before)
      (full_call_of request (length (vec_items before.shelf)) (length out))
      (world_from world_of request before.console.board) out account
  pub state : state_of after ≡ account.state
  pub board : seat_world after ≡ account.world
  pub keys : seat_keys after ≡ keys_from keys_of request before.console.seals
  pub told : words ≡ answer_told account.answer account.handed account.output

-- A text that grew by the words of a request that was entered.
abbrev pub Plays : Seat → FullRequest EitherSeals EitherBoard → List ℕ → Seat → List ℕ → List ℕ → Type 0
Plays before request out after text longer =
    (words : List ℕ) × Entered before request out after words × (longer ≡ text ++ words)
