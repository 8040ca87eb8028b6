-- A call that is made as a value, as the rules and the shift sheets have it.
use Rattle.std.specs.Prelude.{ℕ}
use Rattle.parts.specs.Meaning.{Keys}
use Rattle.rules.specs.Call.{Call, opening, ticking, proposing, passing, hearing}
use Rattle.console.specs.Seen.{owed}
use Rattle.console.specs.declared.request.FullRequest.{FullRequest}
use Rattle.console.specs.declared.request.FullRequest.TheVariants as full
use Rattle.console.specs.declared.request.Request.{Request}
use Rattle.console.specs.declared.request.Request.TheVariants as request

-- over a shelf of so many slots, with so much room for output
abbrev pub call_of : Request → ℕ → ℕ → Call
call_of request.Open slots space = opening slots
call_of (request.Tick t) slots space = ticking t
call_of (request.Propose turn orders) slots space = proposing (owed turn) orders.now space
call_of (request.Pass turn) slots space = passing (owed turn)
call_of (request.Hear bytes) slots space = hearing bytes.now

-- the same of a request that may bring new parts
abbrev pub full_call_of : {S B : Type 0} → FullRequest S B → ℕ → ℕ → Call
full_call_of (full.OpenWith seals board) slots space = opening slots
full_call_of (full.Plain request) slots space = call_of request slots space

-- The seals that are in force from the call on: an opening with seals brings its own.
abbrev pub keys_from : {S B : Type 0} → (S → Keys) → FullRequest S B → S → Keys
keys_from keys (full.OpenWith seals board) held = keys seals
keys_from keys (full.Plain request) held = keys held

-- The state of the board that the call works on: an opening with a board brings its own.
abbrev pub world_from : {S B W : Type 0} → (B → W) → FullRequest S B → B → W
world_from world (full.OpenWith seals board) held = world board
world_from world (full.Plain request) held = world held
