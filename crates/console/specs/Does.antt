-- What a call leaves behind, held to an outcome of the rules.
use Rattle.std.specs.Prelude.{◌≡◌, ℕ, true, List, ◌++◌, length, drop, Some, None, Option}
use Rattle.sheets.specs.Sheet.{all_orders}
use Rattle.parts.specs.Fed.{fed}
use Rattle.parts.specs.Meaning.{Keys}
use Rattle.rules.specs.Call.{Call, step}
use Rattle.rules.specs.State.{State}
use Rattle.rules.specs.Step.{Answer, Outcome}
use Rattle.wire.specs.declared.order.Order.{Order}
use Rattle.wire.specs.declared.statement.Statement.{Statement}

-- The seal has 16 bytes and is one that the table accepts under the seals' own number, for what was sealed.
abbrev pub Accepted : Keys → Option Statement → List ℕ → Type 0
Accepted keys None seal = Unit {0}
Accepted keys (Some s) seal = (keys.table keys.own s seal ≡ true) × (length seal ≡ 16)

-- What stands after a call: its answer, the console's state, how many blocks were handed over, the board's state and
-- the output.
pub record After (W : Type 0) : Type 0 where
  pub answer : Answer
  pub state : State
  pub handed : ℕ
  pub world : W
  pub output : List ℕ

-- That is what the outcome says, where the board was in state w and the output held `out`.
pub record Does {W : Type 0} (rule : W → Order → W) (keys : Keys) (o : Outcome) (seal : List ℕ) (w : W) (out : List ℕ) (after : After W) : Type 0 where
  pub sealed : Accepted keys o.sealed seal
  pub answer : after.answer ≡ o.answer
  pub state : after.state ≡ o.state
  pub number : after.handed ≡ length o.handed
  pub board : after.world ≡ fed rule w (all_orders o.handed)
  pub output : after.output ≡ o.written ++ drop (length o.written) out

-- A call at a console in state s: there is a seal, the one that sealing gave, with which the rules give all that stands
-- after it.
abbrev pub Did : {W : Type 0} → (W → Order → W) → Keys → State → Call → W → List ℕ → After W → Type 0
Did rule keys s call w out after = (seal : List ℕ) × Does rule keys (step keys.table seal s call) seal w out after
