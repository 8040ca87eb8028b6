-- Only a proposal is written to the output.
use Rattle.std.proofs.Common.{◌≡◌, ℕ, List, [], ◌++◌, length, drop, Some, sym, refl, ap, subst}
use Rattle.parts.specs.Meaning.{Keys}
use Rattle.rules.proofs.Ways.{turn_ways, vote_ways, tick_ways, hear_proposal_ways, hear_vote_ways, hear_ways}
use Rattle.rules.specs.Call.{Call, step}
use Rattle.rules.specs.Hear.{take_up, count_vote, hear}
use Rattle.rules.specs.State.{State, Table}
use Rattle.rules.specs.Step.{Outcome}
use Rattle.rules.specs.Tick.{clocked, take_turn, vote_for, cast_vote, tick}
use Rattle.rules.specs.declared.block.Block.{Block}
use Rattle.wire.specs.declared.message.Proposal.{Proposal}
use Rattle.wire.specs.declared.message.Vote.{Vote}
use Rattle.wire.specs.declared.order.Order.{Order}
use Rattle.console.specs.Does.{After, Did, Does}
use Rattle.console.specs.Lines.{Advances}
use Rattle.console.specs.Requested.{call_of, full_call_of, keys_from, world_from}
use Rattle.console.specs.declared.request.FullRequest.{FullRequest}
use Rattle.console.specs.declared.request.Request.{Request}

abbrev pub Silent : Outcome → Type 0
Silent o = o.written ≡ []

vote_for_silent : (b : Block) (seal : List ℕ) (s : State) → Silent (vote_for b seal s)
unfolding vote_for
vote_for_silent b seal s = refl

take_turn_silent : (s : State) → Silent (take_turn s)
take_turn_silent s = turn_ways s Silent (λ _. refl) (λ _. refl)

cast_vote_silent : (seal : List ℕ) (s : State) → Silent (cast_vote seal s)
cast_vote_silent seal s = vote_ways seal s Silent (λ b _ _. vote_for_silent b seal s) (λ _ _ _. refl) (λ _. refl)

pub tick_silent : (seal : List ℕ) (s : State) (t : ℕ) → Silent (tick seal s t)
tick_silent seal s t =
    tick_ways seal s t Silent (λ _ _. refl) (λ _ _. take_turn_silent (clocked s t)) (λ _ _. cast_vote_silent seal (clocked s t))

take_up_silent : (p : Proposal) (s : State) → Silent (take_up p s)
unfolding take_up
take_up_silent p s = refl

count_vote_silent : (v : Vote) (s : State) → Silent (count_vote v s)
unfolding count_vote
count_vote_silent v s = refl

pub hear_silent : (t : Table) (s : State) (bytes : List ℕ) → Silent (hear t s bytes)
hear_silent t s bytes =
    hear_ways t s bytes Silent (λ _. refl) (λ _ _ _. refl)
    (λ p _ _. hear_proposal_ways t s p Silent (λ _ _. refl) (λ _ _. refl) (λ _ _. take_up_silent p s))
    (λ v _ _. hear_vote_ways t s v Silent (λ _. refl) (λ _ _ _. refl) (λ _ _ _ _. refl) (λ _ _ _ _. count_vote_silent v s))

-- a silent call leaves any output as it was
pub does_beside :
    {W : Type 0} (rule : W → Order → W) (keys : Keys) (o : Outcome) (seal : List ℕ) (w : W) (out : List ℕ) (after : After W) →
    Silent o → Does rule keys o seal w [] after →
    Does rule keys o seal w out
    (record { answer = after.answer; state = after.state; handed = after.handed; world = after.world; output = out })
does_beside rule keys o seal w out after e d =
    record {
      sealed = d.sealed;
      answer = d.answer;
      state = d.state;
      number = d.number;
      board = d.board;
      output = sym (ap (λ (x : List ℕ). x ++ drop (length x) out) e);
    }

-- the same of a call
pub quietly :
    {W : Type 0} {rule : W → Order → W} {keys : Keys} {w : W} {out : List ℕ} {after : After W} (s : State) (call : Call) →
    ((seal : List ℕ) → Silent (step keys.table seal s call)) → Did rule keys s call w [] after →
    Did rule keys s call w out
    (record { answer = after.answer; state = after.state; handed = after.handed; world = after.world; output = out })
quietly s call e d = (d.0, does_beside _ _ _ _ _ _ _ (e d.0) d.1)

-- a call by its step is one by the sheet's line
pub did_advances :
    {W : Type 0} {rule : W → Order → W} {keys : Keys} {w : W} {out : List ℕ} {after : After W} (s : State) (call : Call) →
    Did rule keys s call w out after → Advances rule keys s call w out after
did_advances {keys = keys} s call d pit i e =
    (d.0, step keys.table d.0 s call, ap (λ (t : Table). Some (step t d.0 s call)) e, d.1)

-- a call by the case that the request was found to be
pub entered :
    {W : Type 0} {rule : W → Order → W} {keys : Keys} {w : W} {out : List ℕ} {after : After W} {q p : Request}
    (s : State) (slots space : ℕ) → q ≡ p →
    Did rule keys s (call_of p slots space) w out after → Advances rule keys s (call_of q slots space) w out after
entered {rule = rule} {keys = keys} {w = w} {out = out} {after = after} {p = p} s slots space e d =
    subst (λ (x : Request). Advances rule keys s (call_of x slots space) w out after) (sym e) (did_advances s (call_of p slots space) d)

-- a request by the case that it was found to be
pub entered_as :
    {S B W : Type 0} (rule : W → Order → W) (keys : S → Keys) (world : B → W) (seals : S) (board : B) (s : State) (slots space : ℕ) (out : List ℕ) (after : After W) (q p : FullRequest S B) →
    q ≡ p →
    Advances rule (keys_from keys p seals) s (full_call_of p slots space) (world_from world p board) out after →
    Advances rule (keys_from keys q seals) s (full_call_of q slots space) (world_from world q board) out after
entered_as {S} {B} rule keys world seals board s slots space out after q p e a =
    subst (λ (x : FullRequest S B). Advances rule (keys_from keys x seals) s (full_call_of x slots space) (world_from world x board) out after) (sym e) a
