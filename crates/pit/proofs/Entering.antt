-- A request that was entered and told.
use Rattle.std.proofs.Common.{◌≡◌, ℕ, List, ◌++◌, length, IfOk, vec_items, Result, refl, ◌∙◌}
use Rattle.std.proofs.lemmas.Result.{IfOk-weaker}
use Rattle.parts.specs.Image.{marks_in}
use Rattle.host.specs.Kinds.{either_rule, keys_of, world_of}
use Rattle.host.specs.declared.board.EitherBoard.{EitherBoard}
use Rattle.host.specs.declared.seals.EitherSeals.{EitherSeals}
use Rattle.console.specs.Answered.{reply_answer, reply_handed}
use Rattle.console.specs.Lines.{Advances}
use Rattle.console.specs.Requested.{full_call_of, keys_from, world_from}
use Rattle.console.specs.Seen.{seen}
use Rattle.console.specs.declared.answers.Reply.{Reply}
use Rattle.console.specs.declared.request.FullRequest.{FullRequest}
use Rattle.pit.specs.Seats.{Plays, seat_keys, seat_world, state_of}
use Rattle.pit.specs.Told.{answer_told}
use Rattle.pit.specs.declared.seat.Seat.{Seat}

-- the console and its shelf are as the call left them, whatever became of the turn
as_left :
    (before mid after : Seat) (request : FullRequest EitherSeals EitherBoard) (out left : List ℕ) (reply : Reply) (text longer : List ℕ) →
    Advances either_rule (keys_from keys_of request before.console.seals) (state_of before)
    (full_call_of request (length (vec_items before.shelf)) (length out)) (world_from world_of request before.console.board) out
    (record {
      answer = reply_answer reply;
      state = state_of mid;
      handed = reply_handed reply;
      world = seat_world mid;
      output = left;
    }) →
    seat_keys mid ≡ keys_from keys_of request before.console.seals →
    after.console ≡ mid.console → after.shelf ≡ mid.shelf →
    longer ≡ text ++ answer_told (reply_answer reply) (reply_handed reply) left →
    Plays before request out after text longer
as_left before mid after request out left reply text longer advances keys console shelf e = (
  answer_told (reply_answer reply) (reply_handed reply) left,
  record {
    account =
        record {
          answer = reply_answer reply;
          state = state_of mid;
          handed = reply_handed reply;
          world = seat_world mid;
          output = left;
        };
    advances = advances;
    state = λ i. seen (λ image. marks_in image.bytes) (console i) (vec_items (shelf i));
    board = λ i. world_of (console i).board;
    keys = (λ i. keys_of (console i).seals) ∙ keys;
    told = refl;
  },
  e,
)

pub played :
    {X Y : Type 0} (r : Result X Y) (before mid after : Seat) (request : FullRequest EitherSeals EitherBoard) (out left : List ℕ) (reply : Reply) (text longer : List ℕ) →
    Advances either_rule (keys_from keys_of request before.console.seals) (state_of before)
    (full_call_of request (length (vec_items before.shelf)) (length out)) (world_from world_of request before.console.board) out
    (record {
      answer = reply_answer reply;
      state = state_of mid;
      handed = reply_handed reply;
      world = seat_world mid;
      output = left;
    }) →
    seat_keys mid ≡ keys_from keys_of request before.console.seals →
    after.console ≡ mid.console → after.shelf ≡ mid.shelf →
    IfOk r (λ _. longer ≡ text ++ answer_told (reply_answer reply) (reply_handed reply) left) →
    IfOk r (λ _. Plays before request out after text longer)
played r before mid after request out left reply text longer advances keys console shelf told =
    IfOk-weaker r (λ _. longer ≡ text ++ answer_told (reply_answer reply) (reply_handed reply) left) (λ _. Plays before request out after text longer)
    (λ _ e. as_left before mid after request out left reply text longer advances keys console shelf e) told
