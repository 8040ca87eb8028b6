use Rattle.std.proofs.Common.{◌≡◌, List, length, sym, refl, ap, arith}
use Rattle.std.proofs.lemmas.List.{with_items_is}
use Rattle.parts.specs.Image.{marks_in}
use Rattle.rules.specs.Blocks.{Slot}
use Rattle.rules.specs.State.{opened}
use Rattle.host.specs.Kinds.{keys_of, world_of}
use Rattle.console.specs.Lines.{Opens}
use Rattle.console.specs.Seen.{seat_of, seen}
use Rattle.pit.proofs.Lending.{opened_over, zeros_read}
use Rattle.pit.proofs.seat.Seat.open.Goals as goal

pub returns : goal.returns
returns c =
    let console = c.open-console.result in
    let permit = c.args.permit in
    let back = sym (with_items_is c.args.shelf c.open-console.new.shelf (omega arith)) in
    let long = ap (λ (xs : List Slot). length xs) c.as_mut_slice.ensures.value in
    let kept = zeros_read c.new_store.result.bytes c.new_store.ensures in
    record {
      state =
          opened_over (λ us slots marks. seen (λ image. marks_in image.bytes) console us ≡ opened (seat_of permit slots) marks) back long kept
          c.open-console.ensures.state;
      line =
          opened_over (λ us slots marks. Opens (seat_of permit slots) marks (seen (λ image. marks_in image.bytes) console us)) back long kept
          c.open-console.ensures.line;
      keys = ap keys_of c.open-console.ensures.seals;
      world = ap world_of c.open-console.ensures.board;
      turn = refl;
    }
