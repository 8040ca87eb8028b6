-- A short shift in a pit of four consoles, of which console 3 is faulty. Two views go well. In view 3 the faulty console
-- leads, and shows one block to consoles 0 and 2 and another one to console 1. Then two more views go well.
use Rattle.std.specs.Prelude.{ℕ, ◌+◌, ◌*◌, cond, List, [], ◌∷◌, ◌++◌, map, nat_lt}
use Rattle.std.specs.List.{range_with_len}
use Rattle.parts.specs.Stamp.{stamp, stamp_table}
use Rattle.wire.specs.Bytes.{be}
use Rattle.wire.specs.Format.{no_seal, orders_of, origin, origin_certificate, pack, proposal_bytes, signed, vote_bytes}
use Rattle.wire.specs.declared.body.Body.{Body}
use Rattle.wire.specs.declared.certificate.Certificate.{Certificate}
use Rattle.wire.specs.declared.key.Key.{Key}
use Rattle.wire.specs.declared.order.Order.TheVariants.{Send, Release, Load}
use Rattle.rules.specs.Call.{opening, ticking, proposing, hearing}
use Rattle.rules.specs.Hear.{proposes, votes_for}
use Rattle.rules.specs.Pit.{longest_proposal}
use Rattle.sheets.specs.Sheet.{Pit, Line, Sheet}

-- Nobody forges a seal on this sheet, so that the open stamp will do.
abbrev pub pit : Pit
pit = record { n = 4; sound = λ i. nat_lt i 3; table = λ i. stamp_table }

-- A block of the shift: its body, and that body's digest written out.
pub record Item : Type 0 where
  pub body : Body
  pub name : List ℕ

abbrev pub key : Item → Key
key x = record { view = x.body.view; name = x.name }

unfoldable pub first : Item
first =
    record {
      body = record { view = 1; parent = origin; orders = pack (Send 7 12 ∷ []) };
      name = be 32 0x44bd6f5d7a4b1396e0128e36c511e1ec785b050e6efbaaa65c1cb3943e4cbf2b;
    }

unfoldable pub second : Item
second =
    record {
      body = record { view = 2; parent = key first; orders = pack (Load 7 12 905 ∷ []) };
      name = be 32 0x614594cfdee31ffa2438b728df67e97dd2cc9829baaa0358cd90ea3d59fd1de8;
    }

unfoldable pub third : Item
third =
    record {
      body = record { view = 3; parent = key second; orders = pack (Send 7 20 ∷ []) };
      name = be 32 0x92804fd22f4332860ffb39d32d43b19d2193c90a55542dce1061a286608498d1;
    }

unfoldable pub rival : Item
rival =
    record {
      body = record { view = 3; parent = key second; orders = pack (Send 7 21 ∷ []) };
      name = be 32 0x7337e1c237c65a2a91f37d765219512a3a672e7fd35bdc8ecbc957965ab24968;
    }

unfoldable pub fourth : Item
fourth =
    record {
      body = record { view = 4; parent = key third; orders = pack (Release 7 ∷ []) };
      name = be 32 0x59b87547245d064e064f4c87c2e9fda28d1062ac256e5a4c868e9ed4bb312e83;
    }

unfoldable pub fifth : Item
fifth =
    record {
      body = record { view = 5; parent = key fourth; orders = pack [] };
      name = be 32 0xf64c64cf94fcc553847c46a974b6e6a90a2f6ebdf1ebffcd51578156ee3bcac1;
    }

-- The certificate of a set of consoles for a block: 7 is consoles 0, 1 and 2, and 13 is 0, 2 and 3.
unfoldable pub certificate : ℕ → Item → Certificate
certificate set x =
    record {
      block = key x;
      signers =
          record { set = set; seals = map (λ i. cond (signed set i) (stamp i (votes_for (key x))) no_seal) (range_with_len 0 16) };
    }

-- Messages: a leader's proposal and a console's vote.
unfoldable pub proposal : ℕ → Item → Certificate → List ℕ
proposal i x c = proposal_bytes (record { body = x.body; certificate = c; seal = stamp i (proposes (key x)) })

unfoldable pub vote : ℕ → Item → List ℕ
vote i x = vote_bytes (record { block = key x; voter = i; seal = stamp i (votes_for (key x)) })

-- Lines: console i opens, takes a tick, takes one at which it votes, proposes, hears a message.
abbrev pub opens : ℕ → Line
opens i = record { console = i; call = opening 8; seal = no_seal }

abbrev pub ticks : ℕ → ℕ → Line
ticks t i = record { console = i; call = ticking t; seal = no_seal }

abbrev pub votes : ℕ → Item → ℕ → Line
votes t x i = record { console = i; call = ticking t; seal = stamp i (votes_for (key x)) }

abbrev pub leads : Item → ℕ → Line
leads x i =
    record {
      console = i;
      call = proposing (record { console = i; view = x.body.view }) (orders_of x.body.orders) longest_proposal;
      seal = stamp i (proposes (key x));
    }

abbrev pub hears : List ℕ → ℕ → Line
hears message i = record { console = i; call = hearing message; seal = no_seal }

-- A line at each sound console.
abbrev pub each : (ℕ → Line) → List Line
each line = line 0 ∷ line 1 ∷ line 2 ∷ []

-- A view that goes well under leader i: all hear its block, vote for it and hear all votes. What a console sent comes
-- back to it as well.
unfoldable pub good_view : ℕ → Item → Certificate → List Line
good_view i x c =
    each (ticks (2 * x.body.view)) ++ (leads x i ∷ each (hears (proposal i x c)))
    ++ (each (votes (2 * x.body.view + 1) x)
    ++ (each (hears (vote 0 x)) ++ (each (hears (vote 1 x)) ++ each (hears (vote 2 x)))))

-- View 3: the faulty console seals two blocks, and votes for the one that consoles 0 and 2 were shown. Its vote and
-- theirs are a quorum, of which only console 0 comes to know: it hands over the second block.
unfoldable pub torn_view : List Line
torn_view =
    each (ticks 6)
    ++ (hears (proposal 3 third (certificate 7 second)) 0
    ∷ hears (proposal 3 rival (certificate 7 second)) 1
    ∷ hears (proposal 3 third (certificate 7 second)) 2
    ∷ votes 7 third 0 ∷ votes 7 rival 1 ∷ votes 7 third 2
    ∷ hears (vote 2 third) 0 ∷ hears (vote 3 third) 0 ∷ [])

-- Lines told in their sequence, after those of a sheet, which has the newest first.
unfoldable pub told : List Line → Sheet → Sheet
told [] sheet = sheet
told (l ∷ ls) sheet = told ls (l ∷ sheet)

unfoldable pub three_views : Sheet
three_views =
    told
    (each opens ++ (good_view 1 first origin_certificate ++ (good_view 2 second (certificate 7 first) ++ torn_view)))
    []

-- Console 1 hears the third block after all, so that it can follow when the next ones build on it.
unfoldable pub five_views : Sheet
five_views =
    told
    (hears (proposal 3 third (certificate 7 second)) 1
    ∷ (good_view 0 fourth (certificate 13 third) ++ (good_view 1 fifth (certificate 7 fourth) ++ (ticks 12 0 ∷ []))))
    three_views
