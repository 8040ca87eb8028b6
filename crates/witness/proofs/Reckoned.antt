-- The shift reckoned by computation: the tests of its traces pass.
use Rattle.std.proofs.Common.{◌≡◌, ℕ, ◌+◌, ◌*◌, ◌≤◌, T, [], ◌∷◌, ◌++◌, length, get_or, take, drop, sym, refl, ap, ◌∙◌, arith, lit<, lit≤}
use lib.Count.{ones}
use Rattle.digest.specs.Sha256.{K, absorb, compress, digest, ending, finished, initial, round, rounds, schedule, state_bytes}
use Rattle.parts.specs.Stamp.{stamp}
use Rattle.shelf.specs.Slots.{lowest}
use Rattle.votes.specs.Quorum.{weight}
use Rattle.wire.specs.Bytes.{be, num}
use Rattle.wire.specs.Format.{body_bytes, certificate_bytes, packed_below, proposal_bytes, vote_bytes}
use Rattle.wire.specs.Read.{all_well_formed, body_in, certificate_in, order_in, orders_in, proposal_fits, proposal_in, proposal_stands, read, read_proposal, read_vote, seals_in, vote_in}
use Rattle.wire.specs.declared.body.Body.{Body}
use Rattle.wire.specs.declared.order.Order.{Order}
use Rattle.wire.specs.declared.order.Order.TheVariants.{Send, Release, Load}
use Rattle.rules.specs.Blocks.{swept}
use Rattle.rules.specs.Hear.{count_vote, hear, hear_message, hear_proposal, hear_vote, proposal_ground, seals_accepted, take_up, vouchers}
use Rattle.rules.specs.Propose.{propose, propose_body, propose_ground}
use Rattle.rules.specs.Settle.{best, enter, enter_slot, line_within, reaches_within, settle, settle_at}
use Rattle.rules.specs.Tick.{cast_vote, take_turn, tick, vote_for}
use Rattle.rules.specs.Pit.{leader}
use Rattle.sheets.specs.Sheet.{Sheet, Sound, chain}
use Rattle.sheets.specs.Sound.{SoundPit, SoundSheet}
use Rattle.sheets.specs.Timely.{Stretch}
use Rattle.witness.specs.Facts.{Equivocates, SoundShift, TimelyView, TimelyShift}
use Rattle.witness.specs.Shift.{certificate, fifth, first, five_views, fourth, good_view, key, pit, proposal, rival, second, third, three_views, ticks, told, torn_view, vote}
use Rattle.witness.proofs.Lawful.{all_named, lawful, sound_sheet}
use Rattle.witness.proofs.Punctual.{nowhere, nowhere_is, punctual, timely}
use Rattle.witness.proofs.Run.{chain_in, chain_run, every, run, some, state_in}
use Rattle.witness.proofs.Taken.{taken, taken_is}
use Rattle.witness.proofs.Tests.{all_of, any_of, below}

-- What is unfolded to compute: digests, messages, calls, the shift, and what is asked of a trace.
unfoldable digests : Unit {0}
unfolding K absorb compress digest ending finished initial round rounds schedule state_bytes
digests = tt

unfoldable messages : Unit {0}
unfolding all_well_formed be body_bytes body_in certificate_bytes certificate_in num ones order_in orders_in packed_below proposal_bytes proposal_fits proposal_in proposal_stands read read_proposal read_vote seals_in stamp vote_bytes vote_in
messages = tt

unfoldable calls : Unit {0}
unfolding best cast_vote count_vote enter enter_slot hear hear_message hear_proposal hear_vote line_within lowest proposal_ground propose propose_body propose_ground reaches_within seals_accepted settle settle_at swept take_turn take_up tick vote_for vouchers
calls = tt

unfoldable lines : Unit {0}
unfolding certificate fifth first five_views fourth good_view proposal rival second third three_views told torn_view vote
lines = tt

unfoldable tests : Unit {0}
unfolding all_named all_of any_of below chain_in every lawful nowhere punctual run some state_in taken
tests = tt

the_pit : SoundPit pit
unfolding weight
the_pit = record { four = lit≤ tt; sixteen = lit≤ tt; few_faulty = lit≤ tt }

three_sound : SoundSheet pit three_views
unfolding digests messages calls lines tests
three_sound = sound_sheet pit three_views the_pit tt

five_sound : SoundSheet pit five_views
unfolding digests messages calls lines tests
five_sound = sound_sheet pit five_views the_pit tt

-- The stretch of view v, where `later` lines come after its closing tick and `inner` lines after its first, both ticks at
-- console 0.
module _ (v later inner : ℕ) where
  abbrev up_to : Sheet
  up_to = drop (later + 1) five_views

  abbrev prior : Sheet
  prior = drop (inner + 1) up_to

  stretch : five_views ≡ take later five_views ++ (ticks (2 * v + 4) 0 ∷ up_to)
      → up_to ≡ take inner up_to ++ (ticks (2 * v) 0 ∷ prior)
      → T (nowhere (2 * v + 4) (run pit up_to)) → T (nowhere (2 * v) (run pit prior)) → Stretch five_views v
  stretch ends begins no_close no_start =
      record {
        rest = take later five_views;
        close = ticks (2 * v + 4) 0;
        run = up_to;
        ends = ends;
        close_tick = refl;
        first_close = nowhere_is pit (2 * v + 4) up_to no_close;
        within = take inner up_to;
        start = ticks (2 * v) 0;
        before = prior;
        begins = begins;
        start_tick = refl;
        first_start = nowhere_is pit (2 * v) prior no_start;
      }

-- The test of a stretch shows that its view is timely: the tables are one.
timely_view : (v : ℕ) (st : Stretch five_views v) (b c : Body) → 1 ≤ v → Sound pit (leader 4 v) → Sound pit (leader 4 (v + 1))
    → T (punctual pit v (length st.before) (run pit st.run) (run pit st.before) b c) → TimelyView pit five_views v b
timely_view v st b c positive one two passes =
    let found = timely pit st b c positive one two (λ i j s t signer statement seal. refl) passes in
    record { stretch = st; timely = found.0; block = found.1; hands_over = found.2 }

fresh : TimelyView pit five_views 1 first.body
unfolding digests messages calls lines tests stretch
fresh =
    let st : Stretch five_views 1 = stretch 1 50 37 refl refl tt tt in
    timely_view 1 st first.body second.body (lit≤ tt) (lit< tt, tt) (lit< tt, tt) tt

recovers : TimelyView pit five_views 4 fourth.body
unfolding digests messages calls lines tests stretch
recovers =
    let st : Stretch five_views 4 = stretch 4 0 37 refl refl tt tt in
    timely_view 4 st fourth.body fifth.body (lit≤ tt) (lit< tt, tt) (lit< tt, tt) tt

pub timely_shift : TimelyShift
timely_shift = record { sound = five_sound; fresh = fresh; recovers = recovers }

-- The place to which the first order of a body sends a truck.
abbrev place_of : Order → ℕ
place_of (Send truck place) = place
place_of (Release truck) = 0
place_of (Load truck place amount) = place

abbrev first_place : Body → ℕ
first_place b = place_of (get_or b.orders.list 0 (Release 0))

unlike : third.body ≡ rival.body → ⊥
unfolding third rival
unlike e = omega (arith, ap first_place e)

equivocates : Equivocates pit three_views 3
unfolding digests messages calls lines tests
equivocates =
    let one = taken_is 0 3 third.body (key third) pit three_views refl tt in
    let other = taken_is 1 3 rival.body (key rival) pit three_views refl tt in
    record {
      faulty = tt;
      body = third.body;
      rival = rival.body;
      body_view = refl;
      rival_view = refl;
      unlike = unlike;
      one = one.0;
      other = other.0;
      elsewhere = λ e. omega (arith, one.1, other.1, e);
      takes_body = one.2;
      takes_rival = other.2;
    }

ahead : chain pit 0 three_views ≡ first.body ∷ second.body ∷ []
unfolding digests messages calls lines tests
ahead = sym (chain_run pit 0 three_views) ∙ refl

behind : chain pit 1 three_views ≡ first.body ∷ []
unfolding digests messages calls lines tests
behind = sym (chain_run pit 1 three_views) ∙ refl

pub sound_shift : SoundShift
sound_shift = record { sound = three_sound; equivocates = equivocates; ahead = ahead; behind = behind }
