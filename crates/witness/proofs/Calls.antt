-- Tests of what a call is, and of what it answered.
use Rattle.std.proofs.Common.{◌≡◌, ℕ, ◌^◌, ◌<◌, Bool, true, false, not, ◌&&◌, T, eqb, ltb, List, length, Some, None, Option, sym, ap, subst, eqb→eq, ltb→lt, T_not}
use lib.Dec.{eqb_refl}
use Rattle.std.specs.Str.{bytes_eq}
use Rattle.wire.specs.declared.order.Order.{Order}
use Rattle.wire.specs.declared.order.Order.TheVariants.{Send, Release, Load}
use Rattle.rules.specs.Call.{Call, opening, ticking, proposing, passing, hearing}
use Rattle.rules.specs.Step.{Answer, refused, opens, turn, vote, nothing, proposal, passed, new, known, Owed}
use Rattle.sheets.specs.Sheet.{Line}
use Rattle.wire.specs.Bytes.{Octets}
use Rattle.wire.specs.Canon.{OrderFits}
use Rattle.sheets.specs.Sound.{Spends, Typed, TypedCall}
use Rattle.witness.proofs.Same.{owed_is, same_bytes, same_owed, same_owed_refl}
use Rattle.witness.proofs.Tests.{all_is, all_of, both, is_some}

-- A tick t.
abbrev pub tick_of : Call → Option ℕ
tick_of (opening slots) = None
tick_of (ticking t) = Some t
tick_of (proposing owed orders space) = None
tick_of (passing owed) = None
tick_of (hearing bytes) = None

abbrev pub is_tick : ℕ → Call → Bool
is_tick t c = is_some (eqb t) (tick_of c)

pub tick_is : (t : ℕ) (c : Call) → T (is_tick t c) → c ≡ ticking t
tick_is t (opening slots) s = absurd s
tick_is t (ticking u) s = ap ticking (sym (eqb→eq t u s))
tick_is t (proposing owed orders space) s = absurd s
tick_is t (passing owed) s = absurd s
tick_is t (hearing bytes) s = absurd s

pub is_tick_from : (t : ℕ) (c : Call) → c ≡ ticking t → T (is_tick t c)
is_tick_from t c e = subst (λ x. T (is_tick t x)) (sym e) (eqb_refl t)

-- The message that is heard.
abbrev pub heard_of : Call → Option (List ℕ)
heard_of (opening slots) = None
heard_of (ticking t) = None
heard_of (proposing owed orders space) = None
heard_of (passing owed) = None
heard_of (hearing bytes) = Some bytes

pub heard_is : (c : Call) (bytes : List ℕ) → T (is_some (bytes_eq bytes) (heard_of c)) → c ≡ hearing bytes
heard_is (opening slots) bytes s = absurd s
heard_is (ticking t) bytes s = absurd s
heard_is (proposing owed orders space) bytes s = absurd s
heard_is (passing owed) bytes s = absurd s
heard_is (hearing heard) bytes s = ap hearing (sym (same_bytes bytes heard s))

-- A turn that is spent, in any way or by proposing.
abbrev pub spent : Call → Option Owed
spent (opening slots) = None
spent (ticking t) = None
spent (proposing owed orders space) = Some owed
spent (passing owed) = Some owed
spent (hearing bytes) = None

pub spends_is : (c : Call) (owed : Owed) → Spends c owed → spent c ≡ Some owed
spends_is (opening slots) owed s = absurd s
spends_is (ticking t) owed s = absurd s
spends_is (proposing o orders space) owed s = ap Some s
spends_is (passing o) owed s = ap Some s
spends_is (hearing bytes) owed s = absurd s

pub never_spent : (c : Call) (owed : Owed) → T (not (is_some (same_owed owed) (spent c))) → Spends c owed → ⊥
never_spent c owed t s =
    let test : Option Owed → Bool = is_some (same_owed owed) in
    T_not (same_owed owed owed) (subst (λ o. T (not (test o))) (spends_is c owed s) t) (same_owed_refl owed)

abbrev pub is_proposing : Owed → Call → Bool
is_proposing o (opening slots) = false
is_proposing o (ticking t) = false
is_proposing o (proposing owed orders space) = same_owed owed o
is_proposing o (passing owed) = false
is_proposing o (hearing bytes) = false

pub proposing_is : (o : Owed) (c : Call) → T (is_proposing o c) → (orders : List Order) × (space : ℕ) × (c ≡ proposing o orders space)
proposing_is o (opening slots) s = absurd s
proposing_is o (ticking t) s = absurd s
proposing_is o (proposing owed orders space) s = (orders, space, ap (λ x. proposing x orders space) (owed_is owed o s))
proposing_is o (passing owed) s = absurd s
proposing_is o (hearing bytes) s = absurd s

-- Answers: a turn, and any that is no refusal.
abbrev pub turn_of : Answer → Option Owed
turn_of (refused r) = None
turn_of opens = None
turn_of (turn owed) = Some owed
turn_of (vote x) = None
turn_of nothing = None
turn_of (proposal len) = None
turn_of passed = None
turn_of new = None
turn_of known = None

pub turn_is : (a : Answer) (owed : Owed) → T (is_some (same_owed owed) (turn_of a)) → a ≡ turn owed
turn_is (refused r) owed t = absurd t
turn_is opens owed t = absurd t
turn_is (turn o) owed t = ap turn (sym (owed_is owed o t))
turn_is (vote x) owed t = absurd t
turn_is nothing owed t = absurd t
turn_is (proposal len) owed t = absurd t
turn_is passed owed t = absurd t
turn_is new owed t = absurd t
turn_is known owed t = absurd t

abbrev pub accepted : Answer → Bool
accepted (refused r) = false
accepted opens = true
accepted (turn owed) = true
accepted (vote x) = true
accepted nothing = true
accepted (proposal len) = true
accepted passed = true
accepted new = true
accepted known = true

-- A line that holds what the calls' types can hold.
abbrev octets : List ℕ → Bool
octets bytes = all_of (λ b. ltb b 256) bytes

octets_are : (bytes : List ℕ) → T (octets bytes) → Octets bytes
octets_are bytes t = all_is (λ b. ltb b 256) (λ b. b < 256) (λ b s. ltb→lt b 256 s) bytes t

abbrev short : ℕ → Bool
short x = ltb x 65536

abbrev typed_order : Order → Bool
typed_order (Send truck place) = short truck && short place
typed_order (Release truck) = short truck
typed_order (Load truck place amount) = short truck && (short place && short amount)

typed_order_is : (o : Order) → T (typed_order o) → OrderFits o
typed_order_is (Send truck place) t =
    let parts = both (short truck) (short place) t in
    (ltb→lt truck 65536 parts.0, ltb→lt place 65536 parts.1)
typed_order_is (Release truck) t = ltb→lt truck 65536 t
typed_order_is (Load truck place amount) t =
    let parts = both (short truck) (short place && short amount) t in
    let more = both (short place) (short amount) parts.1 in
    (ltb→lt truck 65536 parts.0, ltb→lt place 65536 more.0, ltb→lt amount 65536 more.1)

abbrev typed_call : Call → Bool
typed_call (opening slots) = true
typed_call (ticking t) = ltb t (2 ^ 32)
typed_call (proposing owed orders space) = ltb owed.view (2 ^ 32) && all_of typed_order orders
typed_call (passing owed) = true
typed_call (hearing bytes) = octets bytes

typed_call_is : (c : Call) → T (typed_call c) → TypedCall c
typed_call_is (opening slots) t = tt
typed_call_is (ticking s) t = ltb→lt s (2 ^ 32) t
typed_call_is (proposing owed orders space) t =
    let parts = both (ltb owed.view (2 ^ 32)) (all_of typed_order orders) t in
    (ltb→lt owed.view (2 ^ 32) parts.0, all_is typed_order OrderFits typed_order_is orders parts.1)
typed_call_is (passing owed) t = tt
typed_call_is (hearing bytes) t = octets_are bytes t

abbrev pub typed_line : Line → Bool
typed_line l = eqb (length l.seal) 16 && (octets l.seal && typed_call l.call)

pub typed_line_is : (l : Line) → T (typed_line l) → Typed l
typed_line_is l t =
    let parts = both (eqb (length l.seal) 16) (octets l.seal && typed_call l.call) t in
    let more = both (octets l.seal) (typed_call l.call) parts.1 in
    record {
      sixteen = eqb→eq (length l.seal) 16 parts.0;
      octets = octets_are l.seal more.0;
      call = typed_call_is l.call more.1;
    }
