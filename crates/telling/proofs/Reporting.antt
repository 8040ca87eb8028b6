-- What was read, in words.
use Rattle.std.proofs.Common.{◌≡◌, ℕ, List, ◌++◌, length, drop, Ok, Err, codes, decimal, Result, sym, ap, append_assoc}
use Rattle.wire.specs.Parts.{PartsOf, message_of}
use Rattle.wire.specs.Read.{code, read}
use Rattle.wire.specs.declared.message.Message.{Message}
use Rattle.wire.specs.declared.message.Message.TheVariants as message
use Rattle.wire.specs.declared.reading.Reading.{Reading}
use Rattle.wire.specs.declared.reading.Reading.TheVariants as reading
use Rattle.wire.specs.declared.unreadable.Unreadable.{Unreadable}
use Rattle.telling.specs.Messages.{message_told, outcome_told, part_told, reading_told}

pub read_as : (n : ℕ) (datagram : List ℕ) (m : Result Message Unreadable) → m ≡ read n datagram → reading_told n datagram ≡ outcome_told (drop 2 datagram) m
unfolding reading_told
read_as n datagram m e = ap (outcome_told (drop 2 datagram)) (sym e)

part_same : (a b k l : ℕ) → a ≡ b → k ≡ l → part_told a k ≡ part_told b l
part_same a b k l e f = rw (e, f)

-- the words of what a reading hands out are those of its datagram
pub message_read : (n : ℕ) (datagram : List ℕ) (g : Reading) → Ok (message_of g) ≡ read n datagram → PartsOf (drop 2 datagram) g → reading_told n datagram ≡ message_told g
message_read n datagram (reading.Proposal body certificate seal p) was parts =
    rw (part_same _ _ _ _ parts.0.0 (ap length parts.0.1), part_same _ _ _ _ parts.1.0 (ap length parts.1.1), part_same _ _ _ _ parts.2.0 (ap length parts.2.1))
    (read_as n datagram (Ok (message.Proposal p)) was)
message_read n datagram (reading.Vote seal v) was parts =
    rw (part_same _ _ _ _ parts.0 (ap length parts.1)) (read_as n datagram (Ok (message.Vote v)) was)

pub refusal_read : (n : ℕ) (datagram : List ℕ) (e : Unreadable) → Err e ≡ read n datagram → reading_told n datagram ≡ codes "refused " ++ decimal (code e)
refusal_read n datagram e read = read_as n datagram (Err e) read

-- `write!` writes the first twelve pieces of a format as one text
pub regrouped :
    (a b c d e f g h i j k l rest : List ℕ) →
    (a ++ (b ++ (c ++ (d ++ (e ++ (f ++ (g ++ (h ++ (i ++ (j ++ (k ++ l))))))))))) ++ rest ≡ a ++ (b ++ (c ++ (d ++ (e ++ (f ++ (g ++ (h ++ (i ++ (j ++ (k ++ (l ++ rest)))))))))))
regrouped a b c d e f g h i j k l rest = simp append_assoc
