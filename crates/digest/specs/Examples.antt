-- Published examples: the definitions give the values that NIST and RFC 4231 print.
use Rattle.std.specs.Prelude.{◌≡◌, ℕ, zero, suc, ◌/◌, ◌%◌, List, [], ◌∷◌, ◌++◌, replicate, codes}
use Rattle.digest.specs.Sha256.{digest}
use Rattle.digest.specs.Hmac.{hmac}

-- the last k bytes of a number, the highest first
abbrev pub big_endian : ℕ → ℕ → List ℕ
big_endian zero n = []
big_endian (suc k) n = big_endian k (n / 256) ++ n % 256 ∷ []

abbrev pub EmptyMessage : Type 0
EmptyMessage = digest [] ≡ big_endian 32 0xe3b0c44298fc1c149afbf4c8996fb92427ae41e4649b934ca495991b7852b855

abbrev pub OneBlock : Type 0
OneBlock = digest (codes "abc") ≡ big_endian 32 0xba7816bf8f01cfea414140de5dae2223b00361a396177a9cb410ff61f20015ad

abbrev pub TwoBlocks : Type 0
TwoBlocks =
    digest (codes "abcdbcdecdefdefgefghfghighijhijkijkljklmklmnlmnomnopnopq") ≡
    big_endian 32 0x248d6a61d20638b8e5c026930c3e6039a33ce45964ff2167f6ecedd419db06c1

-- RFC 4231, case 2, and the same under its key filled up with zeros to 32 bytes
abbrev pub ShortKey : Type 0
ShortKey =
    hmac (codes "Jefe") (codes "what do ya want for nothing?") ≡
    big_endian 32 0x5bdcc146bf60754e6a042426089575c75a003f089d2739839dec58b964ec3843

abbrev pub FilledKey : Type 0
FilledKey =
    hmac (codes "Jefe" ++ replicate 28 0) (codes "what do ya want for nothing?") ≡
    big_endian 32 0x5bdcc146bf60754e6a042426089575c75a003f089d2739839dec58b964ec3843

-- RFC 4231, case 6: a key longer than a block
abbrev pub LongKey : Type 0
LongKey =
    hmac (replicate 131 0xaa) (codes "Test Using Larger Than Block-Size Key - Hash Key First") ≡
    big_endian 32 0x60e431591ee0b67f0d8a26aacbf5b77f8e0bc6213728c5140546040f0ee37f54
