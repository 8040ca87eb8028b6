-- Seals as bytes.
use Rattle.std.proofs.Common.{◌≡◌, ℕ, zero, suc, ◌+◌, ◌<◌, ◌≤◌, true, List, [], ◌∷◌, ◌++◌, map, length, get_or, take, drop, sym, refl, ap, ◌∙◌, arith}
use Rattle.std.specs.Str.{bytes_eq}
use Rattle.std.specs.Array.{IsMapOf}
use denote.Param.Members.{Mut, Called}
use Rattle.std.proofs.lemmas.Slice.Eq.{bytes_eq-Decides}
use Rattle.std.proofs.lemmas.List.{append_assoc, drop_more, get_or-map}
use Rattle.std.proofs.lemmas.Bool.{and_from, and_parts, lt-ltb, ltb-true}
use Rattle.wire.specs.Bytes.{be}
use Rattle.wire.specs.Format.{purpose_mark, statement_bytes}
use Rattle.wire.specs.declared.statement.Purpose.{Purpose}
use Rattle.wire.specs.declared.statement.Purpose.TheVariants as purpose
use Rattle.wire.specs.declared.statement.Statement.{Statement}
use Rattle.wire.proofs.Numbers.{be_1}
use Rattle.digest.specs.declared.mac.MacKey.{MacKey}
use Rattle.parts.specs.Keyed.{KeyedLaw, key_bytes, keyed_seal, keyed_table}
use Rattle.parts.specs.Stamp.{stamp}

pub same_itself : (xs ys : List ℕ) → xs ≡ ys → bytes_eq xs ys ≡ true
same_itself xs ys e = (bytes_eq-Decides xs ys).1 e

-- the n elements from place i on, read one by one
abbrev pub reads : ℕ → ℕ → List ℕ → List ℕ
reads zero i xs = []
reads (suc n) i xs = get_or xs i 0 ∷ reads n (i + 1) xs

pub reads_is : (n i : ℕ) (xs : List ℕ) → i + n ≤ length xs → reads n i xs ≡ take n (drop i xs)
reads_is zero i xs h = refl
reads_is (suc n) i xs h =
    let d = drop_more xs i 0 (omega arith) in
    let ih = reads_is n (i + 1) xs (omega arith) in
    ap (λ (l : List ℕ). get_or xs i 0 ∷ l) ih ∙ sym (ap (λ (l : List ℕ). take (suc n) l) d)

mark_and_view : (p : Purpose) (view : ℕ) (name : List ℕ) → take 6 (purpose_mark p ++ (be 4 view ++ name)) ≡ purpose_mark p ++ be 4 view
unfolding be
mark_and_view purpose.Propose view name = refl
mark_and_view purpose.Vote view name = refl

after_view : (p : Purpose) (view : ℕ) (name : List ℕ) → drop 6 (purpose_mark p ++ (be 4 view ++ name)) ≡ name
unfolding be
after_view purpose.Propose view name = refl
after_view purpose.Vote view name = refl

-- the stamp as the code sets its bytes side by side
pub stamp_is :
    (signer : ℕ) (s : Statement) (bs : List ℕ) →
    signer < 256 → length bs ≡ 38 → bs ≡ statement_bytes s → reads 6 0 bs ++ (signer ∷ reads 9 6 bs) ≡ stamp signer s
unfolding stamp statement_bytes
stamp_is signer s bs low long e =
    let p = s.purpose in
    let v = s.block.view in
    let n = s.block.name in
    let a = reads_is 6 0 bs (omega arith) ∙ (ap (λ (l : List ℕ). take 6 l) e ∙ mark_and_view p v n) in
    let b = reads_is 9 6 bs (omega arith) ∙ (ap (λ (l : List ℕ). take 9 (drop 6 l)) e ∙ ap (λ (l : List ℕ). take 9 l) (after_view p v n)) in
    let o = be_1 signer low in
    let x : reads 6 0 bs ++ (signer ∷ reads 9 6 bs) ≡ (purpose_mark p ++ be 4 v) ++ (signer ∷ take 9 n) = cc in
    x ∙ (append_assoc (purpose_mark p) (be 4 v) (signer ∷ take 9 n) ∙ ap (λ (l : List ℕ). purpose_mark p ++ (be 4 v ++ (l ++ take 9 n))) (sym o))

pub keyed_law : KeyedLaw
unfolding keyed_seal
keyed_law keys signer statement seal = (
  λ e. let p = and_parts _ _ e in (ltb-true _ _ p.0, (bytes_eq-Decides seal _).0 p.1),
  λ h. and_from _ _ (lt-ltb _ _ h.0) ((bytes_eq-Decides seal _).1 h.1),
)

-- what is sealed by a signer's key is accepted
pub keyed_accepted :
    (keys : List (List ℕ)) (signer : ℕ) (statement : Statement) (seal : List ℕ) →
    signer < 16 → seal ≡ keyed_seal (get_or keys signer []) statement → keyed_table keys signer statement seal ≡ true
keyed_accepted keys signer statement seal low e = and_from _ _ (lt-ltb _ _ low) (same_itself seal _ e)

-- each key made ready, by a call that keeps its bytes
pub keys_mapped :
    {F A : Type 0} (g : Mut F (A × Unit {0}) MacKey) (bytes : A → List ℕ) (f : F) (keys : List A) (all : List MacKey) (n : ℕ) →
    IsMapOf g f keys all n →
    length keys ≡ n →
    ((key : A) (k : MacKey) (p q : F) → Called g p (key, tt) k q → k.key ≡ bytes key) → key_bytes all ≡ map bytes keys
keys_mapped {F} {A} g bytes f keys all n made long keeps =
    same all keys (made.long ∙ sym long)
    (λ i d e below. let one = made.at i d e (omega (arith, made.long)) in keeps _ _ one.0 one.1 one.2)
  where
    same :
        (all : List MacKey) (keys : List A) →
        length all ≡ length keys →
        ((i : ℕ) (d : A) (e : MacKey) → i < length all → (get_or all i e).key ≡ bytes (get_or keys i d)) →
        key_bytes all ≡ map bytes keys
    same [] [] l h = refl
    same [] (key ∷ keys) l h = absurd (omega arith)
    same (k ∷ all) [] l h = absurd (omega arith)
    same (k ∷ all) (key ∷ keys) l h =
        let first : k.key ≡ bytes key = h 0 key k (omega arith) in
        let rest = same all keys (omega arith) (λ i d e below. h (suc i) d e (omega arith)) in
        cc

-- a key read out of those made ready
pub key_read :
    (all : List MacKey) (i : ℕ) (k : MacKey) → i < length all → (get_or all i k).key ≡ get_or (key_bytes all) i []
key_read all i k l = sym (get_or-map (λ (x : MacKey). x.key) all i k [] l)
