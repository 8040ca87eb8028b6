-- What a writer leaves in the bytes that it is lent.
use Rattle.std.specs.Prelude.{◌≡◌, ℕ, ◌+◌, ◌<◌, ◌≤◌, List, ◌++◌, length, take, drop, Some, None, Option}
use Rattle.wire.specs.declared.put.Writer.{Writer}

-- `bytes` stand from place `at` to `end`; before and beyond these all is as it was
pub record Wrote (old : List ℕ) (at : ℕ) (bytes : List ℕ) (end : ℕ) (new : List ℕ) : Type 0 where
  pub ends : end ≡ at + length bytes
  pub front : take end new ≡ take at old ++ bytes
  pub rest : (k : ℕ) → end ≤ k → drop k new ≡ drop k old

-- so many bytes can still be written
abbrev pub HasRoom : ℕ → Writer → Type 0
HasRoom n w = w.at + n ≤ length w.out.now

-- a writer put these bytes, in the same lent bytes
pub record Puts (bytes : List ℕ) (old new : Writer) : Type 0 where
  pub wrote : Wrote old.out.now old.at bytes new.at new.out.now
  pub room : length new.out.now ≡ length old.out.now
  pub lent : new.out.ghost_name ≡ old.out.ghost_name

-- a record stands at the start and the answer is its length, or there was no room and nothing changed
abbrev pub Written : List ℕ → List ℕ → Option ℕ → List ℕ → Type 0
Written bytes old None new = (length old < length bytes) × (new ≡ old)
Written bytes old (Some n) new = (n ≡ length bytes) × (new ≡ bytes ++ drop n old)
