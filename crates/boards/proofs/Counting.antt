-- Counting the trucks at a place.
use Rattle.std.proofs.Common.{ℕ, ◌+◌, ◌<◌, ◌≤◌, cond, List, length, set, None, Option, arith}
use Rattle.std.proofs.lemmas.List.Sums.{sum_by-set}
use Rattle.std.proofs.lemmas.Bool.Decides.{nat_tests}
use Rattle.boards.specs.declared.assignment.line.Line.{Line}
use Rattle.boards.specs.Trucks.{is_at, trucks_at}

-- one truck or none
abbrev pub one_at : ℕ → Option Line → ℕ
one_at place l = cond (is_at place l) 1 0

pub one_at_most : (place : ℕ) (l : Option Line) → one_at place l ≤ 1
one_at_most place l = grind (arith, nat_tests)

-- one line written
pub trucks_set_most :
    (place i : ℕ) (ls : List (Option Line)) (l : Option Line) →
    i < length ls → trucks_at place (set ls i l) ≤ trucks_at place ls + one_at place l
trucks_set_most place i ls l h = omega (arith, sum_by-set (one_at place) ls i l None h)
