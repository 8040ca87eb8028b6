-- The small history meets every premise.
use Rattle.std.proofs.Common.{◌≡◌, ℕ, zero, suc, ◌<◌, [], ◌∷◌, sym, refl, ap, subst, inl, inr, arith, lit<, lit≤}
use lib.Count.{ones}
use Rattle.votes.specs.Quorum.{weight, Few}
use Rattle.votes.specs.Votes.{own_view, parent_view, Among, Sound, Certified, Backed, Final, Rising, Lawful}
use Rattle.votes.specs.Small.{Body, first, second, rival, key, parent, blocks, consoles, votes, history, Met}
use Rattle.votes.proofs.Agree.{meet_by_count}

few : Few 4 consoles.sound
unfolding weight
few = lit≤ tt

-- a sound console's votes
sound_votes : (i : ℕ) → Sound consoles i → votes i ≡ second ∷ first ∷ []
sound_votes zero s = refl
sound_votes (suc zero) s = refl
sound_votes (suc (suc zero)) s = refl
sound_votes (suc (suc (suc zero))) s = absurd s.1
sound_votes (suc (suc (suc (suc i)))) s = absurd (omega (arith, s.0))

rising : Rising blocks (second ∷ first ∷ [])
rising = (((lit< tt, lit≤ tt), tt), (tt, tt))

certified : (b : Body) → Among b (second ∷ first ∷ []) → Certified blocks consoles history (key b)
unfolding ones
certified b m = record {
  signers = 7;
  within = lit< tt;
  quorum = tt;
  voted = λ i s h. (b, subst (λ vs. Among b vs) (sym (sound_votes i s)) m, refl);
}

backed : (b : Body) → Among b (second ∷ first ∷ []) → Backed blocks consoles history (parent b)
backed first m = inl refl
backed second m = inr (certified first (inr (inl refl)))
backed rival m = inl refl

descend : (b : Body) → parent_view blocks b < own_view blocks b
descend first = lit< tt
descend second = lit< tt
descend rival = lit< tt

apart : (a b : Body) → key a ≡ key b → a ≡ b
apart first first e = refl
apart first second e = absurd (omega (arith, ap (λ k. k.name) e))
apart first rival e = absurd (omega (arith, ap (λ k. k.name) e))
apart second first e = absurd (omega (arith, ap (λ k. k.name) e))
apart second second e = refl
apart second rival e = absurd (omega (arith, ap (λ k. k.name) e))
apart rival first e = absurd (omega (arith, ap (λ k. k.name) e))
apart rival second e = absurd (omega (arith, ap (λ k. k.name) e))
apart rival rival e = refl

lawful : Lawful blocks consoles history
lawful = record {
  meet = meet_by_count 4 consoles.sound (lit≤ tt) few;
  rise = λ i s. subst (Rising blocks) (sym (sound_votes i s)) rising;
  known = λ i s b m. inr (subst (λ vs. Among b vs) (sound_votes i s) m);
  backed = λ i s b m. backed b (subst (λ vs. Among b vs) (sound_votes i s) m);
  descend = λ b m. descend b;
  apart = λ a b m n. apart a b;
  start = refl;
}

final : Final blocks consoles history (key first)
final = record {
  certified = certified first (inr (inl refl));
  child = second;
  shown = inr (inl refl);
  upon = refl;
  next = refl;
  follows = certified second (inl refl);
}

pub met : Met
met = record {
  few = few;
  lawful = lawful;
  final = final;
  settled = record { line = (refl, inr (inr (inl refl)), refl); final = inr final };
}
