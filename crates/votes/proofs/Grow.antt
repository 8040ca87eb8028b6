-- What lasts as a history grows, and how a sound console's own part of it grows.
use Rattle.std.proofs.Common.{◌≡◌, ◌+◌, ◌<◌, ◌≤◌, ◌⊎◌, List, [], ◌∷◌, ◌++◌, length, refl, ap, inl, inr, arith}
use Rattle.std.proofs.ByRecursion.{All-weaker}
use Rattle.votes.specs.Votes.{Blocks, Consoles, History, own_view, parent_view, Certified, Backed, Final, Rising, ViewsDescend, Chain, Settled, Grows, Lasting, last_view, last_lock}
use Rattle.votes.proofs.Agree.{chain_join}

module _ (B : Blocks) where
  pub grows_same : (h : History B) → Grows B h h
  grows_same h = record { votes = λ i b m. m; shown = λ b m. m }

  pub grows_on : (f g h : History B) → Grows B f g → Grows B g h → Grows B f h
  grows_on f g h p q = record { votes = λ i b m. q.votes i b (p.votes i b m); shown = λ b m. q.shown b (p.shown b m) }

  -- ---- a vote more

  -- a vote in a view above the last one's, for a body whose parent is no older than the last one's parent
  pub rising_push : (vs : List B.Body) (b : B.Body) → Rising B vs → last_view B vs < own_view B b → last_lock B vs ≤ parent_view B b
      → Rising B (b ∷ vs)
  rising_push [] b r v l = (tt, tt)
  rising_push (a ∷ vs) b r v l =
      (((v, l), All-weaker _ _ (λ x e. (omega (arith, e.0, v), omega (arith, e.1, l))) vs r.0), r)

module _ (B : Blocks) (c : Consoles) (g h : History B) (grows : Grows B g h) where
  pub certified_grows : (k : B.Key) → Certified B c g k → Certified B c h k
  certified_grows k s = record {
    signers = s.signers;
    within = s.within;
    quorum = s.quorum;
    voted = λ i m b. let v = s.voted i m b in (v.0, grows.votes i v.0 v.1, v.2);
  }

  pub backed_grows : (k : B.Key) → Backed B c g k → Backed B c h k
  backed_grows k (inl e) = inl e
  backed_grows k (inr s) = inr (certified_grows k s)

  pub final_grows : (k : B.Key) → Final B c g k → Final B c h k
  final_grows k f = record {
    certified = certified_grows k f.certified;
    child = f.child;
    shown = grows.shown f.child f.shown;
    upon = f.upon;
    next = f.next;
    follows = certified_grows (B.key f.child) f.follows;
  }

  pub chain_grows : (j : B.Key) (xs : List B.Body) (k : B.Key) → Chain B g j xs k → Chain B h j xs k
  chain_grows j [] k l = l
  chain_grows j (x ∷ xs) k l = (l.0, grows.shown x l.1, chain_grows (B.key x) xs k l.2)

  pub settled_grows : (k : B.Key) (xs : List B.Body) → Settled B c g k xs → Settled B c h k xs
  settled_grows k xs s = record { line = chain_grows B.origin xs k s.line; final = end s.final }
    where
      end : (k ≡ B.origin) ⊎ Final B c g k → (k ≡ B.origin) ⊎ Final B c h k
      end (inl e) = inl e
      end (inr f) = inr (final_grows k f)

pub lasting : (B : Blocks) → Lasting B
lasting B = record { certified = certified_grows B; final = final_grows B; settled = settled_grows B }

-- ---- chains

module _ (B : Blocks) (c : Consoles) (h : History B) where
  -- a console's chain before its first block
  pub settled_none : Settled B c h B.origin []
  settled_none = record { line = refl; final = inl refl }

  -- more bodies at its end, up to a final one
  pub settled_push : (j k : B.Key) (xs ys : List B.Body) → Settled B c h j xs → Chain B h j ys k → Final B c h k → Settled B c h k (xs ++ ys)
  settled_push j k xs ys s l f = record { line = chain_join B h xs ys B.origin j k s.line l; final = inr f }

  -- each body of a chain lies in a view of its own
  pub chain_length : ViewsDescend B h → (xs : List B.Body) (j k : B.Key) → Chain B h j xs k → B.view j + length xs ≤ B.view k
  chain_length d [] j k l = omega (arith, ap B.view l)
  chain_length d (x ∷ xs) j k l = omega (arith, chain_length d xs (B.key x) k l.2, d x l.1, ap B.view l.0)
