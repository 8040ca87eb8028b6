-- Votes and locks: chains never part.
use Rattle.std.proofs.Common.{◌≡◌, ℕ, zero, suc, ◌<◌, ◌≤◌, Bool, ◌⊎◌, List, [], ◌∷◌, ◌++◌, reverse, sym, refl, ap, ◌∙◌, subst, ap₂, inl, inr, ⊎_elim, eq-or-lt_of_le, arith}
use mathlib.Core.List.{reverse_aux, reverse-reverse}
use Rattle.std.specs.List.{AllByRecursion}
use Rattle.std.proofs.lemmas.Bool.{cases_lt}
use Rattle.votes.specs.Quorum.{Few, Light, total}
use Rattle.votes.specs.Votes.{Blocks, Consoles, counted_consoles, weighed_consoles, QuorumsMeet, History, own_view, parent_view, Among, Sound, Voted, Certified, Final, Rising, Lawful, Chain, Ancestor, Settled, Prefix, Agreement, Ancestry}
use Rattle.votes.proofs.Weights.{counted, share}

-- ---- consoles

-- few unsound consoles, and quorums meet
pub meet_by_count : (n : ℕ) (sound : ℕ → Bool) → 1 ≤ n → Few n sound → QuorumsMeet (counted_consoles n sound)
meet_by_count n sound some few q r lq lr a b = counted.share n sound some few q r lq lr a b

pub meet_by_weight : (n : ℕ) (w : ℕ → ℕ) (sound : ℕ → Bool) → 1 ≤ total n w → Light n w sound → QuorumsMeet (weighed_consoles n w sound)
meet_by_weight n w sound some light q r lq lr a b = share n w sound some light q r a b

-- ---- lists

-- what holds of all holds of one among them
pub among_all : {X : Type 0} (P : X → Type 0) (xs : List X) (x : X) → AllByRecursion P xs → Among x xs → P x
among_all P [] x a m = absurd m
among_all P (y ∷ ys) x a (inl e) = subst P (sym e) a.0
among_all P (y ∷ ys) x a (inr m) = among_all P ys x a.1 m

pub among_before : {X : Type 0} (xs ys : List X) (x : X) → Among x ys → Among x (xs ++ ys)
among_before [] ys x m = m
among_before (y ∷ xs) ys x m = inr (among_before xs ys x m)

-- ---- one console's votes

module _ (B : Blocks) where
  -- votes for one view are one vote
  pub once : (vs : List B.Body) → Rising B vs → (a b : B.Body) → Among a vs → Among b vs → own_view B a ≡ own_view B b → a ≡ b
  once [] r a b m n e = absurd m
  once (v ∷ vs) r a b (inl p) (inl q) e = p ∙ sym q
  once (v ∷ vs) r a b (inl p) (inr n) e =
      let l = (among_all _ vs b r.0 n).0 in absurd (omega (arith, ap (own_view B) p))
  once (v ∷ vs) r a b (inr m) (inl q) e =
      let l = (among_all _ vs a r.0 m).0 in absurd (omega (arith, ap (own_view B) q))
  once (v ∷ vs) r a b (inr m) (inr n) e = once vs r.1 a b m n e

  -- a vote for a later view has no older parent
  pub locks : (vs : List B.Body) → Rising B vs → (a b : B.Body) → Among a vs → Among b vs → own_view B a < own_view B b
      → parent_view B a ≤ parent_view B b
  locks [] r a b m n l = absurd m
  locks (v ∷ vs) r a b (inl p) (inl q) l = absurd (omega (arith, ap (own_view B) p, ap (own_view B) q))
  locks (v ∷ vs) r a b (inl p) (inr n) l =
      let k = (among_all _ vs b r.0 n).0 in absurd (omega (arith, ap (own_view B) p))
  locks (v ∷ vs) r a b (inr m) (inl q) l =
      let k = (among_all _ vs a r.0 m).1 in omega (arith, ap (parent_view B) q)
  locks (v ∷ vs) r a b (inr m) (inr n) l = locks vs r.1 a b m n l

-- ---- chains

module _ (B : Blocks) (h : History B) where
  pub chain_join : (xs ys : List B.Body) (i j k : B.Key) → Chain B h i xs j → Chain B h j ys k → Chain B h i (xs ++ ys) k
  chain_join [] ys i j k c d = subst (λ x. Chain B h x ys k) (sym c) d
  chain_join (x ∷ xs) ys i j k c d = (c.0, c.1, chain_join xs ys (B.key x) j k c.2 d)

  -- one more body at a chain's end
  pub chain_push : (xs : List B.Body) (j : B.Key) (b : B.Body) → Among b h.shown → Chain B h j xs (B.parent b)
      → Chain B h j (xs ++ b ∷ []) (B.key b)
  chain_push xs j b m c = chain_join xs (b ∷ []) j (B.parent b) (B.key b) c (refl, m, refl)

  -- the same line, newest first, from the key k down to the key j
  abbrev Line : B.Key → List B.Body → B.Key → Type 0
  Line k [] j = k ≡ j
  Line k (b ∷ bs) j = (k ≡ B.key b) × Among b h.shown × Line (B.parent b) bs j

  turned : (xs acc : List B.Body) (i j k : B.Key) → Chain B h j xs k → Line j acc i → Line k (reverse_aux xs acc) i
  turned [] acc i j k c l = subst (λ x. Line x acc i) c l
  turned (b ∷ bs) acc i j k c l = turned bs (b ∷ acc) i (B.key b) k c.2 (refl, c.1, subst (λ x. Line x acc i) (sym c.0) l)

-- ---- certificates and final keys of a lawful history

module _ (B : Blocks) (c : Consoles) (h : History B) (law : Lawful B c h) where
  -- two certified keys have votes of one sound console
  pub common : (j k : B.Key) → Certified B c h j → Certified B c h k → (i : ℕ) × Sound c i × Voted B h i j × Voted B h i k
  common j k s t =
      let m = law.meet s.signers t.signers s.within t.within s.quorum t.quorum in
      (m.0, (m.1, m.2), s.voted m.0 (m.1, m.2) m.3, t.voted m.0 (m.1, m.2) m.4)

  -- a certified key has a body
  pub certified_body : (k : B.Key) → Certified B c h k → (b : B.Body) × Among b h.shown × (B.key b ≡ k)
  certified_body k s =
      let m = common k k s s in
      (m.2.0, law.known m.0 m.1 m.2.0 m.2.1, m.2.2)

  -- a certified key's view is above the origin's
  pub certified_above : (k : B.Key) → Certified B c h k → 1 ≤ B.view k
  certified_above k s =
      let b = certified_body k s in
      omega (arith, law.descend b.0 b.1, ap B.view b.2)

  -- two certified keys of one view are one key
  pub one_per_view : (j k : B.Key) → Certified B c h j → Certified B c h k → B.view j ≡ B.view k → j ≡ k
  one_per_view j k s t e =
      let m = common j k s t in
      let a = m.2 in
      let b = m.3 in
      let same = once B (h.votes m.0) (law.rise m.0 m.1) a.0 b.0 a.1 b.1 (ap B.view a.2 ∙ e ∙ sym (ap B.view b.2)) in
      sym a.2 ∙ ap B.key same ∙ b.2

  -- A certified key k above a final key's child has a body whose parent is certified and no older than the final key.
  pub step_down : (j k : B.Key) (f : Final B c h j) → Certified B c h k → own_view B f.child < B.view k
      → (b : B.Body) × Among b h.shown × (B.key b ≡ k) × (B.view j ≤ parent_view B b) × Certified B c h (B.parent b)
  step_down j k f t l =
      let m = common (B.key f.child) k f.follows t in
      let a = m.2 in
      let b = m.3 in
      let va = law.known m.0 m.1 a.0 a.1 in
      let vb = law.known m.0 m.1 b.0 b.1 in
      let child : a.0 ≡ f.child = law.apart a.0 f.child va f.shown a.2 in
      let lock = locks B (h.votes m.0) (law.rise m.0 m.1) a.0 b.0 a.1 b.1
      (omega (arith, l, ap B.view a.2, ap B.view b.2)) in
      let up : B.view j ≤ parent_view B b.0 = omega (arith, lock, ap (parent_view B) child, ap B.view f.upon) in
      let back : Certified B c h (B.parent b.0) = ⊎_elim
      (λ e. absurd (omega (arith, up, certified_above j f.certified, law.start, ap B.view e)))
      (λ s. s)
      (law.backed m.0 m.1 b.0 b.1) in
      (b.0, vb, b.2, up, back)

  -- the step of the induction: `older` is the hypothesis, for certified keys of views below k's
  ancestor_step : (j k : B.Key) → Final B c h j → Certified B c h k → B.view j ≤ B.view k
      → ((i : B.Key) → Certified B c h i → B.view j ≤ B.view i → B.view i < B.view k → Ancestor B h j i) → Ancestor B h j k
  ancestor_step j k f t l older = same (eq-or-lt_of_le l)
    where
      later : (own_view B f.child ≡ B.view k) ⊎ (own_view B f.child < B.view k) → Ancestor B h j k
      later (inl e) = (f.child ∷ [], (f.upon, f.shown, one_per_view (B.key f.child) k f.follows t e))
      later (inr g) =
          let d = step_down j k f t g in
          let a = older (B.parent d.0) d.4 d.3 (omega (arith, law.descend d.0 d.1, ap B.view d.2)) in
          (a.0 ++ d.0 ∷ [], subst (λ x. Chain B h j (a.0 ++ d.0 ∷ []) x) d.2 (chain_push B h a.0 j d.0 d.1 a.1))

      same : (B.view j ≡ B.view k) ⊎ (B.view j < B.view k) → Ancestor B h j k
      same (inl e) = ([], one_per_view j k f.certified t e)
      same (inr g) = later (eq-or-lt_of_le (omega (arith, f.next, g)))

  ancestor_in : (m : ℕ) (j k : B.Key) → Final B c h j → Certified B c h k → B.view j ≤ B.view k → B.view k < m → Ancestor B h j k
  ancestor_in zero j k f t l lm = absurd (omega (arith, lm))
  ancestor_in (suc m) j k f t l lm =
      ancestor_step j k f t l (λ i s below less. ancestor_in m j i f s below (omega (arith, less, lm)))

  -- a final key is on the line of ancestors of every certified key that is no older
  pub final_ancestor : (j k : B.Key) → Final B c h j → Certified B c h k → B.view j ≤ B.view k → Ancestor B h j k
  final_ancestor j k f t l = ancestor_in (suc (B.view k)) j k f t l (omega arith)

  -- ---- a line down to the origin is determined by its key

  one_line : (xs ys : List B.Body) (k : B.Key) → Line B h k xs B.origin → Line B h k ys B.origin → xs ≡ ys
  one_line [] [] k l m = refl
  one_line [] (y ∷ ys) k l m =
      absurd (omega (arith, law.descend y m.1, law.start, ap B.view (sym l ∙ m.0)))
  one_line (x ∷ xs) [] k l m =
      absurd (omega (arith, law.descend x l.1, law.start, ap B.view (sym m ∙ l.0)))
  one_line (x ∷ xs) (y ∷ ys) k l m =
      let e : x ≡ y = law.apart x y l.1 m.1 (sym l.0 ∙ m.0) in
      ap₂ (λ a as'. a ∷ as') e (one_line xs ys (B.parent x) l.2 (subst (λ a. Line B h (B.parent a) ys B.origin) (sym e) m.2))

  -- one head, one chain
  pub one_chain : (xs ys : List B.Body) (k : B.Key) → Chain B h B.origin xs k → Chain B h B.origin ys k → xs ≡ ys
  one_chain xs ys k a b =
      let o = B.origin in
      let e = one_line (reverse xs) (reverse ys) k (turned B h xs [] o o k a refl) (turned B h ys [] o o k b refl) in
      sym (reverse-reverse xs) ∙ ap reverse e ∙ reverse-reverse ys

  -- a chain that ends at an ancestor of another's end is a prefix of it
  pub ancestor_prefix : (xs ys : List B.Body) (j k : B.Key) → Chain B h B.origin xs j → Chain B h B.origin ys k
      → Ancestor B h j k → Prefix xs ys
  ancestor_prefix xs ys j k a b n = (n.0, one_chain ys (xs ++ n.0) k b (chain_join B h xs n.0 B.origin j k a n.1))

  -- a chain to the origin is empty
  pub empty_chain : (xs : List B.Body) → Chain B h B.origin xs B.origin → xs ≡ []
  empty_chain xs a = one_chain xs [] B.origin a refl

  pub never_part : (j k : B.Key) (xs ys : List B.Body) → Settled B c h j xs → Settled B c h k ys → Prefix xs ys ⊎ Prefix ys xs
  never_part j k xs ys s t = ends s.final t.final
    where
      nothing : (us vs : List B.Body) (i : B.Key) → Chain B h B.origin us i → i ≡ B.origin → Prefix us vs
      nothing us vs i a e =
          (vs, ap (λ ws. ws ++ vs) (sym (empty_chain us (subst (λ x. Chain B h B.origin us x) e a))))

      higher : Final B c h j → Final B c h k → (B.view j < B.view k) ⊎ (B.view k ≤ B.view j) → Prefix xs ys ⊎ Prefix ys xs
      higher f g (inl l) = inl (ancestor_prefix xs ys j k s.line t.line (final_ancestor j k f g.certified (omega (arith, l))))
      higher f g (inr l) = inr (ancestor_prefix ys xs k j t.line s.line (final_ancestor k j g f.certified l))

      ends : (j ≡ B.origin) ⊎ Final B c h j → (k ≡ B.origin) ⊎ Final B c h k → Prefix xs ys ⊎ Prefix ys xs
      ends (inl e) b = inl (nothing xs ys j s.line e)
      ends (inr f) (inl e) = inr (nothing ys xs k t.line e)
      ends (inr f) (inr g) = higher f g (cases_lt (B.view j) (B.view k))

pub agreement : (B : Blocks) → Agreement B
agreement B = never_part B

pub ancestry : (B : Blocks) → Ancestry B
ancestry B = record { ancestor = final_ancestor B; single = one_per_view B }
