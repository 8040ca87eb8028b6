-- What the shift shows: all that the promise takes for granted can be met, and something happens on a sheet that meets it.
use Rattle.std.specs.Prelude.{◌≡◌, ℕ, not, T, [], ◌∷◌, Some}
use mathlib.Core.List.{Memᴰ}
use Rattle.wire.specs.Format.{body_key}
use Rattle.wire.specs.declared.body.Body.{Body}
use Rattle.rules.specs.Hear.{proposes}
use Rattle.rules.specs.Pit.{leader}
use Rattle.sheets.specs.Sheet.{Pit, Sound, Sheet, Spot, chain, did, relied_in, shown_in}
use Rattle.sheets.specs.Sound.{SoundSheet}
use Rattle.sheets.specs.Timely.{Stretch, Timely, HandsOver}
use Rattle.witness.specs.Shift.{first, five_views, fourth, pit, second, three_views}

-- The line at p took up the body from a proposal that has the signer's seal.
pub record TakesUp (pit : Pit) {sheet : Sheet} (p : Spot sheet) (signer : ℕ) (b : Body) : Type 0 where
  pub shown : shown_in (did pit p) ≡ Some b
  pub seal : Memᴰ (record { signer = signer; statement = proposes (body_key b) }) (relied_in (did pit p))

-- The leader of the view is faulty and sealed two bodies of that view: two consoles took up one each.
pub record Equivocates (pit : Pit) (sheet : Sheet) (view : ℕ) : Type 0 where
  pub faulty : T (not (pit.sound (leader pit.n view)))
  pub body : Body
  pub rival : Body
  pub body_view : body.view ≡ view
  pub rival_view : rival.view ≡ view
  pub unlike : body ≡ rival → ⊥
  pub one : Spot sheet
  pub other : Spot sheet
  pub elsewhere : one.line.console ≡ other.line.console → ⊥
  pub takes_body : TakesUp pit one (leader pit.n view) body
  pub takes_rival : TakesUp pit other (leader pit.n view) rival

-- The sheet of three views is sound, though the leader of view 3 equivocates, and at its end console 0 has handed over
-- two blocks, console 1 one.
pub record SoundShift : Type 0 where
  pub sound : SoundSheet pit three_views
  pub equivocates : Equivocates pit three_views 3
  pub ahead : chain pit 0 three_views ≡ first.body ∷ second.body ∷ []
  pub behind : chain pit 1 three_views ≡ first.body ∷ []

-- The stretch of view v is timely, and every sound console hands over this body in it, the one that v's leader proposed.
pub record TimelyView (pit : Pit) (sheet : Sheet) (v : ℕ) (b : Body) : Type 0 where
  pub stretch : Stretch sheet v
  pub timely : Timely pit v stretch
  pub block : timely.first.body ≡ b
  pub hands_over : (i : ℕ) → Sound pit i → HandsOver pit stretch i b

-- The sheet of five views is sound, and the stretches of view 1, at the beginning, and of view 4, after the torn view, are
-- timely.
pub record TimelyShift : Type 0 where
  pub sound : SoundSheet pit five_views
  pub fresh : TimelyView pit five_views 1 first.body
  pub recovers : TimelyView pit five_views 4 fourth.body
