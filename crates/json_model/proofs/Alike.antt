-- Two readings side by side, each of which keeps something of its own. They end alike where both are refused with the
-- same number and place, or both give the same answer, and what they have kept is related: in one way at a refusal, and
-- in another else.
use mathlib.Core.Path.{◌≡◌, refl}
use mathlib.Core.Bool.{Bool, true, false}
use Prim.Native.Nat.{ℕ}
use lib.Dec.{T}
use Rattle.json_model.specs.Reading.{Outcome, halt, done, Reading, Asked, follow, ◌>>=◌, need, verdict_of}
use Rattle.json_model.proofs.Reading.{carry}

module _ {S Z : Type 0} (H : S → Z → Type 0) where
  abbrev pub Alike : {A : Type 0} → (S → Z → Type 0) → Outcome S A → Outcome Z A → Type 0
  Alike F (halt n p s) (halt m q z) = (n ≡ m) × (p ≡ q) × H s z
  Alike F (halt n p s) (done b z) = ⊥
  Alike F (done a s) (halt m q z) = ⊥
  Alike F (done a s) (done b z) = (a ≡ b) × F s z

  -- from what is related by F to what is related by G
  abbrev pub Sim : {A : Type 0} → (S → Z → Type 0) → (S → Z → Type 0) → Reading S A → Reading Z A → Type 0
  Sim F G m n = (s : S) (z : Z) → F s z → Alike G (m s) (n z)

  sim_follow : {A B : Type 0} (F G : S → Z → Type 0) (r : Outcome S A) (q : Outcome Z A) (f : A → Reading S B) (g : A → Reading Z B) → Alike F r q
      → ((a : A) → Sim F G (f a) (g a)) → Alike G (follow r f) (follow q g)
  unfolding follow
  sim_follow F G (halt n p s) (halt m o z) f g h k = h
  sim_follow F G (halt n p s) (done b z) f g h k = absurd h
  sim_follow F G (done a s) (halt m o z) f g h k = absurd h
  sim_follow F G (done a s) (done b z) f g h k = rw h.0 (k b s z h.1)

  pub sim_then : {A B : Type 0} (E F G : S → Z → Type 0) (m : Reading S A) (n : Reading Z A) (f : A → Reading S B) (g : A → Reading Z B) → Sim E F m n
      → ((a : A) → Sim F G (f a) (g a)) → Sim E G (m >>= f) (n >>= g)
  unfolding ◌>>=◌
  sim_then E F G m n f g h k s z r = sim_follow F G (m s) (n z) f g (h s z r) k

  pub sim_carry : {A : Type 0} (F : S → Z → Type 0) (q : Asked A) (s : S) (z : Z) → H s z → F s z → Alike F (carry s q) (carry z q)
  sim_carry F (halt n p u) s z h r = (refl, refl, h)
  sim_carry F (done a u) s z h r = (refl, r)

  -- a test that is the same on both sides, and what is known after it
  pub sim_test : {B : Type 0} (G : S → Z → Type 0) (b c : Bool) (n p : ℕ) (f : Unit {0} → Reading S B) (g : Unit {0} → Reading Z B) (s : S) (z : Z) → b ≡ c → H s z
      → (T b → Alike G (f tt s) (g tt z)) → Alike G ((need b n p >>= f) s) ((need c n p >>= g) z)
  unfolding ◌>>=◌ follow need
  sim_test G true c n p f g s z e r k = rw (← e) (k tt)
  sim_test G false c n p f g s z e r k = rw (← e) (refl, refl, r)

  -- a test at the end, whose place may hang on what is kept
  pub sim_need : (F : S → Z → Type 0) (b c : Bool) (n p q : ℕ) (s : S) (z : Z) → b ≡ c → p ≡ q → H s z → F s z → Alike F (need b n p s) (need c n q z)
  unfolding need
  sim_need F true c n p q s z e f h r = rw (← e) (refl, r)
  sim_need F false c n p q s z e f h r = rw (← e) (refl, f, h)

  -- then they say the same
  pub alike_verdict : {A : Type 0} (F : S → Z → Type 0) (r : Outcome S A) (q : Outcome Z A) → Alike F r q → verdict_of r ≡ verdict_of q
  alike_verdict F (halt n p s) (halt m o z) h = rw (h.0, h.1)
  alike_verdict F (halt n p s) (done b z) h = absurd h
  alike_verdict F (done a s) (halt m o z) h = absurd h
  alike_verdict F (done a s) (done b z) h = rw h.0
